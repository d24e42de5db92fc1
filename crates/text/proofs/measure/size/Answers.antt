-- A character has as many bytes as it says, and four at most.
use mathlib.Core.List.{[], ◌∷◌}
use mathlib.Core.Path.{sym, ◌∙◌}
use Rattle.std.proofs.lemmas.List.{length-take}
use Rattle.text.proofs.measure.size.Goals as goal

pub returns : goal.returns
returns c = let x = c.args.x in c.min.ensures ∙ sym (length-take x.len (x.b0 ∷ x.b1 ∷ x.b2 ∷ x.b3 ∷ []))
