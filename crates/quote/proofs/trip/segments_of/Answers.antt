-- The segments of the array that stands under the name.
use mathlib.Core.List.{List}
use mathlib.Core.Path.{◌≡◌, sym, ap, subst, ◌∙◌}
use Prim.Native.Nat.{ℕ}
use Rattle.fare.specs.inner.Folds.{listed}
use Rattle.document.specs.inner.Values.{array_by}
use Rattle.quote.specs.inner.Values.{segments_by}
use Rattle.quote.specs.inner.Clear.{ClearSegments}
use Rattle.quote.proofs.trip.segments_of.Goals as goal

-- the bytes that are handed over
pub segments_in-requires : goal.segments_in-requires
segments_in-requires c = subst ClearSegments (sym (c.array_in.ensures ∙ ap array_by (c.member.ensures _ c.requires.0))) c.requires.1

pub returns : goal.returns
returns c =
    subst (λ (q : List ℕ). listed c.segments_in.result ≡ segments_by q) (c.array_in.ensures ∙ ap array_by (c.member.ensures _ c.requires.0)) c.segments_in.ensures
