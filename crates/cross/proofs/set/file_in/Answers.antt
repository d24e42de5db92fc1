-- The files stand from index 0 on, and their numbers go from 1 on.
use mathlib.Core.List.{[], ◌∷◌, map}
use mathlib.Core.Path.{◌≡◌, sym, ap, ◌∙◌}
use Prim.Native.Nat.{ℕ, suc, ◌-◌}
use native.Mathlib.Omega.{arith}
use lib.ListN.{get_or, get_or-map}
use Rattle.cross.proofs.set.file_in.Goals as goal

pub returns : goal.returns
returns c =
    let a = c.args in let z : suc (a.file - 1) ≡ a.file = omega arith in
    sym (get_or-map _ a.files (a.file - 1) _) ∙ ap (λ (k : ℕ). get_or ([] ∷ map (λ f. f.now) a.files) k []) z
