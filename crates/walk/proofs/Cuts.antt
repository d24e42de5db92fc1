-- Parts of a list: their lengths, and a part of a part is a part of the whole.
use mathlib.Core.List.{List, [], ◌∷◌}
use mathlib.Core.Path.{◌≡◌, sym, ap, ◌∙◌}
use Prim.Native.Nat.{ℕ, zero, suc, ◌+◌, ◌-◌, ◌≤◌}
use native.Mathlib.Omega.{arith}
use lib.ListN.{length, take, drop, length-take, length-drop}
use lib.Seq.{take_all, take-nil, take-take, drop-drop}
use Rattle.walk.specs.Walk.{part}

pub part-rest : (s : List ℕ) (from : ℕ) → part s from (length s) ≡ drop from s
part-rest s from = take_all (length s - from) (drop from s) (omega (arith, length-drop from s))

module _ (s : List ℕ) (from upto : ℕ) where
  pub part_length : length (part s from upto) ≤ upto - from
  part_length = omega (arith, length-take (upto - from) (drop from s))

  pub part-inside : upto ≤ length s → length (part s from upto) ≡ upto - from
  part-inside h = omega (arith, length-take (upto - from) (drop from s), length-drop from s)

drop-take : (a n : ℕ) (l : List ℕ) → drop a (take n l) ≡ take (n - a) (drop a l)
drop-take zero n l = let z : n ≡ n - 0 = omega arith in ap (λ (k : ℕ). take k l) z
drop-take (suc a) n [] = ap (drop (suc a)) (take-nil n) ∙ sym (take-nil (n - suc a))
drop-take (suc a) zero (b ∷ l) = let z : 0 ≡ zero - suc a = omega arith in ap (λ (k : ℕ). take k (drop a l)) z
drop-take (suc a) (suc n) (b ∷ l) = let z : n - a ≡ suc n - suc a = omega arith in drop-take a n l ∙ ap (λ (k : ℕ). take k (drop a l)) z

pub part-part : (s : List ℕ) (from upto a e : ℕ) → e ≤ upto - from → part (part s from upto) a e ≡ part s (from + a) (from + e)
part-part s from upto a e h =
    let i : e - a ≤ upto - from - a = omega arith in
    let z : e - a ≡ from + e - (from + a) = omega arith in
    ap (take (e - a)) (drop-take a (upto - from) (drop from s))
    ∙ take-take (e - a) (upto - from - a) (drop a (drop from s)) i
    ∙ ap (take (e - a)) (drop-drop a from s)
    ∙ ap (λ (k : ℕ). take k (drop (from + a) s)) z
