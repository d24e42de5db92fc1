-- The ways through reading a value by its bytes: of the kind that is asked for, or of another.
use mathlib.Core.List.{List, []}
use mathlib.Core.Bool.{Bool, true, false, not}
use mathlib.Core.Path.{◌≡◌, refl, sym, ap, ◌∙◌}
use Prim.Native.Nat.{ℕ, ◌-◌, ◌<◌}
use native.Mathlib.Omega.{arith}
use lib.ListN.{length, take, drop}
use lib.Dec.{eqb}
use denote.Enum.Declared.{tag_of}
use borrow.Author.Tests.{eq-eqb, ne_eqb, eqb-true, eqb-false, not-true, not-false}
use Rattle.walk.specs.contracts.ValueKind.{the_type}
use Rattle.walk.specs.declared.ValueKind.{ValueKind}
use Rattle.walk.specs.declared.ValueKind.TheVariants as kind
use Rattle.text.specs.Text.{text_of}
use Rattle.walk.specs.Walk.{part}
use Rattle.walk.specs.Part.{inside}
use Rattle.walk.specs.inner.Kind.{kind_at}
use Rattle.slots.specs.declared.Found.{Found}
use Rattle.slots.specs.declared.Found.TheVariants.{Missing, Once, Twice}
use Rattle.slots.specs.Found.{found_in}
use Rattle.slots.proofs.Finds.{found-value}
use Rattle.document.specs.inner.Values.{kind_code, found_bytes, FoundWhole, member_of, spelled_by, text_by, array_by}
use Rattle.std.specs.Prelude.{None, Some}

-- what is found stands there whole
pub found-standing : (p name : List ℕ) (o : Found) → o ≡ found_in p name → FoundWhole p o
found-standing p name Missing e = tt
found-standing p name (Once from upto) e = (found-value p name from upto (sym e)).whole
found-standing p name Twice e = tt

-- the test of a kind in the code is that of its number
tag_code : (k : ValueKind) → tag_of the_type k ≡ kind_code k
tag_code kind.Null = refl
tag_code kind.Boolean = refl
tag_code kind.Number = refl
tag_code kind.String = refl
tag_code kind.Array = refl
tag_code kind.Object = refl

pub kind_tag : {k : ValueKind} (q : List ℕ) → k ≡ kind_at q → tag_of the_type k ≡ kind_code (kind_at q)
kind_tag {k} q e = tag_code k ∙ ap kind_code e

module _ {n m : ℕ} {r : Bool} (e : r ≡ not (eqb n m)) where
  pub is_other : r ≡ true → n ≡ m → ⊥
  is_other t = eqb-false n m (not-true (eqb n m) (sym e ∙ t))

  pub is_same : r ≡ false → n ≡ m
  is_same t = eqb-true n m (not-false (eqb n m) (sym e ∙ t))

-- a member, of an object and of what is none
module _ (p name : List ℕ) (n : ℕ) (e : n ≡ kind_code (kind_at p)) where
  pub member-none : (n ≡ 5 → ⊥) → [] ≡ member_of p name
  unfolding member_of
  member-none h = rw (← e, ne_eqb n 5 h)

  pub member-found : n ≡ 5 → (o : Found) → o ≡ found_in p name → found_bytes p o ≡ member_of p name
  unfolding member_of
  member-found h o f = rw (← e, eq-eqb n 5 h, f)

-- by the kind of q
module _ (q : List ℕ) (n : ℕ) (e : n ≡ kind_code (kind_at q)) where
  pub spelled_none : (n ≡ 2 → ⊥) → spelled_by q ≡ None
  unfolding spelled_by
  spelled_none h = rw (← e, ne_eqb n 2 h)

  pub spelled-some : n ≡ 2 → spelled_by q ≡ Some q
  unfolding spelled_by
  spelled-some h = rw (← e, eq-eqb n 2 h)

  pub text-none : (n ≡ 3 → ⊥) → text_by q ≡ None
  unfolding text_by
  text-none h = rw (← e, ne_eqb n 3 h)

  pub text-some : n ≡ 3 → text_by q ≡ Some (text_of (inside q))
  unfolding text_by
  text-some h = rw (← e, eq-eqb n 3 h)

  pub array-none : (n ≡ 4 → ⊥) → [] ≡ array_by q
  unfolding array_by
  array-none h = rw (← e, ne_eqb n 4 h)

  pub array-some : n ≡ 4 → q ≡ array_by q
  unfolding array_by
  array-some h = rw (← e, eq-eqb n 4 h)

-- what stands between quotation marks
pub inside-none : (q : List ℕ) → length q < 2 → [] ≡ inside q
inside-none q h = let z : 0 ≡ length q - 2 = omega arith in ap (λ (n : ℕ). take n (drop 1 q)) z

pub inside-part : (q : List ℕ) → part q 1 (length q - 1) ≡ inside q
inside-part q = let z : length q - 1 - 1 ≡ length q - 2 = omega arith in ap (λ (n : ℕ). take n (drop 1 q)) z
