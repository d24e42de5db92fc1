-- A value by its bytes: the first one tells which definition judges it, and the rest is what that definition takes.
use mathlib.Core.List.{List, [], ◌∷◌}
use mathlib.Core.Path.{◌≡◌, ap, subst, ◌∙◌}
use Prim.Native.Nat.{ℕ, ◌≤◌}
use lib.ListN.{length}
use Rattle.word.specs.Kinds.{wrong_type}
use Rattle.json_text.specs.Tree.{Json, null, boolean, number, string, array, object}
use Rattle.text.specs.Text.{text_of}
use Rattle.schema.specs.Shape.{Sort}
use Rattle.walk.specs.declared.ValueKind.{ValueKind}
use Rattle.walk.specs.declared.ValueKind.TheVariants as kind
use Rattle.walk.specs.Part.{Whole, kind_of, inside}
use Rattle.walk.specs.inner.Kind.{kind_at}
use Rattle.walk.proofs.Wholes.{whole-kind, whole-number, whole-string, whole-quotes}
use Rattle.scalar.specs.Scalars.{kinds_of, number_kinds, text_kinds, boolean_kinds}

-- r is what the sort says of a value of that kind with the bytes p
abbrev pub Says : Sort → List ℕ → List ℕ → ValueKind → Type 0
Says σ p r kind.Null = wrong_type ∷ [] ≡ r
Says σ p r kind.Boolean = boolean_kinds σ ≡ r
Says σ p r kind.Number = number_kinds σ p ≡ r
Says σ p r kind.String = 2 ≤ length p → text_kinds σ (text_of (inside p)) ≡ r
Says σ p r kind.Array = wrong_type ∷ [] ≡ r
Says σ p r kind.Object = wrong_type ∷ [] ≡ r

says : (σ : Sort) (p r : List ℕ) (x : Json) → Whole p x → Says σ p r (kind_of x) → kinds_of σ x ≡ r
unfolding kinds_of
says σ p r null w h = h
says σ p r (boolean b) w h = h
says σ p r (number s) w h = ap (number_kinds σ) (whole-number w) ∙ h
says σ p r (string y) w h = ap (text_kinds σ) (whole-string w) ∙ h (whole-quotes w)
says σ p r (array is) w h = h
says σ p r (object ms) w h = h

pub by_kind : (σ : Sort) (p r : List ℕ) (x : Json) (k : ValueKind) → k ≡ kind_at p → Whole p x → Says σ p r k → kinds_of σ x ≡ r
by_kind σ p r x k e w h = says σ p r x w (subst (Says σ p r) (e ∙ whole-kind w) h)
