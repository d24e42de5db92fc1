-- Arrays in objects, and the fields of a rule, by the bytes of the object: each is a row of the table, and its member's bytes hold it.
use mathlib.Core.Bool.{Bool, true}
use mathlib.Core.List.{List, [], ◌∷◌}
use mathlib.Core.Path.{◌≡◌, refl, ap, ◌∙◌}
use Prim.Native.Nat.{ℕ}
use native.Mathlib.Omega.{arith}
use lib.ListN.{length}
use Rattle.limits.specs.Ceilings as ceiling
use Rattle.notation.specs.Ascii.{bytes}
use Rattle.lexeme.specs.Character.{within}
use Rattle.lexeme.specs.Numbers.{digit}
use Rattle.lexeme.specs.inner.Start.{start}
use Rattle.json_text.specs.Tree.{Json}
use Rattle.walk.specs.Part.{Whole}
use Rattle.walk.specs.inner.Kind.{kind_at}
use Rattle.walk.proofs.Wholes.{whole-some}
use Rattle.schema.specs.Shape as shape
use Rattle.schema.specs.Shape.{Shape, Rows, Sort, Numbering}
use Rattle.schema.specs.Table23 as table
use Rattle.schema.specs.Pick.{Picked, pick, elements}
use Rattle.rings.specs.inner.Parts.{Listing}
use Rattle.document.specs.inner.Items.{picked_items}
use Rattle.document.specs.Document.{along, elements_of, field, field_items, text_in}
use Rattle.document.proofs.Rows.{Lists}
use Rattle.document.specs.inner.Values.{member_of, text_by, array_by, is_id}
use Rattle.document.proofs.Values.{Holds, member-holds, holds_text, holds-items}
use Rattle.document.proofs.Arrays.{member-array}
use Rattle.document.proofs.FieldBytes.{field-spelled, field-truth, field-items, row_of, listed}
use Rattle.zone.specs.Zone.{integer, any_text, applies}
use Rattle.zone.specs.inner.Values.{id_shape, given_by, given_in}
use Rattle.zone.proofs.Combining.{same-given}
use Rattle.std.specs.Prelude.{Option, None, Some}

-- an array that is a member
pub member-listing : (p name : List ℕ) → Listing (array_by (member_of p name))
member-listing p name = record { whole = member-array p name }

-- of no bytes there is no member, and so no item
pub nothing_in : (σ : Shape) (name : List ℕ) → picked_items σ (array_by (member_of [] name)) ≡ []
unfolding member_of kind_at start digit within
nothing_in σ name = holds-items shape.subs 0 σ [] None refl

module _ {f : ℕ} {name : List ℕ} {ν : Numbering} {most : ℕ} {σ : Shape} {rows : Rows} (l : Lists f name (shape.array ν most σ) rows) where
  pub parts-field : {p : List ℕ} {x : Json} → Whole p x → picked_items σ (array_by (member_of p name)) ≡ field_items f (pick (shape.object rows) x)
  parts-field w = field-items l w

  -- an array in an object in another
  pub parts-inside : {g : ℕ} {outer : List ℕ} {around : Rows} → Lists g outer (shape.object rows) around → {p : List ℕ} {x : Json} → Whole p x
      → picked_items σ (array_by (member_of (member_of p outer) name)) ≡ elements_of (along (g ∷ f ∷ []) (pick (shape.object around) x))
  unfolding along field_items
  parts-inside {g} {outer} {around} k {p} {x} w = go (field g (pick (shape.object around) x)) (member-holds k p x w)
    where
      at-end : (o : Option Picked) → elements_of o ≡ elements_of (elim o [ None ↦ None | Some y ↦ Some y ])
      at-end None = refl
      at-end (Some y) = refl

      go : (o : Option Picked) → Holds (shape.object rows) (member_of p outer) o
          → picked_items σ (array_by (member_of (member_of p outer) name)) ≡ elements_of (elim o [ None ↦ None | Some y ↦ along (f ∷ []) y ])
      go None h = rw h (nothing_in σ name)
      go (Some y) h = parts-field h.1 ∙ ap (λ z. elements_of (field f z)) h.2 ∙ at-end (field f y)

-- a rule
module _ {p : List ℕ} {x : Json} (w : Whole p x) where
  pub rule-given : given_by p ≡ given_in (pick table.rule x)
  unfolding table.rule row_of given_by given_in
  rule-given =
      same-given refl (field-truth (listed refl) w) (field-truth (listed refl) w) (ap integer (field-spelled (listed refl) w))
      (field-truth (listed refl) w)

  module _ (type : List ℕ) where
    -- an id by its bytes
    pub id_text : is_id type (text_by p) ≡ is_id type (text_in (pick id_shape x))
    id_text = ap (is_id type) (holds_text Sort.id p (Some (pick id_shape x)) (x, w, refl))

    abbrev ids : List ℕ
    ids = member_of p (bytes "vehicle_type_id")

    abbrev choice : Option Picked → Bool
    choice o = elim o [ None ↦ true | Some y ↦ any_text (elements y) type ]

    abbrev Named : Option Picked → Type 0
    Named o = (length ids ≡ 0 → true ≡ choice o) × ((length ids ≡ 0 → ⊥) → any_text (picked_items id_shape (array_by ids)) type ≡ choice o)

    named : (ν : Numbering) (most : ℕ) (o : Option Picked) → Holds (shape.array ν most id_shape) ids o → Named o
    named ν most None h = (λ e. refl, λ n. absurd (n (ap length h)))
    named ν most (Some y) h = (
      λ e. let n = whole-some h.1 in absurd (omega arith),
      λ n. ap (λ l. any_text l type) (holds-items ν most id_shape ids (Some y) h),
    )

    rule-named : Named (field 78 (pick table.rule x))
    unfolding table.rule row_of
    rule-named = named shape.outer ceiling.items (field 78 (pick table.rule x)) (member-holds (listed refl) p x w)

    pub applies-all : length ids ≡ 0 → true ≡ applies (pick table.rule x) type
    unfolding applies
    applies-all = rule-named.0

    pub applies-named : (length ids ≡ 0 → ⊥) → any_text (picked_items id_shape (array_by ids)) type ≡ applies (pick table.rule x) type
    unfolding applies
    applies-named = rule-named.1
