-- What the fields of a record break, by the bytes of the record: each field is the member of its row's name.
use mathlib.Core.Bool.{Bool, true, false, not}
use mathlib.Core.List.{List, [], ◌∷◌, ◌++◌}
use mathlib.Core.Path.{◌≡◌, refl, sym, ap, ◌∙◌}
use Prim.Native.Nat.{ℕ, zero, suc, ◌+◌, ◌^◌, ◌<◌}
use native.Mathlib.Omega.{arith}
use lib.Dec.{eqb, ltb}
use lib.ListN.{length}
use borrow.Author.Tests.{eq-eqb, ne_eqb, lt-ltb}
use Rattle.limits.specs.Ceilings as ceiling
use Rattle.notation.specs.Ascii.{bytes}
use Rattle.notation.specs.Choice.{◌and◌}
use Rattle.lexeme.specs.Character.{within}
use Rattle.lexeme.specs.Numbers.{digit}
use Rattle.lexeme.specs.inner.Start.{start}
use Rattle.json_text.specs.Tree.{Json}
use Rattle.walk.specs.Part.{Whole}
use Rattle.walk.specs.inner.Kind.{kind_at}
use Rattle.decimal.specs.Decimals.{number_of}
use Rattle.decimal.proofs.Formed.{number-formed}
use Rattle.schema.specs.Shape as shape
use Rattle.schema.specs.Shape.{Shape, Rows, Sort, scalar}
use Rattle.schema.specs.Table23.{available, rule, zone}
use Rattle.schema.specs.Pick.{Picked, pick}
use Rattle.fault.specs.declared.Fault.{Fault}
use Rattle.fault.specs.Fault.{faulty}
use Rattle.document.specs.Document.{field, field_items, text, text_in, spelling}
use Rattle.document.proofs.Rows.{Lists}
use Rattle.document.specs.inner.Items.{picked_items}
use Rattle.document.specs.Values.{whole_of, integer_in}
use Rattle.document.specs.inner.Values.{member_of, spelled_by, text_by, array_by}
use Rattle.document.proofs.Values.{Holds, member-holds, holds_text, holds-items}
use Rattle.document.proofs.FieldBytes.{field-spelled, field-text, field-items, row_of, listed}
use Rattle.ids.specs.References.{kind_if, refers}
use Rattle.cross.specs.Cross.{Files, record_place, each_record, available_faults, id_faults, rule_faults, zone_faults, faults_of}
use Rattle.std.specs.Prelude.{Option, Some, None}
use Rattle.decimal.specs.declared.Decimal.{Decimal}

-- no bytes, no value
pub none-there : (n : ℕ) → eqb n 0 ≡ not (ltb 0 n)
none-there zero = refl
none-there (suc n) = ne_eqb (suc n) 0 (λ e. omega arith) ∙ sym (ap not (lt-ltb 0 (suc n) (omega arith)))

pub no_bytes : (q : List ℕ) → length q ≡ 0 → q ≡ []
no_bytes [] e = refl
no_bytes (b ∷ q) e = absurd (omega arith)

-- a count is small, whatever is read
number_small : (s : List ℕ) (n : Option Decimal) → number_of s ≡ n → whole_of n < 10 ^ 12
number_small s (Some d) e = (number-formed s d e).whole
number_small s None e = omega arith

spelled-small : (o : Option (List ℕ)) → integer_in o < 10 ^ 12
spelled-small None = omega arith
spelled-small (Some s) = number_small s (number_of s) refl

pub count_small : (q : List ℕ) → integer_in (spelled_by q) < 10 ^ 12
count_small q = spelled-small (spelled_by q)

-- a sum that is there and differs
pub sum-none : (n : ℕ) → n ≡ 0 → (differs : Bool) (kind : ℕ) → [] ≡ kind_if (ltb 0 n and differs) kind
sum-none n e differs kind = rw e

pub sum_same : (there : Bool) (a b kind : ℕ) → a ≡ b → [] ≡ kind_if (there and not (eqb a b)) kind
sum_same true a b kind e = rw (eq-eqb a b e)
sum_same false a b kind e = refl

pub sum-apart : (n a b kind : ℕ) → (n ≡ 0 → ⊥) → (a ≡ b → ⊥) → kind ∷ [] ≡ kind_if (ltb 0 n and not (eqb a b)) kind
sum-apart n a b kind h e = rw (lt-ltb 0 n (omega arith), ne_eqb a b e)

-- items of field 37, rules, and items of field 78
module _ {p : List ℕ} {x : Json} (w : Whole p x) where
  pub available-text : text_by (member_of p (bytes "vehicle_type_id")) ≡ text 38 (pick available x)
  unfolding available row_of
  available-text = field-text (listed refl) w

  pub available-count : spelled_by (member_of p (bytes "count")) ≡ spelling 39 (pick available x)
  unfolding available row_of
  available-count = field-spelled (listed refl) w

  pub rule-ids : picked_items (scalar Sort.id) (array_by (member_of p (bytes "vehicle_type_id"))) ≡ field_items 78 (pick rule x)
  unfolding rule row_of
  rule-ids = field-items (listed refl) w

  pub id_text : text_by p ≡ text_in (pick (scalar Sort.id) x)
  id_text = holds_text Sort.id p (Some (pick (scalar Sort.id) x)) (x, w, refl)

-- of no bytes there is no member, and so no item
nothing_in : (σ : Shape) (name : List ℕ) → picked_items σ (array_by (member_of [] name)) ≡ []
unfolding member_of kind_at start digit within
nothing_in σ name = holds-items shape.subs 0 σ [] None refl

-- bytes that hold something are whole
holds-whole : (σ : Shape) (q : List ℕ) (o : Option Picked) → Holds σ q o → (length q ≡ 0 → ⊥) → (x : Json) × Whole q x
holds-whole σ q None h k = absurd (k (ap length h))
holds-whole σ q (Some y) h k = (h.0, h.1)

pub properties-whole : {p : List ℕ} {x : Json} → Whole p x → (length (member_of p (bytes "properties")) ≡ 0 → ⊥) → (y : Json) × Whole (member_of p (bytes "properties")) y
unfolding zone row_of
properties-whole {p} {x} w = holds-whole _ _ (field 74 (pick zone x)) (member-holds (listed refl) p x w)

-- what an item breaks, and so the items one after another
module _ (types : List Picked) (n : ℕ) where
  abbrev pub available_item : ℕ → Picked → List Fault
  available_item sub x = faulty (record_place n sub) 38 (refers (text 38 x) 10 types)

  pub available-each : (sub : ℕ) (l : List Picked) → each_record available_item sub l ≡ available_faults types n sub l
  unfolding each_record available_faults
  available-each sub [] = refl
  available-each sub (x ∷ l) = ap (λ (z : List Fault). available_item sub x ++ z) (available-each (sub + 1) l)

  abbrev pub id_item : ℕ → ℕ → Picked → List Fault
  id_item sub k x = faulty (record_place n sub) 78 (refers (text_in x) 10 types)

  pub id_each : (sub k : ℕ) (l : List Picked) → each_record (id_item sub) k l ≡ id_faults types n sub l
  unfolding each_record id_faults
  id_each sub k [] = refl
  id_each sub k (x ∷ l) = ap (λ (z : List Fault). id_item sub k x ++ z) (id_each sub (k + 1) l)

  abbrev pub rule_item : ℕ → Picked → List Fault
  rule_item sub x = id_faults types n sub (field_items 78 x)

  pub rule-each : (sub : ℕ) (l : List Picked) → each_record rule_item sub l ≡ rule_faults types n sub l
  unfolding each_record rule_faults
  rule-each sub [] = refl
  rule-each sub (x ∷ l) = ap (λ (z : List Fault). rule_item sub x ++ z) (rule-each (sub + 1) l)

  -- the rules of a zone stand in its properties
  in_properties : {rows : Rows} → Lists 77 (bytes "rules") (shape.array shape.subs ceiling.rules rule) rows
      → (p : List ℕ) (o : Option Picked) → Holds (shape.object rows) p o
      → rule_faults types n 1 (picked_items rule (array_by (member_of p (bytes "rules"))))
      ≡ elim o [ None ↦ [] | Some y ↦ rule_faults types n 1 (field_items 77 y) ]
  unfolding rule_faults
  in_properties l p None h =
      ap (rule_faults types n 1) (ap (λ q. picked_items rule (array_by (member_of q (bytes "rules")))) h ∙ nothing_in rule (bytes "rules"))
  in_properties l p (Some y) h = ap (rule_faults types n 1) (field-items l h.1 ∙ ap (field_items 77) h.2)

  pub zone-rules : {p : List ℕ} {x : Json} → Whole p x
      → rule_faults types n 1 (picked_items rule (array_by (member_of (member_of p (bytes "properties")) (bytes "rules")))) ≡ zone_faults types n (pick zone x)
  unfolding zone_faults zone row_of
  zone-rules {p} {x} w = in_properties (listed refl) (member_of p (bytes "properties")) (field 74 (pick zone x)) (member-holds (listed refl) p x w)

  -- a zone without properties has no rules
  pub zone-bare : {p : List ℕ} {x : Json} → Whole p x → member_of p (bytes "properties") ≡ [] → zone_faults types n (pick zone x) ≡ []
  unfolding rule_faults
  zone-bare w e =
      sym (zone-rules w)
      ∙ ap (rule_faults types n 1) (ap (λ q. picked_items rule (array_by (member_of q (bytes "rules")))) e ∙ nothing_in rule (bytes "rules"))

-- records of files past 4, but for those of file 6, break nothing
pub breaks-nothing : (s : Files) (file n : ℕ) → 4 < file → (file ≡ 6 → ⊥) → (x : Picked) → faults_of s file n x ≡ []
unfolding faults_of
breaks-nothing s file n a b x =
    rw (
      faults_of,
      ne_eqb file 1 (λ e. omega arith),
      ne_eqb file 2 (λ e. omega arith),
      ne_eqb file 3 (λ e. omega arith),
      ne_eqb file 4 (λ e. omega arith),
      ne_eqb file 6 b,
    )
