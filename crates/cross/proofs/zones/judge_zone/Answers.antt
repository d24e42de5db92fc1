-- `judge_zone` judges the rules that stand in the properties of a zone; without properties there is none.
use mathlib.Core.List.{List}
use mathlib.Core.Path.{◌≡◌, sym, ap, subst, ◌∙◌}
use Prim.Native.Nat.{ℕ, ◌<◌}
use native.Mathlib.Omega.{arith}
use lib.ListN.{length}
use Rattle.notation.specs.Ascii.{bytes}
use Rattle.json_text.specs.Tree as tree
use Rattle.json_text.specs.Tree.{Members, Json}
use Rattle.walk.specs.Part.{Whole}
use Rattle.walk.specs.inner.Along.{AlongItems}
use Rattle.schema.specs.Shape.{Shape}
use Rattle.schema.specs.Table23.{rule, zone}
use Rattle.schema.specs.Tables.{sheet_of}
use Rattle.schema.specs.Records.{record_shape}
use Rattle.schema.specs.Pick.{pick, Picked}
use Rattle.fault.specs.Fault.{least}
use Rattle.fault.proofs.Leasts.{none-least}
use Rattle.document.specs.inner.Items.{picked_items}
use Rattle.document.specs.inner.Values.{member_of, array_by}
use Rattle.cross.specs.Cross.{rule_faults, zone_faults}
use Rattle.document.proofs.Arrays.{member-along}
use Rattle.document.proofs.Sizes.{member-short, array-short}
use Rattle.cross.proofs.Tabled.{zone-shape}
use Rattle.cross.proofs.Fielded.{no_bytes, properties-whole, zone-rules, zone-bare}
use Rattle.cross.proofs.zones.judge_zone.Goals as goal

-- the rules are the array under their name, where the properties hold something
rules-are : {p properties found rules : List ℕ} {x : Json} → Whole p x → properties ≡ member_of p (bytes "properties") → (length properties ≡ 0 → ⊥)
    → ((y : Json) → Whole properties y → found ≡ member_of properties (bytes "rules")) → rules ≡ array_by found
    → rules ≡ array_by (member_of (member_of p (bytes "properties")) (bytes "rules"))
rules-are w e h f i =
    let (y, v) = properties-whole w (λ z. h (ap length e ∙ z)) in
    i ∙ ap array_by (f y (subst (λ (q : List ℕ). Whole q y) (sym e) v) ∙ ap (λ q. member_of q (bytes "rules")) e)

pub judge_rules-requires : goal.judge_rules-requires
judge_rules-requires c =
    let x = c.requires in let p = c.args.p.now in
    let inner = member_of p (bytes "properties") in let deep = member_of inner (bytes "rules") in
    let e = rules-are x.2 (c.member-properties.ensures _ x.2) c.if-properties-eq0.false c.member.ensures c.array_in-rules.ensures in (
      x.0,
      omega (arith, ap length e, x.1, array-short deep, member-short inner (bytes "rules"), member-short p (bytes "properties")),
      subst (λ (l : List ℕ). 0 < length l → AlongItems l 1) (sym e) (member-along _ _),
    )

-- a zone of the sheet
zone-is : (table n : ℕ) (types : List Picked) (ms : Members)
    → zone_faults types n (pick zone (tree.object ms)) ≡ zone_faults types n (pick (record_shape (sheet_of table 6)) (tree.object ms))
zone-is table n types ms = ap (λ (σ : Shape). zone_faults types n (pick σ (tree.object ms))) (sym (zone-shape table))

pub returns-then-properties-eq0 : goal.returns-then-properties-eq0
returns-then-properties-eq0 c ms w =
    let a = c.args in let types = picked_items (record_shape (sheet_of a.table 1)) a.types.now in
    sym
    (none-least _
    (sym (zone-is a.table a.n types ms)
    ∙ zone-bare types a.n w (sym (c.member-properties.ensures _ c.requires.2) ∙ no_bytes _ c.if-properties-eq0.true)))

pub returns : goal.returns
returns c ms w =
    let a = c.args in let types = picked_items (record_shape (sheet_of a.table 1)) a.types.now in let x = c.requires in
    let e = rules-are x.2 (c.member-properties.ensures _ x.2) c.if-properties-eq0.false c.member.ensures c.array_in-rules.ensures in
    c.judge_rules.ensures ∙ ap (λ q. least (rule_faults types a.n 1 (picked_items rule q))) e ∙ ap least (zone-rules types a.n w ∙ zone-is a.table a.n types ms)
