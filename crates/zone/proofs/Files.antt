-- Of a clean file of zones: its zones are the items at the front of the rest, nothing is found in any of them, and so what their rules give is what the
-- file's give. An absent file has none.
use mathlib.Core.Bool.{true}
use mathlib.Core.List.{List, [], ◌∷◌, Memᴰ}
use mathlib.Core.Path.{◌≡◌, refl, sym, ap, subst, ◌∙◌}
use Prim.Native.Nat.{ℕ}
use native.Mathlib.Omega.{arith}
use lib.ListN.{length}
use Rattle.json_text.specs.Cases.{reading}
use Rattle.walk.proofs.Files.{passed}
use Rattle.schema.specs.Shape.{Shape, Table, file_shape}
use Rattle.schema.specs.Table23.{zone}
use Rattle.schema.specs.Tables.{table_at, sheet_shape, sheet_of}
use Rattle.schema.specs.Records.{way_in, record_in, record_shape, has_records, located}
use Rattle.schema.specs.Pick.{Picked, pick}
use Rattle.schema.proofs.SheetShapes.{at-tables, sheet_shape_lem}
use Rattle.geometry.specs.Ring.{Point}
use Rattle.document.specs.inner.Items.{picked_items}
use Rattle.document.specs.Document.{given, along, field}
use Rattle.document.specs.inner.Spans.{RecordsFrom}
use Rattle.document.proofs.Rests.{rest-along, rest-picked}
use Rattle.judge.specs.Faults.{faults}
use Rattle.clean.specs.Clean.{tree_of, records_of, records_in, clean_in, clean_of}
use Rattle.clean.proofs.Cleans.{Sound, clean-sound, clean-held}
use Rattle.clean.proofs.Repeated.{Held}
use Rattle.word.specs.declared.refusal.Refusal.TheVariants.{NoRule}
use Rattle.zone.specs.Zone.{rules_by, rules, applicable, zones_of, rules_at}
use Rattle.zone.specs.Answer.{answer, of_rules}
use Rattle.zone.specs.inner.Values.{all_given, ruling_by}
use Rattle.zone.specs.inner.Clean.{CleanZones}
use Rattle.zone.proofs.Combining.{given-answered}
use Rattle.fault.specs.Outcome.{unbroken}
use Rattle.std.specs.Prelude.{Err}

-- file 6 of every table has zones for its records
zone-shape : (table : ℕ) → record_in (file_shape (table_at table) 6) ≡ zone
unfolding located
zone-shape table = at-tables (λ (t : Table). record_in (file_shape t 6) ≡ zone) refl table

zones-there : (table : ℕ) → given (way_in (file_shape (table_at table) 6)) ≡ true
unfolding located
zones-there table = at-tables (λ (t : Table). given (way_in (file_shape t 6)) ≡ true) refl table

-- an absent one has none
no-zones : (table : ℕ) → zones_of (table_at table) [] ≡ []
unfolding reading tree_of located pick field along records_of
no-zones table = at-tables (λ (t : Table). zones_of t [] ≡ []) refl table

module _ (q : Point) (type : List ℕ) (moment : ℕ) where
  pub none-absent : (table : ℕ) (s : List ℕ) → length s ≡ 0 → answer (Err NoRule) ≡ of_rules (rules_at (table_at table) s q type moment)
  unfolding rules_at rules_by applicable
  none-absent table [] e = ap (λ (l : List Picked). of_rules (applicable (rules l q moment) type)) (sym (no-zones table))
  none-absent table (b ∷ s) e = absurd (omega arith)

-- the sheet of the file of zones
module _ (table : ℕ) {sheet : ℕ} (at : sheet ≡ sheet_of table 6) where
  zones-shape : sheet_shape sheet ≡ file_shape (table_at table) 6
  zones-shape = ap sheet_shape at ∙ sheet_shape_lem table 6

  record_zone : record_shape sheet ≡ zone
  record_zone = ap record_in zones-shape ∙ zone-shape table

  recorded : has_records sheet ≡ true
  recorded = ap (λ (σ : Shape). given (way_in σ)) zones-shape ∙ zones-there table

  -- clean by the sheet is clean by the table; such a file that is there is sound
  pub clean-by : (s : List ℕ) → clean_in (sheet_shape sheet) 6 s ≡ clean_of (table_at table) 6 s
  clean-by s = ap (λ (σ : Shape). clean_in σ 6 s) zones-shape

  pub zones-sound : (s : List ℕ) → (length s ≡ 0 → ⊥) → clean_of (table_at table) 6 s ≡ unbroken → Sound sheet s
  zones-sound s h c = clean-sound sheet 6 s h (clean-by s ∙ c)

  -- the file, and its rest p from the zones on
  module _ {s p : List ℕ} (k : Sound sheet s) (f : RecordsFrom sheet s p) where
    abbrev held : Held sheet s (tree_of s)
    held = clean-held sheet recorded s k

    zones-are : held.list ≡ picked_items zone p
    zones-are = rest-picked f k.reads held.there ∙ ap (λ (σ : Shape). picked_items σ p) record_zone

    pub zones-clean : CleanZones p
    zones-clean =
        record {
          short = omega (arith, f.inside, (passed s k.reads).short);
          along = rest-along f k.reads held.there;
          clear = λ x i.
              let h = held.sound x (subst (Memᴰ x) (sym zones-are) i) in
              record {
                place = h.0;
                field = held.field;
                clear = subst (λ (σ : Shape). faults σ h.0 held.field x ≡ []) record_zone h.1;
              };
        }

    pub file-answer : (q : Point) (type : List ℕ) (moment : ℕ)
        → answer (ruling_by (all_given (applicable (rules (picked_items zone p) q moment) type))) ≡ of_rules (rules_at (table_at table) s q type moment)
    unfolding rules_at
    file-answer q type moment =
        given-answered (applicable (rules (picked_items zone p) q moment) type)
        ∙ ap (λ l. of_rules (applicable (rules l q moment) type)) (sym (ap (λ (σ : Shape). records_in σ s) (sym zones-shape) ∙ held.are ∙ zones-are))
