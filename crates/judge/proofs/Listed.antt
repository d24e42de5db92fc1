-- Each file of table 2.3 is an object whose lines the judge can go by, and no other number has lines.
use mathlib.Core.Bool.{true, Bool, false}
use mathlib.Core.List.{List}
use mathlib.Core.Path.{◌≡◌, refl, sym, ap, subst, ◌∙◌}
use Prim.Native.Nat.{ℕ, ◌<◌}
use native.Mathlib.Omega.{arith}
use lib.Dec.{ltb}
use lib.ListN.{length, take}
use borrow.Author.Tests.{ltb-true}
use Rattle.notation.specs.Choice.{◌and◌}
use Rattle.json_text.specs.Tree.{Json}
use Rattle.text.specs.Text.{same}
use Rattle.walk.specs.Part.{Whole}
use Rattle.walk.specs.inner.Front.{Ends}
use Rattle.walk.proofs.Fronts.{whole-fronts, fronts-whole}
use Rattle.schema.specs.declared.Range.{Range}
use Rattle.schema.specs.Shape as shape
use Rattle.schema.specs.Shape.{Shape, Rows}
use Rattle.schema.specs.inner.Line.{inside, file_lines, laid_out}
use Rattle.schema.specs.Later.{listed_in}
use Rattle.schema.specs.Pick.{pick}
use Rattle.schema.specs.inner.Sound.{distinct_rows}
use Rattle.schema.specs.Tables.{sheets, written, sheet_shape}
use Rattle.schema.proofs.Computed.{every, every_file}
use Rattle.schema.proofs.Walk.{LaidIn, laid-object, file_lined, lines_in}
use Rattle.slots.specs.inner.Rows.{names_in}
use Rattle.fault.specs.Fault.{least, top}
use Rattle.notation.proofs.Booleans.{true-false, and_left, and_right}
use Rattle.judge.specs.Faults.{faults_by, faults, file_faults_by, file_faults}
use Rattle.judge.specs.inner.Judgeable.{arrays, plain, judgeable}
use Rattle.judge.specs.inner.Judged.{Object}
use Rattle.std.specs.Prelude.{Option, None}
use Rattle.fault.specs.declared.Fault.{Fault}

-- at most this many objects lie in one another
abbrev pub levels : ℕ
levels = 8

-- A file's shape is an object with lines, which the judge can go by; or nothing is listed. Computed over all files.
unfoldable judgeable_file : Shape → Bool
judgeable_file shape.unlisted = true
judgeable_file (shape.scalar sort) = false
judgeable_file (shape.array numbering most σ) = false
judgeable_file (shape.object rows) = ltb 0 (lines_in rows) and judgeable (shape.object rows) levels

file-laid : (file : ℕ) → judgeable_file (sheet_shape file) ≡ true
unfolding every judgeable_file written laid_out judgeable arrays plain distinct_rows listed_in names_in same
file-laid file = every_file judgeable_file sheets refl refl file

record WithLines (σ : Shape) : Type 0 where
  rows : Rows
  is : σ ≡ shape.object rows
  judgeable-rows : judgeable (shape.object rows) levels ≡ true

with_lines : (σ : Shape) → judgeable_file σ ≡ true → (length (inside σ) ≡ 0 → ⊥) → WithLines σ
unfolding judgeable_file inside
with_lines shape.unlisted e n = absurd (n refl)
with_lines (shape.scalar sort) e n = true-false e refl
with_lines (shape.array numbering most σ) e n = true-false e refl
with_lines (shape.object rows) e n = record { rows = rows; is = refl; judgeable-rows = and_right (ltb 0 (lines_in rows)) (judgeable (shape.object rows) levels) e }

without-lines : (σ : Shape) → judgeable_file σ ≡ true → length (inside σ) ≡ 0 → (x : Json) → None ≡ least (file_faults σ x)
unfolding judgeable_file inside file_faults_by faults_by least
without-lines shape.unlisted e n x = refl
without-lines (shape.scalar sort) e n x = true-false e refl
without-lines (shape.array numbering most σ) e n x = true-false e refl
without-lines (shape.object rows) e n x =
    let some : 0 < lines_in rows = ltb-true 0 (lines_in rows) (and_left (ltb 0 (lines_in rows)) (judgeable (shape.object rows) levels) e) in absurd (omega arith)

pub file-unlisted : (file : ℕ) → (file_lines sheets file).count ≡ 0 → (x : Json) → None ≡ least (file_faults (sheet_shape file) x)
file-unlisted file e x = without-lines (sheet_shape file) (file-laid file) (sym (file_lined sheets file).count ∙ e) x

pub file-listed : (p : List ℕ) (e : ℕ) {r : Option Fault} {lines : Range} (file : ℕ) → lines ≡ file_lines sheets file → (lines.count ≡ 0 → ⊥) → Ends p e →
    Object (take e p) lines.first lines.count 0 top levels r → (x : Json) → Whole p x → r ≡ least (file_faults (sheet_shape file) x)
unfolding file_faults_by inside
file-listed p e {r} file at n ends o x w =
    go (with_lines (sheet_shape file) (file-laid file) (λ z. n (ap (λ (l : Range). l.count) at ∙ (file_lined sheets file).count ∙ z)))
    (subst (λ (l : Range). Object (take e p) l.first l.count 0 top levels r) at o)
  where
    whole : Whole (take e p) x
    whole = let f = whole-fronts w in rw (ends.is x (length p) f) (fronts-whole f)

    go : WithLines (sheet_shape file) → Object (take e p) (file_lines sheets file).first (file_lines sheets file).count 0 top levels r →
        r ≡ least (file_faults (sheet_shape file) x)
    go k o' =
        let d = file_lined sheets file in
        o'.is k.rows (laid-object sheets (file_lines sheets file).first k.rows (subst (LaidIn sheets (file_lines sheets file).first) k.is d.laid))
        (sym (d.count ∙ ap (λ (σ : Shape). length (inside σ)) k.is)) k.judgeable-rows x whole
        ∙ ap (λ (σ : Shape). least (faults σ top 0 (pick σ x))) (sym k.is)
