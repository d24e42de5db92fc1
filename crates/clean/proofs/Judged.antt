-- The steps of a file's judgement: whether it is there, stage A, its value, and what is shown of a clean one.
use mathlib.Core.Bool.{Bool, true, false}
use mathlib.Core.List.{List, [], ◌∷◌}
use mathlib.Core.Path.{◌≡◌, refl, sym, ap, subst, ◌∙◌}
use Prim.Native.Nat.{ℕ, ◌-◌, ◌≤◌, ◌<◌}
use native.Mathlib.Omega.{arith}
use lib.Dec.{leb, ltb, eqb}
use lib.ListN.{length}
use borrow.Author.Tests.{ltb-false, leb-true, le-leb}
use Rattle.limits.specs.Ceilings.{file_bytes, depth}
use Rattle.notation.specs.Choice.{◌⇒◌else◌}
use Rattle.notation.proofs.Booleans.{by_test}
use Rattle.lexeme.specs.Read.{Read, placed, wrong_at}
use Rattle.lexeme.specs.Read.Read.{done, bad}
use Rattle.lexeme.specs.Character.{paired}
use Rattle.word.specs.Kinds.{id_twice}
use Rattle.json_text.specs.Tree.{Json}
use Rattle.json_text.specs.Text.{text, syntax_by, syntax_of}
use Rattle.walk.specs.Walk.{part}
use Rattle.walk.specs.Part.{Whole}
use Rattle.walk.proofs.Files.{passed}
use Rattle.schema.specs.Shape.{Shape}
use Rattle.fault.specs.declared.Fault.{Fault}
use Rattle.fault.specs.Fault.{fault}
use Rattle.fault.specs.inner.Narrow.{Narrow}
use Rattle.fault.proofs.Outcomes.{never_broken}
use Rattle.fault.specs.Outcome.{file_count, Outcome, unbroken}
use Rattle.document.proofs.Along.{ends-same}
use Rattle.document.specs.Spans.{top_span, record_span, spanning}
use Rattle.document.proofs.Records.{top-is}
use Rattle.word.specs.declared.refusal.Refusal.TheVariants.{NoFile}
use Rattle.clean.specs.Clean.{tree_of, clean_by, clean_in, syntax_outcome}
use Rattle.clean.specs.inner.Blamed.{blamed}
use Rattle.clean.specs.inner.Judged.{judged}
use Rattle.clean.specs.Show.{answer, of_clean, of_span, shown_by}
use Rattle.clean.proofs.Repeated.{tree_is}
use Rattle.std.specs.Prelude.{Result, None, Some, Ok, Err}
use Rattle.lexeme.specs.declared.SyntaxError.{SyntaxError}

-- a file that is not there, and one that is
pub clean-absent : (σ : Shape) (file : ℕ) (s : List ℕ) → length s ≡ 0 → unbroken ≡ clean_in σ file s
unfolding clean_by
clean-absent σ file [] e = refl
clean-absent σ file (b ∷ s) e = absurd (omega arith)

pub clean-there : (σ : Shape) (file : ℕ) (s : List ℕ) → (length s ≡ 0 → ⊥) → judged σ file s (syntax_of s) ≡ clean_in σ file s
unfolding clean_by
clean-there σ file [] h = absurd (h refl)
clean-there σ file (b ∷ s) h = refl

-- where stage A tells nothing it passes the file
pub syntax_none : (file : ℕ) (x : Result (Unit {0}) SyntaxError) → syntax_outcome file x ≡ unbroken → x ≡ Ok tt
syntax_none file (Ok _) e = refl
syntax_none file (Err w) e = never_broken e

-- two faults that are the same have the same offset
same-offset : {j k m n : ℕ} → ◌≡◌ {A = Result (Unit {0}) SyntaxError} (wrong_at j m) (wrong_at k n) → m ≡ n
same-offset {j} {k} {m} {n} e =
    let i : ◌≡◌ {A = SyntaxError} (record { kind = j; offset = m }) (record { kind = k; offset = n }) = cc in ap (λ (z : SyntaxError). z.offset) i

-- stage A's offset fits the word
pub offset_fits : (s : List ℕ) (k o : ℕ) → syntax_of s ≡ wrong_at k o → o ≤ file_bytes
unfolding syntax_of syntax_by placed
offset_fits s k o e = by_test (ltb file_bytes (length s)) long read
  where
    long : ltb file_bytes (length s) ≡ true → o ≤ file_bytes
    long h = let p : ◌≡◌ {A = Result (Unit {0}) SyntaxError} (wrong_at _ 0) (wrong_at k o) = rw (h, syntax_of) at e in let z = same-offset p in omega arith

    go : (x : Read Json) → syntax_by (placed s x) ≡ wrong_at k o → length s ≤ file_bytes → o ≤ file_bytes
    go (done y r) i n = let z : ◌≡◌ {A = ℕ} 0 1 = cc in absurd (omega arith)
    go (bad j r) i n = let z : length s - length r ≡ o = same-offset i in omega arith

    read : ltb file_bytes (length s) ≡ false → o ≤ file_bytes
    read h = go (text paired depth s) (rw (h, syntax_of) at e) (ltb-false file_bytes (length s) h)

-- the value of a file that stage A passes
module _ (s : List ℕ) (e : syntax_of s ≡ Ok tt) where
  pub top-there : top_span s ≡ None → ⊥
  top-there h = let i = top-is s (passed s e) in let z : ◌≡◌ {A = ℕ} 0 1 = cc in omega arith

  pub file-short : length s ≤ file_bytes
  file-short = (passed s e).short

  module _ (from upto : ℕ) (h : top_span s ≡ Some (spanning from upto)) where
    pub top-whole : Whole (part s from upto) (tree_of s)
    top-whole =
        let t = passed s e in let i = top-is s t in
        let (a, b) = ends-same (sym i ∙ h) in
        rw (tree_is s t) (subst (λ (z : ℕ). Whole (part s from z) t.tree) b (subst (λ (z : ℕ). Whole (part s z t.end) t.tree) a t.whole))

-- a record that is blamed has a number of sixteen bits
pub blamed-narrow : (field n : ℕ) → n < 65_536 → Narrow (blamed field n)
blamed-narrow field n h f = go (eqb n 0)
  where
    go : (t : Bool) → (t ⇒ None else Some (fault n field 0 id_twice)) ≡ Some f → (f.«record» < 65_536) × (f.sub < 65_536)
    go true e = let z : ◌≡◌ {A = ℕ} 0 1 = cc in absurd (omega arith)
    go false e =
        let z : fault n field 0 id_twice ≡ f = cc in (omega (arith, h, ap (λ (g : Fault). g.«record») z), omega (arith, ap (λ (g : Fault). g.sub) z))

-- what is shown
module _ (σ : Shape) (f n : ℕ) (s : List ℕ) where
  pub shown-none : (1 ≤ f → f ≤ file_count → ⊥) → answer (Err NoFile) ≡ shown_by σ f n s
  unfolding shown_by
  shown-none h =
      by_test (leb 1 f)
      (λ t. by_test (leb f file_count) (λ u. absurd (h (leb-true 1 f t) (leb-true f file_count u))) (λ u. rw (shown_by, t, u)))
      (λ t. rw (shown_by, t))

  pub shown_of_lem : 1 ≤ f → f ≤ file_count → (x : Outcome) → x ≡ clean_in σ f s → of_clean x (of_span (record_span σ s n)) ≡ shown_by σ f n s
  unfolding shown_by
  shown_of_lem h i x e = rw (shown_by, le-leb 1 f h, le-leb f file_count i, e)
