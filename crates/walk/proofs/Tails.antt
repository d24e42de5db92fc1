-- An object that has nothing but blanks behind it ends with the last byte that is no blank, for that is its closing bracket; and a text has one such place.
use mathlib.Core.Bool.{true, false}
use mathlib.Core.List.{List, [], ◌∷◌, ◌++◌, append_assoc}
use mathlib.Core.Path.{◌≡◌, refl, sym, ap, ◌∙◌}
use Prim.Native.Nat.{ℕ, zero, suc, ◌+◌, ◌-◌, ◌≤◌, ◌<◌}
use native.Mathlib.Omega.{arith}
use lib.Dec.{ltb}
use lib.ListN.{length, drop, get_or, length-append, length-drop, get_or-append}
use lib.Seq.{get_or-append_seam, get_or-drop}
use borrow.Author.Tests.{ltb-true, ltb-false}
use Rattle.limits.specs.Ceilings.{depth}
use Rattle.notation.proofs.Booleans.{by_test, true-false}
use Rattle.notation.proofs.Lists.{at_cons}
use Rattle.lexeme.specs.Read.Read.{done}
use Rattle.lexeme.specs.Character.{paired, byte, within}
use Rattle.lexeme.specs.Numbers.{digit, either}
use Rattle.lexeme.specs.Tokens.{blank, blanks}
use Rattle.lexeme.specs.inner.Start.{start}
use Rattle.lexeme.proofs.Steps.{blanks_pass, blanks_stop}
use Rattle.lexeme.proofs.Rests.{rest_at}
use Rattle.json_text.specs.Tree.{Json}
use Rattle.json_text.specs.Text.{value}
use Rattle.json_text.specs.Spelling.{Plain, Nested}
use Rattle.json_text.proofs.Local.{value_local}
use Rattle.json_text.proofs.Spellings.{value-spells}
use Rattle.walk.specs.declared.ValueKind.TheVariants as kind
use Rattle.walk.specs.Walk.{offset_of}
use Rattle.walk.specs.Part.{Whole, kind_of}
use Rattle.walk.specs.inner.Kind.{kind_from, kind_at}
use Rattle.walk.specs.inner.Tail.{Tail}
use Rattle.walk.proofs.Wholes.{whole-kind, whole-some}

-- blanks up to the end
only-blanks : (l : List ℕ) → blanks l ≡ [] → (k : ℕ) → k < length l → blank (get_or l k 0) ≡ true
only-blanks [] e k h = absurd (omega arith)
only-blanks (b ∷ l) e k h =
    by_test (blank b) (go (only-blanks l) k h)
    (λ t. let n = ap length (sym (blanks_stop b l t) ∙ e) in absurd (omega arith))
  where
    go : (blanks l ≡ [] → (j : ℕ) → j < length l → blank (get_or l j 0) ≡ true)
        → (j : ℕ) → j < length (b ∷ l) → blank b ≡ true → blank (get_or (b ∷ l) j 0) ≡ true
    go ih zero i t = t
    go ih (suc j) i t = ih (sym (blanks_pass b l t) ∙ e) j (omega arith)

-- past one such place there is none
not-past : {s : List ℕ} {r e : ℕ} → Tail s r → Tail s e → r < e → ⊥
not-past {s} {r} {e} a b h =
    let n : e - 1 - r < length (drop r s) = omega (arith, b.inside, length-drop r s) in
    let z : r + (e - 1 - r) ≡ e - 1 = omega arith in
    let t : blank (get_or s (e - 1) 0) ≡ true = ap (λ (k : ℕ). blank (get_or s k 0)) (sym z) ∙ ap blank (sym (get_or-drop r s (e - 1 - r) 0)) ∙ only-blanks (drop r s) a.empty (e - 1 - r) n in
    true-false t (b.solid (omega arith))

pub tail-once : {s : List ℕ} {r e : ℕ} → Tail s r → Tail s e → r ≡ e
tail-once {s} {r} {e} a b =
    by_test (ltb r e) (λ t. absurd (not-past a b (ltb-true r e t))) (λ t.
    by_test (ltb e r) (λ u. absurd (not-past b a (ltb-true e r u))) (λ u. omega (arith, ltb-false r e t, ltb-false e r u)))

-- looking for it from the end
module _ (s : List ℕ) (i : ℕ) (some : 0 < i) (inside : i ≤ length s) (empty : blanks (drop i s) ≡ []) where
  pub tail-here : blank (get_or s (i - 1) 0) ≡ false → Tail s i
  tail-here e = record { inside = inside; empty = empty; solid = λ h. e }

  pub tail-before : blank (get_or s (i - 1) 0) ≡ true → blanks (drop (i - 1) s) ≡ []
  tail-before e =
      let z : i - 1 + 1 ≡ i = omega arith in
      ap blanks (at_cons s (i - 1) (omega arith)) ∙ blanks_pass (get_or s (i - 1) 0) (drop (i - 1 + 1) s) e ∙ ap (λ (k : ℕ). blanks (drop k s)) z ∙ empty

-- an object is spelled up to its closing bracket
closes : {S : Json → List ℕ → Type 0} {x : Json} {s : List ℕ} → Nested S x s → kind_of x ≡ kind.Object → (w : List ℕ) × (s ≡ w ++ (0x7d ∷ []))
closes (Nested.plain Plain.null) e = absurd (let z : ◌≡◌ {A = ℕ} 0 1 = cc in omega arith)
closes (Nested.plain Plain.yes) e = absurd (let z : ◌≡◌ {A = ℕ} 0 1 = cc in omega arith)
closes (Nested.plain Plain.no) e = absurd (let z : ◌≡◌ {A = ℕ} 0 1 = cc in omega arith)
closes (Nested.plain (Plain.number k)) e = absurd (let z : ◌≡◌ {A = ℕ} 0 1 = cc in omega arith)
closes (Nested.plain (Plain.string k)) e = absurd (let z : ◌≡◌ {A = ℕ} 0 1 = cc in omega arith)
closes (Nested.array k) e = absurd (let z : ◌≡◌ {A = ℕ} 0 1 = cc in omega arith)
closes (Nested.object {s = u} k) e = (0x7b ∷ u, refl)

-- a value that begins with an opening brace, and what is read there
module _ (s : List ℕ) (at : ℕ) (x : Json) (t : List ℕ) (reads : value paired depth (drop at s) ≡ done x t) (brace : byte (drop at s) 0 ≡ 0x7b) where
  kind-there : (v : List ℕ) → drop at s ≡ v ++ t → kind_of x ≡ kind.Object
  unfolding kind_at start digit within
  kind-there v e =
      let w : Whole v x = record { reads = value_local paired depth x v t (ap (value paired depth) (sym e) ∙ reads) } in
      let b : get_or v 0 0 ≡ 0x7b = sym (get_or-append v t 0 0 (whole-some w)) ∙ ap (λ (l : List ℕ). get_or l 0 0) (sym e) ∙ brace in
      sym (whole-kind w) ∙ ap (λ (c : ℕ). kind_from (start c)) b

  pub object-tail : blanks t ≡ [] → Tail s (offset_of s t)
  unfolding blank either
  object-tail empty =
      let (v, e, k) = value-spells depth x (drop at s) t reads in
      let (w, f) = closes k (kind-there v e) in
      let l : drop at s ≡ w ++ (0x7d ∷ t) = e ∙ ap (λ (z : List ℕ). z ++ t) f ∙ append_assoc w (0x7d ∷ []) t in
      let n : length s - at ≡ length w + suc (length t) = sym (length-drop at s) ∙ ap length l ∙ length-append w (0x7d ∷ t) in
      let here : offset_of s t - 1 ≡ at + length w = omega (arith, n) in
      let last : get_or s (offset_of s t - 1) 0 ≡ 0x7d =
      ap (λ (k : ℕ). get_or s k 0) here ∙ sym (get_or-drop at s (length w) 0) ∙ ap (λ (z : List ℕ). get_or z (length w) 0) l ∙ get_or-append_seam w 0x7d t 0 in
      record {
        inside = omega arith;
        empty = ap blanks (rest_at s at v t e) ∙ empty;
        solid = λ h. ap blank last;
      }
