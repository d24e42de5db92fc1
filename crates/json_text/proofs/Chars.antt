-- RFC 8259's strings and the reader of strings where lone surrogates pass: each character of the grammar is passed over, and what is taken as one
-- character is one of the grammar, or two where a high and a low surrogate escape are read as a pair.
use mathlib.Core.Bool.{true}
use mathlib.Core.List.{List, [], ◌∷◌, ◌++◌, append_assoc, append_cancel_right}
use mathlib.Core.Path.{◌≡◌, refl, sym, ap, ◌∙◌}
use Prim.Native.Nat.{ℕ, ◌+◌, ◌-◌, ◌*◌}
use native.Mathlib.Omega.{arith}
use lib.Dec.{eqb}
use lib.ListN.{drop}
use borrow.Author.Tests.{eqb-true, lt-ltb}
use Rattle.notation.proofs.Booleans.{by_test, true-false}
use Rattle.lexeme.specs.Read.{made}
use Rattle.lexeme.specs.Read.Read.{done}
use Rattle.lexeme.specs.Character.{lone, within, char1, char2, char3, char4, utf2, utf3, utf4, hex_value, hexadecimal, quad, alone, unit, unicode, short, escape, next}
use Rattle.lexeme.specs.inner.Lead.{Lead, lead, next_by}
use Rattle.lexeme.specs.inner.Lead.Lead.{three_e0, three, three_ed, four_f0, four, four_f4}
use Rattle.lexeme.specs.Numbers.{digit, either}
use Rattle.lexeme.specs.Strings.{string}
use Rattle.lexeme.proofs.Steps.{made-done, string-quote, string-skip}
use Rattle.lexeme.proofs.StrongPrefixes.{closes, string-spelled}
use Rattle.lexeme.proofs.Lone.{bare, character_passes, encoded_passes, high_passes}
use Rattle.json_text.specs.Grammar as Grammar
use Rattle.json_text.specs.Grammar.{tail, hex_digit, escapable, Chars}
use Rattle.json_text.proofs.Leads.{bounds, lead_plain, lead-two, lead-three, lead-four}
use Rattle.lexeme.proofs.Leads.{next_led}
use Rattle.std.specs.Prelude.{Ok}

-- UTF-8 of two, three and four bytes, by its ranges
two-next : (a b : ℕ) (q : List ℕ) → within 0x80 0xbf b ≡ true → utf2 (a ∷ b ∷ q) ≡ char2 a b 1
unfolding utf2
two-next a b q h = rw (h, utf2)

three-next : (lo hi a b c : ℕ) (q : List ℕ) → within lo hi b ≡ true → within 0x80 0xbf c ≡ true → utf3 lo hi (a ∷ b ∷ c ∷ q) ≡ char3 a b c 2
unfolding utf3
three-next lo hi a b c q h k = rw (h, k, utf3)

four-next : (lo hi a b c d : ℕ) (q : List ℕ) → within lo hi b ≡ true → within 0x80 0xbf c ≡ true → within 0x80 0xbf d ≡ true
    → utf4 lo hi (a ∷ b ∷ c ∷ d ∷ q) ≡ char4 a b c d 3
unfolding utf4
four-next lo hi a b c d q h k i = rw (h, k, i, utf4)

-- what stands at a first byte of a lead
at-lead : (a : ℕ) (q : List ℕ) {t : Lead} → lead a ≡ t → next lone (a ∷ q) ≡ next_by lone (a ∷ q) t
at-lead a q e = next_led lone (a ∷ q) e

-- a character is passed over
abbrev Passed : List ℕ → Type 0
Passed s = (q : List ℕ) → bare (string lone 0 (s ++ q)) ≡ bare (string lone 0 q)

skip : (k : ℕ) (m q : List ℕ) → drop k m ≡ q → bare (string lone k m) ≡ bare (string lone 0 q)
skip k m q e = ap bare (string-skip lone k m ∙ ap (string lone 0) e)

module _ (a b c : ℕ) where
  passed3 : (lo hi : ℕ) (t : Lead) → lead a ≡ t → ((l : List ℕ) → next_by lone l t ≡ utf3 lo hi l) → within lo hi b ≡ true → within 0x80 0xbf c ≡ true
      → Passed (a ∷ b ∷ c ∷ [])
  passed3 lo hi t e by h k q =
      character_passes a (b ∷ c ∷ q) _ (at-lead a _ e ∙ by _ ∙ three-next lo hi a b c q h k) ∙ skip 2 (b ∷ c ∷ q) q refl

  passed4 : (d lo hi : ℕ) (t : Lead) → lead a ≡ t → ((l : List ℕ) → next_by lone l t ≡ utf4 lo hi l) → within lo hi b ≡ true → within 0x80 0xbf c ≡ true
      → within 0x80 0xbf d ≡ true → Passed (a ∷ b ∷ c ∷ d ∷ [])
  passed4 d lo hi t e by h k i q =
      character_passes a (b ∷ c ∷ d ∷ q) _ (at-lead a _ e ∙ by _ ∙ four-next lo hi a b c d q h k i) ∙ skip 3 (b ∷ c ∷ d ∷ q) q refl

-- the digits of an escape
hex_yes : (b : ℕ) → hex_digit b ≡ true → hexadecimal b ≡ true
unfolding hex_digit hexadecimal hex_value digit
hex_yes b e =
    by_test (within 0x30 0x39 b)
    (λ h. let p = bounds 0x30 0x39 b h in rw (h, hexadecimal, hex_value) (lt-ltb (b - 0x30) 16 (omega arith)))
    (λ h. by_test (within 0x41 0x46 b)
    (λ k. let p = bounds 0x41 0x46 b k in rw (h, k, hexadecimal, hex_value) (lt-ltb (b - 0x37) 16 (omega arith)))
    (λ k. let i : within 0x61 0x66 b ≡ true = rw (h, k, hex_digit) at e in
    let p = bounds 0x61 0x66 b i in rw (h, k, i, hexadecimal, hex_value) (lt-ltb (b - 0x57) 16 (omega arith))))

pub hex_back : (b : ℕ) → hexadecimal b ≡ true → hex_digit b ≡ true
unfolding hex_digit hexadecimal hex_value digit
hex_back b e =
    by_test (within 0x30 0x39 b) (λ h. rw (h, hex_digit))
    (λ h. by_test (within 0x41 0x46 b) (λ k. rw (h, k, hex_digit))
    (λ k. by_test (within 0x61 0x66 b) (λ i. rw (h, k, i, hex_digit))
    (λ i. true-false e (rw (h, k, i, hexadecimal, hex_value)))))

abbrev worth : ℕ → ℕ → ℕ → ℕ → ℕ
worth a b c d = hex_value a * 4096 + hex_value b * 256 + hex_value c * 16 + hex_value d

pub quad-of : (a b c d : ℕ) (q : List ℕ) → hex_digit a ≡ true → hex_digit b ≡ true → hex_digit c ≡ true → hex_digit d ≡ true
    → quad (a ∷ b ∷ c ∷ d ∷ q) ≡ Ok (worth a b c d)
unfolding quad
quad-of a b c d q h i j k = rw (hex_yes a h, hex_yes b i, hex_yes c j, hex_yes d k, quad)

unicode-next : (a b c d : ℕ) (q : List ℕ) → hex_digit a ≡ true → hex_digit b ≡ true → hex_digit c ≡ true → hex_digit d ≡ true
    → next lone (0x5c ∷ 0x75 ∷ a ∷ b ∷ c ∷ d ∷ q) ≡ unit lone (0x5c ∷ 0x75 ∷ a ∷ b ∷ c ∷ d ∷ q) (worth a b c d)
unfolding next escape unicode
unicode-next a b c d q h i j k = rw (quad-of a b c d q h i j k)

unicode_passed : (a b c d : ℕ) → hex_digit a ≡ true → hex_digit b ≡ true → hex_digit c ≡ true → hex_digit d ≡ true → Passed (0x5c ∷ 0x75 ∷ a ∷ b ∷ c ∷ d ∷ [])
unfolding unit alone
unicode_passed a b c d h i j k q = go ∙ skip 5 (0x75 ∷ a ∷ b ∷ c ∷ d ∷ q) q refl
  where
    v : ℕ
    v = worth a b c d

    m : List ℕ
    m = 0x75 ∷ a ∷ b ∷ c ∷ d ∷ q

    e : next lone (0x5c ∷ m) ≡ unit lone (0x5c ∷ m) v
    e = unicode-next a b c d q h i j k

    go : bare (string lone 0 (0x5c ∷ m)) ≡ bare (string lone 5 m)
    go =
        by_test (within 0xdc00 0xdfff v)
        (λ t. encoded_passes 0x5c m v 5 (e ∙ rw (t, unit, alone)))
        (λ t. by_test (within 0xd800 0xdbff v)
        (λ u. high_passes 0x5c m v (e ∙ rw (t, u, unit)))
        (λ u. encoded_passes 0x5c m v 5 (e ∙ rw (t, u, unit))))

-- what holds of the eight bytes of short escapes
each-short : (P : ℕ → Type 0) → P 0x22 → P 0x5c → P 0x2f → P 0x62 → P 0x66 → P 0x6e → P 0x72 → P 0x74 → (b : ℕ) → escapable b ≡ true → P b
unfolding escapable either
each-short P p1 p2 p3 p4 p5 p6 p7 p8 b e =
    by_test (eqb b 0x22) (λ h. rw (eqb-true b 0x22 h) p1)
    (λ n1. by_test (eqb b 0x5c) (λ h. rw (eqb-true b 0x5c h) p2)
    (λ n2. by_test (eqb b 0x2f) (λ h. rw (eqb-true b 0x2f h) p3)
    (λ n3. by_test (eqb b 0x62) (λ h. rw (eqb-true b 0x62 h) p4)
    (λ n4. by_test (eqb b 0x66) (λ h. rw (eqb-true b 0x66 h) p5)
    (λ n5. by_test (eqb b 0x6e) (λ h. rw (eqb-true b 0x6e h) p6)
    (λ n6. by_test (eqb b 0x72) (λ h. rw (eqb-true b 0x72 h) p7)
    (λ n7. by_test (eqb b 0x74) (λ h. rw (eqb-true b 0x74 h) p8)
    (λ n8. true-false e (simp (n1, n2, n3, n4, n5, n6, n7, n8, escapable, either))))))))))

short-next : (q : List ℕ) (b : ℕ) → escapable b ≡ true → next lone (0x5c ∷ b ∷ q) ≡ char1 (short b) 1
unfolding next escape short
short-next q = each-short (λ b. next lone (0x5c ∷ b ∷ q) ≡ char1 (short b) 1) refl refl refl refl refl refl refl refl

pub char_passed : {s : List ℕ} → Grammar.Char s → Passed s
unfolding tail next_by lead
char_passed (Grammar.Char.utf1 {a} u) q = character_passes a q _ (at-lead a q (lead_plain a u))
char_passed (Grammar.Char.utf2 {a} {b} u t) q = character_passes a (b ∷ q) _ (at-lead a _ (lead-two a u) ∙ two-next a b q t) ∙ skip 1 (b ∷ q) q refl
char_passed (Grammar.Char.utf3_e0 {b} {c} u t) q = passed3 0xe0 b c 0xa0 0xbf three_e0 refl (λ l. refl) u t q
char_passed (Grammar.Char.utf3_e1 {a} {b} {c} h u t) q = let p = bounds 0xe1 0xec a h in passed3 a b c 0x80 0xbf three (lead-three a (omega arith) (omega arith) (λ z. omega arith)) (λ l. refl) u t q
char_passed (Grammar.Char.utf3_ed {b} {c} u t) q = passed3 0xed b c 0x80 0x9f three_ed refl (λ l. refl) u t q
char_passed (Grammar.Char.utf3_ee {a} {b} {c} h u t) q = let p = bounds 0xee 0xef a h in passed3 a b c 0x80 0xbf three (lead-three a (omega arith) (omega arith) (λ z. omega arith)) (λ l. refl) u t q
char_passed (Grammar.Char.utf4_f0 {b} {c} {d} u t v) q = passed4 0xf0 b c d 0x90 0xbf four_f0 refl (λ l. refl) u t v q
char_passed (Grammar.Char.utf4_f1 {a} {b} {c} {d} h u t v) q = passed4 a b c d 0x80 0xbf four (lead-four a h) (λ l. refl) u t v q
char_passed (Grammar.Char.utf4_f4 {b} {c} {d} u t v) q = passed4 0xf4 b c d 0x80 0x8f four_f4 refl (λ l. refl) u t v q
char_passed (Grammar.Char.short {b} h) q = character_passes 0x5c (b ∷ q) _ (short-next q b h) ∙ skip 1 (b ∷ q) q refl
char_passed (Grammar.Char.unicode {a} {b} {c} {d} h i j k) q = unicode_passed a b c d h i j k q

chars_passed : {s : List ℕ} → Chars s → (q : List ℕ) → bare (string lone 0 (s ++ (0x22 ∷ q))) ≡ done tt q
unfolding made
chars_passed Chars.end q = ap bare (string-quote lone 0x22 q (closes lone q))
chars_passed (Chars.then {s} {t} x k) q = ap (λ (m : List ℕ). bare (string lone 0 m)) (append_assoc s t (0x22 ∷ q)) ∙ char_passed x (t ++ (0x22 ∷ q)) ∙ chars_passed k q

-- so a string of the grammar is read to the same text before anything
pub chars_read : {s : List ℕ} → Chars s → (y : List ℕ) × ((q : List ℕ) → string lone 0 (s ++ (0x22 ∷ q)) ≡ done y q)
chars_read {s} k =
    let p = made-done (λ x. tt) (string lone 0 (s ++ (0x22 ∷ []))) tt [] (chars_passed k []) in
    let t = string-spelled lone 0 (s ++ (0x22 ∷ [])) p.0 [] p.1 in
    let same : t.part ≡ s = append_cancel_right t.part s (0x22 ∷ []) (sym t.splits) in
    (p.0, λ q. ap (λ (m : List ℕ). string lone 0 (m ++ (0x22 ∷ q))) (sym same) ∙ t.frame q)
