-- What stands before a fault of one character, where lone surrogates pass, can be completed: each fault has an ending of its own.
-- UTF-8 is completed by the least byte that fits and continuation bytes, an escape by zeros or a quote, and the string by its quote.
use mathlib.Core.Bool.{true}
use mathlib.Core.List.{List, [], ◌∷◌, ◌++◌}
use mathlib.Core.Path.{◌≡◌, refl, sym, ap, subst, ◌∙◌}
use Prim.Native.Nat.{ℕ, ◌+◌, ◌*◌}
use lib.ListN.{length, drop}
use lib.Seq.{get_or-drop, drop-append_seam}
use lib.Dec.{eqb}
use Rattle.notation.proofs.Booleans.{by_test}
use Rattle.word.specs.Kinds.{not_json}
use Rattle.lexeme.specs.declared.Next.{Next}
use Rattle.lexeme.specs.declared.Next.TheVariants.{Quote, Character, Fault}
use Rattle.lexeme.specs.Read.Read.{done}
use Rattle.lexeme.specs.Character.{byte, within, char1, char2, char3, char4, bytes_of, utf2, utf3, utf4, encoded, hex_value, hexadecimal, quad, trail, combined, alone, high, unit, unicode, short, escape, next}
use Rattle.lexeme.specs.inner.Lead.{Lead, lead, next_by}
use Rattle.lexeme.specs.Character.Surrogates.{lone}
use Rattle.lexeme.specs.inner.Lead.Lead.{plain, quote, backslash, wrong, two, three_e0, three, three_ed, four_f0, four, four_f4}
use Rattle.lexeme.specs.Strings.{string}
use Rattle.lexeme.proofs.Leads.{next-by, next_led}
use Rattle.lexeme.proofs.Steps.{made_reads, string-quote, string-character, string-skip}
use Rattle.lexeme.proofs.Rows.{front}
use Rattle.lexeme.proofs.Local.{Spans, encoded_spans}
use Rattle.lexeme.proofs.StrongPrefixes.{closes}
use Rattle.std.specs.Prelude.{Option, Some, None}

-- a text that is a string's rest, whole
pub record Whole (l : List ℕ) : Type 0 where
  pub text : List ℕ
  pub reads : string lone 0 l ≡ done text []

-- one character and the quote
whole : (b : ℕ) (q : List ℕ) (o : Next) → next lone (b ∷ (q ++ (0x22 ∷ []))) ≡ o → Spans (length q) o → Whole (b ∷ (q ++ (0x22 ∷ [])))
whole b q Quote e s = absurd s
whole b q (Fault k n) e s = absurd s
whole b q (Character x) e s =
    record {
      text = bytes_of x ++ [];
      reads =
          string-character lone b (q ++ (0x22 ∷ [])) e
          ∙ made_reads (λ y. bytes_of x ++ y)
          (string-skip lone x.more (q ++ (0x22 ∷ []))
          ∙ ap (λ n. string lone 0 (drop n (q ++ (0x22 ∷ [])))) s ∙ ap (string lone 0) (drop-append_seam q (0x22 ∷ []))
          ∙ string-quote lone 0x22 [] (closes lone []));
    }

-- a fault is of kind 2, and what stands before it begins a whole text
pub record Completion (k n : ℕ) (l : List ℕ) : Type 0 where
  pub kind : k ≡ not_json
  pub ending : List ℕ
  pub completed : Whole (front n 0 l ++ ending)

abbrev pub Completes : List ℕ → Next → Type 0
Completes l Quote = Unit {0}
Completes l (Character x) = Unit {0}
Completes l (Fault k n) = Completion k n l

completion : (n : ℕ) (l z : List ℕ) → Whole (front n 0 l ++ z) → Completion not_json n l
completion n l z w = record { kind = refl; ending = z; completed = w }

-- UTF-8
continuation : within 0x80 0xbf 0x80 ≡ true
unfolding within
continuation = refl

module _ (l : List ℕ) (t : Lead) (led : lead (byte l 0) ≡ t) where
  utf2_completes : ((m : List ℕ) → next_by lone m t ≡ utf2 m) → Completes l (utf2 l)
  unfolding utf2 within
  utf2_completes is =
      by_test (within 0x80 0xbf (byte l 1)) (λ a. rw a tt)
      (λ a. rw a (completion 1 l (0x80 ∷ 0x22 ∷ [])
      (whole (byte l 0) (0x80 ∷ []) (char2 (byte l 0) 0x80 1) (next_led lone _ led ∙ is (byte l 0 ∷ 0x80 ∷ 0x22 ∷ [])) refl)))

  module _ (lo hi : ℕ) (fit : within lo hi lo ≡ true) where
    utf3_completes : ((m : List ℕ) → next_by lone m t ≡ utf3 lo hi m) → Completes l (utf3 lo hi l)
    unfolding utf3
    utf3_completes is =
        by_test (within lo hi (byte l 1))
        (λ a. by_test (within 0x80 0xbf (byte l 2)) (λ b. rw (a, b) tt)
        (λ b. rw (a, b) (completion 2 l (0x80 ∷ 0x22 ∷ [])
        (whole (byte l 0) (byte l 1 ∷ 0x80 ∷ []) (char3 (byte l 0) (byte l 1) 0x80 2)
        (next_led lone _ led ∙ is (byte l 0 ∷ byte l 1 ∷ 0x80 ∷ 0x22 ∷ []) ∙ rw (a, continuation)) refl))))
        (λ a. rw a (completion 1 l (lo ∷ 0x80 ∷ 0x22 ∷ [])
        (whole (byte l 0) (lo ∷ 0x80 ∷ []) (char3 (byte l 0) lo 0x80 2)
        (next_led lone _ led ∙ is (byte l 0 ∷ lo ∷ 0x80 ∷ 0x22 ∷ []) ∙ rw (fit, continuation)) refl)))

    utf4_completes : ((m : List ℕ) → next_by lone m t ≡ utf4 lo hi m) → Completes l (utf4 lo hi l)
    unfolding utf4
    utf4_completes is =
        by_test (within lo hi (byte l 1))
        (λ a. by_test (within 0x80 0xbf (byte l 2))
        (λ b. by_test (within 0x80 0xbf (byte l 3)) (λ c. rw (a, b, c) tt)
        (λ c. rw (a, b, c) (completion 3 l (0x80 ∷ 0x22 ∷ [])
        (whole (byte l 0) (byte l 1 ∷ byte l 2 ∷ 0x80 ∷ []) (char4 (byte l 0) (byte l 1) (byte l 2) 0x80 3)
        (next_led lone _ led ∙ is (byte l 0 ∷ byte l 1 ∷ byte l 2 ∷ 0x80 ∷ 0x22 ∷ []) ∙ rw (a, b, continuation)) refl))))
        (λ b. rw (a, b) (completion 2 l (0x80 ∷ 0x80 ∷ 0x22 ∷ [])
        (whole (byte l 0) (byte l 1 ∷ 0x80 ∷ 0x80 ∷ []) (char4 (byte l 0) (byte l 1) 0x80 0x80 3)
        (next_led lone _ led ∙ is (byte l 0 ∷ byte l 1 ∷ 0x80 ∷ 0x80 ∷ 0x22 ∷ []) ∙ rw (a, continuation)) refl))))
        (λ a. rw a (completion 1 l (lo ∷ 0x80 ∷ 0x80 ∷ 0x22 ∷ [])
        (whole (byte l 0) (lo ∷ 0x80 ∷ 0x80 ∷ []) (char4 (byte l 0) lo 0x80 0x80 3)
        (next_led lone _ led ∙ is (byte l 0 ∷ lo ∷ 0x80 ∷ 0x80 ∷ 0x22 ∷ []) ∙ rw (fit, continuation)) refl)))

-- escapes; a lone one takes six bytes, whatever its value
unit-alone : (m : List ℕ) (v : ℕ) → trail (drop 6 m) ≡ None → unit lone m v ≡ encoded v 5
unfolding unit high alone
unit-alone m v e =
    by_test (within 0xdc00 0xdfff v) (λ a. rw a) λ a.
    by_test (within 0xd800 0xdbff v) (λ b. rw (a, b, e)) (λ b. rw (a, b))

encoded_completes : (l : List ℕ) (v t : ℕ) → Completes l (encoded v t)
encoded_completes l v t = go (encoded v t) (encoded_spans v t)
  where
    go : (o : Next) → Spans t o → Completes l o
    go Quote s = tt
    go (Character x) s = tt
    go (Fault k n) s = absurd s

high_completes : (l : List ℕ) (v : ℕ) (t : Option ℕ) → Completes l (high lone v t)
unfolding high alone
high_completes l v None = encoded_completes l v 5
high_completes l v (Some w) = encoded_completes l (combined v w) 11

unit_completes : (l : List ℕ) (v : ℕ) → Completes l (unit lone l v)
unfolding unit alone
unit_completes l v =
    by_test (within 0xdc00 0xdfff v) (λ a. rw a (encoded_completes l v 5)) λ a.
    by_test (within 0xd800 0xdbff v) (λ b. rw (a, b) (high_completes l v (trail (drop 6 l)))) (λ b. rw (a, b) (encoded_completes l v 5))

-- an escape of four digits, and the quote
quad-whole : (b u h0 h1 h2 h3 : ℕ) → lead b ≡ backslash → eqb u 0x75 ≡ true → hexadecimal h0 ≡ true → hexadecimal h1 ≡ true
    → hexadecimal h2 ≡ true → hexadecimal h3 ≡ true → Whole (b ∷ u ∷ h0 ∷ h1 ∷ h2 ∷ h3 ∷ 0x22 ∷ [])
unfolding next_by escape unicode quad
quad-whole b u h0 h1 h2 h3 e f a0 a1 a2 a3 =
    let v = hex_value h0 * 4096 + hex_value h1 * 256 + hex_value h2 * 16 + hex_value h3 in
    whole b (u ∷ h0 ∷ h1 ∷ h2 ∷ h3 ∷ []) (encoded v 5)
    (next_led lone _ e ∙ rw (f, a0, a1, a2, a3) (unit-alone _ v (unfold trail in refl))) (encoded_spans v 5)

zero-digit : hexadecimal 0x30 ≡ true
unfolding hexadecimal hex_value within
zero-digit = refl

unicode_completes : (l : List ℕ) → lead (byte l 0) ≡ backslash → eqb (byte l 1) 0x75 ≡ true → Completes l (unicode lone l (quad (drop 2 l)))
unfolding unicode quad
unicode_completes l e u =
    let there : (i : ℕ) → hexadecimal (byte (drop 2 l) i) ≡ true → hexadecimal (byte l (2 + i)) ≡ true = λ i a. ap hexadecimal (sym (get_or-drop 2 l i 0)) ∙ a in
    let filled = quad-whole (byte l 0) (byte l 1) in
    by_test (hexadecimal (byte (drop 2 l) 0))
    (λ a. by_test (hexadecimal (byte (drop 2 l) 1))
    (λ b. by_test (hexadecimal (byte (drop 2 l) 2))
    (λ c. by_test (hexadecimal (byte (drop 2 l) 3))
    (λ d. rw (a, b, c, d) (unit_completes l _))
    (λ d. rw (a, b, c, d) (completion 5 l (0x30 ∷ 0x22 ∷ [])
    (filled (byte l 2) (byte l 3) (byte l 4) 0x30 e u (there 0 a) (there 1 b) (there 2 c) zero-digit))))
    (λ c. rw (a, b, c) (completion 4 l (0x30 ∷ 0x30 ∷ 0x22 ∷ []) (filled (byte l 2) (byte l 3) 0x30 0x30 e u (there 0 a) (there 1 b) zero-digit zero-digit))))
    (λ b. rw (a, b) (completion 3 l (0x30 ∷ 0x30 ∷ 0x30 ∷ 0x22 ∷ []) (filled (byte l 2) 0x30 0x30 0x30 e u (there 0 a) zero-digit zero-digit zero-digit))))
    (λ a. rw a (completion 2 l (0x30 ∷ 0x30 ∷ 0x30 ∷ 0x30 ∷ 0x22 ∷ []) (filled 0x30 0x30 0x30 0x30 e u zero-digit zero-digit zero-digit zero-digit)))

escape_completes : (l : List ℕ) → lead (byte l 0) ≡ backslash → Completes l (escape lone l)
unfolding escape next_by short
escape_completes l e =
    by_test (eqb (byte l 1) 0x75) (λ a. rw a (unicode_completes l e a)) λ a.
    by_test (eqb (short (byte l 1)) 0)
    (λ b. rw (a, b) (completion 1 l (0x22 ∷ 0x22 ∷ []) (whole (byte l 0) (0x22 ∷ []) (char1 0x22 1) (next_led lone _ e) refl)))
    (λ b. rw (a, b) tt)

pub next_completes : (l : List ℕ) → Completes l (next lone l)
unfolding next_by within
next_completes l = subst (Completes l) (sym (next-by lone l)) (go (lead (byte l 0)) refl)
  where
    go : (t : Lead) → lead (byte l 0) ≡ t → Completes l (next_by lone l t)
    go plain e = tt
    go quote e = tt
    go backslash e = escape_completes l e
    go wrong e = completion 0 l (0x22 ∷ []) (record { text = []; reads = string-quote lone 0x22 [] (closes lone []) })
    go two e = utf2_completes l two e (λ m. refl)
    go three_e0 e = utf3_completes l three_e0 e 0xa0 0xbf refl (λ m. refl)
    go three e = utf3_completes l three e 0x80 0xbf refl (λ m. refl)
    go three_ed e = utf3_completes l three_ed e 0x80 0x9f refl (λ m. refl)
    go four_f0 e = utf4_completes l four_f0 e 0x90 0xbf refl (λ m. refl)
    go four e = utf4_completes l four e 0x80 0xbf refl (λ m. refl)
    go four_f4 e = utf4_completes l four_f4 e 0x80 0x8f refl (λ m. refl)
