-- A string at a place of the text, by what stands there: what is left decides the whole.
use mathlib.Core.List.{List, [], ◌∷◌, ◌++◌}
use mathlib.Core.Path.{◌≡◌, sym, ap, ◌∙◌}
use Prim.Native.Nat.{ℕ, ◌+◌, ◌≤◌, ◌<◌}
use native.Mathlib.Omega.{arith}
use lib.ListN.{length, drop, drop_of_length-le}
use lib.Seq.{drop-drop, drop-length}
use lib.Dec.{eqb}
use borrow.Author.Tests.{eqb-true}
use Rattle.notation.specs.Choice.{◌⇒◌else◌}
use Rattle.notation.proofs.Booleans.{by_test}
use Rattle.notation.proofs.Lists.{at_cons}
use Rattle.word.specs.Kinds.{not_json}
use Rattle.lexeme.specs.declared.Char.{Char}
use Rattle.lexeme.specs.declared.Next.{Next}
use Rattle.lexeme.specs.declared.Next.TheVariants.{Quote, Character, Fault}
use Rattle.lexeme.specs.Character.{Surrogates, byte, char1, escape, next, bytes_of}
use Rattle.lexeme.specs.inner.Lead.{Lead, lead, next_by}
use Rattle.lexeme.specs.inner.Class.{lead_of}
use Rattle.lexeme.specs.Read.{placed, wrong_at}
use Rattle.lexeme.specs.Read.Read.{bad}
use Rattle.lexeme.specs.Strings.{string}
use Rattle.lexeme.proofs.Steps.{string-quote, string-fault, string-character, string-skip}
use Rattle.lexeme.proofs.Placed.{ends_at, faults-at, placed-made}
use Rattle.lexeme.proofs.Rests.{first_byte}
use Rattle.character.specs.inner.Length.{taken}
use Rattle.character.proofs.Inside.{character-inside, fault-inside}
use Rattle.character.proofs.Leads.{class_plain}
use Rattle.lexeme.proofs.Leads.{next_led}
use Rattle.std.specs.Prelude.{Result, Ok, Some, None}
use Rattle.lexeme.specs.declared.SyntaxError.{SyntaxError}

module _ (ρ : Surrogates) where
  -- where the string that goes on at i ends in s
  abbrev pub end-from : List ℕ → ℕ → Result ℕ SyntaxError
  end-from s i = placed s (string ρ 0 (drop i s))

  -- a fault and a character at i lie within s; the fault ends the string, which goes on after the character
  pub record AtFault (s : List ℕ) (i k n : ℕ) : Type 0 where
    pub inside : i + n ≤ length s
    pub ends : wrong_at k (i + n) ≡ end-from s i

  pub record AtCharacter (s : List ℕ) (i : ℕ) (x : Char) : Type 0 where
    pub inside : i + x.more < length s
    pub ends : end-from s (i + 1 + x.more) ≡ end-from s i

  -- an escape of n bytes
  pub record AtEscape (s : List ℕ) (i n : ℕ) : Type 0 where
    pub some : 0 < n
    pub inside : i + n ≤ length s
    pub ends : end-from s (i + n) ≡ end-from s i

  pub at-end : (s : List ℕ) (i : ℕ) → length s ≤ i → wrong_at not_json (length s) ≡ end-from s i
  unfolding placed string
  at-end s i h = rw (drop_of_length-le s h) (ap (wrong_at not_json) (omega arith))

  pub past-end : (s : List ℕ) (i : ℕ) → length s ≤ i → end-from s (length s) ≡ end-from s i
  past-end s i h = ap (λ (l : List ℕ). placed s (string ρ 0 l)) (drop-length s ∙ sym (drop_of_length-le s h))

  module _ (s : List ℕ) (i : ℕ) (h : i < length s) where
    -- the text from i on: its first byte, and the text after it
    begins : drop i s ≡ byte s i ∷ drop (i + 1) s
    begins = at_cons s i h

    stands : {o : Next} → next ρ (drop i s) ≡ o → next ρ (byte s i ∷ drop (i + 1) s) ≡ o
    stands e = sym (ap (next ρ) begins) ∙ e

    pub at-quote : next ρ (drop i s) ≡ Quote → Ok (i + 1) ≡ end-from s i
    at-quote e = ends_at s (i + 1) _ (omega arith) [] (ap (string ρ 0) begins ∙ string-quote ρ _ _ (stands e))

    -- the closing quote, by its class
    pub at_closing : (c : ℕ) → lead_of c ≡ lead (byte s i) → c ≡ 14 → Ok (i + 1) ≡ end-from s i
    unfolding next_by lead_of
    at_closing c e p =
        at-quote (next_led ρ (drop i s) (ap lead (sym (first_byte s i)) ∙ sym e ∙ ap lead_of p))

    -- the closing quote, by itself
    pub at_mark : byte (drop i s) 0 ≡ 0x22 → Ok (i + 1) ≡ end-from s i
    unfolding next
    at_mark e = at-quote (rw e)

    pub at-fault : (k n : ℕ) → next ρ (drop i s) ≡ Fault k n → AtFault s i k n
    at-fault k n e =
        let p = fault-inside ρ s i h k n e in
        let f : string ρ 0 (drop i s) ≡ bad k (drop n (byte s i ∷ drop (i + 1) s)) = ap (string ρ 0) begins ∙ string-fault ρ _ _ (stands e) in
        record {
          inside = p;
          ends = faults-at s (i + n) _ p k (f ∙ ap (bad k) (ap (drop n) (sym begins) ∙ drop-drop n i s));
        }

    pub at-character : (x : Char) → next ρ (drop i s) ≡ Character x → AtCharacter s i x
    at-character x e =
        record {
          inside = character-inside ρ s i h x e;
          ends =
              sym
              (ap (placed s) (ap (string ρ 0) begins ∙ string-character ρ _ _ (stands e))
              ∙ placed-made s (λ y. bytes_of x ++ y) _
              ∙ ap (placed s) (string-skip ρ x.more (drop (i + 1) s) ∙ ap (string ρ 0) (drop-drop x.more (i + 1) s)));
        }

    -- an escape with no fault, by its length and its class
    pub at-escape : (c n : ℕ) → lead_of c ≡ lead (byte s i) → Some n ≡ (eqb c 16 ⇒ taken (escape ρ (drop i s)) else None) → AtEscape s i n
    unfolding next_by lead_of
    at-escape c n e f =
        by_test (eqb c 16)
        (λ t. go _ (next_led ρ (drop i s) (ap lead (sym (first_byte s i)) ∙ sym e ∙ ap lead_of (eqb-true c 16 t))) (rw t at f)) λ t. absurd (let g : Some n ≡ None = rw t at f in cc)
      where
        go : (o : Next) → next ρ (drop i s) ≡ o → Some n ≡ taken o → AtEscape s i n
        go Quote t u = absurd cc
        go (Fault k m) t u = absurd cc
        go (Character x) t u =
            let a = at-character x t in
            let w : n ≡ 1 + x.more = cc in
            let v : i + n ≡ i + 1 + x.more = omega arith in
            record { some = omega arith; inside = omega (arith, a.inside); ends = ap (end-from s) v ∙ a.ends }

    pub at_plain : (c : ℕ) → lead_of c ≡ lead (byte s i) → c < 14 → end-from s (i + 1) ≡ end-from s i
    unfolding next_by
    at_plain c e p =
        let t : lead (byte (drop i s) 0) ≡ Lead.plain = ap lead (sym (first_byte s i)) ∙ sym e ∙ class_plain c p in
        let f : next ρ (drop i s) ≡ char1 (byte (drop i s) 0) 0 = next_led ρ (drop i s) t in
        let g : i + 1 ≡ i + 1 + 0 = omega arith in
        ap (end-from s) g ∙ (at-character _ f).ends
