-- Values and members at places of a text, one equation for each way that the code goes: the class of the byte at the place decides.
-- A byte past the end is 0, which begins no value.
use mathlib.Core.Bool.{Bool, true, false}
use mathlib.Core.List.{List, [], ◌∷◌}
use mathlib.Core.Path.{◌≡◌, refl, sym, ap, ◌∙◌}
use Prim.Native.Nat.{ℕ, zero, suc, ◌+◌, ◌-◌, ◌<◌}
use native.Mathlib.Omega.{arith}
use lib.Dec.{eqb}
use lib.ListN.{length, drop, length-drop}
use borrow.Author.Tests.{eq-eqb, ne_eqb}
use Rattle.word.specs.Kinds.{not_json, too_deep}
use Rattle.notation.specs.Ascii.{bytes}
use Rattle.notation.proofs.Booleans.{true-false}
use Rattle.lexeme.specs.Read.{Read, made, placed, wrong_at}
use Rattle.lexeme.specs.Read.Read.{bad}
use Rattle.lexeme.specs.Character.{paired, byte, within}
use Rattle.lexeme.specs.inner.Class.{start_of, Classed}
use Rattle.lexeme.specs.Strings as Strings
use Rattle.lexeme.specs.Numbers as Numbers
use Rattle.lexeme.specs.Tokens.{blanks, literal}
use Rattle.lexeme.specs.inner.Start.{Start, start}
use Rattle.lexeme.proofs.Rests.{shows, next-drop}
use Rattle.lexeme.proofs.Placed.{placed-made, faults-at, Leaves, Lands, lands, takes_leaves}
use Rattle.lexeme.proofs.Reading.{Any}
use Rattle.lexeme.proofs.StrongPrefixes.{string_takes}
use Rattle.lexeme.proofs.Starts.{string-byte}
use Rattle.lexeme.proofs.Spans.{skipped}
use Rattle.lexeme.proofs.Steps.{then-reads, then_fails}
use Rattle.lexeme.proofs.Words.{literal-placed}
use Rattle.json_text.specs.Tree.{Json, as_items, as_members}
use Rattle.json_text.specs.Text.{expect, bracketed, member, value_by, value}
use Rattle.json_text.proofs.StrongPrefixes.{expect_takes}
use Rattle.json_text.proofs.Steps.{expect-end, expect-here, expect-other, value_at, value-start}
use Rattle.std.specs.Prelude.{Ok}

-- arrays and objects from their bracket on, as `value` reads them
nested : {A : Type 0} → (List A → Json) → ℕ → (ℕ → List ℕ → Read A) → ℕ → List ℕ → Read Json
nested f close element zero t = bad too_deep t
nested f close element (suc d) t = made f (bracketed close (element d) (drop 1 t))

arrays : ℕ → List ℕ → Read Json
arrays = nested (λ xs. Json.array (as_items xs)) 0x5d (value paired)

objects : ℕ → List ℕ → Read Json
objects = nested (λ ms. Json.object (as_members ms)) 0x7d (λ d. member paired (value paired d))

value-by : (d : ℕ) (l : List ℕ) → value paired d l ≡ value_by paired (arrays d) (objects d) l
unfolding value arrays objects nested
value-by zero l = refl
value-by (suc d) l = refl

module _ {A : Type 0} (f : List A → Json) (close : ℕ) (element : ℕ → List ℕ → Read A) (d : ℕ) where
  nested_deep : (t : List ℕ) → d ≡ 0 → nested f close element d t ≡ bad too_deep t
  unfolding nested
  nested_deep t e = rw e

  nested_opened : (s : List ℕ) (at : ℕ) → (d ≡ 0 → ⊥) → placed s (nested f close element d (drop at s)) ≡ placed s (bracketed close (element (d - 1)) (drop (at + 1) s))
  unfolding nested
  nested_opened s at n =
      let e : d ≡ suc (d - 1) = omega arith in
      ap (λ (m : ℕ). placed s (nested f close element m (drop at s))) e
      ∙ placed-made s f _
      ∙ ap (λ (l : List ℕ). placed s (bracketed close (element (d - 1)) l)) (next-drop s at)

-- whether a first byte begins a value
abbrev pub begun : Start → Bool
begun Start.string = true
begun Start.number = true
begun Start.array = true
begun Start.object = true
begun Start.letter_t = true
begun Start.letter_f = true
begun Start.letter_n = true
begun Start.other = false

-- where it does, it stands in the text
there : (l : List ℕ) (t : Start) → start (byte l 0) ≡ t → begun t ≡ true → l ≡ byte l 0 ∷ drop 1 l
unfolding start Numbers.digit within
there [] t e h = true-false h (ap begun (sym e))
there (b ∷ r) t e h = refl

-- what the byte at a place says, and that by its class
pub record Begins (s : List ℕ) (at : ℕ) (t : Start) : Type 0 where
  pub says : start (byte (drop at s) 0) ≡ t

pub begins : (s : List ℕ) (at : ℕ) {b c n : ℕ} → b ≡ byte (drop at s) 0 → Classed b c → c ≡ n → Begins s at (start_of n)
begins s at e k h = record { says = ap start (sym e) ∙ sym k.start ∙ ap start_of h }

pub no_start : (c : ℕ) → (c ≡ 2 → ⊥) → (c ≡ 4 → ⊥) → (c ≡ 6 → ⊥) → (c ≡ 8 → ⊥) → (c ≡ 10 → ⊥) → (c ≡ 12 → ⊥) → (c ≡ 14 → ⊥) → start_of c ≡ Start.other
unfolding start_of
no_start c n2 n4 n6 n8 n10 n12 n14 =
    rw (start_of, ne_eqb _ _ n2, ne_eqb _ _ n4, ne_eqb _ _ n6, ne_eqb _ _ n8, ne_eqb _ _ n10, ne_eqb _ _ n12, ne_eqb _ _ n14)

-- a value by its first byte: g reads it
module _ {s : List ℕ} {at : ℕ} {t : Start} (k : Begins s at t) (h : begun t ≡ true) where
  pub begins-inside : at < length s
  begins-inside = omega (arith, ap length (there (drop at s) t k.says h), length-drop at s)

  read_by : (d : ℕ) (g : List ℕ → Read Json)
      → value_at paired (arrays d) (objects d) (byte (drop at s) 0) (drop 1 (drop at s)) ≡ g (byte (drop at s) 0 ∷ drop 1 (drop at s))
      → value paired d (drop at s) ≡ g (drop at s)
  read_by d g e =
      let i = there (drop at s) t k.says h in
      value-by d (drop at s)
      ∙ ap (value_by paired (arrays d) (objects d)) i
      ∙ value-start paired (arrays d) (objects d) _ _
      ∙ e
      ∙ ap g (sym i)

module _ {s : List ℕ} {at : ℕ} (d : ℕ) where
  pub value-string : Begins s at Start.string → placed s (value paired d (drop at s)) ≡ placed s (Strings.string paired 0 (drop (at + 1) s))
  unfolding value_at
  value-string k =
      ap (placed s) (read_by k refl d (λ l. made Json.string (Strings.string paired 0 (drop 1 l))) (rw (value_at, k.says)))
      ∙ placed-made s Json.string _
      ∙ ap (λ (l : List ℕ). placed s (Strings.string paired 0 l)) (next-drop s at)

  pub value-number : Begins s at Start.number → placed s (value paired d (drop at s)) ≡ placed s (Numbers.number (drop at s))
  unfolding value_at
  value-number k =
      ap (placed s) (read_by k refl d (λ l. made Json.number (Numbers.number l)) (rw (value_at, k.says))) ∙ placed-made s Json.number _

  value-array : Begins s at Start.array → value paired d (drop at s) ≡ arrays d (drop at s)
  unfolding value_at
  value-array k = read_by k refl d (arrays d) (rw (value_at, k.says))

  value-object : Begins s at Start.object → value paired d (drop at s) ≡ objects d (drop at s)
  unfolding value_at
  value-object k = read_by k refl d (objects d) (rw (value_at, k.says))

  pub array-deep : Begins s at Start.array → d ≡ 0 → value paired d (drop at s) ≡ bad too_deep (drop at s)
  unfolding arrays
  array-deep k z = value-array k ∙ nested_deep _ 0x5d (value paired) d (drop at s) z

  pub object-deep : Begins s at Start.object → d ≡ 0 → value paired d (drop at s) ≡ bad too_deep (drop at s)
  unfolding objects
  object-deep k z = value-object k ∙ nested_deep _ 0x7d (λ n. member paired (value paired n)) d (drop at s) z

  pub array_opened : Begins s at Start.array → (d ≡ 0 → ⊥) → placed s (value paired d (drop at s)) ≡ placed s (bracketed 0x5d (value paired (d - 1)) (drop (at + 1) s))
  unfolding arrays
  array_opened k n = ap (placed s) (value-array k) ∙ nested_opened _ 0x5d (value paired) d s at n

  pub object_opened : Begins s at Start.object → (d ≡ 0 → ⊥) → placed s (value paired d (drop at s)) ≡ placed s (bracketed 0x7d (member paired (value paired (d - 1))) (drop (at + 1) s))
  unfolding objects
  object_opened k n = ap (placed s) (value-object k) ∙ nested_opened _ 0x7d (λ m. member paired (value paired m)) d s at n

  pub value-true : Begins s at Start.letter_t → placed s (value paired d (drop at s)) ≡ placed s (literal (bytes "true") (tt {0}) (drop at s))
  unfolding value_at
  value-true k = ap (placed s) (read_by k refl d (literal _ (Json.boolean true)) (rw (value_at, k.says))) ∙ literal-placed _ _ tt (drop at s) s

  pub value-false : Begins s at Start.letter_f → placed s (value paired d (drop at s)) ≡ placed s (literal (bytes "false") (tt {0}) (drop at s))
  unfolding value_at
  value-false k = ap (placed s) (read_by k refl d (literal _ (Json.boolean false)) (rw (value_at, k.says))) ∙ literal-placed _ _ tt (drop at s) s

  pub value-null : Begins s at Start.letter_n → placed s (value paired d (drop at s)) ≡ placed s (literal (bytes "null") (tt {0}) (drop at s))
  unfolding value_at
  value-null k = ap (placed s) (read_by k refl d (literal _ Json.null) (rw (value_at, k.says))) ∙ literal-placed _ _ tt (drop at s) s

pub value-empty : (d : ℕ) → value paired d [] ≡ bad not_json []
unfolding value_by
value-empty d = value-by d []

pub value_none : (d : ℕ) (l : List ℕ) → start (byte l 0) ≡ Start.other → value paired d l ≡ bad not_json l
unfolding value_at
value_none d [] e = value-empty d
value_none d (b ∷ r) e = value-by d (b ∷ r) ∙ value-start paired (arrays d) (objects d) b r ∙ rw (value_at, e)

-- a byte that must stand there
module _ {A : Type 0} (c : ℕ) (f : List ℕ → Read A) (s : List ℕ) (at : ℕ) where
  pub expect-there : eqb 0 c ≡ false → byte (drop at s) 0 ≡ c → expect c f (drop at s) ≡ f (drop (at + 1) s)
  expect-there z e =
      ap (expect c f) (shows (λ b. eqb b c) z (drop at s) (eq-eqb _ _ e)) ∙ expect-here c f _ _ (eq-eqb _ _ e) ∙ ap f (next-drop s at)

  pub expect-absent : (byte (drop at s) 0 ≡ c → ⊥) → expect c f (drop at s) ≡ bad not_json (drop at s)
  expect-absent n = go (drop at s) n
    where
      go : (l : List ℕ) → (byte l 0 ≡ c → ⊥) → expect c f l ≡ bad not_json l
      go [] n = expect-end c f
      go (b ∷ r) n = expect-other c f b r (ne_eqb _ _ n)

-- a string, from its quote on
pub value-quoted : {s : List ℕ} {at : ℕ} (d : ℕ) → Begins s at Start.string → placed s (expect 0x22 (Strings.string paired 0) (drop at s)) ≡ placed s (value paired d (drop at s))
value-quoted {s} {at} d k = ap (placed s) (expect-there 0x22 (Strings.string paired 0) s at refl (string-byte _ k.says)) ∙ sym (value-string d k)

-- the name at the front
name_leaves : Leaves (expect 0x22 (Strings.string paired 0))
name_leaves = takes_leaves Any (expect 0x22 (Strings.string paired 0)) (expect_takes 0x22 (Strings.string paired 0) (string_takes paired 0))

-- a member, and a value inside it
module _ (v : List ℕ → Read Json) where
  pub member-empty : member paired v [] ≡ bad not_json []
  unfolding member
  member-empty = then_fails _ (expect-end 0x22 (Strings.string paired 0))

  pub member_unnamed : (l : List ℕ) (k : ℕ) (r : List ℕ) → expect 0x22 (Strings.string paired 0) l ≡ bad k r → member paired v l ≡ bad k r
  unfolding member
  member_unnamed l k r e = then_fails _ e

  -- its name ends at j; blanks follow up to i, and there the byte b
  module _ (s : List ℕ) (at : ℕ) {j i b : ℕ} (named : Ok j ≡ placed s (expect 0x22 (Strings.string paired 0) (drop at s)))
      (k : i ≡ length s - length (blanks (drop j s))) (f : b ≡ byte (drop i s) 0) where
    named-at : Lands (expect 0x22 (Strings.string paired 0)) s at j
    named-at = lands (expect 0x22 (Strings.string paired 0)) s at j name_leaves named

    member-named : member paired v (drop at s) ≡ expect 0x3a (λ q. made (λ y. (named-at.what, y)) (v (blanks q))) (drop i s)
    unfolding member
    member-named =
        then-reads _ named-at.reads ∙ ap (expect 0x3a (λ q. made (λ y. (named-at.what, y)) (v (blanks q)))) (sym (skipped s j i k).rest)

    pub member-wrong : (b ≡ 0x3a → ⊥) → wrong_at not_json i ≡ placed s (member paired v (drop at s))
    member-wrong n = faults-at s i _ (skipped s j i k).upto not_json (member-named ∙ expect-absent 0x3a _ s i (λ z. n (f ∙ z)))

    pub member-value : b ≡ 0x3a → {n : ℕ} → n ≡ length s - length (blanks (drop (i + 1) s))
        → placed s (v (drop n s)) ≡ placed s (member paired v (drop at s))
    member-value e {n} w =
        sym
        (ap (placed s) (member-named ∙ expect-there 0x3a _ s i refl (sym f ∙ e))
        ∙ placed-made s _ (v (blanks (drop (i + 1) s)))
        ∙ ap (λ (l : List ℕ). placed s (v l)) (sym (skipped s (i + 1) n w).rest))
