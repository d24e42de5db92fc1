-- Step equations of the definitions: one line for each way through. Every proof that follows a test of a byte cites these.
use mathlib.Core.Bool.{true, false}
use mathlib.Core.List.{List, [], ◌∷◌}
use mathlib.Core.Path.{◌≡◌, refl, ap, ◌∙◌}
use Prim.Native.Nat.{ℕ, suc}
use lib.ListN.{length, drop}
use lib.Dec.{eqb}
use borrow.Author.Tests.{eqb-true}
use Rattle.word.specs.Kinds.{not_json}
use Rattle.notation.specs.Ascii.{bytes}
use Rattle.notation.proofs.Booleans.{by_test, true-false}
use Rattle.lexeme.specs.Read.{Read, then, made}
use Rattle.lexeme.specs.Read.Read.{done, bad}
use Rattle.lexeme.specs.Character.{Surrogates, within}
use Rattle.lexeme.specs.Strings
use Rattle.lexeme.specs.Numbers
use Rattle.lexeme.specs.Numbers.{digit}
use Rattle.lexeme.specs.Tokens.{blanks, literal}
use Rattle.lexeme.specs.inner.Start.{Start, start}
use Rattle.lexeme.proofs.Steps.{then-reads, then_fails, made_fails}
use Rattle.lexeme.proofs.Starts.{number-none}
use Rattle.json_text.specs.Tree.{Json}
use Rattle.json_text.specs.Text.{expect, separator, after, elements_up_to, contents, member, value_by}
use Rattle.json_text.specs.Text.After.{closed, more, wrong}

-- a byte that must stand there
module _ {A : Type 0} (c : ℕ) (f : List ℕ → Read A) where
  pub expect-end : expect c f [] ≡ bad not_json []
  unfolding expect
  expect-end = refl

  pub expect-here : (b : ℕ) (r : List ℕ) → eqb b c ≡ true → expect c f (b ∷ r) ≡ f r
  unfolding expect
  expect-here b r h = rw (h, expect)

  pub expect-other : (b : ℕ) (r : List ℕ) → eqb b c ≡ false → expect c f (b ∷ r) ≡ bad not_json (b ∷ r)
  unfolding expect
  expect-other b r h = rw (h, expect)

-- what follows an element
module _ (close : ℕ) (l : List ℕ) where
  pub after-end : blanks l ≡ [] → after close l ≡ wrong []
  unfolding after separator
  after-end e = rw (e, after, separator)

  pub after-closed : (b : ℕ) (q : List ℕ) → blanks l ≡ b ∷ q → eqb b close ≡ true → after close l ≡ closed q
  unfolding after separator
  after-closed b q e h = rw (e, h, after, separator)

  pub after_more : (b : ℕ) (q : List ℕ) → blanks l ≡ b ∷ q → eqb b close ≡ false → eqb b 0x2c ≡ true → after close l ≡ more (blanks q)
  unfolding after separator
  after_more b q e h k = rw (e, h, k, after, separator)

  pub after-wrong : (b : ℕ) (q : List ℕ) → blanks l ≡ b ∷ q → eqb b close ≡ false → eqb b 0x2c ≡ false → after close l ≡ wrong (b ∷ q)
  unfolding after separator
  after-wrong b q e h k = rw (e, h, k, after, separator)

-- what is read after the element x, of at most `most` more
unfoldable pub onward : {A : Type 0} → ℕ → ℕ → (List ℕ → Read A) → A → List ℕ → Read (List A)
onward close most element x r =
    elim (after close r) [
      | closed q ↦ done (x ∷ []) q
      | more q ↦ made (λ xs. x ∷ xs) (elements_up_to close most element q)
      | wrong q ↦ bad not_json q
    ]

module _ {A : Type 0} (close most : ℕ) (element : List ℕ → Read A) where
  pub elements-then : (l : List ℕ) → elements_up_to close (suc most) element l ≡ then (element l) (onward close most element)
  unfolding elements_up_to onward
  elements-then l = refl

  module _ (x : A) (r q : List ℕ) where
    pub onward-closed : after close r ≡ closed q → onward close most element x r ≡ done (x ∷ []) q
    unfolding onward
    onward-closed h = rw (h, onward)

    pub onward-more : after close r ≡ more q → onward close most element x r ≡ made (λ xs. x ∷ xs) (elements_up_to close most element q)
    unfolding onward
    onward-more h = rw (h, onward)

    pub onward-wrong : after close r ≡ wrong q → onward close most element x r ≡ bad not_json q
    unfolding onward
    onward-wrong h = rw (h, onward)

  module _ (l : List ℕ) where
    pub elements-bad : (k : ℕ) (r : List ℕ) → element l ≡ bad k r → elements_up_to close (suc most) element l ≡ bad k r
    elements-bad k r e = elements-then l ∙ then_fails (onward close most element) e

    pub elements-onward : (x : A) (r : List ℕ) → element l ≡ done x r → elements_up_to close (suc most) element l ≡ onward close most element x r
    elements-onward x r e = elements-then l ∙ then-reads (onward close most element) e

    pub elements-closed : (x : A) (r q : List ℕ) → element l ≡ done x r → after close r ≡ closed q → elements_up_to close (suc most) element l ≡ done (x ∷ []) q
    elements-closed x r q e h = elements-onward x r e ∙ onward-closed x r q h

    pub elements-more : (x : A) (r q : List ℕ) → element l ≡ done x r → after close r ≡ more q → elements_up_to close (suc most) element l ≡ made (λ xs. x ∷ xs) (elements_up_to close most element q)
    elements-more x r q e h = elements-onward x r e ∙ onward-more x r q h

    pub elements-wrong : (x : A) (r q : List ℕ) → element l ≡ done x r → after close r ≡ wrong q → elements_up_to close (suc most) element l ≡ bad not_json q
    elements-wrong x r q e h = elements-onward x r e ∙ onward-wrong x r q h

-- what stands between brackets
module _ {A : Type 0} (close : ℕ) (element : List ℕ → Read A) where
  pub contents-end : contents close element [] ≡ bad not_json []
  unfolding contents
  contents-end = refl

  pub contents-none : (b : ℕ) (r : List ℕ) → eqb b close ≡ true → contents close element (b ∷ r) ≡ done [] r
  unfolding contents
  contents-none b r h = rw (h, contents)

  pub contents-some : (b : ℕ) (r : List ℕ) → eqb b close ≡ false → contents close element (b ∷ r) ≡ elements_up_to close (suc (length (b ∷ r))) element (b ∷ r)
  unfolding contents
  contents-some b r h = rw (h, contents)

-- a member after its name: the colon, and the value
abbrev pub named : (List ℕ → Read Json) → List ℕ → List ℕ → Read (List ℕ × Json)
named value name r = expect 0x3a (λ q. made (λ x. (name, x)) (value (blanks q))) (blanks r)

pub member-then : (ρ : Surrogates) (value : List ℕ → Read Json) (l : List ℕ) → member ρ value l ≡ then (expect 0x22 (Strings.string ρ 0) l) (named value)
unfolding member
member-then ρ value l = refl

-- a value, by what its first byte says
unfoldable pub value_at : Surrogates → (List ℕ → Read Json) → (List ℕ → Read Json) → ℕ → List ℕ → Read Json
value_at ρ arrays objects b r =
    elim (start b) [
      | Start.string ↦ made Json.string (Strings.string ρ 0 r)
      | Start.number ↦ made Json.number (Numbers.number (b ∷ r))
      | Start.array ↦ arrays (b ∷ r)
      | Start.object ↦ objects (b ∷ r)
      | Start.letter_t ↦ literal (bytes "true") (Json.boolean true) (b ∷ r)
      | Start.letter_f ↦ literal (bytes "false") (Json.boolean false) (b ∷ r)
      | Start.letter_n ↦ literal (bytes "null") Json.null (b ∷ r)
      | Start.other ↦ bad not_json (b ∷ r)
    ]

-- a minus sign begins no word, and neither does a digit
abbrev NoLetter : ℕ → Type 0
NoLetter b = (eqb b 0x74 ≡ false) × (eqb b 0x66 ≡ false) × (eqb b 0x6e ≡ false)

minus-apart : (b : ℕ) → eqb b 0x2d ≡ true → NoLetter b
minus-apart b e = rw (eqb-true b 0x2d e) (refl, refl, refl)

digit-other : (b c : ℕ) → digit c ≡ false → digit b ≡ true → eqb b c ≡ false
digit-other b c k h = by_test (eqb b c) (λ e. true-false h (ap digit (eqb-true b c e) ∙ k)) (λ e. e)

digit-apart : (b : ℕ) → digit b ≡ true → NoLetter b
unfolding digit within
digit-apart b h = (digit-other b 0x74 refl h, digit-other b 0x66 refl h, digit-other b 0x6e refl h)

-- `value_at` is what the definition's tests come to; a byte that begins no value begins no number either, and is where reading one fails
pub value-start : (ρ : Surrogates) (arrays objects : List ℕ → Read Json) (b : ℕ) (r : List ℕ) → value_by ρ arrays objects (b ∷ r) ≡ value_at ρ arrays objects b r
unfolding value_by value_at start
value-start ρ arrays objects b r =
    by_test (eqb b 0x22) (λ e. rw (value_at, start, e)) λ e. rw (value_at, start, e)
    (by_test (eqb b 0x5b) (λ e. rw e) λ e. rw e
    (by_test (eqb b 0x7b) (λ e. rw e) λ e. rw e
    (by_test (eqb b 0x2d) (λ e. let n = minus-apart b e in rw (e, n.0, n.1, n.2)) λ m. rw m
    (by_test (digit b) (λ h. let n = digit-apart b h in rw (h, n.0, n.1, n.2)) λ d. rw d
    (by_test (eqb b 0x74) (λ e. rw e) λ e. rw e
    (by_test (eqb b 0x66) (λ e. rw e) λ e. rw e
    (by_test (eqb b 0x6e) (λ e. rw e) λ e. rw e (made_fails Json.number (number-none b r m d)))))))))

-- What reads a value that begins with the byte b, whatever follows b. P holds of it, if P holds of each of the readers.
module _ (ρ : Surrogates) (arrays objects : List ℕ → Read Json) where
  pub record Chosen (P : (List ℕ → Read Json) → Type 0) (b : ℕ) : Type 0 where
    pub reader : List ℕ → Read Json
    pub holds : P reader
    pub reads : (r : List ℕ) → value_by ρ arrays objects (b ∷ r) ≡ reader (b ∷ r)

  module _ (P : (List ℕ → Read Json) → Type 0) where
    pub chosen : P (λ t. made Json.string (Strings.string ρ 0 (drop 1 t)))
        → P (λ t. made Json.number (Numbers.number t))
        → P arrays
        → P objects
        → ((c : ℕ) (w : List ℕ) (x : Json) → P (literal (c ∷ w) x))
        → P (bad not_json)
        → (b : ℕ)
        → Chosen P b
    unfolding value_at
    chosen text number array object word none b = go (start b) refl
      where
        go : (t : Start) → start b ≡ t → Chosen P b
        go Start.string h = record { reader = _; holds = text; reads = λ r. rw (value-start ρ arrays objects b r, value_at, h) }
        go Start.number h = record { reader = _; holds = number; reads = λ r. rw (value-start ρ arrays objects b r, value_at, h) }
        go Start.array h = record { reader = _; holds = array; reads = λ r. rw (value-start ρ arrays objects b r, value_at, h) }
        go Start.object h = record { reader = _; holds = object; reads = λ r. rw (value-start ρ arrays objects b r, value_at, h) }
        go Start.letter_t h = record { reader = literal (bytes "true") (Json.boolean true); holds = word _ _ _; reads = λ r. rw (value-start ρ arrays objects b r, value_at, h) }
        go Start.letter_f h = record { reader = literal (bytes "false") (Json.boolean false); holds = word _ _ _; reads = λ r. rw (value-start ρ arrays objects b r, value_at, h) }
        go Start.letter_n h = record { reader = literal (bytes "null") Json.null; holds = word _ _ _; reads = λ r. rw (value-start ρ arrays objects b r, value_at, h) }
        go Start.other h = record { reader = _; holds = none; reads = λ r. rw (value-start ρ arrays objects b r, value_at, h) }
