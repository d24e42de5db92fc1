-- What the first byte of a value says: a blank begins none, a number begins with a minus sign or a digit, and a string, an array and an object
-- each with a byte of its own.
use mathlib.Core.Bool.{true, false}
use mathlib.Core.List.{List, ◌∷◌}
use mathlib.Core.Path.{◌≡◌, refl, sym, ap, subst, ◌∙◌}
use Prim.Native.Nat.{ℕ}
use lib.Dec.{eqb}
use borrow.Author.Tests.{eqb-true}
use Rattle.notation.proofs.Booleans.{by_test, true-false}
use Rattle.word.specs.Kinds.{not_json}
use Rattle.lexeme.specs.Read.Read.{done, bad}
use Rattle.lexeme.specs.Character.{within}
use Rattle.lexeme.specs.Numbers.{digit, either, nothing, integer, minus, number}
use Rattle.lexeme.specs.Tokens.{blank}
use Rattle.lexeme.specs.inner.Start.{Start, start}
use Rattle.lexeme.proofs.Reading.{numeric}
use Rattle.lexeme.proofs.Steps.{bad-done, done-rest, made_fails, integer-digits, some_digits-none, optional-absent, both-reads, both_fails}
use Rattle.lexeme.proofs.Local.{choice}
use Rattle.lexeme.proofs.StrongPrefixes.{both-done}

-- what holds of the four blanks holds of every blank
each-blank : (P : ℕ → Type 0) → P 0x20 → P 0x09 → P 0x0a → P 0x0d → (b : ℕ) → blank b ≡ true → P b
unfolding blank either
each-blank P space tab feed return b h =
    by_test (eqb b 0x20) (λ e. rw (eqb-true b 0x20 e) space)
    (λ e₁. by_test (eqb b 0x09) (λ e. rw (eqb-true b 0x09 e) tab)
    (λ e₂. by_test (eqb b 0x0a) (λ e. rw (eqb-true b 0x0a e) feed)
    (λ e₃. by_test (eqb b 0x0d) (λ e. rw (eqb-true b 0x0d e) return)
    (λ e₄. true-false h (simp (e₁, e₂, e₃, e₄, blank, either))))))

-- none begins a value, and none goes on with a number
pub blank-other : (b : ℕ) → blank b ≡ true → start b ≡ Start.other
unfolding start digit within
blank-other = each-blank (λ b. start b ≡ Start.other) refl refl refl refl

pub blank_stops : (b : ℕ) → blank b ≡ true → numeric b ≡ false
unfolding numeric either digit within
blank_stops = each-blank (λ b. numeric b ≡ false) refl refl refl refl

-- a number's first byte
pub digit-starts : (b : ℕ) → digit b ≡ true → start b ≡ Start.number
unfolding start digit within
digit-starts b h =
    by_test (eqb b 0x22) (λ e. true-false h (ap digit (eqb-true b 0x22 e)))
    (λ e₁. by_test (eqb b 0x5b) (λ e. true-false h (ap digit (eqb-true b 0x5b e)))
    (λ e₂. by_test (eqb b 0x7b) (λ e. true-false h (ap digit (eqb-true b 0x7b e)))
    (λ e₃. by_test (eqb b 0x2d) (λ e. rw (start, e₁, e₂, e₃, e))
    (λ e₄. rw (start, e₁, e₂, e₃, e₄, h)))))

minus-starts : (b : ℕ) → eqb b 0x2d ≡ true → start b ≡ Start.number
unfolding start
minus-starts b h = rw (eqb-true b 0x2d h)

integer-starts : (b : ℕ) (l x r : List ℕ) → integer (b ∷ l) ≡ done x r → start b ≡ Start.number
unfolding start digit within
integer-starts b l x r e =
    by_test (eqb b 0x30) (λ h. rw (eqb-true b 0x30 h))
    (λ h. by_test (digit b) (digit-starts b) (λ k. bad-done (sym (integer-digits b l h ∙ some_digits-none b l k) ∙ e)))

pub number-starts : (b : ℕ) (l x r : List ℕ) → number (b ∷ l) ≡ done x r → start b ≡ Start.number
unfolding number minus
number-starts b l x r e =
    by_test (eqb b 0x2d) (minus-starts b)
    (λ h.
    let p = both-done minus _ (b ∷ l) x r e in
    let q = both-done integer _ p.1 p.2 r p.4 in
    let same : b ∷ l ≡ p.1 = done-rest (sym (optional-absent b _ nothing l h) ∙ p.3) in
    integer-starts b l q.0 q.1 (ap integer same ∙ q.3))

-- any other byte begins none
pub number-none : (b : ℕ) (l : List ℕ) → eqb b 0x2d ≡ false → digit b ≡ false → number (b ∷ l) ≡ bad not_json (b ∷ l)
unfolding number minus digit within
number-none b l h k =
    let n : eqb b 0x30 ≡ false = by_test (eqb b 0x30) (λ e. true-false (ap digit (eqb-true b 0x30 e)) k) (λ e. e) in
    both-reads minus _ (b ∷ l) (optional-absent b _ nothing l h)
    ∙ made_fails _ (both_fails integer _ (b ∷ l) (integer-digits b l n ∙ some_digits-none b l k))

-- the byte that says a string, an array or an object
abbrev Byte : ℕ → Start → Type 0
Byte b Start.string = b ≡ 0x22
Byte b Start.number = Unit {0}
Byte b Start.array = b ≡ 0x5b
Byte b Start.object = b ≡ 0x7b
Byte b Start.letter_t = Unit {0}
Byte b Start.letter_f = Unit {0}
Byte b Start.letter_n = Unit {0}
Byte b Start.other = Unit {0}

starts-byte : (b : ℕ) → Byte b (start b)
unfolding start
starts-byte b =
    by_test (eqb b 0x22) (λ e. rw e (eqb-true b 0x22 e)) λ e. rw e
    (by_test (eqb b 0x5b) (λ f. rw f (eqb-true b 0x5b f)) λ f. rw f
    (by_test (eqb b 0x7b) (λ g. rw g (eqb-true b 0x7b g)) λ g. rw g
    (choice (Byte b) (eqb b 0x2d) tt
    (choice (Byte b) (digit b) tt
    (choice (Byte b) (eqb b 0x74) tt
    (choice (Byte b) (eqb b 0x66) tt
    (choice (Byte b) (eqb b 0x6e) tt tt)))))))

module _ (b : ℕ) where
  pub string-byte : start b ≡ Start.string → b ≡ 0x22
  string-byte e = subst (Byte b) e (starts-byte b)

  pub array-byte : start b ≡ Start.array → b ≡ 0x5b
  array-byte e = subst (Byte b) e (starts-byte b)

  pub object-byte : start b ≡ Start.object → b ≡ 0x7b
  object-byte e = subst (Byte b) e (starts-byte b)
