-- Every character has a byte at least, and no more than its spelling has: each of its forms has one to four.
use mathlib.Core.List.{List}
use mathlib.Core.Path.{◌≡◌, sym, subst, ◌∙◌}
use Prim.Native.Nat.{ℕ, ◌+◌, ◌≤◌, ◌<◌}
use native.Mathlib.Omega.{arith}
use lib.Dec.{eqb, ltb}
use lib.ListN.{drop}
use Rattle.notation.proofs.Booleans.{by_test}
use Rattle.lexeme.specs.declared.Char.{Char}
use Rattle.lexeme.specs.declared.Next.{Next}
use Rattle.lexeme.specs.declared.Next.TheVariants.{Quote, Character, Fault}
use Rattle.lexeme.specs.Character.{byte, within, utf2, utf3, utf4, encoded, quad, trail, combined, alone, high, unit, unicode, short, escape, next}
use Rattle.lexeme.specs.inner.Lead.{Lead, lead, next_by}
use Rattle.lexeme.specs.Character.Surrogates.{paired}
use Rattle.lexeme.specs.inner.Lead.Lead.{plain, quote, backslash, wrong, two, three_e0, three, three_ed, four_f0, four, four_f4}
use Rattle.lexeme.proofs.Leads.{next-by}
use Rattle.std.specs.Prelude.{Result, Option, Ok, Err, Some, None}

abbrev Whole : Next → Type 0
Whole Quote = Unit {0}
Whole (Fault k n) = Unit {0}
Whole (Character x) = (0 < x.len) × (x.len ≤ x.more + 1)

encoded-whole : (v more : ℕ) → 3 ≤ more → Whole (encoded v more)
unfolding encoded
encoded-whole v more h =
    by_test (ltb v 0x80) (λ a. rw (a, encoded) (omega arith, omega arith)) λ a.
    by_test (ltb v 0x800) (λ b. rw (a, b, encoded) (omega arith, omega arith)) λ b.
    by_test (ltb v 0x10000) (λ c. rw (a, b, c, encoded) (omega arith, omega arith)) λ c. rw (a, b, c, encoded) (omega arith, omega arith)

high-whole : (v : ℕ) (t : Option ℕ) → Whole (high paired v t)
unfolding high alone
high-whole v None = tt
high-whole v (Some w) = encoded-whole (combined v w) 11 (omega arith)

module _ (l : List ℕ) where
  unit-whole : (v : ℕ) → Whole (unit paired l v)
  unfolding unit alone
  unit-whole v =
      by_test (within 0xdc00 0xdfff v) (λ a. rw (a, unit) tt) λ a.
      by_test (within 0xd800 0xdbff v) (λ b. rw (a, b, unit) (high-whole v (trail (drop 6 l)))) λ b. rw (a, b, unit) (encoded-whole v 5 (omega arith))

  unicode-whole : (q : Result ℕ ℕ) → Whole (unicode paired l q)
  unfolding unicode
  unicode-whole (Err n) = tt
  unicode-whole (Ok v) = unit-whole v

  escape-whole : Whole (escape paired l)
  unfolding escape
  escape-whole =
      by_test (eqb (byte l 1) 0x75) (λ a. rw (a, escape) (unicode-whole (quad (drop 2 l)))) λ a.
      by_test (eqb (short (byte l 1)) 0) (λ b. rw (a, b, escape) tt) λ b. rw (a, b, escape) (omega arith, omega arith)

  utf2-whole : Whole (utf2 l)
  unfolding utf2
  utf2-whole = by_test (within 0x80 0xbf (byte l 1)) (λ a. rw (a, utf2) (omega arith, omega arith)) λ a. rw (a, utf2) tt

  module _ (lo hi : ℕ) where
    utf3-whole : Whole (utf3 lo hi l)
    unfolding utf3
    utf3-whole =
        by_test (within lo hi (byte l 1)) (λ a.
        by_test (within 0x80 0xbf (byte l 2)) (λ b. rw (a, b, utf3) (omega arith, omega arith)) λ b. rw (a, b, utf3) tt)
        λ a. rw (a, utf3) tt

    utf4-whole : Whole (utf4 lo hi l)
    unfolding utf4
    utf4-whole =
        by_test (within lo hi (byte l 1)) (λ a.
        by_test (within 0x80 0xbf (byte l 2)) (λ b.
        by_test (within 0x80 0xbf (byte l 3)) (λ c. rw (a, b, c, utf4) (omega arith, omega arith)) λ c. rw (a, b, c, utf4) tt)
        λ b. rw (a, b, utf4) tt)
        λ a. rw (a, utf4) tt

  by_whole : (t : Lead) → Whole (next_by paired l t)
  unfolding next_by
  by_whole plain = (omega arith, omega arith)
  by_whole quote = tt
  by_whole backslash = escape-whole
  by_whole wrong = tt
  by_whole two = utf2-whole
  by_whole three_e0 = utf3-whole 0xa0 0xbf
  by_whole three = utf3-whole 0x80 0xbf
  by_whole three_ed = utf3-whole 0x80 0x9f
  by_whole four_f0 = utf4-whole 0x90 0xbf
  by_whole four = utf4-whole 0x80 0xbf
  by_whole four_f4 = utf4-whole 0x80 0x8f

  module _ (x : Char) (e : next paired l ≡ Character x) where
    whole : Whole (Character x)
    whole = subst Whole (sym (next-by paired l) ∙ e) (by_whole (lead (byte l 0)))

    pub next-whole : 0 < x.len
    next-whole = whole.0

    pub next-short : x.len ≤ x.more + 1
    next-short = whole.1
