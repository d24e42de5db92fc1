-- `brackets_end_bytewise` ends past the bracket that closes: the loop's invariant is that behind it the text is the same from each byte on, with the inner
-- brackets that stand open there.
use mathlib.Core.Bool.{false}
use mathlib.Core.Logic.{◌⊎◌, inl, inr}
use Prim.Native.Nat.{ℕ, suc, ◌+◌, ◌-◌, ◌≤◌}
use lib.Dec.{eqb}
use borrow.Author.Tests.{ne_eqb}
use Rattle.lexeme.specs.Numbers.{either}
use Rattle.walk.proofs.Tests.{one-of, none-of}
use mathlib.Core.Path.{◌≡◌, sym, ap, ◌∙◌}
use native.Mathlib.Omega.{arith}
use lib.ListN.{drop}
use Rattle.lexeme.proofs.Rests.{place_at}
use Rattle.walk.specs.inner.Skip.{outside, enclosed}
use Rattle.walk.proofs.Skips.{enclosed-all}
use Rattle.walk.proofs.Ends.{ended, brackets-string, brackets_open, brackets-other, brackets_close, brackets-cut}
use Rattle.walk.proofs.skip.brackets_end_bytewise.Goals as goal

-- no bracket is a quotation mark, and no closing one opens
bracketed : {b x y : ℕ} → (b ≡ x) ⊎ (b ≡ y) → 0x5b ≤ x → 0x5b ≤ y → eqb b 0x22 ≡ false
bracketed {b} (inl e) h i = ne_eqb b 0x22 (λ z. omega arith)
bracketed {b} (inr e) h i = ne_eqb b 0x22 (λ z. omega arith)

closing : {b : ℕ} → (b ≡ 0x5d) ⊎ (b ≡ 0x7d) → either 0x5b 0x7b b ≡ false
closing (inl e) = none-of 0x5b 0x7b (λ z. omega arith) (λ z. omega arith)
closing (inr e) = none-of 0x5b 0x7b (λ z. omega arith) (λ z. omega arith)

-- a string
pub loop-i-smaller-in-34 : goal.loop-i-smaller-in-34
loop-i-smaller-in-34 c =
    omega (arith, (ended c.args.s.now (c.loop-i.i + 1) c.string_end-i.result c.string_end-i.ensures).from (omega arith))

pub loop-i-preserved-in-34 : goal.loop-i-preserved-in-34
loop-i-preserved-in-34 c =
    let s = c.args.s.now in let i = c.loop-i.i in
    let e = ended s (i + 1) c.string_end-i.result c.string_end-i.ensures in
    (omega (arith, e.from (omega arith)), sym (brackets-string s i c.loop-i.inner (omega arith) _ c.in-34.is e) ∙ c.loop-i.invariant.1)

-- brackets
pub loop-i-preserved-in-91 : goal.loop-i-preserved-in-91
loop-i-preserved-in-91 c =
    let s = c.args.s.now in let i = c.loop-i.i in (
      omega arith,
      sym (brackets_open s i c.loop-i.inner (omega arith) (bracketed c.in-91.is (omega arith) (omega arith)) (one-of 0x5b 0x7b c.in-91.is)) ∙ c.loop-i.invariant.1,
    )

pub returns-then-inner-eq0 : goal.returns-then-inner-eq0
returns-then-inner-eq0 c =
    let s = c.args.s.now in let i = c.loop-i.i in
    rw (sym c.loop-i.invariant.1
    ∙ brackets_close s i c.loop-i.inner (omega arith) (bracketed c.in-93.is (omega arith) (omega arith)) (closing c.in-93.is) (one-of 0x5d 0x7d c.in-93.is)
    ∙ ap (λ n. enclosed n outside (drop (i + 1) s)) c.if-inner-eq0.true ∙ enclosed-all (drop (i + 1) s)) (place_at s (i + 1) (omega arith))

pub loop-i-preserved-in-93 : goal.loop-i-preserved-in-93
loop-i-preserved-in-93 c =
    let s = c.args.s.now in let i = c.loop-i.i in let n = c.loop-i.inner in
    let less : n ≡ suc (n - 1) = omega arith in (
      omega arith,
      sym (brackets_close s i n (omega arith) (bracketed c.in-93.is (omega arith) (omega arith)) (closing c.in-93.is) (one-of 0x5d 0x7d c.in-93.is)
          ∙ ap (λ m. enclosed m outside (drop (i + 1) s)) less)
          ∙ c.loop-i.invariant.1,
    )

-- any other byte
pub loop-i-preserved : goal.loop-i-preserved
loop-i-preserved c =
    let s = c.args.s.now in let i = c.loop-i.i in (
      omega arith,
      sym (brackets-other s i c.loop-i.inner (omega arith) (ne_eqb _ _ (λ z. grind arith)) (none-of 0x5b 0x7b (λ z. grind arith) (λ z. grind arith))
          (none-of 0x5d 0x7d (λ z. grind arith) (λ z. grind arith)))
          ∙ c.loop-i.invariant.1,
    )

pub returns : goal.returns
returns c =
    let s = c.args.s.now in
    rw (sym c.loop-i.invariant.1 ∙ brackets-cut s c.loop-i.i (suc c.loop-i.inner) (omega arith)) (omega arith)
