-- A text is no longer than its spelling. In a longer spelling the bytes that were passed and those that are left are all; at a quote, a fault or the end
-- nothing is left.
use mathlib.Core.Bool.{true}
use mathlib.Core.Path.{◌≡◌, sym, ap, ◌∙◌}
use Prim.Native.Nat.{ℕ, ◌+◌, ◌≤◌, ◌<◌}
use native.Mathlib.Omega.{arith}
use borrow.Author.Tests.{le-ltb, lt-ltb}
use Rattle.std.specs.Prelude.{List}
use lib.ListN.{length, drop, get_or, length-append}
use Rattle.lexeme.specs.declared.Char.{Char}
use Rattle.lexeme.specs.declared.Next.TheVariants.{Character}
use Rattle.lexeme.specs.Character.{bytes_of, next}
use Rattle.lexeme.specs.Character.Surrogates.{paired}
use Rattle.character.proofs.Inside.{character-inside}
use Rattle.text.specs.Text.{text_of}
use Rattle.text.specs.inner.Walk.{alone}
use Rattle.text.proofs.Decoding.{text-end, text-none, text-plain, text-character}
use Rattle.text.proofs.Lengths.{text-length}
use Rattle.text.proofs.measure.longer_than.Goals as goal

-- where nothing is left, what was counted is all
ended : (s : List ℕ) (n i most : ℕ) → n + length (text_of (drop i s)) ≡ length (text_of s) → n ≤ most → length (text_of (drop i s)) ≡ 0 → length (text_of s) ≤ most
ended s n i most w h e = omega arith

-- a byte that stands for itself
plain : (s : List ℕ) (i : ℕ) → i < length s → alone (get_or s i 0) ≡ true → length (text_of (drop i s)) ≡ 1 + length (text_of (drop (i + 1) s))
plain s i h e = omega (arith, ap length (text-plain s i h e))

-- a character
character : (s : List ℕ) (i n : ℕ) (x : Char) → i < length s → next paired (drop i s) ≡ Character x → n ≡ length (bytes_of x) →
    (length (text_of (drop i s)) ≡ n + length (text_of (drop (i + 1 + x.more) s))) × (i + 1 + x.more ≤ length s)
character s i n x h is e = (
  ap length (text-character s i h x is) ∙ length-append (bytes_of x) _ ∙ ap (λ k. k + length (text_of (drop (i + 1 + x.more) s))) (sym e),
  omega (arith, character-inside paired s i h x is),
)

pub returns-then-spelled-most : goal.returns-then-spelled-most
returns-then-spelled-most c =
    sym (le-ltb c.args.most (length (text_of c.args.spelled.now)) (omega (arith, c.if-spelled-most.true, text-length c.args.spelled.now)))

pub returns-then-spelled-i : goal.returns-then-spelled-i
returns-then-spelled-i c =
    let l = c.loop-n in
    sym (le-ltb c.args.most _
    (ended c.args.spelled.now l.n l.i c.args.most l.invariant c.loop-n-test.true (ap length (text-end c.args.spelled.now l.i c.if-spelled-i.true))))

pub overflow_add-n : goal.overflow_add-n
overflow_add-n c =
    let l = c.loop-n in let s = c.args.spelled.now in
    omega (arith, plain s l.i c.if-spelled-i.false (sym c.is_plain.ensures ∙ c.if-is_plain.true), l.invariant, text-length s)

pub loop-n-preserved-then-is_plain : goal.loop-n-preserved-then-is_plain
loop-n-preserved-then-is_plain c =
    let l = c.loop-n in
    omega (arith, plain c.args.spelled.now l.i c.if-spelled-i.false (sym c.is_plain.ensures ∙ c.if-is_plain.true), l.invariant)

pub overflow_add-n-else-is_plain : goal.overflow_add-n-else-is_plain
overflow_add-n-else-is_plain c =
    let l = c.loop-n in let s = c.args.spelled.now in
    let k = character s l.i _ c.in-Character.x c.if-spelled-i.false (sym c.next_char.ensures ∙ c.in-Character.is) c.size-n.ensures in
    omega (arith, k.0, l.invariant, text-length s)

pub overflow_add-i-else-is_plain : goal.overflow_add-i-else-is_plain
overflow_add-i-else-is_plain c =
    let l = c.loop-n in
    omega (arith, (character c.args.spelled.now l.i _ c.in-Character.x c.if-spelled-i.false (sym c.next_char.ensures ∙ c.in-Character.is) c.size-n.ensures).1)

pub overflow_add-i-else-is_plain-2 : goal.overflow_add-i-else-is_plain-2
overflow_add-i-else-is_plain-2 c =
    let l = c.loop-n in
    omega (arith, (character c.args.spelled.now l.i _ c.in-Character.x c.if-spelled-i.false (sym c.next_char.ensures ∙ c.in-Character.is) c.size-n.ensures).1)

pub loop-n-smaller : goal.loop-n-smaller
loop-n-smaller c =
    let l = c.loop-n in
    omega (arith, (character c.args.spelled.now l.i _ c.in-Character.x c.if-spelled-i.false (sym c.next_char.ensures ∙ c.in-Character.is) c.size-n.ensures).1)

pub loop-n-preserved : goal.loop-n-preserved
loop-n-preserved c =
    let l = c.loop-n in
    omega (arith, (character c.args.spelled.now l.i _ c.in-Character.x c.if-spelled-i.false (sym c.next_char.ensures ∙ c.in-Character.is) c.size-n.ensures).0, l.invariant)

pub returns : goal.returns
returns c =
    let l = c.loop-n in
    sym (lt-ltb c.args.most (length (text_of c.args.spelled.now)) (omega (arith, c.loop-n-test.false, l.invariant)))

pub returns-in_default : goal.returns-in_default
returns-in_default c =
    let l = c.loop-n in let s = c.args.spelled.now in
    sym (le-ltb c.args.most _
    (ended s l.n l.i c.args.most l.invariant c.loop-n-test.true (ap length (text-none (drop l.i s) _ c.next_char.ensures c.in_default.not-Character))))
