-- What follows in both is in order as the whole is; each turn passes a character that is the same in both.
use mathlib.Core.Bool.{false}
use mathlib.Core.Path.{◌≡◌, refl, ap, ◌∙◌}
use Prim.Native.Nat.{◌-◌}
use lib.ListN.{length, drop}
use Rattle.text.specs.Text.{text_of}
use Rattle.text.specs.Ordering.{order_of}
use Rattle.text.specs.inner.Code.{Coded, SameCodes, SharedAt}
use Rattle.text.specs.inner.Walk.{left_by}
use Rattle.text.proofs.Packed.{code-some, code_inside, same_second, same-past, shared_first, shared_second, shared_past}
use Rattle.text.proofs.Decoding.{left_at}
use Rattle.text.proofs.Seeing.{left-meant}
use borrow.Author.Rules.{rules}
use native.Mathlib.Omega.{arith}
use Rattle.text.proofs.ordering.order_spelled.Statement.{statement}
use Rattle.text.proofs.ordering.order_spelled.Tie as tie

abbrev invariant_loop : tie.invariant-loop-i
invariant_loop a b at i₀ j₀ i j = order_of (text_of (drop i a)) (text_of (drop j b)) ≡ order_of (text_of (drop at a)) (text_of (drop at b))

abbrev decreases_loop : tie.decreases-loop-i
decreases_loop a b at i₀ j₀ i j = length a - i

returns : tie.Need-returns-then-not-same_code invariant_loop decreases_loop
returns c =
    let e = c.before in let f = e.before in let o = f.before.before.before.before.before.before.before in let w = o.before.before.before.before in
    let q = w.before.before.before.args in
    c.order_left.ensures
    ∙ ap (λ x. order_of x (left_by false q.b.now e.cursor_at-then-not-same_code.result)) (left_at q.a.now w.loop-i.i _ f.cursor_at.ensures)
    ∙ ap (order_of (text_of (drop w.loop-i.i q.a.now))) (left-meant q.b.now false w.loop-i.j _ e.cursor_at-then-not-same_code.ensures)
    ∙ w.loop-i.invariant

-- a character of ASCII that is the same in both
module _ (c : tie.Then-same_code invariant_loop decreases_loop) where
  same : SameCodes c.before.before.before.ascii_at-x.result c.before.before.ascii_at-y.result
  same = c.before.same_code.ensures c.if-same_code.true

  first : let w = c.before.before.before.before in Coded w.before.before.before.args.a.now w.loop-i.i c.before.before.before.ascii_at-x.result
  first = c.before.before.before.ascii_at-x.ensures same.first

  second : let w = c.before.before.before.before in Coded w.before.before.before.args.b.now w.loop-i.j c.before.before.ascii_at-y.result
  second = c.before.before.ascii_at-y.ensures (same_second first same)

loop_less : tie.Need-loop-i-smaller-then-same_code invariant_loop decreases_loop
loop_less c = let x = first c.before.before in omega (arith, c.before.width-i.ensures, code-some x, code_inside x)

loop_again : tie.Need-loop-i-preserved-then-same_code invariant_loop decreases_loop
loop_again c =
    let d = c.before.before in same-past (first d) (second d) (same d) c.before.width-i.ensures c.width-j.ensures ∙ d.before.before.before.before.loop-i.invariant

-- one that stands for itself in both
shared : (c : tie.Then-n-gt0 invariant_loop decreases_loop) → let w = c.before.before.before.before.before.before in let q = w.before.before.before.args in
    SharedAt q.a.now q.b.now w.loop-i.i w.loop-i.j c.before.same_wide-n.result
shared c = c.before.same_wide-n.ensures c.if-n-gt0.true

loop_again_2 : tie.Need-loop-i-preserved-then-n-gt0 invariant_loop decreases_loop
loop_again_2 c = shared_past (shared c) ∙ c.before.before.before.before.before.before.loop-i.invariant

-- any other
module _ (c : tie.Else-not-same_code invariant_loop decreases_loop) where
  same_3 : SameCodes c.before.before.before.code_at-c.result c.before.before.code_at-d.result
  same_3 = c.before.same_code-else-n-gt0.ensures c.if-not-same_code.false

  first_3 : let w = c.before.before.before.before.before.before.before.before.before.before in
      Coded w.before.before.before.args.a.now w.loop-i.i c.before.before.before.code_at-c.result
  first_3 = c.before.before.before.code_at-c.ensures same_3.first

  second_3 : let w = c.before.before.before.before.before.before.before.before.before.before in
      Coded w.before.before.before.args.b.now w.loop-i.j c.before.before.code_at-d.result
  second_3 = c.before.before.code_at-d.ensures (same_second first_3 same_3)

loop_less_3 : tie.Need-loop-i-smaller invariant_loop decreases_loop
loop_less_3 c = let x = first_3 c.before.before in omega (arith, c.before.width-i-else-n-gt0.ensures, code-some x, code_inside x)

loop_again_3 : tie.Need-loop-i-preserved invariant_loop decreases_loop
loop_again_3 c =
    let d = c.before.before in
    same-past (first_3 d) (second_3 d) (same_3 d) c.before.width-i-else-n-gt0.ensures c.width-j-else-n-gt0.ensures
    ∙ d.before.before.before.before.before.before.before.before.before.before.loop-i.invariant

pub order_spelled_spec : {M : Type 1} → statement M
order_spelled_spec =
    tie.close
    (tie.spec invariant_loop decreases_loop (λ c. refl) (λ c κs. search rules) (λ c κs. search rules) (λ c κs. search rules) (λ c κs. search rules)
    (λ c. omega (arith, c.width-i.ensures, code_inside (first c.before))) (λ c κs. search rules)
    (λ c. omega (arith, c.width-j.ensures, code_inside (second c.before.before))) loop_less loop_again
    (λ c κs. search rules) (λ c. omega (arith, shared_first (shared c))) (λ c. omega (arith, shared_second (shared c)))
    (λ c. omega (arith, c.if-n-gt0.true, shared_first (shared c))) loop_again_2
    (λ c κs. search rules) (λ c κs. search rules) (λ c κs. search rules) (λ c κs. search rules) (λ c κs. search rules) (λ c κs. search rules) returns
    (λ c κs. search rules) (λ c. omega (arith, c.width-i-else-n-gt0.ensures, code_inside (first_3 c.before))) (λ c κs. search rules)
    (λ c. omega (arith, c.width-j-else-n-gt0.ensures, code_inside (second_3 c.before.before))) loop_less_3 loop_again_3)
