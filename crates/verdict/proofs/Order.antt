-- The order of broken rules: the file decides first, and within a file it is the order of faults, whose laws carry over.
use mathlib.Core.Bool.{true, false}
use mathlib.Core.Path.{◌≡◌, refl, sym, ◌∙◌}
use Prim.Native.Nat.{◌≤◌, ◌<◌}
use native.Mathlib.Omega.{arith}
use lib.Dec.{ltb}
use borrow.Author.Tests.{ltb-true, ltb-false, lt-ltb, le-ltb}
use Rattle.notation.proofs.Booleans.{by_test, true-false}
use Rattle.word.specs.declared.Parts.{Parts}
use Rattle.fault.specs.declared.Fault.{Fault}
use Rattle.fault.specs.Fault as fault
use Rattle.fault.proofs.Order as faults
use Rattle.verdict.specs.Verdict.{before}

-- a rule without its file
abbrev pub fault_of : Parts → Fault
fault_of p = fault.fault p.«record» p.field p.sub p.kind

module _ (p q : Parts) where
  lower-file : p.file < q.file → before p q ≡ true
  unfolding before
  lower-file h = rw (lt-ltb p.file q.file h)

  pub higher_file : q.file < p.file → before p q ≡ false
  unfolding before
  higher_file h = rw (le-ltb p.file q.file (omega arith), lt-ltb q.file p.file h)

  pub same-file : p.file ≡ q.file → before p q ≡ fault.before (fault_of p) (fault_of q)
  unfolding before
  same-file h = rw (le-ltb p.file q.file (omega arith), le-ltb q.file p.file (omega arith))

  -- what does not come after is of no later file
  pub not-before-file : before p q ≡ false → q.file ≤ p.file
  not-before-file e =
      by_test (ltb p.file q.file) (λ t. true-false (lower-file (ltb-true p.file q.file t)) e) (ltb-false p.file q.file)

  before-file : before p q ≡ true → p.file ≤ q.file
  before-file e =
      by_test (ltb q.file p.file) (λ t. true-false e (higher_file (ltb-true q.file p.file t))) (ltb-false q.file p.file)

-- the laws
pub before_irrefl : (p : Parts) → before p p ≡ false
before_irrefl p = same-file p p refl ∙ faults.before_irrefl (fault_of p)

pub before_asym : (p q : Parts) → before p q ≡ true → before q p ≡ false
before_asym p q e =
    by_test (ltb p.file q.file) (λ t. higher_file q p (ltb-true p.file q.file t)) λ f.
    let h = ltb-false p.file q.file f in let k = before-file p q e in let i : p.file ≡ q.file = omega arith in
    same-file q p (sym i) ∙ faults.before_asym (fault_of p) (fault_of q) (sym (same-file p q i) ∙ e)

-- what is not before q, which is not before p, is not before p
pub before-after : (p q r : Parts) → before q p ≡ false → before r q ≡ false → before r p ≡ false
before-after p q r t u =
    let h = not-before-file q p t in let k = not-before-file r q u in
    by_test (ltb p.file r.file) (λ a. higher_file r p (ltb-true p.file r.file a)) λ a.
    let l = ltb-false p.file r.file a in
    let i : q.file ≡ p.file = omega arith in let j : r.file ≡ q.file = omega arith in
    same-file r p (j ∙ i) ∙
    faults.before-after (fault_of p) (fault_of q) (fault_of r) (sym (same-file q p i) ∙ t) (sym (same-file r q j) ∙ u)
