-- The ways through what repeats: what follows an element, and a run of elements to their closing bracket. An element takes a byte
-- at least, so the bound on their number does not matter where it is above the text's length.
use mathlib.Core.Bool.{true, false}
use mathlib.Core.List.{List, [], ◌∷◌}
use mathlib.Core.Path.{◌≡◌, refl, ap, ◌∙◌}
use Prim.Native.Nat.{ℕ, zero, suc, ◌≤◌, ◌<◌}
use native.Mathlib.Omega.{arith}
use lib.ListN.{length}
use lib.Dec.{eqb}
use Rattle.notation.proofs.Booleans.{by_test}
use Rattle.word.specs.Kinds.{not_json}
use Rattle.lexeme.specs.Read.{Read, made}
use Rattle.lexeme.specs.Read.Read.{done, bad}
use Rattle.lexeme.specs.Tokens.{blanks}
use Rattle.lexeme.proofs.Reading.{Consumes}
use Rattle.lexeme.proofs.Shrinks.{blanks_shrinks}
use Rattle.json_text.specs.Text.{After, after, elements_up_to}
use Rattle.json_text.specs.Text.After.{closed, more, wrong}
use Rattle.json_text.proofs.Steps.{after-end, after-closed, after_more, after-wrong, elements-bad, elements-closed, elements-more, elements-wrong}

-- what follows an element, after blanks
pub data Follows (close : ℕ) (l : List ℕ) : After → Type 0 where
  at-end : blanks l ≡ [] → Follows close l (wrong [])
  at_close : {b : ℕ} {q : List ℕ} → blanks l ≡ b ∷ q → eqb b close ≡ true → Follows close l (closed q)
  at-comma : {b : ℕ} {q : List ℕ} → blanks l ≡ b ∷ q → eqb b close ≡ false → eqb b 0x2c ≡ true → Follows close l (more (blanks q))
  at_other : {b : ℕ} {q : List ℕ} → blanks l ≡ b ∷ q → eqb b close ≡ false → eqb b 0x2c ≡ false → Follows close l (wrong (b ∷ q))

pub follows : (close : ℕ) (l : List ℕ) → Follows close l (after close l)
follows close l = go (blanks l) refl
  where
    go : (m : List ℕ) → blanks l ≡ m → Follows close l (after close l)
    go [] e = rw (after-end close l e) (at-end e)
    go (b ∷ q) e =
        by_test (eqb b close) (λ h. rw (after-closed close l b q e h) (at_close e h))
        (λ h. by_test (eqb b 0x2c) (λ k. rw (after_more close l b q e h k) (at-comma e h k)) (λ k. rw (after-wrong close l b q e h k) (at_other e h k)))

pub follows_as : (close : ℕ) (l : List ℕ) {a : After} → after close l ≡ a → Follows close l a
follows_as close l e = rw e at (follows close l)

-- the text that is left, where it goes on and at a fault
abbrev pub Less : List ℕ → After → Type 0
Less l (closed q) = length q < length l
Less l (more q) = length q < length l
Less l (wrong q) = length q ≤ length l

follows_less : (close : ℕ) (l : List ℕ) {a : After} → Follows close l a → Less l a
follows_less close l (at-end e) = omega arith
follows_less close l (at_close {b} {q} e h) = omega (arith, blanks_shrinks l, ap length e)
follows_less close l (at-comma {b} {q} e h k) = omega (arith, blanks_shrinks l, blanks_shrinks q, ap length e)
follows_less close l (at_other {b} {q} e h k) = omega (arith, blanks_shrinks l, ap length e)

pub after_less : (close : ℕ) (l : List ℕ) {a : After} → after close l ≡ a → Less l a
after_less close l e = follows_less close l (follows_as close l e)

-- elements, as many as the text's length lets be
abbrev pub all : {A : Type 0} → ℕ → (List ℕ → Read A) → List ℕ → Read (List A)
all close element l = elements_up_to close (suc (length l)) element l

-- a run of elements from l on, and what reading it gives
pub data Run {A : Type 0} (close : ℕ) (element : List ℕ → Read A) : List ℕ → Read (List A) → Type 0 where
  faulty : {l r : List ℕ} {k : ℕ} → element l ≡ bad k r → Run close element l (bad k r)
  last : {l r q : List ℕ} {x : A} → element l ≡ done x r → after close r ≡ closed q → Run close element l (done (x ∷ []) q)
  next : {l r q : List ℕ} {x : A} {o : Read (List A)}
      → element l ≡ done x r → after close r ≡ more q → Run close element q o → Run close element l (made (λ xs. x ∷ xs) o)
  broken : {l r q : List ℕ} {x : A} → element l ≡ done x r → after close r ≡ wrong q → Run close element l (bad not_json q)

module _ {A : Type 0} (close : ℕ) (element : List ℕ → Read A) (consumes : Consumes element) where
  pub run : (most : ℕ) (l : List ℕ) → length l < most → Run close element l (elements_up_to close most element l)
  run zero l h = absurd (omega arith)
  run (suc most) l h = first (run most) (element l) refl
    where
      first : ((q : List ℕ) → length q < most → Run close element q (elements_up_to close most element q))
          → (o : Read A) → element l ≡ o → Run close element l (elements_up_to close (suc most) element l)
      first ih (bad k r) e = rw (elements-bad close most element l k r e) (faulty e)
      first ih (done x r) e = second (after close r) refl
        where
          second : (a : After) → after close r ≡ a → Run close element l (elements_up_to close (suc most) element l)
          second (closed q) i = rw (elements-closed close most element l x r q e i) (last e i)
          second (wrong q) i = rw (elements-wrong close most element l x r q e i) (broken e i)
          second (more q) i =
              rw (elements-more close most element l x r q e i) (next e i (ih q (omega (arith, consumes l r x e, after_less close r i))))

  pub run_reads : {l : List ℕ} {o : Read (List A)} → Run close element l o → (most : ℕ) → length l < most → elements_up_to close most element l ≡ o
  run_reads {l} u zero h = absurd (omega arith)
  run_reads {l} (faulty {r = r} {k = k} e) (suc most) h = elements-bad close most element l k r e
  run_reads {l} (last {r = r} {q = q} {x = x} e i) (suc most) h = elements-closed close most element l x r q e i
  run_reads {l} (broken {r = r} {q = q} {x = x} e i) (suc most) h = elements-wrong close most element l x r q e i
  run_reads {l} (next {r = r} {q = q} {x = x} e i u) (suc most) h =
      elements-more close most element l x r q e i ∙ ap (made (λ xs. x ∷ xs)) (run_reads {l = q} u most (omega (arith, consumes l r x e, after_less close r i)))

  pub elements_bound : (most other : ℕ) (l : List ℕ) → length l < most → length l < other → elements_up_to close most element l ≡ elements_up_to close other element l
  elements_bound most other l h k = run_reads (run other l k) most h

  -- an element, and those after it
  pub elements-next : (l r q : List ℕ) (x : A) → element l ≡ done x r → after close r ≡ more q
      → all close element l ≡ made (λ xs. x ∷ xs) (all close element q)
  elements-next l r q x e i =
      elements-more close (length l) element l x r q e i
      ∙ ap (made (λ xs. x ∷ xs)) (elements_bound (length l) (suc (length q)) q (omega (arith, consumes l r x e, after_less close r i)) (omega arith))
