-- Where reading ended, as the code answers it, from what was read; and what was read, from that answer, for readers that leave a
-- rest of their text. The value that was read has no part in it.
use mathlib.Core.List.{List, ◌++◌}
use mathlib.Core.Path.{◌≡◌, refl, sym, ap, ◌∙◌}
use Prim.Native.Nat.{ℕ, ◌-◌, ◌≤◌, ◌<◌}
use native.Mathlib.Omega.{arith}
use lib.ListN.{length, drop, length-drop}
use Rattle.lexeme.specs.Read.{Read, made, placed, wrong_at}
use Rattle.lexeme.specs.Read.Read.{done, bad}
use Rattle.lexeme.proofs.Reading.{Consumes, StrongPrefix}
use Rattle.lexeme.proofs.Rests.{place_at, rest_at, rest-after}
use Rattle.std.specs.Prelude.{Ok, Err}
use Rattle.lexeme.specs.declared.SyntaxError.{SyntaxError}

pub placed-made : {A B : Type 0} (s : List ℕ) (f : A → B) (o : Read A) → placed s (made f o) ≡ placed s o
unfolding made placed
placed-made s f (done x r) = refl
placed-made s f (bad k r) = refl

-- the code's answers
module _ {A : Type 0} (s : List ℕ) (l : List ℕ) (n : ℕ) (o : Read A) (e : n ≡ length s - length l) where
  pub ends : (x : A) → o ≡ done x l → Ok n ≡ placed s o
  unfolding placed
  ends x h = rw (h, e)

  pub faults : (k : ℕ) → o ≡ bad k l → wrong_at k n ≡ placed s o
  unfolding placed
  faults k h = rw (h, e)

module _ {A : Type 0} (s : List ℕ) (i : ℕ) (o : Read A) (h : i ≤ length s) where
  pub ends_at : (x : A) → o ≡ done x (drop i s) → Ok i ≡ placed s o
  ends_at = ends s (drop i s) i o (place_at s i h)

  pub faults-at : (k : ℕ) → o ≡ bad k (drop i s) → wrong_at k i ≡ placed s o
  faults-at = faults s (drop i s) i o (place_at s i h)

-- a fault that is handed on
pub passes : {A B : Type 0} (s : List ℕ) (w : SyntaxError) (o : Read A) (p : Read B) → Err w ≡ placed s o → ((r : List ℕ) → o ≡ bad w.kind r → p ≡ bad w.kind r) → Err w ≡ placed s p
unfolding placed
passes s w (done x r) p e f = let z : ◌≡◌ {A = ℕ} 0 1 = cc in absurd (omega arith)
passes s w (bad j r) p e f =
    let i : w ≡ record { kind = j; offset = length s - length r } = cc in
    faults s r w.offset p (ap (λ (z : SyntaxError). z.offset) i) w.kind (f r (ap (λ (k : ℕ). bad k r) (sym (ap (λ (z : SyntaxError). z.kind) i))))

-- a reader leaves a rest of its text
abbrev pub Leaves : {A : Type 0} → (List ℕ → Read A) → Type 0
Leaves {A} f = (l r : List ℕ) (x : A) → f l ≡ done x r → (p : List ℕ) × (l ≡ p ++ r)

pub takes_leaves : {A : Type 0} (C : List ℕ → List ℕ → Type 0) (f : List ℕ → Read A) → StrongPrefix C f → Leaves f
takes_leaves C f t l r x e = let k = t l r x e in (k.part, k.splits)

-- what f reads from the place i on, it reads up to j
pub record Lands {A : Type 0} (f : List ℕ → Read A) (s : List ℕ) (i j : ℕ) : Type 0 where
  pub what : A
  pub reads : f (drop i s) ≡ done what (drop j s)
  pub from : i ≤ length s → i ≤ j
  pub upto : j ≤ length s

pub lands : {A : Type 0} (f : List ℕ → Read A) (s : List ℕ) (i j : ℕ) → Leaves f → Ok j ≡ placed s (f (drop i s)) → Lands f s i j
unfolding placed
lands {A} f s i j leaves e = go (f (drop i s)) refl
  where
    go : (o : Read A) → f (drop i s) ≡ o → Lands f s i j
    go (bad k r) h =
        let w : Ok j ≡ wrong_at k (length s - length r) = rw h at e in
        let z : ◌≡◌ {A = ℕ} 0 1 = cc in absurd (omega arith)
    go (done x r) h =
        let w : Ok j ≡ Ok (length s - length r) = rw h at e in
        let n : j ≡ length s - length r = cc in
        let p = leaves (drop i s) r x h in
        record {
          what = x;
          reads = h ∙ ap (done x) (sym (ap (λ (m : ℕ). drop m s) n ∙ rest_at s i p.0 r p.1));
          from = λ k. rw n (rest-after s i p.0 r p.1 k);
          upto = omega arith;
        }

pub lands_after : {A : Type 0} (f : List ℕ → Read A) (s : List ℕ) (i j : ℕ) → Consumes f → Lands f s i j → i < j
lands_after f s i j consumes h = omega (arith, consumes (drop i s) (drop j s) h.what h.reads, length-drop i s, length-drop j s, h.upto)
