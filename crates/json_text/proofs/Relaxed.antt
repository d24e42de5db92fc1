-- Laxer rules read at least as far: to the same end or fault, or past a fault that they drop. Such rules are lone surrogate escapes
-- that pass, and more levels.
use mathlib.Core.List.{List, [], ◌∷◌}
use mathlib.Core.Path.{◌≡◌, refl, ap, subst}
use mathlib.Core.Logic.{◌⊎◌, inl, inr}
use Prim.Native.Nat.{ℕ, zero, suc, ◌≤◌, ◌<◌}
use native.Mathlib.Omega.{arith}
use lib.ListN.{length}
use lib.Dec.{eqb}
use Rattle.notation.proofs.Booleans.{by_test}
use Rattle.word.specs.Kinds.{unpaired, too_deep}
use Rattle.lexeme.specs.Read.{Read, made}
use Rattle.lexeme.specs.Read.Read.{done, bad}
use Rattle.lexeme.specs.Character.{Surrogates, paired, lone}
use Rattle.lexeme.specs.Strings
use Rattle.lexeme.specs.Tokens.{blanks}
use Rattle.lexeme.specs.inner.Start.{Start, start}
use Rattle.lexeme.proofs.Reading.{rest, Relaxed}
use Rattle.lexeme.proofs.Reading.Relaxed.{same, further}
use Rattle.lexeme.proofs.Steps.{bad-done, bad_kind, bad-rest}
use Rattle.lexeme.proofs.Shrinks.{made_shrinks}
use Rattle.lexeme.proofs.Relaxed.{string_relaxed, made_relaxed, then_relaxed}
use Rattle.json_text.specs.Tree.{Json}
use Rattle.json_text.specs.Text.{expect, After, after, elements_up_to, contents, bracketed, member, value_by, value, finish, text}
use Rattle.json_text.specs.Text.After.{closed, more, wrong}
use Rattle.json_text.proofs.Steps.{expect-here, expect-other, onward, elements-then, onward-closed, onward-more, onward-wrong, contents-none, contents-some, named, member-then, value_at, value-start}
use Rattle.json_text.proofs.Shrinks.{Stays, stays_shrinks, blanks_stay, onward_stays, elements_stay, bracketed_stays, named_stays, member_stays, value-ends, finish-ends}

-- two readers, the second by laxer rules
abbrev pub Laxer : {A : Type 0} → (ℕ → Type 0) → (List ℕ → Read A) → (List ℕ → Read A) → Type 0
Laxer D f g = (l : List ℕ) → Relaxed D (f l) (g l)

module _ (D : ℕ → Type 0) where
  expect_relaxed : {A : Type 0} (c : ℕ) (f g : List ℕ → Read A) → Laxer D f g → Laxer D (expect c f) (expect c g)
  unfolding expect
  expect_relaxed c f g h [] = same
  expect_relaxed c f g h (b ∷ l) =
      by_test (eqb b c) (λ e. rw (expect-here c f b l e, expect-here c g b l e) (h l)) (λ e. rw (expect-other c f b l e, expect-other c g b l e) same)

  module _ {A : Type 0} (close : ℕ) (f g : List ℕ → Read A) (h : Laxer D f g) (σ : Surrogates) (d : ℕ) (stays : Stays σ d g) where
    onward_relaxed : (most : ℕ) → Laxer D (elements_up_to close most f) (elements_up_to close most g) → (x : A) → Laxer D (onward close most f x) (onward close most g x)
    onward_relaxed most ih x l = go (after close l) refl
      where
        go : (a : After) → after close l ≡ a → Relaxed D (onward close most f x l) (onward close most g x l)
        go (closed q) e = rw (onward-closed close most f x l q e, onward-closed close most g x l q e) same
        go (wrong q) e = rw (onward-wrong close most f x l q e, onward-wrong close most g x l q e) same
        go (more q) e = rw (onward-more close most f x l q e, onward-more close most g x l q e) (made_relaxed (λ xs. x ∷ xs) (ih q))

    elements_relaxed : (most : ℕ) → Laxer D (elements_up_to close most f) (elements_up_to close most g)
    unfolding elements_up_to
    elements_relaxed zero l = same
    elements_relaxed (suc most) l =
        rw (elements-then close most f l, elements-then close most g l)
        (then_relaxed (onward close most f) (onward close most g) (h l) (onward_relaxed most (elements_relaxed most))
        (λ x. stays_shrinks σ d (onward close most g x) (onward_stays σ d close most g (elements_stay σ d close g stays most) x)))

    contents_relaxed : Laxer D (contents close f) (contents close g)
    unfolding contents
    contents_relaxed [] = same
    contents_relaxed (b ∷ l) =
        by_test (eqb b close) (λ e. rw (contents-none close f b l e, contents-none close g b l e) same)
        (λ e. rw (contents-some close f b l e, contents-some close g b l e) (elements_relaxed (suc (length (b ∷ l))) (b ∷ l)))

    bracketed_relaxed : Laxer D (bracketed close f) (bracketed close g)
    unfolding bracketed
    bracketed_relaxed l = contents_relaxed (blanks l)

  module _ (ρ σ : Surrogates) (strings : Laxer D (Strings.string ρ 0) (Strings.string σ 0)) where
    member_relaxed : (f g : List ℕ → Read Json) → Laxer D f g → (d : ℕ) → Stays σ d g → Laxer D (member ρ f) (member σ g)
    member_relaxed f g h d stays l =
        rw (member-then ρ f l, member-then σ g l)
        (then_relaxed (named f) (named g) (expect_relaxed 0x22 (Strings.string ρ 0) (Strings.string σ 0) strings l)
        (λ name r. expect_relaxed 0x3a _ _ (λ q. made_relaxed (λ x. (name, x)) (h (blanks q))) (blanks r))
        (λ name. stays_shrinks σ d (named g name) (named_stays σ d g stays name)))

    -- from a value's first byte on
    abbrev From : (List ℕ → Read Json) → (List ℕ → Read Json) → Type 0
    From f g = (b : ℕ) (r : List ℕ) → Relaxed D (f (b ∷ r)) (g (b ∷ r))

    value-by_relaxed : (a o a' o' : List ℕ → Read Json) → From a a' → From o o' → Laxer D (value_by ρ a o) (value_by σ a' o')
    unfolding value_at
    value-by_relaxed a o a' o' arrays objects [] = unfold value_by in same
    value-by_relaxed a o a' o' arrays objects (b ∷ r) = rw (value-start ρ a o b r, value-start σ a' o' b r) (go (start b) refl)
      where
        go : (t : Start) → start b ≡ t → Relaxed D (value_at ρ a o b r) (value_at σ a' o' b r)
        go Start.string h = rw (h, value_at) (made_relaxed Json.string (strings r))
        go Start.number h = rw (h, value_at) same
        go Start.array h = rw (h, value_at) (arrays b r)
        go Start.object h = rw (h, value_at) (objects b r)
        go Start.letter_t h = rw (h, value_at) same
        go Start.letter_f h = rw (h, value_at) same
        go Start.letter_n h = rw (h, value_at) same
        go Start.other h = rw (h, value_at) same

    -- what opens one level too many is read by laxer rules
    past : {A : Type 0} (d : ℕ) (g : A → Json) (f : List ℕ → Read A) → D too_deep → Stays σ d f → (b : ℕ) (r : List ℕ) → Relaxed D (bad too_deep (b ∷ r)) (made g (f r))
    past d g f h stays b r = further {r = b ∷ r} {o = made g (f r)} h (omega (arith, made_shrinks g f (stays_shrinks σ d f stays) r))

    pub value_relaxed : (d e : ℕ) → d ≤ e → (d < e → D too_deep) → Laxer D (value ρ d) (value σ e)
    unfolding value
    value_relaxed zero zero h deep = value-by_relaxed _ _ _ _ (λ b r. same) (λ b r. same)
    value_relaxed zero (suc e) h deep =
        value-by_relaxed _ _ _ _
        (past e _ (bracketed 0x5d (value σ e)) (deep (omega arith)) (bracketed_stays σ e 0x5d (value σ e) (value-ends σ e)))
        (past e _ (bracketed 0x7d (member σ (value σ e))) (deep (omega arith)) (bracketed_stays σ e 0x7d (member σ (value σ e)) (member_stays σ e (value σ e) (value-ends σ e))))
    value_relaxed (suc d) zero h deep = absurd (omega arith)
    value_relaxed (suc d) (suc e) h deep =
        let ih = value_relaxed d e (omega arith) (λ i. deep (omega arith)) in
        let stays = value-ends σ e in
        value-by_relaxed _ _ _ _
        (λ b r. made_relaxed _ (bracketed_relaxed 0x5d (value ρ d) (value σ e) ih σ e stays r))
        (λ b r. made_relaxed _ (bracketed_relaxed 0x7d (member ρ (value ρ d)) (member σ (value σ e)) (member_relaxed (value ρ d) (value σ e) ih e stays) σ e (member_stays σ e (value σ e) stays) r))

    text_relaxed : (d e : ℕ) → d ≤ e → (d < e → D too_deep) → Laxer D (text ρ d) (text σ e)
    unfolding text
    text_relaxed d e h deep l =
        then_relaxed _ _ (value_relaxed d e h deep (blanks l)) (λ x r. same) (λ x. stays_shrinks σ e (λ r. finish x (blanks r)) (blanks_stay σ e (finish x) (finish-ends σ e x)))

-- more kinds dropped
widen : {A : Type 0} {D E : ℕ → Type 0} → ((n : ℕ) → D n → E n) → {o p : Read A} → Relaxed D o p → Relaxed E o p
widen h same = same
widen h (further d less) = further (h _ d) less

-- both at once
pub text_relaxed_both : {d e : ℕ} → d ≤ e → (l : List ℕ) → Relaxed (λ n. (n ≡ unpaired) ⊎ (n ≡ too_deep)) (text paired d l) (text lone e l)
text_relaxed_both {d} {e} h =
    text_relaxed (λ n. (n ≡ unpaired) ⊎ (n ≡ too_deep)) paired lone (λ l. widen (λ n i. inl i) (string_relaxed 0 l)) d e h (λ i. inr refl)

pub text_relaxed_surrogates : (d : ℕ) (l : List ℕ) → Relaxed (λ n. n ≡ unpaired) (text paired d l) (text lone d l)
text_relaxed_surrogates d = text_relaxed (λ n. n ≡ unpaired) paired lone (string_relaxed 0) d d (omega arith) (λ h. absurd (omega arith))

pub text_relaxed_depth : (ρ : Surrogates) {d e : ℕ} → d ≤ e → (l : List ℕ) → Relaxed (λ n. n ≡ too_deep) (text ρ d l) (text ρ e l)
text_relaxed_depth ρ {d} {e} h = text_relaxed (λ n. n ≡ too_deep) ρ ρ (λ l. same) d e h (λ i. refl)

pub value_goes_depth : (ρ : Surrogates) {d e : ℕ} → d ≤ e → (l : List ℕ) → Relaxed (λ n. n ≡ too_deep) (value ρ d l) (value ρ e l)
value_goes_depth ρ {d} {e} h = value_relaxed (λ n. n ≡ too_deep) ρ ρ (λ l. same) d e h (λ i. refl)

-- what the laxer reading is, by what the stricter one is: the same end, the same fault, or past it
module _ {A : Type 0} {D : ℕ → Type 0} where
  pub ends_too : {o p : Read A} {x : A} {r : List ℕ} → Relaxed D o p → o ≡ done x r → p ≡ done x r
  ends_too same e = e
  ends_too (further d less) e = bad-done e

  pub faults_too : {o p : Read A} {k : ℕ} {r : List ℕ} → Relaxed D o p → o ≡ bad k r → (D k → ⊥) → p ≡ bad k r
  faults_too same e kept = e
  faults_too (further d less) e kept = absurd (kept (subst D (bad_kind e) d))

  pub relaxed_past : {o p : Read A} {k : ℕ} {r : List ℕ} → Relaxed D o p → o ≡ bad k r → (p ≡ bad k r → ⊥) → length (rest p) < length r
  relaxed_past same e dropped = absurd (dropped e)
  relaxed_past (further d less) e dropped = omega (arith, ap length (bad-rest e))
