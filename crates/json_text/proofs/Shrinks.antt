-- No reader leaves more text than it was given, and its faults are of the kinds that its rules have.
use mathlib.Core.List.{List, [], ◌∷◌}
use mathlib.Core.Path.{◌≡◌, refl}
use Prim.Native.Nat.{ℕ, zero, suc, ◌≤◌}
use native.Mathlib.Omega.{arith}
use lib.ListN.{length, drop}
use lib.Dec.{eqb}
use Rattle.notation.proofs.Booleans.{by_test}
use Rattle.word.specs.Kinds.{not_json, too_deep}
use Rattle.lexeme.specs.Read.{Read, then, made}
use Rattle.lexeme.specs.Read.Read.{done, bad}
use Rattle.lexeme.specs.Character.{Surrogates}
use Rattle.lexeme.specs.Strings
use Rattle.lexeme.specs.Numbers
use Rattle.lexeme.specs.Tokens.{blanks, literal}
use Rattle.lexeme.proofs.Reading.{rest, Shrinks}
use Rattle.lexeme.proofs.Shrinks.{blanks_shrinks, string_shrinks, number_shrinks, literal_shrinks}
use Rattle.json_text.specs.Tree.{Json}
use Rattle.json_text.specs.Text.{expect, After, after, elements_up_to, contents, bracketed, member, value_by, value, finish, text}
use Rattle.json_text.specs.Text.After.{closed, more, wrong}
use Rattle.json_text.proofs.Steps.{expect-here, expect-other, onward, elements-then, onward-closed, onward-more, onward-wrong, contents-none, contents-some, named, member-then, chosen}
use Rattle.json_text.proofs.Bound.{after_less}
use Rattle.json_text.proofs.FaultKinds.{Plain, number-plain, literal-plain, Kind, grammar, surrogate, levels, string-kind}

-- where reading a text of n bytes may end, by the rules that ρ and d levels set
abbrev pub Ends : {A : Type 0} → Surrogates → ℕ → ℕ → Read A → Type 0
Ends ρ d n (done x r) = length r ≤ n
Ends ρ d n (bad k r) = (length r ≤ n) × Kind ρ d n k r

module _ (ρ : Surrogates) (d : ℕ) where
  kind-more : (m n k : ℕ) (r : List ℕ) → m ≤ n → Kind ρ d m k r → Kind ρ d n k r
  kind-more m n k r h (grammar e) = grammar e
  kind-more m n k r h (surrogate p e) = surrogate p e
  kind-more m n k r h (levels e some f) = levels e some (omega arith)

  ends_more : {A : Type 0} (m n : ℕ) (o : Read A) → m ≤ n → Ends ρ d m o → Ends ρ d n o
  ends_more m n (done x r) h e = omega arith
  ends_more m n (bad k r) h e = (omega arith, kind-more m n k r h e.1)

  pub ends-made : {A B : Type 0} (f : A → B) (n : ℕ) (o : Read A) → Ends ρ d n o → Ends ρ d n (made f o)
  unfolding made
  ends-made f n (done x r) e = e
  ends-made f n (bad k r) e = e

  ends-then : {A B : Type 0} (n : ℕ) (o : Read A) (g : A → List ℕ → Read B) → Ends ρ d n o → ((x : A) (r : List ℕ) → Ends ρ d (length r) (g x r)) → Ends ρ d n (then o g)
  unfolding then
  ends-then n (done x r) g e h = ends_more (length r) n (g x r) e (h x r)
  ends-then n (bad k r) g e h = e

  wrong-here : (l : List ℕ) → (length l ≤ length l) × Kind ρ d (length l) not_json l
  wrong-here l = (omega arith, grammar refl)

  -- readers
  abbrev pub Stays : {A : Type 0} → (List ℕ → Read A) → Type 0
  Stays f = (l : List ℕ) → Ends ρ d (length l) (f l)

  pub blanks_stay : {A : Type 0} (f : List ℕ → Read A) → Stays f → Stays (λ l. f (blanks l))
  blanks_stay f h l = ends_more (length (blanks l)) (length l) (f (blanks l)) (blanks_shrinks l) (h (blanks l))

  pub expect_stays : {A : Type 0} (c : ℕ) (f : List ℕ → Read A) → Stays f → Stays (expect c f)
  unfolding expect
  expect_stays c f h [] = wrong-here []
  expect_stays c f h (b ∷ l) =
      by_test (eqb b c) (λ e. rw (expect-here c f b l e) (ends_more (length l) (length (b ∷ l)) (f l) (omega arith) (h l)))
      (λ e. rw (expect-other c f b l e) (wrong-here (b ∷ l)))

  pub onward_stays : {A : Type 0} (close most : ℕ) (element : List ℕ → Read A) → Stays (elements_up_to close most element) → (x : A) → Stays (onward close most element x)
  onward_stays close most element h x l = go (after close l) refl
    where
      go : (a : After) → after close l ≡ a → Ends ρ d (length l) (onward close most element x l)
      go (closed q) e = rw (onward-closed close most element x l q e) (omega (arith, after_less close l e))
      go (wrong q) e = rw (onward-wrong close most element x l q e) (after_less close l e, grammar refl)
      go (more q) e =
          rw (onward-more close most element x l q e)
          (ends-made (λ xs. x ∷ xs) (length l) (elements_up_to close most element q)
          (ends_more (length q) (length l) (elements_up_to close most element q) (omega (arith, after_less close l e)) (h q)))

  module _ {A : Type 0} (close : ℕ) (element : List ℕ → Read A) (h : Stays element) where
    pub elements_stay : (most : ℕ) → Stays (elements_up_to close most element)
    unfolding elements_up_to
    elements_stay zero l = wrong-here l
    elements_stay (suc most) l =
        rw (elements-then close most element l) (ends-then (length l) (element l) _ (h l) (onward_stays close most element (elements_stay most)))

    pub contents_stay : Stays (contents close element)
    unfolding contents
    contents_stay [] = wrong-here []
    contents_stay (b ∷ l) =
        by_test (eqb b close) (λ e. rw (contents-none close element b l e) (omega arith))
        (λ e. rw (contents-some close element b l e) (elements_stay (suc (length (b ∷ l))) (b ∷ l)))

    pub bracketed_stays : Stays (bracketed close element)
    unfolding bracketed
    bracketed_stays = blanks_stay (contents close element) contents_stay

  string_stays : (l : List ℕ) → Ends ρ d (length l) (Strings.string ρ 0 l)
  string_stays l = go (Strings.string ρ 0 l) refl
    where
      go : (o : Read (List ℕ)) → Strings.string ρ 0 l ≡ o → Ends ρ d (length l) o
      go (done x r) e = rw e at (string_shrinks ρ 0 l)
      go (bad k r) e = (rw e at (string_shrinks ρ 0 l), string-kind ρ 0 d (length l) k l r e)

  -- a reader that leaves no more text, and has faults of kind 2 only
  plain_stays : {A : Type 0} (f : List ℕ → Read A) → Shrinks f → ((l : List ℕ) → Plain (f l)) → Stays f
  plain_stays {A} f shrinks plain l = go (f l) (shrinks l) (plain l)
    where
      go : (o : Read A) → length (rest o) ≤ length l → Plain o → Ends ρ d (length l) o
      go (done x r) h p = h
      go (bad k r) h p = (h, grammar p)

  pub named_stays : (f : List ℕ → Read Json) → Stays f → (name : List ℕ) → Stays (named f name)
  named_stays f h name = blanks_stay (expect 0x3a _) (expect_stays 0x3a _ (λ q. ends-made (λ x. (name, x)) (length q) (f (blanks q)) (blanks_stay f h q)))

  pub member_stays : (f : List ℕ → Read Json) → Stays f → Stays (member ρ f)
  member_stays f h l = rw (member-then ρ f l) (ends-then (length l) _ (named f) (expect_stays 0x22 (Strings.string ρ 0) string_stays l) (named_stays f h))

  -- a value, from its first byte on
  abbrev Begun : (List ℕ → Read Json) → Type 0
  Begun f = (b : ℕ) (r : List ℕ) → Ends ρ d (length (b ∷ r)) (f (b ∷ r))

  opened_stays : {A : Type 0} (g : A → Json) (f : List ℕ → Read A) → Stays f → Begun (λ t. made g (f (drop 1 t)))
  opened_stays g f h b r = ends_more (length r) (length (b ∷ r)) (made g (f r)) (omega arith) (ends-made g (length r) (f r) (h r))

  value-by_stays : (arrays objects : List ℕ → Read Json) → Begun arrays → Begun objects → Stays (value_by ρ arrays objects)
  unfolding value_by
  value-by_stays arrays objects array object [] = wrong-here []
  value-by_stays arrays objects array object (b ∷ l) =
      let c =
      chosen ρ arrays objects Begun
      (opened_stays Json.string _ string_stays)
      (λ a r. ends-made Json.number (length (a ∷ r)) (Numbers.number (a ∷ r)) (plain_stays Numbers.number number_shrinks number-plain (a ∷ r)))
      array
      object
      (λ c w x a r. plain_stays (literal (c ∷ w) x) (literal_shrinks (c ∷ w) x) (literal-plain (c ∷ w) x) (a ∷ r))
      (λ a r. wrong-here (a ∷ r))
      b in
      rw (c.reads l) (c.holds b l)

-- one level more, from a bracket on: the bracket is one of those before a fault of kind 4
deeper : {A : Type 0} (ρ : Surrogates) (d n : ℕ) (o : Read A) → Ends ρ d n o → Ends ρ (suc d) (suc n) o
deeper ρ d n (done x r) e = omega arith
deeper ρ d n (bad k r) e = (omega arith, go e.1)
  where
    go : Kind ρ d n k r → Kind ρ (suc d) (suc n) k r
    go (grammar i) = grammar i
    go (surrogate p i) = surrogate p i
    go (levels i some f) = levels i some (omega arith)

level : {A : Type 0} (ρ : Surrogates) (d : ℕ) (g : A → Json) (f : List ℕ → Read A) → ((r : List ℕ) → Ends ρ d (length r) (f r))
    → (b : ℕ) (r : List ℕ) → Ends ρ (suc d) (length (b ∷ r)) (made g (f r))
level ρ d g f h b r = deeper ρ d (length r) (made g (f r)) (ends-made ρ d g (length r) (f r) (h r))

pub value-ends : (ρ : Surrogates) (d : ℕ) (l : List ℕ) → Ends ρ d (length l) (value ρ d l)
unfolding value
value-ends ρ zero = value-by_stays ρ zero (bad too_deep) (bad too_deep) too too
  where
    too : (b : ℕ) (r : List ℕ) → Ends {A = Json} ρ 0 (length (b ∷ r)) (bad too_deep (b ∷ r))
    too b r = (omega arith, levels refl (omega arith) (omega arith))
value-ends ρ (suc d) =
    let stays = value-ends ρ d in
    value-by_stays ρ (suc d) _ _
    (level ρ d _ (bracketed 0x5d (value ρ d)) (bracketed_stays ρ d 0x5d (value ρ d) stays))
    (level ρ d _ (bracketed 0x7d (member ρ (value ρ d))) (bracketed_stays ρ d 0x7d (member ρ (value ρ d)) (member_stays ρ d (value ρ d) stays)))

pub finish-ends : (ρ : Surrogates) (d : ℕ) (x : Json) (l : List ℕ) → Ends ρ d (length l) (finish x l)
unfolding finish
finish-ends ρ d x [] = omega arith
finish-ends ρ d x (b ∷ l) = wrong-here ρ d (b ∷ l)

pub text-ends : (ρ : Surrogates) (d : ℕ) (l : List ℕ) → Ends ρ d (length l) (text ρ d l)
unfolding text
text-ends ρ d l =
    ends-then ρ d (length l) _ _ (blanks_stay ρ d (value ρ d) (value-ends ρ d) l) (λ x. blanks_stay ρ d (finish x) (finish-ends ρ d x))

-- the lengths alone
ends_shrink : {A : Type 0} (ρ : Surrogates) (d n : ℕ) (o : Read A) → Ends ρ d n o → length (rest o) ≤ n
ends_shrink ρ d n (done x r) e = e
ends_shrink ρ d n (bad k r) e = e.0

pub stays_shrinks : {A : Type 0} (ρ : Surrogates) (d : ℕ) (f : List ℕ → Read A) → Stays ρ d f → Shrinks f
stays_shrinks ρ d f h l = ends_shrink ρ d (length l) (f l) (h l)

pub value_shrinks : (ρ : Surrogates) (d : ℕ) → Shrinks (value ρ d)
value_shrinks ρ d = stays_shrinks ρ d (value ρ d) (value-ends ρ d)

pub text_shrinks : (ρ : Surrogates) (d : ℕ) → Shrinks (text ρ d)
text_shrinks ρ d = stays_shrinks ρ d (text ρ d) (text-ends ρ d)
