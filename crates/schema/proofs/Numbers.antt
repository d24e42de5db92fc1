-- A number stands for one name: a text has a number where it is a name, and its number's name is the text. At the place of each name its own number stands, by a test
-- that is computed; so what is at a text's place is its number where its name is the text, and else the text is no name.
use mathlib.Core.Bool.{Bool, true, false}
use mathlib.Core.List.{List, [], ◌∷◌}
use mathlib.Core.Path.{◌≡◌, refl, sym, ap, ◌∙◌}
use Prim.Native.Nat.{ℕ, zero, suc, ◌+◌, ◌-◌, ◌≤◌, ◌<◌}
use native.Mathlib.Decide.{ℕ_discrete}
use native.Mathlib.Omega.{arith}
use lib.Dec.{eqb, leb, ltb}
use lib.ListN.{length, get_or, take, length-take}
use lib.Seq.{take_all}
use borrow.Author.Tests.{eq-eqb, ne_eqb, eqb-true, leb-true, leb-false, ltb-true}
use Rattle.notation.specs.Choice.{◌and◌}
use Rattle.notation.proofs.Booleans.{by_test, and_left, and_right}
use Rattle.text.specs.Text.{text_of, same}
use Rattle.text.proofs.Laws.{same_true, same_false}
use Rattle.schema.specs.inner.Names.{number_from, number_in, name_by, place_of}

-- A test that every name passes.
unfoldable pub all : (List ℕ → Bool) → List (List ℕ) → Bool
all test [] = true
all test (x ∷ xs) = test x and all test xs

pub all-at : (test : List ℕ → Bool) (xs : List (List ℕ)) → all test xs ≡ true → (i : ℕ) → i < length xs → test (get_or xs i []) ≡ true
unfolding all
all-at test [] e i h = absurd (omega arith)
all-at test (x ∷ xs) e zero h = and_left (test x) (all test xs) e
all-at test (x ∷ xs) e (suc i) h = all-at test xs (and_right (test x) (all test xs) e) i (omega arith)

-- Numbers, by whether the first name is the text.
module _ (k : ℕ) (name : List ℕ) (names : List (List ℕ)) (x : List ℕ) where
  number-here : same x name ≡ true → number_from k (name ∷ names) x ≡ k
  unfolding number_from
  number-here t = rw (number_from, t)

  number-later : same x name ≡ false → number_from k (name ∷ names) x ≡ number_from (k + 1) names x
  unfolding number_from
  number-later t = rw (number_from, t)

-- m is the number of x, of names that are numbered from k on
record Numbered (k : ℕ) (names : List (List ℕ)) (x : List ℕ) (m : ℕ) : Type 0 where
  from : k ≤ m
  few : m < k + length names
  is : get_or names (m - k) [] ≡ x

numbered : (k : ℕ) (names : List (List ℕ)) (x : List ℕ) (m : ℕ) → number_from k names x ≡ m → (m ≡ 0 → ⊥) → Numbered k names x m
unfolding number_from
numbered k [] x m e h = absurd (h (sym e))
numbered k (name ∷ names) x m e h =
    let ih = numbered (k + 1) names x m in
    by_test (same x name)
    (λ t.
    let z : m ≡ k = sym e ∙ number-here k name names x t in
    let d : m - k ≡ 0 = omega arith in
    record { from = omega arith; few = omega arith; is = ap (λ j. get_or (name ∷ names) j []) d ∙ sym (same_true x name t) })
    λ t.
    let r = ih (sym (number-later k name names x t) ∙ e) h in
    let d : m - k ≡ suc (m - (k + 1)) = omega arith in
    record { from = omega arith; few = omega arith; is = ap (λ j. get_or (name ∷ names) j []) d ∙ r.is }

-- what has no number is none of the names
unnumbered : (k : ℕ) (names : List (List ℕ)) (x : List ℕ) → 0 < k → number_from k names x ≡ 0 → (j : ℕ) → j < length names → same x (get_or names j []) ≡ false
unnumbered k [] x h e j l = absurd (omega arith)
unnumbered k (name ∷ names) x h e zero l =
    by_test (same x name) (λ t. absurd (omega (arith, sym (number-here k name names x t) ∙ e))) λ t. t
unnumbered k (name ∷ names) x h e (suc j) l =
    let ih = unnumbered (k + 1) names x (omega arith) in
    by_test (same x name) (λ t. absurd (omega (arith, sym (number-here k name names x t) ∙ e)))
    λ t. ih (sym (number-later k name names x t) ∙ e) j (omega arith)

-- Places.

-- at the place of each name, of those numbered from k on, its own number stands
unfoldable pub standing : ℕ → List (List ℕ) → List ℕ → Bool
standing k [] places = true
standing k (name ∷ names) places = eqb (get_or places (place_of name) 0) k and standing (k + 1) names places

stands_at : (k : ℕ) (names : List (List ℕ)) (places : List ℕ) → standing k names places ≡ true → (j : ℕ) → j < length names →
    get_or places (place_of (get_or names j [])) 0 ≡ k + j
unfolding standing
stands_at k [] places e j h = absurd (omega arith)
stands_at k (name ∷ names) places e zero h =
    eqb-true (get_or places (place_of name) 0) k (and_left (eqb (get_or places (place_of name) 0) k) (standing (k + 1) names places) e) ∙ omega arith
stands_at k (name ∷ names) places e (suc j) h =
    stands_at (k + 1) names places (and_right (eqb (get_or places (place_of name) 0) k) (standing (k + 1) names places) e) j (omega arith) ∙ omega arith

-- none is above n
unfoldable pub none_above : ℕ → List ℕ → Bool
none_above n [] = true
none_above n (b ∷ l) = leb b n and none_above n l

none_above_lem : (n : ℕ) (l : List ℕ) → none_above n l ≡ true → (i : ℕ) → get_or l i 0 ≤ n
unfolding none_above
none_above_lem n [] e i = omega arith
none_above_lem n (b ∷ l) e zero = leb-true b n (and_left (leb b n) (none_above n l) e)
none_above_lem n (b ∷ l) e (suc i) = none_above_lem n l (and_right (leb b n) (none_above n l) e) i

-- 1 to 31 bytes
abbrev pub sized : List ℕ → Bool
sized x = ltb 0 (length x) and ltb (length x) 32

-- a text that is spelled as it is
abbrev pub plain : List ℕ → Bool
plain x = same (text_of x) x

-- What holds of any names.
module _ (names : List (List ℕ)) where
  name-later : (n : ℕ) → (n ≡ 0 → ⊥) → name_by names n ≡ get_or names (n - 1) []
  name-later zero h = absurd (h refl)
  name-later (suc n) h = let z : n ≡ suc n - 1 = omega arith in ap (λ i. get_or names i []) z

  module _ (x : List ℕ) (h : number_in names x ≡ 0 → ⊥) where
    itself : Numbered 1 names x (number_in names x)
    itself = numbered 1 names x (number_in names x) refl h

    number-few : number_in names x - 1 < length names
    number-few = let r = itself in omega arith

    -- the name of its number is the text
    pub number-name : name_by names (number_in names x) ≡ x
    number-name = name-later (number_in names x) h ∙ itself.is

    -- what every name passes it does
    pub number_passes : (test : List ℕ → Bool) → all test names ≡ true → test x ≡ true
    number_passes test e = ap test (sym itself.is) ∙ all-at test names e (number_in names x - 1) number-few

  module _ (places : List ℕ) (stands : standing 1 names places ≡ true) (few : none_above (length names) places ≡ true) (x : List ℕ) {n : ℕ} (e : n ≡ get_or places (place_of x) 0) where
    own : (number_in names x ≡ 0 → ⊥) → n ≡ number_in names x
    own h =
        let r = itself x h in
        let z : 1 + (number_in names x - 1) ≡ number_in names x = omega arith in
        e ∙ ap (λ y. get_or places (place_of y) 0) (sym r.is) ∙ stands_at 1 names places stands (number_in names x - 1) (number-few x h) ∙ z

    in_range : n ≤ length names
    in_range = rw e (none_above_lem (length names) places few (place_of x))

    -- the name of the number at its place is the text, or no name is
    pub found_here : same (name_by names n) x ≡ true → n ≡ number_in names x
    found_here t =
        elim (ℕ_discrete (number_in names x) 0) [
          | no h ↦ own h
          | yes z ↦
              elim (ℕ_discrete n 0) [
                | yes d ↦ d ∙ sym z
                | no d ↦
                    let j : n - 1 < length names = omega (arith, in_range) in
                    absurd (same_false x (get_or names (n - 1) []) (unnumbered 1 names x (omega arith) z (n - 1) j) (sym (sym (name-later n d) ∙ same_true (name_by names n) x t)))
              ]
        ]

    pub found_none : same (name_by names n) x ≡ false → 0 ≡ number_in names x
    found_none t =
        elim (ℕ_discrete (number_in names x) 0) [
          | yes z ↦ sym z
          | no h ↦ absurd (same_false (name_by names n) x t (ap (name_by names) (own h) ∙ number-name x h))
        ]

  -- of names that have 1 to 31 bytes
  module _ (fit : all sized names ≡ true) where
    pub number-sized : (x : List ℕ) → (number_in names x ≡ 0 → ⊥) → (0 < length x) × (length x < 32)
    number-sized x h =
        let t = number_passes x h sized fit in
        (ltb-true 0 (length x) (and_left (ltb 0 (length x)) (ltb (length x) 32) t), ltb-true (length x) 32 (and_right (ltb 0 (length x)) (ltb (length x) 32) t))

    pub number-odd : (x : List ℕ) → (0 < length x → length x < 32 → ⊥) → 0 ≡ number_in names x
    number-odd x h =
        elim (ℕ_discrete (number_in names x) 0) [ yes z ↦ sym z | no n ↦ absurd (h (number-sized x n).0 (number-sized x n).1) ]

    -- so the first 32 bytes of a text tell its number
    pub number-front : (x : List ℕ) → number_in names (take 32 x) ≡ number_in names x
    number-front x =
        by_test (leb (length x) 32) (λ t. ap (number_in names) (take_all 32 x (leb-true (length x) 32 t)))
        λ t. let l = leb-false (length x) 32 t in
        sym (number-odd (take 32 x) (λ g h. omega (arith, length-take 32 x))) ∙ number-odd x (λ g h. omega arith)

  -- of names that are spelled as they are
  pub number-plain : all plain names ≡ true → (x : List ℕ) → (number_in names x ≡ 0 → ⊥) → number_in names x ≡ number_in names (text_of x)
  number-plain e x h = ap (number_in names) (sym (same_true (text_of x) x (number_passes x h plain e)))

  -- Two texts of which the first is a name are the same where their numbers are.
  pub same_numbers : (x y : List ℕ) → (number_in names x ≡ 0 → ⊥) → eqb (number_in names y) (number_in names x) ≡ same x y
  same_numbers x y h =
      by_test (same x y) (λ t. eq-eqb (number_in names y) (number_in names x) (ap (number_in names) (sym (same_true x y t))) ∙ sym t)
      λ t. ne_eqb (number_in names y) (number_in names x) (λ e.
      let g : number_in names y ≡ 0 → ⊥ = λ z. h (sym e ∙ z) in
      same_false x y t (sym (number-name x h) ∙ ap (name_by names) (sym e) ∙ number-name y g)) ∙ sym t

  -- a text that has no number is none that has one
  pub no_number : (x y : List ℕ) → number_in names x ≡ 0 → ltb 0 (number_in names y) ≡ true → same x y ≡ false
  no_number x y z l =
      by_test (same x y) (λ t. let e : number_in names x ≡ number_in names y = ap (number_in names) (same_true x y t) in
      let p : 0 < number_in names y = ltb-true 0 (number_in names y) l in absurd (omega arith)) λ t. t
