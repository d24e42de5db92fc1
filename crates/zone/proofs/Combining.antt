-- What rules give is joined one rule after the other: joining is associative, what no rule gives is neutral, and where all is given nothing is joined. What the
-- rules of a list give in the end is answered as the list's values.
use mathlib.Core.Bool.{Bool, true, false}
use mathlib.Core.List.{List, [], ◌∷◌, ◌++◌}
use mathlib.Core.Path.{◌≡◌, refl, sym, ap, ◌∙◌}
use Prim.Native.Nat.{ℕ}
use native.Mathlib.Omega.{arith}
use Rattle.std.specs.Option.{option_or}
use Rattle.notation.specs.Choice.{◌⇒◌else◌}
use Rattle.notation.proofs.Booleans.{and_both, or_false}
use Rattle.schema.specs.Pick.{Picked}
use Rattle.geometry.specs.Ring.{Point}
use Rattle.document.specs.Document.{spelling, truth, given}
use Rattle.zone.specs.declared.Given.{Given}
use Rattle.zone.specs.Zone.{integer, applies, zone_rules, rules_by, rules, applicable, first_given}
use Rattle.zone.specs.Answer.{answer, values, of_rules}
use Rattle.zone.specs.inner.Values.{nothing, or_given, given_in, all_given, with_rule, is_full, ruling_by}
use Rattle.std.specs.Prelude.{Option, None, Some, is_some}

abbrev pub made : Bool → Option Bool → Option Bool → Option ℕ → Option Bool → Given
made any ride through speed parking = record { any = any; ride = ride; through = through; speed = speed; parking = parking }

pub same-given : {a b : Bool} {c d e f g h : Option Bool} {i j : Option ℕ} → a ≡ b → c ≡ d → e ≡ f → i ≡ j → g ≡ h → made a c e i g ≡ made b d f j h
same-given m n o p q = rw (m, n, o, p, q)

-- of two values the first that is given
pub or_assoc : {A : Type 0} (a b c : Option A) → option_or (option_or a b) c ≡ option_or a (option_or b c)
or_assoc None b c = refl
or_assoc (Some x) b c = refl

pub or_none : {A : Type 0} (a : Option A) → option_or a None ≡ a
or_none None = refl
or_none (Some x) = refl

or-some : {A : Type 0} (a b : Option A) → is_some a ≡ true → option_or a b ≡ a
or-some None b e = let z : ◌≡◌ {A = ℕ} 0 1 = cc in absurd (omega arith)
or-some (Some x) b e = refl

pub or-given : {A : Type 0} (a b : Option A) → given a ≡ true → option_or a b ≡ a
or-given None b e = let z : ◌≡◌ {A = ℕ} 0 1 = cc in absurd (omega arith)
or-given (Some x) b e = refl

or-integer : (a b : Option (List ℕ)) → option_or (integer a) (integer b) ≡ integer (option_or a b)
or-integer None b = refl
or-integer (Some s) b = refl

-- associative
any_assoc : (a b c : Bool) → ((a ⇒ true else b) ⇒ true else c) ≡ (a ⇒ true else (b ⇒ true else c))
any_assoc true b c = refl
any_assoc false b c = refl

given_assoc : (a b c : Given) → or_given (or_given a b) c ≡ or_given a (or_given b c)
unfolding or_given
given_assoc a b c =
    same-given (any_assoc a.any b.any c.any) (or_assoc a.ride b.ride c.ride) (or_assoc a.through b.through c.through)
    (or_assoc a.speed b.speed c.speed) (or_assoc a.parking b.parking c.parking)

pub given_nothing : (a : Given) → or_given a nothing ≡ a
unfolding or_given
given_nothing a = same-given (or_false a.any) (or_none a.ride) (or_none a.through) (or_none a.speed) (or_none a.parking)

pub nothing-given : (a : Given) → or_given nothing a ≡ a
unfolding or_given
nothing-given a = refl

any-full : (a b : Bool) → a ≡ true → (a ⇒ true else b) ≡ a
any-full true b e = refl
any-full false b e = let z : ◌≡◌ {A = ℕ} 0 1 = cc in absurd (omega arith)

pub given-full : (a b : Given) → is_full a ≡ true → or_given a b ≡ a
unfolding or_given is_full
given-full a b e =
    let f = and_both a.any _ e in
    let r = and_both (is_some a.ride) _ f.1 in
    let t = and_both (is_some a.through) _ r.1 in
    let l = and_both (is_some a.speed) _ t.1 in
    same-given (any-full a.any b.any f.0) (or-some a.ride b.ride r.0) (or-some a.through b.through t.0)
    (or-some a.speed b.speed l.0) (or-some a.parking b.parking l.1)

-- lists of rules one after the other
given_append : (l k : List Picked) → all_given (l ++ k) ≡ or_given (all_given l) (all_given k)
unfolding all_given
given_append [] k = sym (nothing-given (all_given k))
given_append (x ∷ l) k = ap (or_given (given_in x)) (given_append l k) ∙ sym (given_assoc (given_in x) (all_given l) (all_given k))

module _ (type : List ℕ) where
  applicable_append : (l k : List Picked) → applicable (l ++ k) type ≡ applicable l type ++ applicable k type
  unfolding applicable
  applicable_append [] k = refl
  applicable_append (x ∷ l) k = go (applies x type) (applicable_append l k)
    where
      go : (t : Bool) → applicable (l ++ k) type ≡ applicable l type ++ applicable k type
          → (t ⇒ x ∷ applicable (l ++ k) type else applicable (l ++ k) type) ≡ (t ⇒ x ∷ applicable l type else applicable l type) ++ applicable k type
      go true ih = ap (λ (m : List Picked). x ∷ m) ih
      go false ih = ih

  -- from what is given on, with rules and with the rules of zones: none are left, or one comes first
  abbrev pub with_rules : Given → List Picked → Given
  with_rules a l = or_given a (all_given (applicable l type))

  pub rules-none : (a : Given) → with_rules a [] ≡ a
  unfolding applicable all_given
  rules-none a = given_nothing a

  pub rules-next : (a : Given) (x : Picked) (l : List Picked) → with_rules a (x ∷ l) ≡ with_rules (with_rule type a x) l
  unfolding applicable all_given with_rule
  rules-next a x l = go (applies x type)
    where
      go : (t : Bool) → or_given a (all_given (t ⇒ x ∷ applicable l type else applicable l type))
          ≡ or_given (t ⇒ or_given a (given_in x) else a) (all_given (applicable l type))
      go true = sym (given_assoc a (given_in x) (all_given (applicable l type)))
      go false = refl

  pub rule-joined : (a : Given) (x : Picked) → applies x type ≡ true → or_given a (given_in x) ≡ with_rule type a x
  unfolding with_rule
  rule-joined a x e = rw e

  pub rule_passed : (a : Given) (x : Picked) → applies x type ≡ false → a ≡ with_rule type a x
  unfolding with_rule
  rule_passed a x e = rw e

  module _ (q : Point) (moment : ℕ) where
    pub zones-none : (a : Given) → with_rules a (rules [] q moment) ≡ a
    unfolding rules_by
    zones-none a = rules-none a

    pub zones-next : (a : Given) (x : Picked) (l : List Picked)
        → with_rules a (rules (x ∷ l) q moment) ≡ with_rules (with_rules a (zone_rules x q moment)) (rules l q moment)
    unfolding rules_by
    zones-next a x l =
        let here = applicable (zone_rules x q moment) type in
        let later = applicable (rules l q moment) type in
        ap (or_given a) (ap all_given (applicable_append (zone_rules x q moment) (rules l q moment)) ∙ given_append here later)
        ∙ sym (given_assoc a (all_given here) (all_given later))

-- what the rules of a list give
abbrev firsts : Bool → List Picked → Given
firsts any l =
    made any (first_given (truth 79) l) (first_given (truth 80) l) (integer (first_given (spelling 81) l)) (first_given (truth 82) l)

abbrev some-rule : List Picked → Bool
some-rule [] = false
some-rule (x ∷ l) = true

all_firsts : (l : List Picked) → all_given l ≡ firsts (some-rule l) l
unfolding all_given or_given given_in first_given
all_firsts [] = refl
all_firsts (x ∷ l) =
    ap (or_given (given_in x)) (all_firsts l)
    ∙ same-given refl refl refl (or-integer (spelling 81 x) (first_given (spelling 81) l)) refl

-- and how it is answered
pub given-answered : (l : List Picked) → answer (ruling_by (all_given l)) ≡ of_rules l
unfolding ruling_by values
given-answered [] = ap (λ a. answer (ruling_by a)) (all_firsts [])
given-answered (x ∷ l) = ap (λ a. answer (ruling_by a)) (all_firsts (x ∷ l))
