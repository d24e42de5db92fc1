-- The promises on rules that combine. Of two lists of rules one after the other a value is that of the first list, or else that of the second; so what gives
-- nothing new changes nothing.
use mathlib.Core.Bool.{Bool, true}
use mathlib.Core.List.{List, [], ◌∷◌, ◌++◌, append_assoc}
use mathlib.Core.Path.{◌≡◌, refl, sym, ap, ◌∙◌}
use Prim.Native.Nat.{ℕ}
use Rattle.schema.specs.Shape.{Table}
use Rattle.schema.specs.Pick.{Picked}
use Rattle.geometry.specs.Ring.{Point}
use Rattle.document.specs.Document.{spelling, truth, given}
use Rattle.clean.specs.Clean.{clean_of}
use Rattle.zone.specs.Zone.{rules_at, first_given}
use Rattle.zone.specs.Answer.{rule_of, values, found, on_map, of_rules, ruling_of}
use Rattle.zone.proofs.Combining.{or_assoc, or_none, or-given}
use Rattle.std.specs.Option.{option_or}
use Rattle.zone.specs.Combined.{own, GivesAll, Known, NothingNew, Combining}
use Rattle.fault.specs.Outcome.{unbroken}
use Rattle.std.specs.Prelude.{Option, None, Some}

-- what is given already is not looked for
or-known : {A : Type 0} (a b : Option A) → (given b ≡ true → given a ≡ true) → option_or a b ≡ a
or-known a None h = or_none a
or-known a (Some v) h = or-given a (Some v) (h refl)

module _ {A : Type 0} (value : Picked → Option A) where
  pub first_alone : (x : Picked) → first_given value (x ∷ []) ≡ value x
  unfolding first_given
  first_alone x = or_none (value x)

  pub first_append : (l k : List Picked) → first_given value (l ++ k) ≡ option_or (first_given value l) (first_given value k)
  unfolding first_given
  first_append [] k = refl
  first_append (x ∷ l) k = ap (option_or (value x)) (first_append l k) ∙ sym (or_assoc (value x) (first_given value l) (first_given value k))

  first-whole : (x : Picked) (l : List Picked) → given (value x) ≡ true → first_given value (x ∷ l) ≡ value x
  unfolding first_given
  first-whole x l e = or-given (value x) (first_given value l) e

  -- k gives nothing new to l
  first-known : (l k : List Picked) → Known value l k → first_given value (l ++ k) ≡ first_given value l
  first-known l k h = first_append l k ∙ or-known (first_given value l) (first_given value k) h

-- all four values
same-values : {a b c d g h : Option Bool} {e f : Option (List ℕ)} → a ≡ b → c ≡ d → e ≡ f → g ≡ h → rule_of a c e g ≡ rule_of b d f h
same-values m n o p = rw (m, n, o, p)

one-rule : (x : Picked) → of_rules (x ∷ []) ≡ found (own x)
unfolding values own
one-rule x = ap found (same-values (first_alone (truth 79) x) (first_alone (truth 80) x) (first_alone (spelling 81) x) (first_alone (truth 82) x))

whole-first : (x : Picked) (l : List Picked) → GivesAll x → of_rules (x ∷ l) ≡ found (own x)
unfolding values own
whole-first x l g =
    ap found
    (same-values (first-whole (truth 79) x l g.ride) (first-whole (truth 80) x l g.through) (first-whole (spelling 81) x l g.speed)
    (first-whole (truth 82) x l g.parking))

-- what is left out of the middle
first_out : {A : Type 0} (value : Picked → Option A) (l k m : List Picked) → Known value l k → first_given value (l ++ k ++ m) ≡ first_given value (l ++ m)
first_out value l k m h =
    first_append value (l ++ k) m
    ∙ ap (λ o. option_or o (first_given value m)) (first-known value l k h)
    ∙ sym (first_append value l m)

values_out : (l k m : List Picked) → NothingNew l k → values (l ++ k ++ m) ≡ values (l ++ m)
unfolding values
values_out l k m n =
    same-values (first_out (truth 79) l k m n.ride) (first_out (truth 80) l k m n.through) (first_out (spelling 81) l k m n.speed)
    (first_out (truth 82) l k m n.parking)

left_out_lem : (x : Picked) (l k m : List Picked) → NothingNew (x ∷ l) k → of_rules (x ∷ l ++ k ++ m) ≡ of_rules (x ∷ l ++ m)
left_out_lem x l k m n = ap found (values_out (x ∷ l) k m n)

-- what is known to rules is known to them with others behind
known_more : {A : Type 0} (value : Picked → Option A) (l k n : List Picked) → Known value l k → Known value (l ++ n) k
known_more value l k n h e =
    let g = h e in
    ap given (first_append value l n ∙ or-given (first_given value l) (first_given value n) g) ∙ g

nothing_new : (l k n : List Picked) → NothingNew l k → NothingNew (l ++ n) k
nothing_new l k n h =
    record {
      ride = known_more (truth 79) l k n h.ride;
      through = known_more (truth 80) l k n h.through;
      speed = known_more (spelling 81) l k n h.speed;
      parking = known_more (truth 82) l k n h.parking;
    }

any_order_lem : (x : Picked) (l k n m : List Picked) → NothingNew (x ∷ l) k → of_rules (x ∷ l ++ k ++ n ++ m) ≡ of_rules (x ∷ l ++ n ++ k ++ m)
any_order_lem x l k n m h =
    ap found
    (ap values (append_assoc ((x ∷ l) ++ k) n m)
    ∙ values_out (x ∷ l) k (n ++ m) h
    ∙ ap values (sym (append_assoc (x ∷ l) n m))
    ∙ sym (values_out ((x ∷ l) ++ n) k m (nothing_new (x ∷ l) k n h)))

answered : (t : Table) (s : List ℕ) (q : Point) (type : List ℕ) (moment : ℕ) → on_map q ≡ true → clean_of t 6 s ≡ unbroken
    → ruling_of t s q type moment ≡ of_rules (rules_at t s q type moment)
unfolding ruling_of
answered t s q type moment h c = rw (h, c)

pub combining : (t : Table) → Combining t
combining t = record { answered = answered t; one_rule = one-rule; whole_first = whole-first; left_out = left_out_lem; any_order = any_order_lem }
