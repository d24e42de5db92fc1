-- The names of all tables, by tests that are computed over them: what is at a text's place tells its number, and a line has the name of that number or none has it.
use mathlib.Core.Bool.{true, false}
use mathlib.Core.List.{List, [], ◌∷◌, map}
use mathlib.Core.Path.{◌≡◌, refl, sym, ap, ◌∙◌}
use Prim.Native.Nat.{ℕ, zero, suc, ◌<◌}
use native.Mathlib.Omega.{arith}
use lib.Dec.{eqb, leb, ltb}
use lib.ListN.{length, get_or, get_or-eq_default, length-map}
use borrow.Author.Tests.{leb-true, leb-false, ltb-true}
use Rattle.notation.proofs.Booleans.{by_test}
use Rattle.text.specs.Text.{same}
use Rattle.text.specs.Cases.{comparing}
use Rattle.schema.specs.Tables.{sheets, written}
use Rattle.schema.specs.inner.Names.{number_in, name_by, places_of, naming}
use Rattle.schema.specs.inner.Line.{entries_of, line_of, lines_of, names_of, name_at, each_name, number_of, numbers_of, number_at, laid_out}
use Rattle.schema.proofs.Bytes.{number_past}
use Rattle.schema.proofs.Numbers.{all, all-at, standing, none_above, sized, plain, number-name, same_numbers, no_number}

pub names_stand : standing 1 (each_name sheets) (places_of (each_name sheets)) ≡ true
unfolding laid_out naming written standing
names_stand = refl

pub names-alone : none_above (length (each_name sheets)) (places_of (each_name sheets)) ≡ true
unfolding laid_out naming written none_above
names-alone = refl

pub names-sized : all sized (each_name sheets) ≡ true
unfolding laid_out naming written all
names-sized = refl

pub names-plain : all plain (each_name sheets) ≡ true
unfolding laid_out naming written all comparing
names-plain = refl

lines-numbered : all (λ x. ltb 0 (number_of sheets x)) (names_of sheets) ≡ true
unfolding laid_out naming written all
lines-numbered = refl

-- a list through a function, at a place within it
map_in : {A B : Type 0} (f : A → B) (l : List A) (i : ℕ) (d : A) (e : B) → i < length l → get_or (map f l) i e ≡ f (get_or l i d)
map_in f [] i d e h = absurd (omega arith)
map_in f (x ∷ l) zero d e h = refl
map_in f (x ∷ l) (suc i) d e h = map_in f l i d e (omega arith)

names-length : length (names_of sheets) ≡ length (lines_of sheets)
unfolding lines_of names_of
names-length = length-map (entries_of sheets) (λ e. e.name) ∙ sym (length-map (entries_of sheets) line_of)

module _ (i : ℕ) (h : i < length (lines_of sheets)) where
  in_names : i < length (names_of sheets)
  in_names = omega (arith, names-length)

  line-number : number_at sheets i ≡ number_of sheets (name_at sheets i)
  unfolding numbers_of
  line-number = map_in (number_in (each_name sheets)) (names_of sheets) i [] 0 in_names

  some_number : ltb 0 (number_of sheets (name_at sheets i)) ≡ true
  some_number = all-at (λ x. ltb 0 (number_of sheets x)) (names_of sheets) lines-numbered i in_names

  -- a text that has a number is the name of the lines that have it
  pub name-same : (x : List ℕ) → (number_of sheets x ≡ 0 → ⊥) → eqb (number_at sheets i) (number_of sheets x) ≡ same x (name_at sheets i)
  name-same x n = ap (λ m. eqb m (number_of sheets x)) line-number ∙ same_numbers (each_name sheets) x (name_at sheets i) n

  -- one that has none is no line's name
  pub name-none : (x : List ℕ) → number_of sheets x ≡ 0 → same x (name_at sheets i) ≡ false
  name-none x z = no_number (each_name sheets) x (name_at sheets i) z some_number

  name-within : name_by (each_name sheets) (number_at sheets i) ≡ name_at sheets i
  name-within =
      ap (name_by (each_name sheets)) line-number
      ∙ number-name (each_name sheets) (name_at sheets i) (λ z. omega (arith, ltb-true 0 (number_of sheets (name_at sheets i)) some_number))

-- the name of a line's number is the line's
pub name-by-number : (i : ℕ) → name_by (each_name sheets) (number_at sheets i) ≡ name_at sheets i
name-by-number i =
    by_test (leb (length (lines_of sheets)) i)
    (λ t. let l = leb-true (length (lines_of sheets)) i t in
    ap (name_by (each_name sheets)) (sym (number_past sheets i l)) ∙ sym (get_or-eq_default (names_of sheets) [] {n = i} (omega (arith, names-length))))
    λ t. name-within i (leb-false (length (lines_of sheets)) i t)
