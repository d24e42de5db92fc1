-- Answers put together: the lesser of two leasts is the least of both lists, and kinds that are told one by one are those of one field.
use mathlib.Core.List.{List, [], ◌∷◌, ◌++◌}
use mathlib.Core.Path.{◌≡◌, refl, sym, ap, ap₂, ◌∙◌}
use Prim.Native.Nat.{ℕ}
use Rattle.fault.specs.declared.Fault.{Fault}
use Rattle.fault.specs.Fault.{fault, lesser, least, faulty}
use Rattle.fault.proofs.Leasts.{least_append}
use Rattle.word.specs.inner.Listed.{listed}
use Rattle.fault.specs.declared.Place.{Place}
use Rattle.std.specs.Prelude.{Option}

-- of two lists
pub both : {r a b : Option Fault} (xs ys : List Fault) → r ≡ lesser a b → a ≡ least xs → b ≡ least ys → r ≡ least (xs ++ ys)
both xs ys e f g = e ∙ ap₂ lesser f g ∙ sym (least_append xs ys)

module _ (p : Place) (f : ℕ) where
  -- one kind, as the code tells it
  pub breaks : {r : Option Fault} (k : ℕ) {ks : List ℕ} → r ≡ least (faulty p f (listed k)) → listed k ≡ ks → r ≡ least (faulty p f ks)
  breaks k e h = e ∙ ap (λ (l : List ℕ). least (faulty p f l)) h

  faulty_append : (ks ls : List ℕ) → faulty p f (ks ++ ls) ≡ faulty p f ks ++ faulty p f ls
  unfolding faulty
  faulty_append [] ls = refl
  faulty_append (k ∷ ks) ls = ap (λ (l : List Fault). fault p.«record» f p.sub k ∷ l) (faulty_append ks ls)

  -- kinds of one field
  pub joined : {r a b : Option Fault} (ks ls : List ℕ) → r ≡ lesser a b → a ≡ least (faulty p f ks) → b ≡ least (faulty p f ls) → r ≡ least (faulty p f (ks ++ ls))
  joined ks ls e h i = both (faulty p f ks) (faulty p f ls) e h i ∙ ap least (sym (faulty_append ks ls))
