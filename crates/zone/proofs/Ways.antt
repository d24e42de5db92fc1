-- The ways through reading booleans, speeds and the window of a zone by their bytes.
use mathlib.Core.Bool.{true, false}
use mathlib.Core.List.{List, [], ◌∷◌}
use mathlib.Core.Path.{◌≡◌, refl, sym, ap, ◌∙◌}
use Prim.Native.Nat.{ℕ}
use native.Mathlib.Omega.{arith}
use lib.Dec.{eqb, leb, ltb}
use lib.ListN.{length, get_or}
use borrow.Author.Tests.{eq-eqb, ne_eqb}
use Rattle.notation.specs.Ascii.{bytes}
use Rattle.walk.specs.inner.Kind.{kind_at}
use Rattle.document.specs.Values.{integer_in}
use Rattle.document.specs.inner.Values.{kind_code, truth_by, spelled_by, member_of}
use Rattle.document.proofs.ByKind.{spelled_none, spelled-some}
use Rattle.zone.specs.Zone.{integer, begun, unended}
use Rattle.zone.specs.inner.Values.{counts_by}
use Rattle.std.specs.Prelude.{None, Some}

-- by the kind of q
module _ (q : List ℕ) (n : ℕ) (e : n ≡ kind_code (kind_at q)) where
  truth-none : (n ≡ 1 → ⊥) → truth_by q ≡ None
  unfolding truth_by
  truth-none h = rw (← e, ne_eqb n 1 h)

  truth-some : n ≡ 1 → truth_by q ≡ Some (eqb (get_or q 0 0) 0x74)
  unfolding truth_by
  truth-some h = rw (← e, eq-eqb n 1 h)

  pub flag_missing : (n ≡ 1 → ⊥) → None ≡ truth_by q
  flag_missing h = sym (truth-none h)

  pub flag_empty : n ≡ 1 → length q ≡ 0 → Some false ≡ truth_by q
  flag_empty h l = ap Some (no_byte q l) ∙ sym (truth-some h)
    where
      no_byte : (s : List ℕ) → length s ≡ 0 → false ≡ eqb (get_or s 0 0) 0x74
      no_byte [] i = refl
      no_byte (b ∷ s) i = absurd (omega arith)

  pub flag_some : n ≡ 1 → Some (eqb (get_or q 0 0) 0x74) ≡ truth_by q
  flag_some h = sym (truth-some h)

  pub speed_missing : (n ≡ 2 → ⊥) → None ≡ integer (spelled_by q)
  speed_missing h = sym (ap integer (spelled_none q n e h))

  pub speed_some : n ≡ 2 → Some (integer_in (spelled_by q)) ≡ integer (spelled_by q)
  speed_some h = rw (spelled-some q n e h)

  -- start and end
  module _ (moment : ℕ) where
    pub begun-none : (n ≡ 2 → ⊥) → true ≡ begun (integer (spelled_by q)) moment
    begun-none h = sym (ap (λ o. begun (integer o) moment) (spelled_none q n e h))

    pub begun-some : n ≡ 2 → leb (integer_in (spelled_by q)) moment ≡ begun (integer (spelled_by q)) moment
    begun-some h = rw (spelled-some q n e h)

    pub unended-none : (n ≡ 2 → ⊥) → true ≡ unended (integer (spelled_by q)) moment
    unended-none h = sym (ap (λ o. unended (integer o) moment) (spelled_none q n e h))

    pub unended-some : n ≡ 2 → ltb moment (integer_in (spelled_by q)) ≡ unended (integer (spelled_by q)) moment
    unended-some h = rw (spelled-some q n e h)

-- the window
module _ (p : List ℕ) (moment : ℕ) where
  pub counts-not : begun (integer (spelled_by (member_of p (bytes "start")))) moment ≡ false → false ≡ counts_by p moment
  unfolding counts_by
  counts-not e = rw e

  pub counts-begun : begun (integer (spelled_by (member_of p (bytes "start")))) moment ≡ true
      → unended (integer (spelled_by (member_of p (bytes "end")))) moment ≡ counts_by p moment
  unfolding counts_by
  counts-begun e = rw e
