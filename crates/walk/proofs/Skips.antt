-- The rest behind a value that is read is told by its quotation marks and brackets: what reads a value passes over it with as many brackets open as
-- before, since blanks, commas, colons, numbers and words have none, a string ends at its closing mark, and each array and object closes its own.
use mathlib.Core.Bool.{Bool, true, false}
use mathlib.Core.List.{List, [], ◌∷◌, ◌++◌}
use mathlib.Core.Path.{◌≡◌, refl, sym, ap, ◌∙◌}
use Prim.Native.Nat.{ℕ, zero, suc}
use native.Mathlib.Omega.{arith}
use lib.Dec.{eqb}
use lib.ListN.{length, drop}
use borrow.Author.Tests.{eqb-true}
use Rattle.notation.specs.Ascii.{bytes}
use Rattle.notation.proofs.Booleans.{by_test}
use Rattle.lexeme.specs.Read.{Read, made}
use Rattle.lexeme.specs.Read.Read.{done, bad}
use Rattle.lexeme.specs.Character.{paired, byte, within}
use Rattle.lexeme.specs.Strings as Strings
use Rattle.lexeme.specs.Numbers.{digit, either, digits, some_digits, optional, both, nothing, integer, minus, fraction, exponent, number}
use Rattle.lexeme.specs.Tokens.{blank, blanks, literal}
use Rattle.lexeme.specs.inner.Start.{Start, start}
use Rattle.lexeme.proofs.Reading.{Consumes}
use Rattle.lexeme.proofs.Steps.{bad-done, done-rest, made-done, then-done, blanks_pass, blanks_stop, digits_more, digits_stop, some_digits-more, some_digits-none, integer-zero, integer-digits, optional-there, optional-absent}
use Rattle.lexeme.proofs.StrongPrefixes.{both-done}
use Rattle.lexeme.proofs.Starts.{string-byte, array-byte, object-byte}
use Rattle.lexeme.proofs.Spells.{literal-spells}
use Rattle.json_text.specs.Tree.{Json, as_items, as_members}
use Rattle.json_text.specs.Text.{expect, contents, bracketed, member, value_by, value}
use Rattle.json_text.specs.Text.After.{closed, more}
use Rattle.json_text.proofs.Steps.{contents-end, contents-none, contents-some, member-then, named, value_at, value-start}
use Rattle.json_text.proofs.Bound.{Follows, at_close, at-comma, follows_as, Run, faulty, last, next, broken, run}
use Rattle.json_text.proofs.StrongPrefixes.{value_consumes, member_consumes}
use Rattle.json_text.proofs.Spellings.{expect-done}
use Rattle.walk.specs.inner.Skip.{quoted, outside, inside, enclosed, numbered, skipped}
use Rattle.walk.proofs.Quotes.{apart, string-quoted}

-- a byte between brackets that is none, and no quotation mark
pub record Between (b : ℕ) : Type 0 where
  pub mark : eqb b 0x22 ≡ false
  pub opens : either 0x5b 0x7b b ≡ false
  pub closes : either 0x5d 0x7d b ≡ false

pub between : (test : ℕ → Bool) → test 0x22 ≡ false → test 0x5b ≡ false → test 0x7b ≡ false → test 0x5d ≡ false → test 0x7d ≡ false
    → (b : ℕ) → test b ≡ true → Between b
unfolding either
between test m o p c d b h =
    record {
      mark = apart test 0x22 m b h;
      opens = rw (apart test 0x5b o b h, apart test 0x7b p b h);
      closes = rw (apart test 0x5d c b h, apart test 0x7d d b h);
    }

-- a byte outside strings, by what it is
module _ (n b : ℕ) (l : List ℕ) where
  pub enclosed-between : Between b → enclosed (suc n) outside (b ∷ l) ≡ enclosed (suc n) outside l
  unfolding enclosed
  enclosed-between h = rw (enclosed, h.mark, h.opens, h.closes)

  pub enclosed_opens : eqb b 0x22 ≡ false → either 0x5b 0x7b b ≡ true → enclosed (suc n) outside (b ∷ l) ≡ enclosed (suc (suc n)) outside l
  unfolding enclosed
  enclosed_opens m h = rw (enclosed, m, h)

  pub enclosed-closes : eqb b 0x22 ≡ false → either 0x5b 0x7b b ≡ false → either 0x5d 0x7d b ≡ true → enclosed (suc n) outside (b ∷ l) ≡ enclosed n outside l
  unfolding enclosed
  enclosed-closes m o h = rw (enclosed, m, o, h)

pub enclosed-end : (n : ℕ) → enclosed n outside [] ≡ []
unfolding enclosed
enclosed-end n = refl

pub enclosed-all : (l : List ℕ) → enclosed 0 outside l ≡ l
unfolding enclosed
enclosed-all [] = refl
enclosed-all (b ∷ l) = refl

-- a string is passed over up to its closing mark
enclosed-inside : (n : ℕ) (e : Bool) (l : List ℕ) → enclosed n (inside e) l ≡ enclosed n outside (quoted e l)
unfolding enclosed quoted
enclosed-inside n e [] = refl
enclosed-inside n true (b ∷ l) = enclosed-inside n false l
enclosed-inside n false (b ∷ l) =
    let ih = enclosed-inside n (eqb b 0x5c) l in
    by_test (eqb b 0x22) (λ h. rw (enclosed, quoted, h)) (λ h. rw (enclosed, quoted, h) ih)

pub enclosed-mark : (n b : ℕ) (l : List ℕ) → eqb b 0x22 ≡ true → enclosed (suc n) outside (b ∷ l) ≡ enclosed (suc n) outside (quoted false l)
unfolding enclosed
enclosed-mark n b l h = rw (enclosed, h) (enclosed-inside (suc n) false l)

-- from l to r as many brackets stand open as before
abbrev Across : List ℕ → List ℕ → Type 0
Across l r = (n : ℕ) → enclosed (suc n) outside l ≡ enclosed (suc n) outside r

abbrev Crosses : {A : Type 0} → (List ℕ → Read A) → Type 0
Crosses {A} f = (l r : List ℕ) (x : A) → f l ≡ done x r → Across l r

across_same : {l r : List ℕ} → l ≡ r → Across l r
across_same e n = ap (enclosed (suc n) outside) e

across_byte : (b : ℕ) (l r : List ℕ) → Between b → Across l r → Across (b ∷ l) r
across_byte b l r h a n = enclosed-between n b l h ∙ a n

-- a sign of the grammar
comma-between : Between 0x2c
unfolding either
comma-between = record { mark = refl; opens = refl; closes = refl }

colon-between : Between 0x3a
unfolding either
colon-between = record { mark = refl; opens = refl; closes = refl }

blanks_across : (l : List ℕ) → Across l (blanks l)
unfolding blank either blanks
blanks_across [] n = refl
blanks_across (b ∷ l) n =
    let ih = blanks_across l in
    by_test (blank b)
    (λ h. across_byte b l (blanks l) (between blank refl refl refl refl refl b h) ih n ∙ ap (enclosed (suc n) outside) (sym (blanks_pass b l h)))
    (λ h. ap (enclosed (suc n) outside) (sym (blanks_stop b l h)))

-- numbers, part by part
digit-between : (b : ℕ) → digit b ≡ true → Between b
unfolding digit within
digit-between = between digit refl refl refl refl refl

one_more_lem : (b : ℕ) (f : List ℕ → Read (List ℕ)) → Between b → Crosses f → (l r x : List ℕ) → made (λ y. b ∷ y) (f l) ≡ done x r → Across (b ∷ l) r
one_more_lem b f h crosses l r x e = let p = made-done (λ y. b ∷ y) (f l) x r e in across_byte b l r h (crosses l r p.0 p.1)

digits-crosses : Crosses digits
digits-crosses [] r x e = unfold digits in across_same (done-rest e)
digits-crosses (b ∷ l) r x e =
    let ih = digits-crosses l r in
    by_test (digit b)
    (λ h. let p = made-done (λ y. b ∷ y) (digits l) x r (sym (digits_more b l h) ∙ e) in across_byte b l r (digit-between b h) (ih p.0 p.1))
    (λ h. across_same (done-rest (sym (digits_stop b l h) ∙ e)))

some_digits-crosses : Crosses some_digits
some_digits-crosses [] r x e = unfold some_digits in bad-done e
some_digits-crosses (b ∷ l) r x e =
    by_test (digit b) (λ h. one_more_lem b digits (digit-between b h) digits-crosses l r x (sym (some_digits-more b l h) ∙ e))
    (λ h. bad-done (sym (some_digits-none b l h) ∙ e))

optional-crosses : (test : ℕ → Bool) (f : List ℕ → Read (List ℕ)) → ((b : ℕ) → test b ≡ true → Between b) → Crosses f → Crosses (optional test f)
optional-crosses test f sign crosses [] r x e = unfold optional in across_same (done-rest e)
optional-crosses test f sign crosses (b ∷ l) r x e =
    by_test (test b) (λ h. one_more_lem b f (sign b h) crosses l r x (sym (optional-there b test f l h) ∙ e))
    (λ h. across_same (done-rest (sym (optional-absent b test f l h) ∙ e)))

integer-crosses : Crosses integer
integer-crosses [] r x e = unfold integer in bad-done e
integer-crosses (b ∷ l) r x e =
    by_test (eqb b 0x30)
    (λ h. across_byte b l r (between (λ c. eqb c 0x30) refl refl refl refl refl b h) (across_same (done-rest (sym (integer-zero b l h) ∙ e))))
    (λ h. some_digits-crosses (b ∷ l) r x (sym (integer-digits b l h) ∙ e))

both-crosses : (f g : List ℕ → Read (List ℕ)) → Crosses f → Crosses g → Crosses (both f g)
both-crosses f g first second l r x e n =
    let p = both-done f g l x r e in
    first l p.1 p.0 p.3 n ∙ second p.1 r p.2 p.4 n

nothing-crosses : Crosses nothing
unfolding nothing
nothing-crosses l r x e = across_same (done-rest e)

number-crosses : Crosses number
unfolding number minus fraction exponent either
number-crosses =
    both-crosses _ _ (optional-crosses _ nothing (between (λ b. eqb b 0x2d) refl refl refl refl refl) nothing-crosses)
    (both-crosses integer _ integer-crosses
    (both-crosses _ _ (optional-crosses _ some_digits (between (λ b. eqb b 0x2e) refl refl refl refl refl) some_digits-crosses)
    (optional-crosses _ _ (between (either 0x65 0x45) refl refl refl refl refl)
    (both-crosses _ some_digits (optional-crosses _ nothing (between (either 0x2b 0x2d) refl refl refl refl refl) nothing-crosses) some_digits-crosses))))

-- a string, from its opening mark on
string_across : (l y r : List ℕ) → Strings.string paired 0 l ≡ done y r → Across (0x22 ∷ l) r
string_across l y r e n = enclosed-mark n 0x22 l refl ∙ ap (enclosed (suc n) outside) (string-quoted l y r e)

-- elements up to the bracket that closes them, and that bracket
module _ {A : Type 0} (close : ℕ) {element : List ℕ → Read A} (consumes : Consumes element) (crosses : Crosses element)
    (closes : (n : ℕ) (l : List ℕ) → enclosed (suc n) outside (close ∷ l) ≡ enclosed n outside l) where
  closed-here : (n b : ℕ) (l : List ℕ) → eqb b close ≡ true → enclosed (suc n) outside (b ∷ l) ≡ enclosed n outside l
  closed-here n b l h = ap (λ (c : ℕ). enclosed (suc n) outside (c ∷ l)) (eqb-true b close h) ∙ closes n l

  -- what follows an element
  after_last : (n : ℕ) {m q : List ℕ} → Follows close m (closed q) → enclosed (suc n) outside m ≡ enclosed n outside q
  after_last n {m} {q} (at_close {b} h t) = blanks_across m n ∙ ap (enclosed (suc n) outside) h ∙ closed-here n b q t

  after-other : (n : ℕ) {m q : List ℕ} → Follows close m (more q) → enclosed (suc n) outside m ≡ enclosed (suc n) outside q
  after-other n {m} (at-comma {b} {q = q} h t c) =
      blanks_across m n ∙ ap (enclosed (suc n) outside) (h ∙ ap (λ (z : ℕ). z ∷ q) (eqb-true b 0x2c c))
      ∙ enclosed-between n 0x2c q comma-between ∙ blanks_across q n

  run_closed : {l : List ℕ} {o : Read (List A)} → Run close element l o → (xs : List A) (r : List ℕ) → o ≡ done xs r
      → (n : ℕ) → enclosed (suc n) outside l ≡ enclosed n outside r
  run_closed (faulty e) xs r i n = bad-done i
  run_closed (broken e j) xs r i n = bad-done i
  run_closed (last {l = l} {r = m} {x = x} e j) xs r i n = crosses l m x e n ∙ after_last n (follows_as close m j) ∙ ap (enclosed n outside) (done-rest i)
  run_closed (next {l = l} {r = m} {x = x} {o = o} e j u) xs r i n =
      let p = made-done (λ ys. x ∷ ys) o xs r i in
      crosses l m x e n ∙ after-other n (follows_as close m j) ∙ run_closed u p.0 r p.1 n

  contents-closed : (l r : List ℕ) (xs : List A) → contents close element l ≡ done xs r → (n : ℕ) → enclosed (suc n) outside l ≡ enclosed n outside r
  contents-closed [] r xs e n = bad-done (sym (contents-end close element) ∙ e)
  contents-closed (b ∷ l) r xs e n =
      by_test (eqb b close)
      (λ h. closed-here n b l h ∙ ap (enclosed n outside) (done-rest (sym (contents-none close element b l h) ∙ e)))
      (λ h. run_closed (run close element consumes (suc (length (b ∷ l))) (b ∷ l) (omega arith)) xs r (sym (contents-some close element b l h) ∙ e) n)

  bracketed-closed : (l r : List ℕ) (xs : List A) → bracketed close element l ≡ done xs r → (n : ℕ) → enclosed (suc n) outside l ≡ enclosed n outside r
  unfolding bracketed
  bracketed-closed l r xs e n = blanks_across l n ∙ contents-closed (blanks l) r xs e n

member-crosses : {f : List ℕ → Read Json} → Crosses f → Crosses (member paired f)
member-crosses {f} crosses l r y e n =
    let p = then-done (expect 0x22 (Strings.string paired 0) l) (named f) y r (sym (member-then paired f l) ∙ e) in
    let a = expect-done 0x22 (Strings.string paired 0) l p.1 p.0 p.2 in
    let c = expect-done 0x3a _ (blanks p.1) r y p.3 in
    let t = made-done (λ x. (p.0, x)) (f (blanks c.0)) y r c.2 in
    ap (enclosed (suc n) outside) a.1 ∙ string_across a.0 p.0 p.1 a.2 n
    ∙ blanks_across p.1 n ∙ ap (enclosed (suc n) outside) c.1 ∙ enclosed-between n 0x3a c.0 colon-between
    ∙ blanks_across c.0 n ∙ crosses (blanks c.0) r t.0 t.1 n

pub numbered-done : (l : List ℕ) {s r : List ℕ} → number l ≡ done s r → numbered l ≡ r
unfolding numbered
numbered-done l e = rw (numbered, e)

pub numbered-bad : (l : List ℕ) {k : ℕ} {r : List ℕ} → number l ≡ bad k r → numbered l ≡ l
unfolding numbered
numbered-bad l e = rw (numbered, e)

-- the ways to skip a value, by its first byte
module _ (b : ℕ) (l : List ℕ) where
  pub skipped-string : start b ≡ Start.string → skipped (b ∷ l) ≡ quoted false l
  unfolding skipped
  skipped-string h = rw (skipped, h)

  pub skipped-number : start b ≡ Start.number → skipped (b ∷ l) ≡ numbered (b ∷ l)
  unfolding skipped
  skipped-number h = rw (skipped, h)

  pub skipped-array : start b ≡ Start.array → skipped (b ∷ l) ≡ enclosed 1 outside l
  unfolding skipped
  skipped-array h = rw (skipped, h)

  pub skipped-object : start b ≡ Start.object → skipped (b ∷ l) ≡ enclosed 1 outside l
  unfolding skipped
  skipped-object h = rw (skipped, h)

  pub skipped-true : start b ≡ Start.letter_t → skipped (b ∷ l) ≡ drop 4 (b ∷ l)
  unfolding skipped
  skipped-true h = rw (skipped, h)

  pub skipped-false : start b ≡ Start.letter_f → skipped (b ∷ l) ≡ drop 5 (b ∷ l)
  unfolding skipped
  skipped-false h = rw (skipped, h)

  pub skipped-null : start b ≡ Start.letter_n → skipped (b ∷ l) ≡ drop 4 (b ∷ l)
  unfolding skipped
  skipped-null h = rw (skipped, h)

  skipped-other : start b ≡ Start.other → skipped (b ∷ l) ≡ b ∷ l
  unfolding skipped
  skipped-other h = rw (skipped, h)

pub skipped-none : (l : List ℕ) → start (byte l 0) ≡ Start.other → skipped l ≡ l
unfolding skipped
skipped-none [] h = refl
skipped-none (b ∷ l) h = skipped-other b l h

-- a value with r behind it
record Passes (l r : List ℕ) : Type 0 where
  skips : skipped l ≡ r
  across : Across l r

module _ (arrays objects : List ℕ → Read Json)
    (array : (l r : List ℕ) (x : Json) → arrays (0x5b ∷ l) ≡ done x r → (n : ℕ) → enclosed (suc n) outside l ≡ enclosed n outside r)
    (object : (l r : List ℕ) (x : Json) → objects (0x7b ∷ l) ≡ done x r → (n : ℕ) → enclosed (suc n) outside l ≡ enclosed n outside r) where
  value-by_passes : (l r : List ℕ) (x : Json) → value_by paired arrays objects l ≡ done x r → Passes l r
  unfolding value_at enclosed either
  value-by_passes [] r x e = unfold value_by in bad-done e
  value-by_passes (b ∷ l) r x e = go (start b) refl
    where
      f : value_at paired arrays objects b l ≡ done x r
      f = sym (value-start paired arrays objects b l) ∙ e

      word : (w : List ℕ) (y : Json) → literal w y (b ∷ l) ≡ done x r → skipped (b ∷ l) ≡ drop (length w) (b ∷ l) → drop (length w) (w ++ r) ≡ r → Across (w ++ r) r
          → Passes (b ∷ l) r
      word w y i s k a =
          let p = literal-spells w y (b ∷ l) r x i in
          record { skips = s ∙ ap (drop (length w)) p.0 ∙ k; across = λ n. ap (enclosed (suc n) outside) p.0 ∙ a n }

      go : (t : Start) → start b ≡ t → Passes (b ∷ l) r
      go Start.string h =
          let m = made-done Json.string (Strings.string paired 0 l) x r (rw (value_at, h) at f) in
          record {
            skips = skipped-string b l h ∙ string-quoted l m.0 r m.1;
            across = λ n. ap (λ (c : ℕ). enclosed (suc n) outside (c ∷ l)) (string-byte b h) ∙ string_across l m.0 r m.1 n;
          }
      go Start.number h =
          let m = made-done Json.number (number (b ∷ l)) x r (rw (value_at, h) at f) in
          record { skips = skipped-number b l h ∙ numbered-done (b ∷ l) m.1; across = number-crosses (b ∷ l) r m.0 m.1 }
      go Start.array h =
          let i : arrays (b ∷ l) ≡ done x r = rw (value_at, h) at f in
          let k = array l r x (rw (array-byte b h) at i) in
          record {
            skips = skipped-array b l h ∙ k 0 ∙ enclosed-all r;
            across = λ n. ap (λ (c : ℕ). enclosed (suc n) outside (c ∷ l)) (array-byte b h) ∙ enclosed_opens n 0x5b l refl refl ∙ k (suc n);
          }
      go Start.object h =
          let i : objects (b ∷ l) ≡ done x r = rw (value_at, h) at f in
          let k = object l r x (rw (object-byte b h) at i) in
          record {
            skips = skipped-object b l h ∙ k 0 ∙ enclosed-all r;
            across = λ n. ap (λ (c : ℕ). enclosed (suc n) outside (c ∷ l)) (object-byte b h) ∙ enclosed_opens n 0x7b l refl refl ∙ k (suc n);
          }
      go Start.letter_t h = word (bytes "true") (Json.boolean true) (rw (value_at, h) at f) (skipped-true b l h) refl (λ n. refl)
      go Start.letter_f h = word (bytes "false") (Json.boolean false) (rw (value_at, h) at f) (skipped-false b l h) refl (λ n. refl)
      go Start.letter_n h = word (bytes "null") Json.null (rw (value_at, h) at f) (skipped-null b l h) refl (λ n. refl)
      go Start.other h = bad-done (rw (value_at, h) at f)

value_passes : (d : ℕ) (l r : List ℕ) (x : Json) → value paired d l ≡ done x r → Passes l r
unfolding value
value_passes zero = value-by_passes _ _ (λ l r x e. bad-done e) (λ l r x e. bad-done e)
value_passes (suc d) =
    let ih : Crosses (value paired d) = λ l r x e. (value_passes d l r x e).across in
    let consumes = value_consumes paired d in
    value-by_passes _ _
    (λ l r x e.
    let m = made-done (λ xs. Json.array (as_items xs)) (bracketed 0x5d (value paired d) l) x r e in
    bracketed-closed 0x5d consumes ih (λ n q. unfold enclosed either in refl) l r m.0 m.1)
    (λ l r x e.
    let m = made-done (λ ms. Json.object (as_members ms)) (bracketed 0x7d (member paired (value paired d)) l) x r e in
    bracketed-closed 0x7d (member_consumes paired (value paired d) consumes) (member-crosses ih) (λ n q. unfold enclosed either in refl) l r m.0 m.1)

-- The theorem: behind a value that is read stands what is left.
pub skip-value : (d : ℕ) (x : Json) (l t : List ℕ) → value paired d l ≡ done x t → skipped l ≡ t
skip-value d x l t e = (value_passes d l t x e).skips
