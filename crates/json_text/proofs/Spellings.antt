-- Every text that is read spells its tree: each reader takes, off the front, a spelling of what it read. With `Spelled`, a text is read to a tree
-- exactly where it spells it, and stage A passes just the files that spell one.
use mathlib.Core.Bool.{true, false}
use mathlib.Core.List.{List, [], ◌∷◌, ◌++◌, append_assoc, append-nil, append_cancel_right}
use mathlib.Core.Path.{◌≡◌, refl, sym, ap, subst, ◌∙◌}
use Prim.Native.Nat.{ℕ, zero, suc, ◌≤◌}
use native.Mathlib.Omega.{arith}
use lib.ListN.{length}
use lib.Dec.{eqb, ltb}
use borrow.Author.Tests.{eqb-true}
use Rattle.limits.specs.Ceilings.{file_bytes, depth}
use Rattle.word.specs.Kinds.{too_long}
use Rattle.notation.specs.Ascii.{bytes}
use Rattle.notation.proofs.Booleans.{by_test}
use Rattle.lexeme.specs.Read.{Read, placed, wrong_at}
use Rattle.lexeme.specs.Read.Read.{done, bad}
use Rattle.lexeme.specs.Character.{Surrogates, paired}
use Rattle.lexeme.specs.Strings as Strings
use Rattle.lexeme.specs.Numbers as Numbers
use Rattle.lexeme.specs.Tokens.{blank, blanks, literal}
use Rattle.lexeme.specs.inner.Start.{Start, start}
use Rattle.lexeme.proofs.Reading.{Consumes}
use Rattle.lexeme.proofs.Reading.Settled.{stops}
use Rattle.lexeme.proofs.Steps.{bad-done, done_what, done-rest, made-done, then-done, blanks_pass, blanks_stop}
use Rattle.lexeme.proofs.StrongPrefixes.{number_takes}
use Rattle.lexeme.proofs.Starts.{string-byte, array-byte, object-byte}
use Rattle.lexeme.proofs.Spells.{number-spells, literal-spells}
use Rattle.json_text.specs.Tree.{Json, as_items, as_members}
use Rattle.json_text.specs.Text.{expect, contents, bracketed, member, value_by, value, finish, text, syntax_by, syntax_of}
use Rattle.json_text.specs.Text.After.{closed, more}
use Rattle.json_text.specs.Spelling.{Blanks, Padded, Quoted, Plain, Listed, Enclosed, Member, Nested, Value, Spells}
use Rattle.json_text.proofs.Steps.{expect-end, expect-here, expect-other, contents-end, contents-none, contents-some, named, value_at, value-start}
use Rattle.json_text.proofs.Bound.{Follows, at_close, at-comma, follows_as, Run, faulty, last, next, broken, run}
use Rattle.json_text.proofs.StrongPrefixes.{value_consumes, member_consumes}
use Rattle.json_text.proofs.Texts.{judged}
use Rattle.json_text.proofs.Characters.{string_characters}
use Rattle.json_text.proofs.Spelled.{spelled-read}
use Rattle.std.specs.Prelude.{Ok}

-- a spelling at the front of l, and r after it
pub record Front (S : List ℕ → Type 0) (l r : List ℕ) : Type 0 where
  pub part : List ℕ
  pub splits : l ≡ part ++ r
  pub spells : S part

pub blanks-front : (l : List ℕ) → Front Blanks l (blanks l)
unfolding blanks
blanks-front [] = record { part = []; splits = refl; spells = Blanks.none }
blanks-front (b ∷ l) =
    let k = blanks-front l in
    by_test (blank b)
    (λ h.
    record {
      part = b ∷ k.part;
      splits = ap (λ (m : List ℕ). b ∷ m) (k.splits ∙ ap (λ (m : List ℕ). k.part ++ m) (sym (blanks_pass b l h)));
      spells = Blanks.some h k.spells;
    })
    (λ h. record { part = []; splits = sym (blanks_stop b l h); spells = Blanks.none })

-- a front, where the texts are equal to others
pub front_of : {S : List ℕ → Type 0} {l m r q : List ℕ} → l ≡ m → r ≡ q → Front S m r → Front S l q
front_of e f k = record { part = k.part; splits = e ∙ k.splits ∙ ap (λ (z : List ℕ). k.part ++ z) f; spells = k.spells }

-- blanks, and a byte after them
sign-front : (l : List ℕ) {b c : ℕ} {r : List ℕ} → blanks l ≡ b ∷ r → eqb b c ≡ true → Front Blanks l (c ∷ r)
sign-front l {b} {c} {r} e h = front_of refl (e ∙ ap (λ (z : ℕ). z ∷ r) (eqb-true b c h)) (blanks-front l)

-- two tokens with a sign between them and blanks around that, one after another
pub joined : {l m p n : List ℕ} (v w c u s q : List ℕ) → l ≡ v ++ m → m ≡ w ++ (c ++ p) → p ≡ u ++ n → n ≡ s ++ q → l ≡ (v ++ w ++ c ++ u ++ s) ++ q
joined v w c u s q e f g h = e ∙ ap (λ (z : List ℕ). v ++ z) (f ∙ ap (λ (z : List ℕ). w ++ (c ++ z)) (g ∙ ap (λ (z : List ℕ). u ++ z) h)) ∙ simp append_assoc

-- what f reads has a spelling in S at the front
abbrev pub Finds : {A : Type 0} → (List ℕ → Read A) → (A → List ℕ → Type 0) → Type 0
Finds {A} f S = (l r : List ℕ) (x : A) → f l ≡ done x r → Front (S x) l r

-- elements up to their closing bracket
record Closed {A : Type 0} (close : ℕ) (S : A → List ℕ → Type 0) (l r : List ℕ) (xs : List A) : Type 0 where
  part : List ℕ
  gap : List ℕ
  splits : l ≡ part ++ (gap ++ (close ∷ r))
  spells : Listed S xs part
  empty : Blanks gap

module _ {A : Type 0} (close : ℕ) {element : List ℕ → Read A} {S : A → List ℕ → Type 0} (consumes : Consumes element) (finds : Finds element S) where
  closed-last : {l m q : List ℕ} {x : A} → element l ≡ done x m → Follows close m (closed q) → Closed close S l q (x ∷ [])
  closed-last {l} {m} {q} {x} e (at_close i h) =
      let k = finds l m x e in
      let g = sign-front m i h in
      record { part = k.part; gap = g.part; splits = k.splits ∙ ap (λ (z : List ℕ). k.part ++ z) g.splits; spells = Listed.last k.spells; empty = g.spells }

  closed-next : {l m n r : List ℕ} {x : A} {xs : List A} → element l ≡ done x m → Follows close m (more n) → Closed close S n r xs → Closed close S l r (x ∷ xs)
  closed-next {l} {m} {n} {r} {x} {xs} e (at-comma {q = v} i h j) c =
      let k = finds l m x e in
      let g = sign-front m i j in
      let d = blanks-front v in
      record {
        part = k.part ++ g.part ++ bytes "," ++ d.part ++ c.part;
        gap = c.gap;
        splits = joined k.part g.part (bytes ",") d.part c.part (c.gap ++ (close ∷ r)) k.splits g.splits d.splits c.splits;
        spells = Listed.comma k.spells g.spells d.spells c.spells;
        empty = c.empty;
      }

  run_finds : {l : List ℕ} {o : Read (List A)} → Run close element l o → (xs : List A) (r : List ℕ) → o ≡ done xs r → Closed close S l r xs
  run_finds (faulty e) xs r i = bad-done i
  run_finds (broken e j) xs r i = bad-done i
  run_finds (last {r = m} e j) xs r i = rw (← done_what i, ← done-rest i) (closed-last e (follows_as close m j))
  run_finds (next {r = m} {x = x} {o = o} e j u) xs r i =
      let p = made-done (λ ys. x ∷ ys) o xs r i in
      rw (← p.2) (closed-next e (follows_as close m j) (run_finds u p.0 r p.1))

  -- what stands between brackets, up to the closing one
  contents_finds : (w l r : List ℕ) (xs : List A) → Blanks w → contents close element l ≡ done xs r
      → (s : List ℕ) × (w ++ l ≡ s ++ (close ∷ r)) × Enclosed S xs s
  contents_finds w [] r xs k e = bad-done (sym (contents-end close element) ∙ e)
  contents_finds w (b ∷ l) r xs k e =
      by_test (eqb b close)
      (λ h.
      let p : done [] l ≡ done xs r = sym (contents-none close element b l h) ∙ e in
      (w, ap (λ (m : List ℕ). w ++ m) (rw (eqb-true b close h) (ap (λ (m : List ℕ). close ∷ m) (done-rest p))), rw (← done_what p) (Enclosed.nothing k)))
      (λ h.
      let c = run_finds (run close element consumes (suc (length (b ∷ l))) (b ∷ l) (omega arith)) xs r (sym (contents-some close element b l h) ∙ e) in (
        w ++ c.part ++ c.gap,
        ap (λ (m : List ℕ). w ++ m) c.splits ∙ simp append_assoc,
        Enclosed.elements (Padded.padded k c.spells c.empty),
      ))

  pub bracketed_finds : (l r : List ℕ) (xs : List A) → bracketed close element l ≡ done xs r → (s : List ℕ) × (l ≡ s ++ (close ∷ r)) × Enclosed S xs s
  unfolding bracketed
  bracketed_finds l r xs e =
      let k = blanks-front l in
      let c = contents_finds k.part (blanks l) r xs k.spells e in
      (c.0, k.splits ∙ c.1, c.2)

-- the part s between a byte a and a byte z
pub between : {S : List ℕ → Type 0} (a z : ℕ) {l : List ℕ} (s : List ℕ) {r : List ℕ} → l ≡ s ++ (z ∷ r) → S (a ∷ (s ++ (z ∷ []))) → Front S (a ∷ l) r
between a z s {r} e spells =
    record {
      part = a ∷ (s ++ (z ∷ []));
      splits = ap (λ (m : List ℕ). a ∷ m) (e ∙ sym (append_assoc s (z ∷ []) r));
      spells = spells;
    }

-- strings, and members named by them
quoted-front : (l y r : List ℕ) → Strings.string paired 0 l ≡ done y r → Front (Quoted y) (0x22 ∷ l) r
quoted-front l y r e = let c = string_characters l y r e in between 0x22 0x22 c.0 c.1 (Quoted.quoted c.2)

pub expect-done : {A : Type 0} (c : ℕ) (f : List ℕ → Read A) (l r : List ℕ) (x : A) → expect c f l ≡ done x r → (m : List ℕ) × (l ≡ c ∷ m) × (f m ≡ done x r)
expect-done c f [] r x e = bad-done (sym (expect-end c f) ∙ e)
expect-done c f (b ∷ l) r x e =
    by_test (eqb b c) (λ h. (l, ap (λ (z : ℕ). z ∷ l) (eqb-true b c h), sym (expect-here c f b l h) ∙ e)) (λ h. bad-done (sym (expect-other c f b l h) ∙ e))

colon-front : {S : Json → List ℕ → Type 0} {name : List ℕ} {x : Json} {l m p r : List ℕ}
    → Front (Quoted name) l m → Front Blanks m (0x3a ∷ p) → Front Blanks p (blanks p) → Front (S x) (blanks p) r → Front (Member S (name, x)) l r
colon-front {r = r} n w u v =
    record {
      part = n.part ++ w.part ++ bytes ":" ++ u.part ++ v.part;
      splits = joined n.part w.part (bytes ":") u.part v.part r n.splits w.splits u.splits v.splits;
      spells = Member.colon n.spells w.spells u.spells v.spells;
    }

member_finds : {f : List ℕ → Read Json} {S : Json → List ℕ → Type 0} → Finds f S → Finds (member paired f) (Member S)
unfolding member
member_finds {f} {S} finds l r m e =
    let p = then-done (expect 0x22 (Strings.string paired 0) l) (named f) m r e in
    let a = expect-done 0x22 (Strings.string paired 0) l p.1 p.0 p.2 in
    let c = expect-done 0x3a _ (blanks p.1) r m p.3 in
    let t = made-done (λ x. (p.0, x)) (f (blanks c.0)) m r c.2 in
    subst (λ z. Front (Member S z) l r) t.2
    (colon-front (front_of a.1 refl (quoted-front a.0 p.0 p.1 a.2)) (front_of refl c.1 (blanks-front p.1)) (blanks-front c.0)
    (finds (blanks c.0) r t.0 t.1))

-- numbers and words
pub number-alone : (l n r : List ℕ) → Numbers.number l ≡ done n r → (l ≡ n ++ r) × (Numbers.number n ≡ done n [])
number-alone l n r e =
    let t = number_takes l r n e in
    let s = number-spells l r n e in
    let own : t.part ≡ n = append_cancel_right t.part n r (sym t.splits ∙ s) in
    (s, ap Numbers.number (sym own ∙ sym (append-nil t.part)) ∙ t.frame [] (stops tt))

-- Values by their first byte, where what S spells is told case by case: strings, numbers, the three words, and arrays and objects from their bracket on.
module _ (ρ : Surrogates) (arrays objects : List ℕ → Read Json) (S : Json → List ℕ → Type 0)
    (string : (l y r : List ℕ) → Strings.string ρ 0 l ≡ done y r → Front (S (Json.string y)) (0x22 ∷ l) r)
    (number : (n : List ℕ) → Numbers.number n ≡ done n [] → S (Json.number n) n)
    (yes : S (Json.boolean true) (bytes "true")) (no : S (Json.boolean false) (bytes "false")) (null : S Json.null (bytes "null"))
    (array : (l r : List ℕ) (x : Json) → arrays (0x5b ∷ l) ≡ done x r → Front (S x) (0x5b ∷ l) r)
    (object : (l r : List ℕ) (x : Json) → objects (0x7b ∷ l) ≡ done x r → Front (S x) (0x7b ∷ l) r) where
  word-front : (w : List ℕ) (x : Json) (l r : List ℕ) (y : Json) → S x w → literal w x l ≡ done y r → Front (S y) l r
  word-front w x l r y k e =
      let p = literal-spells w x l r y e in
      record { part = w; splits = p.0; spells = subst (λ z. S z w) p.1 k }

  pub value-by_finds : Finds (value_by ρ arrays objects) S
  unfolding value_at
  value-by_finds [] r x e = unfold value_by in bad-done e
  value-by_finds (b ∷ l) r x e = go (start b) refl (sym (value-start ρ arrays objects b l) ∙ e)
    where
      go : (t : Start) → start b ≡ t → value_at ρ arrays objects b l ≡ done x r → Front (S x) (b ∷ l) r
      go Start.string h f =
          let m = made-done Json.string (Strings.string ρ 0 l) x r (rw (value_at, h) at f) in
          subst (λ z. Front (S z) (b ∷ l) r) m.2 (rw (string-byte b h) (string l m.0 r m.1))
      go Start.number h f =
          let m = made-done Json.number (Numbers.number (b ∷ l)) x r (rw (value_at, h) at f) in
          let n = number-alone (b ∷ l) m.0 r m.1 in
          subst (λ z. Front (S z) (b ∷ l) r) m.2 (record { part = m.0; splits = n.0; spells = number m.0 n.1 })
      go Start.array h f =
          let i : arrays (b ∷ l) ≡ done x r = rw (value_at, h) at f in
          rw (array-byte b h) (array l r x (rw (array-byte b h) at i))
      go Start.object h f =
          let i : objects (b ∷ l) ≡ done x r = rw (value_at, h) at f in
          rw (object-byte b h) (object l r x (rw (object-byte b h) at i))
      go Start.letter_t h f = word-front (bytes "true") (Json.boolean true) (b ∷ l) r x yes (rw (value_at, h) at f)
      go Start.letter_f h f = word-front (bytes "false") (Json.boolean false) (b ∷ l) r x no (rw (value_at, h) at f)
      go Start.letter_n h f = word-front (bytes "null") Json.null (b ∷ l) r x null (rw (value_at, h) at f)
      go Start.other h f = bad-done (rw (value_at, h) at f)

-- a string as a value
string-front : {S : Json → List ℕ → Type 0} → ((x : Json) (s : List ℕ) → Plain x s → S x s)
    → (l y r : List ℕ) → Strings.string paired 0 l ≡ done y r → Front (S (Json.string y)) (0x22 ∷ l) r
string-front plain l y r e = let k = quoted-front l y r e in record { part = k.part; splits = k.splits; spells = plain _ _ (Plain.string k.spells) }

-- all values, level by level
value_finds : (d : ℕ) → Finds (value paired d) (Value d)
unfolding value
value_finds zero =
    value-by_finds paired _ _ Plain (string-front {S = Plain} (λ x s k. k)) (λ n. Plain.number) Plain.yes Plain.no Plain.null
    (λ l r x e. bad-done e) (λ l r x e. bad-done e)
value_finds (suc d) =
    let ih = value_finds d in
    let consumes = value_consumes paired d in
    value-by_finds paired _ _ (Nested (Value d)) (string-front {S = Nested (Value d)} (λ x s k. Nested.plain k)) (λ n e. Nested.plain (Plain.number e))
    (Nested.plain Plain.yes) (Nested.plain Plain.no) (Nested.plain Plain.null)
    (λ l r x e.
    let m = made-done (λ xs. Json.array (as_items xs)) (bracketed 0x5d (value paired d) l) x r e in
    subst (λ z. Front (Nested (Value d) z) (0x5b ∷ l) r) m.2
    (let c = bracketed_finds 0x5d consumes ih l r m.0 m.1 in between 0x5b 0x5d c.0 c.1 (Nested.array c.2)))
    (λ l r x e.
    let m = made-done (λ ms. Json.object (as_members ms)) (bracketed 0x7d (member paired (value paired d)) l) x r e in
    subst (λ z. Front (Nested (Value d) z) (0x7b ∷ l) r) m.2
    (let c = bracketed_finds 0x7d (member_consumes paired (value paired d) consumes) (member_finds ih) l r m.0 m.1 in
    between 0x7b 0x7d c.0 c.1 (Nested.object c.2)))

pub value-spells : (d : ℕ) (x : Json) (l r : List ℕ) → value paired d l ≡ done x r → (s : List ℕ) × (l ≡ s ++ r) × Value d x s
value-spells d x l r e = let k = value_finds d l r x e in (k.part, k.splits, k.spells)

pub finish-done : (y : Json) (l : List ℕ) (x : Json) (r : List ℕ) → finish y l ≡ done x r → (l ≡ []) × (y ≡ x) × ([] ≡ r)
unfolding finish
finish-done y [] x r e = (refl, done_what e, done-rest e)
finish-done y (b ∷ l) x r e = bad-done e

pub padded-front : {S : List ℕ → Type 0} {s l m n : List ℕ} → Front Blanks s l → Front S l m → Front Blanks m n → n ≡ [] → Padded S s
padded-front {S} {s} w v u e = subst (Padded S) (sym whole) (Padded.padded w.spells v.spells u.spells)
  where
    whole : s ≡ w.part ++ v.part ++ u.part
    whole =
        w.splits
        ∙ ap (λ (z : List ℕ). w.part ++ z) (v.splits ∙ ap (λ (z : List ℕ). v.part ++ z) (u.splits ∙ ap (λ (z : List ℕ). u.part ++ z) e ∙ append-nil u.part))
        ∙ sym (append_assoc w.part v.part u.part)

-- The theorem: a text that is read to the tree x spells x, and it is read to its end.
text_finds : (d : ℕ) (x : Json) (s r : List ℕ) → text paired d s ≡ done x r → Spells d x s × ([] ≡ r)
unfolding text
text_finds d x s r e =
    let p = then-done (value paired d (blanks s)) (λ y q. finish y (blanks q)) x r e in
    let f = finish-done p.0 (blanks p.1) x r p.3 in (
      subst (λ z. Spells d z s) f.1
          (record { whole = padded-front (blanks-front s) (value_finds d (blanks s) p.1 p.0 p.2) (blanks-front p.1) f.0 }),
      f.2,
    )

pub read-spells : (d : ℕ) (x : Json) (s : List ℕ) → text paired d s ≡ done x [] → Spells d x s
read-spells d x s e = (text_finds d x s [] e).0

-- Stage A passes a file exactly where it is short enough and spells some tree.
pub sound-spells : (s : List ℕ) → syntax_of s ≡ Ok tt → (x : Json) × Spells depth x s
unfolding syntax_of syntax_by placed
sound-spells s e = by_test (ltb file_bytes (length s)) long read
  where
    long : ltb file_bytes (length s) ≡ true → (x : Json) × Spells depth x s
    long h = let p : wrong_at too_long 0 ≡ Ok tt = rw (h, syntax_of) at e in absurd (let z : ◌≡◌ {A = ℕ} 0 1 = cc in omega arith)

    go : (o : Read Json) → text paired depth s ≡ o → syntax_by (placed s o) ≡ Ok tt → (x : Json) × Spells depth x s
    go (done x r) h i = (x, (text_finds depth x s r h).0)
    go (bad k r) h i = absurd (let z : ◌≡◌ {A = ℕ} 0 1 = cc in omega arith)

    read : ltb file_bytes (length s) ≡ false → (x : Json) × Spells depth x s
    read h = go (text paired depth s) refl (rw (h, syntax_of) at e)

pub spells-sound : {x : Json} (s : List ℕ) → length s ≤ file_bytes → Spells depth x s → syntax_of s ≡ Ok tt
unfolding syntax_by placed
spells-sound {x} s few h = sym (judged s (placed s (done x [])) few (ap (placed s) (sym (spelled-read h))))
