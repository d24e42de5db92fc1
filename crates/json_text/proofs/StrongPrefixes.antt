-- A value takes a byte at least, and what it took decides what was read: another text behind it, or none, changes nothing.
-- A number looks one byte further, so what follows one must not go on with it (Settled). Each combinator hands both properties on.
use mathlib.Core.Bool.{Bool, true, false}
use mathlib.Core.List.{List, [], ◌∷◌, ◌++◌, append_assoc}
use mathlib.Core.Path.{◌≡◌, refl, sym, ap, subst, ◌∙◌}
use Prim.Native.Nat.{ℕ, zero, suc, ◌<◌}
use native.Mathlib.Omega.{arith}
use lib.ListN.{length, drop, length-append}
use lib.Dec.{eqb}
use Rattle.notation.proofs.Booleans.{by_test}
use Rattle.word.specs.Kinds.{too_deep}
use Rattle.lexeme.specs.Read.{Read, then, made}
use Rattle.lexeme.specs.Read.Read.{done, bad}
use Rattle.lexeme.specs.Character.{Surrogates}
use Rattle.lexeme.specs.Strings as Strings
use Rattle.lexeme.specs.Tokens.{blank, blanks}
use Rattle.lexeme.proofs.Reading.{Consumes, Any, Settled, Consumed, StrongPrefix}
use Rattle.lexeme.proofs.Reading.Settled.{alike}
use Rattle.lexeme.proofs.Steps.{bad-done, done_what, done-rest, made-done, then-done}
use Rattle.lexeme.proofs.Shrinks.{blanks_shrinks}
use Rattle.lexeme.proofs.StrongPrefixes.{made_takes, made_consumes, cons_took, string_takes, string_consumes, number_takes, number_consumes, literal_takes, literal_consumes, blanks-of, solid-first}
use Rattle.json_text.specs.Tree.{Json}
use Rattle.json_text.specs.Text.{expect, after, contents, bracketed, member, value_by, value}
use Rattle.json_text.specs.Text.After.{closed, more}
use Rattle.json_text.proofs.Steps.{expect-end, expect-here, expect-other, after-closed, after_more, elements-closed, contents-end, contents-none, contents-some, named, chosen}
use Rattle.json_text.proofs.Bound.{Follows, at_close, at-comma, follows_as, after_less, all, Run, faulty, last, next, broken, run, elements-next}

-- Consumes, from the inside out

pub then_consumes : {A B : Type 0} (f : List ℕ → Read A) (g : A → List ℕ → Read B) → Consumes f → ((x : A) → Consumes (g x)) → Consumes (λ l. then (f l) g)
then_consumes f g first second l r y e =
    let p = then-done (f l) g y r e in
    omega (arith, first l p.1 p.0 p.2, second p.0 p.1 r y p.3)

pub blanks_consumes : {A : Type 0} (f : List ℕ → Read A) → Consumes f → Consumes (λ l. f (blanks l))
blanks_consumes f consumes l r x e = omega (arith, consumes (blanks l) r x e, blanks_shrinks l)

pub expect_consumes : {A : Type 0} (c : ℕ) (f : List ℕ → Read A) → Consumes f → Consumes (expect c f)
expect_consumes c f consumes [] r x e = bad-done (sym (expect-end c f) ∙ e)
expect_consumes c f consumes (b ∷ l) r x e =
    by_test (eqb b c) (λ h. omega (arith, consumes l r x (sym (expect-here c f b l h) ∙ e))) (λ h. bad-done (sym (expect-other c f b l h) ∙ e))

-- a reader of what follows a first byte
pub opened_consumes : {A : Type 0} (f : List ℕ → Read A) → Consumes f → Consumes (λ l. f (drop 1 l))
opened_consumes f consumes [] r x e = consumes [] r x e
opened_consumes f consumes (b ∷ l) r x e = omega (arith, consumes l r x e)

module _ {A : Type 0} (close : ℕ) (element : List ℕ → Read A) (consumes : Consumes element) where
  pub run_consumes : {l : List ℕ} {o : Read (List A)} → Run close element l o → (xs : List A) (r : List ℕ) → o ≡ done xs r → length r < length l
  run_consumes (faulty e) xs r i = bad-done i
  run_consumes (broken e j) xs r i = bad-done i
  run_consumes {l} (last {r = m} {q = q} {x = x} e j) xs r i = omega (arith, consumes l m x e, after_less close m j, ap length (done-rest i))
  run_consumes {l} (next {r = m} {q = q} {x = x} {o = o} e j u) xs r i =
      let p = made-done (λ ys. x ∷ ys) o xs r i in
      omega (arith, consumes l m x e, after_less close m j, run_consumes u p.0 r p.1)

  pub contents_consumes : Consumes (contents close element)
  contents_consumes [] r xs e = bad-done (sym (contents-end close element) ∙ e)
  contents_consumes (b ∷ l) r xs e =
      by_test (eqb b close) (λ h. omega (arith, ap length (done-rest (sym (contents-none close element b l h) ∙ e))))
      (λ h. run_consumes (run close element consumes (suc (length (b ∷ l))) (b ∷ l) (omega arith)) xs r (sym (contents-some close element b l h) ∙ e))

  pub bracketed_consumes : Consumes (bracketed close element)
  unfolding bracketed
  bracketed_consumes = blanks_consumes (contents close element) contents_consumes

named_consumes : (f : List ℕ → Read Json) → Consumes f → (name : List ℕ) → Consumes (named f name)
named_consumes f consumes name = blanks_consumes (expect 0x3a _) (expect_consumes 0x3a _ (made_consumes (λ x. (name, x)) _ (blanks_consumes f consumes)))

pub member_consumes : (ρ : Surrogates) (f : List ℕ → Read Json) → Consumes f → Consumes (member ρ f)
unfolding member
member_consumes ρ f consumes = then_consumes (expect 0x22 (Strings.string ρ 0)) (named f) (expect_consumes 0x22 _ (string_consumes ρ 0)) (named_consumes f consumes)

value-by_consumes : (ρ : Surrogates) (arrays objects : List ℕ → Read Json) → Consumes arrays → Consumes objects → Consumes (value_by ρ arrays objects)
unfolding value_by
value-by_consumes ρ arrays objects array object [] r x e = bad-done e
value-by_consumes ρ arrays objects array object (b ∷ l) r x e =
    let c =
    chosen ρ arrays objects Consumes
    (opened_consumes (λ t. made Json.string (Strings.string ρ 0 t)) (made_consumes Json.string _ (string_consumes ρ 0)))
    (made_consumes Json.number _ number_consumes) array object literal_consumes (λ m s y i. bad-done i) b in
    c.holds (b ∷ l) r x (sym (c.reads l) ∙ e)

pub value_consumes : (ρ : Surrogates) (d : ℕ) → Consumes (value ρ d)
unfolding value
value_consumes ρ zero = value-by_consumes ρ (bad too_deep) (bad too_deep) (λ l r x e. bad-done e) (λ l r x e. bad-done e)
value_consumes ρ (suc d) =
    value-by_consumes ρ _ _
    (opened_consumes (λ t. made _ (bracketed 0x5d (value ρ d) t)) (made_consumes _ _ (bracketed_consumes 0x5d (value ρ d) (value_consumes ρ d))))
    (opened_consumes (λ t. made _ (bracketed 0x7d (member ρ (value ρ d)) t))
    (made_consumes _ _ (bracketed_consumes 0x7d (member ρ (value ρ d)) (member_consumes ρ (value ρ d) (value_consumes ρ d)))))

-- parts of a text

-- one part after another
pub joins : {l m : List ℕ} (p q r : List ℕ) → l ≡ p ++ m → m ≡ q ++ r → l ≡ (p ++ q) ++ r
joins p q r e i = e ∙ ap (λ (z : List ℕ). p ++ z) i ∙ sym (append_assoc p q r)

pub took_some : {A : Type 0} {C : List ℕ → List ℕ → Type 0} {f : List ℕ → Read A} {l r : List ℕ} {x : A}
    → Consumes f → f l ≡ done x r → (t : Consumed C f l x r) → 0 < length t.part
took_some {l = l} {r} {x} consumes e t = omega (arith, consumes l r x e, ap length t.splits ∙ length-append t.part r)

-- what a number may stand before: what begins as the text did
pub ok_part : {m : List ℕ} (p r q : List ℕ) → 0 < length p → m ≡ p ++ r → Settled m (p ++ q)
ok_part [] r q h e = absurd (omega arith)
ok_part (c ∷ p) r q h e = rw e alike

-- two readers that agree on texts that begin with b agree on what begins with a part of one
pub agree : {A : Type 0} (f g : List ℕ → Read A) {b : ℕ} {w : List ℕ} (r : List ℕ) → ((q : List ℕ) → f (b ∷ q) ≡ g (b ∷ q))
    → (p : List ℕ) → 0 < length p → b ∷ w ≡ p ++ r → (q : List ℕ) → f (p ++ q) ≡ g (p ++ q)
agree f g r same [] h e q = absurd (omega arith)
agree f g {b} r same (c ∷ p) h e q =
    let n : b ≡ c = cc in
    subst (λ (z : ℕ). f (z ∷ (p ++ q)) ≡ g (z ∷ (p ++ q))) n (same (p ++ q))

pub agree_took : {A : Type 0} {C : List ℕ → List ℕ → Type 0} (f g : List ℕ → Read A) {b : ℕ} {w r : List ℕ} {x : A}
    → ((q : List ℕ) → f (b ∷ q) ≡ g (b ∷ q)) → (t : Consumed C g (b ∷ w) x r) → 0 < length t.part → Consumed C f (b ∷ w) x r
agree_took f g {r = r} same t some =
    record { part = t.part; splits = t.splits; frame = λ q o. agree f g r same t.part some t.splits q ∙ t.frame q o }

-- texts that begin with no blank, or are empty: blanks may stand before them

abbrev pub Solid : List ℕ → Type 0
Solid [] = Unit {0}
Solid (b ∷ q) = blank b ≡ false

pub blanks-solid : (l : List ℕ) → Solid (blanks l)
blanks-solid l = go (blanks l) refl
  where
    go : (m : List ℕ) → blanks l ≡ m → Solid (blanks l)
    go [] e = rw e tt
    go (b ∷ w) e = rw e (solid-first l b w e)

pub solid-part : (p r q : List ℕ) → 0 < length p → Solid (p ++ r) → Solid (p ++ q)
solid-part [] r q h s = absurd (omega arith)
solid-part (c ∷ p) r q h s = s

pub blanks_frame : (l m : List ℕ) → Solid m → blanks ((blanks-of l).part ++ m) ≡ m
blanks_frame l [] s = (blanks-of l).only
blanks_frame l (c ∷ m) s = (blanks-of l).frame c s m

-- StrongPrefix, from the inside out

pub weaken : {A : Type 0} {f : List ℕ → Read A} → StrongPrefix Any f → StrongPrefix Settled f
weaken takes l r x e = let t = takes l r x e in record { part = t.part; splits = t.splits; frame = λ q o. t.frame q tt }

pub then_takes : {A B : Type 0} {C : List ℕ → List ℕ → Type 0} (f : List ℕ → Read A) (g : A → List ℕ → Read B)
    → StrongPrefix Any f → ((x : A) → StrongPrefix C (g x)) → StrongPrefix C (λ l. then (f l) g)
unfolding then
then_takes {A} f g first second l r y e =
    let p = then-done (f l) g y r e in
    let t = first l p.1 p.0 p.2 in
    let u = second p.0 p.1 r y p.3 in
    record {
      part = t.part ++ u.part;
      splits = joins t.part u.part r t.splits u.splits;
      frame = λ q o.
          ap (λ (m : List ℕ). then (f m) g) (append_assoc t.part u.part q)
          ∙ ap (λ (o : Read A). then o g) (t.frame (u.part ++ q) tt) ∙ u.frame q o;
    }

pub blanks_takes : {A : Type 0} {C : List ℕ → List ℕ → Type 0} (f : List ℕ → Read A) → Consumes f → StrongPrefix C f → StrongPrefix C (λ l. f (blanks l))
blanks_takes f consumes takes l r x e =
    let k = blanks-of l in
    let t = takes (blanks l) r x e in
    let solid : (q : List ℕ) → Solid (t.part ++ q) = λ q. solid-part t.part r q (took_some consumes e t) (subst Solid t.splits (blanks-solid l)) in
    record {
      part = k.part ++ t.part;
      splits = joins k.part t.part r k.splits t.splits;
      frame = λ q o.
          ap (λ (m : List ℕ). f (blanks m)) (append_assoc k.part t.part q) ∙ ap f (blanks_frame l (t.part ++ q) (solid q)) ∙ t.frame q o;
    }

pub expect_takes : {A : Type 0} {C : List ℕ → List ℕ → Type 0} (c : ℕ) (f : List ℕ → Read A) → StrongPrefix C f → StrongPrefix C (expect c f)
expect_takes c f takes [] r x e = bad-done (sym (expect-end c f) ∙ e)
expect_takes c f takes (b ∷ l) r x e =
    by_test (eqb b c) (λ h. cons_took b (λ q. expect-here c f b q h) (takes l r x (sym (expect-here c f b l h) ∙ e)))
    (λ h. bad-done (sym (expect-other c f b l h) ∙ e))

pub opened_takes : {A : Type 0} {C : List ℕ → List ℕ → Type 0} (f : List ℕ → Read A) → Consumes f → StrongPrefix C f → StrongPrefix C (λ l. f (drop 1 l))
opened_takes f consumes takes [] r x e = absurd (omega (arith, consumes [] r x e))
opened_takes f consumes takes (b ∷ l) r x e = cons_took b (λ q. refl) (takes l r x e)

-- what follows an element, as parts: the closing bracket, and the comma with the blanks around it
pub record Closes (close : ℕ) (l r : List ℕ) : Type 0 where
  pub part : List ℕ
  pub splits : l ≡ part ++ r
  pub some : 0 < length part
  pub frame : (q : List ℕ) → after close (part ++ q) ≡ closed q

pub record Continues (close : ℕ) (l q : List ℕ) : Type 0 where
  pub part : List ℕ
  pub splits : l ≡ part ++ q
  pub some : 0 < length part
  pub solid : Solid q
  pub frame : (m : List ℕ) → Solid m → after close (part ++ m) ≡ more m

pub closes : (close : ℕ) (l : List ℕ) {r : List ℕ} → after close l ≡ closed r → Closes close l r
closes close l {r} e = go (follows_as close l e)
  where
    go : Follows close l (closed r) → Closes close l r
    go (at_close {b = b} i h) =
        let k = blanks-of l in
        record {
          part = k.part ++ (b ∷ []);
          splits = joins k.part (b ∷ []) r k.splits i;
          some = omega (arith, length-append k.part (b ∷ []));
          frame = λ q. ap (after close) (append_assoc k.part (b ∷ []) q) ∙ after-closed close _ b q (blanks_frame l (b ∷ q) (solid-first l b r i)) h;
        }

pub continues : (close : ℕ) (l : List ℕ) {q : List ℕ} → after close l ≡ more q → Continues close l q
continues close l {q} e = go (follows_as close l e)
  where
    go : {a : List ℕ} → Follows close l (more a) → Continues close l a
    go (at-comma {b = b} {q = w} i h j) =
        let k = blanks-of l in
        let n = blanks-of w in
        record {
          part = k.part ++ (b ∷ n.part);
          splits = joins k.part (b ∷ n.part) (blanks w) k.splits (i ∙ ap (λ (z : List ℕ). b ∷ z) n.splits);
          some = omega (arith, length-append k.part (b ∷ n.part));
          solid = blanks-solid w;
          frame = λ m s.
              ap (after close) (append_assoc k.part (b ∷ n.part) m)
              ∙ after_more close _ b _ (blanks_frame l (b ∷ (n.part ++ m)) (solid-first l b w i)) h j
              ∙ ap more (blanks_frame w m s);
        }

module _ {A : Type 0} (close : ℕ) (element : List ℕ → Read A) (consumes : Consumes element) (takes : StrongPrefix Settled element) where
  pub run_takes : {l : List ℕ} {o : Read (List A)} → Run close element l o → (xs : List A) (r : List ℕ) → o ≡ done xs r → Consumed Any (all close element) l xs r
  run_takes (faulty e) xs r i = bad-done i
  run_takes (broken e j) xs r i = bad-done i
  run_takes {l} (last {r = m} {q = q} {x = x} e j) xs r i =
      let t = takes l m x e in
      let s = closes close m j in
      record {
        part = t.part ++ s.part;
        splits = joins t.part s.part r t.splits (s.splits ∙ ap (λ (z : List ℕ). s.part ++ z) (done-rest i));
        frame = λ v o.
            ap (all close element) (append_assoc t.part s.part v)
            ∙ elements-closed close _ element _ x (s.part ++ v) v (t.frame (s.part ++ v) (ok_part s.part q v s.some s.splits)) (s.frame v)
            ∙ ap (λ (z : List A). done z v) (done_what i);
      }
  run_takes {l} (next {r = m} {q = q} {x = x} {o = o} e j u) xs r i =
      let p = made-done (λ ys. x ∷ ys) o xs r i in
      let t = takes l m x e in
      let s = continues close m j in
      let w = run_takes u p.0 r p.1 in
      let some : 0 < length w.part = omega (arith, run_consumes close element consumes u p.0 r p.1, ap length w.splits ∙ length-append w.part r) in
      let solid : (v : List ℕ) → Solid (w.part ++ v) = λ v. solid-part w.part r v some (subst Solid w.splits s.solid) in
      record {
        part = t.part ++ (s.part ++ w.part);
        splits = joins t.part (s.part ++ w.part) r t.splits (joins s.part w.part r s.splits w.splits);
        frame = λ v c.
            ap (all close element) (append_assoc t.part (s.part ++ w.part) v ∙ ap (λ (z : List ℕ). t.part ++ z) (append_assoc s.part w.part v))
            ∙ elements-next close element consumes _ (s.part ++ (w.part ++ v)) (w.part ++ v) x
            (t.frame _ (ok_part s.part q (w.part ++ v) s.some s.splits)) (s.frame (w.part ++ v) (solid v))
            ∙ ap (made (λ ys. x ∷ ys)) (w.frame v tt)
            ∙ made-to v p.2;
      }
    where
      made-to : {ys : List A} (v : List ℕ) → x ∷ ys ≡ xs → made (λ zs. x ∷ zs) (done ys v) ≡ done xs v
      made-to v e = unfold made in ap (λ (z : List A). done z v) e

  pub contents_takes : StrongPrefix Any (contents close element)
  contents_takes [] r xs e = bad-done (sym (contents-end close element) ∙ e)
  contents_takes (b ∷ l) r xs e = go (eqb b close) refl
    where
      u : Run close element (b ∷ l) (all close element (b ∷ l))
      u = run close element consumes (suc (length (b ∷ l))) (b ∷ l) (omega arith)

      go : (t : Bool) → eqb b close ≡ t → Consumed Any (contents close element) (b ∷ l) xs r
      go true h =
          let p = sym (contents-none close element b l h) ∙ e in
          record {
            part = b ∷ [];
            splits = ap (λ (m : List ℕ). b ∷ m) (done-rest p);
            frame = λ q o. contents-none close element b q h ∙ ap (λ (z : List A). done z q) (done_what p);
          }
      go false h =
          let p = sym (contents-some close element b l h) ∙ e in
          let t = run_takes u xs r p in
          agree_took (contents close element) (all close element) (λ q. contents-some close element b q h) t
          (omega (arith, run_consumes close element consumes u xs r p, ap length t.splits ∙ length-append t.part r))

  pub bracketed_takes : StrongPrefix Any (bracketed close element)
  unfolding bracketed
  bracketed_takes = blanks_takes (contents close element) (contents_consumes close element consumes) contents_takes

pub named_takes : (f : List ℕ → Read Json) → Consumes f → StrongPrefix Settled f → (name : List ℕ) → StrongPrefix Settled (named f name)
named_takes f consumes takes name =
    blanks_takes (expect 0x3a _) (expect_consumes 0x3a _ (made_consumes (λ x. (name, x)) _ (blanks_consumes f consumes)))
    (expect_takes 0x3a _ (made_takes (λ x. (name, x)) _ (blanks_takes f consumes takes)))

pub member_takes : (ρ : Surrogates) (f : List ℕ → Read Json) → Consumes f → StrongPrefix Settled f → StrongPrefix Settled (member ρ f)
unfolding member
member_takes ρ f consumes takes = then_takes (expect 0x22 (Strings.string ρ 0)) (named f) (expect_takes 0x22 _ (string_takes ρ 0)) (named_takes f consumes takes)

-- a reader that takes a byte at least, and what it takes decides what it reads
pub record Consumer {A : Type 0} (f : List ℕ → Read A) : Type 0 where
  pub consumes : Consumes f
  pub takes : StrongPrefix Settled f

opened_made : {A : Type 0} (g : A → Json) (f : List ℕ → Read A) → Consumes f → StrongPrefix Any f → Consumer (λ l. made g (f (drop 1 l)))
opened_made g f consumes takes =
    record {
      consumes = opened_consumes (λ t. made g (f t)) (made_consumes g f consumes);
      takes = weaken (opened_takes (λ t. made g (f t)) (made_consumes g f consumes) (made_takes g f takes));
    }

value-by_takes : (ρ : Surrogates) (arrays objects : List ℕ → Read Json) → Consumer arrays → Consumer objects → StrongPrefix Settled (value_by ρ arrays objects)
unfolding value_by
value-by_takes ρ arrays objects array object [] r x e = bad-done e
value-by_takes ρ arrays objects array object (b ∷ l) r x e =
    let c =
    chosen ρ arrays objects Consumer
    (opened_made Json.string _ (string_consumes ρ 0) (string_takes ρ 0))
    (record { consumes = made_consumes Json.number _ number_consumes; takes = made_takes Json.number _ number_takes })
    array
    object
    (λ c w y. record { consumes = literal_consumes c w y; takes = weaken (literal_takes (c ∷ w) y) })
    (record { consumes = λ m s y i. bad-done i; takes = λ m s y i. bad-done i })
    b in
    let p = sym (c.reads l) ∙ e in
    let t = c.holds.takes (b ∷ l) r x p in
    agree_took (value_by ρ arrays objects) c.reader c.reads t (took_some c.holds.consumes p t)

pub value_takes : (ρ : Surrogates) (d : ℕ) → StrongPrefix Settled (value ρ d)
unfolding value
value_takes ρ zero =
    let deep : Consumer {A = Json} (bad too_deep) = record { consumes = λ l r x e. bad-done e; takes = λ l r x e. bad-done e } in
    value-by_takes ρ (bad too_deep) (bad too_deep) deep deep
value_takes ρ (suc d) =
    let consumes = value_consumes ρ d in
    let takes = value_takes ρ d in
    let name-consumes = member_consumes ρ (value ρ d) consumes in
    value-by_takes ρ _ _
    (opened_made _ _ (bracketed_consumes 0x5d (value ρ d) consumes) (bracketed_takes 0x5d (value ρ d) consumes takes))
    (opened_made _ _ (bracketed_consumes 0x7d (member ρ (value ρ d)) name-consumes)
    (bracketed_takes 0x7d (member ρ (value ρ d)) name-consumes (member_takes ρ (value ρ d) consumes takes)))
