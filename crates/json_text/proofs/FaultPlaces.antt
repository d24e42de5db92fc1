-- Where a fault of kind 3 or 4 stands. Both kinds go up through the readers in the same way, so this is shown of a kind that is not 2, by what is known
-- at its source: what stands at the fault (P), a byte that goes on there instead (z), the place there (W) by the brackets open before it, and how many these
-- may be where d levels are left (L). Each reader hands on what stands before the fault: the place that it leads to, and an ending that completes it.
use mathlib.Core.Bool.{true, false}
use mathlib.Core.List.{List, [], ◌∷◌, ◌++◌, append_assoc, append_cancel_right}
use mathlib.Core.Path.{◌≡◌, refl, sym, ap, subst, ◌∙◌}
use Prim.Native.Nat.{ℕ, zero, suc, ◌+◌}
use native.Mathlib.Omega.{arith}
use lib.ListN.{length}
use lib.Dec.{eqb}
use borrow.Author.Tests.{eqb-true}
use Rattle.word.specs.Kinds.{not_json, unpaired, too_deep}
use Rattle.lexeme.specs.Read.{Read, then, made}
use Rattle.lexeme.specs.Read.Read.{done, bad}
use Rattle.lexeme.specs.Character.{paired, lone}
use Rattle.lexeme.specs.Strings as Strings
use Rattle.lexeme.specs.Numbers as Numbers
use Rattle.lexeme.specs.Numbers.{either}
use Rattle.lexeme.specs.Tokens.{blank, blanks, literal}
use Rattle.lexeme.specs.inner.Start.{Start, start}
use Rattle.lexeme.proofs.Reading.{Consumes, Any, Settled, StrongPrefix}
use Rattle.lexeme.proofs.Reading.Settled.{stops}
use Rattle.lexeme.proofs.Steps.{then-done, done-bad, bad_kind, made_reads, made-bad, made-done, then-reads, then_fails}
use Rattle.notation.proofs.Booleans.{by_test}
use Rattle.lexeme.proofs.StrongPrefixes.{string_takes, blanks-of}
use Rattle.lexeme.proofs.Relaxed.{string_relaxed}
use Rattle.lexeme.proofs.Starts.{string-byte, array-byte, object-byte}
use Rattle.json_text.specs.Cases.{reading}
use Rattle.json_text.specs.Tree.{Json, as_items, as_members}
use Rattle.json_text.specs.Text.{expect, after, contents, bracketed, member, value_by, value, finish, text}
use Rattle.json_text.specs.Text.After.{more}
use Rattle.json_text.specs.Places.{Place, outside, inside, step, along}
use Rattle.json_text.proofs.Steps.{expect-end, expect-here, expect-other, elements-closed, contents-end, contents-none, contents-some, named, value_at, value-start}
use Rattle.json_text.proofs.Bound.{Follows, at-comma, follows_as, all, Run, faulty, last, next, broken, run, elements-next}
use Rattle.json_text.proofs.FaultKinds.{Plain, number-plain, literal-plain}
use Rattle.json_text.proofs.StrongPrefixes.{joins, agree, ok_part, Solid, blanks-solid, blanks_frame, Continues, continues, expect_takes, member_takes, member_consumes, value_takes, value_consumes}
use Rattle.json_text.proofs.Relaxed.{value_relaxed, ends_too}
use Rattle.json_text.proofs.Faults.{Starts, handed, extend, Closing, closes-at-once, square, curly}
use Rattle.json_text.proofs.Found.{string-found}
use Rattle.json_text.proofs.Spellings.{blanks-front, expect-done, joined}
use Rattle.json_text.proofs.Passed.{value_finds}
use Rattle.json_text.proofs.Balanced.{further, onwards, Balanced, blanks_balanced, comma_quiet, colon_quiet, quote_opens, opens_array, opens_object, string_balanced, value_balanced}

-- What is read whole leads from a place of the sort From to one outside strings, with no bracket more or less open.
pub record Clear (From : ℕ → Place) (l r : List ℕ) : Type 0 where
  pub part : List ℕ
  pub splits : l ≡ part ++ r
  pub leads : (n : ℕ) → along (From n) part ≡ outside n

abbrev pub Clears : {A : Type 0} → (ℕ → Place) → (List ℕ → Read A) → Type 0
Clears {A} From f = (l r : List ℕ) (x : A) → f l ≡ done x r → Clear From l r

-- it is the same part, however it was found
clear-part : {From : ℕ → Place} {l r : List ℕ} (p : List ℕ) → l ≡ p ++ r → Clear From l r → (n : ℕ) → along (From n) p ≡ outside n
clear-part {From} {r = r} p e c n = ap (along (From n)) (append_cancel_right p c.part r (sym e ∙ c.splits)) ∙ c.leads n

blanks-lead : (l : List ℕ) (n : ℕ) → along (outside n) (blanks-of l).part ≡ outside n
blanks-lead l =
    let k = blanks-front l in
    clear-part (blanks-of l).part (blanks-of l).splits (record { part = k.part; splits = k.splits; leads = blanks_balanced k.spells })

string-clear : Clears inside (Strings.string paired 0)
string-clear l r y e =
    let c = string-found l y r (ends_too (string_relaxed 0 l) e) in
    record { part = c.0 ++ (0x22 ∷ []); splits = c.1 ∙ sym (append_assoc c.0 (0x22 ∷ []) r); leads = string_balanced c.2 }

name-clear : Clears outside (expect 0x22 (Strings.string paired 0))
name-clear l r y e =
    let a = expect-done 0x22 (Strings.string paired 0) l r y e in
    let c = string-clear a.0 r y a.2 in
    record {
      part = 0x22 ∷ c.part;
      splits = a.1 ∙ ap (λ (m : List ℕ). 0x22 ∷ m) c.splits;
      leads = λ n. onwards (outside n) 0x22 c.part (quote_opens n) (c.leads n);
    }

value-clear : (d : ℕ) → Clears outside (value paired d)
value-clear d l r x e =
    let lax = ends_too (value_relaxed (λ n. n ≡ unpaired) paired lone (string_relaxed 0) d d (omega arith) (λ h. absurd (omega arith)) l) e in
    let k = value_finds d l r x lax in
    record { part = k.part; splits = k.splits; leads = value_balanced d k.part k.spells }

-- blanks, a sign, and blanks
sign-lead : (c : ℕ) → ((n : ℕ) → step (outside n) c ≡ outside n) → (p q : List ℕ) → Balanced p → Balanced q → Balanced (p ++ (c ∷ q))
sign-lead c quiet p q e f n = further (outside n) p (c ∷ q) (e n) (onwards (outside n) c q (quiet n) (f n))

colon : (i : ℕ) → along (outside i) (0x3a ∷ []) ≡ outside i
unfolding along
colon i = colon_quiet i

member-clear : (f : List ℕ → Read Json) → Clears outside f → Clears outside (member paired f)
unfolding member
member-clear f clear l r m e =
    let p = then-done (expect 0x22 (Strings.string paired 0) l) (named f) m r e in
    let c = expect-done 0x3a _ (blanks p.1) r m p.3 in
    let t = made-done (λ x. (p.0, x)) (f (blanks c.0)) m r c.2 in
    let n = name-clear l p.1 p.0 p.2 in
    let w = blanks-front p.1 in
    let u = blanks-front c.0 in
    let v = clear (blanks c.0) r t.0 t.1 in
    record {
      part = n.part ++ w.part ++ (0x3a ∷ []) ++ u.part ++ v.part;
      splits =
          joined n.part w.part (0x3a ∷ []) u.part v.part r n.splits (w.splits ∙ ap (λ (z : List ℕ). w.part ++ z) c.1) u.splits v.splits;
      leads = λ i.
          further (outside i) (n.part ++ w.part ++ (0x3a ∷ []) ++ u.part) v.part
          (further (outside i) (n.part ++ w.part ++ (0x3a ∷ [])) u.part
          (further (outside i) (n.part ++ w.part) (0x3a ∷ []) (further (outside i) n.part w.part (n.leads i) (blanks_balanced w.spells i)) (colon i))
          (blanks_balanced u.spells i))
          (v.leads i);
    }

-- the comma with the blanks around it
comma-lead : (close : ℕ) (l q : List ℕ) (e : after close l ≡ more q) → Balanced (continues close l e).part
comma-lead close l q e = go (follows_as close l e) (continues close l e)
  where
    go : {a : List ℕ} → Follows close l (more a) → (s : Continues close l a) → Balanced s.part
    go (at-comma {b} {q = w} i h j) s =
        let k = blanks-front l in
        let n = blanks-front w in
        let is : b ≡ 0x2c = eqb-true b 0x2c j in
        clear-part s.part s.splits
        (record {
          part = k.part ++ (b ∷ n.part);
          splits = k.splits ∙ ap (λ (z : List ℕ). k.part ++ z) (i ∙ ap (λ (z : List ℕ). b ∷ z) n.splits) ∙ sym (append_assoc k.part (b ∷ n.part) (blanks w));
          leads = sign-lead b (rw is comma_quiet) k.part n.part (blanks_balanced k.spells) (blanks_balanced n.spells);
        })

no-blanks : blanks [] ≡ []
unfolding blanks
no-blanks = refl

-- a member's value can be 0
named-starts : (d : ℕ) (name : List ℕ) → Starts (named (value paired d) name)
unfolding reading
named-starts zero name = record { word = 0x3a ∷ 0x30 ∷ []; what = (name, Json.number (0x30 ∷ [])); reads = refl }
named-starts (suc d) name = record { word = 0x3a ∷ 0x30 ∷ []; what = (name, Json.number (0x30 ∷ [])); reads = refl }

-- a byte that opens a level
abbrev pub Bracket : ℕ → Type 0
Bracket b = either 0x5b 0x7b b ≡ true

-- a fault of another kind than 2
no-fault : {A B : Type 0} {k : ℕ} {q r : List ℕ} → (not_json ≡ k → ⊥) → ◌≡◌ {A = Read A} (bad not_json q) (bad k r) → B
no-fault other e = absurd (other (bad_kind e))

plain-none : {A B : Type 0} {o : Read A} {k : ℕ} {r : List ℕ} → (not_json ≡ k → ⊥) → Plain o → o ≡ bad k r → B
plain-none other h e = absurd (other (sym (subst Plain e h)))

module _ (k : ℕ) (P : List ℕ → Type 0) (z : ℕ) (W : ℕ → Place) (L : ℕ → ℕ → Type 0) where
  pub record FaultPlace {A : Type 0} (From : ℕ → Place) (f : List ℕ → Read A) (d : ℕ) (l r : List ℕ) : Type 0 where
    pub part : List ℕ
    pub splits : l ≡ part ++ r
    pub stands : P r
    pub levels : ℕ
    pub deep : L d levels
    pub leads : (n : ℕ) → along (From n) part ≡ W (n + levels)
    pub ending : List ℕ
    pub what : A
    pub alive : f (part ++ (z ∷ ending)) ≡ done what []

  abbrev pub FaultPlaces : {A : Type 0} → (ℕ → Place) → (List ℕ → Read A) → ℕ → Type 0
  FaultPlaces From f d = (l r : List ℕ) → f l ≡ bad k r → FaultPlace From f d l r

  -- another reader's ending after what stands before the fault
  ended : {A B : Type 0} {From : ℕ → Place} {f : List ℕ → Read A} {g : List ℕ → Read B} {d : ℕ} {l r : List ℕ} (u : FaultPlace From f d l r)
      (ending : List ℕ) (what : B) → g (u.part ++ (z ∷ ending)) ≡ done what [] → FaultPlace From g d l r
  ended u ending what alive =
      record {
        part = u.part;
        splits = u.splits;
        stands = u.stands;
        levels = u.levels;
        deep = u.deep;
        leads = u.leads;
        ending = ending;
        what = what;
        alive = alive;
      }

  -- a part before it that opens nothing
  behind : {A B : Type 0} {f : List ℕ → Read A} {g : List ℕ → Read B} {d : ℕ} {l m r : List ℕ} (p : List ℕ) → l ≡ p ++ m → Balanced p
      → (u : FaultPlace outside f d m r) (what : B) → g (p ++ (u.part ++ (z ∷ u.ending))) ≡ done what [] → FaultPlace outside g d l r
  behind {g = g} {r = r} p e balanced u what reads =
      record {
        part = p ++ u.part;
        splits = joins p u.part r e u.splits;
        stands = u.stands;
        levels = u.levels;
        deep = u.deep;
        leads = λ n. further (outside n) p u.part (balanced n) (u.leads n);
        ending = u.ending;
        what = what;
        alive = ap g (append_assoc p u.part (z ∷ u.ending)) ∙ reads;
      }

  made-places : {A B : Type 0} {From : ℕ → Place} (g : A → B) (f : List ℕ → Read A) (d : ℕ) → FaultPlaces From f d → FaultPlaces From (λ l. made g (f l)) d
  made-places g f d holds l r e = let u = holds l r (made-bad g (f l) k r e) in ended u u.ending (g u.what) (made_reads g u.alive)

  -- past a byte, which may open a level
  cons_place : {A : Type 0} {From To : ℕ → Place} {f g : List ℕ → Read A} {d e : ℕ} {l r : List ℕ} (i b : ℕ) → ((m : List ℕ) → g (b ∷ m) ≡ f m)
      → ((n : ℕ) → step (From n) b ≡ To (n + i)) → ((m : ℕ) → L d m → L e (i + m)) → FaultPlace To f d l r → FaultPlace From g e (b ∷ l) r
  cons_place {From = From} i b passes moves deeper u =
      record {
        part = b ∷ u.part;
        splits = ap (λ (m : List ℕ). b ∷ m) u.splits;
        stands = u.stands;
        levels = i + u.levels;
        deep = deeper u.levels u.deep;
        leads = λ n. onwards (From n) b u.part (moves n) (u.leads (n + i)) ∙ ap W (omega arith);
        ending = u.ending;
        what = u.what;
        alive = passes (u.part ++ (z ∷ u.ending)) ∙ u.alive;
      }

  -- past one that opens none
  level : (d m : ℕ) → L d m → L d (0 + m)
  level d m s = let i : m ≡ 0 + m = omega arith in subst (L d) i s

  module _ (other : not_json ≡ k → ⊥) (solid : blank z ≡ false) where
    solid-on : (p r q : List ℕ) → Solid (p ++ r) → Solid (p ++ (z ∷ q))
    solid-on [] r q s = solid
    solid-on (c ∷ p) r q s = s

    blanks-places : {A : Type 0} (f : List ℕ → Read A) (d : ℕ) → FaultPlaces outside f d → FaultPlaces outside (λ l. f (blanks l)) d
    blanks-places f d holds l r e =
        let b = blanks-of l in
        let u = holds (blanks l) r e in
        let on = u.part ++ (z ∷ u.ending) in
        behind b.part b.splits (blanks-lead l) u u.what
        (ap f (blanks_frame l on (solid-on u.part r u.ending (subst Solid u.splits (blanks-solid l)))) ∙ u.alive)

    expect-places : {A : Type 0} {To : ℕ → Place} (c : ℕ) (f : List ℕ → Read A) (d : ℕ) → ((n : ℕ) → step (outside n) c ≡ To n) → FaultPlaces To f d → FaultPlaces outside (expect c f) d
    expect-places c f d moves holds [] r e = no-fault other (sym (expect-end c f) ∙ e)
    expect-places {To = To} c f d moves holds (b ∷ l) r e =
        by_test (eqb b c)
        (λ h. cons_place 0 b (λ m. expect-here c f b m h) (λ n. ap (step (outside n)) (eqb-true b c h) ∙ moves n ∙ ap To (omega arith)) (level d)
        (holds l r (sym (expect-here c f b l h) ∙ e)))
        (λ h. no-fault other (sym (expect-other c f b l h) ∙ e))

    then-places : {A B : Type 0} (f : List ℕ → Read A) (g : A → List ℕ → Read B) (d : ℕ) → StrongPrefix Any f → Clears outside f → FaultPlaces outside f d
        → ((x : A) → FaultPlaces outside (g x) d) → ((x : A) → Starts (g x)) → FaultPlaces outside (λ l. then (f l) g) d
    then-places {A} {B} f g d takes clear first second starts l r e = go (f l) refl
      where
        go : (o : Read A) → f l ≡ o → FaultPlace outside (λ m. then (f m) g) d l r
        go (bad n q) h =
            let u = first l r (handed h (sym (then_fails g h) ∙ e)) in
            let s = starts u.what in
            ended u (u.ending ++ s.word) s.what
            (then-reads g (extend f takes u.part (z ∷ u.ending) u.what u.alive s.word tt) ∙ s.reads)
        go (done x q) h =
            let t = takes l q x h in
            let u = second x q r (sym (then-reads g h) ∙ e) in
            behind t.part t.splits (clear-part t.part t.splits (clear l q x h)) u u.what
            (then-reads g (t.frame (u.part ++ (z ∷ u.ending)) tt) ∙ u.alive)

    -- elements up to their closing bracket
    module _ {A : Type 0} (close : ℕ) (c : Closing close) (apart : eqb z close ≡ false) (element : List ℕ → Read A) (consumes : Consumes element)
        (takes : StrongPrefix Settled element) (clear : Clears outside element) (d : ℕ) (holds : FaultPlaces outside element d) where
      run_places : {l : List ℕ} {o : Read (List A)} → Run close element l o → (r : List ℕ) → o ≡ bad k r → FaultPlace outside (all close element) d l r
      run_places (last e j) r i = done-bad i
      run_places (broken e j) r i = no-fault other i
      run_places {l} (faulty {r = q} {k = n} e) r i =
          let u = holds l r (handed e i) in
          ended u (u.ending ++ (close ∷ [])) (u.what ∷ [])
          (elements-closed close _ element _ u.what (close ∷ []) []
          (extend element takes u.part (z ∷ u.ending) u.what u.alive (close ∷ []) (stops c.halts)) (closes-at-once close c))
      run_places {l} (next {r = m} {q = q} {x = x} {o = o} e j n) r i =
          let t = takes l m x e in
          let s = continues close m j in
          let u = run_places n r (made-bad (λ xs. x ∷ xs) o k r i) in
          let on = u.part ++ (z ∷ u.ending) in
          behind (t.part ++ s.part) (joins t.part s.part q t.splits s.splits)
          (λ i. further (outside i) t.part s.part (clear-part t.part t.splits (clear l m x e) i) (comma-lead close m q j i)) u (x ∷ u.what)
          (ap (all close element) (append_assoc t.part s.part on)
          ∙ elements-next close element consumes _ (s.part ++ on) on x
          (t.frame _ (ok_part s.part q on s.some s.splits)) (s.frame on (solid-on u.part r u.ending (subst Solid u.splits s.solid)))
          ∙ made_reads (λ xs. x ∷ xs) u.alive)

      contents-places : FaultPlaces outside (contents close element) d
      contents-places [] r e = no-fault other (sym (contents-end close element) ∙ e)
      contents-places (b ∷ l) r e =
          by_test (eqb b close) (λ h. done-bad (sym (contents-none close element b l h) ∙ e))
          (λ h. some h (run_places (run close element consumes (suc (length (b ∷ l))) (b ∷ l) (omega arith)) r (sym (contents-some close element b l h) ∙ e)))
        where
          same : eqb b close ≡ false → (p q : List ℕ) → b ∷ l ≡ p ++ r → contents close element (p ++ (z ∷ q)) ≡ all close element (p ++ (z ∷ q))
          same h [] q i = contents-some close element z q apart
          same h (a ∷ p) q i = agree (contents close element) (all close element) r (λ m. contents-some close element b m h) (a ∷ p) (omega arith) i (z ∷ q)

          some : eqb b close ≡ false → FaultPlace outside (all close element) d (b ∷ l) r → FaultPlace outside (contents close element) d (b ∷ l) r
          some h u = ended u u.ending u.what (same h u.part u.ending u.splits ∙ u.alive)

      bracketed-places : FaultPlaces outside (bracketed close element) d
      unfolding bracketed
      bracketed-places = blanks-places (contents close element) d contents-places

    -- values, from what is known of strings and of brackets where no level is left
    module _ (apart : eqb z 0x5d ≡ false) (apart' : eqb z 0x7d ≡ false) (deeper : (d m : ℕ) → L d m → L (suc d) (1 + m))
        (strings : (d : ℕ) → FaultPlaces inside (Strings.string paired 0) d)
        (ground : (b : ℕ) (l r : List ℕ) → Bracket b → ◌≡◌ {A = Read Json} (bad too_deep (b ∷ l)) (bad k r) → FaultPlace outside (value paired 0) 0 (b ∷ l) r) where
      member-places : (d : ℕ) → FaultPlaces outside (value paired d) d → FaultPlaces outside (member paired (value paired d)) d
      unfolding member
      member-places d holds =
          then-places (expect 0x22 (Strings.string paired 0)) (named (value paired d)) d (expect_takes 0x22 _ (string_takes paired 0)) name-clear
          (expect-places 0x22 (Strings.string paired 0) d quote_opens (strings d))
          (λ name.
          blanks-places (expect 0x3a (λ q. made (λ x. (name, x)) (value paired d (blanks q)))) d
          (expect-places 0x3a _ d colon_quiet (made-places (λ x. (name, x)) _ d (blanks-places (value paired d) d holds))))
          (named-starts d)

      value-by-places : (arrays objects : List ℕ → Read Json) (d : ℕ)
          → ((b : ℕ) (l r : List ℕ) → start b ≡ Start.array → arrays (b ∷ l) ≡ bad k r → FaultPlace outside (value_by paired arrays objects) d (b ∷ l) r)
          → ((b : ℕ) (l r : List ℕ) → start b ≡ Start.object → objects (b ∷ l) ≡ bad k r → FaultPlace outside (value_by paired arrays objects) d (b ∷ l) r)
          → FaultPlaces outside (value_by paired arrays objects) d
      unfolding value_at
      value-by-places arrays objects d array object [] r e = unfold value_by in no-fault other e
      value-by-places arrays objects d array object (b ∷ l) r e = go (start b) refl
        where
          f : value_at paired arrays objects b l ≡ bad k r
          f = sym (value-start paired arrays objects b l) ∙ e

          word : (c : ℕ) (w : List ℕ) (x : Json) → literal (c ∷ w) x (b ∷ l) ≡ bad k r → FaultPlace outside (value_by paired arrays objects) d (b ∷ l) r
          word c w x i = plain-none other (literal-plain (c ∷ w) x (b ∷ l)) i

          go : (t : Start) → start b ≡ t → FaultPlace outside (value_by paired arrays objects) d (b ∷ l) r
          go Start.string h =
              cons_place 0 b (λ m. value-start paired arrays objects b m ∙ rw (h, value_at)) (λ n. ap (step (outside n)) (string-byte b h) ∙ quote_opens n ∙ ap inside (omega arith)) (level d)
              (made-places Json.string _ d (strings d) l r (rw (h, value_at) at f))
          go Start.number h = plain-none other (number-plain (b ∷ l)) (made-bad Json.number (Numbers.number (b ∷ l)) k r (rw (h, value_at) at f))
          go Start.array h = array b l r h (rw (h, value_at) at f)
          go Start.object h = object b l r h (rw (h, value_at) at f)
          go Start.letter_t h = word _ _ (Json.boolean true) (rw (h, value_at) at f)
          go Start.letter_f h = word _ _ (Json.boolean false) (rw (h, value_at) at f)
          go Start.letter_n h = word _ _ Json.null (rw (h, value_at) at f)
          go Start.other h = no-fault other (rw (h, value_at) at f)

      value-places : (d : ℕ) → FaultPlaces outside (value paired d) d
      unfolding value value_at either
      value-places zero =
          value-by-places (bad too_deep) (bad too_deep) 0 (λ b l r h i. ground b l r (rw (array-byte b h)) i) (λ b l r h i. ground b l r (rw (object-byte b h)) i)
      value-places (suc d) =
          let holds = value-places d in
          let consumes = value_consumes paired d in
          let takes = value_takes paired d in
          let items = bracketed-places 0x5d square apart (value paired d) consumes takes (value-clear d) d holds in
          let members =
          bracketed-places 0x7d curly apart' (member paired (value paired d)) (member_consumes paired (value paired d) consumes) (member_takes paired (value paired d) consumes takes)
          (member-clear (value paired d) (value-clear d)) d (member-places d holds) in
          value-by-places _ _ (suc d)
          (λ b l r h i.
          cons_place 1 b (λ m. value-start paired _ _ b m ∙ rw (h, value_at)) (λ n. ap (step (outside n)) (array-byte b h) ∙ opens_array n) (deeper d)
          (made-places (λ xs. Json.array (as_items xs)) _ d items l r i))
          (λ b l r h i.
          cons_place 1 b (λ m. value-start paired _ _ b m ∙ rw (h, value_at)) (λ n. ap (step (outside n)) (object-byte b h) ∙ opens_object n) (deeper d)
          (made-places (λ ms. Json.object (as_members ms)) _ d members l r i))

      -- a whole text
      pub text-places : (d : ℕ) → FaultPlaces outside (text paired d) d
      unfolding text finish
      text-places d l r e = go (value paired d (blanks l)) refl
        where
          end : Json → List ℕ → Read Json
          end x m = finish x (blanks m)

          after-value : (x : Json) (m : List ℕ) → finish x m ≡ bad k r → FaultPlace outside (text paired d) d l r
          after-value x [] i = done-bad i
          after-value x (b ∷ m) i = no-fault other i

          go : (o : Read Json) → value paired d (blanks l) ≡ o → FaultPlace outside (text paired d) d l r
          go (done x m) h = after-value x (blanks m) (sym (then-reads end h) ∙ e)
          go (bad n q) h =
              let u = blanks-places (value paired d) d (value-places d) l r (h ∙ sym (then_fails end h) ∙ e) in
              ended u u.ending u.what (then-reads end u.alive ∙ ap (finish u.what) no-blanks)
