-- Where kind 2 is found no JSON text goes on, and up to there some text does: the bytes before the fault have an ending that completes
-- them, and once the byte at the fault is added they have none. Each combinator hands this on; a reader in the middle must not begin with a blank.
use mathlib.Core.Bool.{false}
use mathlib.Core.List.{List, [], ◌∷◌, ◌++◌, append_assoc, append-nil}
use mathlib.Core.Path.{◌≡◌, refl, sym, ap, subst, ◌∙◌}
use Prim.Native.Nat.{ℕ, zero, suc}
use native.Mathlib.Omega.{arith}
use lib.ListN.{length, drop}
use lib.Dec.{eqb}
use borrow.Author.Tests.{eqb-true, eq-eqb}
use Rattle.notation.proofs.Booleans.{by_test}
use Rattle.notation.proofs.Lists.{no_cons}
use Rattle.word.specs.Kinds.{not_json, too_deep}
use Rattle.lexeme.specs.Read.{Read, then, made}
use Rattle.lexeme.specs.Read.Read.{done, bad}
use Rattle.lexeme.specs.Character.{lone}
use Rattle.lexeme.specs.Strings as Strings
use Rattle.lexeme.specs.Numbers as Numbers
use Rattle.lexeme.specs.Numbers.{either}
use Rattle.lexeme.specs.Tokens.{blank, blanks}
use Rattle.lexeme.specs.inner.Start.{Start, start}
use Rattle.lexeme.proofs.Reading.{Consumes, Any, Settled, numeric, Stops, Consumed, StrongPrefix, Faulted, Faults}
use Rattle.lexeme.proofs.Reading.Settled.{alike, stops}
use Rattle.lexeme.proofs.Steps.{blanks_stop, then-done, bad-done, done-bad, bad_kind, bad-rest, made_reads, made-same, made-bad, then-reads, then_fails}
use Rattle.lexeme.proofs.StrongPrefixes.{string_takes, blanks-of, solid-first}
use Rattle.lexeme.proofs.Starts.{blank-other}
use Rattle.lexeme.proofs.Faults.{behind_faulted, made-faults, cons_faulted, end_faulted, byte_faulted, string-faults, number-faults, literal-faults}
use Rattle.json_text.specs.Cases.{reading}
use Rattle.json_text.specs.Tree.{Json}
use Rattle.json_text.specs.Text.{expect, after, contents, bracketed, member, value_by, value, finish, text}
use Rattle.json_text.specs.Text.After.{closed, wrong}
use Rattle.json_text.proofs.Steps.{expect-end, expect-here, expect-other, after-closed, after-wrong, elements-bad, elements-closed, elements-wrong, contents-end, contents-none, contents-some, named, chosen, value_at, value-start}
use Rattle.json_text.proofs.Bound.{Follows, at-end, at_other, follows_as, all, Run, faulty, last, next, broken, run, elements-next}
use Rattle.json_text.proofs.StrongPrefixes.{joins, agree, ok_part, Solid, blanks-solid, blanks_frame, continues, blanks_takes, expect_takes, member_takes, member_consumes, value_takes, value_consumes}

-- something that f reads whole
pub record Starts {A : Type 0} (f : List ℕ → Read A) : Type 0 where
  pub word : List ℕ
  pub what : A
  pub reads : f word ≡ done what []

-- what f reads begins with no blank
abbrev pub Firm : {A : Type 0} → (List ℕ → Read A) → Type 0
Firm {A} f = (l r : List ℕ) (x : A) → f l ≡ done x r → Solid l

-- faults at the end, or at the first byte
module _ {A : Type 0} (f : List ℕ → Read A) (s : Starts f) where
  at-end_faulted : {r : List ℕ} → [] ≡ r → Faulted f [] r
  at-end_faulted {r} = end_faulted f r s.word s.what s.reads

  here_faulted : (b : ℕ) (l : List ℕ) {r : List ℕ} → ((v : List ℕ) → f (b ∷ v) ≡ bad not_json (b ∷ v)) → b ∷ l ≡ r → Faulted f (b ∷ l) r
  here_faulted b l {r} = byte_faulted f b l r s.word s.what s.reads

-- A reader that goes by the first byte to another: that one's fault, or none of its texts begins with the byte.
pub data Fails {A : Type 0} (g : List ℕ → Read A) (b : ℕ) (l r : List ℕ) : Type 0 where
  later : Faulted g (b ∷ l) r → Fails g b l r
  at_once : ((v : List ℕ) → g (b ∷ v) ≡ bad not_json (b ∷ v)) → b ∷ l ≡ r → Fails g b l r

agree_fails : {A : Type 0} (f g : List ℕ → Read A) → Starts f → (b : ℕ) {l r : List ℕ} → ((q : List ℕ) → f (b ∷ q) ≡ g (b ∷ q)) → Fails g b l r → Faulted f (b ∷ l) r
agree_fails f g starts b {l} same (at_once h e) = here_faulted f starts b l (λ v. same v ∙ h v) e
agree_fails {A} f g starts b {l} {r} same (later u) = go u.part u.splits u.dead u.ending u.alive
  where
    go : (p : List ℕ) → b ∷ l ≡ p ++ r
        → ((c : ℕ) (w : List ℕ) → r ≡ c ∷ w → (v : List ℕ) → g (p ++ (c ∷ v)) ≡ bad not_json (c ∷ v))
        → (z : List ℕ) → g (p ++ z) ≡ done u.what [] → Faulted f (b ∷ l) r
    go [] e dead z alive = here_faulted f starts b l (λ v. same v ∙ dead b l (sym e) v) e
    go (c ∷ p) e dead z alive =
        record {
          part = c ∷ p;
          splits = e;
          dead = λ d w i v. agree f g r same (c ∷ p) (omega arith) e (d ∷ v) ∙ dead d w i v;
          ending = z;
          what = u.what;
          alive = agree f g r same (c ∷ p) (omega arith) e z ∙ alive;
        }

-- what follows a first byte
opened_failing : {A B : Type 0} (g : A → B) (f : List ℕ → Read A) → Faults f
    → (b : ℕ) (l r : List ℕ) → made g (f l) ≡ bad not_json r → Fails (λ t. made g (f (drop 1 t))) b l r
opened_failing g f faults b l r e = later (cons_faulted b (λ m. refl) (made-faults g f faults l r e))

-- a fault handed on, as another reading's
pub handed : {A B : Type 0} {o : Read A} {k n : ℕ} {q r : List ℕ} → o ≡ bad k q → ◌≡◌ {A = Read B} (bad k q) (bad n r) → o ≡ bad n r
handed e i = cc (e, bad_kind i, bad-rest i)

-- reading to the end carries over to a longer text, where what follows may follow
pub extend : {A : Type 0} {C : List ℕ → List ℕ → Type 0} (f : List ℕ → Read A) → StrongPrefix C f
    → (p z : List ℕ) (x : A) → f (p ++ z) ≡ done x [] → (q : List ℕ) → C [] q → f (p ++ (z ++ q)) ≡ done x q
extend f takes p z x e q o =
    let t = takes (p ++ z) [] x e in
    ap f (sym (append_assoc p z q)) ∙ ap (λ (m : List ℕ). f (m ++ q)) (t.splits ∙ append-nil t.part) ∙ t.frame q o

then-faults : {A B : Type 0} (f : List ℕ → Read A) (g : A → List ℕ → Read B) → StrongPrefix Any f → Faults f → ((x : A) → Faults (g x)) → ((x : A) → Starts (g x)) → Faults (λ l. then (f l) g)
then-faults {A} {B} f g takes first second starts l r e = go (f l) refl
  where
    go : (o : Read A) → f l ≡ o → Faulted (λ m. then (f m) g) l r
    go (bad k q) h =
        let p = sym (then_fails g h) ∙ e in
        let u = first l r (handed h p) in
        let s = starts u.what in
        record {
          part = u.part;
          splits = u.splits;
          dead = λ b w i v. then_fails g (u.dead b w i v);
          ending = u.ending ++ s.word;
          what = s.what;
          alive = then-reads g (extend f takes u.part u.ending u.what u.alive s.word tt) ∙ s.reads;
        }
    go (done x q) h =
        let t = takes l q x h in
        let u = second x q r (sym (then-reads g h) ∙ e) in
        behind_faulted (λ y. y) t.part t.splits u (λ q. Unit {0}) (λ q s. then-reads g (t.frame (u.part ++ q) tt) ∙ sym (made-same _)) (λ b w v i. tt) tt

-- the byte at the fault begins as the text there did
solid_dead : (p r : List ℕ) (b : ℕ) (w v : List ℕ) → Solid (p ++ r) → r ≡ b ∷ w → Solid (p ++ (b ∷ v))
solid_dead [] r b w v s i = rw i at s
solid_dead (c ∷ p) r b w v s i = s

blanks-faults : {A : Type 0} (f : List ℕ → Read A) → Firm f → Faults f → Faults (λ l. f (blanks l))
blanks-faults f firm faults l r e =
    let k = blanks-of l in
    let u = faults (blanks l) r e in
    let solid = subst Solid u.splits (blanks-solid l) in
    behind_faulted (λ y. y) k.part k.splits u Solid (λ q s. ap f (blanks_frame l (u.part ++ q) s) ∙ sym (made-same _))
    (λ b w v i. solid_dead u.part r b w v solid i) (firm _ [] u.what u.alive)

solid-blanks : (m : List ℕ) → Solid m → blanks m ≡ m
unfolding blanks
solid-blanks [] s = refl
solid-blanks (b ∷ m) s = blanks_stop b m s

blanks-start : {A : Type 0} (f : List ℕ → Read A) → Firm f → Starts f → Starts (λ l. f (blanks l))
blanks-start f firm s =
    record { word = s.word; what = s.what; reads = ap f (solid-blanks s.word (firm s.word [] s.what s.reads)) ∙ s.reads }

made-starts : {A B : Type 0} (g : A → B) (f : List ℕ → Read A) → Starts f → Starts (λ l. made g (f l))
made-starts g f s = record { word = s.word; what = g s.what; reads = made_reads g s.reads }

module _ {A : Type 0} (c : ℕ) (f : List ℕ → Read A) where
  expect-starts : Starts f → Starts (expect c f)
  expect-starts s = record { word = c ∷ s.word; what = s.what; reads = expect-here c f c s.word (eq-eqb c c refl) ∙ s.reads }

  expect-faults : Starts f → Faults f → Faults (expect c f)
  expect-faults starts faults [] r e = at-end_faulted (expect c f) (expect-starts starts) (bad-rest (sym (expect-end c f) ∙ e))
  expect-faults starts faults (b ∷ l) r e =
      by_test (eqb b c) (λ h. cons_faulted b (λ m. expect-here c f b m h) (faults l r (sym (expect-here c f b l h) ∙ e)))
      (λ h. here_faulted (expect c f) (expect-starts starts) b l (λ v. expect-other c f b v h) (bad-rest (sym (expect-other c f b l h) ∙ e)))

  expect_firm : blank c ≡ false → Firm (expect c f)
  expect_firm h [] r x e = tt
  expect_firm h (b ∷ l) r x e =
      by_test (eqb b c) (λ i. ap blank (eqb-true b c i) ∙ h) (λ i. bad-done (sym (expect-other c f b l i) ∙ e))

-- what follows an element, where it is neither a comma nor the closing bracket: the bracket could stand there
pub record Breaks (close : ℕ) (l r : List ℕ) : Type 0 where
  pub part : List ℕ
  pub splits : l ≡ part ++ r
  pub dead : (b : ℕ) (w : List ℕ) → r ≡ b ∷ w → (v : List ℕ) → after close (part ++ (b ∷ v)) ≡ wrong (b ∷ v)
  pub alive : (v : List ℕ) → after close (part ++ (close ∷ v)) ≡ closed v

breaks : (close : ℕ) → blank close ≡ false → (l : List ℕ) {r : List ℕ} → after close l ≡ wrong r → Breaks close l r
breaks close firm l {r} e = go (follows_as close l e)
  where
    alive : (v : List ℕ) → after close ((blanks-of l).part ++ (close ∷ v)) ≡ closed v
    alive v = after-closed close _ close v (blanks_frame l (close ∷ v) firm) (eq-eqb close close refl)

    go : {q : List ℕ} → Follows close l (wrong q) → Breaks close l q
    go (at-end i) =
        let k = blanks-of l in
        record { part = k.part; splits = k.splits ∙ ap (λ (m : List ℕ). k.part ++ m) i; dead = λ b w j v. no_cons j; alive = alive }
    go (at_other {b = b} {q = q} i h j) =
        let k = blanks-of l in
        record {
          part = k.part;
          splits = k.splits ∙ ap (λ (m : List ℕ). k.part ++ m) i;
          dead = λ c w n v.
              let m : b ≡ c = cc in
              subst (λ (z : ℕ). after close (k.part ++ (z ∷ v)) ≡ wrong (z ∷ v)) m (after-wrong close _ b v (blanks_frame l (b ∷ v) (solid-first l b q i)) h j);
          alive = alive;
        }

-- what a number may stand before, at a fault and at an ending
ok_dead : {m : List ℕ} (p r : List ℕ) (b : ℕ) (w v : List ℕ) → m ≡ p ++ r → r ≡ b ∷ w → Settled m (p ++ (b ∷ v))
ok_dead [] r b w v e i = rw (e ∙ i) alike
ok_dead (c ∷ p) r b w v e i = rw e alike

ok_ending : {m : List ℕ} (p r z : List ℕ) → m ≡ p ++ r → Stops z → Settled m (p ++ z)
ok_ending [] r z e s = stops s
ok_ending (c ∷ p) r z e s = rw e alike

-- what a reader of elements is
pub record Reader {A : Type 0} (f : List ℕ → Read A) : Type 0 where
  pub consumes : Consumes f
  pub takes : StrongPrefix Settled f
  pub faults : Faults f
  pub firm : Firm f

-- a closing bracket: no blank, no part of a number, no comma, and it begins no value
pub record Closing (close : ℕ) : Type 0 where
  pub solid : blank close ≡ false
  pub halts : numeric close ≡ false
  pub parts : eqb 0x2c close ≡ false
  pub other : start close ≡ Start.other

pub square : Closing 0x5d
unfolding reading numeric start
square = record { solid = refl; halts = refl; parts = refl; other = refl }

pub curly : Closing 0x7d
unfolding reading numeric start
curly = record { solid = refl; halts = refl; parts = refl; other = refl }

pub closes-at-once : (close : ℕ) → Closing close → after close (close ∷ []) ≡ closed []
closes-at-once close c = after-closed close (close ∷ []) close [] (blanks_stop close [] c.solid) (eq-eqb close close refl)

module _ {A : Type 0} (close : ℕ) (c : Closing close) (element : List ℕ → Read A) (rd : Reader element) where
  run_firm : {l : List ℕ} {o : Read (List A)} → Run close element l o → (xs : List A) (r : List ℕ) → o ≡ done xs r → Solid l
  run_firm (faulty e) xs r i = bad-done i
  run_firm (broken e j) xs r i = bad-done i
  run_firm {l} (last {r = m} {x = x} e j) xs r i = rd.firm l m x e
  run_firm {l} (next {r = m} {x = x} e j u) xs r i = rd.firm l m x e

  all_run : (l : List ℕ) → Run close element l (all close element l)
  all_run l = run close element rd.consumes (suc (length l)) l (omega arith)

  run_faults : {l : List ℕ} {o : Read (List A)} → Run close element l o → (r : List ℕ) → o ≡ bad not_json r → Faulted (all close element) l r
  run_faults (last e j) r i = done-bad i
  run_faults {l} (faulty {r = q} {k = k} e) r i =
      let u = rd.faults l r (handed e i) in
      record {
        part = u.part;
        splits = u.splits;
        dead = λ b w j v. elements-bad close _ element _ not_json (b ∷ v) (u.dead b w j v);
        ending = u.ending ++ (close ∷ []);
        what = u.what ∷ [];
        alive =
            elements-closed close _ element _ u.what (close ∷ []) []
            (extend element rd.takes u.part u.ending u.what u.alive (close ∷ []) (stops c.halts)) (closes-at-once close c);
      }
  run_faults {l} (broken {r = m} {q = q} {x = x} e j) r i =
      let t = rd.takes l m x e in
      let s = breaks close c.solid m (j ∙ ap wrong (bad-rest i)) in
      record {
        part = t.part ++ s.part;
        splits = joins t.part s.part r t.splits s.splits;
        dead = λ b w n v.
            ap (all close element) (append_assoc t.part s.part (b ∷ v))
            ∙ elements-wrong close _ element _ x (s.part ++ (b ∷ v)) (b ∷ v) (t.frame _ (ok_dead s.part r b w v s.splits n)) (s.dead b w n v);
        ending = close ∷ [];
        what = x ∷ [];
        alive =
            ap (all close element) (append_assoc t.part s.part (close ∷ []))
            ∙ elements-closed close _ element _ x (s.part ++ (close ∷ [])) [] (t.frame _ (ok_ending s.part r (close ∷ []) s.splits c.halts)) (s.alive []);
      }
  run_faults {l} (next {r = m} {q = q} {x = x} {o = o} e j n) r i =
      let t = rd.takes l m x e in
      let s = continues close m j in
      let u = run_faults n r (made-bad (λ xs. x ∷ xs) o not_json r i) in
      behind_faulted (λ xs. x ∷ xs) (t.part ++ s.part) (joins t.part s.part q t.splits s.splits) u Solid
      (λ z solid.
      ap (all close element) (append_assoc t.part s.part (u.part ++ z))
      ∙ elements-next close element rd.consumes _ (s.part ++ (u.part ++ z)) (u.part ++ z) x
      (t.frame _ (ok_part s.part q (u.part ++ z) s.some s.splits)) (s.frame (u.part ++ z) solid))
      (λ b w v k. solid_dead u.part r b w v (subst Solid u.splits s.solid) k)
      (run_firm (all_run (u.part ++ u.ending)) u.what [] u.alive)

  contents-starts : Starts (contents close element)
  contents-starts = record { word = close ∷ []; what = []; reads = contents-none close element close [] (eq-eqb close close refl) }

  contents-faults : Faults (contents close element)
  contents-faults [] r e = at-end_faulted (contents close element) contents-starts (bad-rest (sym (contents-end close element) ∙ e))
  contents-faults (b ∷ l) r e =
      by_test (eqb b close) (λ h. done-bad (sym (contents-none close element b l h) ∙ e))
      (λ h.
      agree_fails (contents close element) (all close element) contents-starts b (λ q. contents-some close element b q h)
      (later (run_faults (all_run (b ∷ l)) r (sym (contents-some close element b l h) ∙ e))))

  contents_firm : Firm (contents close element)
  contents_firm [] r xs e = tt
  contents_firm (b ∷ l) r xs e =
      by_test (eqb b close) (λ h. ap blank (eqb-true b close h) ∙ c.solid)
      (λ h. run_firm (all_run (b ∷ l)) xs r (sym (contents-some close element b l h) ∙ e))

  bracketed-faults : Faults (bracketed close element)
  unfolding bracketed
  bracketed-faults = blanks-faults (contents close element) contents_firm contents-faults

module _ (f : List ℕ → Read Json) (starts : Starts f) (rd : Reader f) where
  -- the value of a member of this name
  abbrev valued : List ℕ → List ℕ → Read (List ℕ × Json)
  valued name q = made (λ x. (name, x)) (f (blanks q))

  valued_starts : (name : List ℕ) → Starts (valued name)
  valued_starts name = made-starts (λ x. (name, x)) _ (blanks-start f rd.firm starts)

  colon_firm : (name : List ℕ) → Firm (expect 0x3a (valued name))
  unfolding blank either
  colon_firm name = expect_firm 0x3a (valued name) refl

  named-starts : (name : List ℕ) → Starts (named f name)
  named-starts name = blanks-start (expect 0x3a (valued name)) (colon_firm name) (expect-starts 0x3a (valued name) (valued_starts name))

  named-faults : (name : List ℕ) → Faults (named f name)
  named-faults name =
      blanks-faults (expect 0x3a (valued name)) (colon_firm name)
      (expect-faults 0x3a (valued name) (valued_starts name) (made-faults (λ x. (name, x)) _ (blanks-faults f rd.firm rd.faults)))

  name-starts : Starts (Strings.string lone 0)
  unfolding reading
  name-starts = record { word = 0x22 ∷ []; what = []; reads = refl }

  member_firm : Firm (member lone f)
  unfolding member blank either
  member_firm l r x e =
      let p = then-done (expect 0x22 (Strings.string lone 0) l) (named f) x r e in
      expect_firm 0x22 (Strings.string lone 0) refl l p.1 p.0 p.2

  member-faults : Faults (member lone f)
  unfolding member
  member-faults =
      then-faults (expect 0x22 (Strings.string lone 0)) (named f) (expect_takes 0x22 _ (string_takes lone 0))
      (expect-faults 0x22 _ name-starts string-faults) named-faults named-starts

  member_reader : Reader (member lone f)
  member_reader =
      record { consumes = member_consumes lone f rd.consumes; takes = member_takes lone f rd.consumes rd.takes; faults = member-faults; firm = member_firm }

module _ (arrays objects : List ℕ → Read Json) where
  value-by-starts : Starts (value_by lone arrays objects)
  unfolding reading
  value-by-starts = record { word = 0x30 ∷ []; what = Json.number (0x30 ∷ []); reads = refl }

  value-by_firm : Firm (value_by lone arrays objects)
  unfolding value_at
  value-by_firm [] r x e = tt
  value-by_firm (b ∷ l) r x e =
      let f = sym (value-start lone arrays objects b l) ∙ e in
      by_test (blank b) (λ h. let s = blank-other b h in bad-done (rw (s, value_at) at f)) (λ h. h)

  -- a value's faults, from its first byte on
  abbrev Failing : (List ℕ → Read Json) → Type 0
  Failing f = (b : ℕ) (l r : List ℕ) → f (b ∷ l) ≡ bad not_json r → Fails f b l r

  value-by-faults : Failing arrays → Failing objects → Faults (value_by lone arrays objects)
  value-by-faults array object [] r e = at-end_faulted (value_by lone arrays objects) value-by-starts (unfold value_by in bad-rest e)
  value-by-faults array object (b ∷ l) r e =
      let c =
      chosen lone arrays objects Failing
      (opened_failing Json.string (Strings.string lone 0) string-faults)
      (λ a m q i. later (made-faults Json.number Numbers.number number-faults (a ∷ m) q i))
      array
      object
      (λ z w x a m q i. later (literal-faults (z ∷ w) x (a ∷ m) q i))
      (λ a m q i. at_once (λ v. refl) (bad-rest i))
      b in
      agree_fails (value_by lone arrays objects) c.reader value-by-starts b c.reads (c.holds b l r (sym (c.reads l) ∙ e))

too_deep_lem : (b : ℕ) (l r : List ℕ) → ◌≡◌ {A = Read Json} (bad too_deep (b ∷ l)) (bad not_json r) → Fails {A = Json} (bad too_deep) b l r
too_deep_lem b l r e = absurd (let n : ◌≡◌ {A = ℕ} 4 2 = bad_kind e in omega arith)

value-starts : (d : ℕ) → Starts (value lone d)
unfolding value
value-starts zero = value-by-starts _ _
value-starts (suc d) = value-by-starts _ _

pub value_reader : (d : ℕ) → Reader (value lone d)
unfolding value
value_reader zero =
    record {
      consumes = value_consumes lone zero;
      takes = value_takes lone zero;
      faults = value-by-faults (bad too_deep) (bad too_deep) too_deep_lem too_deep_lem;
      firm = value-by_firm (bad too_deep) (bad too_deep);
    }
value_reader (suc d) =
    let rd = value_reader d in
    record {
      consumes = value_consumes lone (suc d);
      takes = value_takes lone (suc d);
      faults =
          value-by-faults _ _
          (opened_failing _ _ (bracketed-faults 0x5d square (value lone d) rd))
          (opened_failing _ _ (bracketed-faults 0x7d curly (member lone (value lone d)) (member_reader (value lone d) (value-starts d) rd)));
      firm = value-by_firm _ _;
    }

-- a whole text
pub text-faults : (d : ℕ) → Faults (text lone d)
unfolding text finish
text-faults d l r e = go (f l) refl
  where
    rd : Reader (value lone d)
    rd = value_reader d

    f : List ℕ → Read Json
    f m = value lone d (blanks m)

    end : Json → List ℕ → Read Json
    end x m = finish x (blanks m)

    go : (o : Read Json) → f l ≡ o → Faulted (text lone d) l r
    go (bad k q) h =
        let p = sym (then_fails end h) ∙ e in
        let u = blanks-faults (value lone d) rd.firm rd.faults l r (h ∙ p) in
        record {
          part = u.part;
          splits = u.splits;
          dead = λ b w i v. then_fails end (u.dead b w i v);
          ending = u.ending;
          what = u.what;
          alive = then-reads end u.alive ∙ ap (finish u.what) (solid-blanks [] tt);
        }
    go (done x m) h = rest (blanks m) refl
      where
        t : Consumed Settled f l x m
        t = blanks_takes (value lone d) rd.consumes rd.takes l m x h

        k : List ℕ
        k = (blanks-of m).part

        reads : (z : List ℕ) → Settled m (k ++ z) → Solid z → text lone d ((t.part ++ k) ++ z) ≡ finish x z
        reads z o s = then-reads end (ap f (append_assoc t.part k z) ∙ t.frame (k ++ z) o) ∙ ap (finish x) (blanks_frame m z s)

        rest : (n : List ℕ) → blanks m ≡ n → Faulted (text lone d) l r
        rest [] i = done-bad (ap (finish x) (sym i) ∙ sym (then-reads end h) ∙ e)
        rest (b ∷ z) i =
            let at : blanks m ≡ r = i ∙ bad-rest (ap (finish x) (sym i) ∙ sym (then-reads end h) ∙ e) in
            let splits : m ≡ k ++ r = (blanks-of m).splits ∙ ap (λ (w : List ℕ). k ++ w) at in
            record {
              part = t.part ++ k;
              splits = joins t.part k r t.splits splits;
              dead = λ c w j v. reads (c ∷ v) (ok_dead k r c w v splits j) (subst Solid (at ∙ j) (blanks-solid m));
              ending = [];
              what = x;
              alive = reads [] (ok_ending k r [] splits tt) tt;
            }
