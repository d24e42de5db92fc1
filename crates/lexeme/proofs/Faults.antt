-- A fault of kind 2 is where no lexeme goes on: what stands before it has an ending that completes it, and the byte at it has none.
use mathlib.Core.Bool.{Bool, true, false}
use mathlib.Core.List.{List, [], ◌∷◌, ◌++◌, append_assoc}
use mathlib.Core.Path.{◌≡◌, refl, sym, ap, subst, ◌∙◌}
use Prim.Native.Nat.{ℕ, zero, suc, ◌≤◌, ◌<◌}
use native.Mathlib.Omega.{arith}
use lib.ListN.{length, drop, take, replicate, take-append-drop, length-replicate, get_or-append}
use lib.Seq.{length-take-le, get_or-append_seam, drop_at}
use lib.Dec.{eqb, leb, ltb}
use borrow.Author.Tests.{eq-eqb, ne_eqb, eqb-true, leb-true, ltb-true, ltb-false}
use Rattle.notation.proofs.Booleans.{by_test, true-false}
use Rattle.notation.proofs.Lists.{no_cons}
use Rattle.word.specs.Kinds.{not_json}
use Rattle.lexeme.specs.declared.Next.{Next}
use Rattle.lexeme.specs.declared.Next.TheVariants.{Quote, Character, Fault}
use Rattle.lexeme.specs.Read.{Read, then, made}
use Rattle.lexeme.specs.Read.Read.{done, bad}
use Rattle.lexeme.specs.Character.{within, bytes_of, next}
use Rattle.lexeme.specs.Character.Surrogates.{lone}
use Rattle.lexeme.specs.Strings.{string}
use Rattle.lexeme.specs.Numbers.{digit, either, digits, some_digits, optional, both, nothing, integer, minus, fraction, exponent, number}
use Rattle.lexeme.specs.Tokens.{literal}
use Rattle.lexeme.proofs.Reading.{Shrinks, Settled, Consumed, StrongPrefix, Faulted, Faults}
use Rattle.lexeme.proofs.Reading.Settled.{alike}
use Rattle.lexeme.proofs.Steps.{bad-done, done-bad, bad_kind, bad-rest, made_reads, made_fails, made-done, made-bad, literal_match, literal_differs, digits_more, digits_stop, some_digits-more, some_digits-none, integer-zero, integer-digits, optional-there, optional-absent, both-reads, both_fails, string-empty, string-inside, string-quote, string-fault, string-character, string-skip}
use Rattle.lexeme.proofs.Shrinks.{shrinks_to, optional_shrinks, nothing_shrinks, some_digits_shrinks, fraction_shrinks, both_shrinks}
use Rattle.lexeme.proofs.StrongPrefixes.{Fits, begins, unless, Unless, optional_takes, nothing_takes, integer_takes, fraction_takes, unsigned, both-done, closes}
use Rattle.lexeme.proofs.Local.{Agree, Way, near, far, next_way}
use Rattle.lexeme.proofs.Rows.{front-take}
use Rattle.lexeme.proofs.Completions.{Completion, Completes, next_completes}
use Rattle.lexeme.proofs.Lone.{bare, Passes, passes}

-- the combinators
pub made-faults : {A B : Type 0} (g : A → B) (f : List ℕ → Read A) → Faults f → Faults (λ l. made g (f l))
made-faults g f faults l r e =
    let u = faults l r (made-bad g (f l) not_json r e) in
    record {
      part = u.part;
      splits = u.splits;
      dead = λ b w i v. made_fails g (u.dead b w i v);
      ending = u.ending;
      what = g u.what;
      alive = made_reads g u.alive;
    }

-- a reader that passes a byte and goes on as another
pub cons_faulted : {A : Type 0} {f g : List ℕ → Read A} {l r : List ℕ} (b : ℕ) → ((m : List ℕ) → g (b ∷ m) ≡ f m) → Faulted f l r → Faulted g (b ∷ l) r
cons_faulted b passes u =
    record {
      part = b ∷ u.part;
      splits = ap (λ m. b ∷ m) u.splits;
      dead = λ c w i v. passes (u.part ++ (c ∷ v)) ∙ u.dead c w i v;
      ending = u.ending;
      what = u.what;
      alive = passes (u.part ++ u.ending) ∙ u.alive;
    }

-- a fault at the front: at the end of the text, or at a byte that is wrong whatever follows
pub end_faulted : {A : Type 0} (g : List ℕ → Read A) (r z : List ℕ) (x : A) → g z ≡ done x [] → [] ≡ r → Faulted g [] r
end_faulted g r z x alive e = record { part = []; splits = e; dead = λ b w i v. no_cons (e ∙ i); ending = z; what = x; alive = alive }

pub byte_faulted : {A : Type 0} (g : List ℕ → Read A) (b : ℕ) (l r z : List ℕ) (x : A) → g z ≡ done x []
    → ((v : List ℕ) → g (b ∷ v) ≡ bad not_json (b ∷ v)) → b ∷ l ≡ r → Faulted g (b ∷ l) r
byte_faulted g b l r z x alive wrong e =
    record {
      part = [];
      splits = e;
      dead = λ c w i v. let f : b ∷ l ≡ c ∷ w = e ∙ i in let n : b ≡ c = cc in subst (λ d. g (d ∷ v) ≡ bad not_json (d ∷ v)) n (wrong v);
      ending = z;
      what = x;
      alive = alive;
    }

-- words
literal-whole : {A : Type 0} (w : List ℕ) (x : A) → literal w x w ≡ done x []
unfolding literal
literal-whole [] x = refl
literal-whole (c ∷ w) x = literal_match c x c w w (eq-eqb c c refl) ∙ literal-whole w x

pub literal-faults : {A : Type 0} (w : List ℕ) (x : A) → Faults (literal w x)
unfolding literal
literal-faults [] x l r e = done-bad e
literal-faults (c ∷ w) x [] r e = end_faulted (literal (c ∷ w) x) r (c ∷ w) x (literal-whole (c ∷ w) x) (bad-rest e)
literal-faults (c ∷ w) x (b ∷ l) r e =
    let ih = literal-faults w x l r in
    by_test (eqb b c)
    (λ h. cons_faulted b (λ m. literal_match b x c w m h) (ih (sym (literal_match b x c w l h) ∙ e)))
    (λ h. byte_faulted (literal (c ∷ w) x) b l r (c ∷ w) x (literal-whole (c ∷ w) x) (λ v. literal_differs b x c w v h) (bad-rest (sym (literal_differs b x c w l h) ∙ e)))

-- numbers
digits-read : (l : List ℕ) (k : ℕ) (r : List ℕ) → digits l ≡ bad k r → ⊥
digits-read [] k r e = unfold digits in done-bad e
digits-read (b ∷ l) k r e =
    let ih = digits-read l k r in
    by_test (digit b) (λ h. ih (made-bad (λ y. b ∷ y) (digits l) k r (sym (digits_more b l h) ∙ e))) (λ h. done-bad (sym (digits_stop b l h) ∙ e))

abbrev zero-alone : List ℕ
zero-alone = 0x30 ∷ []

some_digits-zero : some_digits zero-alone ≡ done zero-alone []
unfolding some_digits digits made digit within
some_digits-zero = refl

integer-zero-alone : integer zero-alone ≡ done zero-alone []
unfolding integer
integer-zero-alone = refl

some_digits-faults : Faults some_digits
some_digits-faults [] r e = end_faulted some_digits r zero-alone zero-alone some_digits-zero (unfold some_digits in bad-rest e)
some_digits-faults (b ∷ l) r e =
    by_test (digit b)
    (λ h. absurd (digits-read l not_json r (made-bad (λ y. b ∷ y) (digits l) not_json r (sym (some_digits-more b l h) ∙ e))))
    (λ h. byte_faulted some_digits b l r zero-alone zero-alone some_digits-zero (λ v. some_digits-none b v h) (bad-rest (sym (some_digits-none b l h) ∙ e)))

integer-faults : Faults integer
integer-faults [] r e = end_faulted integer r zero-alone zero-alone integer-zero-alone (unfold integer in bad-rest e)
integer-faults (b ∷ l) r e =
    by_test (eqb b 0x30) (λ h. done-bad (sym (integer-zero b l h) ∙ e)) (λ h.
    by_test (digit b)
    (λ d. absurd (digits-read l not_json r (made-bad (λ y. b ∷ y) (digits l) not_json r (sym (integer-digits b l h ∙ some_digits-more b l d) ∙ e))))
    (λ d.
    byte_faulted integer b l r zero-alone zero-alone integer-zero-alone (λ v. integer-digits b v h ∙ some_digits-none b v d)
    (bad-rest (sym (integer-digits b l h ∙ some_digits-none b l d) ∙ e))))

optional-faults : (test : ℕ → Bool) (follow : List ℕ → Read (List ℕ)) → Faults follow → Faults (optional test follow)
optional-faults test follow faults [] r e = unfold optional in done-bad e
optional-faults test follow faults (b ∷ l) r e =
    by_test (test b)
    (λ h. cons_faulted b (λ m. optional-there b test follow m h) (made-faults (λ y. b ∷ y) follow faults l r (sym (optional-there b test follow l h) ∙ e)))
    (λ h. done-bad (sym (optional-absent b test follow l h) ∙ e))

sign_read : (test : ℕ → Bool) (l : List ℕ) (k : ℕ) (r : List ℕ) → optional test nothing l ≡ bad k r → ⊥
unfolding nothing
sign_read test [] k r e = unfold optional in done-bad e
sign_read test (b ∷ l) k r e =
    by_test (test b)
    (λ h. done-bad (made-bad (λ y. b ∷ y) (done [] l) k r (sym (optional-there b test nothing l h) ∙ e)))
    (λ h. done-bad (sym (optional-absent b test nothing l h) ∙ e))

-- A fault behind the part p, which is read before it: from there on g reads as f does, with h of its value, a text that C lets follow.
pub behind_faulted : {A B : Type 0} {f : List ℕ → Read A} {g : List ℕ → Read B} {l m r : List ℕ} (h : A → B) (p : List ℕ) → l ≡ p ++ m
    → (u : Faulted f m r) (C : List ℕ → Type 0) → ((q : List ℕ) → C (u.part ++ q) → g (p ++ (u.part ++ q)) ≡ made h (f (u.part ++ q)))
    → ((b : ℕ) (w v : List ℕ) → r ≡ b ∷ w → C (u.part ++ (b ∷ v))) → C (u.part ++ u.ending) → Faulted g l r
behind_faulted {g = g} {r = r} h p e u C reads dead alive =
    record {
      part = p ++ u.part;
      splits = e ∙ ap (λ q. p ++ q) u.splits ∙ sym (append_assoc p u.part r);
      dead = λ b w i v. ap g (append_assoc p u.part (b ∷ v)) ∙ reads (b ∷ v) (dead b w v i) ∙ made_fails h (u.dead b w i v);
      ending = u.ending;
      what = h u.what;
      alive = ap g (append_assoc p u.part u.ending) ∙ reads u.ending alive ∙ made_reads h u.alive;
    }

-- Two spellings in a row. A fault of the first: what completes it, with nothing after. A fault of the second: what completes that, if it may follow the first.
module _ (D : List ℕ → List ℕ → Type 0) (first second : List ℕ → Read (List ℕ)) (begin : (b : ℕ) (v w : List ℕ) → D (b ∷ v) (b ∷ w)) where
  part-begins : (p v w : List ℕ) (b : ℕ) → D (p ++ (b ∷ v)) (p ++ (b ∷ w))
  part-begins [] v w b = begin b v w
  part-begins (c ∷ p) v w b = begin c (p ++ (b ∷ v)) (p ++ (b ∷ w))

  first_faulted : (l r : List ℕ) → second [] ≡ done [] [] → Faulted first l r → Faulted (both first second) l r
  first_faulted l r empty u =
      record {
        part = u.part;
        splits = u.splits;
        dead = λ b w i v. both_fails first second (u.part ++ (b ∷ v)) (u.dead b w i v);
        ending = u.ending;
        what = u.what ++ [];
        alive = both-reads first second (u.part ++ u.ending) u.alive ∙ made_reads (λ y. u.what ++ y) empty;
      }

  second_faulted : (l r x m : List ℕ) → Consumed D first l x m → (u : Faulted second m r) → D m (u.part ++ u.ending) → Faulted (both first second) l r
  second_faulted l r x m t u =
      behind_faulted (λ y. x ++ y) t.part t.splits u (D m) (λ q o. both-reads first second (t.part ++ (u.part ++ q)) (t.frame (u.part ++ q) o))
      (λ b w v i. subst (λ q. D q (u.part ++ (b ∷ v))) (sym (u.splits ∙ ap (λ q. u.part ++ q) i)) (part-begins u.part w v b))

  both-faults : StrongPrefix D first → Faults second → ((l r : List ℕ) → first l ≡ bad not_json r → Faulted first l r × (second [] ≡ done [] []))
      → ((m r : List ℕ) → second m ≡ bad not_json r → (u : Faulted second m r) → D m (u.part ++ u.ending)) → Faults (both first second)
  both-faults takes fs ff fits l r e = go (first l) refl
    where
      go : (o : Read (List ℕ)) → first l ≡ o → Faulted (both first second) l r
      go (bad k q) h =
          let f = sym (both_fails first second l h) ∙ e in
          let i : first l ≡ bad not_json r = h ∙ ap (λ n. bad n q) (bad_kind f) ∙ ap (bad not_json) (bad-rest f) in
          first_faulted l r (ff l r i).1 (ff l r i).0
      go (done x m) h =
          let i = made-bad (λ y. x ++ y) (second m) not_json r (sym (both-reads first second l h) ∙ e) in
          let u = fs m r i in
          second_faulted l r x m (takes l m x h) u (fits m r i u)

-- a fault past the first byte
abbrev Late : (List ℕ → Read (List ℕ)) → Type 0
Late f = (l : List ℕ) (k : ℕ) (r : List ℕ) → f l ≡ bad k r → length r < length l

optional-late : (test : ℕ → Bool) (follow : List ℕ → Read (List ℕ)) → Shrinks follow → Late (optional test follow)
optional-late test follow shrinks [] k r e = unfold optional in done-bad e
optional-late test follow shrinks (b ∷ l) k r e =
    by_test (test b)
    (λ h.
    let i = made-bad (λ y. b ∷ y) (follow l) k r (sym (optional-there b test follow l h) ∙ e) in
    let n : length r ≤ length l = shrinks_to follow shrinks l i in omega arith)
    (λ h. done-bad (sym (optional-absent b test follow l h) ∙ e))

both-late : (first second : List ℕ → Read (List ℕ)) → Shrinks first → Late first → Late second → Late (both first second)
both-late first second shrinks lf ls l k r e = go (first l) refl
  where
    go : (o : Read (List ℕ)) → first l ≡ o → length r < length l
    go (bad n q) h = let f = sym (both_fails first second l h) ∙ e in lf l n r (h ∙ ap (bad n) (bad-rest f))
    go (done x m) h =
        let i = made-bad (λ y. x ++ y) (second m) k r (sym (both-reads first second l h) ∙ e) in
        let n : length m ≤ length l = shrinks_to first shrinks l h in
        let j : length r < length m = ls m k r i in omega arith

late_ok : (f : List ℕ → Read (List ℕ)) → Late f → (m r : List ℕ) → f m ≡ bad not_json r → (u : Faulted f m r) → Settled m (u.part ++ u.ending)
late_ok f late m r e u = go u.part u.splits
  where
    go : (p : List ℕ) → m ≡ p ++ r → Settled m (p ++ u.ending)
    go [] s = let n : length r < length m = late m not_json r e in let h : length m ≡ length r = ap length s in absurd (omega arith)
    go (c ∷ p) s = rw s alike

fraction-late : Late fraction
unfolding fraction
fraction-late = optional-late (λ b. eqb b 0x2e) some_digits some_digits_shrinks

exponent-late : Late exponent
unfolding exponent
exponent-late =
    optional-late (either 0x65 0x45) _ (both_shrinks _ some_digits (optional_shrinks (either 0x2b 0x2d) nothing nothing_shrinks) some_digits_shrinks)

-- an optional sign, and what never begins with one
signed-faults : (test : ℕ → Bool) (f : List ℕ → Read (List ℕ)) → ((l r x : List ℕ) → f l ≡ done x r → Unless test l) → Faults f → Faults (both (optional test nothing) f)
signed-faults test f solid faults =
    both-faults (Fits test) (optional test nothing) f (λ b v w. begins) (optional_takes test nothing (λ r q o. o) nothing_takes) faults
    (λ l r e. absurd (sign_read test l not_json r e)) fits
  where
    fits : (m r : List ℕ) → f m ≡ bad not_json r → (u : Faulted f m r) → Fits test m (u.part ++ u.ending)
    fits m r e u = go u.part u.splits u.alive
      where
        go : (p : List ℕ) → m ≡ p ++ r → f (p ++ u.ending) ≡ done u.what [] → Fits test m (p ++ u.ending)
        go [] s a = unless (solid u.ending [] u.what a)
        go (c ∷ p) s a = rw s begins

-- what is read as digits begins with one, and so with no sign
digit-over : (b c : ℕ) → c < 0x30 → digit b ≡ true → eqb b c ≡ false
unfolding digit within
digit-over b c h e =
    by_test (leb 0x30 b) (λ a. let n = leb-true 0x30 b a in ne_eqb b c (λ i. omega arith)) (λ a. true-false e (rw a))

no_sign : (b : ℕ) → digit b ≡ true → either 0x2b 0x2d b ≡ false
unfolding either
no_sign b e = rw (digit-over b 0x2b (omega arith) e) (digit-over b 0x2d (omega arith) e)

led : (test : ℕ → Bool) → ((b : ℕ) → digit b ≡ true → test b ≡ false) → (l r x : List ℕ) → some_digits l ≡ done x r → Unless test l
led test unsigned [] r x e = tt
led test unsigned (b ∷ l) r x e = by_test (digit b) (unsigned b) (λ h. bad-done (sym (some_digits-none b l h) ∙ e))

exponent-faults : Faults exponent
unfolding exponent
exponent-faults = optional-faults (either 0x65 0x45) _ (signed-faults (either 0x2b 0x2d) some_digits (led (either 0x2b 0x2d) no_sign) some_digits-faults)

fraction-faults : Faults fraction
unfolding fraction
fraction-faults = optional-faults (λ b. eqb b 0x2e) some_digits some_digits-faults

no-exponent-there : exponent [] ≡ done [] []
unfolding exponent optional
no-exponent-there = refl

no-fraction-there : both fraction exponent [] ≡ done [] []
unfolding both then made fraction exponent optional
no-fraction-there = refl

unsigned-faults : Faults unsigned
unsigned-faults =
    both-faults Settled integer _ (λ b v w. alike) integer_takes
    (both-faults Settled fraction exponent (λ b v w. alike) fraction_takes exponent-faults (λ l r e. (fraction-faults l r e, no-exponent-there)) (late_ok exponent exponent-late))
    (λ l r e. (integer-faults l r e, no-fraction-there))
    (late_ok _ (both-late fraction exponent fraction_shrinks fraction-late exponent-late))

unsigned_led : (l r x : List ℕ) → unsigned l ≡ done x r → Unless (λ b. eqb b 0x2d) l
unsigned_led [] r x e = tt
unsigned_led (b ∷ l) r x e =
    let p = both-done integer _ (b ∷ l) x r e in
    by_test (eqb b 0x30) (λ h. let n = eqb-true b 0x30 h in ne_eqb b 0x2d (λ i. omega arith))
    (λ h. led (λ b. eqb b 0x2d) (λ b. digit-over b 0x2d (omega arith)) (b ∷ l) p.1 p.0 (sym (integer-digits b l h) ∙ p.3))

pub number-faults : Faults number
unfolding number minus
number-faults = signed-faults (λ b. eqb b 0x2d) unsigned unsigned_led unsigned-faults

-- Strings where lone surrogates pass: their faults are of kind 2.
fault-kind : (l : List ℕ) {k n : ℕ} → next lone l ≡ Fault k n → Completion k n l
fault-kind l e = subst (Completes l) e (next_completes l)

pub lone-kind : (k : ℕ) (l r : List ℕ) (n : ℕ) → string lone k l ≡ bad n r → n ≡ not_json
lone-kind k [] r n e = sym (bad_kind (sym (string-empty lone k) ∙ e))
lone-kind (suc k) (b ∷ l) r n e = lone-kind k l r n (sym (string-inside lone b l k) ∙ e)
lone-kind zero (b ∷ l) r n e = go (next lone (b ∷ l)) refl (λ k. lone-kind k l r n)
  where
    go : (o : Next) → next lone (b ∷ l) ≡ o → ((k : ℕ) → string lone k l ≡ bad n r → n ≡ not_json) → n ≡ not_json
    go Quote h ih = done-bad (sym (string-quote lone b l h) ∙ e)
    go (Fault k i) h ih = sym (bad_kind (sym (string-fault lone b l h) ∙ e)) ∙ (fault-kind (b ∷ l) h).kind
    go (Character x) h ih = ih x.more (made-bad (λ y. bytes_of x ++ y) (string lone x.more l) n r (sym (string-character lone b l h) ∙ e))

-- texts that begin with the same bytes agree on these
agree_part : (p q r : List ℕ) (n : ℕ) → n < length p → Agree n (p ++ q) (p ++ r)
agree_part p q r n h i g = get_or-append p q 0 i (omega arith) ∙ sym (get_or-append p r 0 i (omega arith))

agree_at : (p q r : List ℕ) (b : ℕ) → Agree (length p) (p ++ (b ∷ q)) (p ++ (b ∷ r))
agree_at p q r b i h =
    by_test (ltb i (length p)) (λ t. agree_part p (b ∷ q) (b ∷ r) i (ltb-true i (length p) t) i (omega arith)) (λ t.
    let n = ltb-false i (length p) t in let j : i ≡ length p = omega arith in
    rw j (get_or-append_seam p b q 0 ∙ sym (get_or-append_seam p b r 0)))

-- a fault in the character at the front
fault-after : (p : List ℕ) (c : ℕ) (v : List ℕ) (n : ℕ) → length p ≡ n → next lone (p ++ (c ∷ v)) ≡ Fault not_json n → string lone 0 (p ++ (c ∷ v)) ≡ bad not_json (c ∷ v)
fault-after [] c v n h e = string-fault lone c v e ∙ ap (bad not_json) (drop_at [] (c ∷ v) n h)
fault-after (d ∷ p) c v n h e = string-fault lone d (p ++ (c ∷ v)) e ∙ ap (bad not_json) (drop_at (d ∷ p) (c ∷ v) n h)

near_faulted : (b : ℕ) (l : List ℕ) (n : ℕ) → n ≤ length (b ∷ l) → ((m : List ℕ) → Agree n (b ∷ l) m → next lone m ≡ Fault not_json n)
    → Completion not_json n (b ∷ l) → Faulted (string lone 0) (b ∷ l) (drop n (b ∷ l))
near_faulted b l n there wrong m =
    let p = take n (b ∷ l) in
    let size : length p ≡ n = length-take-le n (b ∷ l) there in
    record {
      part = p;
      splits = sym (take-append-drop n (b ∷ l));
      dead = λ c w i v.
          let f : p ++ (c ∷ w) ≡ b ∷ l = ap (λ q. p ++ q) (sym i) ∙ take-append-drop n (b ∷ l) in
          fault-after p c v n size (wrong (p ++ (c ∷ v)) (subst (λ z. Agree z (b ∷ l) (p ++ (c ∷ v))) size (subst (λ z. Agree (length p) z (p ++ (c ∷ v))) f (agree_at p w v c))));
      ending = m.ending;
      what = m.completed.text;
      alive = ap (λ q. string lone 0 (q ++ m.ending)) (front-take n 0 (b ∷ l) (omega arith)) ∙ m.completed.reads;
    }

-- The fault of a string's rest, k bytes in, stands past these, if they are there.
record Stopped (k : ℕ) (l r : List ℕ) : Type 0 where
  fault : Faulted (string lone k) l r
  enough : k ≤ length l → k ≤ length fault.part

end_stopped : (k : ℕ) (r : List ℕ) → [] ≡ r → Stopped k [] r
unfolding end_faulted
end_stopped k r e =
    record {
      fault =
          end_faulted (string lone k) r (replicate k 0 ++ (0x22 ∷ [])) []
          (string-skip lone k (replicate k 0 ++ (0x22 ∷ [])) ∙ ap (string lone 0) (drop_at (replicate k 0) (0x22 ∷ []) k (length-replicate k 0)) ∙ string-quote lone 0x22 [] (closes lone [])) e;
      enough = λ h. h;
    }

-- a fault past the character at the front
module _ (b : ℕ) (l r : List ℕ) (p : Passes b l) where
  passed_fault : string lone 0 (b ∷ l) ≡ bad not_json r → string lone p.more l ≡ bad not_json r
  passed_fault e = made-bad (λ y. tt) (string lone p.more l) not_json r (sym (p.on l (λ i h. refl)) ∙ made_fails (λ y. tt) e)

  passed_faulted : Stopped p.more l r → Faulted (string lone 0) (b ∷ l) r
  passed_faulted s =
      let u = s.fault in
      let n : p.more < length (b ∷ u.part) = omega (arith, s.enough p.there) in
      let on : (q : List ℕ) → bare (string lone 0 (b ∷ (u.part ++ q))) ≡ bare (string lone p.more (u.part ++ q)) =
      λ q. p.on (u.part ++ q) (subst (λ z. Agree p.more (b ∷ z) (b ∷ (u.part ++ q))) (sym u.splits) (agree_part (b ∷ u.part) r q p.more n)) in
      let whole = made-done (λ y. tt) (string lone 0 (b ∷ (u.part ++ u.ending))) tt [] (on u.ending ∙ made_reads (λ y. tt) u.alive) in
      record {
        part = b ∷ u.part;
        splits = ap (λ m. b ∷ m) u.splits;
        dead = λ c w i v. made-bad (λ y. tt) (string lone 0 (b ∷ (u.part ++ (c ∷ v)))) not_json (c ∷ v) (on (c ∷ v) ∙ made_fails (λ y. tt) (u.dead c w i v));
        ending = u.ending;
        what = whole.0;
        alive = whole.1;
      }

stopped : (k : ℕ) (l r : List ℕ) → string lone k l ≡ bad not_json r → Stopped k l r
unfolding cons_faulted
stopped k [] r e = end_stopped k r (bad-rest (sym (string-empty lone k) ∙ e))
stopped (suc k) (b ∷ l) r e =
    let s = stopped k l r (sym (string-inside lone b l k) ∙ e) in
    record { fault = cons_faulted b (λ m. string-inside lone b m k) s.fault; enough = λ h. let i = s.enough (omega arith) in omega arith }
stopped zero (b ∷ l) r e = record { fault = go (next lone (b ∷ l)) refl (λ k. stopped k l r); enough = λ h. omega arith }
  where
    go : (o : Next) → next lone (b ∷ l) ≡ o → ((k : ℕ) → string lone k l ≡ bad not_json r → Stopped k l r) → Faulted (string lone 0) (b ∷ l) r
    go Quote h ih = done-bad (sym (string-quote lone b l h) ∙ e)
    go (Character x) h ih = let p = passes b l x h in passed_faulted b l r p (ih p.more (passed_fault b l r p e))
    go (Fault k n) h ih =
        let f = sym (string-fault lone b l h) ∙ e in
        let g : next lone (b ∷ l) ≡ Fault not_json n = h ∙ ap (λ i. Fault i n) (bad_kind f) in
        subst (Faulted (string lone 0) (b ∷ l)) (bad-rest f) (way (subst (Way lone (next lone) (b ∷ l)) g (next_way lone (b ∷ l) (omega arith))) (fault-kind (b ∷ l) g))
      where
        way : Way lone (next lone) (b ∷ l) (Fault not_json n) → Completion not_json n (b ∷ l) → Faulted (string lone 0) (b ∷ l) (drop n (b ∷ l))
        way (near w) m = near_faulted b l n w.0 (w.1 refl) m
        way (far v f there w) m = absurd (omega arith)

pub string-faults : Faults (string lone 0)
string-faults l r e = (stopped 0 l r e).fault
