-- What a reader takes it takes the same whatever follows: it looks at no byte past what it takes, but a number at one.
use mathlib.Core.Bool.{Bool, false}
use mathlib.Core.List.{List, [], ◌∷◌, ◌++◌, append_assoc}
use mathlib.Core.Path.{◌≡◌, refl, sym, ap, subst, ◌∙◌}
use Prim.Native.Nat.{ℕ, zero, suc, ◌+◌, ◌≤◌, ◌<◌}
use native.Mathlib.Omega.{arith}
use lib.ListN.{length, length-append, get_or-append, get_or-eq_default}
use lib.Seq.{get_or-append_seam}
use lib.Dec.{eqb}
use Rattle.notation.proofs.Booleans.{by_test, true-false}
use Rattle.notation.proofs.Lists.{no_cons}
use Rattle.lexeme.specs.declared.Char.{Char}
use Rattle.lexeme.specs.declared.Next.{Next}
use Rattle.lexeme.specs.declared.Next.TheVariants.{Quote, Character, Fault}
use Rattle.lexeme.specs.Read.{Read, made}
use Rattle.lexeme.specs.Read.Read.{done}
use Rattle.lexeme.specs.Character.{Surrogates, bytes_of, next}
use Rattle.lexeme.specs.Strings.{string, decoded}
use Rattle.lexeme.specs.Numbers.{digit, either, digits, some_digits, optional, both, nothing, integer, minus, fraction, exponent, number}
use Rattle.lexeme.specs.Tokens.{blank, blanks, literal}
use Rattle.lexeme.proofs.Reading.{Shrinks, Consumes, Any, numeric, Settled, Consumed, StrongPrefix}
use Rattle.lexeme.proofs.Reading.Settled.{alike, same_end, stops}
use Rattle.lexeme.proofs.Steps.{bad-done, done_what, done-rest, made_reads, made-done, then-done, string-empty, string-inside, string-quote, string-fault, string-character, decoded-character, blanks_pass, blanks_stop, literal_match, literal_differs, digits_more, digits_stop, some_digits-more, some_digits-none, integer-zero, integer-digits, optional-there, optional-absent, both-reads}
use Rattle.lexeme.proofs.Shrinks.{shrinks_to, digits_shrinks, both_shrinks, fraction_shrinks, exponent_shrinks, minus_shrinks}
use Rattle.lexeme.proofs.Local.{quote-byte, halts_end, halts_quote, Same, character-same}

-- the combinators
made_took : {A B : Type 0} {C : List ℕ → List ℕ → Type 0} (g : A → B) (f : List ℕ → Read A) (l r : List ℕ) (y : B)
    → ((x : A) → f l ≡ done x r → Consumed C f l x r) → made g (f l) ≡ done y r → Consumed C (λ m. made g (f m)) l y r
made_took g f l r y took e =
    let p = made-done g (f l) y r e in
    let t = took p.0 p.1 in
    record { part = t.part; splits = t.splits; frame = λ q o. made_reads g (t.frame q o) ∙ ap (λ z. done z q) p.2 }

pub made_takes : {A B : Type 0} {C : List ℕ → List ℕ → Type 0} (g : A → B) (f : List ℕ → Read A) → StrongPrefix C f → StrongPrefix C (λ l. made g (f l))
made_takes g f takes l r y = made_took g f l r y (takes l r)

pub made_consumes : {A B : Type 0} (g : A → B) (f : List ℕ → Read A) → Consumes f → Consumes (λ l. made g (f l))
made_consumes g f consumes l r y e = let p = made-done g (f l) y r e in consumes l r p.0 p.1

-- a reader that passes a byte and goes on as another
pub cons_took : {A : Type 0} {C : List ℕ → List ℕ → Type 0} {f g : List ℕ → Read A} {l r : List ℕ} {x : A} (b : ℕ)
    → ((m : List ℕ) → g (b ∷ m) ≡ f m) → Consumed C f l x r → Consumed C g (b ∷ l) x r
cons_took b passes t =
    record { part = b ∷ t.part; splits = ap (λ m. b ∷ m) t.splits; frame = λ q o. passes (t.part ++ q) ∙ t.frame q o }

-- a reader that took nothing
none_took : {A : Type 0} {C : List ℕ → List ℕ → Type 0} {g : List ℕ → Read A} {l r : List ℕ} {x : A} → l ≡ r → ((q : List ℕ) → C r q → g q ≡ done x q) → Consumed C g l x r
none_took e frame = record { part = []; splits = e; frame = frame }

-- A string's bytes before its closing quote: the string is these and the quote, whatever follows; and taken alone they decode to the same.
pub record Spelled (ρ : Surrogates) (k : ℕ) (l y r : List ℕ) : Type 0 where
  pub part : List ℕ
  pub splits : l ≡ part ++ (0x22 ∷ r)
  pub enough : k ≤ length part
  pub decodes : decoded ρ k part ≡ y
  pub frame : (q : List ℕ) → string ρ k (part ++ (0x22 ∷ q)) ≡ done y q

pub closes : (ρ : Surrogates) (q : List ℕ) → next ρ (0x22 ∷ q) ≡ Quote
unfolding next
closes ρ q = refl

-- texts that begin with the same bytes, up to a quote or the end
same-front : (p q r : List ℕ) → Same (length p) (p ++ (0x22 ∷ r)) (p ++ (0x22 ∷ q))
same-front p q r =
    record {
      below = λ i h. get_or-append p (0x22 ∷ r) 0 i h ∙ sym (get_or-append p (0x22 ∷ q) 0 i h);
      left = rw (get_or-append_seam p 0x22 r 0) halts_quote;
      right = rw (get_or-append_seam p 0x22 q 0) halts_quote;
    }

same-alone : (p r : List ℕ) → Same (length p) (p ++ (0x22 ∷ r)) p
same-alone p r =
    record {
      below = λ i h. get_or-append p (0x22 ∷ r) 0 i h;
      left = rw (get_or-append_seam p 0x22 r 0) halts_quote;
      right = rw (get_or-eq_default p 0 {n = length p} (omega arith)) halts_end;
    }

character-spelled : (ρ : Surrogates) (b : ℕ) (l : List ℕ) (x : Char) (y r : List ℕ) → next ρ (b ∷ l) ≡ Character x
    → Spelled ρ x.more l y r → Spelled ρ 0 (b ∷ l) (bytes_of x ++ y) r
character-spelled ρ b l x y r e s =
    let p = b ∷ s.part in
    let n : x.more < length p = omega (arith, s.enough) in
    let f : next ρ (p ++ (0x22 ∷ r)) ≡ Character x = ap (λ m. next ρ (b ∷ m)) (sym s.splits) ∙ e in
    record {
      part = p;
      splits = ap (λ m. b ∷ m) s.splits;
      enough = omega arith;
      decodes =
          decoded-character ρ b s.part (character-same ρ (length p) (p ++ (0x22 ∷ r)) p x (omega arith) f n (same-alone p r)) ∙ ap (λ z. bytes_of x ++ z) s.decodes;
      frame = λ q.
          string-character ρ b (s.part ++ (0x22 ∷ q)) (character-same ρ (length p) (p ++ (0x22 ∷ r)) (p ++ (0x22 ∷ q)) x (omega arith) f n (same-front p q r))
          ∙ made_reads (λ z. bytes_of x ++ z) (s.frame q);
    }

inside-spelled : (ρ : Surrogates) (k b : ℕ) (l y r : List ℕ) → Spelled ρ k l y r → Spelled ρ (suc k) (b ∷ l) y r
unfolding decoded
inside-spelled ρ k b l y r s =
    record {
      part = b ∷ s.part;
      splits = ap (λ m. b ∷ m) s.splits;
      enough = omega (arith, s.enough);
      decodes = s.decodes;
      frame = λ q. string-inside ρ b (s.part ++ (0x22 ∷ q)) k ∙ s.frame q;
    }

quote-spelled : (ρ : Surrogates) (b : ℕ) (l : List ℕ) → next ρ (b ∷ l) ≡ Quote → Spelled ρ 0 (b ∷ l) [] l
unfolding decoded
quote-spelled ρ b l e =
    record {
      part = [];
      splits = ap (λ c. c ∷ l) (quote-byte ρ b l e);
      enough = omega arith;
      decodes = refl;
      frame = λ q. string-quote ρ 0x22 q (closes ρ q);
    }

pub string-spelled : (ρ : Surrogates) (k : ℕ) (l y r : List ℕ) → string ρ k l ≡ done y r → Spelled ρ k l y r
string-spelled ρ k [] y r e = bad-done (sym (string-empty ρ k) ∙ e)
string-spelled ρ (suc k) (b ∷ l) y r e = inside-spelled ρ k b l y r (string-spelled ρ k l y r (sym (string-inside ρ b l k) ∙ e))
string-spelled ρ zero (b ∷ l) y r e = go (next ρ (b ∷ l)) refl (λ k. string-spelled ρ k l)
  where
    go : (o : Next) → next ρ (b ∷ l) ≡ o → ((k : ℕ) (y r : List ℕ) → string ρ k l ≡ done y r → Spelled ρ k l y r) → Spelled ρ 0 (b ∷ l) y r
    go Quote h ih =
        let f : done [] l ≡ done y r = sym (string-quote ρ b l h) ∙ e in
        rw (← done_what f, ← done-rest f) (quote-spelled ρ b l h)
    go (Fault k n) h ih = bad-done (sym (string-fault ρ b l h) ∙ e)
    go (Character x) h ih =
        let p = made-done (λ z. bytes_of x ++ z) (string ρ x.more l) y r (sym (string-character ρ b l h) ∙ e) in
        rw (← p.2) (character-spelled ρ b l x p.0 r h (ih x.more p.0 r p.1))

pub string_takes : (ρ : Surrogates) (k : ℕ) → StrongPrefix Any (string ρ k)
string_takes ρ k l r y e =
    let s = string-spelled ρ k l y r e in
    record {
      part = s.part ++ (0x22 ∷ []);
      splits = s.splits ∙ sym (append_assoc s.part (0x22 ∷ []) r);
      frame = λ q o. ap (string ρ k) (append_assoc s.part (0x22 ∷ []) q) ∙ s.frame q;
    }

pub string_consumes : (ρ : Surrogates) (k : ℕ) → Consumes (string ρ k)
string_consumes ρ k l r y e =
    let s = string-spelled ρ k l y r e in
    let n : length l ≡ length s.part + length (0x22 ∷ r) = ap length s.splits ∙ length-append s.part (0x22 ∷ r) in omega arith

-- words
pub literal_takes : {A : Type 0} (w : List ℕ) (x : A) → StrongPrefix Any (literal w x)
unfolding literal
literal_takes [] x l r y e = none_took (done-rest e) (λ q o. ap (λ z. done z q) (done_what e))
literal_takes (c ∷ w) x [] r y e = bad-done e
literal_takes (c ∷ w) x (b ∷ l) r y e =
    let ih = literal_takes w x l r y in
    by_test (eqb b c)
    (λ h. cons_took b (λ m. literal_match b x c w m h) (ih (sym (literal_match b x c w l h) ∙ e)))
    (λ h. bad-done (sym (literal_differs b x c w l h) ∙ e))

pub literal_consumes : {A : Type 0} (c : ℕ) (w : List ℕ) (x : A) → Consumes (literal (c ∷ w) x)
literal_consumes c w x [] r y e = unfold literal in bad-done e
literal_consumes c w x (b ∷ l) r y e =
    by_test (eqb b c)
    (λ h.
    let t = literal_takes w x l r y (sym (literal_match b x c w l h) ∙ e) in
    let n : length l ≡ length t.part + length r = ap length t.splits ∙ length-append t.part r in omega arith)
    (λ h. bad-done (sym (literal_differs b x c w l h) ∙ e))

-- blanks
pub record Blanks (l : List ℕ) : Type 0 where
  pub part : List ℕ
  pub splits : l ≡ part ++ blanks l
  pub passes : (q : List ℕ) → blanks (part ++ q) ≡ blanks q
  pub frame : (c : ℕ) → blank c ≡ false → (v : List ℕ) → blanks (part ++ (c ∷ v)) ≡ c ∷ v
  pub only : blanks (part ++ []) ≡ []

blanks-part : (l p : List ℕ) → l ≡ p ++ blanks l → ((q : List ℕ) → blanks (p ++ q) ≡ blanks q) → Blanks l
unfolding blanks
blanks-part l p e passes =
    record { part = p; splits = e; passes = passes; frame = λ c h v. passes (c ∷ v) ∙ blanks_stop c v h; only = passes [] }

pub blanks-of : (l : List ℕ) → Blanks l
blanks-of [] = blanks-part [] [] (unfold blanks in refl) (λ q. refl)
blanks-of (b ∷ l) =
    let s = blanks-of l in
    by_test (blank b)
    (λ h. blanks-part (b ∷ l) (b ∷ s.part) (ap (λ m. b ∷ m) (s.splits ∙ ap (λ m. s.part ++ m) (sym (blanks_pass b l h)))) (λ q. blanks_pass b (s.part ++ q) h ∙ s.passes q))
    (λ h. blanks-part (b ∷ l) [] (sym (blanks_stop b l h)) (λ q. refl))

pub solid-first : (l : List ℕ) (b : ℕ) (w : List ℕ) → blanks l ≡ b ∷ w → blank b ≡ false
solid-first [] b w e = unfold blanks in no_cons e
solid-first (c ∷ l) b w e =
    let ih = solid-first l b w in
    by_test (blank c) (λ h. ih (sym (blanks_pass c l h) ∙ e)) (λ h. let f : c ∷ l ≡ b ∷ w = sym (blanks_stop c l h) ∙ e in let n : c ≡ b = cc in rw n at h)

-- Numbers. What may follow a reader that may go on with a byte of the test: what begins as the rest does, or goes on with no such byte.
abbrev pub Unless : (ℕ → Bool) → List ℕ → Type 0
Unless test [] = Unit {0}
Unless test (b ∷ q) = test b ≡ false

pub data Fits (test : ℕ → Bool) : List ℕ → List ℕ → Type 0 where
  begins : {b : ℕ} {v w : List ℕ} → Fits test (b ∷ v) (b ∷ w)
  ends : {r : List ℕ} → Fits test r r
  unless : {r q : List ℕ} → Unless test q → Fits test r q

still : {test : ℕ → Bool} {r q : List ℕ} → Fits test r q → Unless test r → Unless test q
still begins h = h
still ends h = h
still (unless i) h = i

pub fits_ok : (test : ℕ → Bool) → ((b : ℕ) → numeric b ≡ false → test b ≡ false) → (r q : List ℕ) → Settled r q → Fits test r q
fits_ok test no_number r q alike = begins
fits_ok test no_number r q same_end = ends
fits_ok test no_number r [] (stops s) = unless tt
fits_ok test no_number r (b ∷ q) (stops s) = unless (no_number b s)

module _ (b : ℕ) (e : numeric b ≡ false) where
  pub no_digit : digit b ≡ false
  unfolding numeric
  no_digit = by_test (digit b) (λ h. true-false (rw h refl) e) (λ h. h)

  pub no-exponent : either 0x65 0x45 b ≡ false
  unfolding numeric
  no-exponent = by_test (either 0x65 0x45 b) (λ h. true-false (rw (no_digit, h) refl) e) (λ h. h)

  pub no-point : eqb b 0x2e ≡ false
  unfolding numeric
  no-point = by_test (eqb b 0x2e) (λ h. true-false (rw (no_digit, no-exponent, h) refl) e) (λ h. h)

-- a reader that finds no byte of the test takes nothing; and one that does passes it
module _ {C : List ℕ → List ℕ → Type 0} (g : List ℕ → Read (List ℕ)) where
  absent_took : (test : ℕ → Bool) → ((r q : List ℕ) → C r q → Fits test r q) → ((q : List ℕ) → Unless test q → g q ≡ done [] q)
      → (l r x : List ℕ) → Unless test l → g l ≡ done x r → Consumed C g l x r
  absent_took test fits none l r x u e =
      let f : done [] l ≡ done x r = sym (none l u) ∙ e in
      none_took (done-rest f) (λ q o. none q (still (fits r q o) (subst (Unless test) (done-rest f) u)) ∙ ap (λ z. done z q) (done_what f))

  there_took : (f : List ℕ → Read (List ℕ)) (b : ℕ) (l r x : List ℕ) → ((m : List ℕ) → g (b ∷ m) ≡ made (λ y. b ∷ y) (f m))
      → ((y : List ℕ) → f l ≡ done y r → Consumed C f l y r) → g (b ∷ l) ≡ done x r → Consumed C g (b ∷ l) x r
  there_took f b l r x passes took e = cons_took b passes (made_took (λ y. b ∷ y) f l r x took (sym (passes l) ∙ e))

digits-none : (q : List ℕ) → Unless digit q → digits q ≡ done [] q
unfolding digits
digits-none [] h = refl
digits-none (b ∷ q) h = digits_stop b q h

pub digits_takes : StrongPrefix Settled digits
digits_takes [] r x e = absent_took digits digit (fits_ok digit no_digit) digits-none [] r x tt e
digits_takes (b ∷ l) r x e =
    let ih = digits_takes l r in
    by_test (digit b)
    (λ h. there_took digits digits b l r x (λ m. digits_more b m h) ih e)
    (λ h. absent_took digits digit (fits_ok digit no_digit) digits-none (b ∷ l) r x h e)

pub some_digits_takes : StrongPrefix Settled some_digits
some_digits_takes [] r x e = unfold some_digits in bad-done e
some_digits_takes (b ∷ l) r x e =
    by_test (digit b)
    (λ h. there_took some_digits digits b l r x (λ m. some_digits-more b m h) (digits_takes l r) e)
    (λ h. bad-done (sym (some_digits-none b l h) ∙ e))

pub integer_takes : StrongPrefix Settled integer
integer_takes [] r x e = unfold integer in bad-done e
integer_takes (b ∷ l) r x e =
    by_test (eqb b 0x30)
    (λ h. cons_took {f = λ m. done (b ∷ []) m} b (λ m. integer-zero b m h)
    (let f : done (b ∷ []) l ≡ done x r = sym (integer-zero b l h) ∙ e in none_took (done-rest f) (λ q o. ap (λ z. done z q) (done_what f))))
    (λ h. by_test (digit b)
    (λ d. there_took integer digits b l r x (λ m. integer-digits b m h ∙ some_digits-more b m d) (digits_takes l r) e)
    (λ d. bad-done (sym (integer-digits b l h ∙ some_digits-none b l d) ∙ e)))

optional-none : (test : ℕ → Bool) (follow : List ℕ → Read (List ℕ)) (q : List ℕ) → Unless test q → optional test follow q ≡ done [] q
optional-none test follow [] h = unfold optional in refl
optional-none test follow (b ∷ q) h = optional-absent b test follow q h

pub optional_takes : {C : List ℕ → List ℕ → Type 0} (test : ℕ → Bool) (follow : List ℕ → Read (List ℕ))
    → ((r q : List ℕ) → C r q → Fits test r q) → StrongPrefix C follow → StrongPrefix C (optional test follow)
optional_takes test follow fits takes [] r x e = absent_took (optional test follow) test fits (optional-none test follow) [] r x tt e
optional_takes test follow fits takes (b ∷ l) r x e =
    by_test (test b)
    (λ h. there_took (optional test follow) follow b l r x (λ m. optional-there b test follow m h) (takes l r) e)
    (λ h. absent_took (optional test follow) test fits (optional-none test follow) (b ∷ l) r x h e)

pub nothing_takes : {C : List ℕ → List ℕ → Type 0} → StrongPrefix C nothing
unfolding nothing
nothing_takes l r x e = none_took (done-rest e) (λ q o. ap (λ z. done z q) (done_what e))

-- two spellings in a row: what the second took, or what may follow it, may follow the first
module _ (first second : List ℕ → Read (List ℕ)) where
  pub both-done : (l y r : List ℕ) → both first second l ≡ done y r → (x q z : List ℕ) × (first l ≡ done x q) × (second q ≡ done z r) × (x ++ z ≡ y)
  unfolding both
  both-done l y r e =
      let p = then-done (first l) (λ x q. made (λ z. x ++ z) (second q)) y r e in
      let s = made-done (λ z. p.0 ++ z) (second p.1) y r p.3 in
      (p.0, p.1, s.0, p.2, s.1, s.2)

  pub both_takes : {C D : List ℕ → List ℕ → Type 0} → StrongPrefix D first → StrongPrefix C second
      → ((m r z : List ℕ) → second m ≡ done z r → (p q : List ℕ) → m ≡ p ++ r → C r q → D m (p ++ q)) → StrongPrefix C (both first second)
  both_takes tf ts joins l r y e =
      let p = both-done l y r e in
      let t = tf l p.1 p.0 p.3 in
      let u = ts p.1 r p.2 p.4 in
      record {
        part = t.part ++ u.part;
        splits = t.splits ∙ ap (λ m. t.part ++ m) u.splits ∙ sym (append_assoc t.part u.part r);
        frame = λ q o.
            ap (both first second) (append_assoc t.part u.part q)
            ∙ both-reads first second (t.part ++ (u.part ++ q)) (t.frame (u.part ++ q) (joins p.1 r p.2 p.4 u.part q u.splits o))
            ∙ made_reads (λ z. p.0 ++ z) (u.frame q o) ∙ ap (λ z. done z q) p.5;
      }

  both_consumes : Shrinks first → Consumes second → Consumes (both first second)
  both_consumes shrinks consumes l r y e =
      let p = both-done l y r e in
      let n : length p.1 ≤ length l = shrinks_to first shrinks l p.3 in
      let h : length r < length p.1 = consumes p.1 r p.2 p.4 in omega arith

  both_consumes_first : Consumes first → Shrinks second → Consumes (both first second)
  both_consumes_first consumes shrinks l r y e =
      let p = both-done l y r e in
      let n : length r ≤ length p.1 = shrinks_to second shrinks p.1 p.4 in
      let h : length p.1 < length l = consumes l p.1 p.0 p.3 in omega arith

pub ok_part : (m r p q : List ℕ) → m ≡ p ++ r → Settled r q → Settled m (p ++ q)
ok_part m r [] q e o = rw e o
ok_part m r (c ∷ p) q e o = rw e alike

-- an optional sign, and a number that has no sign
signed_takes : (test : ℕ → Bool) (f : List ℕ → Read (List ℕ)) → Consumes f → StrongPrefix Settled f → StrongPrefix Settled (both (optional test nothing) f)
signed_takes test f consumes takes = both_takes (optional test nothing) f (optional_takes test nothing (λ r q o. o) nothing_takes) takes joins
  where
    joins : (m r z : List ℕ) → f m ≡ done z r → (p q : List ℕ) → m ≡ p ++ r → Settled r q → Fits test m (p ++ q)
    joins m r z e [] q s o = let n : length r < length m = consumes m r z e in let h : length m ≡ length r = ap length s in absurd (omega arith)
    joins m r z e (c ∷ p) q s o = rw s begins

some_digits_consumes : Consumes some_digits
some_digits_consumes [] r x e = unfold some_digits in bad-done e
some_digits_consumes (b ∷ l) r x e =
    by_test (digit b)
    (λ h.
    let p = made-done (λ y. b ∷ y) (digits l) x r (sym (some_digits-more b l h) ∙ e) in
    let n : length r ≤ length l = shrinks_to digits digits_shrinks l p.1 in omega arith)
    (λ h. bad-done (sym (some_digits-none b l h) ∙ e))

integer_consumes : Consumes integer
integer_consumes [] r x e = unfold integer in bad-done e
integer_consumes (b ∷ l) r x e =
    by_test (eqb b 0x30)
    (λ h. let f : done (b ∷ []) l ≡ done x r = sym (integer-zero b l h) ∙ e in let n : length l ≡ length r = ap length (done-rest f) in omega arith)
    (λ h. some_digits_consumes (b ∷ l) r x (sym (integer-digits b l h) ∙ e))

pub fraction_takes : StrongPrefix Settled fraction
unfolding fraction
fraction_takes = optional_takes (λ b. eqb b 0x2e) some_digits (fits_ok (λ b. eqb b 0x2e) no-point) some_digits_takes

pub exponent_takes : StrongPrefix Settled exponent
unfolding exponent
exponent_takes = optional_takes (either 0x65 0x45) _ (fits_ok (either 0x65 0x45) no-exponent) (signed_takes (either 0x2b 0x2d) some_digits some_digits_consumes some_digits_takes)

-- a number but for its sign
abbrev pub unsigned : List ℕ → Read (List ℕ)
unsigned = both integer (both fraction exponent)

pub unsigned_consumes : Consumes unsigned
unsigned_consumes = both_consumes_first integer _ integer_consumes (both_shrinks fraction exponent fraction_shrinks exponent_shrinks)

pub unsigned_takes : StrongPrefix Settled unsigned
unsigned_takes =
    both_takes integer _ integer_takes
    (both_takes fraction exponent fraction_takes exponent_takes (λ m r z e p q. ok_part m r p q))
    (λ m r z e p q. ok_part m r p q)

pub number_takes : StrongPrefix Settled number
unfolding number minus
number_takes = signed_takes (λ b. eqb b 0x2d) unsigned unsigned_consumes unsigned_takes

pub number_consumes : Consumes number
unfolding number
number_consumes = both_consumes minus _ minus_shrinks unsigned_consumes
