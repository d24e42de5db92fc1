-- RFC 8259's numbers and the reader of numbers: it passes a number of the grammar, and what it passes is one. Each part ends where the next begins,
-- since no part begins with a byte that goes on with the one before it.
use mathlib.Core.Bool.{Bool, true, false}
use mathlib.Core.List.{List, [], ◌∷◌, ◌++◌, append-nil}
use mathlib.Core.Path.{◌≡◌, refl, sym, ap, subst, ◌∙◌}
use Prim.Native.Nat.{ℕ}
use native.Mathlib.Omega.{arith}
use lib.Dec.{eqb}
use borrow.Author.Tests.{eqb-true, eqb-false, ne_eqb}
use Rattle.notation.proofs.Booleans.{by_test}
use Rattle.lexeme.specs.Read.{Read}
use Rattle.lexeme.specs.Read.Read.{done}
use Rattle.lexeme.specs.Character.{within}
use Rattle.lexeme.specs.Numbers.{digit, either, digits, some_digits, optional, both, nothing, integer, minus, fraction, exponent, number}
use Rattle.lexeme.proofs.Steps.{bad-done, done_what, made-done, made_reads, digits_more, digits_stop, some_digits-more, some_digits-none, integer-zero, integer-digits, optional-there, optional-absent, both-reads}
use Rattle.lexeme.proofs.StrongPrefixes.{both-done}
use Rattle.json_text.specs.Grammar.{Digits, Int, Frac, Exp, Number}
use Rattle.json_text.proofs.Leads.{between, bounds}

-- a text that does not go on with a byte that the test admits
abbrev Past : (ℕ → Bool) → List ℕ → Type 0
Past test [] = Unit {0}
Past test (b ∷ q) = test b ≡ false

digits-none : (q : List ℕ) → Past digit q → digits q ≡ done [] q
unfolding digits
digits-none [] h = refl
digits-none (b ∷ q) h = digits_stop b q h

digits_run : {s : List ℕ} → Digits s → (q : List ℕ) → Past digit q → digits (s ++ q) ≡ done s q
digits_run (Digits.one {b} d) q h = digits_more b q d ∙ made_reads (λ y. b ∷ y) (digits-none q h)
digits_run (Digits.more {b} {s} d k) q h = digits_more b (s ++ q) d ∙ made_reads (λ y. b ∷ y) (digits_run k q h)

some_run : {s : List ℕ} → Digits s → (q : List ℕ) → Past digit q → some_digits (s ++ q) ≡ done s q
some_run (Digits.one {b} d) q h = some_digits-more b q d ∙ made_reads (λ y. b ∷ y) (digits-none q h)
some_run (Digits.more {b} {s} d k) q h = some_digits-more b (s ++ q) d ∙ made_reads (λ y. b ∷ y) (digits_run k q h)

-- a digit that is not 0
nonzero : (b : ℕ) → within 0x31 0x39 b ≡ true → (digit b ≡ true) × (eqb b 0x30 ≡ false)
unfolding digit
nonzero b e = let p = bounds 0x31 0x39 b e in (between 0x30 0x39 b (omega arith) (omega arith), ne_eqb b 0x30 (λ z. omega arith))

int_run : {s : List ℕ} → Int s → (q : List ℕ) → Past digit q → integer (s ++ q) ≡ done s q
int_run Int.naught q h = integer-zero 0x30 q refl
int_run (Int.single {b} e) q h = let p = nonzero b e in integer-digits b q p.1 ∙ some_run (Digits.one p.0) q h
int_run (Int.several {b} {s} e k) q h = let p = nonzero b e in integer-digits b (s ++ q) p.1 ∙ some_run (Digits.more p.0 k) q h

-- no part begins as another goes on
either-each : (P : ℕ → Type 0) (x y : ℕ) → P x → P y → (b : ℕ) → either x y b ≡ true → P b
unfolding either
either-each P x y p q b e = by_test (eqb b x) (λ h. rw (eqb-true b x h) p) (λ h. rw (eqb-true b y (rw (h, either) at e)) q)

e_past : (b : ℕ) → either 0x65 0x45 b ≡ true → (digit b ≡ false) × (eqb b 0x2e ≡ false)
unfolding digit within
e_past = either-each (λ b. (digit b ≡ false) × (eqb b 0x2e ≡ false)) 0x65 0x45 (refl, refl) (refl, refl)

digit-past : (b : ℕ) → digit b ≡ true → either 0x2b 0x2d b ≡ false
unfolding either digit
digit-past b d =
    let p = bounds 0x30 0x39 b d in
    rw (ne_eqb b 0x2b (λ z. omega arith), ne_eqb b 0x2d (λ z. omega arith), either)

exp_past : {s : List ℕ} → Exp s → Past digit s × Past (λ b. eqb b 0x2e) s
exp_past Exp.none = (tt, tt)
exp_past (Exp.bare {e} h k) = e_past e h
exp_past (Exp.signed {e} h g k) = e_past e h

frac_past : {f e : List ℕ} → Frac f → Exp e → Past digit (f ++ e)
unfolding digit within
frac_past Frac.none k = (exp_past k).0
frac_past (Frac.point d) k = refl

whole : {s : List ℕ} → Digits s → some_digits s ≡ done s []
whole {s} k = ap some_digits (sym (append-nil s)) ∙ some_run k [] tt

unsigned : {s : List ℕ} → Digits s → both (optional (either 0x2b 0x2d) nothing) some_digits s ≡ done s []
unfolding nothing
unsigned {s} k = both-reads _ some_digits s (absent k) ∙ made_reads (λ y. [] ++ y) (whole k)
  where
    absent : {t : List ℕ} → Digits t → optional (either 0x2b 0x2d) nothing t ≡ done [] t
    absent (Digits.one {b} d) = optional-absent b _ nothing [] (digit-past b d)
    absent (Digits.more {b} {s = t} d i) = optional-absent b _ nothing t (digit-past b d)

-- what follows the letter of an exponent
abbrev after_e : List ℕ → Read (List ℕ)
after_e = both (optional (either 0x2b 0x2d) nothing) some_digits

exp_run : {s : List ℕ} → Exp s → exponent s ≡ done s []
unfolding exponent optional nothing
exp_run Exp.none = refl
exp_run (Exp.bare {e} {s} h k) = optional-there e (either 0x65 0x45) after_e s h ∙ made_reads (λ y. e ∷ y) (unsigned k)
exp_run (Exp.signed {e} {g} {s} h i k) =
    let sign : optional (either 0x2b 0x2d) nothing (g ∷ s) ≡ done (g ∷ []) s = optional-there g (either 0x2b 0x2d) nothing s i ∙ made_reads {x = []} (λ y. g ∷ y) refl in
    optional-there e (either 0x65 0x45) after_e (g ∷ s) h
    ∙ made_reads (λ y. e ∷ y) (both-reads (optional (either 0x2b 0x2d) nothing) some_digits (g ∷ s) sign ∙ made_reads (λ y. (g ∷ []) ++ y) (whole k))

frac_run : {f e : List ℕ} → Frac f → Exp e → fraction (f ++ e) ≡ done f e
unfolding fraction optional
frac_run {e = e} Frac.none k = go e (exp_past k).1
  where
    go : (t : List ℕ) → Past (λ b. eqb b 0x2e) t → optional (λ b. eqb b 0x2e) some_digits t ≡ done [] t
    go [] h = refl
    go (b ∷ t) h = optional-absent b (λ c. eqb c 0x2e) some_digits t h
frac_run {e = e} (Frac.point {s} d) k = optional-there 0x2e (λ b. eqb b 0x2e) some_digits (s ++ e) refl ∙ made_reads (λ y. 0x2e ∷ y) (some_run d e (exp_past k).0)

parts_run : {i f e : List ℕ} → Int i → Frac f → Exp e → both integer (both fraction exponent) (i ++ (f ++ e)) ≡ done (i ++ (f ++ e)) []
parts_run {i} {f} {e} a b c =
    both-reads integer _ _ (int_run a (f ++ e) (frac_past b c))
    ∙ made_reads (λ y. i ++ y) (both-reads fraction exponent _ (frac_run b c) ∙ made_reads (λ y. f ++ y) (exp_run c))

no_minus : {i : List ℕ} → Int i → (q : List ℕ) → minus (i ++ q) ≡ done [] (i ++ q)
unfolding minus
no_minus Int.naught q = optional-absent 0x30 _ nothing q refl
no_minus (Int.single {b} e) q = let p = bounds 0x31 0x39 b e in optional-absent b _ nothing q (ne_eqb b 0x2d (λ z. omega arith))
no_minus (Int.several {b} {s} e k) q = let p = bounds 0x31 0x39 b e in optional-absent b _ nothing (s ++ q) (ne_eqb b 0x2d (λ z. omega arith))

pub number_passed : {n : List ℕ} → Number n → number n ≡ done n []
unfolding number minus nothing
number_passed (Number.plain a b c) = both-reads minus _ _ (no_minus a _) ∙ made_reads (λ y. [] ++ y) (parts_run a b c)
number_passed (Number.minus a b c) =
    both-reads minus _ _ (optional-there 0x2d (λ b. eqb b 0x2d) nothing _ refl ∙ made_reads {x = []} (λ y. 0x2d ∷ y) refl) ∙ made_reads (λ y. (0x2d ∷ []) ++ y) (parts_run a b c)

-- what is read as a number is one of the grammar's
digits-found : (l : List ℕ) (b : ℕ) → digit b ≡ true → (x r : List ℕ) → digits l ≡ done x r → Digits (b ∷ x)
digits-found [] b d x r e = unfold digits in subst (λ (z : List ℕ). Digits (b ∷ z)) (done_what e) (Digits.one d)
digits-found (c ∷ l) b d x r e =
    let ih = digits-found l c in
    by_test (digit c)
    (λ h.
    let p = made-done (λ y. c ∷ y) (digits l) x r (sym (digits_more c l h) ∙ e) in
    subst (λ (z : List ℕ). Digits (b ∷ z)) p.2 (Digits.more d (ih h p.0 r p.1)))
    (λ h. subst (λ (z : List ℕ). Digits (b ∷ z)) (done_what (sym (digits_stop c l h) ∙ e)) (Digits.one d))

some-found : (l x r : List ℕ) → some_digits l ≡ done x r → Digits x
some-found [] x r e = unfold some_digits in bad-done e
some-found (b ∷ l) x r e =
    by_test (digit b)
    (λ h.
    let p = made-done (λ y. b ∷ y) (digits l) x r (sym (some_digits-more b l h) ∙ e) in
    subst Digits p.2 (digits-found l b h p.0 r p.1))
    (λ h. bad-done (sym (some_digits-none b l h) ∙ e))

above_zero : (b : ℕ) → digit b ≡ true → eqb b 0x30 ≡ false → within 0x31 0x39 b ≡ true
unfolding digit
above_zero b d n = let p = bounds 0x30 0x39 b d in let k = eqb-false b 0x30 n in between 0x31 0x39 b (omega (arith, k)) p.1

int_of : {x : List ℕ} → Digits x → (b : ℕ) (y : List ℕ) → x ≡ b ∷ y → eqb b 0x30 ≡ false → Int x
int_of (Digits.one {b = c} d) b y e n = let s : c ≡ b = cc in Int.single (above_zero c d (rw s n))
int_of (Digits.more {b = c} d k) b y e n = let s : c ≡ b = cc in Int.several (above_zero c d (rw s n)) k

int_found : (l x r : List ℕ) → integer l ≡ done x r → Int x
int_found [] x r e = unfold integer in bad-done e
int_found (b ∷ l) x r e =
    by_test (eqb b 0x30)
    (λ h. subst Int (ap (λ (c : ℕ). c ∷ []) (sym (eqb-true b 0x30 h)) ∙ done_what (sym (integer-zero b l h) ∙ e)) Int.naught)
    (λ h.
    let f = sym (integer-digits b l h) ∙ e in
    by_test (digit b)
    (λ d. let p = made-done (λ y. b ∷ y) (digits l) x r (sym (some_digits-more b l d) ∙ f) in int_of (some-found (b ∷ l) x r f) b p.0 (sym p.2) h)
    (λ d. bad-done (sym (some_digits-none b l d) ∙ f)))

frac_found : (l x r : List ℕ) → fraction l ≡ done x r → Frac x
unfolding fraction
frac_found [] x r e = unfold optional in subst Frac (done_what e) Frac.none
frac_found (b ∷ l) x r e =
    by_test (eqb b 0x2e)
    (λ h.
    let p = made-done (λ y. b ∷ y) (some_digits l) x r (sym (optional-there b (λ c. eqb c 0x2e) some_digits l h) ∙ e) in
    subst Frac (ap (λ (c : ℕ). c ∷ p.0) (sym (eqb-true b 0x2e h)) ∙ p.2) (Frac.point (some-found l p.0 r p.1)))
    (λ h. subst Frac (done_what (sym (optional-absent b (λ c. eqb c 0x2e) some_digits l h) ∙ e)) Frac.none)

exp_tail : (b : ℕ) → either 0x65 0x45 b ≡ true → (l x r : List ℕ) → both (optional (either 0x2b 0x2d) nothing) some_digits l ≡ done x r → Exp (b ∷ x)
unfolding nothing
exp_tail b h l x r e =
    let p = both-done (optional (either 0x2b 0x2d) nothing) some_digits l x r e in
    let k = some-found p.1 p.2 r p.4 in
    subst (λ (z : List ℕ). Exp (b ∷ z)) p.5 (go l p.0 p.1 p.3 k)
  where
    go : (l z q : List ℕ) {t : List ℕ} → optional (either 0x2b 0x2d) nothing l ≡ done z q → Digits t → Exp (b ∷ (z ++ t))
    go [] z q {t} i k = unfold optional in subst (λ (m : List ℕ). Exp (b ∷ (m ++ t))) (done_what i) (Exp.bare h k)
    go (c ∷ l) z q {t} i k =
        by_test (either 0x2b 0x2d c)
        (λ g. let p : done (c ∷ []) l ≡ done z q = sym (optional-there c (either 0x2b 0x2d) nothing l g ∙ made_reads (λ y. c ∷ y) refl) ∙ i in
        subst (λ (m : List ℕ). Exp (b ∷ (m ++ t))) (done_what p) (Exp.signed h g k))
        (λ g. subst (λ (m : List ℕ). Exp (b ∷ (m ++ t))) (done_what (sym (optional-absent c (either 0x2b 0x2d) nothing l g) ∙ i)) (Exp.bare h k))

exp_found : (l x r : List ℕ) → exponent l ≡ done x r → Exp x
unfolding exponent
exp_found [] x r e = unfold optional in subst Exp (done_what e) Exp.none
exp_found (b ∷ l) x r e =
    by_test (either 0x65 0x45 b)
    (λ h.
    let p = made-done (λ y. b ∷ y) (both (optional (either 0x2b 0x2d) nothing) some_digits l) x r (sym (optional-there b (either 0x65 0x45) _ l h) ∙ e) in
    subst Exp p.2 (exp_tail b h l p.0 r p.1))
    (λ h. subst Exp (done_what (sym (optional-absent b (either 0x65 0x45) _ l h) ∙ e)) Exp.none)

pub number-found : (l n r : List ℕ) → number l ≡ done n r → Number n
unfolding number minus nothing
number-found l n r e =
    let p = both-done minus (both integer (both fraction exponent)) l n r e in
    let q = both-done integer (both fraction exponent) p.1 p.2 r p.4 in
    let t = both-done fraction exponent q.1 q.2 r q.4 in
    let parts : p.2 ≡ q.0 ++ (t.0 ++ t.2) = sym q.5 ∙ ap (λ (z : List ℕ). q.0 ++ z) (sym t.5) in
    subst Number (ap (λ (z : List ℕ). p.0 ++ z) (sym parts) ∙ p.5)
    (go l p.0 p.1 p.3 (int_found p.1 q.0 q.1 q.3) (frac_found q.1 t.0 t.1 t.3) (exp_found t.1 t.2 r t.4))
  where
    go : (l z q : List ℕ) {i f e : List ℕ} → optional (λ b. eqb b 0x2d) nothing l ≡ done z q → Int i → Frac f → Exp e → Number (z ++ (i ++ (f ++ e)))
    go [] z q {i} {f} {e} h a b c = unfold optional in subst (λ (m : List ℕ). Number (m ++ (i ++ (f ++ e)))) (done_what h) (Number.plain a b c)
    go (d ∷ l) z q {i} {f} {e} h a b c =
        by_test (eqb d 0x2d)
        (λ g. let p : done (d ∷ []) l ≡ done z q = sym (optional-there d (λ b. eqb b 0x2d) nothing l g ∙ made_reads (λ y. d ∷ y) refl) ∙ h in
        subst (λ (m : List ℕ). Number (m ++ (i ++ (f ++ e)))) (ap (λ (m : ℕ). m ∷ []) (sym (eqb-true d 0x2d g)) ∙ done_what p) (Number.minus a b c))
        (λ g. subst (λ (m : List ℕ). Number (m ++ (i ++ (f ++ e)))) (done_what (sym (optional-absent d (λ b. eqb b 0x2d) nothing l g) ∙ h)) (Number.plain a b c))
