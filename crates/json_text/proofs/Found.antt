-- The strings that the reader passes where lone surrogates pass are those of RFC 8259's grammar: a character that is read begins with one of the grammar's,
-- and past that one the string is read equally far.
use mathlib.Core.Bool.{Bool, true, false}
use mathlib.Core.List.{List, [], ◌∷◌, ◌++◌, append_assoc}
use mathlib.Core.Logic.{⊎_elim}
use mathlib.Core.Path.{◌≡◌, refl, sym, ap, ◌∙◌}
use Prim.Native.Nat.{ℕ, zero, suc, ◌+◌, ◌≤◌, ◌<◌}
use native.Mathlib.Omega.{arith}
use lib.Dec.{eqb}
use lib.ListN.{length, drop, length-append}
use borrow.Author.Tests.{eqb-true}
use Rattle.notation.proofs.Booleans.{by_test, true-false}
use Rattle.lexeme.specs.declared.Char.{Char}
use Rattle.lexeme.specs.declared.Next.{Next}
use Rattle.lexeme.specs.declared.Next.TheVariants.{Quote, Character, Fault}
use Rattle.lexeme.specs.Read.Read.{done}
use Rattle.word.specs.Kinds.{not_json}
use Rattle.lexeme.specs.Character.{lone, byte, within, char2, char3, char4, utf2, utf3, utf4, hex_value, hexadecimal, quad, unicode, short, escape, next}
use Rattle.lexeme.specs.inner.Lead.{Lead, lead, next_by}
use Rattle.lexeme.specs.inner.Lead.Lead.{plain, quote, backslash, wrong, two, three_e0, three, three_ed, four_f0, four, four_f4}
use Rattle.lexeme.specs.Numbers.{either}
use Rattle.lexeme.specs.Strings.{string}
use Rattle.lexeme.proofs.Steps.{bad-done, done-rest, made-done, made_reads, string-empty, string-quote, string-fault}
use Rattle.lexeme.proofs.Rows.{front, front_splits, row, Strict, Each, Decided, all_met, failed, decided}
use Rattle.lexeme.proofs.Local.{quote-byte}
use Rattle.lexeme.proofs.Lone.{bare}
use Rattle.json_text.specs.Grammar as Grammar
use Rattle.json_text.specs.Grammar.{tail, escapable, Chars}
use Rattle.json_text.proofs.Leads.{ranged}
use Rattle.json_text.proofs.Chars.{hex_back, char_passed}
use Rattle.lexeme.proofs.Leads.{next-by}
use Rattle.std.specs.Prelude.{Result, Err}

-- an answer that is no character
never : {A : Type 0} {k n : ℕ} {x : Char} → Fault k n ≡ Character x → A
never e = let z : ◌≡◌ {A = ℕ} 0 1 = cc in absurd (omega arith)

no-quote : {A : Type 0} {x : Char} → Quote ≡ Character x → A
no-quote e = let z : ◌≡◌ {A = ℕ} 0 1 = cc in absurd (omega arith)

-- a character of the grammar at the front
record First (l : List ℕ) : Type 0 where
  part : List ℕ
  rest : List ℕ
  splits : l ≡ part ++ rest
  is : Grammar.Char part

-- the bytes of the text l that meet the tests, from its second on, make one
row_first : {x : Char} (whole : Next) (ts : List (ℕ → Bool)) → Strict ts → (l : List ℕ) → 0 < length l → row (Fault not_json) ts 1 whole l ≡ Character x
    → (Each ts 1 l → Grammar.Char (front (1 + length ts) 0 l)) → First l
row_first whole ts s l some e char = go (decided (Fault not_json) ts s 1 l some)
  where
    go : Decided (Fault not_json) ts 1 l → First l
    go (all_met p each f) =
        record { part = front (1 + length ts) 0 l; rest = drop (1 + length ts) l; splits = front_splits (1 + length ts) l p; is = char each }
    go (failed n i p f) = never (sym (f whole l (λ j k. refl)) ∙ e)

-- an escape
first-unicode : (m : List ℕ) (x : Char) (l : List ℕ) → unicode lone l (quad m) ≡ Character x → First (0x5c ∷ 0x75 ∷ m)
unfolding unicode quad row hexadecimal hex_value within
first-unicode m x l e = go (decided {A = Result ℕ ℕ} Err (hexadecimal ∷ hexadecimal ∷ hexadecimal ∷ hexadecimal ∷ []) (refl, (refl, (refl, (refl, tt)))) 0 m (omega arith))
  where
    go : Decided {A = Result ℕ ℕ} Err (hexadecimal ∷ hexadecimal ∷ hexadecimal ∷ hexadecimal ∷ []) 0 m → First (0x5c ∷ 0x75 ∷ m)
    go (all_met p h f) =
        record {
          part = 0x5c ∷ 0x75 ∷ front 4 0 m;
          rest = drop 4 m;
          splits = ap (λ q. 0x5c ∷ 0x75 ∷ q) (front_splits 4 m p);
          is = Grammar.Char.unicode (hex_back _ h.0) (hex_back _ h.1.0) (hex_back _ h.1.1.0) (hex_back _ h.1.1.1.0);
        }
    go (failed n i p f) = never (sym (ap (unicode lone l) (f _ m (λ j k. refl))) ∙ e)

short_back : (b : ℕ) → eqb (short b) 0 ≡ false → escapable b ≡ true
unfolding short escapable either
short_back b e =
    by_test (eqb b 0x22) (λ h. rw (h, escapable, either))
    (λ n1. by_test (eqb b 0x5c) (λ h. rw (n1, h, escapable, either))
    (λ n2. by_test (eqb b 0x2f) (λ h. rw (n1, n2, h, escapable, either))
    (λ n3. by_test (eqb b 0x62) (λ h. rw (n1, n2, n3, h, escapable, either))
    (λ n4. by_test (eqb b 0x66) (λ h. rw (n1, n2, n3, n4, h, escapable, either))
    (λ n5. by_test (eqb b 0x6e) (λ h. rw (n1, n2, n3, n4, n5, h, escapable, either))
    (λ n6. by_test (eqb b 0x72) (λ h. rw (n1, n2, n3, n4, n5, n6, h, escapable, either))
    (λ n7. by_test (eqb b 0x74) (λ h. rw (n1, n2, n3, n4, n5, n6, n7, h, escapable, either))
    (λ n8. true-false (simp (n1, n2, n3, n4, n5, n6, n7, n8, short)) e))))))))

first-escape : (m : List ℕ) (x : Char) → escape lone (0x5c ∷ m) ≡ Character x → First (0x5c ∷ m)
unfolding escape short
first-escape [] x e = never e
first-escape (b ∷ q) x e =
    by_test (eqb b 0x75)
    (λ h. rw (eqb-true b 0x75 h) (first-unicode q x (0x5c ∷ b ∷ q) (rw (h, escape) at e)))
    (λ h. by_test (eqb (short b) 0) (λ i. never (rw (h, i, escape) at e))
    (λ i. record { part = 0x5c ∷ b ∷ []; rest = q; splits = refl; is = Grammar.Char.short (short_back b i) }))

-- every character
first_char : (b : ℕ) (m : List ℕ) (x : Char) → next lone (b ∷ m) ≡ Character x → First (b ∷ m)
unfolding next_by tail utf2 utf3 utf4 row within
first_char b m x e = go (lead b) refl (sym (next-by lone (b ∷ m)) ∙ e)
  where
    three-first : (lo hi : ℕ) → within lo hi 0 ≡ false → utf3 lo hi (b ∷ m) ≡ Character x
        → (Each (within lo hi ∷ tail ∷ []) 1 (b ∷ m) → Grammar.Char (front 3 0 (b ∷ m))) → First (b ∷ m)
    three-first lo hi s = row_first (char3 b (byte m 0) (byte m 1) 2) (within lo hi ∷ tail ∷ []) (s, (refl, tt)) (b ∷ m) (omega arith)

    four-first : (lo hi : ℕ) → within lo hi 0 ≡ false → utf4 lo hi (b ∷ m) ≡ Character x
        → (Each (within lo hi ∷ tail ∷ tail ∷ []) 1 (b ∷ m) → Grammar.Char (front 4 0 (b ∷ m))) → First (b ∷ m)
    four-first lo hi s = row_first (char4 b (byte m 0) (byte m 1) (byte m 2) 3) (within lo hi ∷ tail ∷ tail ∷ []) (s, (refl, (refl, tt))) (b ∷ m) (omega arith)

    go : (t : Lead) → lead b ≡ t → next_by lone (b ∷ m) t ≡ Character x → First (b ∷ m)
    go plain h i = record { part = b ∷ []; rest = m; splits = refl; is = Grammar.Char.utf1 (ranged b h) }
    go quote h i = no-quote i
    go backslash h i = rw (ranged b h) (first-escape m x (rw (ranged b h) at i))
    go wrong h i = never i
    go two h i =
        row_first (char2 b (byte m 0) 1) (tail ∷ []) (refl, tt) (b ∷ m) (omega arith)
        (by_test (tail (byte m 0)) (λ a. rw a) (λ a. rw a) ∙ i) (λ t. Grammar.Char.utf2 (ranged b h) t.0)
    go three_e0 h i = three-first 0xa0 0xbf refl i (λ t. rw (ranged b h) (Grammar.Char.utf3_e0 t.0 t.1.0))
    go three h i =
        three-first 0x80 0xbf refl i (λ t.
        ⊎_elim (λ w. Grammar.Char.utf3_e1 w t.0 t.1.0) (λ w. Grammar.Char.utf3_ee w t.0 t.1.0) (ranged b h))
    go three_ed h i = three-first 0x80 0x9f refl i (λ t. rw (ranged b h) (Grammar.Char.utf3_ed t.0 t.1.0))
    go four_f0 h i = four-first 0x90 0xbf refl i (λ t. rw (ranged b h) (Grammar.Char.utf4_f0 t.0 t.1.0 t.1.1.0))
    go four h i = four-first 0x80 0xbf refl i (λ t. Grammar.Char.utf4_f1 (ranged b h) t.0 t.1.0 t.1.1.0)
    go four_f4 h i = four-first 0x80 0x8f refl i (λ t. rw (ranged b h) (Grammar.Char.utf4_f4 t.0 t.1.0 t.1.1.0))

-- a string up to its closing quote, in a text of at most n bytes
abbrev Closed : List ℕ → List ℕ → Type 0
Closed l r = (s : List ℕ) × (l ≡ s ++ (0x22 ∷ r)) × Chars s

char-long : {s : List ℕ} → Grammar.Char s → 0 < length s
char-long (Grammar.Char.utf1 u) = omega arith
char-long (Grammar.Char.utf2 u t) = omega arith
char-long (Grammar.Char.utf3_e0 u t) = omega arith
char-long (Grammar.Char.utf3_e1 h u t) = omega arith
char-long (Grammar.Char.utf3_ed u t) = omega arith
char-long (Grammar.Char.utf3_ee h u t) = omega arith
char-long (Grammar.Char.utf4_f0 u t v) = omega arith
char-long (Grammar.Char.utf4_f1 h u t v) = omega arith
char-long (Grammar.Char.utf4_f4 u t v) = omega arith
char-long (Grammar.Char.short h) = omega arith
char-long (Grammar.Char.unicode h i j k) = omega arith

closed-more : {l r : List ℕ} (f : First l) → Closed f.rest r → Closed l r
closed-more {l} {r} f c =
    (f.part ++ c.0, f.splits ∙ ap (λ (m : List ℕ). f.part ++ m) c.1 ∙ sym (append_assoc f.part c.0 (0x22 ∷ r)), Chars.then f.is c.2)

step : (n : ℕ) → ((l y r : List ℕ) → length l ≤ n → string lone 0 l ≡ done y r → Closed l r) → (l y r : List ℕ) → length l ≤ suc n
    → string lone 0 l ≡ done y r → Closed l r
step n ih [] y r h e = bad-done (sym (string-empty lone 0) ∙ e)
step n ih (b ∷ l) y r h e = go (next lone (b ∷ l)) refl
  where
    go : (o : Next) → next lone (b ∷ l) ≡ o → Closed (b ∷ l) r
    go Quote i =
        ([], ap (λ (c : ℕ). c ∷ l) (quote-byte lone b l i) ∙ ap (λ (m : List ℕ). 0x22 ∷ m) (done-rest (sym (string-quote lone b l i) ∙ e)), Chars.end)
    go (Fault k m) i = bad-done (sym (string-fault lone b l i) ∙ e)
    go (Character x) i =
        let f = first_char b l x i in
        let same : bare (string lone 0 f.rest) ≡ done tt r =
        sym (char_passed f.is f.rest) ∙ ap (λ (m : List ℕ). bare (string lone 0 m)) (sym f.splits) ∙ made_reads (λ z. tt) e in
        let p = made-done (λ z. tt) (string lone 0 f.rest) tt r same in
        closed-more f (ih f.rest p.0 r (omega (arith, ap length f.splits, length-append f.part f.rest, char-long f.is)) p.1)

nothing_left : (l y r : List ℕ) → length l ≤ 0 → string lone 0 l ≡ done y r → Closed l r
nothing_left [] y r h e = bad-done (sym (string-empty lone 0) ∙ e)
nothing_left (b ∷ l) y r h e = absurd (omega arith)

found : (n : ℕ) (l y r : List ℕ) → length l ≤ n → string lone 0 l ≡ done y r → Closed l r
found zero = nothing_left
found (suc n) = step n (found n)

pub string-found : (l y r : List ℕ) → string lone 0 l ≡ done y r → (s : List ℕ) × (l ≡ s ++ (0x22 ∷ r)) × Chars s
string-found l y r e = found (length l) l y r (omega arith) e
