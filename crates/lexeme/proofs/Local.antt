-- What one character of a string depends on: the bytes that it takes; and for a high surrogate escape, whether a low one follows.
-- `next` looks at bytes from left to right and goes on only from a byte that fits, so each answer is decided by the bytes up to its last.
use mathlib.Core.Bool.{Bool, true, false}
use mathlib.Core.List.{List, [], ◌∷◌}
use mathlib.Core.Path.{◌≡◌, refl, sym, ap, subst, ◌∙◌}
use Prim.Native.Nat.{ℕ, ◌+◌, ◌-◌, ◌≤◌, ◌<◌}
use native.Mathlib.Omega.{arith}
use lib.ListN.{length, drop, length-drop}
use lib.Seq.{get_or-drop}
use lib.Dec.{eqb, ltb}
use borrow.Author.Tests.{eqb-true, ltb-true, ltb-false, lt-leb}
use Rattle.word.specs.Kinds.{not_json, unpaired}
use Rattle.lexeme.specs.declared.Char.{Char}
use Rattle.lexeme.specs.declared.Next.{Next}
use Rattle.lexeme.specs.declared.Next.TheVariants.{Quote, Character, Fault}
use Rattle.notation.specs.Choice.{◌⇒◌else◌}
use Rattle.notation.proofs.Booleans.{by_test, true-false}
use Rattle.lexeme.specs.Character.{Surrogates, byte, within, char2, char3, char4, utf2, utf3, utf4, encoded, hex_value, hexadecimal, quad, low_of, trail, combined, alone, high, unit, unicode, short, escape, next}
use Rattle.lexeme.specs.inner.Lead.{Lead, lead, next_by}
use Rattle.lexeme.specs.Character.Surrogates.{paired, lone}
use Rattle.lexeme.specs.inner.Lead.Lead.{plain, quote, backslash, wrong, two, three_e0, three, three_ed, four_f0, four, four_f4}
use Rattle.lexeme.proofs.Leads.{next-by, next_led}
use Rattle.lexeme.proofs.Rows.{here, passed, row, Strict, Decided, all_met, failed, decided}
use Rattle.std.specs.Prelude.{Result, Option, Ok, Err, Some, None}

-- l and m have the same bytes up to the one at n
abbrev pub Agree : ℕ → List ℕ → List ℕ → Type 0
Agree n l m = (i : ℕ) → i ≤ n → byte l i ≡ byte m i

agree_drop : (k n : ℕ) (l m : List ℕ) → Agree (k + n) l m → Agree n (drop k l) (drop k m)
agree_drop k n l m g i h = get_or-drop k l i 0 ∙ g (k + i) (omega arith) ∙ sym (get_or-drop k m i 0)

-- the answer o of f at l rests on the bytes that it took, or on those up to the fault, and all of them are in the text
abbrev pub Near : (List ℕ → Next) → List ℕ → Next → Type 0
Near f l Quote = byte l 0 ≡ 0x22
Near f l (Character x) = (x.more < length l) × ((m : List ℕ) → Agree x.more l m → f m ≡ Character x)
Near f l (Fault k n) = (n ≤ length l) × (k ≡ not_json → (m : List ℕ) → Agree n l m → f m ≡ Fault k n)

-- an answer to a high surrogate escape
abbrev pub Far : Next → Type 0
Far Quote = ⊥
Far (Character x) = 5 ≤ x.more
Far (Fault k n) = k ≡ unpaired

pub data Way (ρ : Surrogates) (f : List ℕ → Next) (l : List ℕ) (o : Next) : Type 0 where
  near : Near f l o → Way ρ f l o
  far : (v : ℕ) → Far o → 5 < length l → ((m : List ℕ) → Agree 5 l m → f m ≡ high ρ v (trail (drop 6 m))) → Way ρ f l o

-- a character that takes `more` bytes after its first
abbrev pub Spans : ℕ → Next → Type 0
Spans more Quote = ⊥
Spans more (Character x) = x.more ≡ more
Spans more (Fault k n) = ⊥

spans_near : (f : List ℕ → Next) (l : List ℕ) {t : ℕ} (o : Next) → Spans t o → t < length l → ((m : List ℕ) → Agree t l m → f m ≡ o) → Near f l o
spans_near f l Quote s there h = absurd s
spans_near f l (Character x) s there h = (rw s there, λ m g. h m (rw s at g))
spans_near f l (Fault k n) s there h = absurd s

-- UTF-8: a character of its first byte and of those that meet the tests
module _ (f : List ℕ → Next) (l : List ℕ) (some : 0 < length l) where
  row_near : (ts : List (ℕ → Bool)) → Strict ts → (char : List ℕ → Next) → Spans (length ts) (char l)
      → ((m : List ℕ) → Agree (length ts) l m → char m ≡ char l)
      → ((m : List ℕ) → byte l 0 ≡ byte m 0 → f m ≡ row (Fault not_json) ts 1 (char m) m) → Near f l (row (Fault not_json) ts 1 (char l) l)
  row_near ts s char spans same h = go (decided (Fault not_json) ts s 1 l (omega arith))
    where
      go : Decided (Fault not_json) ts 1 l → Near f l (row (Fault not_json) ts 1 (char l) l)
      go (all_met p each e) =
          rw (e (char l) l (λ j k. refl))
          (spans_near f l (char l) spans (omega arith) (λ m g. h m (g 0 (omega arith)) ∙ e (char m) m (λ j k. g j (omega arith)) ∙ same m g))
      go (failed n i p e) = rw (e (char l) l (λ j k. refl)) (p, λ k m g. h m (g 0 (omega arith)) ∙ e (char m) m g)

  utf2-near : ((m : List ℕ) → byte l 0 ≡ byte m 0 → f m ≡ utf2 m) → Near f l (utf2 l)
  unfolding utf2 row within
  utf2-near h =
      subst (Near f l) (is l)
      (row_near (within 0x80 0xbf ∷ []) (refl, tt) (λ m. char2 (byte m 0) (byte m 1) 1) refl (λ m g. rw (g 0 (omega arith), g 1 (omega arith))) (λ m g. h m g ∙ sym (is m)))
    where
      is : (m : List ℕ) → row (Fault not_json) (within 0x80 0xbf ∷ []) 1 (char2 (byte m 0) (byte m 1) 1) m ≡ utf2 m
      is m = by_test (within 0x80 0xbf (byte m 1)) (λ a. rw a) (λ a. rw a)

  module _ (lo hi : ℕ) (from : 0 < lo) where
    utf3-near : ((m : List ℕ) → byte l 0 ≡ byte m 0 → f m ≡ utf3 lo hi m) → Near f l (utf3 lo hi l)
    unfolding utf3 row within
    utf3-near =
        row_near (within lo hi ∷ within 0x80 0xbf ∷ []) (rw (lt-leb lo 0 from), (refl, tt)) (λ m. char3 (byte m 0) (byte m 1) (byte m 2) 2) refl
        (λ m g. rw (g 0 (omega arith), g 1 (omega arith), g 2 (omega arith)))

    utf4-near : ((m : List ℕ) → byte l 0 ≡ byte m 0 → f m ≡ utf4 lo hi m) → Near f l (utf4 lo hi l)
    unfolding utf4 row within
    utf4-near =
        row_near (within lo hi ∷ within 0x80 0xbf ∷ within 0x80 0xbf ∷ []) (rw (lt-leb lo 0 from), (refl, (refl, tt)))
        (λ m. char4 (byte m 0) (byte m 1) (byte m 2) (byte m 3) 3) refl (λ m g. rw (g 0 (omega arith), g 1 (omega arith), g 2 (omega arith), g 3 (omega arith)))

-- the UTF-8 of a code point takes what its escape takes
pub record Encoded (v more : ℕ) : Type 0 where
  pub char : Char
  pub is : encoded v more ≡ Character char
  pub takes : char.more ≡ more

pub encoded_spans : (v more : ℕ) → Spans more (encoded v more)
unfolding encoded
encoded_spans v more =
    by_test (ltb v 0x80) (λ a. rw a refl) λ a.
    by_test (ltb v 0x800) (λ b. rw (a, b) refl) λ b.
    by_test (ltb v 0x10000) (λ c. rw (a, b, c) refl) λ c. rw (a, b, c) refl

pub encoded-char : (v more : ℕ) → Encoded v more
encoded-char v more = go (encoded v more) refl (encoded_spans v more)
  where
    go : (o : Next) → encoded v more ≡ o → Spans more o → Encoded v more
    go Quote e s = absurd s
    go (Character x) e s = record { char = x; is = e; takes = s }
    go (Fault k n) e s = absurd s

encoded-near : (f : List ℕ → Next) (l : List ℕ) (v t : ℕ) → t < length l → ((m : List ℕ) → Agree t l m → f m ≡ encoded v t) → Near f l (encoded v t)
encoded-near f l v t = spans_near f l (encoded v t) (encoded_spans v t)

-- escapes
abbrev pub QuadNear : List ℕ → Result ℕ ℕ → Type 0
QuadNear l (Ok v) = (4 ≤ length l) × ((m : List ℕ) → Agree 3 l m → quad m ≡ Ok v)
QuadNear l (Err n) = (n ≤ length l) × ((m : List ℕ) → Agree n l m → quad m ≡ Err n)

pub quad-near : (l : List ℕ) → QuadNear l (quad l)
unfolding quad row hexadecimal hex_value within
quad-near l = go (decided {A = Result ℕ ℕ} Err (hexadecimal ∷ hexadecimal ∷ hexadecimal ∷ hexadecimal ∷ []) (refl, (refl, (refl, (refl, tt)))) 0 l (omega arith))
  where
    go : Decided {A = Result ℕ ℕ} Err (hexadecimal ∷ hexadecimal ∷ hexadecimal ∷ hexadecimal ∷ []) 0 l → QuadNear l (quad l)
    go (all_met p each e) =
        rw (e _ l (λ j k. refl))
        (p, λ m g. e _ m (λ j k. g j (omega arith)) ∙ rw (g 0 (omega arith), g 1 (omega arith), g 2 (omega arith), g 3 (omega arith)))
    go (failed n i p e) = rw (e _ l (λ j k. refl)) (p, λ m g. e _ m g)

encoded_far : (v t : ℕ) → 5 ≤ t → Far (encoded v t)
encoded_far v t h = let c = encoded-char v t in rw c.is (rw c.takes h)

high_far : (ρ : Surrogates) (v : ℕ) (t : Option ℕ) → Far (high ρ v t)
unfolding high alone
high_far paired v None = refl
high_far lone v None = encoded_far v 5 (omega arith)
high_far paired v (Some w) = encoded_far (combined v w) 11 (omega arith)
high_far lone v (Some w) = encoded_far (combined v w) 11 (omega arith)

no_short : eqb (short 0) 0 ≡ true
unfolding short
no_short = refl

-- only a quote is read as one
pub choice : {A : Type 0} (P : A → Type 0) (t : Bool) {x y : A} → P x → P y → P (t ⇒ x else y)
choice P true h i = h
choice P false h i = i

abbrev Quoted : ℕ → Lead → Type 0
Quoted b plain = Unit {0}
Quoted b quote = b ≡ 0x22
Quoted b backslash = Unit {0}
Quoted b wrong = Unit {0}
Quoted b two = Unit {0}
Quoted b three_e0 = Unit {0}
Quoted b three = Unit {0}
Quoted b three_ed = Unit {0}
Quoted b four_f0 = Unit {0}
Quoted b four = Unit {0}
Quoted b four_f4 = Unit {0}

quoted : (b : ℕ) → Quoted b (lead b)
unfolding lead
quoted b =
    by_test (eqb b 0x22) (λ a. rw a (eqb-true b 0x22 a)) λ a. rw a
    (choice (Quoted b) (eqb b 0x5c) tt
    (choice (Quoted b) (ltb b 0x20) tt
    (choice (Quoted b) (ltb b 0x80) tt
    (choice (Quoted b) (ltb b 0xc2) tt
    (choice (Quoted b) (ltb b 0xe0) tt
    (choice (Quoted b) (eqb b 0xe0) tt
    (choice (Quoted b) (eqb b 0xed) tt
    (choice (Quoted b) (ltb b 0xf0) tt
    (choice (Quoted b) (eqb b 0xf0) tt
    (choice (Quoted b) (ltb b 0xf4) tt
    (choice (Quoted b) (eqb b 0xf4) tt tt)))))))))))

module _ (ρ : Surrogates) (f : List ℕ → Next) (l : List ℕ) where
  alone-near : (v : ℕ) → 5 < length l → ((m : List ℕ) → Agree 5 l m → f m ≡ alone ρ v) → Near f l (alone ρ v)
  unfolding alone
  alone-near v there h = go ρ refl
    where
      go : (σ : Surrogates) → ρ ≡ σ → Near f l (alone σ v)
      go paired e = (omega arith, λ k. absurd (omega arith))
      go lone e = encoded-near f l v 5 there (λ m g. h m g ∙ ap (λ σ. alone σ v) e)

  unit-way : (v : ℕ) → 5 < length l → ((m : List ℕ) → Agree 5 l m → f m ≡ unit ρ m v) → Way ρ f l (unit ρ l v)
  unfolding unit
  unit-way v there h =
      by_test (within 0xdc00 0xdfff v) (λ a. rw a (near (alone-near v there (λ m g. h m g ∙ rw a)))) λ a.
      by_test (within 0xd800 0xdbff v) (λ b. rw (a, b) (far v (high_far ρ v (trail (drop 6 l))) there (λ m g. h m g ∙ rw (a, b)))) λ b.
      rw (a, b) (near (encoded-near f l v 5 there (λ m g. h m g ∙ rw (a, b))))

  unicode-way : 1 < length l → ((m : List ℕ) → Agree 1 l m → f m ≡ unicode ρ m (quad (drop 2 m))) → Way ρ f l (unicode ρ l (quad (drop 2 l)))
  unfolding unicode
  unicode-way there h = go (quad (drop 2 l)) refl (quad-near (drop 2 l))
    where
      go : (d : Result ℕ ℕ) → quad (drop 2 l) ≡ d → QuadNear (drop 2 l) d → Way ρ f l (unicode ρ l d)
      go (Err n) e s =
          let j : n ≤ length l - 2 = simp length-drop at s.0 in
          near (omega arith, λ k m g. h m (λ i p. g i (omega arith)) ∙ ap (unicode ρ m) (s.1 (drop 2 m) (agree_drop 2 n l m (λ i p. g i (omega arith)))))
      go (Ok v) e s =
          let j : 4 ≤ length l - 2 = simp length-drop at s.0 in
          unit-way v (omega arith) (λ m g. h m (λ i p. g i (omega arith)) ∙ ap (unicode ρ m) (s.1 (drop 2 m) (agree_drop 2 3 l m g)))

  escape-way : 0 < length l → ((m : List ℕ) → byte l 0 ≡ byte m 0 → f m ≡ escape ρ m) → Way ρ f l (escape ρ l)
  unfolding escape
  escape-way some h =
      by_test (eqb (byte l 1) 0x75)
      (λ a. rw a (unicode-way (passed (λ b. eqb b 0x75) refl l 1 a) (λ m g. h m (g 0 (omega arith)) ∙ rw (← g 1 (omega arith), a)))) λ a.
      by_test (eqb (short (byte l 1)) 0)
      (λ b. rw (a, b) (near (some, λ k m g. h m (g 0 (omega arith)) ∙ rw (← g 1 (omega arith), a, b))))
      (λ b. rw (a, b) (near (here l 1 (λ z. true-false (ap (λ c. eqb (short c) 0) z ∙ no_short) b), λ m g. h m (g 0 (omega arith)) ∙ rw (← g 1 (omega arith), a, b))))

pub next_way : (ρ : Surrogates) (l : List ℕ) → 0 < length l → Way ρ (next ρ) l (next ρ l)
unfolding next_by
next_way ρ l some = subst (Way ρ (next ρ) l) (sym (next-by ρ l)) (go (lead (byte l 0)) refl)
  where
    led : (t : Lead) → lead (byte l 0) ≡ t → (m : List ℕ) → byte l 0 ≡ byte m 0 → next ρ m ≡ next_by ρ m t
    led t e m g = next_led ρ m (ap lead (sym g) ∙ e)

    go : (t : Lead) → lead (byte l 0) ≡ t → Way ρ (next ρ) l (next_by ρ l t)
    go plain e = near (some, λ m g. led plain e m (g 0 (omega arith)) ∙ rw (← g 0 (omega arith)))
    go quote e = near (subst (Quoted (byte l 0)) e (quoted (byte l 0)))
    go backslash e = escape-way ρ (next ρ) l some (led backslash e)
    go wrong e = near (omega arith, λ k m g. led wrong e m (g 0 (omega arith)))
    go two e = near (utf2-near (next ρ) l some (led two e))
    go three_e0 e = near (utf3-near (next ρ) l some 0xa0 0xbf (omega arith) (led three_e0 e))
    go three e = near (utf3-near (next ρ) l some 0x80 0xbf (omega arith) (led three e))
    go three_ed e = near (utf3-near (next ρ) l some 0x80 0x9f (omega arith) (led three_ed e))
    go four_f0 e = near (utf4-near (next ρ) l some 0x90 0xbf (omega arith) (led four_f0 e))
    go four e = near (utf4-near (next ρ) l some 0x80 0xbf (omega arith) (led four e))
    go four_f4 e = near (utf4-near (next ρ) l some 0x80 0x8f (omega arith) (led four_f4 e))

-- Bytes at which the search for a low surrogate escape ends: none of an escape's. Past the end of the text, and at the closing quote, it does.
abbrev pub Halts : ℕ → Type 0
Halts b = (eqb b 0x5c ≡ false) × (eqb b 0x75 ≡ false) × (hexadecimal b ≡ false)

pub halts_end : Halts 0
unfolding hexadecimal hex_value within
halts_end = (refl, refl, refl)

pub halts_quote : Halts 0x22
unfolding hexadecimal hex_value within
halts_quote = (refl, refl, refl)

-- l and m have the same bytes below n, and there the search ends in both
pub record Same (n : ℕ) (l m : List ℕ) : Type 0 where
  pub below : (i : ℕ) → i < n → byte l i ≡ byte m i
  pub left : Halts (byte l n)
  pub right : Halts (byte m n)

same_drop : (k n : ℕ) (l m : List ℕ) → k ≤ n → Same n l m → Same (n - k) (drop k l) (drop k m)
same_drop k n l m h s =
    let j : k + (n - k) ≡ n = omega arith in
    record {
      below = λ i p. get_or-drop k l i 0 ∙ s.below (k + i) (omega arith) ∙ sym (get_or-drop k m i 0);
      left = rw (get_or-drop k l (n - k) 0, j) s.left;
      right = rw (get_or-drop k m (n - k) 0, j) s.right;
    }

-- a test that fails where the search ends is the same in both; and where it holds, the search goes on
module _ (test : ℕ → Bool) {n : ℕ} {l m : List ℕ} (s : Same n l m) (left : test (byte l n) ≡ false) (right : test (byte m n) ≡ false) where
  test_on : (i : ℕ) → i ≤ n → test (byte l i) ≡ true → i < n
  test_on i h e = by_test (ltb i n) (ltb-true i n) (λ f.
      let p : n ≤ i = ltb-false i n f in let j : i ≡ n = omega arith in
      true-false e (ap (λ z. test (byte l z)) j ∙ left))

  test_same : (i : ℕ) → i ≤ n → test (byte l i) ≡ test (byte m i)
  test_same i h = by_test (ltb i n) (λ f. ap test (s.below i (ltb-true i n f))) (λ f.
      let p : n ≤ i = ltb-false i n f in let j : i ≡ n = omega arith in
      rw (j, left, right))

quad-same : (n : ℕ) (l m : List ℕ) → Same n l m → quad l ≡ quad m
unfolding quad
quad-same n l m s =
    let same = test_same hexadecimal s s.left.2 s.right.2 in let on = test_on hexadecimal s s.left.2 s.right.2 in
    let e0 = same 0 (omega arith) in
    by_test (hexadecimal (byte l 0)) (λ a. let p : 0 < n = on 0 (omega arith) a in let e1 = same 1 p in
    by_test (hexadecimal (byte l 1)) (λ b. let q : 1 < n = on 1 p b in let e2 = same 2 q in
    by_test (hexadecimal (byte l 2)) (λ c. let r : 2 < n = on 2 q c in let e3 = same 3 r in
    by_test (hexadecimal (byte l 3)) (λ d. let t : 3 < n = on 3 r d in
    rw (s.below 0 p, s.below 1 q, s.below 2 r, s.below 3 t))
    (λ d. rw (← e0, ← e1, ← e2, ← e3, a, b, c, d)))
    (λ c. rw (← e0, ← e1, ← e2, a, b, c)))
    (λ b. rw (← e0, ← e1, a, b)))
    (λ a. rw (← e0, a))

trail-same : (n : ℕ) (l m : List ℕ) → Same n l m → trail l ≡ trail m
unfolding trail
trail-same n l m s =
    let e0 = test_same (λ b. eqb b 0x5c) s s.left.0 s.right.0 0 (omega arith) in
    by_test (eqb (byte l 0) 0x5c) (λ a. let p : 0 < n = test_on (λ b. eqb b 0x5c) s s.left.0 s.right.0 0 (omega arith) a in
    let e1 = test_same (λ b. eqb b 0x75) s s.left.1 s.right.1 1 p in
    by_test (eqb (byte l 1) 0x75) (λ b. let q : 1 < n = test_on (λ b. eqb b 0x75) s s.left.1 s.right.1 1 p b in
    rw (← e0, ← e1, a, b) (ap low_of (quad-same (n - 2) (drop 2 l) (drop 2 m) (same_drop 2 n l m q s))))
    (λ b. rw (← e0, ← e1, a, b)))
    (λ a. rw (← e0, a))

-- so a character is read the same where the text up to it is the same, and the search for a low surrogate escape ends at the same place
pub character-same : (ρ : Surrogates) (n : ℕ) (l m : List ℕ) (x : Char) → 0 < length l → next ρ l ≡ Character x → x.more < n → Same n l m → next ρ m ≡ Character x
character-same ρ n l m x some e h s = go (subst (Way ρ (next ρ) l) e (next_way ρ l some))
  where
    go : Way ρ (next ρ) l (Character x) → next ρ m ≡ Character x
    go (near w) = w.1 m (λ i p. s.below i (omega arith))
    go (far v f there w) =
        w m (λ i p. s.below i (omega arith))
        ∙ ap (high ρ v) (sym (trail-same (n - 6) (drop 6 l) (drop 6 m) (same_drop 6 n l m (omega arith) s)))
        ∙ sym (w l (λ i p. refl)) ∙ e

-- a low surrogate escape is told by its six bytes
trail-near : (l m : List ℕ) (w : ℕ) → trail l ≡ Some w → Agree 5 l m → trail m ≡ Some w
unfolding trail low_of
trail-near l m w e g =
    by_test (eqb (byte l 0) 0x5c)
    (λ a. by_test (eqb (byte l 1) 0x75)
    (λ b. go (quad (drop 2 l)) refl (quad-near (drop 2 l)) a b)
    (λ b. let f : None ≡ Some w = rw (trail, a, b) at e in let z : ◌≡◌ {A = ℕ} 0 1 = cc in absurd (omega arith)))
    (λ a. let f : None ≡ Some w = rw (trail, a) at e in let z : ◌≡◌ {A = ℕ} 0 1 = cc in absurd (omega arith))
  where
    later : Agree 3 (drop 2 l) (drop 2 m)
    later i h = get_or-drop 2 l i 0 ∙ g (2 + i) (omega arith) ∙ sym (get_or-drop 2 m i 0)

    go : (v : Result ℕ ℕ) → quad (drop 2 l) ≡ v → QuadNear (drop 2 l) v → eqb (byte l 0) 0x5c ≡ true → eqb (byte l 1) 0x75 ≡ true → trail m ≡ Some w
    go (Err n) i s a b = let f : None ≡ Some w = rw (trail, a, b, i) at e in let z : ◌≡◌ {A = ℕ} 0 1 = cc in absurd (omega arith)
    go (Ok v) i s a b =
        let f : low_of (Ok v) ≡ Some w = rw (trail, a, b, i) at e in
        rw (← g 0 (omega arith), ← g 1 (omega arith), a, b, s.1 (drop 2 m) later) f

-- a character is told by the bytes that it takes
pub character-near : (l m : List ℕ) (x : Char) → 0 < length l → next paired l ≡ Character x → Agree x.more l m → next paired m ≡ Character x
unfolding high alone
character-near l m x some e g = go (subst (Way paired (next paired) l) e (next_way paired l some))
  where
    go : Way paired (next paired) l (Character x) → next paired m ≡ Character x
    go (near w) = w.1 m g
    go (far v f there w) = pair (trail (drop 6 l)) refl
      where
        is : (t : Option ℕ) → trail (drop 6 l) ≡ t → high paired v t ≡ Character x
        is t i = ap (high paired v) (sym i) ∙ sym (w l (λ k p. refl)) ∙ e

        pair : (t : Option ℕ) → trail (drop 6 l) ≡ t → next paired m ≡ Character x
        pair None i = let z : ◌≡◌ {A = ℕ} 0 1 = cc (is None i) in absurd (omega arith)
        pair (Some z) i =
            let n : x.more ≡ 11 = subst (Spans 11) (is (Some z) i) (encoded_spans (combined v z) 11) in
            w m (λ k p. g k (omega arith))
            ∙ ap (high paired v) (trail-near (drop 6 l) (drop 6 m) z i (λ k p. get_or-drop 6 l k 0 ∙ g (6 + k) (omega arith) ∙ sym (get_or-drop 6 m k 0)))
            ∙ is (Some z) i

-- only a quote ends a string
pub quote-byte : (ρ : Surrogates) (b : ℕ) (l : List ℕ) → next ρ (b ∷ l) ≡ Quote → b ≡ 0x22
quote-byte ρ b l e = go (subst (Way ρ (next ρ) (b ∷ l)) e (next_way ρ (b ∷ l) (omega arith)))
  where
    go : Way ρ (next ρ) (b ∷ l) Quote → b ≡ 0x22
    go (near w) = w
    go (far v f there w) = absurd f
