-- A whole value that is no object has no members: where the first could stand, no quotation mark does, but in an array, whose items no colon follows,
-- and at the end of a string, behind which nothing stands.
use mathlib.Core.Bool.{true, false}
use mathlib.Core.List.{List, [], ◌∷◌, ◌++◌, append-nil}
use mathlib.Core.Logic.{⊎_elim}
use mathlib.Core.Path.{◌≡◌, refl, sym, ap, ◌∙◌}
use Prim.Native.Nat.{ℕ}
use native.Mathlib.Omega.{arith}
use lib.Dec.{eqb}
use lib.ListN.{length, drop}
use borrow.Author.Tests.{eqb-true}
use Rattle.limits.specs.Ceilings.{depth}
use Rattle.notation.proofs.Booleans.{by_test, true-false}
use Rattle.notation.proofs.Lists.{no_cons}
use Rattle.lexeme.specs.Read.{made}
use Rattle.lexeme.specs.Read.Read.{done}
use Rattle.lexeme.specs.Character.{paired, byte, within}
use Rattle.lexeme.specs.Numbers.{digit, either, digits, optional, both, nothing, integer, minus, fraction, exponent, number}
use Rattle.lexeme.specs.Strings as Strings
use Rattle.lexeme.specs.Tokens.{blank, blanks}
use Rattle.lexeme.specs.inner.Start.{Start, start}
use Rattle.lexeme.proofs.Reading.{numeric, stops}
use Rattle.lexeme.proofs.Starts.{blank_stops, object-byte}
use Rattle.lexeme.proofs.Steps.{bad-done, done-rest, string-empty, blanks_pass, blanks_stop, some_digits-more, some_digits-none, integer-zero, integer-digits, optional-there, optional-absent, both-reads}
use Rattle.lexeme.proofs.StrongPrefixes.{both-done, no_digit, number_takes}
use Rattle.json_text.specs.Tree.{Json, Members}
use Rattle.json_text.specs.Text.{expect, value}
use Rattle.json_text.proofs.Steps.{expect-end, expect-here, expect-other}
use Rattle.json_text.proofs.Spellings.{expect-done}
use Rattle.walk.specs.declared.ValueKind.TheVariants as kind
use Rattle.walk.specs.Walk.{member_at, members_of}
use Rattle.walk.specs.Part.{Whole, kind_of}
use Rattle.walk.specs.inner.Kind.{kind_from, kind_at}
use Rattle.walk.specs.inner.Skip.{quoted, skipped}
use Rattle.walk.specs.inner.Along.{AlongItems}
use Rattle.walk.proofs.Quotes.{apart, itself, quoted-mark, quoted_itself, string-quoted}
use Rattle.walk.proofs.Skips.{skipped-string, skip-value}
use Rattle.walk.proofs.Steps.{member_unnamed, member-from}
use Rattle.walk.proofs.Folds.{member_steps}
use Rattle.walk.proofs.Wholes.{whole-kind, whole-null, whole_word, number_read, string-read}
use Rattle.walk.proofs.Along.{along-item}
use Rattle.std.specs.Prelude.{None}

-- what begins with another byte than a quotation mark begins no member
unmarked : (p : List ℕ) (c : ℕ) (m : List ℕ) → blanks (drop 1 p) ≡ c ∷ m → eqb c 0x22 ≡ false → member_at p 1 ≡ None
unfolding member_at
unmarked p c m e h = member_unnamed p (blanks (drop 1 p)) (ap (expect 0x22 (Strings.string paired 0)) e ∙ expect-other 0x22 _ c m h)

unbegun : (p : List ℕ) → blanks (drop 1 p) ≡ [] → member_at p 1 ≡ None
unfolding member_at
unbegun p e = member_unnamed p (blanks (drop 1 p)) (ap (expect 0x22 (Strings.string paired 0)) e ∙ expect-end 0x22 _)

second : (p : List ℕ) (c : ℕ) (m : List ℕ) → drop 1 p ≡ c ∷ m → blank c ≡ false → eqb c 0x22 ≡ false → member_at p 1 ≡ None
second p c m e b h = unmarked p c m (ap blanks e ∙ blanks_stop c m b) h

-- the second byte of a number goes on with it: a digit is a number by itself, and behind a minus stands one
one-digit : (b : ℕ) → digit b ≡ true → number (b ∷ []) ≡ done (b ∷ []) []
unfolding number minus fraction exponent optional digits made digit within
one-digit b h =
    both-reads minus (both integer (both fraction exponent)) (b ∷ []) (optional-absent b (λ c. eqb c 0x2d) nothing [] (apart digit 0x2d refl b h))
    ∙ ap (made (λ (y : List ℕ). y))
    (both-reads integer (both fraction exponent) (b ∷ []) alone ∙ ap (made (λ (y : List ℕ). b ∷ y)) (both-reads fraction exponent [] {x = []} {q = []} refl))
  where
    alone : integer (b ∷ []) ≡ done (b ∷ []) []
    alone = by_test (eqb b 0x30) (λ t. integer-zero b [] t) (λ t. integer-digits b [] t ∙ some_digits-more b [] h)

no-integer : (b : ℕ) (l : List ℕ) → digit b ≡ false → {x r : List ℕ} → integer (b ∷ l) ≡ done x r → ⊥
unfolding digit within
no-integer b l h e =
    by_test (eqb b 0x30) (λ t. true-false (ap digit (eqb-true b 0x30 t)) h) (λ t. bad-done (sym (integer-digits b l t ∙ some_digits-none b l h) ∙ e))

goes_on : (b c : ℕ) (m s : List ℕ) → number (b ∷ c ∷ m) ≡ done s [] → numeric c ≡ true
unfolding number minus nothing made
goes_on b c m s e = by_test (numeric c) (λ t. t) (λ n. by_test (digit b) (digital n) (other n))
  where
    digital : numeric c ≡ false → digit b ≡ true → numeric c ≡ true
    digital n h =
        let t = number_takes (b ∷ []) [] (b ∷ []) (one-digit b h) in
        let i : b ∷ [] ≡ t.part = t.splits ∙ append-nil t.part in
        no_cons (done-rest (sym e ∙ ap (λ (l : List ℕ). number (l ++ (c ∷ m))) i ∙ t.frame (c ∷ m) (stops n)))

    other : numeric c ≡ false → digit b ≡ false → numeric c ≡ true
    other n h =
        let a = both-done minus (both integer (both fraction exponent)) (b ∷ c ∷ m) s [] e in
        let i = both-done integer (both fraction exponent) a.1 a.2 [] a.4 in
        by_test (eqb b 0x2d)
        (λ t. absurd (no-integer c m (no_digit c n) (ap integer (done-rest (sym (optional-there b _ nothing (c ∷ m) t) ∙ a.3)) ∙ i.3)))
        (λ t. absurd (no-integer b (c ∷ m) h (ap integer (done-rest (sym (optional-absent b _ nothing (c ∷ m) t) ∙ a.3)) ∙ i.3)))

number-next : (c : ℕ) → numeric c ≡ true → (blank c ≡ false) × (eqb c 0x22 ≡ false)
unfolding numeric digit within either
number-next c h = (by_test (blank c) (λ t. true-false h (blank_stops c t)) (λ t. t), apart numeric 0x22 refl c h)

numberless : (p s : List ℕ) → number p ≡ done s [] → member_at p 1 ≡ None
unfolding blanks
numberless [] s e = unbegun [] refl
numberless (b ∷ []) s e = unbegun (b ∷ []) refl
numberless (b ∷ c ∷ m) s e = let k = number-next c (goes_on b c m s e) in second (b ∷ c ∷ m) c m refl k.0 k.1

-- a string goes on behind its blanks as it does before them
quoted-blanks : (l : List ℕ) → quoted false l ≡ quoted false (blanks l)
unfolding blank either blanks
quoted-blanks [] = refl
quoted-blanks (b ∷ l) =
    let ih = quoted-blanks l in
    by_test (blank b) (λ h. quoted_itself l b (itself blank refl refl b h) ∙ ih ∙ ap (quoted false) (sym (blanks_pass b l h)))
    (λ h. ap (quoted false) (sym (blanks_stop b l h)))

stringless : (p y : List ℕ) → Strings.string paired 0 (drop 1 p) ≡ done y [] → member_at p 1 ≡ None
unfolding member_at
stringless p y e = go (blanks (drop 1 p)) refl
  where
    go : (l : List ℕ) → blanks (drop 1 p) ≡ l → member_at p 1 ≡ None
    go [] h = unbegun p h
    go (b ∷ m) h =
        by_test (eqb b 0x22)
        (λ t.
        let none : m ≡ [] =
        sym (quoted-mark m (eqb-true b 0x22 t)) ∙ ap (quoted false) (sym h) ∙ sym (quoted-blanks (drop 1 p)) ∙ string-quoted (drop 1 p) y [] e in
        member_unnamed p (blanks (drop 1 p))
        (ap (expect 0x22 (Strings.string paired 0)) h ∙ expect-here 0x22 _ b m t ∙ ap (Strings.string paired 0) none ∙ string-empty paired 0))
        (λ t. unmarked p b m h t)

-- an item that is a string ends where a member's name would, and no colon follows it
itemless : (p : List ℕ) → AlongItems p 1 → member_at p 1 ≡ None
unfolding member_at start either
itemless p a =
    ⊎_elim (λ y. unmarked p 0x5d y.0 y.1 refl)
    (λ y. ⊎_elim (λ e. e)
    (λ f.
    let g = member-from p (blanks (drop 1 p)) f.0 f.1 in
    let (w, h, i) = expect-done 0x22 (Strings.string paired 0) (blanks (drop 1 p)) g.after_name g.name g.reads.named in
    let (u, j, k) = expect-done 0x3a (λ r. value paired depth (blanks r)) (blanks g.after_name) g.after_value g.tree g.reads.valued in
    let same : y.1 ≡ g.after_name =
    sym (skip-value depth y.0 (blanks (drop 1 p)) y.1 y.2) ∙ ap skipped h ∙ skipped-string 0x22 w refl ∙ string-quoted w g.name g.after_name i in
    let both : y.3.by ∷ y.3.behind ≡ 0x3a ∷ u = sym y.3.there ∙ ap blanks same ∙ j in
    let colon : y.3.by ≡ 0x3a = cc in
    true-false y.3.is (ap (either 0x5d 0x2c) colon))
    ((member_steps p).either 1)) (along-item p a)

-- the first byte of an object, and no other's
object-first : {p : List ℕ} {ms : Members} → Whole p (Json.object ms) → byte p 0 ≡ 0x7b
unfolding kind_at
object-first {p} w = go (start (byte p 0)) refl (whole-kind w)
  where
    go : (t : Start) → start (byte p 0) ≡ t → kind_from (start (byte p 0)) ≡ kind.Object → byte p 0 ≡ 0x7b
    go Start.object h e = object-byte (byte p 0) h
    go Start.string h e = let z : ◌≡◌ {A = ℕ} 0 1 = cc in absurd (omega arith)
    go Start.number h e = let z : ◌≡◌ {A = ℕ} 0 1 = cc in absurd (omega arith)
    go Start.array h e = let z : ◌≡◌ {A = ℕ} 0 1 = cc in absurd (omega arith)
    go Start.letter_t h e = let z : ◌≡◌ {A = ℕ} 0 1 = cc in absurd (omega arith)
    go Start.letter_f h e = let z : ◌≡◌ {A = ℕ} 0 1 = cc in absurd (omega arith)
    go Start.letter_n h e = let z : ◌≡◌ {A = ℕ} 0 1 = cc in absurd (omega arith)
    go Start.other h e = let z : ◌≡◌ {A = ℕ} 0 1 = cc in absurd (omega arith)

pub first-object : {p : List ℕ} {x : Json} → Whole p x → byte p 0 ≡ 0x7b → (ms : Members) × (x ≡ Json.object ms)
unfolding kind_at start
first-object {p} {x} w e = go x (sym (whole-kind w) ∙ ap (λ (b : ℕ). kind_from (start b)) e)
  where
    go : (y : Json) → kind_of y ≡ kind.Object → (ms : Members) × (y ≡ Json.object ms)
    go (Json.object ms) h = (ms, refl)
    go Json.null h = let z : ◌≡◌ {A = ℕ} 0 1 = cc in absurd (omega arith)
    go (Json.boolean b) h = let z : ◌≡◌ {A = ℕ} 0 1 = cc in absurd (omega arith)
    go (Json.number s) h = let z : ◌≡◌ {A = ℕ} 0 1 = cc in absurd (omega arith)
    go (Json.string s) h = let z : ◌≡◌ {A = ℕ} 0 1 = cc in absurd (omega arith)
    go (Json.array is) h = let z : ◌≡◌ {A = ℕ} 0 1 = cc in absurd (omega arith)

-- The law.
memberless : (p : List ℕ) (x : Json) → Whole p x → (byte p 0 ≡ 0x7b → ⊥) → member_at p 1 ≡ None
unfolding blank either
memberless p Json.null w n = second p 0x75 _ (ap (drop 1) (whole-null w)) refl refl
memberless p (Json.boolean true) w n = second p 0x72 _ (ap (drop 1) (whole_word w)) refl refl
memberless p (Json.boolean false) w n = second p 0x61 _ (ap (drop 1) (whole_word w)) refl refl
memberless p (Json.number s) w n = numberless p s (number_read w)
memberless p (Json.string y) w n = stringless p y (string-read w)
memberless p (Json.array is) w n = itemless p (AlongItems.start w)
memberless p (Json.object ms) w n = absurd (n (object-first w))

pub no-members : {p : List ℕ} {x : Json} → Whole p x → (byte p 0 ≡ 0x7b → ⊥) → members_of p ≡ []
unfolding members_of
no-members {p} {x} w n = (member_steps p).end (length p) 1 (memberless p x w n)
