-- What is seen at a place with nothing decoded: the end of the text, or its first byte where that stands for itself. Raw bytes all do, and of a spelling those
-- that begin no escape and no character of several bytes; a quotation mark ends it.
use mathlib.Core.Bool.{Bool, true, false}
use mathlib.Core.List.{List, [], ◌∷◌}
use mathlib.Core.Path.{◌≡◌, refl, sym, ap, subst, ◌∙◌}
use Prim.Native.Nat.{ℕ, ◌+◌, ◌-◌, ◌≤◌, ◌<◌}
use native.Mathlib.Omega.{arith}
use lib.Dec.{eqb, ltb}
use lib.ListN.{length, drop, get_or, length-drop, drop_of_length-le}
use borrow.Author.Tests.{eq-eqb, ne_eqb, eqb-true, ltb-true, ltb-false}
use Rattle.notation.proofs.Booleans.{by_test, true-false, and_both}
use Rattle.notation.proofs.Lists.{at_cons}
use Rattle.lexeme.specs.Character.Surrogates.{paired}
use Rattle.lexeme.specs.inner.Lead.{Lead, lead, next_by}
use Rattle.lexeme.specs.Strings.{decoded}
use Rattle.lexeme.proofs.Leads.{next_led}
use Rattle.std.specs.Cmp.{nat_cmp_is}
use Rattle.std.specs.Ordering.{nat_cmp}
use Rattle.std.specs.declared.cmp.Ordering.TheVariants.{Less, Equal, Greater}
use Rattle.text.specs.declared.Cursor.{Cursor}
use Rattle.text.specs.Text.{text_of, meant}
use Rattle.text.specs.Ordering.{order_of}
use Rattle.text.specs.inner.Walk.{cursor_at, left, told, left_by, told_by, alone, seen, same_plain}
use Rattle.text.specs.inner.Key.{Bytes}
use Rattle.text.proofs.Decoding.{text-quote, text-plain, left_at}
use Rattle.text.proofs.Bytes.{bytes_drop}
use Rattle.text.proofs.Ordered.{order-end, order-short, order-long, order_less, order_greater}
use Rattle.std.specs.declared.cmp.Ordering.TheVariants.{Less, Equal, Greater}
use Rattle.std.specs.Prelude.{Option, Some, None}

not-quote : (b : ℕ) → alone b ≡ true → eqb b 0x22 ≡ false
unfolding alone
not-quote b t = by_test (eqb b 0x22) (λ q. true-false t (rw (alone, q))) λ q. q

-- what `peek` answers, by its tests
module _ (s : List ℕ) (i : ℕ) where
  pub seen-past : (raw : Bool) → length s ≤ i → 0 ≡ seen raw (drop i s)
  unfolding seen
  seen-past raw h = rw (drop_of_length-le s h)

  module _ (h : i < length s) where
    pub seen_raw : {raw : Bool} → raw ≡ true → get_or s i 0 + 1 ≡ seen raw (drop i s)
    unfolding seen
    seen_raw e = rw (at_cons s i h, e)

    pub seen_plain : {raw : Bool} → raw ≡ false → alone (get_or s i 0) ≡ true → get_or s i 0 + 1 ≡ seen raw (drop i s)
    unfolding seen
    seen_plain e t = rw (at_cons s i h, e, not-quote (get_or s i 0) t, t)

    pub seen-quote : {raw : Bool} → raw ≡ false → get_or s i 0 ≡ 0x22 → 0 ≡ seen raw (drop i s)
    unfolding seen
    seen-quote e t = rw (at_cons s i h, e, eq-eqb (get_or s i 0) 0x22 t)

    pub seen_other : {raw : Bool} → raw ≡ false → alone (get_or s i 0) ≡ false → (get_or s i 0 ≡ 0x22 → ⊥) → 257 ≡ seen raw (drop i s)
    unfolding seen
    seen_other e t n = rw (at_cons s i h, e, ne_eqb (get_or s i 0) 0x22 n, t)

-- what it means: the text ends
quote-ends : (b : ℕ) (l : List ℕ) → eqb b 0x22 ≡ true → text_of (b ∷ l) ≡ []
unfolding lead next_by
quote-ends b l e = text-quote (b ∷ l) (next_led paired (b ∷ l) {t = Lead.quote} (rw (lead, e)))

pub quote-here : (s : List ℕ) (i : ℕ) → i < length s → get_or s i 0 ≡ 0x22 → text_of (drop i s) ≡ []
quote-here s i h e = ap text_of (at_cons s i h) ∙ quote-ends (get_or s i 0) (drop (i + 1) s) (eq-eqb (get_or s i 0) 0x22 e)

pub seen_end : (raw : Bool) (l : List ℕ) → seen raw l < 1 → meant raw l ≡ []
unfolding seen decoded
seen_end true [] h = refl
seen_end false [] h = refl
seen_end true (b ∷ l) h = absurd (omega arith)
seen_end false (b ∷ l) h =
    by_test (eqb b 0x22) (λ q. quote-ends b l q) λ q.
    by_test (alone b) (λ t. let g : b + 1 < 1 = subst (λ x. x < 1) (rw (seen, q, t)) h in absurd (omega arith))
    λ t. let g : 257 < 1 = subst (λ x. x < 1) (rw (seen, q, t)) h in absurd (omega arith)

-- or its first byte is this
first-seen : (b : ℕ) (l : List ℕ) → 0 < seen false (b ∷ l) → seen false (b ∷ l) ≤ 256 → (alone b ≡ true) × (seen false (b ∷ l) ≡ b + 1)
unfolding seen
first-seen b l g h =
    by_test (eqb b 0x22) (λ q. let z : 0 < 0 = subst (λ x. 0 < x) (rw (seen, q)) g in absurd (omega arith)) λ q.
    by_test (alone b) (λ t. (t, rw (seen, q, t))) λ t. let z : 257 ≤ 256 = subst (λ x. x ≤ 256) (rw (seen, q, t)) h in absurd (omega arith)

some-seen : (raw : Bool) (l : List ℕ) → 0 < seen raw l → 0 < length l
unfolding seen
some-seen raw [] h = absurd (omega arith)
some-seen raw (b ∷ l) h = omega arith

seen-inside : (raw : Bool) (s : List ℕ) (i : ℕ) → 0 < seen raw (drop i s) → i < length s
seen-inside raw s i h = omega (arith, some-seen raw (drop i s) h, length-drop i s)

pub seen-byte : (raw : Bool) (s : List ℕ) (i : ℕ) {r : ℕ} → r ≡ seen raw (drop i s) → 1 ≤ r → r ≤ 256
    → (i < length s) × (meant raw (drop i s) ≡ (r - 1) ∷ meant raw (drop (i + 1) s))
seen-byte true s i {r} e g h =
    let n = seen-inside true s i (subst (λ x. 0 < x) e g) in
    let z : get_or s i 0 ≡ r - 1 = omega (arith, e ∙ sym (seen_raw s i n refl)) in
    (n, at_cons s i n ∙ ap (λ b. b ∷ drop (i + 1) s) z)
seen-byte false s i {r} e g h =
    let n = seen-inside false s i (subst (λ x. 0 < x) e g) in
    let f : r ≡ seen false (get_or s i 0 ∷ drop (i + 1) s) = e ∙ ap (seen false) (at_cons s i n) in
    let w = first-seen (get_or s i 0) (drop (i + 1) s) (subst (λ x. 0 < x) f g) (subst (λ x. x ≤ 256) f h) in
    let z : get_or s i 0 ≡ r - 1 = omega (arith, f ∙ w.1) in
    (n, text-plain s i n w.0 ∙ ap (λ b. b ∷ text_of (drop (i + 1) s)) z)

-- only a spelling has something to be decoded
few_raw : (l : List ℕ) → Bytes l → 256 < seen true l → ⊥
unfolding seen
few_raw [] h g = omega arith
few_raw (b ∷ l) h g = let m = h 0 in omega arith

pub seen-text : (raw : Bool) (s : List ℕ) (i : ℕ) {r : ℕ} → Bytes s → r ≡ seen raw (drop i s) → 256 < r → text_of (drop i s) ≡ meant raw (drop i s)
seen-text true s i h e g = absurd (few_raw (drop i s) (bytes_drop i s h) (subst (λ x. 256 < x) e g))
seen-text false s i h e g = refl

-- the order by what is seen at a place of two texts
module _ (raw : Bool) (s t : List ℕ) (i : ℕ) {x y : ℕ} (e : x ≡ seen false (drop i s)) (f : y ≡ seen raw (drop i t)) where
  seen_less : y ≤ 256 → x < y → order_of (text_of (drop i s)) (meant raw (drop i t)) ≡ Less
  seen_less m h =
      let b = (seen-byte raw t i f (omega arith) m).1 in
      by_test (ltb x 1) (λ l. order-short (seen_end false (drop i s) (subst (λ z. z < 1) e (ltb-true x 1 l))) b) λ l.
      let g : 1 ≤ x = ltb-false x 1 l in order_less (seen-byte false s i e g (omega arith)).1 b (omega arith)

  seen_greater : x ≤ 256 → y < x → order_of (text_of (drop i s)) (meant raw (drop i t)) ≡ Greater
  seen_greater m h =
      let a = (seen-byte false s i e (omega arith) m).1 in
      by_test (ltb y 1) (λ l. order-long a (seen_end raw (drop i t) (subst (λ z. z < 1) f (ltb-true y 1 l)))) λ l.
      let g : 1 ≤ y = ltb-false y 1 l in order_greater a (seen-byte raw t i f g (omega arith)).1 (omega arith)

  seen_same : x < 1 → y < 1 → order_of (text_of (drop i s)) (meant raw (drop i t)) ≡ Equal
  seen_same g h = order-end (seen_end false (drop i s) (subst (λ z. z < 1) e g)) (seen_end raw (drop i t) (subst (λ z. z < 1) f h))

  pub seen_order : x ≤ 256 → y ≤ 256 → (x ≡ y → x < 1) → nat_cmp x y ≡ order_of (text_of (drop i s)) (meant raw (drop i t))
  seen_order m n o =
      by_test (ltb x y) (λ l. let h = ltb-true x y l in sym (nat_cmp_is x y Less h) ∙ sym (seen_less n h)) λ l.
      by_test (ltb y x) (λ k. let h = ltb-true y x k in sym (nat_cmp_is x y Greater h) ∙ sym (seen_greater m h)) λ k.
      let h = ltb-false x y l in let g = ltb-false y x k in let z : x ≡ y = omega arith in let u = o z in
      sym (nat_cmp_is x y Equal z) ∙ sym (seen_same u (omega arith))

-- two spellings with the same byte at a place, which stands for itself
module _ (s t : List ℕ) (i : ℕ) where
  pub differ-first : length s ≤ i → false ≡ same_plain (drop i s) (drop i t)
  unfolding same_plain
  differ-first h = rw (drop_of_length-le s h)

  module _ (g : i < length s) where
    pub differ-second : length t ≤ i → false ≡ same_plain (drop i s) (drop i t)
    unfolding same_plain
    differ-second h = rw (drop_of_length-le t h, at_cons s i g)

    module _ (h : i < length t) where
      pub differ-here : (get_or s i 0 ≡ get_or t i 0 → ⊥) → false ≡ same_plain (drop i s) (drop i t)
      unfolding same_plain
      differ-here n = rw (at_cons t i h, at_cons s i g, ne_eqb (get_or s i 0) (get_or t i 0) n)

      pub plain_here : get_or s i 0 ≡ get_or t i 0 → alone (get_or s i 0) ≡ same_plain (drop i s) (drop i t)
      unfolding same_plain
      plain_here e = rw (at_cons t i h, at_cons s i g, eq-eqb (get_or s i 0) (get_or t i 0) e)

  -- both have it
  module _ (e : same_plain (drop i s) (drop i t) ≡ true) where
    both : (x y : List ℕ) → same_plain x y ≡ true → (0 < length x) × (0 < length y)
    unfolding same_plain
    both [] y f = true-false f refl
    both (a ∷ x) [] f = true-false f refl
    both (a ∷ x) (b ∷ y) f = (omega arith, omega arith)

    in_first : i < length s
    in_first = omega (arith, (both (drop i s) (drop i t) e).0, length-drop i s)

    in_second : i < length t
    in_second = omega (arith, (both (drop i s) (drop i t) e).1, length-drop i t)

    tests : (eqb (get_or s i 0) (get_or t i 0) ≡ true) × (alone (get_or s i 0) ≡ true)
    unfolding same_plain
    tests = and_both (eqb (get_or s i 0) (get_or t i 0)) (alone (get_or s i 0)) (rw (at_cons s i in_first, at_cons t i in_second) at e)

    pub plain-inside : i < length s
    plain-inside = in_first

    pub plain-first : text_of (drop i s) ≡ get_or s i 0 ∷ text_of (drop (i + 1) s)
    plain-first = text-plain s i in_first tests.1

    pub plain_second : (raw : Bool) → meant raw (drop i t) ≡ get_or s i 0 ∷ meant raw (drop (i + 1) t)
    plain_second raw =
        let z = eqb-true (get_or s i 0) (get_or t i 0) tests.0 in plain raw ∙ ap (λ b. b ∷ meant raw (drop (i + 1) t)) (sym z)
      where
        plain : (raw : Bool) → meant raw (drop i t) ≡ get_or t i 0 ∷ meant raw (drop (i + 1) t)
        plain true = at_cons t i in_second
        plain false = text-plain t i in_second (ap alone (sym (eqb-true (get_or s i 0) (get_or t i 0) tests.0)) ∙ tests.1)

-- cursors over bytes that may be raw
module _ (s : List ℕ) where
  told-spelled : (r : Option (ℕ × Cursor)) → told_by false s r ≡ told s r
  unfolding told_by left_by told
  told-spelled None = refl
  told-spelled (Some (b, d)) = refl

  pub left-meant : (raw : Bool) (i : ℕ) (c : Cursor) → c ≡ cursor_at i → left_by raw s c ≡ meant raw (drop i s)
  unfolding left_by
  left-meant true i c e = ap (λ d. left_by true s d) e
  left-meant false i c e = left_at s i c e

  module _ {raw : Bool} (c : Cursor) where
    pub next-spelled : (r : Option (ℕ × Cursor)) → raw ≡ false → told s r ≡ left s c → told_by raw s r ≡ left_by raw s c
    unfolding left_by
    next-spelled r e f = ap (λ t. told_by t s r) e ∙ told-spelled r ∙ f ∙ ap (λ t. left_by t s c) (sym e)

    module _ (e : raw ≡ true) where
      pub raw_end : length s ≤ c.at → told_by raw s None ≡ left_by raw s c
      unfolding told_by left_by
      raw_end h = sym (ap (λ t. left_by t s c) e ∙ drop_of_length-le s h)

      pub raw_byte : (d : Cursor) → c.at < length s → d ≡ cursor_at (c.at + 1) → told_by raw s (Some ((get_or s c.at 0), d)) ≡ left_by raw s c
      unfolding told_by left_by
      raw_byte d h f =
          ap (λ t. get_or s c.at 0 ∷ left_by t s d) e ∙ ap (λ z. get_or s c.at 0 ∷ drop z.at s) f ∙ sym (at_cons s c.at h) ∙ ap (λ t. left_by t s c) (sym e)

  -- what the bytes are of which a step tells
  module _ (raw : Bool) {x : List ℕ} where
    pub no-meant : (r : Option (ℕ × Cursor)) → told_by raw s r ≡ x → r ≡ None → x ≡ []
    unfolding told_by
    no-meant r e f = sym e ∙ ap (told_by raw s) f

    pub one-meant : (r : Option (ℕ × Cursor)) (b : ℕ) (d : Cursor) → told_by raw s r ≡ x → r ≡ Some (b, d) → x ≡ b ∷ left_by raw s d
    unfolding told_by
    one-meant r b d e f = sym e ∙ ap (told_by raw s) f

-- what each test of `peek` and of `same_plain` decides
pub ruleset seen_rules = (seen-past, seen_raw, seen_plain, seen-quote, seen_other)

pub ruleset plain_rules = (differ-first, differ-second, differ-here, plain_here)
