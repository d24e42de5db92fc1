-- One entry more keeps the entries before it, so that one record more is noted.
use mathlib.Core.Bool.{Bool, true, false}
use mathlib.Core.List.{List, [], ◌++◌}
use mathlib.Core.Path.{◌≡◌, refl, sym, ap, subst, ◌∙◌}
use Prim.Native.Nat.{ℕ, ◌+◌, ◌-◌, ◌*◌, ◌/◌, ◌%◌, ◌<◌}
use native.Mathlib.Decide.{ℕ_discrete}
use native.Mathlib.Omega.{arith}
use lib.ListN.{length, drop, get_or, set, replicate, length-replicate, length-set, take-append-drop}
use lib.Seq.{get_or-set_same, get_or-set_other, drop-drop}
use Rattle.limits.specs.Ceilings.{records}
use Rattle.text.specs.Text.{text_of}
use Rattle.sorting.specs.Ids.{id_at}
use Rattle.text.proofs.Decoding.{text-end}
use Rattle.walk.specs.declared.Item.{Item}
use Rattle.walk.proofs.Parts.{item_of}
use Rattle.ids.specs.inner.Ids.{id_of, text_or, id_text, ids_of, NoIdBefore, record_bytes, passing}
use Rattle.ids.specs.inner.Notes.{size, start_at, member_start, pass_at, bit, entered, Entry, Next, Noted}
use Rattle.std.specs.Prelude.{Option, None, Some}

pub fresh : length (replicate {A = ℕ} size 0) ≡ size
fresh = length-replicate {A = ℕ} size 0

pub noted-none : {sheet : ℕ} {p notes : List ℕ} → length notes ≡ size → Noted sheet p 0 notes
noted-none long =
    record {
      long = long;
      few = omega arith;
      entries = λ j h. absurd (omega arith);
      texts = λ j h. absurd (omega arith);
      tests = λ j h. absurd (omega arith);
    }

-- a place and a truth that are noted as one number
half_of : (x : ℕ) (b : Bool) → (2 * x + bit b) / 2 ≡ x
half_of x true = omega arith
half_of x false = omega arith

rest_of : (x : ℕ) (b : Bool) → (2 * x + bit b) % 2 ≡ bit b
rest_of x true = omega arith
rest_of x false = omega arith

-- the entry n
module _ (notes : List ℕ) (n t a x : ℕ) (b : Bool) (long : length notes ≡ size) (h : n < records) where
  abbrev y : ℕ
  y = 2 * x + bit b

  abbrev l₁ : List ℕ
  l₁ = set notes n t

  abbrev l₂ : List ℕ
  l₂ = set l₁ (records + n) a

  abbrev new : List ℕ
  new = entered notes n t a x (bit b)

  entered-long : length new ≡ size
  unfolding entered
  entered-long = length-set l₂ (2 * records + n) y ∙ length-set l₁ (records + n) a ∙ length-set notes n t ∙ long

  entered-other : (i : ℕ) → (i ≡ n → ⊥) → (i ≡ records + n → ⊥) → (i ≡ 2 * records + n → ⊥) → get_or new i 0 ≡ get_or notes i 0
  unfolding entered
  entered-other i c d e =
      get_or-set_other l₂ (2 * records + n) i y 0 e ∙ get_or-set_other l₁ (records + n) i a 0 d ∙ get_or-set_other notes n i t 0 c

  -- what it tells
  place_new : get_or new n 0 ≡ t
  unfolding entered
  place_new =
      get_or-set_other l₂ (2 * records + n) n y 0 (λ z. omega arith)
      ∙ get_or-set_other l₁ (records + n) n a 0 (λ z. omega arith)
      ∙ get_or-set_same notes n t 0 (omega arith)

  start_new : start_at new n ≡ a
  unfolding entered
  start_new =
      get_or-set_other l₂ (2 * records + n) (records + n) y 0 (λ z. omega arith)
      ∙ get_or-set_same l₁ (records + n) a 0 (simp length-set (omega arith))

  mark_new : get_or new (2 * records + n) 0 ≡ 2 * x + bit b
  unfolding entered
  mark_new = get_or-set_same l₂ (2 * records + n) y 0 (simp length-set (omega arith))

  member_new : member_start new n ≡ x
  member_new = ap (λ (k : ℕ). k / 2) mark_new ∙ half_of x b

  pass_new : pass_at new n ≡ bit b
  pass_new = ap (λ (k : ℕ). k % 2) mark_new ∙ rest_of x b

  -- the entries before it
  module _ (j : ℕ) (i : j < n) where
    place_old : get_or new j 0 ≡ get_or notes j 0
    place_old = entered-other j (λ z. omega arith) (λ z. omega arith) (λ z. omega arith)

    start_old : start_at new j ≡ start_at notes j
    start_old = entered-other (records + j) (λ z. omega arith) (λ z. omega arith) (λ z. omega arith)

    mark_old : get_or new (2 * records + j) 0 ≡ get_or notes (2 * records + j) 0
    mark_old = entered-other (2 * records + j) (λ z. omega arith) (λ z. omega arith) (λ z. omega arith)

-- where the notes tell the same places, an entry tells the same
pub entry_at : {sheet : ℕ} {p q : List ℕ} {a e x y : ℕ} → a ≡ e → x ≡ y → Entry sheet p q e y → Entry sheet p q a x
entry_at {sheet} {p} {q} {a} {x = x} f g w = subst (λ (k : ℕ). Entry sheet p q k x) (sym f) (subst (Entry sheet p q _) (sym g) w)

-- one record more is noted
module _ {sheet : ℕ} {p : List ℕ} {n : ℕ} {notes : List ℕ} (w : Noted sheet p n notes) (h : n < records) (t a x : ℕ) (b : Bool) where
  abbrev after : List ℕ
  after = entered notes n t a x (bit b)

  pub noted_more : Entry sheet p (get_or (record_bytes p) n []) a x → text_of (drop t p) ≡ ids_of sheet p n → bit b ≡ bit (passing sheet (get_or (record_bytes p) n []))
      → Noted sheet p (n + 1) after
  noted_more entry text test =
      record {
        long = entered-long notes n t a x b w.long h;
        few = omega arith;
        entries = λ j i.
            elim (ℕ_discrete j n) [
              | yes z ↦
                  subst (λ (k : ℕ). Entry sheet p (get_or (record_bytes p) k []) (start_at after k) (member_start after k)) (sym z)
                  (entry_at (start_new notes n t a x b w.long h) (member_new notes n t a x b w.long h) entry)
              | no z ↦
                  let k : j < n = omega arith in
                  entry_at (start_old notes n t a x b w.long h j k) (ap (λ (m : ℕ). m / 2) (mark_old notes n t a x b w.long h j k)) (w.entries j k)
            ];
        texts = λ j i.
            elim (ℕ_discrete j n) [
              | yes z ↦ subst (λ (k : ℕ). id_at p after k ≡ ids_of sheet p k) (sym z) (ap (λ (k : ℕ). text_of (drop k p)) (place_new notes n t a x b w.long h) ∙ text)
              | no z ↦ let k : j < n = omega arith in ap (λ (k : ℕ). text_of (drop k p)) (place_old notes n t a x b w.long h j k) ∙ w.texts j k
            ];
        tests = λ j i.
            elim (ℕ_discrete j n) [
              | yes z ↦ subst (λ (k : ℕ). pass_at after k ≡ bit (passing sheet (get_or (record_bytes p) k []))) (sym z) (pass_new notes n t a x b w.long h ∙ test)
              | no z ↦ let k : j < n = omega arith in ap (λ (m : ℕ). m % 2) (mark_old notes n t a x b w.long h j k) ∙ w.tests j k
            ];
      }

-- by the id of the record m
module _ {sheet : ℕ} {p : List ℕ} {n : ℕ} {notes : List ℕ} {m : Item} (w : Noted sheet p n notes) (x : Next sheet p n m) {y : Bool} (passes : y ≡ passing sheet (item_of p m)) where
  text-by : (o : Option (List ℕ)) → id_of sheet (item_of p m) ≡ o → text_or o ≡ ids_of sheet p n
  unfolding id_text
  text-by o e = ap text_or (sym e) ∙ ap (λ (q : List ℕ). id_text sheet q) x.is

  test_by : bit y ≡ bit (passing sheet (get_or (record_bytes p) n []))
  test_by = ap bit (passes ∙ ap (passing sheet) x.is)

  entry_by : {a at : ℕ} → Entry sheet p (item_of p m) a at → Entry sheet p (get_or (record_bytes p) n []) a at
  entry_by {a} {at} = subst (λ (q : List ℕ). Entry sheet p q a at) x.is

  pub enter_none : id_of sheet (item_of p m) ≡ None → Noted sheet p (n + 1) (entered notes n (length p) (length p) 0 (bit y))
  enter_none e =
      noted_more w x.room (length p) (length p) 0 y (entry_by (Entry.without e (omega arith))) (text-end p (length p) (omega arith) ∙ text-by None e) test_by

  pub enter_some : (r at : ℕ) {id : List ℕ} → id_of sheet (item_of p m) ≡ Some id → ((s : List ℕ) → text_of (drop r (item_of p m ++ s)) ≡ id)
      → NoIdBefore sheet (item_of p m) at → Noted sheet p (n + 1) (entered notes n (m.value + r) m.value at (bit y))
  enter_some r at {id} some text u =
      let a = m.value in let k = m.value_end - m.value in
      noted_more w x.room (a + r) a at y (entry_by (Entry.within some m x.among refl refl u))
      (ap text_of (sym (drop-drop r a p) ∙ ap (drop r) (sym (take-append-drop k (drop a p)))) ∙ text (drop k (drop a p)) ∙ text-by (Some id) some) test_by
