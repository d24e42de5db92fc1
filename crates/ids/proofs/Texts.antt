-- The text of an id is the same with all that follows it, since it ends at its quotation mark; and it is never empty, since the text with nothing in it
-- counts as no value.
use mathlib.Core.Bool.{Bool, false}
use mathlib.Core.List.{List, [], ◌∷◌, ◌++◌, append_assoc}
use mathlib.Core.Path.{◌≡◌, refl, sym, ap, ◌∙◌}
use Prim.Native.Nat.{ℕ, zero, suc, ◌+◌, ◌-◌, ◌≤◌, ◌<◌}
use native.Mathlib.Omega.{arith}
use lib.Dec.{eqb}
use lib.ListN.{length, take, drop, length-take, length-drop, take-append-drop}
use lib.Seq.{drop-drop, drop-append-le}
use Rattle.notation.specs.Choice.{◌⇒◌else◌}
use Rattle.notation.proofs.Booleans.{by_test, true-false}
use Rattle.lexeme.specs.declared.Next.{Next}
use Rattle.lexeme.specs.declared.Next.TheVariants.{Quote, Character, Fault}
use Rattle.lexeme.specs.Read.Read.{done}
use Rattle.lexeme.specs.Character.{bytes_of, next}
use Rattle.lexeme.specs.Character.Surrogates.{paired}
use Rattle.lexeme.specs.Strings.{string, decoded}
use Rattle.lexeme.proofs.Steps.{bad-done, done_what, made-done, string-empty, string-inside, string-quote, string-fault, string-character, decoded-character}
use Rattle.lexeme.proofs.StrongPrefixes.{string-spelled}
use Rattle.text.specs.Text.{text_of}
use Rattle.json_text.specs.Tree.{Json}
use Rattle.walk.specs.Walk.{part}
use Rattle.walk.specs.Part.{Whole, part_tree, inside}
use Rattle.walk.specs.inner.Kind.{kind_at}
use Rattle.walk.proofs.Wholes.{whole-kind, string-read, whole-string}
use Rattle.slots.specs.declared.Found.{Found}
use Rattle.slots.specs.declared.Found.TheVariants.{Missing, Once, Twice}
use Rattle.slots.specs.Found.{found_in}
use Rattle.slots.specs.inner.Blank.{blank_text}
use Rattle.document.specs.inner.Values.{kind_code, found_bytes, member_of, text_by}
use Rattle.document.proofs.ByKind.{found-standing, text-some}
use Rattle.ids.specs.inner.Ids.{id_name, id_value, id_of}
use Rattle.ids.proofs.IdOnce.{no_text, text-kind, text-inside}
use Rattle.std.specs.Prelude.{None, Some}

-- what a string reads as is what its bytes decode to
text-read : (k : ℕ) (l y r : List ℕ) → string paired k l ≡ done y r → decoded paired k l ≡ y
unfolding decoded
text-read k [] y r e = bad-done (sym (string-empty paired k) ∙ e)
text-read (suc k) (b ∷ l) y r e = text-read k l y r (sym (string-inside paired b l k) ∙ e)
text-read zero (b ∷ l) y r e = go (next paired (b ∷ l)) refl (λ k. text-read k l)
  where
    go : (o : Next) → next paired (b ∷ l) ≡ o → ((k : ℕ) (y r : List ℕ) → string paired k l ≡ done y r → decoded paired k l ≡ y) → decoded paired 0 (b ∷ l) ≡ y
    go Quote h ih = rw (decoded, h) (done_what (sym (string-quote paired b l h) ∙ e))
    go (Fault k n) h ih = bad-done (sym (string-fault paired b l h) ∙ e)
    go (Character x) h ih =
        let p = made-done (λ z. bytes_of x ++ z) (string paired x.more l) y r (sym (string-character paired b l h) ∙ e) in
        decoded-character paired b l h ∙ ap (λ z. bytes_of x ++ z) (ih x.more p.0 r p.1) ∙ p.2

-- a string and what follows it
text_follows : {v y : List ℕ} → Whole v (Json.string y) → (s : List ℕ) → text_of (drop 1 v ++ s) ≡ y
text_follows {v} {y} w s =
    let t = string-spelled paired 0 (drop 1 v) y [] (string-read w) in
    text-read 0 (drop 1 v ++ s) y s (ap (λ z. string paired 0 (z ++ s)) t.splits ∙ ap (string paired 0) (append_assoc t.part (0x22 ∷ []) s) ∙ t.frame s)

pub text-whole : {v : List ℕ} (x : Json) → Whole v x → 3 ≡ kind_code (kind_at v) → (s : List ℕ) → text_of (drop 1 v ++ s) ≡ text_of (inside v)
text-whole Json.null w e s = absurd (omega (arith, e, ap kind_code (whole-kind w)))
text-whole (Json.boolean b) w e s = absurd (omega (arith, e, ap kind_code (whole-kind w)))
text-whole (Json.number n) w e s = absurd (omega (arith, e, ap kind_code (whole-kind w)))
text-whole (Json.string y) w e s = text_follows w s ∙ whole-string w
text-whole (Json.array is) w e s = absurd (omega (arith, e, ap kind_code (whole-kind w)))
text-whole (Json.object ms) w e s = absurd (omega (arith, e, ap kind_code (whole-kind w)))

-- behind the first byte of a part of q, with what follows q
pub part_follows : (q s : List ℕ) (a e : ℕ) → a < e → e ≤ length q → drop (a + 1) (q ++ s) ≡ drop 1 (part q a e) ++ (drop (e - a) (drop a q) ++ s)
part_follows q s a e h i =
    let v = part q a e in let w = drop (e - a) (drop a q) in
    let long : 1 ≤ length (take (e - a) (drop a q)) = omega (arith, length-take (e - a) (drop a q), length-drop a q) in
    sym (drop-drop 1 a (q ++ s))
    ∙ ap (drop 1) (drop-append-le a q s (omega arith) ∙ ap (λ z. z ++ s) (sym (take-append-drop (e - a) (drop a q))) ∙ append_assoc v w s)
    ∙ drop-append-le 1 v (w ++ s) long

-- a value that is found is not the text with nothing in it
nonempty : (v t : List ℕ) (x : Json) → Whole v x → blank_text x ≡ false → text_by v ≡ Some t → 0 < length t
nonempty v t x w b e = go x w b
  where
    third : 3 ≡ kind_code (kind_at v)
    third = text-kind v t e

    is : text_of (inside v) ≡ t
    is = text-inside v t e

    go : (x : Json) → Whole v x → blank_text x ≡ false → 0 < length t
    go Json.null w b = absurd (omega (arith, third, ap kind_code (whole-kind w)))
    go (Json.boolean c) w b = absurd (omega (arith, third, ap kind_code (whole-kind w)))
    go (Json.number n) w b = absurd (omega (arith, third, ap kind_code (whole-kind w)))
    go (Json.string []) w b = true-false refl b
    go (Json.string (c ∷ y)) w b = omega (arith, ap length (whole-string w ∙ is))
    go (Json.array is) w b = absurd (omega (arith, third, ap kind_code (whole-kind w)))
    go (Json.object ms) w b = absurd (omega (arith, third, ap kind_code (whole-kind w)))

pub no-some : {A : Type 0} {t : List ℕ} → text_by [] ≡ Some t → A
no-some {t = t} e = let k : None ≡ Some t = sym no_text ∙ e in let z : ◌≡◌ {A = ℕ} 0 1 = cc in absurd (omega arith)

found-given : (q name t : List ℕ) (o : Found) → o ≡ found_in q name → text_by (found_bytes q o) ≡ Some t → 0 < length t
found-given q name t Missing i e = no-some e
found-given q name t (Once a b) i e =
    by_test (blank_text (part_tree (part q a b)))
    (λ h. no-some (rw h at e))
    λ h. nonempty (part q a b) t (part_tree (part q a b)) (found-standing q name (Once a b) i) h (rw h at e)
found-given q name t Twice i e = no-some e

pub id_given : (sheet : ℕ) (q t : List ℕ) → id_of sheet q ≡ Some t → 0 < length t
unfolding id_value member_of
id_given sheet q t e =
    by_test (eqb (kind_code (kind_at q)) 5) (λ h. found-given q (id_name sheet) t (found_in q (id_name sheet)) refl (rw (id_value, member_of, h) at e)) λ h. no-some (rw (id_value, member_of, h) at e)

-- a text that is found in q, with what follows q
pub once-text : (q s : List ℕ) (a e : ℕ) → a < e → e ≤ length q → Whole (part q a e) (part_tree (part q a e)) → {v : List ℕ} → v ≡ found_bytes q (Once a e) → 3 ≡ kind_code (kind_at v)
    → text_of (drop (a + 1) (q ++ s)) ≡ text_of (inside v)
once-text q s a e h i w {v} is k =
    by_test (blank_text (part_tree (part q a e)))
    (λ t.
    let z : v ≡ [] = is ∙ ap (λ (b : Bool). b ⇒ [] else part q a e) t in
    no-some (text-some [] 3 (k ∙ ap (λ (x : List ℕ). kind_code (kind_at x)) z) refl))
    λ t.
    let z : v ≡ part q a e = is ∙ ap (λ (b : Bool). b ⇒ [] else part q a e) t in
    ap text_of (part_follows q s a e h i)
    ∙ text-whole (part_tree (part q a e)) w (k ∙ ap (λ (x : List ℕ). kind_code (kind_at x)) z) (drop (e - a) (drop a q) ++ s)
    ∙ ap (λ (x : List ℕ). text_of (inside x)) (sym z)
