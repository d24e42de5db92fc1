-- A file that stage A passes, for whoever judges its value: it is no longer than a file may be, and but for blanks before and after it is
-- one whole value.
use mathlib.Core.Bool.{true, false}
use mathlib.Core.List.{List, [], ◌∷◌}
use mathlib.Core.Path.{◌≡◌, refl, sym, ap, ◌∙◌}
use Prim.Native.Nat.{ℕ, ◌≤◌, ◌<◌}
use native.Mathlib.Omega.{arith}
use lib.ListN.{length, drop}
use lib.Dec.{ltb}
use borrow.Author.Tests.{ltb-false}
use Rattle.limits.specs.Ceilings.{file_bytes, depth}
use Rattle.notation.proofs.Booleans.{by_test}
use Rattle.lexeme.specs.Read.{Read, placed, wrong_at}
use Rattle.lexeme.specs.Read.Read.{done, bad}
use Rattle.lexeme.specs.Character.{paired}
use Rattle.lexeme.specs.Tokens.{blanks}
use Rattle.lexeme.proofs.Steps.{bad-done, done_what, done-rest, then-done}
use Rattle.json_text.specs.Tree.{Json}
use Rattle.json_text.specs.Text.{value, finish, text, syntax_by, syntax_of}
use Rattle.json_text.proofs.Local.{value-part}
use Rattle.json_text.proofs.StrongPrefixes.{value_consumes, value_takes}
use Rattle.lexeme.proofs.Placed.{ends}
use Rattle.walk.specs.Walk.{offset_of, part}
use Rattle.walk.specs.Part.{Whole}
use Rattle.walk.proofs.Rests.{Rest, rest-drop, rest-blanks, rest_read, rest-inside, rest-there}
use Rattle.std.specs.Prelude.{Result, Ok}
use Rattle.lexeme.specs.declared.SyntaxError.{SyntaxError}

-- where the value of a file begins
abbrev pub value_start : List ℕ → ℕ
value_start s = offset_of s (blanks s)

pub record Passed (s : List ℕ) : Type 0 where
  pub tree : Json
  pub end : ℕ
  pub reads : text paired depth s ≡ done tree []
  pub whole : Whole (part s (value_start s) end) tree
  pub some : value_start s < end
  pub inside : end ≤ length s
  pub found : Ok end ≡ placed s (value paired depth (drop (value_start s) s))
  pub after : blanks (drop end s) ≡ []
  pub short : length s ≤ file_bytes

-- a text is read to its end, or not at all
finished : (x y : Json) (l r : List ℕ) → finish x l ≡ done y r → (l ≡ []) × (x ≡ y) × (r ≡ [])
unfolding finish
finished x y [] r e = (refl, done_what e, sym (done-rest e))
finished x y (b ∷ l) r e = bad-done e

-- the value in a text
in_text : (s r : List ℕ) (x : Json) → text paired depth s ≡ done x r → length s ≤ file_bytes → Passed s
unfolding text
in_text s r x e short =
    let a = then-done (value paired depth (blanks s)) (λ y q. finish y (blanks q)) x r e in
    let f = finished a.0 x (blanks a.1) r a.3 in
    let l = blanks s in
    let q = a.1 in
    let sl : Rest s l = rest-blanks s (rest-drop 0) in
    let sq : Rest s q = rest_read (value paired depth) (value_takes paired depth) l q a.0 a.2 sl in
    let n : length q < length l = value_consumes paired depth l q a.0 a.2 in
    let m : length l ≤ length s = rest-inside sl in
    let v : value paired depth (drop (offset_of s l) s) ≡ done x q = ap (value paired depth) (rest-there sl) ∙ a.2 ∙ ap (λ (z : Json). done z q) f.1 in
    let some : offset_of s l < offset_of s q = omega arith in
    record {
      tree = x;
      end = offset_of s q;
      reads = e ∙ ap (done x) f.2;
      whole = record { reads = value-part paired depth x s (offset_of s l) (offset_of s q) (omega arith) (omega arith) (v ∙ ap (done x) (sym (rest-there sq))) };
      some = some;
      inside = omega arith;
      found = ends s q (offset_of s q) (value paired depth (drop (offset_of s l) s)) refl x v;
      after = ap blanks (rest-there sq) ∙ f.0;
      short = short;
    }

pub passed : (s : List ℕ) → syntax_of s ≡ Ok tt → Passed s
unfolding syntax_of syntax_by placed
passed s e = by_test (ltb file_bytes (length s)) long read
  where
    long : ltb file_bytes (length s) ≡ true → Passed s
    long h =
        let p : ◌≡◌ {A = Result (Unit {0}) SyntaxError} (wrong_at _ 0) (Ok tt) = rw (h, syntax_of) at e in
        absurd (let z : ◌≡◌ {A = ℕ} 0 1 = cc in omega arith)

    go : (o : Read Json) → text paired depth s ≡ o → syntax_by (placed s o) ≡ Ok tt → length s ≤ file_bytes → Passed s
    go (done x r) h i n = in_text s r x h n
    go (bad k r) h i n = absurd (let z : ◌≡◌ {A = ℕ} 0 1 = cc in omega arith)

    read : ltb file_bytes (length s) ≡ false → Passed s
    read h = go (text paired depth s) refl (rw (h, syntax_of) at e) (ltb-false file_bytes (length s) h)
