-- The first bytes of a text in an array: where the bytes in the array and those that are left are the text, the array has the text's first 32 bytes once it is full,
-- or all of them once none is left.
use mathlib.Core.List.{List, [], ◌∷◌, ◌++◌, append-nil}
use mathlib.Core.Path.{◌≡◌, sym, ap, subst, ◌∙◌}
use Prim.Native.Nat.{ℕ, ◌+◌, ◌≤◌, ◌<◌}
use native.Mathlib.Omega.{arith}
use lib.ListN.{length, take, drop, length-take}
use lib.Seq.{take_at, take_all}
use Rattle.text.specs.Text.{text_of}
use Rattle.text.specs.declared.Cursor.{Cursor}
use Rattle.text.specs.declared.Front.{Front}
use Rattle.text.specs.inner.Walk.{cursor_at, Fronted, Escapes}
use Rattle.text.proofs.Decoding.{text-character, left_at}
use Rattle.text.proofs.Filling.{Filled, ended-length, front-count}
use Rattle.schema.specs.inner.Spelling.{Reads}

module _ {whole bytes rest : List ℕ} {n : ℕ} (f : Filled whole bytes rest n) where
  counts : n ≡ length (take n bytes)
  counts = sym (length-take n bytes ∙ omega (arith, f.size, f.few))

  pub reads_all : rest ≡ [] → Reads whole (record { bytes = bytes; count = n })
  reads_all e =
      record {
        counted = counts;
        bytes =
            sym (append-nil (take n bytes)) ∙ ap (λ (l : List ℕ). take n bytes ++ l) (sym e) ∙ f.joined
            ∙ sym (take_all 32 whole (omega (arith, ended-length f e, f.few)));
      }

  pub reads-full : 32 ≤ n → Reads whole (record { bytes = bytes; count = 32 })
  reads-full h =
      let z : n ≡ 32 = omega (arith, f.few) in
      let l : length (take n bytes) ≡ 32 = length-take n bytes ∙ omega (arith, f.size) in
      subst (λ (k : ℕ). Reads whole (record { bytes = bytes; count = k })) z (record { counted = counts; bytes = sym (ap (take 32) (sym f.joined) ∙ take_at (take n bytes) rest 32 l) })

-- what is read by a cursor from the text's begin on
pub reads-front : (s : List ℕ) {c : Cursor} {r : Front} → c ≡ cursor_at 0 → Fronted s c 32 r → Reads (text_of s) (record { bytes = r.bytes; count = r.count })
reads-front s {c} e f =
    record { counted = front-count f; bytes = f.bytes ∙ ap (take 32) (left_at s 0 c e) }

-- an escape of six bytes that stands for one
pub text-escaped : (s : List ℕ) (i b : ℕ) → i < length s → Escapes (drop i s) b → b < 128 → text_of (drop i s) ≡ b ∷ text_of (drop (i + 6) s)
text-escaped s i b h e l = let z : i + 1 + 5 ≡ i + 6 = omega arith in text-character s i h _ (e l) ∙ ap (λ k. b ∷ text_of (drop k s)) z
