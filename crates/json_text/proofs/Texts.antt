-- A whole text at its places: a value after blanks, and nothing but blanks after it; and stage A's verdict on it.
use mathlib.Core.List.{List}
use mathlib.Core.Path.{◌≡◌, sym, ap, ◌∙◌}
use Prim.Native.Nat.{ℕ, ◌≤◌, ◌<◌}
use lib.ListN.{length, drop, drop_of_length-le}
use borrow.Author.Tests.{lt-ltb, le-ltb}
use Rattle.limits.specs.Ceilings.{file_bytes, depth}
use Rattle.notation.proofs.Lists.{at_cons}
use Rattle.word.specs.Kinds.{too_long, not_json}
use Rattle.lexeme.specs.Read.{placed, wrong_at}
use Rattle.lexeme.specs.Read.Read.{done, bad}
use Rattle.lexeme.specs.Character.{paired}
use Rattle.lexeme.proofs.Spans.{Skipped}
use Rattle.lexeme.proofs.Steps.{then-reads, then_fails}
use Rattle.json_text.specs.Tree.{Json}
use Rattle.json_text.specs.Text.{value, finish, text, syntax_by, syntax_of}
use Rattle.std.specs.Prelude.{Result}
use Rattle.lexeme.specs.declared.SyntaxError.{SyntaxError}

module _ (s : List ℕ) (d i : ℕ) (k : Skipped s 0 i) where
  pub text-bad : (n : ℕ) (r : List ℕ) → value paired d (drop i s) ≡ bad n r → text paired d s ≡ bad n r
  unfolding text
  text-bad n r e = then_fails _ (ap (value paired d) (sym k.rest) ∙ e)

  module _ (j end : ℕ) (x : Json) (reads : value paired d (drop i s) ≡ done x (drop j s)) (w : Skipped s j end) where
    text-read : text paired d s ≡ finish x (drop end s)
    unfolding text
    text-read = then-reads _ (ap (value paired d) (sym k.rest) ∙ reads) ∙ ap (finish x) (sym w.rest)

    pub text-more : end < length s → text paired d s ≡ bad not_json (drop end s)
    unfolding finish
    text-more h = text-read ∙ rw (at_cons s end h)

    pub text-ends : length s ≤ end → text paired d s ≡ done x (drop end s)
    unfolding finish
    text-ends h = text-read ∙ rw (drop_of_length-le s h)

pub too_long_lem : (s : List ℕ) → file_bytes < length s → wrong_at too_long 0 ≡ syntax_of s
unfolding syntax_of
too_long_lem s h = rw (syntax_of, lt-ltb _ _ h)

pub judged : (s : List ℕ) (o : Result ℕ SyntaxError) → length s ≤ file_bytes → o ≡ placed s (text paired depth s) → syntax_by o ≡ syntax_of s
unfolding syntax_of
judged s o h e = rw (syntax_of, le-ltb _ _ h, e)
