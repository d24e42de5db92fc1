-- The next step tells it.
use mathlib.Core.Bool.{Bool, true, false, not}
use mathlib.Core.List.{List, []}
use mathlib.Core.Path.{◌≡◌, refl, sym}
use Prim.Native.Nat.{ℕ}
use Rattle.std.specs.Prelude.{Option, Some, None}
use Rattle.std.specs.Option.{is_some}
use Rattle.text.specs.declared.Cursor.{Cursor}
use Rattle.text.specs.Text.{same}
use Rattle.text.specs.inner.Walk.{told}
use Rattle.text.proofs.Decoding.{no_byte, one_byte}
use Rattle.text.proofs.Steps.{same_end, same-long}
use Rattle.text.proofs.compare.ended.Goals as goal

none_left : (s l : List ℕ) (o : Option (ℕ × Cursor)) (b : Bool) → told s o ≡ l → is_some o ≡ not b → b ≡ same l []
none_left s l None true e f = sym (same_end (no_byte _ _ e refl) refl)
none_left s l None false e f = cc
none_left s l (Some _) true e f = cc
none_left s l (Some (_, _)) false e f = sym (same-long (one_byte _ _ _ _ e refl) refl)

pub returns : goal.returns
returns c = none_left _ _ _ _ c.next_byte.ensures c.is_none.ensures
