-- The rule of words for a broken one: once the file and the field are ones that there are, the kind says how the place is told.
use mathlib.Core.Path.{◌≡◌}
use Prim.Native.Nat.{◌≤◌, ◌<◌}
use native.Mathlib.Omega.{arith}
use lib.Dec.{eqb}
use borrow.Author.Tests.{ne_eqb, lt-ltb, le-leb, lt-leb}
use Rattle.word.specs.declared.Parts.{Parts}
use Rattle.word.specs.Form.{Form}
use Rattle.word.specs.Word.{located, keeps}

module _ (φ : Form) (p : Parts) (k : p.kind ≡ 0 → ⊥) (z : p.file ≡ 0 → ⊥) (f : p.file ≤ φ.files) (g : p.field ≤ φ.fields) where
  some-file : 0 < p.file
  some-file = omega arith

  pub by_offset : p.kind ≤ 4 → eqb (located p) 0 ≡ keeps φ p
  unfolding keeps
  by_offset h = rw (ne_eqb _ _ k, lt-ltb _ _ some-file, le-leb _ _ f, le-leb _ _ g, le-leb _ _ h)

  pub by_place : 4 < p.kind → eqb p.offset 0 ≡ keeps φ p
  unfolding keeps
  by_place h = rw (ne_eqb _ _ k, lt-ltb _ _ some-file, le-leb _ _ f, le-leb _ _ g, lt-leb _ _ h)
