-- The laws of one whole value that every judge cites: its tree is the only one, its first byte tells its kind, and a scalar is read off
-- its bytes. For arrays and objects, what stands between the brackets is read with a level less.
use mathlib.Core.Bool.{Bool, true, false}
use mathlib.Core.List.{List, [], ◌∷◌, ◌++◌, append-nil}
use mathlib.Core.Path.{◌≡◌, refl, sym, ap, subst, ◌∙◌}
use Prim.Native.Nat.{ℕ, zero, suc, ◌-◌, ◌≤◌, ◌<◌}
use native.Mathlib.Omega.{arith}
use lib.ListN.{length, drop, take, get_or, length-append, length-drop}
use lib.Seq.{take_at}
use lib.Dec.{eqb}
use Rattle.limits.specs.Ceilings.{depth}
use Rattle.notation.specs.Ascii.{bytes}
use Rattle.lexeme.specs.Read.{Read, made}
use Rattle.lexeme.specs.Read.Read.{done, bad}
use Rattle.lexeme.specs.Character.{paired, byte}
use Rattle.lexeme.specs.Strings
use Rattle.lexeme.specs.Numbers
use Rattle.lexeme.specs.inner.Start.{Start, start}
use Rattle.lexeme.proofs.Steps.{bad-done, made-done}
use Rattle.lexeme.proofs.StrongPrefixes.{string-spelled, string_consumes}
use Rattle.lexeme.proofs.Spells.{number-spells, literal-spells}
use Rattle.json_text.specs.Tree
use Rattle.json_text.specs.Tree.{Json}
use Rattle.json_text.specs.Text.{bracketed, member, value_by, value}
use Rattle.json_text.proofs.StrongPrefixes.{value_consumes}
use Rattle.walk.specs.Part.{Whole, part_tree, kind_of, inside}
use Rattle.walk.specs.inner.Kind.{kind_from, kind_at}
use Rattle.json_text.proofs.Steps.{value_at, value-start}

-- elements between brackets, read with a level less than d
pub record Opened {A B : Type 0} (d close : ℕ) (element : ℕ → List ℕ → Read A) (of : List A → B) (p r : List ℕ) (x : B) : Type 0 where
  pub levels : ℕ
  pub less : d ≡ suc levels
  pub elements : List A
  pub reads : bracketed close (element levels) (drop 1 p) ≡ done elements r
  pub is : of elements ≡ x

abbrev pub OpenedArray : ℕ → List ℕ → List ℕ → Tree.Items → Type 0
OpenedArray d p r is = Opened d 0x5d (value paired) Tree.as_items p r is

abbrev pub OpenedObject : ℕ → List ℕ → List ℕ → Tree.Members → Type 0
OpenedObject d p r ms = Opened d 0x7d (λ e. member paired (value paired e)) Tree.as_members p r ms

-- the words of the two truths
abbrev pub word_of : Bool → List ℕ
word_of true = bytes "true"
word_of false = bytes "false"

-- what reading a value of the tree x from the front of p, up to the rest r, has read
abbrev Content : ℕ → List ℕ → List ℕ → Json → Type 0
Content d p r Json.null = p ≡ bytes "null" ++ r
Content d p r (Json.boolean b) = p ≡ word_of b ++ r
Content d p r (Json.number s) = Numbers.number p ≡ done s r
Content d p r (Json.string y) = Strings.string paired 0 (drop 1 p) ≡ done y r
Content d p r (Json.array is) = OpenedArray d p r is
Content d p r (Json.object ms) = OpenedObject d p r ms

record Origin (d : ℕ) (p r : List ℕ) (x : Json) : Type 0 where
  kind : kind_from (start (byte p 0)) ≡ kind_of x
  content : Content d p r x

-- the readers of arrays and objects within d levels
record Brackets (d : ℕ) : Type 0 where
  arrays : List ℕ → Read Json
  objects : List ℕ → Read Json
  by : (l : List ℕ) → value paired d l ≡ value_by paired arrays objects l
  array : (p r : List ℕ) (x : Json) → arrays p ≡ done x r → (is : Tree.Items) × OpenedArray d p r is × (Json.array is ≡ x)
  object : (p r : List ℕ) (x : Json) → objects p ≡ done x r → (ms : Tree.Members) × OpenedObject d p r ms × (Json.object ms ≡ x)

brackets : (d : ℕ) → Brackets d
unfolding value
brackets zero = record { arrays = bad _; objects = bad _; by = λ l. refl; array = λ p r x e. bad-done e; object = λ p r x e. bad-done e }
brackets (suc d) =
    record {
      arrays = λ t. made (λ xs. Json.array (Tree.as_items xs)) (bracketed 0x5d (value paired d) (drop 1 t));
      objects = λ t. made (λ ms. Json.object (Tree.as_members ms)) (bracketed 0x7d (member paired (value paired d)) (drop 1 t));
      by = λ l. refl;
      array = λ p r x e.
          let k = made-done (λ xs. Json.array (Tree.as_items xs)) (bracketed 0x5d (value paired d) (drop 1 p)) x r e in
          (Tree.as_items k.0, record { levels = d; less = refl; elements = k.0; reads = k.1; is = refl }, k.2);
      object = λ p r x e.
          let k = made-done (λ ms. Json.object (Tree.as_members ms)) (bracketed 0x7d (member paired (value paired d)) (drop 1 p)) x r e in
          (Tree.as_members k.0, record { levels = d; less = refl; elements = k.0; reads = k.1; is = refl }, k.2);
    }

origin : (d : ℕ) (p r : List ℕ) (x : Json) → value paired d p ≡ done x r → Origin d p r x
unfolding value_at
origin d [] r x e = unfold value_by in bad-done (sym ((brackets d).by []) ∙ e)
origin d (b ∷ l) r x e = go (start b) refl
  where
    k : Brackets d
    k = brackets d

    reads : value_at paired k.arrays k.objects b l ≡ done x r
    reads = sym (value-start paired k.arrays k.objects b l) ∙ sym (k.by (b ∷ l)) ∙ e

    told : {y : Json} {t : Start} → start b ≡ t → kind_from t ≡ kind_of y → Content d (b ∷ l) r y → y ≡ x → Origin d (b ∷ l) r x
    told h same c i = subst (Origin d (b ∷ l) r) i (record { kind = ap kind_from h ∙ same; content = c })

    go : (t : Start) → start b ≡ t → Origin d (b ∷ l) r x
    go Start.string h = let m = made-done Json.string (Strings.string paired 0 l) x r (rw (value_at, h) at reads) in told h refl m.1 m.2
    go Start.number h = let m = made-done Json.number (Numbers.number (b ∷ l)) x r (rw (value_at, h) at reads) in told h refl m.1 m.2
    go Start.array h = let m = k.array (b ∷ l) r x (rw (value_at, h) at reads) in told h refl m.1 m.2
    go Start.object h = let m = k.object (b ∷ l) r x (rw (value_at, h) at reads) in told h refl m.1 m.2
    go Start.letter_t h =
        let f = literal-spells (bytes "true") (Json.boolean true) (b ∷ l) r x (rw (value_at, h) at reads) in
        told {y = Json.boolean true} h refl f.0 f.1
    go Start.letter_f h =
        let f = literal-spells (bytes "false") (Json.boolean false) (b ∷ l) r x (rw (value_at, h) at reads) in
        told {y = Json.boolean false} h refl f.0 f.1
    go Start.letter_n h =
        let f = literal-spells (bytes "null") Json.null (b ∷ l) r x (rw (value_at, h) at reads) in
        told {y = Json.null} h refl f.0 f.1
    go Start.other h = bad-done (rw (value_at, h) at reads)

-- the laws
module _ {p : List ℕ} {x : Json} (w : Whole p x) where
  pub whole-tree : part_tree p ≡ x
  unfolding part_tree
  whole-tree = rw (part_tree, w.reads)

  pub whole-some : 0 < length p
  whole-some = omega (arith, value_consumes paired depth p [] x w.reads)

  pub whole-kind : kind_at p ≡ kind_of x
  unfolding kind_at
  whole-kind = (origin depth p [] x w.reads).kind

module _ {p : List ℕ} where
  pub whole-null : Whole p Json.null → p ≡ bytes "null"
  whole-null w = (origin depth p [] _ w.reads).content

  pub whole_word : {b : Bool} → Whole p (Json.boolean b) → p ≡ word_of b
  whole_word {b} w = (origin depth p [] _ w.reads).content ∙ append-nil (word_of b)

  pub whole-boolean : {b : Bool} → Whole p (Json.boolean b) → eqb (get_or p 0 0) 0x74 ≡ b
  whole-boolean {b = true} w = ap (λ (q : List ℕ). eqb (get_or q 0 0) 0x74) (whole_word w)
  whole-boolean {b = false} w = ap (λ (q : List ℕ). eqb (get_or q 0 0) 0x74) (whole_word w)

  pub number_read : {s : List ℕ} → Whole p (Json.number s) → Numbers.number p ≡ done s []
  number_read w = (origin depth p [] _ w.reads).content

  pub whole-number : {s : List ℕ} → Whole p (Json.number s) → s ≡ p
  whole-number {s} w = sym (number-spells p [] s (number_read w) ∙ append-nil s)

  pub string-read : {y : List ℕ} → Whole p (Json.string y) → Strings.string paired 0 (drop 1 p) ≡ done y []
  string-read w = (origin depth p [] _ w.reads).content

  pub whole-string : {y : List ℕ} → Whole p (Json.string y) → y ≡ Strings.decoded paired 0 (inside p)
  whole-string {y} w =
      let s = string-spelled paired 0 (drop 1 p) y [] (string-read w) in
      let n : length s.part ≡ length p - 2 = omega (arith, ap length s.splits, length-append s.part (0x22 ∷ []), length-drop 1 p) in
      sym s.decodes ∙ ap (Strings.decoded paired 0) (sym (ap (take (length p - 2)) s.splits ∙ take_at s.part (0x22 ∷ []) (length p - 2) n))

  pub whole-quotes : {y : List ℕ} → Whole p (Json.string y) → 2 ≤ length p
  whole-quotes {y} w = omega (arith, string_consumes paired 0 (drop 1 p) [] y (string-read w), length-drop 1 p)

  pub whole-array : {is : Tree.Items} → Whole p (Json.array is) → OpenedArray depth p [] is
  whole-array w = (origin depth p [] _ w.reads).content

  pub whole-object : {ms : Tree.Members} → Whole p (Json.object ms) → OpenedObject depth p [] ms
  whole-object w = (origin depth p [] _ w.reads).content
