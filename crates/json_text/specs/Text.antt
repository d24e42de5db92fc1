-- Stage A of document 01: a JSON text by RFC 8259, read to its tree or to its first fault of kind 2, 3 or 4; before all that, kind 1.
use Rattle.std.specs.Prelude.{true, false, List, [], ◌∷◌, ℕ, zero, suc, length, drop, eqb, ltb, Result, Ok, Err}
use Rattle.limits.specs.Ceilings.{file_bytes, depth}
use Rattle.word.specs.Kinds.{too_long, not_json, too_deep}
use Rattle.notation.specs.Choice.{◌⇒◌else◌}
use Rattle.notation.specs.Ascii.{bytes}
use Rattle.lexeme.specs.Read.{Read, then, made, placed, wrong_at}
use Rattle.lexeme.specs.Read.Read.{done, bad}
use Rattle.lexeme.specs.Character.{Surrogates, paired}
use Rattle.lexeme.specs.Strings
use Rattle.lexeme.specs.Numbers
use Rattle.lexeme.specs.Tokens.{blanks, literal}
use Rattle.json_text.specs.Tree.{Json, as_items, as_members}
use Rattle.lexeme.specs.declared.SyntaxError.{SyntaxError}

-- the byte c, and then what f reads
unfoldable pub expect : {A : Type 0} → ℕ → (List ℕ → Read A) → List ℕ → Read A
expect c f [] = bad not_json []
expect c f (b ∷ r) = elim (eqb b c) [ true ↦ f r | false ↦ bad not_json (b ∷ r) ]

-- what follows an element of an array or object: the closing bracket, a comma with the next element after it, or neither
pub data After : Type 0 where
  closed : List ℕ → After
  more : List ℕ → After
  wrong : List ℕ → After

unfoldable pub separator : ℕ → List ℕ → After
separator close [] = wrong []
separator close (b ∷ r) =
    eqb b close ⇒ closed r else
    eqb b 0x2c ⇒ more (blanks r) else wrong (b ∷ r)

unfoldable pub after : ℕ → List ℕ → After
after close l = separator close (blanks l)

-- elements and the closing bracket, at most so many; the first element begins at the front
unfoldable pub elements_up_to : {A : Type 0} → ℕ → ℕ → (List ℕ → Read A) → List ℕ → Read (List A)
elements_up_to close zero element l = bad not_json l
elements_up_to close (suc most) element l =
    then (element l) (λ x r.
    elim (after close r) [
      | closed q ↦ done (x ∷ []) q
      | more q ↦ made (λ xs. x ∷ xs) (elements_up_to close most element q)
      | wrong q ↦ bad not_json q
    ])

-- what stands between brackets, and the closing one. An element takes a byte at least, so the text's length bounds their number
unfoldable pub contents : {A : Type 0} → ℕ → (List ℕ → Read A) → List ℕ → Read (List A)
contents close element [] = bad not_json []
contents close element (b ∷ r) =
    elim (eqb b close) [ true ↦ done [] r | false ↦ elements_up_to close (suc (length (b ∷ r))) element (b ∷ r) ]

unfoldable pub bracketed : {A : Type 0} → ℕ → (List ℕ → Read A) → List ℕ → Read (List A)
bracketed close element l = contents close element (blanks l)

-- a member: its name, a colon, its value
unfoldable pub member : Surrogates → (List ℕ → Read Json) → List ℕ → Read (List ℕ × Json)
member ρ value l =
    then (expect 0x22 (Strings.string ρ 0) l) (λ name r.
    expect 0x3a (λ q. made (λ x. (name, x)) (value (blanks q))) (blanks r))

-- a value, by its first byte; `arrays` and `objects` read those, from their bracket on, and what begins as no other value does is read as a number
unfoldable pub value_by : Surrogates → (List ℕ → Read Json) → (List ℕ → Read Json) → List ℕ → Read Json
value_by ρ arrays objects [] = bad not_json []
value_by ρ arrays objects (b ∷ r) =
    eqb b 0x22 ⇒ made Json.string (Strings.string ρ 0 r) else
    eqb b 0x5b ⇒ arrays (b ∷ r) else
    eqb b 0x7b ⇒ objects (b ∷ r) else
    eqb b 0x74 ⇒ literal (bytes "true") (Json.boolean true) (b ∷ r) else
    eqb b 0x66 ⇒ literal (bytes "false") (Json.boolean false) (b ∷ r) else
    eqb b 0x6e ⇒ literal (bytes "null") Json.null (b ∷ r) else
    made Json.number (Numbers.number (b ∷ r))

-- a value with at most so many levels of brackets; a bracket that opens one more is kind 4
unfoldable pub value : Surrogates → ℕ → List ℕ → Read Json
value ρ zero l = value_by ρ (bad too_deep) (bad too_deep) l
value ρ (suc levels) l =
    value_by ρ
    (λ t. made (λ xs. Json.array (as_items xs)) (bracketed 0x5d (value ρ levels) (drop 1 t)))
    (λ t. made (λ ms. Json.object (as_members ms)) (bracketed 0x7d (member ρ (value ρ levels)) (drop 1 t)))
    l

-- nothing but blanks up to the end
unfoldable pub finish : Json → List ℕ → Read Json
finish x [] = done x []
finish x (b ∷ r) = bad not_json (b ∷ r)

-- a whole text: one value with blanks around it
unfoldable pub text : Surrogates → ℕ → List ℕ → Read Json
text ρ levels l = then (value ρ levels (blanks l)) (λ x r. finish x (blanks r))

-- what the end of reading says
unfoldable pub syntax_by : Result ℕ SyntaxError → Result (Unit {0}) SyntaxError
syntax_by (Ok n) = Ok tt
syntax_by (Err w) = wrong_at w.kind w.offset

-- stage A's verdict on a file
unfoldable pub syntax_of : List ℕ → Result (Unit {0}) SyntaxError
syntax_of s =
    ltb file_bytes (length s) ⇒ wrong_at too_long 0 else
    syntax_by (placed s (text paired depth s))
