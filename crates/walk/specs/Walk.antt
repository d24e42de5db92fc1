-- The one-level split of an object's or array's bytes: the places of its members and items. A place is counted from the front of p, the
-- bytes from the opening bracket to the closing one. Whatever is no member or item, as the closing bracket, ends the walk.
use Rattle.std.specs.Prelude.{List, [], ◌∷◌, ℕ, zero, suc, ◌+◌, ◌-◌, eqb, length, drop, take, Option, Some, None}
use Rattle.limits.specs.Ceilings.{depth}
use Rattle.notation.specs.Choice.{◌⇒◌else◌}
use Rattle.lexeme.specs.Read.Read.{done, bad}
use Rattle.lexeme.specs.Character.{paired}
use Rattle.lexeme.specs.Strings
use Rattle.lexeme.specs.Tokens.{blanks}
use Rattle.json_text.specs.Text.{expect, value}
use Rattle.walk.specs.declared.Member.{Member}
use Rattle.walk.specs.declared.Item.{Item}

-- where the rest l of p begins
abbrev pub offset_of : List ℕ → List ℕ → ℕ
offset_of p l = length p - length l

-- the bytes of p from a place up to another
abbrev pub part : List ℕ → ℕ → ℕ → List ℕ
part p from upto = take (upto - from) (drop from p)

-- where the next element is looked for: after a comma, or where none stands
unfoldable pub onward : List ℕ → List ℕ → ℕ
onward p [] = length p
onward p (b ∷ r) = eqb b 0x2c ⇒ offset_of p r else offset_of p (b ∷ r)

-- the member that begins at the rest l of p
unfoldable pub member_in : List ℕ → List ℕ → Option Member
member_in p l =
    elim (expect 0x22 (Strings.string paired 0) l) [
      | bad k r ↦ None
      | done name q ↦
          elim (expect 0x3a (λ r. value paired depth (blanks r)) (blanks q)) [
            | bad k r ↦ None
            | done x t ↦
                Some (record {
                  name = offset_of p l + 1;
                  name_end = offset_of p q - 1;
                  value = offset_of p (blanks (drop 1 (blanks q)));
                  value_end = offset_of p t;
                  next = onward p (blanks t);
                })
          ]
    ]

unfoldable pub member_at : List ℕ → ℕ → Option Member
member_at p at = member_in p (blanks (drop at p))

-- the item that begins at the rest l of p
unfoldable pub item_in : List ℕ → List ℕ → Option Item
item_in p l =
    elim (value paired depth l) [
      | bad k r ↦ None
      | done x t ↦ Some (record { value = offset_of p l; value_end = offset_of p t; next = onward p (blanks t) })
    ]

unfoldable pub item_at : List ℕ → ℕ → Option Item
item_at p at = item_in p (blanks (drop at p))

-- all members from a place on, at most `most` of them
abbrev pub member_then : (ℕ → List Member) → Option Member → List Member
member_then rest None = []
member_then rest (Some m) = m ∷ rest m.next

unfoldable pub members_from : ℕ → List ℕ → ℕ → List Member
members_from zero p at = []
members_from (suc most) p at = member_then (members_from most p) (member_at p at)

abbrev pub item_then : (ℕ → List Item) → Option Item → List Item
item_then rest None = []
item_then rest (Some m) = m ∷ rest m.next

unfoldable pub items_from : ℕ → List ℕ → ℕ → List Item
items_from zero p at = []
items_from (suc most) p at = item_then (items_from most p) (item_at p at)

-- those of a whole object or array, from behind its opening bracket on
unfoldable pub members_of : List ℕ → List Member
members_of p = members_from (length p) p 1

unfoldable pub items_of : List ℕ → List Item
items_of p = items_from (length p) p 1
