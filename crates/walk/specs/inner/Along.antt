-- A walk over a whole array or object, step by step: how far it has come, and what a step that passes over values without reading them answers.
use Rattle.std.specs.Prelude.{List, ◌≡◌, ℕ, ◌+◌, ◌≤◌, ◌<◌, length, take, Option, Some, None}
use Rattle.json_text.specs.Tree.{Json, Items, Members}
use Rattle.walk.specs.declared.Member.{Member}
use Rattle.walk.specs.declared.Item.{Item}
use Rattle.walk.specs.declared.Named.{Named}
use Rattle.walk.specs.Walk.{member_at, item_at}
use Rattle.walk.specs.Part.{Whole}

-- a walk over the items of the array p, or of the one that the first n bytes of p are, has come to `at`
pub data AlongItems (p : List ℕ) : ℕ → Type 0 where
  start : {is : Items} → Whole p (Json.array is) → AlongItems p 1
  front : {is : Items} (n : ℕ) → Whole (take n p) (Json.array is) → AlongItems p 1
  next : {at : ℕ} {m : Item} → AlongItems p at → item_at p at ≡ Some m → AlongItems p m.next

-- a walk over the members of the object p, or of the one that the first n bytes of p are, has come to `at`
pub data AlongMembers (p : List ℕ) : ℕ → Type 0 where
  start : {ms : Members} → Whole p (Json.object ms) → AlongMembers p 1
  front : {ms : Members} (n : ℕ) → Whole (take n p) (Json.object ms) → AlongMembers p 1
  next : {at : ℕ} {m : Member} → AlongMembers p at → member_at p at ≡ Some m → AlongMembers p m.next

-- the places of a member in p that was found at `at` are in order
pub record Placed (p : List ℕ) (at : ℕ) (m : Member) : Type 0 where
  pub later : at < m.name
  pub name : m.name ≤ m.name_end
  pub apart : m.name_end + 1 < m.value
  pub value : m.value < m.value_end
  pub next : m.value_end ≤ m.next
  pub inside : m.next ≤ length p

-- the places of its front are
pub record NamePlaced (p : List ℕ) (at : ℕ) (n : Named) : Type 0 where
  pub later : at < n.name
  pub name : n.name ≤ n.name_end
  pub apart : n.name_end + 1 < n.value
  pub inside : n.value ≤ length p

-- the places of an item in p that was found at `at` are in order
pub record ItemPlaced (p : List ℕ) (at : ℕ) (m : Item) : Type 0 where
  pub later : at ≤ m.value
  pub value : m.value < m.value_end
  pub next : m.value_end ≤ m.next
  pub inside : m.next ≤ length p

-- what is found at `at` in any bytes stands in order, and along a whole array it is the item there
pub record ItemPassed (p : List ℕ) (at : ℕ) (r : Option Item) : Type 0 where
  pub placed : (m : Item) → r ≡ Some m → ItemPlaced p at m
  pub same : AlongItems p at → r ≡ item_at p at

-- what is found at `at` in any bytes stands in order, and along a whole object it is the member there
pub record MemberPassed (p : List ℕ) (at : ℕ) (r : Option Member) : Type 0 where
  pub placed : (m : Member) → r ≡ Some m → Placed p at m
  pub same : AlongMembers p at → r ≡ member_at p at

-- the front of what a step finds; and what is found as a front at `at`: in order in any bytes, and along a whole object the front of the member there
abbrev pub front_of : Option Member → Option Named
front_of None = None
front_of (Some m) = Some (record { name = m.name; name_end = m.name_end; value = m.value })

pub record NamePassed (p : List ℕ) (at : ℕ) (r : Option Named) : Type 0 where
  pub placed : (n : Named) → r ≡ Some n → NamePlaced p at n
  pub same : AlongMembers p at → r ≡ front_of (member_at p at)
