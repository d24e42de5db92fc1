-- Demand 2: what the answers say, by any field table t. Each field of the record is one sentence of it, over the definitions of the verdict, the word, the quote
-- and the zone rule, with what it shuts out.
use Rattle.std.specs.Prelude.{Bool, true, false, IsSome, IfSome, ◌≡◌, ℕ, ◌+◌, ◌*◌, ◌/◌, ◌≤◌, ◌<◌, pos, ◌+ℤ◌, ◌*ℤ◌, length, take, Option, Some, None}
use mathlib.Core.List.{List, [], ◌∷◌, ◌++◌, map, Memᴰ}
use Rattle.std.specs.Int.Signed.{le_z}
use Rattle.radix.specs.Fields.{Bytes}
use Rattle.word.specs.declared.Parts.{Parts}
use Rattle.word.specs.Form.{form1, written_form, word_size}
use Rattle.word.specs.Word.{no_parts, word_of, IsWord, read_word}
use Rattle.schema.specs.Shape.{Table, file_shape}
use Rattle.schema.specs.Pick.{Picked, elements}
use Rattle.document.specs.Document.{field, field_items, spelling, truth, given}
use Rattle.decimal.specs.Exact.{ten_thousandths}
use Rattle.fare.specs.declared.Segment.{Segment}
use Rattle.fare.specs.Charges.{charge, charges, clamped, greatest_end, past}
use Rattle.geometry.specs.Ring.{Point}
use Rattle.geometry.specs.Held.{on_ring, odd, holds}
use Rattle.clean.specs.Clean.{records_in, clean_of}
use Rattle.quote.specs.Plan.{price_at, per_minute, per_kilometre, plan_of}
use Rattle.quote.specs.Quote as quote
use Rattle.quote.specs.Quote.{most_seconds, most_metres, quote_of}
use Rattle.zone.specs.Zone.{outline, counts, polygons_of, applies, zones_of}
use Rattle.zone.specs.Answer as zone
use Rattle.zone.specs.Answer.{rule_of, on_map, ruling_of}
use Rattle.cross.specs.Stage.{Feeds}
use Rattle.verdict.specs.Verdict.{broken_rules, before, verdict_number, buffer_of}
use Rattle.fault.specs.Outcome.{unbroken}

-- The verdict: p is among the rules, and none of them comes before it.
pub record First (p : Parts) (l : List Parts) : Type 0 where
  pub among : Memᴰ p l
  pub first : (q : Parts) → Memᴰ q l → before q p ≡ false

-- a call with room for a word gives this number, and leaves a word in the first eight bytes that reads back as these parts
pub record Says (t : Table) (s : Feeds) (number : ℕ) (p : Parts) : Type 0 where
  pub numbered : (b : List ℕ) → word_size ≤ length b → verdict_number t s b ≡ number
  pub written : (b : List ℕ) → word_size ≤ length b → take word_size (buffer_of t s b) ≡ word_of written_form p
  pub read_back : (b : List ℕ) → word_size ≤ length b → read_word (take word_size (buffer_of t s b)) ≡ record { number = 0; parts = p }

-- The price: a segment charges a ride of this length at the moment m, which is its start or some intervals later, is no later than the ride's end, and comes
-- before the segment's end where it has one.
pub record Due (x : Segment) (ride m : ℕ) : Type 0 where
  pub intervals : ℕ
  pub at : m ≡ x.start + intervals * x.interval
  pub within : m ≤ ride
  pub unended : IfSome x.end (λ end. m < end)

-- each is less than all after it
pub data Rising : List ℕ → Type 0 where
  none : Rising []
  more : {t : ℕ} {l : List ℕ} → ((u : ℕ) → Memᴰ u l → t < u) → Rising l → Rising (t ∷ l)

-- what a segment charges: its rate at every moment that is due, once at each
pub record DueCharges (x : Segment) (ride : ℕ) : Type 0 where
  pub moments : List ℕ
  pub once : Rising moments
  pub due : (t : ℕ) → Memᴰ t moments → Due x ride t
  pub all : (t : ℕ) → Due x ride t → Memᴰ t moments
  pub sum : charge x ride ≡ ten_thousandths x.rate *ℤ pos (length moments)

-- the plan of an id, of the bytes of file 5
abbrev pub plan_in : Table → (s id : List ℕ) → Option Picked
plan_in t s id = plan_of (records_in (file_shape t 5) s) id

-- a plan's price and the charges of its segments, by whole minutes and kilometres, and zero where that sum is negative; and whether the ride is past the
-- ends
abbrev pub fare : Picked → (seconds metres : ℕ) → quote.Answer
fare plan seconds metres =
    record {
      number = 0;
      parts = no_parts;
      amount = clamped (ten_thousandths (price_at plan) +ℤ charges (per_minute plan) (seconds / 60) +ℤ charges (per_kilometre plan) (metres / 1000));
      past_minutes = past (per_minute plan) (seconds / 60);
      past_kilometres = past (per_kilometre plan) (metres / 1000);
    }

-- there are segments, all of them end, and a ride of this length is at or past every end
pub record PastEnds (l : List Segment) (ride : ℕ) : Type 0 where
  pub there : l ≡ [] → ⊥
  pub ended : (x : Segment) → Memᴰ x l → IsSome x.end
  pub over : (x : Segment) → Memᴰ x l → IfSome x.end (λ end. end ≤ ride)

-- The zone rule: a rule with its zone and the properties that it stands in; all those of a file, in its order.
pub record ZoneRule : Type 0 where
  pub zone : Picked
  pub properties : Picked
  pub rule : Picked

unfoldable pub every_rule : List Picked → List ZoneRule
every_rule [] = []
every_rule (z ∷ zs) =
    elim (field 74 z) [
      | None ↦ every_rule zs
      | Some p ↦ map (λ r. record { zone = z; properties = p; rule = r }) (field_items 77 p) ++ every_rule zs
    ]

abbrev pub rules_in : Table → List ℕ → List ZoneRule
rules_in t s = every_rule (zones_of t s)

-- a polygon of these rings holds the point: it is on an edge of one of them; or the first of them holds it, and it is inside no further one
pub data HeldBy (q : Point) : List Picked → Type 0 where
  on_edge : {rings : List Picked} (r : Picked) → Memᴰ r rings → on_ring (outline r) q ≡ true → HeldBy q rings
  by_first : {r : Picked} {holes : List Picked} → holds (outline r) q ≡ true → ((h : Picked) → Memᴰ h holes → odd (outline h) q ≡ false)
      → HeldBy q (r ∷ holes)

-- a zone holds the point: one of its polygons does
pub record Holding (zone : Picked) (q : Point) : Type 0 where
  pub polygon : Picked
  pub of_zone : Memᴰ polygon (polygons_of zone)
  pub held : HeldBy q (elements polygon)

-- a rule applies: its zone holds the point and counts at the moment, and it names the type or has no field 78
pub record Applies (q : Point) (type : List ℕ) (moment : ℕ) (r : ZoneRule) : Type 0 where
  pub holding : Holding r.zone q
  pub counting : counts r.properties moment ≡ true
  pub naming : applies r.rule type ≡ true

-- the first of a list that has a property
pub data FirstWith {A : Type 0} (P : A → Type 0) : A → List A → Type 0 where
  here : {x : A} {l : List A} → P x → FirstWith P x (x ∷ l)
  later : {x y : A} {l : List A} → (P y → ⊥) → FirstWith P x l → FirstWith P x (y ∷ l)

-- none has it
abbrev pub NoneWith : {A : Type 0} → (A → Type 0) → List A → Type 0
NoneWith {A} P l = (x : A) → Memᴰ x l → P x → ⊥

-- a rule with this property gives a value: the member is there, and not as ""
abbrev pub Giving : {A : Type 0} → (Picked → Option A) → (ZoneRule → Type 0) → ZoneRule → Type 0
Giving value P r = P r × (given (value r.rule) ≡ true)

-- a value as the first rule that has the property and gives it has it, and none where no such rule stands in the list
pub data FirstValue {A : Type 0} (value : Picked → Option A) (P : ZoneRule → Type 0) (l : List ZoneRule) : Option A → Type 0 where
  by : (r : ZoneRule) → FirstWith (Giving value P) r l → FirstValue value P l (value r.rule)
  by_none : NoneWith (Giving value P) l → FirstValue value P l None

-- what the rules of a list that have the property give together, where one has it: fields 79 to 82, each by the first that gives it
pub record Together (P : ZoneRule → Type 0) (l : List ZoneRule) : Type 0 where
  pub one : ZoneRule
  pub stands : Memᴰ one l
  pub has : P one
  pub ride : Option Bool
  pub through : Option Bool
  pub speed : Option (List ℕ)
  pub parking : Option Bool
  pub ride_by : FirstValue (truth 79) P l ride
  pub through_by : FirstValue (truth 80) P l through
  pub speed_by : FirstValue (spelling 81) P l speed
  pub parking_by : FirstValue (truth 82) P l parking

-- the demand
pub record Demand2 (t : Table) : Type 0 where
  -- A set that breaks no rule is accepted, and its word says nothing else.
  -- Shut out: a verdict that refuses all sets; a call that writes nothing.
  pub accepted : (s : Feeds) → broken_rules t s ≡ [] → Says t s 0 no_parts
  -- Of the rules that a set breaks, there is one with none before it, and only one.
  pub first : (s : Feeds) → (broken_rules t s ≡ [] → ⊥) → (p : Parts) × First p (broken_rules t s)
  pub only : (s : Feeds) (p q : Parts) → First p (broken_rules t s) → First q (broken_rules t s) → p ≡ q
  -- The set is not accepted for that rule.
  -- Shut out: one word for everything; a record number or an offset made up; a later rule named.
  pub not_accepted : (s : Feeds) (p : Parts) → First p (broken_rules t s) → Says t s 1 p
  -- Reading answers 0 and parts exactly where the bytes are the word of these parts, and 3 with nothing else otherwise.
  -- Shut out: a reader that takes any eight bytes; one that refuses all.
  pub word : (s : List ℕ) (p : Parts) → IsWord form1 p s → read_word s ≡ record { number = 0; parts = p }
  pub is_word : (s : List ℕ) → Bytes s → (read_word s).number ≡ 0 → IsWord form1 (read_word s).parts s
  pub no_word : (s : List ℕ) → Bytes s → ((p : Parts) → IsWord form1 p s → ⊥) → read_word s ≡ record { number = 3; parts = no_parts }
  -- A segment asks its rate at its start and after every interval, as long as the ride has come so far and the segment has not ended.
  -- Shut out: a charge at the end minute, or past it; one at the start missed.
  pub charged : (x : Segment) (ride : ℕ) → DueCharges x ride
  -- A ride within the limits, on a plan of a clean file, costs the plan's price and all charges of its segments, or nothing where that sum is negative; and
  -- no other quote gives a price.
  -- Shut out: one amount for everything; a ride rounded up to the next minute; a quote that always refuses, or refuses a large amount; a price out of a file
  -- that is not clean.
  pub price : (s id : List ℕ) (seconds metres : ℕ) (plan : Picked) → seconds ≤ most_seconds → metres ≤ most_metres → clean_of t 5 s ≡ unbroken
      → plan_in t s id ≡ Some plan → quote_of t s id seconds metres ≡ fare plan seconds metres
  pub priced : (s id : List ℕ) (seconds metres : ℕ) → (quote_of t s id seconds metres).number ≡ 0
      → (seconds ≤ most_seconds) × (metres ≤ most_metres) × (clean_of t 5 s ≡ unbroken)
      × (plan : Picked) × (plan_in t s id ≡ Some plan) × (quote_of t s id seconds metres ≡ fare plan seconds metres)
  -- No amount is negative.
  -- Shut out: a credit where discounts outweigh the price.
  pub no_credit : (s id : List ℕ) (seconds metres : ℕ) → le_z (pos 0) (quote_of t s id seconds metres).amount ≡ true
  -- At and past the greatest end of a plan's segments per minute, where all end, every ride costs what it costs at that end, and the mark says so;
  -- and likewise per kilometre.
  -- Shut out: a price that goes on rising past the ends, or has no mark there.
  pub ended_minutes : (s id : List ℕ) (seconds metres : ℕ) (plan : Picked) → (quote_of t s id seconds metres).number ≡ 0 → plan_in t s id ≡ Some plan
      → PastEnds (per_minute plan) (seconds / 60)
      → (quote_of t s id seconds metres ≡ quote_of t s id (greatest_end (per_minute plan) * 60) metres) × ((quote_of t s id seconds metres).past_minutes ≡ true)
  pub ended_kilometres : (s id : List ℕ) (seconds metres : ℕ) (plan : Picked) → (quote_of t s id seconds metres).number ≡ 0 → plan_in t s id ≡ Some plan
      → PastEnds (per_kilometre plan) (metres / 1000)
      → (quote_of t s id seconds metres ≡ quote_of t s id seconds (greatest_end (per_kilometre plan) * 1000)) × ((quote_of t s id seconds metres).past_kilometres ≡ true)
  -- A mark is set for no other ride.
  -- Shut out: a mark from the first minute on.
  pub marked_minutes : (s id : List ℕ) (seconds metres : ℕ) (plan : Picked) → plan_in t s id ≡ Some plan
      → (quote_of t s id seconds metres).past_minutes ≡ true → PastEnds (per_minute plan) (seconds / 60)
  pub marked_kilometres : (s id : List ℕ) (seconds metres : ℕ) (plan : Picked) → plan_in t s id ≡ Some plan
      → (quote_of t s id seconds metres).past_kilometres ≡ true → PastEnds (per_kilometre plan) (metres / 1000)
  -- Where a rule applies, there is what the rules that apply give together.
  pub together : (s : List ℕ) (q : Point) (type : List ℕ) (moment : ℕ) (r : ZoneRule) → Memᴰ r (rules_in t s) → Applies q type moment r
      → Together (Applies q type moment) (rules_in t s)
  -- At a point in range where rules apply, a clean file answers with the values that they give together, and with 9 where none applies; and only there.
  -- Shut out: a zone's value outside of it, or inside one of its holes; a later rule's value, or none where a later rule gives one; 9 for everything.
  pub rule : (s : List ℕ) (q : Point) (type : List ℕ) (moment : ℕ) → on_map q ≡ true → clean_of t 6 s ≡ unbroken
      → (g : Together (Applies q type moment) (rules_in t s))
      → ruling_of t s q type moment ≡ zone.found (rule_of g.ride g.through g.speed g.parking)
  pub no_rule : (s : List ℕ) (q : Point) (type : List ℕ) (moment : ℕ) → on_map q ≡ true → clean_of t 6 s ≡ unbroken
      → NoneWith (Applies q type moment) (rules_in t s) → ruling_of t s q type moment ≡ zone.refused 9 no_parts
  pub ruled : (s : List ℕ) (q : Point) (type : List ℕ) (moment : ℕ) → (ruling_of t s q type moment).number ≡ 0
      → (on_map q ≡ true) × (clean_of t 6 s ≡ unbroken) × Together (Applies q type moment) (rules_in t s)
  pub unruled : (s : List ℕ) (q : Point) (type : List ℕ) (moment : ℕ) → (ruling_of t s q type moment).number ≡ 9
      → (on_map q ≡ true) × (clean_of t 6 s ≡ unbroken) × NoneWith (Applies q type moment) (rules_in t s)
