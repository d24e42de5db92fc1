-- The field table of version 2.3: document 01, "Field table", line by line, and document 02, W1, for files 7 and 8 and field 25, with its letters for needs and sorts (see the imports).
use Rattle.std.specs.Prelude.{[], ◌∷◌, ℕ, ◌+◌}
use Prim.Native.String.{String}
use Rattle.limits.specs.Ceilings as ceiling
use Rattle.notation.specs.Ascii.{bytes}
use Rattle.schema.specs.Shape.{Shape, Table, no_row, scalar, array, object, records, subs, outer, positions, ◌·◌·◌∶◌▸◌, ◌·◌·◌holds◌▸◌}
use Rattle.schema.specs.Shape.Need.{required as R, optional as O, conditional as C}
use Rattle.schema.specs.Shape.Sort.{timestamp as T, integer as N, amount as F, boolean as B, text as S, id, latitude as lat, longitude as lon, any_number, money, price, portion, currency, date, exactly, word}
use Rattle.schema.specs.Words.{form_factors, propulsion_types}

-- every file: the header, with what `data` holds
unfoldable pub file : Shape → Shape
file contents = object (
    1 · R · "version" ∶ exactly (bytes "2.3") ▸
    2 · R · "last_updated" ∶ T ▸
    3 · R · "ttl" ∶ N ▸
    4 · R · "data" holds contents ▸ no_row)

-- files 1 to 5 and 8: `data` holds one array of records
unfoldable pub listing : String → Shape → Shape
listing name record' = file (object (5 · R · name holds array records ceiling.records record' ▸ no_row))

unfoldable pub vehicle_type : Shape
vehicle_type = object (
    10 · R · "vehicle_type_id" ∶ id ▸
    11 · R · "form_factor" ∶ word form_factors ▸
    12 · R · "propulsion_type" ∶ word propulsion_types ▸
    13 · C · "max_range_meters" ∶ F ▸
    14 · C · "default_pricing_plan_id" ∶ id ▸ no_row)

unfoldable pub station : Shape
station = object (
    20 · R · "station_id" ∶ id ▸
    21 · R · "name" ∶ S ▸
    22 · R · "lat" ∶ lat ▸
    23 · R · "lon" ∶ lon ▸
    24 · O · "capacity" ∶ N ▸
    25 · O · "region_id" ∶ id ▸ no_row)

unfoldable pub available : Shape
available = object (
    38 · R · "vehicle_type_id" ∶ id ▸
    39 · R · "count" ∶ N ▸ no_row)

unfoldable pub status : Shape
status = object (
    30 · R · "station_id" ∶ id ▸
    31 · R · "num_bikes_available" ∶ N ▸
    32 · C · "num_docks_available" ∶ N ▸
    33 · R · "is_installed" ∶ B ▸
    34 · R · "is_renting" ∶ B ▸
    35 · R · "is_returning" ∶ B ▸
    36 · R · "last_reported" ∶ T ▸
    37 · C · "vehicle_types_available" holds array subs ceiling.items available ▸ no_row)

unfoldable pub bike : Shape
bike = object (
    40 · R · "bike_id" ∶ id ▸
    41 · C · "lat" ∶ lat ▸
    42 · C · "lon" ∶ lon ▸
    43 · R · "is_reserved" ∶ B ▸
    44 · R · "is_disabled" ∶ B ▸
    45 · C · "vehicle_type_id" ∶ id ▸
    46 · C · "current_range_meters" ∶ F ▸
    47 · O · "station_id" ∶ id ▸
    48 · O · "pricing_plan_id" ∶ id ▸
    49 · O · "current_fuel_percent" ∶ portion ▸ no_row)

-- a segment, its four fields numbered from `start` on
unfoldable pub segment : ℕ → Shape
segment start = object (
    start · R · "start" ∶ N ▸
    start + 1 · R · "rate" ∶ money ▸
    start + 2 · R · "interval" ∶ N ▸
    start + 3 · O · "end" ∶ N ▸ no_row)

unfoldable pub plan : Shape
plan = object (
    50 · R · "plan_id" ∶ id ▸
    51 · R · "name" ∶ S ▸
    52 · R · "currency" ∶ currency ▸
    53 · R · "price" ∶ price ▸
    54 · R · "is_taxable" ∶ B ▸
    55 · R · "description" ∶ S ▸
    56 · O · "per_km_pricing" holds array subs ceiling.segments (segment 57) ▸
    61 · O · "per_min_pricing" holds array subs ceiling.segments (segment 62) ▸
    66 · O · "surge_pricing" ∶ B ▸ no_row)

-- A rule's own number is the sub of its fields' faults, and of the faults of its ids.
unfoldable pub rule : Shape
rule = object (
    78 · O · "vehicle_type_id" holds array outer ceiling.items (scalar id) ▸
    79 · R · "ride_allowed" ∶ B ▸
    80 · R · "ride_through_allowed" ∶ B ▸
    81 · O · "maximum_speed_kph" ∶ N ▸
    82 · O · "station_parking" ∶ B ▸ no_row)

-- Polygons of rings of positions of numbers. The ceilings and the sort in it are not read: `rings/specs/Rings.antt` judges field 73.
unfoldable pub coordinates : Shape
coordinates = array positions ceiling.polygons (array positions ceiling.rings (array positions ceiling.positions (array positions 3 (scalar any_number))))

unfoldable pub zone : Shape
zone = object (
    70 · R · "type" ∶ exactly (bytes "Feature") ▸
    71 · R · "geometry" holds object (
    72 · R · "type" ∶ exactly (bytes "MultiPolygon") ▸
    73 · R · "coordinates" holds coordinates ▸ no_row) ▸
    74 · R · "properties" holds object (
    75 · O · "start" ∶ T ▸
    76 · O · "end" ∶ T ▸
    77 · O · "rules" holds array subs ceiling.rules rule ▸ no_row) ▸ no_row)

unfoldable pub zones : Shape
zones = file (object (
    5 · R · "geofencing_zones" holds object (
    6 · R · "type" ∶ exactly (bytes "FeatureCollection") ▸
    7 · R · "features" holds array records ceiling.records zone ▸ no_row) ▸ no_row))

-- file 7 has no records: what it says of the system stands in `data` itself
unfoldable pub system : Shape
system = file (object (
    90 · R · "system_id" ∶ S ▸
    91 · R · "language" ∶ S ▸
    92 · R · "name" ∶ S ▸
    93 · R · "timezone" ∶ S ▸
    94 · O · "start_date" ∶ date ▸ no_row))

unfoldable pub region : Shape
region = object (
    100 · R · "region_id" ∶ id ▸
    101 · R · "name" ∶ S ▸ no_row)

-- the eight files, in their order
unfoldable pub table23 : Table
table23 =
    listing "vehicle_types" vehicle_type ∷
    listing "stations" station ∷
    listing "stations" status ∷
    listing "bikes" bike ∷
    listing "plans" plan ∷
    zones ∷
    system ∷
    listing "regions" region ∷
    []

-- names all that the table is written with
unfoldable pub written23 : Unit {0}
unfolding table23 listing file vehicle_type station available status bike segment plan rule coordinates zone zones system region form_factors propulsion_types
written23 = tt
