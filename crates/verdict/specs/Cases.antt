-- Verdicts on sets, computed: what comes ahead of what. Document 01's own readings (k) and (l) stand in the table of all of them.
use Rattle.std.specs.Prelude.{List, [], ◌∷◌, ◌++◌, refl, ℕ, Err}
use Prim.Native.String.{String}
use Rattle.notation.specs.Case.{Case, Answers, json}
use Rattle.schema.specs.Records.{identified}
use Rattle.schema.specs.Tables.{table_at}
use Rattle.schema.specs.Pick as pick
use Rattle.document.specs.Document as document
use Rattle.judge.specs.Cases.{judging, in_data}
use Rattle.clean.specs.Clean as clean
use Rattle.ids.specs.References as references
use Rattle.cross.specs.Cross as cross
use Rattle.cross.specs.Stage.{Feeds}
use Rattle.verdict.specs.Verdict.{each_from, stage_a, stage_b_by, stage_c, broken_rules_by, before, first, verdict_of}
use Rattle.fault.specs.Outcome.{Outcome, unbroken}

-- opens every definition of a verdict
unfoldable pub judging_sets : Unit {0}
unfolding judging identified pick.slot_of document.field document.field_items document.along document.text document.spelling clean.tree_of clean.records_of clean.used_before clean.repeated_id clean.repeats_from clean.repeats references.any_with cross.sum_of cross.available_faults cross.id_faults cross.rule_faults cross.type_faults cross.station_faults cross.status_faults cross.bike_faults cross.zone_faults cross.each_record cross.faults_of cross.missing_file cross.cross_faults each_from stage_a stage_b_by stage_c broken_rules_by before first verdict_of
judging_sets = tt

-- a file that lists these records under this name
abbrev pub listing : (name records : String) → List ℕ
listing name records = in_data (json "{'" ++ json name ++ json "':[" ++ json records ++ json "]}")

-- the system's own file
abbrev pub system : List ℕ
system = in_data (json "{'system_id':'s','language':'en','name':'S','timezone':'UTC'}")

-- a set of bikes alone, and one with the system's own file, which every accepted set has
abbrev pub bikes_alone : List ℕ → Feeds
bikes_alone bikes = [] ∷ [] ∷ [] ∷ bikes ∷ []

abbrev pub with_system : (types stations bikes : List ℕ) → Feeds
with_system types stations bikes = types ∷ stations ∷ [] ∷ bikes ∷ [] ∷ [] ∷ system ∷ []

abbrev pub broken : (file kind field rec sub offset : ℕ) → Outcome
broken file kind field rec sub offset =
    Err (record { file = file; kind = kind; field = field; «record» = rec; sub = sub; offset = offset })

-- the bikes of document 01's run, of which the last has nothing
abbrev pub three_bikes : List ℕ
three_bikes =
    listing "bikes" "{'bike_id':'a','is_reserved':false,'is_disabled':false},{'bike_id':'b','is_reserved':false,'is_disabled':false},{}"

-- and they once more, with members in another order, unlisted ones, a name with an escape, and a blank
abbrev later_bikes : List ℕ
later_bikes =
    json "{'data':{'x':[1],'bikes':[{'is_reserved':false,'bike_id':'a','is_disabled':false},{'is_disabled':false,'bike_id':'b','is_reserved':false},{'y':0}]},'ttl': 0,'versi\\u006fn':'2.3','last_updated':0}"

-- vehicle types, stations and bikes, with the system's own file
abbrev sets : List (Case (List ℕ × List ℕ × List ℕ) Outcome)
sets =
    ("no bike, but a list of them", ([], [], listing "bikes" ""), unbroken) ∷
    ("neither stations nor bikes", ([], [], []), broken 4 14 0 0 0 0) ∷
    ("stations call for their statuses", ([], listing "stations" "", []), broken 3 14 0 0 0 0) ∷
    ("stage A of file 4 ahead of stage B of file 1", (json "{'version':'2.2'}", [], json "[1,]"), broken 4 2 0 0 0 3) ∷
    ("stage B of file 4 ahead of stage C of file 3", ([], listing "stations" "", three_bikes), broken 4 6 40 3 0 0) ∷
    ("in one stage a file ahead of higher ones", (json "[", json "[1,]", []), broken 1 2 0 0 0 1) ∷
    ("another version ahead of a wrong last_updated, wherever it stands", ([], [], json "{'last_updated':'x','ttl':0,'data':{'bikes':[]},'version':'3.0'}"), broken 4 9 1 0 0 0) ∷
    ("an empty version is missing", ([], [], json "{'last_updated':'x','ttl':0,'data':{'bikes':[]},'version':''}"), broken 4 6 1 0 0 0) ∷
    ("order, unlisted members, escapes and blanks change nothing", ([], [], later_bikes), broken 4 6 40 3 0 0) ∷
    ("an id twice, ahead of the second's missing place", ([], [], listing "bikes" "{'bike_id':'a','lat':1,'lon':1,'is_reserved':false,'is_disabled':false},{'bike_id':'a','is_reserved':false,'is_disabled':false}"), broken 4 12 40 2 0 0) ∷
    ("a station that is not there", ([], [], listing "bikes" "{'bike_id':'a','station_id':'s','is_reserved':false,'is_disabled':false}"), broken 4 13 47 1 0 0) ∷
    ("neither a place nor a station", ([], [], listing "bikes" "{'bike_id':'a','is_reserved':false,'is_disabled':false}"), broken 4 14 41 1 0 0) ∷
    []

sets-answered : Answers (λ c. verdict_of (table_at 0) (with_system c.0 c.1 c.2)) sets
unfolding judging_sets
sets-answered = refl

-- stations of which one has this region, and the regions of these names
abbrev station_in : String → List ℕ
station_in region = in_data (json "{'stations':[{'station_id':'s','name':'S','lat':1,'lon':1,'region_id':'" ++ json region ++ json "'}]}")

abbrev with_regions : (stations regions : List ℕ) → Feeds
with_regions stations regions = [] ∷ stations ∷ listing "stations" "" ∷ [] ∷ [] ∷ [] ∷ system ∷ regions ∷ []

abbrev one_region : List ℕ
one_region = listing "regions" "{'region_id':'r','name':'R'}"

abbrev two_alike : List ℕ
two_alike = listing "regions" "{'region_id':'r','name':'R'},{'region_id':'r','name':'Q'}"

abbrev regions : List (Case Feeds Outcome)
regions =
    ("the system's own file is missing", bikes_alone (listing "bikes" ""), broken 7 14 0 0 0 0) ∷
    ("stage B of file 4 ahead of that", bikes_alone three_bikes, broken 4 6 40 3 0 0) ∷
    ("that ahead of file 8", [] ∷ [] ∷ [] ∷ listing "bikes" "" ∷ [] ∷ [] ∷ [] ∷ two_alike ∷ [], broken 7 14 0 0 0 0) ∷
    ("a station in a region", with_regions (station_in "r") one_region, unbroken) ∷
    ("a region that is not there, though a station has its id", with_regions (station_in "s") one_region, broken 2 13 25 1 0 0) ∷
    ("a region without a file of regions", with_regions (station_in "r") [], broken 2 13 25 1 0 0) ∷
    ("a region twice", with_regions (station_in "r") two_alike, broken 8 12 100 2 0 0) ∷
    []

regions-answered : Answers (verdict_of (table_at 0)) regions
unfolding judging_sets
regions-answered = refl
