-- Files and the first rule that each breaks, computed.
use Rattle.std.specs.Prelude.{List, [], ◌∷◌, ◌++◌, refl, ℕ, zero, suc, Option, None, Some}
use Prim.Native.String.{String}
use Rattle.notation.specs.Case.{Case, Answers, json}
use Rattle.walk.specs.Part.{part_tree}
use Rattle.text.specs.Cases.{comparing}
use Rattle.calendar.specs.Cases.{dating}
use Rattle.schema.specs.Shape.{file_shape}
use Rattle.schema.specs.Tables.{table_at}
use Rattle.schema.specs.Pick.{find}
use Rattle.fault.specs.Fault.{fault, before, lesser, least, faulty}
use Rattle.scalar.specs.Scalars.{any_money, price_money, pricing, any_word, capitals, currency}
use Rattle.rings.specs.Cases.{ringing}
use Rattle.judge.specs.Faults.{each_item, faults_by, file_faults_by, file_faults}
use Rattle.fault.specs.declared.Fault.{Fault}

-- opens every definition of stage B
unfoldable pub judging : Unit {0}
unfolding ringing comparing dating file_shape find before lesser least any_money price_money pricing any_word capitals currency faulty each_item faults_by file_faults_by
judging = tt

unfoldable times : ℕ → List ℕ → List ℕ
times zero s = []
times (suc n) s = s ++ times n s

-- a file with this value of `data`, under a sound header
abbrev pub in_data : List ℕ → List ℕ
in_data s = json "{'version':'2.3','last_updated':0,'ttl':0,'data':" ++ s ++ json "}"

-- a file of one plan with these segments by the minute
abbrev plan : List ℕ → List ℕ
plan segments =
    in_data
    (json "{'plans':[{'plan_id':'p','name':'n','currency':'EUR','price':'2','is_taxable':true,'description':'d','per_min_pricing':[" ++
    segments ++
    json "]}]}")

-- a file of one zone with these polygons and properties
abbrev zone : (polygons properties : List ℕ) → List ℕ
zone polygons properties =
    in_data
    (json "{'geofencing_zones':{'type':'FeatureCollection','features':[{'type':'Feature','geometry':{'type':'MultiPolygon','coordinates':[" ++
    polygons ++
    json "]},'properties':{" ++
    properties ++
    json "}}]}}")

-- a file 7 with this behind the required members
abbrev system : List ℕ → List ℕ
system more = in_data (json "{'system_id':'s','language':'en','name':'n','timezone':'Europe/Paris'" ++ more ++ json "}")

-- one with a sound rule and another; one with these polygons
abbrev second_rule : List ℕ → List ℕ
second_rule rule = zone [] (json "'rules':[{'ride_allowed':true,'ride_through_allowed':true}," ++ rule ++ json "]")

abbrev polygons : String → List ℕ
polygons s = zone (json s) []

abbrev broken : (rec field sub kind : ℕ) → Option Fault
broken rec field sub kind = Some (fault rec field sub kind)

-- a file by its number and text
abbrev files : List (Case (ℕ × List ℕ) (Option Fault))
files =
    -- the header
    ("no record", (4, in_data (json "{'bikes':[]}")), None) ∷
    ("no version", (4, json "{'last_updated':0,'ttl':0,'data':{'bikes':[]}}"), broken 0 1 0 6) ∷
    ("version ahead of last_updated", (4, json "{'last_updated':-1,'version':'2.2','ttl':0,'data':{'bikes':[]}}"), broken 0 1 0 9) ∷
    ("no object", (2, json "[]"), broken 0 0 0 7) ∷
    ("data is blank", (1, in_data (json "''")), broken 0 4 0 6) ∷
    ("a name twice hides what it holds", (4, json "{'version':'2.3','last_updated':0,'ttl':0,'data':7,'data':{'bikes':[]}}"), broken 0 4 0 5) ∷
    ("a name twice, once with an escape", (4, json "{'version':'2.3','versi\\u006fn':7,'last_updated':-1,'ttl':0}"), broken 0 1 0 5) ∷
    -- records
    ("no name in the second station", (2, in_data (json "{'stations':[{'station_id':'s','name':'n','lat':0,'lon':0},{'station_id':'t','lat':0,'lon':0}]}")), broken 2 21 0 6) ∷
    ("a bike that is no object", (4, in_data (json "{'bikes':[7]}")), broken 1 5 0 7) ∷
    ("a zone that is no object", (6, in_data (json "{'geofencing_zones':{'type':'FeatureCollection','features':[null]}}")), broken 1 7 0 7) ∷
    ("a blank id", (4, in_data (json "{'bikes':[{'bike_id':'','is_reserved':false,'is_disabled':false}]}")), broken 1 40 0 6) ∷
    ("null for an optional member", (2, in_data (json "{'stations':[{'station_id':'s','name':'n','lat':90,'lon':180,'capacity':null}]}")), broken 1 24 0 7) ∷
    ("a region that is no string", (2, in_data (json "{'stations':[{'station_id':'s','name':'n','lat':0,'lon':0,'region_id':7}]}")), broken 1 25 0 7) ∷
    ("a region without a name", (8, in_data (json "{'regions':[{'region_id':'r','name':'n'},{'region_id':'q'}]}")), broken 2 101 0 6) ∷
    ("an id of 101 bytes", (8, in_data (json "{'regions':[{'name':'n','region_id':'" ++ times 101 (json "r") ++ json "'}]}")), broken 1 100 0 9) ∷
    -- the system
    ("a system", (7, system []), None) ∷
    ("with a start date", (7, system (json ",'start_date':'2000-02-29'")), None) ∷
    ("no real date", (7, system (json ",'start_date':'1900-02-29'")), broken 0 94 0 9) ∷
    ("no string", (7, system (json ",'start_date':20000229")), broken 0 94 0 7) ∷
    ("no time zone", (7, in_data (json "{'system_id':'s','language':'en','name':'n'}")), broken 0 93 0 6) ∷
    ("a system_id of 101 bytes, which is no id", (7, in_data (json "{'system_id':'" ++ times 101 (json "s") ++ json "','language':7}")), broken 0 91 0 7) ∷
    -- arrays in records
    ("a segment without a rate", (5, plan (json "{'start':1,'rate':1,'interval':1},{'start':1,'interval':1}")), broken 1 63 2 6) ∷
    ("one that is no object", (5, plan (json "{},[]")), broken 1 61 2 7) ∷
    ("too many segments, ahead of what is in them", (5, plan (times 16 (json "{},") ++ json "7")), broken 1 61 0 10) ∷
    ("a type's id in the second rule", (6, second_rule (json "{'vehicle_type_id':['a',7],'ride_allowed':true,'ride_through_allowed':true}")), broken 1 78 2 7) ∷
    ("too many ids there", (6, second_rule (json "{'vehicle_type_id':[" ++ times 64 (json "'',") ++ json "''],'ride_allowed':true,'ride_through_allowed':true}")), broken 1 78 2 10) ∷
    -- coordinates
    ("a ring that rounding closes", (6, polygons "[[[0,0],[0,2],[2,2],[2,0,1e9],[0.0000001,0]]]"), None) ∷
    ("a position of the second polygon", (6, polygons "[[[0,0],[0,2],[2,2],[0,0]]],[[[0,0],[0,91],[2,2],[0,0]]]"), broken 1 73 6 9) ∷
    ("an open ring", (6, polygons "[[[0,0],[0,2],[2,2],[2,0]]]"), broken 1 73 1 11) ∷
    ("an open second ring", (6, polygons "[[[0,0],[0,9],[9,9],[0,0]],[[1,2],[1,3],[2,3],[1,7]]]"), broken 1 73 5 11) ∷
    ("a polygon without a ring", (6, polygons "[[[0,0],[0,9],[9,9],[0,0]],[[1,2],[1,3],[2,3],[1,2]]],[]"), broken 1 73 9 11) ∷
    ("fifteen rings that are no arrays", (6, polygons "[7,7,7,7,7,7,7,7],[7,7,7,7,7,7,7]"), broken 1 73 1 7) ∷
    ("sixteen, which are too many", (6, polygons "[7,7,7,7,7,7,7,7],[7,7,7,7,7,7,7,7]"), broken 1 73 0 10) ∷
    []

files-answered : Answers (λ c. least (file_faults (file_shape (table_at 0) c.0) (part_tree c.1))) files
unfolding judging times
files-answered = refl
