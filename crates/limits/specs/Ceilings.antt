-- The ceilings of document 01, "The feed set", and those of rings, document 02's request W13, one name each.
use Rattle.std.specs.Prelude.{ℕ}

-- bytes of a file
abbrev pub file_bytes : ℕ
file_bytes = 1_048_575

-- levels of brackets; the outermost array or object is level 1
abbrev pub depth : ℕ
depth = 16

-- records of a file
abbrev pub records : ℕ
records = 4_095

-- segments of each sort in a plan
abbrev pub segments : ℕ
segments = 16

-- polygons of a zone
abbrev pub polygons : ℕ
polygons = 15

-- rings of a polygon
abbrev pub rings : ℕ
rings = 8

-- rings of a zone, over all its polygons
abbrev pub zone_rings : ℕ
zone_rings = 15

-- rules of a zone
abbrev pub rules : ℕ
rules = 32

-- positions of a ring
abbrev pub positions : ℕ
positions = 256

-- items of field 37, and of field 78
abbrev pub items : ℕ
items = 64

-- bytes of an id, its escapes decoded
abbrev pub id_bytes : ℕ
id_bytes = 100
