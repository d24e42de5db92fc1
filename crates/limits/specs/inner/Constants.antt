-- The ceilings as the one value that the constants of the code make.
use Rattle.limits.specs.declared.Limits.{Limits}
use Rattle.limits.specs.Ceilings.{file_bytes, depth, records, segments, polygons, rings, zone_rings, rules, positions, items, id_bytes}

abbrev pub ceilings : Limits
ceilings =
    record {
      file_bytes = file_bytes;
      depth = depth;
      records = records;
      segments = segments;
      polygons = polygons;
      rings = rings;
      zone_rings = zone_rings;
      rules = rules;
      positions = positions;
      items = items;
      id_bytes = id_bytes;
    }
