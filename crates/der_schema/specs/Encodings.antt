-- The elements that a walk visits, as a schema sees them.
use Rattle.std.specs.Prelude.{ℕ, ◌+◌, Option, Some, None, List, drop, map, take}
use Rattle.der_elements.specs.Visits.{Visited}
use Rattle.der_schema.specs.Meaning.{Encoding}
use Rattle.der_schema.specs.Opened.{Seen, seen}

-- the content octets of an element whose content begins at p in i; with an indefinite length, all octets from there on
abbrev pub octets_at : List ℕ → ℕ → Option ℕ → List ℕ
octets_at i p (Some n) = take n (drop p i)
octets_at i p None = drop p i

-- what a schema sees of an element that is visited in i
abbrev pub encoding_in : List ℕ → Visited → Encoding
encoding_in i v = record {
  class = v.class;
  constructed = v.constructed;
  number = v.number;
  content = octets_at i (v.offset + v.header) v.length;
}

abbrev pub seen_in : List ℕ → Visited → Seen
seen_in i v = seen v.depth (encoding_in i v)

abbrev pub all_seen : List ℕ → List Visited → List Seen
all_seen i vs = map (seen_in i) vs
