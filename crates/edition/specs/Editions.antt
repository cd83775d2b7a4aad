-- Which editions there are, and a question for each thing that one decides.
use Rattle.std.specs.Prelude.{ℕ, Bool, ◌&&◌, leb}

-- "1 keeps the old rule"
abbrev pub FIRST : ℕ
FIRST = 1

-- "2 has the new one"
abbrev pub SECOND : ℕ
SECOND = 2

-- "Edition 3 equals edition 2 but refuses INT96 leaves" (document 02, R-10)
abbrev pub THIRD : ℕ
THIRD = 3

-- any other number is "21, edition unknown"
unfoldable pub is_known : ℕ → Bool
is_known edition = leb FIRST edition && leb edition THIRD

-- may a DECIMAL's scale equal its precision? "Format 2.6.0 asks scale below precision; the present text allows equal"
unfoldable pub scale_may_equal : ℕ → Bool
scale_may_equal edition = leb SECOND edition

-- is INT96 retired, so that no leaf may have it?
unfoldable pub int96_retired : ℕ → Bool
int96_retired edition = leb THIRD edition

-- are GEOMETRY and GEOGRAPHY in the list of logical types? "from edition 3" (document 02, R-11)
unfoldable pub has_geospatial : ℕ → Bool
has_geospatial edition = leb THIRD edition
