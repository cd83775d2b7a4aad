-- The numbers of document 01's "Numbered refusals" and of document 02's requests, each under one name.
use Rattle.std.specs.Prelude.{ℕ}

-- "sheet length 0, not a multiple of 512, or over 65,536"
abbrev pub SHEET_LENGTH : ℕ
SHEET_LENGTH = 1

-- "block check differs"
abbrev pub BLOCK_CHECK : ℕ
BLOCK_CHECK = 2

-- "block header wrong"
abbrev pub BLOCK_HEADER : ℕ
BLOCK_HEADER = 3

-- "slot code outside the lists above, name length or zero bytes wrong, unused slot not zero"
abbrev pub SLOT : ℕ
SLOT = 4

-- "more children are claimed than nodes exist"
abbrev pub MISSING_NODES : ℕ
MISSING_NODES = 5

-- "nodes remain after the root's tree"
abbrev pub LEFT_OVER : ℕ
LEFT_OVER = 6

-- "a node deeper than 32"
abbrev pub TOO_DEEP : ℕ
TOO_DEEP = 7

-- "shape"
abbrev pub SHAPE : ℕ
SHAPE = 8

-- "converted and logical disagree"
abbrev pub DISAGREEMENT : ℕ
DISAGREEMENT = 9

-- "annotation on the wrong physical type, length or parameters"
abbrev pub MISPLACED : ℕ
MISPLACED = 10

-- "DECIMAL scale or precision"
abbrev pub BAD_DECIMAL : ℕ
BAD_DECIMAL = 11

-- "LIST structure"
abbrev pub BAD_LIST : ℕ
BAD_LIST = 12

-- "MAP structure"
abbrev pub BAD_MAP : ℕ
BAD_MAP = 13

-- "output too short, or its start lies beyond its end"
abbrev pub SHORT_OUTPUT : ℕ
SHORT_OUTPUT = 14

-- "value of wrong length, or over 65,536 bytes"
abbrev pub WRONG_LENGTH : ℕ
WRONG_LENGTH = 15

-- "value breaks its annotation"
abbrev pub BREAKS_ANNOTATION : ℕ
BREAKS_ANNOTATION = 16

-- "this column has no order"
abbrev pub NO_ORDER : ℕ
NO_ORDER = 17

-- "fields form no date or time"
abbrev pub NO_DATE_TIME : ℕ
NO_DATE_TIME = 18

-- "fields not representable in a signed 64-bit count"
abbrev pub NOT_REPRESENTABLE : ℕ
NOT_REPRESENTABLE = 19

-- "no accepted sheet has a leaf of this column type, or a time unit is not 1 to 3"
abbrev pub UNKNOWN_TYPE : ℕ
UNKNOWN_TYPE = 20

-- "edition unknown, before all others" (document 02, R-4)
abbrev pub UNKNOWN_EDITION : ℕ
UNKNOWN_EDITION = 21

-- the greatest of them
abbrev pub GREATEST : ℕ
GREATEST = UNKNOWN_EDITION
