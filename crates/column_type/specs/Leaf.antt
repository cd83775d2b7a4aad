-- When a sheet has a leaf of a column type in an edition: what refusal 20 speaks of ("no accepted sheet has a leaf of this column type").
use Rattle.std.specs.Prelude.{ℕ, ◌*◌, ◌^◌, ◌<◌, ◌≡◌, false, List, length, get_or, drop}
use Rattle.sheet.specs.Block.{total_of}
use Rattle.tree.specs.Rules.{is_group}
use Rattle.schema.specs.Rows.{row_width}
use Rattle.schema.specs.Outcome.{outcome, written}
use Rattle.schema.specs.Demand.{Accepted}
use Rattle.column_type.specs.declared.types.ColumnType.{ColumnType}

-- "physical, type length, repetition, kind, p1, p2, parent, end, role" and the two levels: the column type that a row has
unfoldable pub column_of : List ℕ → ColumnType
column_of row =
    record {
      physical = get_or row 0 0;
      type_length = get_or row 1 0;
      kind = get_or row 3 0;
      p1 = get_or row 4 0;
      p2 = get_or row 5 0;
    }

-- the column type in the row of node k, in the numbers that resolving a sheet leaves where `lent` were lent
unfoldable pub column_at : ℕ → List ℕ → List ℕ → ℕ → ColumnType
column_at edition sheet lent k = column_of (drop (row_width * k) (written (outcome edition sheet (length lent)) sheet lent))

-- node k of a sheet is a leaf of a column type: the sheet is one of bytes, it is accepted in the edition, k is the number of one of its nodes, which is a leaf, and has this column type in its row
pub record IsLeafOf (edition : ℕ) (c : ColumnType) (sheet lent : List ℕ) (k : ℕ) : Type 0 where
  pub bytes : (i : ℕ) → get_or sheet i 0 < 2 ^ 8
  pub accepted : Accepted (outcome edition sheet (length lent))
  pub below : k < total_of sheet
  pub leaf : is_group c.physical ≡ false
  pub column : column_at edition sheet lent k ≡ c

-- an accepted sheet has a leaf of this column type
unfoldable pub HasLeaf : ℕ → ColumnType → Type 0
HasLeaf edition c = (sheet : List ℕ) × (lent : List ℕ) × (k : ℕ) × IsLeafOf edition c sheet lent k
