-- What demand 3 speaks of, and what rewriting promises beside it.
use Rattle.std.specs.Prelude.{ℕ, ◌+◌, ◌*◌, ◌≤◌, ◌≡◌, Bool, true, List, pos, length}
use Rattle.sheet.specs.Block.{total_of}
use Rattle.edition.specs.Editions.{is_known}
use Rattle.sheet.specs.Opening.{BlocksSound, SlotsSound}
use Rattle.parquet.specs.Physical.{GROUP}
use Rattle.parquet.specs.Converted as converted
use Rattle.parquet.specs.Logical as logical
use Rattle.logical_type.specs.Parameters.{UNUSED}
use Rattle.logical_type.specs.Spelling.{code_of, a_of, b_of, stated_of}
use Rattle.logical_type.specs.Forward.{image_of}
use Rattle.logical_type.specs.Backward.{backward_of}
use Rattle.logical_type.specs.declared.types.LogicalType.{LogicalType}
use Rattle.logical_type.specs.declared.types.Annotation.{Annotation}
use Rattle.annotation.specs.Kinds.{PLAIN_LEAF, PLAIN_GROUP}
use Rattle.annotation.specs.declared.resolution.Kind.{Kind}
use Rattle.sheet.specs.Slot.{physical, repetition, converted as convertedOf, logical as logicalOf, parameter_a, parameter_b, child_count, type_length_of, scale, precision, name, slots}
use Rattle.tree.specs.Tree.{SlotBytes, Tree, AtMostDeep, Claims, listing, most_depth}
use Rattle.tree.specs.Rules.{Keeps}
use Rattle.schema.specs.Rows.{row_width, number_in}
use Rattle.tree.specs.declared.standing.Standing.TheVariants.{Root}
use Rattle.refusal.specs.Outcome.{Counted}
use Rattle.std.specs.Prelude.{Ok, Err}

-- a tree of a sheet in an edition: at most 32 deep, it keeps every rule, claims its children rightly and lists the sheet's nodes
pub record IsTreeOf (edition : ℕ) (bytes : List ℕ) (t : Tree) : Type 0 where
  pub deep : AtMostDeep most_depth t
  pub keeps : Keeps edition Root t
  pub claims : Claims t
  pub lists : listing t ≡ slots bytes

-- "blocks are sound where refusals 1 to 3 don't hold, node slots where 4 doesn't"; and the edition is known where 21 doesn't (02, R-4)
pub record Sound (edition : ℕ) (bytes : List ℕ) : Type 0 where
  pub known : is_known edition ≡ true
  pub blocks : BlocksSound bytes
  pub slots : SlotsSound edition bytes

-- output is enough where 14 does not hold
unfoldable pub EnoughOutput : List ℕ → ℕ → Type 0
EnoughOutput bytes lent = row_width * total_of bytes ≤ lent

-- accepted: an answer with rows and no refusal
unfoldable pub Accepted : Counted → Type 0
Accepted (Ok t) = Unit {0}
Accepted (Err r) = ⊥

-- "rewriting accepts the same sheets where its own output is enough"
unfoldable pub EnoughRoom : List ℕ → ℕ → ℕ → Type 0
EnoughRoom bytes lent start = start + length bytes ≤ lent

unfoldable pub AcceptedRewriting : Counted → Type 0
AcceptedRewriting (Ok n) = Unit {0}
AcceptedRewriting (Err r) = ⊥

-- a slot has every field of another but its annotations: "All else .. is copied"
pub record Copied (copy s : SlotBytes) : Type 0 where
  pub physical_is : physical copy ≡ physical s
  pub repetition_is : repetition copy ≡ repetition s
  pub child_count_is : child_count copy ≡ child_count s
  pub type_length_is : type_length_of copy ≡ type_length_of s
  pub scale_is : scale copy ≡ scale s
  pub precision_is : precision copy ≡ precision s
  pub name_is : name copy ≡ name s

-- the kind, p1 and p2 in the row of node k
abbrev pub kind_in : List ℕ → ℕ → Kind
kind_in numbers k = record { kind = number_in numbers k 3; p1 = number_in numbers k 4; p2 = number_in numbers k 5 }

-- what the annotations of a slot resolve to, its parent a resolved MAP or not, in the kind of its node's row
pub record ResolvesTo (under : Bool) (s : SlotBytes) (k : Kind) : Type 0 where
  -- a logical type that stands is the kind, and a and b are p1 and p2
  pub logical_kind_lem : (logicalOf s ≡ logical.NONE → ⊥) → k.kind ≡ logicalOf s
  pub logical_p1 : (logicalOf s ≡ logical.NONE → ⊥) → (logicalOf s ≡ logical.DECIMAL → ⊥) → k.p1 ≡ parameter_a s
  pub logical_p2 : (logicalOf s ≡ logical.NONE → ⊥) → (logicalOf s ≡ logical.DECIMAL → ⊥) → k.p2 ≡ parameter_b s
  -- "converted alone means the same logical type", as it is read backward
  pub converted_kind : logicalOf s ≡ logical.NONE → (l : LogicalType) → backward_of (convertedOf s) under ≡ Annotation.Logical l → k.kind ≡ code_of l
  pub converted_p1 : logicalOf s ≡ logical.NONE → (l : LogicalType) → backward_of (convertedOf s) under ≡ Annotation.Logical l → (code_of l ≡ logical.DECIMAL → ⊥) → k.p1 ≡ a_of l
  pub converted_p2 : logicalOf s ≡ logical.NONE → (l : LogicalType) → backward_of (convertedOf s) under ≡ Annotation.Logical l → (code_of l ≡ logical.DECIMAL → ⊥) → k.p2 ≡ b_of l
  -- "INTERVAL exists only as converted"
  pub interval_kind : logicalOf s ≡ logical.NONE → backward_of (convertedOf s) under ≡ Annotation.Interval → k.kind ≡ converted.INTERVAL
  -- no annotation: "0 plain leaf", "30 plain group"
  pub plain_leaf : logicalOf s ≡ logical.NONE → backward_of (convertedOf s) under ≡ Annotation.Plain → (physical s ≡ GROUP → ⊥) → k.kind ≡ PLAIN_LEAF
  pub plain_group : logicalOf s ≡ logical.NONE → backward_of (convertedOf s) under ≡ Annotation.Plain → physical s ≡ GROUP → k.kind ≡ PLAIN_GROUP
  -- "p1, p2: precision and scale" of a DECIMAL
  pub decimal_p1 : k.kind ≡ logical.DECIMAL → pos k.p1 ≡ precision s
  pub decimal_p2 : k.kind ≡ logical.DECIMAL → pos k.p2 ≡ scale s

-- a slot with such a converted type alone, or with none: no logical type and no parameters
pub record ConvertedAlone (code : ℕ) (s : SlotBytes) : Type 0 where
  pub converted_is : convertedOf s ≡ code
  pub logical_is : logicalOf s ≡ logical.NONE
  pub a_is : parameter_a s ≡ UNUSED
  pub b_is : parameter_b s ≡ UNUSED

abbrev pub Bare : SlotBytes → Type 0
Bare s = ConvertedAlone converted.NONE s

-- a slot with a logical type, "its parameters and its forward image": those of the kind in its node's row, in which a DECIMAL has precision and scale
pub record WithLogical (k : Kind) (s : SlotBytes) : Type 0 where
  pub logical_is : logicalOf s ≡ k.kind
  pub a_is : (k.kind ≡ logical.DECIMAL → ⊥) → parameter_a s ≡ k.p1
  pub b_is : (k.kind ≡ logical.DECIMAL → ⊥) → parameter_b s ≡ k.p2
  pub decimal_a : k.kind ≡ logical.DECIMAL → parameter_a s ≡ UNUSED
  pub decimal_b : k.kind ≡ logical.DECIMAL → parameter_b s ≡ UNUSED
  pub image_is : convertedOf s ≡ image_of (stated_of (logicalOf s) (parameter_a s) (parameter_b s))

-- what a rewritten slot has, by the kind in its node's row: "every resolved logical annotation with its parameters and its forward image; INTERVAL keeps
-- converted alone", and a node without annotation has none
pub record WrittenBack (k : Kind) (s : SlotBytes) : Type 0 where
  pub plain_leaf : k.kind ≡ PLAIN_LEAF → Bare s
  pub plain_group : k.kind ≡ PLAIN_GROUP → Bare s
  pub interval : k.kind ≡ converted.INTERVAL → ConvertedAlone converted.INTERVAL s
  pub any_other : (k.kind ≡ PLAIN_LEAF → ⊥) → (k.kind ≡ PLAIN_GROUP → ⊥) → (k.kind ≡ converted.INTERVAL → ⊥) → WithLogical k s
