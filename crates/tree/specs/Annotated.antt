-- A node's annotations, as the library `annotation` resolves them.
use Rattle.std.specs.Prelude.{ℕ, Bool, List}
use Rattle.annotation.specs.Kinds.{kind_of}
use Rattle.annotation.specs.Rule9 as nine
use Rattle.annotation.specs.Rule10 as ten
use Rattle.annotation.specs.Rule11 as eleven
use Rattle.annotation.specs.declared.slot.Annotated.{Annotated}
use Rattle.annotation.specs.declared.resolution.Kind.{Kind}
use Rattle.sheet.specs.Slot.{numbers_of}
use Rattle.sheet.specs.declared.slots.Slot.{Slot}

-- of a slot's numbers (`Slot`), those that its annotations go by (`Annotated`): physical, type length, converted, logical, a, b, scale, precision
abbrev pub annotated_by : Slot → Annotated
annotated_by s =
    record {
      physical = s.physical;
      type_length = s.type_length;
      converted = s.converted;
      logical = s.logical;
      a = s.a;
      b = s.b;
      scale = s.scale;
      precision = s.precision;
    }

-- those of a slot's bytes
unfoldable pub annotated : List ℕ → Annotated
annotated s = annotated_by (numbers_of s)

-- the resolved kind of a node, its parent a resolved MAP or not, with p1 and p2 (`Kind`: kind, p1, p2)
unfoldable pub kind : Bool → List ℕ → Kind
kind under s = kind_of (annotated s) under

-- rules 9, 10 and 11 at a node
unfoldable pub rule9 : List ℕ → Bool
rule9 s = nine.rule9 (annotated s)

unfoldable pub rule10 : ℕ → Bool → List ℕ → Bool
rule10 edition under s = ten.rule10 edition (annotated s) under

unfoldable pub rule11 : ℕ → Bool → List ℕ → Bool
rule11 edition under s = eleven.rule11 edition (annotated s) under
