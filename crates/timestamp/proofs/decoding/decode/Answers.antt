-- `timestamp::decoding::decode` meets its contract: fields that a count stands for are its only ones.
use mathlib.Core.Path.{◌≡◌, refl, sym, ap, subst, ◌∙◌}
use mathlib.Core.Option.{Option, some}
use lib.IntN.{ℤ}
use mir.Syntax.{w64}
use mir.Val.{SFits, to_z, of_z}
use mir.ValLaws.{to_z-of_z}
use Rattle.std.specs.Prelude as code
use Rattle.refusal.specs.Outcome.{Outcome, given}
use Rattle.timestamp.specs.declared.fields.Fields.{Fields}
use Rattle.logical_type.specs.declared.types.TimeUnit.{TimeUnit}
use Rattle.timestamp.specs.Units.{ticks_per_second_of}
use Rattle.timestamp.specs.Count.{FieldsOf}
use Rattle.timestamp.specs.Outcomes.{Decodes}
use Rattle.timestamp.specs.Steps.{unit_found}
use Rattle.timestamp.proofs.CountLaws.{decodes_one}
use Rattle.timestamp.proofs.decoding.decode.Goals as goal

-- so they are in the unit that was found, of the count as it is passed on
only : (u : Option TimeUnit) (r : code.Option TimeUnit) (unit : TimeUnit) (count : ℤ) (f : Fields) → unit_found r ≡ u → r ≡ code.Some unit → SFits w64 count → FieldsOf (ticks_per_second_of unit) (to_z w64 (of_z w64 count)) f → (o : Outcome Fields) → Decodes u count o → o ≡ given f
only u r unit count f e told fits p o q = decodes_one u count o (given f) q (subst (λ (v : Option TimeUnit). Decodes v count (given f)) unit_is (f, refl, held))
  where
    unit_is : some unit ≡ u
    unit_is = sym (ap unit_found told) ∙ e

    held : FieldsOf (ticks_per_second_of unit) count f
    held = subst (λ (z : ℤ). FieldsOf (ticks_per_second_of unit) z f) (to_z-of_z w64 count fits) p

pub returns-in-Some-Millis-clause-o_value : goal.returns-in-Some-Millis-clause-o_value
returns-in-Some-Millis-clause-o_value c = only _ _ TimeUnit.Millis _ _ c.find_unit.ensures (c.in-Some-Millis.is ∙ ap code.Some c.in-Some-Millis.field-0-is) c.ranges.count c.decode_in.ensures

pub returns-in-Some-Micros-clause-o_value : goal.returns-in-Some-Micros-clause-o_value
returns-in-Some-Micros-clause-o_value c = only _ _ TimeUnit.Micros _ _ c.find_unit.ensures (c.in-Some-Micros.is ∙ ap code.Some c.in-Some-Micros.field-0-is) c.ranges.count c.decode_in-in-Some-Micros.ensures

pub returns-in-Some-Nanos-clause-o_value : goal.returns-in-Some-Nanos-clause-o_value
returns-in-Some-Nanos-clause-o_value c = only _ _ TimeUnit.Nanos _ _ c.find_unit.ensures (c.in-Some-Nanos.is ∙ ap code.Some c.in-Some-Nanos.field-0-is) c.ranges.count c.decode_in-in-Some-Nanos.ensures
