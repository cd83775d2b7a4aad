-- `column_type::types::ColumnType::decimal_keeps` meets its contract. Assumes nothing.
use mathlib.Core.Path.{◌≡◌, ◌∙◌}
use mathlib.Core.Bool.{◌&&◌}
use lib.Dec.{leb, ltb}
use lib.IntN.{pos}
use Rattle.std.proofs.Common.{arith}
use Rattle.std.proofs.lemmas.Grind.{common_steps}
use Rattle.annotation.specs.Rule11.{scale_allowed}
use Rattle.column_type.specs.Lawful.{signed_numbers}
use Rattle.column_type.specs.Steps.{stands_on}
use Rattle.column_type.proofs.DecimalLaws.{keeps_decimal}
use Rattle.column_type.proofs.types.ColumnType.decimal_keeps.Goals as goal

pub returns-then-scale_allowed : goal.returns-then-scale_allowed
returns-then-scale_allowed c =
    let s = c.args.self in
    let e : c.decimal_stands.result ≡ (ltb s.p1 signed_numbers && leb 1 s.p1 && scale_allowed c.args.edition (pos s.p1) (pos s.p2) && stands_on s.physical s.«type_length» s.p1) =
    grind (arith, common_steps) in
    e ∙ keeps_decimal c.args.edition s c.requires

pub returns-else-scale_allowed : goal.returns-else-scale_allowed
returns-else-scale_allowed c =
    let s = c.args.self in
    let e : c.if-self-ge1.value ≡ (ltb s.p1 signed_numbers && leb 1 s.p1 && scale_allowed c.args.edition (pos s.p1) (pos s.p2) && stands_on s.physical s.«type_length» s.p1) =
    grind (arith, common_steps) in
    e ∙ keeps_decimal c.args.edition s c.requires
