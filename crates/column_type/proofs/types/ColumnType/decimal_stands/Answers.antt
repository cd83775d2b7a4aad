-- `column_type::types::ColumnType::decimal_stands` meets its contract: each arm knows the physical type. Assumes nothing.
use Prim.Native.Nat.{ℕ}
use mathlib.Core.Path.{◌≡◌, sym, ◌∙◌}
use mathlib.Core.Bool.{Bool, true, ◌&&◌, and-true, and-false}
use lib.Dec.{leb, eqb}
use borrow.Author.Tests.{ne_eqb}
use Rattle.decimal_bytes.specs.Precision.{greatest_precision}
use Rattle.annotation.specs.Rule11.{physical_holds}
use Rattle.sheet.specs.Sound.{listed, physical_listed}
use Rattle.tree.specs.Rules.{is_nought, length_shape}
use Rattle.column_type.specs.Lawful.{is_leaf}
use Rattle.column_type.specs.Steps.{stands_on}
use Rattle.column_type.proofs.DecimalLaws.{stands_whole, stands_fixed}
use Rattle.column_type.proofs.types.ColumnType.decimal_stands.Goals as goal

-- a length that is 0, and another test
fits : (length : ℕ) (holds : Bool) → length ≡ 0 → holds ≡ (eqb length 0 && holds)
fits length holds e = rw e

long : (length : ℕ) (holds : Bool) → (length ≡ 0 → ⊥) → eqb length 0 ≡ (eqb length 0 && holds)
long length holds n = rw (ne_eqb _ _ n)

pub returns-then-self-eq0 : goal.returns-then-self-eq0
unfolding stands_on physical_holds is_leaf physical_listed listed length_shape is_nought
returns-then-self-eq0 c = rw c.in-1.is (fits _ _ c.if-self-eq0.true ∙ stands_whole c.args.self.«type_length» (leb c.args.self.p1 9))

pub returns-else-self-eq0 : goal.returns-else-self-eq0
unfolding stands_on physical_holds is_leaf physical_listed listed length_shape is_nought
returns-else-self-eq0 c = rw c.in-1.is (long _ _ c.if-self-eq0.false ∙ stands_whole c.args.self.«type_length» (leb c.args.self.p1 9))

pub returns-then-self-eq0-2 : goal.returns-then-self-eq0-2
unfolding stands_on physical_holds is_leaf physical_listed listed length_shape is_nought
returns-then-self-eq0-2 c = rw c.in-2.is (fits _ _ c.if-self-eq0-2.true ∙ stands_whole c.args.self.«type_length» (leb c.args.self.p1 18))

pub returns-else-self-eq0-2 : goal.returns-else-self-eq0-2
unfolding stands_on physical_holds is_leaf physical_listed listed length_shape is_nought
returns-else-self-eq0-2 c = rw c.in-2.is (long _ _ c.if-self-eq0-2.false ∙ stands_whole c.args.self.«type_length» (leb c.args.self.p1 18))

pub returns-in-6 : goal.returns-in-6
unfolding stands_on physical_holds is_leaf physical_listed listed length_shape is_nought
returns-in-6 c =
    let length = c.args.self.«type_length» in
    rw c.in-6.is (sym (and-true (eqb length 0)) ∙ stands_whole length true)

pub returns-in-7 : goal.returns-in-7
unfolding stands_on physical_holds is_leaf physical_listed listed length_shape is_nought
returns-in-7 c =
    let s = c.args.self in
    rw c.in-7.is (c.fixed_holds.ensures ∙ stands_fixed s.«type_length» (leb s.p1 (greatest_precision s.«type_length»)))

pub returns-in_default : goal.returns-in_default
unfolding stands_on physical_holds
returns-in_default c =
    let rest = c.in_default.in_default-own.rest in
    rw (ne_eqb _ _ rest.0.0.0.1, ne_eqb _ _ rest.0.0.1, ne_eqb _ _ rest.0.1, ne_eqb _ _ rest.1, and-false)
