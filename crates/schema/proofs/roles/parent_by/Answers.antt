-- `schema::roles::parent_by` meets its contract, answer by answer.
use Rattle.std.proofs.Common.{◌≡◌, refl, cond, eqb}
use Rattle.schema.specs.Rows.{LIST_LAYER, KEY_VALUE_LAYER, parent_by}
use Rattle.schema.specs.declared.roles.Parent.TheVariants as parent
use Rattle.schema.specs.declared.roles.Role.{Role}
use Rattle.schema.specs.declared.roles.Role.TheVariants as role
use Rattle.schema.specs.Steps.{role_number}
use borrow.Author.Tests.{eq-eqb, ne_eqb}
use Rattle.schema.proofs.roles.parent_by.Goals as goal

-- a role that is no layer, by its number
neither : (r : Role) → (r ≡ role.ListLayer → ⊥) → (r ≡ role.KeyValueLayer → ⊥) → parent.Other ≡ cond (eqb (role_number r) LIST_LAYER) parent.ListLayer (cond (eqb (role_number r) KEY_VALUE_LAYER) parent.KeyValue parent.Other)
unfolding role_number
neither role.Field a b = refl
neither role.ListLayer a b = absurd (a refl)
neither role.Element a b = refl
neither role.ElementLayer a b = refl
neither role.KeyValueLayer a b = absurd (b refl)
neither role.Key a b = refl
neither role.Value a b = refl
neither role.BareRepeated a b = refl

pub returns-then-kind-eq-LIST : goal.returns-then-kind-eq-LIST
unfolding parent_by
returns-then-kind-eq-LIST c = rw (eq-eqb _ _ c.if-kind-eq-LIST.true)

pub returns-then-kind-eq-MAP : goal.returns-then-kind-eq-MAP
unfolding parent_by
returns-then-kind-eq-MAP c = rw (ne_eqb _ _ c.if-kind-eq-LIST.false, eq-eqb _ _ c.if-kind-eq-MAP.true)

pub returns-in-ListLayer : goal.returns-in-ListLayer
unfolding parent_by role_number
returns-in-ListLayer c = rw (ne_eqb _ _ c.if-kind-eq-LIST.false, ne_eqb _ _ c.if-kind-eq-MAP.false, c.in-ListLayer.is)

pub returns-in-KeyValueLayer : goal.returns-in-KeyValueLayer
unfolding parent_by role_number
returns-in-KeyValueLayer c = rw (ne_eqb _ _ c.if-kind-eq-LIST.false, ne_eqb _ _ c.if-kind-eq-MAP.false, c.in-KeyValueLayer.is)

pub returns-in_default : goal.returns-in_default
unfolding parent_by role_number
returns-in_default c = rw (ne_eqb _ _ c.if-kind-eq-LIST.false, ne_eqb _ _ c.if-kind-eq-MAP.false) (neither c.args.role c.in_default.not-ListLayer c.in_default.not-KeyValueLayer)
