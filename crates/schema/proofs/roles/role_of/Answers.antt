-- `schema::roles::role_of` meets its contract, case by case.
use Rattle.tree.proofs.VisitLaws.{repetition_at_lem}
use Rattle.schema.specs.Rows.{role, own_role}
use Rattle.schema.specs.Steps.{role_number}
use mathlib.Core.Path.{ap, ◌∙◌}
use Rattle.schema.proofs.roles.role_of.Goals as goal

pub returns-in-Other : goal.returns-in-Other
unfolding role role_number
returns-in-Other c = rw c.in-Other.is (c.own_role.ensures ∙ ap own_role (repetition_at_lem _ _ _ c.requires.numbers))

pub returns-in-List : goal.returns-in-List
unfolding role role_number
returns-in-List c = rw c.in-List.is c.list_role.ensures

pub returns-in-ListLayer : goal.returns-in-ListLayer
unfolding role role_number
returns-in-ListLayer c = rw c.in-ListLayer.is

pub returns-in-Map : goal.returns-in-Map
unfolding role role_number
returns-in-Map c = rw c.in-Map.is

pub returns-in-KeyValue : goal.returns-in-KeyValue
unfolding role role_number
returns-in-KeyValue c = rw c.in-KeyValue.is

pub returns-in-KeyValueRest : goal.returns-in-KeyValueRest
unfolding role role_number
returns-in-KeyValueRest c = rw c.in-KeyValueRest.is
