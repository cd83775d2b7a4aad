-- `decimal::short::lifted` meets its contract: a first bit that is clear is added, and one that is set taken. Assumes nothing.
use Rattle.decimal.proofs.WordLaws.{sign-≤, lifted_fits, lifted_number}
use Rattle.decimal.proofs.short.lifted.Goals as goal

pub overflow_sub-result : goal.overflow_sub-result
overflow_sub-result c = rw c.sign_weight-weight.ensures (sign-≤ c.args.count c.requires.1)

pub overflow_add-result : goal.overflow_add-result
overflow_add-result c = rw c.sign_weight-weight.ensures (record { fits = lifted_fits c.args.n c.args.count c.requires.0 c.requires.1 c.requires.2 })

pub returns : goal.returns
returns c = rw c.sign_weight-weight.ensures (lifted_number c.args.n c.args.count c.requires.0 c.requires.1 c.requires.2)
