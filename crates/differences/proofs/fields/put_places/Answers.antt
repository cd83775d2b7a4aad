-- `differences::fields::put_places` meets its contract.
use Rattle.differences.proofs.PutLaws.{puts_none, puts_as}
use Rattle.differences.proofs.FieldStepLaws.{places_alike, places_unlike}
use Rattle.differences.proofs.fields.put_places.Goals as goal

pub returns-then-matched : goal.returns-then-matched
returns-then-matched c = puts_as (places_alike _ _ c.if-matched.true) (puts_none _ _)

pub returns : goal.returns
returns c = puts_as (places_unlike _ _ c.if-matched.false _ _ c.to_le_bytes.ensures c.to_le_bytes-2.ensures) c.put_entry.ensures
