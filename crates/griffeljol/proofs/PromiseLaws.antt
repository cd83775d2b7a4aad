-- The promises to a C caller hold.
use Rattle.c_answer.proofs.PackingLaws.{unchanged}
use Rattle.c_sheets.proofs.PromiseLaws as sheets
use Rattle.c_values.proofs.PromiseLaws as values
use Rattle.c_timestamps.proofs.PromiseLaws as timestamps
use Rattle.c_boxes.proofs.PromiseLaws as boxes
use Rattle.griffeljol.specs.Promises.{Promises}

pub promised : Promises
promised =
    record { of_sheets = sheets.promised; of_values = values.promised; of_timestamps = timestamps.promised; of_boxes = boxes.promised; unchanged = λ e lent. unchanged e lent }
