-- `matching::fields::Taken::take` meets its contract: what was found fits a match.
use mathlib.Core.Path.{subst}
use Rattle.sheet.specs.Block.{most_nodes}
use Rattle.matching.specs.Steps.{FoundWithin}
use Rattle.std.specs.Prelude.{Some}
use Rattle.matching.proofs.fields.Taken.take.Goals.{In-Some}

-- what is found, where it is a node
found_is : (c : In-Some) → FoundWithin most_nodes most_nodes (Some c.in-Some.candidate)
found_is c = subst (FoundWithin most_nodes most_nodes) c.in-Some.is c.requires.found_within
