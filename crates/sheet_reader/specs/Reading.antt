-- A reader ("keeps hold of the lent sheet and its next node"): how it opens, steps and moves on, and what its steps hand out.
use Rattle.std.specs.Prelude.{ℕ, zero, suc, ◌-◌, List, [], ◌∷◌, ◌++◌, map, take, replicate}
use Rattle.std.specs.Borrow.{Bor}
use Rattle.refusal.specs.Outcome.{Outcome, given, refused}
use Rattle.sheet.specs.Opening.{Nodes, open_of}
use Rattle.sheet_reader.specs.Step.{Step, total, step_at, node_after, Handout, ended, slot_handed}
use Rattle.sheet_reader.specs.declared.reading.Reader.{Reader}

-- "It opens under refusals 1 to 4", and under 21 before them: at node 0, with what opening answers in the edition
abbrev pub opened_on : ℕ → Bor (List ℕ) → Reader
opened_on edition sheet = record { sheet = sheet; next = 0; opened = open_of edition sheet.now }

-- what a step hands out
abbrev pub step_of : Reader → Step
step_of reader = step_at reader.sheet.now reader.next reader.opened

-- the reader after a step: it holds the same sheet
abbrev pub moved_on : Reader → Reader
moved_on reader = record { sheet = reader.sheet; next = node_after reader.next reader.opened; opened = reader.opened }

-- how many slots a reader has yet to hand out
abbrev pub left : Reader → ℕ
left reader = total reader.opened - reader.next

-- the reader after n steps
unfoldable pub moved_by : ℕ → Reader → Reader
moved_by zero reader = reader
moved_by (suc n) reader = moved_by n (moved_on reader)

-- what a reader opened on a sheet in an edition hands out after n steps
unfoldable pub step_after : ℕ → Bor (List ℕ) → ℕ → Step
step_after edition sheet n = step_of (moved_by n (opened_on edition sheet))

-- what n steps hand out
unfoldable pub steps : ℕ → Reader → List Step
steps zero reader = []
steps (suc n) reader = step_of reader ∷ steps n (moved_on reader)

-- "hands out each slot once, in order, ending after T steps": what n steps hand out of a sheet with this outcome
unfoldable pub handouts : Outcome Nodes → ℕ → List Handout
handouts (given nodes) n = take n (map slot_handed nodes.used ++ replicate n ended)
handouts (refused r) n = replicate n ended
