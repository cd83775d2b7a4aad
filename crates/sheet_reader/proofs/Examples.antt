-- The definitions, computed: readers opened on no bytes, and readers made by hand.
use mathlib.Core.Path.{◌≡◌, refl}
use mathlib.Core.List.{List, [], ◌∷◌}
use Prim.Native.Nat.{ℕ, ◌^◌, ◌-◌}
use denote.Ref.{Bor}
use Rattle.edition.specs.Editions.{FIRST, is_known}
use Rattle.sheet.specs.Header.{length_right}
use Rattle.sheet.specs.Name.{stretch_of}
use Rattle.sheet.specs.Opening.{open_of}
use Rattle.sheet.specs.Slot.{numbers_of, empty_slot, reaches, slot_start, slot_at}
use Rattle.refusal.specs.Outcome.{refusal}
use Rattle.refusal.specs.Outcome.{Counted}
use Rattle.std.specs.Prelude.{Ok, Err}
use Rattle.sheet_reader.specs.Step.{total, step_at, node_after}
use Rattle.sheet_reader.specs.Reading.{opened_on, moved_on, steps}
use Rattle.sheet_reader.specs.declared.reading.Reader.{Reader}
use Rattle.std.specs.Prelude.{Some, None}

-- no bytes, and a reader made by hand over them
abbrev none : Bor (List ℕ)
none = record { ref_ptr = (0, 0); now = [] }

abbrev by_hand : ℕ → Counted → Reader
by_hand next opened = record { sheet = none; next = next; opened = opened }

-- no bytes are refused, and nothing is handed out
opened_on_none : steps 2 (opened_on FIRST none) ≡ None ∷ None ∷ []
unfolding open_of is_known length_right total step_at node_after steps
opened_on_none = refl

-- in an unknown edition they are refused for that
opened_unknown : opened_on 0 none ≡ by_hand 0 (Err (refusal 21 0))
unfolding open_of is_known
opened_unknown = refl

-- a reader that says two nodes hands out two slots, empty where there are no bytes, and then ends
two_by_hand : steps 3 (by_hand 0 (Ok 2)) ≡ Some (numbers_of empty_slot, stretch_of [] 0) ∷ Some (numbers_of empty_slot, stretch_of [] 1) ∷ None ∷ []
unfolding reaches slot_start slot_at total step_at node_after steps
two_by_hand = refl

-- one that says a refusal hands out nothing
refusal_by_hand : steps 2 (by_hand 0 (Err (refusal 3 3))) ≡ None ∷ None ∷ []
unfolding total step_at node_after steps
refusal_by_hand = refl

-- at the greatest number that a node can have it ends, and stays
greatest_by_hand : moved_on (by_hand (2 ^ 64 - 1) (Ok (2 ^ 64 - 1))) ≡ by_hand (2 ^ 64 - 1) (Ok (2 ^ 64 - 1))
unfolding total node_after
greatest_by_hand = refl
