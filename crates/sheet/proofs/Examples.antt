-- Worked examples: what the definitions compute.
use mathlib.Core.Path.{◌≡◌, refl}
use mathlib.Core.List.{List, [], ◌∷◌, ◌++◌}
use Prim.Native.Nat.{ℕ, ◌-◌, ◌^◌}
use lib.IntN.{pos, negsuc}
use lib.ListN.{replicate}
use Rattle.laws.specs.Bytes.{little, bytes_of, twos_complement}
use Rattle.sheet.specs.Number.{number_at, signed32}
use Rattle.sheet.specs.Block.{block_count, block_at, block_number, nodes_here, version, total, stored_check, total_of}
use Rattle.edition.specs.Editions.{FIRST, is_known}
use Rattle.block_check.specs.Check.{sum_below, weighted, check}
use Rattle.sheet.specs.Check.{check_right}
use Rattle.sheet.specs.Slot.{physical, repetition, converted, logical, name_length_of, slot_start, reaches, slot_at, empty_slot}
use Rattle.sheet.specs.Sheet.{join_below, unchecked_block, block_of, sheet_of}
use Rattle.sheet.specs.Sound.{listed, physical_listed, repetition_listed, converted_listed, logical_listed, name_length_right, all_zero, reserved_zero, tail_zero, codes_listed, name_right, slot_sound, slot_right}
use Rattle.sheet.specs.Header.{length_right, blocks_for, nodes_in, total_right, numbers_right, header_right}
use Rattle.sheet.specs.First.{first_wrong_from, first_wrong}
use Rattle.sheet.specs.Opening.{at_first, open_of, outcome_of, outcome}
use Rattle.refusal.specs.Outcome.{refused, refusal}
use Rattle.std.specs.Prelude.{Ok}

-- the root alone, named `r`
root_slot : List ℕ
root_slot = (255 ∷ 255 ∷ 255 ∷ []) ++ replicate 17 0 ++ (1 ∷ 0 ∷ 0 ∷ 0 ∷ 114 ∷ []) ++ replicate 47 0

-- its sheet
root_sheet : List ℕ
root_sheet = (0 ∷ 0 ∷ 1 ∷ 1 ∷ 1 ∷ 0 ∷ []) ++ root_slot ++ replicate 432 0 ++ (221 ∷ 37 ∷ [])

sheet_of_root : sheet_of (root_slot ∷ []) ≡ root_sheet
unfolding root_sheet root_slot sheet_of block_of unchecked_block join_below bytes_of blocks_for nodes_in empty_slot check sum_below weighted
sheet_of_root = refl

-- "One root alone" is a sound sheet
open_root : open_of FIRST root_sheet ≡ Ok 1
unfolding root_sheet root_slot open_of is_known length_right at_first first_wrong first_wrong_from block_count block_at check_right check stored_check sum_below weighted number_at little header_right numbers_right block_number version total total_of nodes_here nodes_in total_right blocks_for slot_right slot_at reaches slot_start slot_sound codes_listed name_right physical_listed repetition_listed converted_listed logical_listed listed physical repetition converted logical name_length_of name_length_right reserved_zero tail_zero all_zero
open_root = refl

-- no bytes are refusal 1 at 0
outcome_none : outcome FIRST [] ≡ refused (refusal 1 0)
unfolding outcome outcome_of open_of is_known length_right
outcome_none = refl

-- and 21 at 0 in no edition
outcome_unknown : outcome 0 [] ≡ refused (refusal 21 0)
unfolding outcome outcome_of open_of is_known
outcome_unknown = refl

-- two's complement
signed32_most : signed32 (2 ^ 31 - 1) ≡ pos 2147483647
unfolding twos_complement
signed32_most = refl

signed32_least : signed32 (2 ^ 31) ≡ negsuc 2147483647
unfolding twos_complement
signed32_least = refl

signed32_minus_one : signed32 (2 ^ 32 - 1) ≡ negsuc 0
unfolding twos_complement
signed32_minus_one = refl
