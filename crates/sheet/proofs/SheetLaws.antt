-- Laws of a sheet that is made from its used slots: a sheet that opens is that of its slots, and the sheet of sound slots opens and has them.
use mathlib.Core.Path.{◌≡◌, refl, sym, ap, ap₂, ◌∙◌, subst}
use mathlib.Core.Bool.{true}
use mathlib.Core.List.{List, ◌++◌}
use Prim.Native.Nat.{ℕ, ◌+◌, ◌-◌, ◌*◌, ◌/◌, ◌%◌, ◌^◌, ◌≤◌, ◌<◌}
use native.Mathlib.Decide.{dec_lt}
use native.Mathlib.Omega.{arith}
use lib.ListN.{length, get_or, take, drop, replicate, length-append, get_or-eq_default, get_or-append}
use lib.Seq.{get_or-take, take_all, take-take, drop-drop, take_at, get_or-append-add, ext_get_or}
use borrow.Author.Tests.{eq-eqb, eqb-true}
use Rattle.laws.specs.Bytes.{Bytes, little, bytes_of}
use Rattle.laws.proofs.ByteLaws.{bytes_append, bytes_replicate, bytes_take, bytes_drop, bytes_bytes_of, bytes_of_little}
use Rattle.block_check.specs.Check.{check}
use Rattle.block_check.proofs.CheckLaws.{check_same, check_lt}
use Rattle.sheet.specs.Number.{number_at}
use Rattle.sheet.specs.Block.{block_size, first_slot_at, check_at, slots_in_block, slot_size, most_nodes, block_number_at, nodes_here_at, version_at, total_at, version_now, block_count, block_at, block_number, nodes_here, version, total, stored_check, total_of}
use Rattle.sheet.specs.Check.{check_right}
use Rattle.sheet.specs.Header.{blocks_for, nodes_in, total_right}
use Rattle.sheet.specs.Slot.{name_at, slot_start, reaches, empty_slot, slot_at, slots}
use Rattle.sheet.specs.Sound.{all_zero, slot_sound, slot_right}
use Rattle.sheet.specs.Sheet.{join_below, unchecked_block, block_of, sheet_of, slot_of}
use Rattle.edition.specs.Editions.{is_known}
use Rattle.sheet.specs.Opening.{open_of, BlocksSound, SlotsSound}
use Rattle.std.specs.Prelude.{Ok}
use Rattle.sheet.proofs.NumberLaws.{number_at_one, number_at_two}
use Rattle.sheet.proofs.PartLaws.{length_part, part_part}
use Rattle.sheet.proofs.ZeroLaws.{all_zero_each}
use Rattle.sheet.proofs.JoinLaws.{take_join, join_below_take, join_below_bytes, join_below_length, join_below_part}
use Rattle.sheet.proofs.BlockLaws.{blocks_within}
use Rattle.sheet.proofs.BytesLaws.{block_at_bytes}
use Rattle.sheet.proofs.SlotLaws.{slot_start_within, block_count_most, reaches_true, slot_at_there, slot_at_length, slots_length, slots_at_lem, empty_slot_byte}
use Rattle.sheet.proofs.SoundLaws.{slot_right_used, slot_right_unused}
use Rattle.sheet.proofs.HeaderLaws.{length_right_blocks, length_right_most, length_right_whole, total_right_true, Fields, header_right_fields, fields_header_right}
use Rattle.sheet.proofs.OpeningLaws.{open_of_accepts, open_of_blocks, open_of_slots, open_of_needed, open_of_slots_length}

-- the bytes of a number are those that it was read from
bytes_of_number_at : (bytes : List ℕ) (at size : ℕ) → Bytes bytes → at + size ≤ length bytes → bytes_of size (number_at bytes at size) ≡ take size (drop at bytes)
unfolding number_at
bytes_of_number_at bytes at size all h =
    let part = take size (drop at bytes) in
    ap (λ (n : ℕ). bytes_of n (little part)) (sym (length_part bytes at size h))
    ∙ bytes_of_little part (bytes_take size (drop at bytes) (bytes_drop at bytes all))

-- the bytes of a block's slots
abbrev slot_bytes : List ℕ → List ℕ
slot_bytes block = take (check_at - first_slot_at) (drop first_slot_at block)

-- a slot that the bytes reach is a part of its block
slot_at_block : (sheet : List ℕ) (i j : ℕ) → j < slots_in_block → reaches sheet (slots_in_block * i + j) ≡ true
    → slot_at sheet (slots_in_block * i + j) ≡ take slot_size (drop (slot_size * j) (slot_bytes (block_at sheet i)))
unfolding slot_start block_at
slot_at_block sheet i j h r =
    let block = block_at sheet i in
    let at : slot_start (slots_in_block * i + j) ≡ block_size * i + (first_slot_at + slot_size * j) = omega arith in
    slot_at_there sheet (slots_in_block * i + j) r
    ∙ ap (λ (n : ℕ). take slot_size (drop n sheet)) at
    ∙ ap (take slot_size) (sym (drop-drop (first_slot_at + slot_size * j) (block_size * i) sheet))
    ∙ sym (part_part (drop (block_size * i) sheet) (first_slot_at + slot_size * j) slot_size block_size (omega arith))
    ∙ ap (take slot_size) (sym (drop-drop (slot_size * j) first_slot_at block))
    ∙ sym (part_part (drop first_slot_at block) (slot_size * j) slot_size (check_at - first_slot_at) (omega arith))

-- zeros of a slot's length are an empty slot
zeros_empty : (slot : List ℕ) → length slot ≡ slot_size → all_zero slot ≡ true → slot ≡ empty_slot
unfolding empty_slot
zeros_empty slot long zeros =
    ext_get_or 0 slot empty_slot long (λ i h. all_zero_each slot zeros i ∙ sym (empty_slot_byte i (omega arith)))

-- which is zero
empty_slot_zero : all_zero empty_slot ≡ true
unfolding empty_slot all_zero
empty_slot_zero = refl

-- ---- a sheet that opens is the sheet of its slots

module _ (edition : ℕ) (sheet : List ℕ) (t : ℕ) (bytes : Bytes sheet) (opened : open_of edition sheet ≡ Ok t) where
  blocks : BlocksSound sheet
  blocks = open_of_blocks edition sheet t opened

  -- its bytes reach every slot of its blocks
  reached : (k : ℕ) → k < slots_in_block * block_count sheet → reaches sheet k ≡ true
  reached k h =
      reaches_true sheet k (omega (arith, block_count_most sheet (length_right_most (length sheet) blocks.length_right_lem))) (slot_start_within sheet k h)

  -- each of which is one of the used, or empty
  slot_is : (k : ℕ) → k < slots_in_block * block_count sheet → get_or (slots sheet) k empty_slot ≡ slot_at sheet k
  slot_is k h = cases (dec_lt k (total_of sheet))
    where
      cases : Dec (k < total_of sheet) → get_or (slots sheet) k empty_slot ≡ slot_at sheet k
      cases (yes l) = slots_at_lem sheet k empty_slot l
      cases (no l) =
          get_or-eq_default (slots sheet) empty_slot {n = k} (omega (arith, slots_length sheet))
          ∙ sym (zeros_empty (slot_at sheet k) (slot_at_length sheet k) (sym (slot_right_unused edition sheet k (omega arith)) ∙ (open_of_slots edition sheet t opened).slots_right k h))

  -- block i, field by field
  module _ (i : ℕ) (h : i < block_count sheet) where
    block_length : length (block_at sheet i) ≡ block_size
    unfolding block_at
    block_length = length_part sheet (block_size * i) block_size (omega (arith, blocks_within sheet))

    -- its header says what is written
    fields : Fields (length (slots sheet)) i (block_at sheet i)
    fields =
        subst (λ (n : ℕ). Fields n i (block_at sheet i)) (sym (slots_length sheet)) (header_right_fields sheet i (blocks.headers_right i h))

    -- a field's bytes are those of its number
    field_is : (at size n : ℕ) → at + size ≤ block_size → number_at (block_at sheet i) at size ≡ n → bytes_of size n ≡ take size (drop at (block_at sheet i))
    field_is at size n l e =
        ap (bytes_of size) (sym e) ∙ bytes_of_number_at (block_at sheet i) at size (block_at_bytes sheet i bytes) (omega (arith, block_length))

    -- the seven slots
    slots_are : join_below (λ j. get_or (slots sheet) (slots_in_block * i + j) empty_slot) slots_in_block ≡ slot_bytes (block_at sheet i)
    slots_are =
        join_below_take _ slot_size (slot_bytes (block_at sheet i)) slots_in_block (λ j l. slot_is (slots_in_block * i + j) (omega arith) ∙ slot_at_block sheet i j l (reached (slots_in_block * i + j) (omega arith)))
        ∙ take-take (slot_size * slots_in_block) (check_at - first_slot_at) (drop first_slot_at (block_at sheet i)) (omega arith)

    -- all up to the check
    unchecked_is : unchecked_block (slots sheet) i ≡ take check_at (block_at sheet i)
    unfolding unchecked_block block_number nodes_here version total
    unchecked_is =
        let block = block_at sheet i in
        take_join block first_slot_at (check_at - first_slot_at)
        (take_join block total_at 2
        (take_join block version_at 1
        (take_join block nodes_here_at 1
        (field_is block_number_at 2 i (omega arith) fields.number_is)
        (field_is nodes_here_at 1 _ (omega arith) (number_at_one block nodes_here_at ∙ fields.nodes_is)))
        (field_is version_at 1 version_now (omega arith) (number_at_one block version_at ∙ fields.version_is)))
        (field_is total_at 2 _ (omega arith) fields.total_is))
        slots_are

    -- and the check
    check_is : stored_check (block_at sheet i) ≡ check (unchecked_block (slots sheet) i)
    unfolding check_right
    check_is =
        let block = block_at sheet i in
        eqb-true (stored_check block) (check block) (blocks.checks_right i h)
        ∙ check_same block (take check_at block) (λ j l. sym (get_or-take check_at block j 0 l))
        ∙ ap check (sym unchecked_is)

    block_is : block_of (slots sheet) i ≡ block_at sheet i
    unfolding block_of stored_check
    block_is =
        take_join (block_at sheet i) check_at 2 unchecked_is (field_is check_at 2 _ (omega arith) check_is)
        ∙ take_all block_size (block_at sheet i) (omega (arith, block_length))

  -- it is the sheet of its slots
  pub sheet_of_slots : sheet_of (slots sheet) ≡ sheet
  unfolding sheet_of block_at block_count
  sheet_of_slots =
      ap (join_below (block_of (slots sheet))) (ap blocks_for (open_of_slots_length edition sheet t opened) ∙ open_of_needed edition sheet t opened)
      ∙ join_below_take (block_of (slots sheet)) block_size sheet (block_count sheet) block_is
      ∙ take_all (block_size * block_count sheet) sheet (omega (arith, length_right_whole (length sheet) blocks.length_right_lem))

-- ---- the sheet of sound slots opens, and has them

-- slots that a sheet can be made from: 1 to 896, each whole, of bytes and sound
pub record SheetSlots (edition : ℕ) (used : List (List ℕ)) : Type 0 where
  pub least : 1 ≤ length used
  pub most : length used ≤ most_nodes
  pub whole : (k : ℕ) → k < length used → length (get_or used k empty_slot) ≡ slot_size
  pub bytes : (k : ℕ) → k < length used → Bytes (get_or used k empty_slot)
  pub sound : (k : ℕ) → k < length used → slot_sound edition (get_or used k empty_slot) ≡ true

module _ (edition : ℕ) (used : List (List ℕ)) (given : SheetSlots edition used) where
  -- behind them stand empty slots
  empty_behind : (k : ℕ) → length used ≤ k → get_or used k empty_slot ≡ empty_slot
  empty_behind k h = get_or-eq_default used empty_slot {n = k} h

  slot_length : (k : ℕ) → length (get_or used k empty_slot) ≡ slot_size
  unfolding empty_slot
  slot_length k = cases (dec_lt k (length used))
    where
      cases : Dec (k < length used) → length (get_or used k empty_slot) ≡ slot_size
      cases (yes h) = given.whole k h
      cases (no h) = ap length (empty_behind k (omega arith))

  slot_bytes_lem : (k : ℕ) → Bytes (get_or used k empty_slot)
  unfolding empty_slot
  slot_bytes_lem k = cases (dec_lt k (length used))
    where
      cases : Dec (k < length used) → Bytes (get_or used k empty_slot)
      cases (yes h) = given.bytes k h
      cases (no h) = subst Bytes (sym (empty_behind k (omega arith))) (bytes_replicate slot_size 0 (omega arith))

  -- block i, part by part
  module _ (i : ℕ) where
    abbrev slots_of_lem : List ℕ
    slots_of_lem = join_below (λ j. get_or used (slots_in_block * i + j) empty_slot) slots_in_block

    slots_of_length : length slots_of_lem ≡ check_at - first_slot_at
    slots_of_length = join_below_length _ slot_size (λ j. slot_length (slots_in_block * i + j)) slots_in_block

    unchecked_length : length (unchecked_block used i) ≡ check_at
    unfolding unchecked_block bytes_of
    unchecked_length = omega (arith, slots_of_length)

    block_of_length : length (block_of used i) ≡ block_size
    unfolding block_of bytes_of
    block_of_length = length-append (unchecked_block used i) _ ∙ omega (arith, unchecked_length)

    block_of_slots : slot_bytes (block_of used i) ≡ slots_of_lem
    unfolding block_of unchecked_block bytes_of
    block_of_slots = take_at slots_of_lem _ (check_at - first_slot_at) slots_of_length

    -- its header says what was written
    block_of_fields : i < 2 ^ 16 → Fields (length used) i (block_of used i)
    unfolding block_of unchecked_block bytes_of block_number nodes_here version total number_at little nodes_in
    block_of_fields h = record {
      number_is = omega arith;
      version_is = refl;
      total_is = omega (arith, given.most);
      nodes_is = omega arith;
    }

    -- its check is that of its bytes
    stored_at : (n : ℕ) → get_or (block_of used i) (check_at + n) 0 ≡ get_or (bytes_of 2 (check (unchecked_block used i))) n 0
    unfolding block_of
    stored_at n =
        ap (λ (m : ℕ). get_or (block_of used i) (m + n) 0) (sym unchecked_length)
        ∙ get_or-append-add (unchecked_block used i) (bytes_of 2 (check (unchecked_block used i))) n 0

    unchecked_same : check (unchecked_block used i) ≡ check (block_of used i)
    unfolding block_of
    unchecked_same =
        check_same (unchecked_block used i) (block_of used i)
        (λ j h. sym (get_or-append (unchecked_block used i) (bytes_of 2 (check (unchecked_block used i))) 0 j (omega (arith, unchecked_length))))

    block_of_check : stored_check (block_of used i) ≡ check (block_of used i)
    unfolding stored_check bytes_of
    block_of_check =
        number_at_two (block_of used i) check_at
        ∙ ap₂ (λ (low high : ℕ). low + 256 * high) (stored_at 0) (stored_at 1)
        ∙ omega (arith, check_lt (unchecked_block used i))
        ∙ unchecked_same

    block_of_bytes : Bytes (block_of used i)
    unfolding block_of unchecked_block
    block_of_bytes =
        let number = bytes_of 2 i in
        let nodes = bytes_of 1 (nodes_in (length used) i) in
        let now = bytes_of 1 version_now in
        let all = bytes_of 2 (length used) in
        bytes_append (number ++ nodes ++ now ++ all ++ slots_of_lem) (bytes_of 2 (check (unchecked_block used i)))
        (bytes_append (number ++ nodes ++ now ++ all) slots_of_lem
        (bytes_append (number ++ nodes ++ now) all
        (bytes_append (number ++ nodes) now
        (bytes_append number nodes (bytes_bytes_of 2 i) (bytes_bytes_of 1 (nodes_in (length used) i)))
        (bytes_bytes_of 1 version_now))
        (bytes_bytes_of 2 (length used)))
        (join_below_bytes _ slots_in_block (λ j h. slot_bytes_lem (slots_in_block * i + j))))
        (bytes_bytes_of 2 (check (unchecked_block used i)))

  -- the sheet, block by block
  abbrev blocks_of : ℕ
  blocks_of = blocks_for (length used)

  sheet_of_length : length (sheet_of used) ≡ block_size * blocks_of
  unfolding sheet_of
  sheet_of_length = join_below_length (block_of used) block_size block_of_length blocks_of

  sheet_of_blocks : block_count (sheet_of used) ≡ blocks_of
  unfolding block_count
  sheet_of_blocks = omega (arith, sheet_of_length)

  sheet_of_block : (i : ℕ) → i < blocks_of → block_at (sheet_of used) i ≡ block_of used i
  unfolding sheet_of block_at
  sheet_of_block i h = join_below_part (block_of used) block_size block_of_length blocks_of i h

  blocks_least : 1 ≤ blocks_of
  unfolding blocks_for
  blocks_least = omega (arith, given.least)

  blocks_most : slots_in_block * blocks_of ≤ most_nodes
  unfolding blocks_for
  blocks_most = omega (arith, given.most)

  slots_within : length used ≤ slots_in_block * blocks_of
  unfolding blocks_for
  slots_within = omega arith

  pub sheet_of_total : total_of (sheet_of used) ≡ length used
  unfolding total_of
  sheet_of_total = ap total (sheet_of_block 0 (omega (arith, blocks_least))) ∙ (block_of_fields 0 (omega arith)).total_is

  -- and slot by slot
  sheet_of_reaches : (k : ℕ) → k < slots_in_block * blocks_of → reaches (sheet_of used) k ≡ true
  sheet_of_reaches k h =
      reaches_true (sheet_of used) k (omega (arith, blocks_most)) (slot_start_within (sheet_of used) k (omega (arith, sheet_of_blocks)))

  slot_in_block : (i j : ℕ) → i < blocks_of → j < slots_in_block → slot_at (sheet_of used) (slots_in_block * i + j) ≡ get_or used (slots_in_block * i + j) empty_slot
  slot_in_block i j h l =
      slot_at_block (sheet_of used) i j l (sheet_of_reaches (slots_in_block * i + j) (omega arith))
      ∙ ap (λ (block : List ℕ). take slot_size (drop (slot_size * j) (slot_bytes block))) (sheet_of_block i h)
      ∙ ap (λ (bytes : List ℕ). take slot_size (drop (slot_size * j) bytes)) (block_of_slots i)
      ∙ join_below_part _ slot_size (λ n. slot_length (slots_in_block * i + n)) slots_in_block j l

  sheet_of_slot : (k : ℕ) → k < slots_in_block * blocks_of → slot_at (sheet_of used) k ≡ get_or used k empty_slot
  sheet_of_slot k h =
      subst (λ (n : ℕ). slot_at (sheet_of used) n ≡ get_or used n empty_slot) {x = slots_in_block * (k / slots_in_block) + k % slots_in_block} {y = k} (omega arith)
      (slot_in_block (k / slots_in_block) (k % slots_in_block) (omega arith) (omega arith))

  -- nothing of it is refused
  sheet_of_blocks_sound : BlocksSound (sheet_of used)
  unfolding check_right
  sheet_of_blocks_sound = record {
    length_right_lem = rw sheet_of_length (length_right_blocks blocks_of blocks_least (omega (arith, blocks_most)));
    checks_right = λ i h. rw (sheet_of_block i (within i h)) (eq-eqb _ _ (block_of_check i));
    headers_right = λ i h. fields_header_right (sheet_of used) i (fields_of_lem i (within i h)) total_right_lem;
  }
    where
      within : (i : ℕ) → i < block_count (sheet_of used) → i < blocks_of
      within i h = omega (arith, sheet_of_blocks)

      fields_of_lem : (i : ℕ) → i < blocks_of → Fields (total_of (sheet_of used)) i (block_at (sheet_of used) i)
      fields_of_lem i h = rw (sheet_of_total, sheet_of_block i h) (block_of_fields i (omega (arith, blocks_most)))

      total_right_lem : total_right (total_of (sheet_of used)) (block_count (sheet_of used)) ≡ true
      total_right_lem = rw (sheet_of_total, sheet_of_blocks) (total_right_true (length used) blocks_of given.least given.most refl)

  sheet_of_slots_sound : SlotsSound edition (sheet_of used)
  sheet_of_slots_sound = record { slots_right = λ k h. cases k (omega (arith, sheet_of_blocks)) (dec_lt k (length used)) }
    where
      cases : (k : ℕ) → k < slots_in_block * blocks_of → Dec (k < length used) → slot_right edition (sheet_of used) k ≡ true
      cases k h (yes l) =
          slot_right_used edition (sheet_of used) k (omega (arith, sheet_of_total)) ∙ ap (slot_sound edition) (sheet_of_slot k h) ∙ given.sound k l
      cases k h (no l) =
          slot_right_unused edition (sheet_of used) k (omega (arith, sheet_of_total)) ∙ ap all_zero (sheet_of_slot k h ∙ empty_behind k (omega arith)) ∙ empty_slot_zero

  -- the sheet of slots that are sound in a known edition opens in it
  pub open_of_sheet_of : is_known edition ≡ true → open_of edition (sheet_of used) ≡ Ok (length used)
  open_of_sheet_of known = open_of_accepts edition (sheet_of used) known sheet_of_blocks_sound sheet_of_slots_sound ∙ ap Ok sheet_of_total

  -- it has these slots
  pub slots_sheet_of : slots (sheet_of used) ≡ used
  slots_sheet_of =
      ext_get_or empty_slot (slots (sheet_of used)) used (slots_length (sheet_of used) ∙ sheet_of_total)
      (λ k h. slots_at_lem (sheet_of used) k empty_slot (omega (arith, slots_length (sheet_of used))) ∙ sheet_of_slot k (omega (arith, slots_length (sheet_of used), sheet_of_total, slots_within)))

  -- and is of bytes
  pub bytes_sheet_of : Bytes (sheet_of used)
  unfolding sheet_of
  bytes_sheet_of = join_below_bytes (block_of used) blocks_of (λ i h. block_of_bytes i)

-- a slot made from its numbers and name is one of bytes
pub bytes_slot_of : (codes : List ℕ) (children len scale precision : ℕ) (name : List ℕ) → Bytes codes → Bytes name → Bytes (slot_of codes children len scale precision name)
bytes_slot_of codes children len scale precision name c n =
    let counted = codes ++ bytes_of 2 children in
    let long = counted ++ bytes_of 4 len in
    let scaled = long ++ bytes_of 4 scale in
    let precise = scaled ++ bytes_of 4 precision in
    let lengthed = precise ++ bytes_of 4 (length name) in
    let n₁ : Bytes counted = bytes_append codes (bytes_of 2 children) c (bytes_bytes_of 2 children) in
    let n₂ : Bytes long = bytes_append counted (bytes_of 4 len) n₁ (bytes_bytes_of 4 len) in
    let n₃ : Bytes scaled = bytes_append long (bytes_of 4 scale) n₂ (bytes_bytes_of 4 scale) in
    let n₄ : Bytes precise = bytes_append scaled (bytes_of 4 precision) n₃ (bytes_bytes_of 4 precision) in
    let n₅ : Bytes lengthed = bytes_append precise (bytes_of 4 (length name)) n₄ (bytes_bytes_of 4 (length name)) in
    bytes_append (lengthed ++ name) (replicate (slot_size - name_at - length name) 0) (bytes_append lengthed name n₅ n) (bytes_replicate (slot_size - name_at - length name) 0 (omega arith))
