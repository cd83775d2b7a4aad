-- Laws of a slot with other annotations: it has them, every other field is what it was, and it is sound where it was and they are listed.
use mathlib.Core.Path.{◌≡◌, sym, ap, ap₂, ◌∙◌}
use mathlib.Core.Logic.{◌⊎◌, inl, inr}
use mathlib.Core.Bool.{Bool, true, false, true≢false, ◌&&◌}
use mathlib.Core.List.{List}
use Prim.Native.Nat.{ℕ, zero, suc, ◌+◌, ◌*◌, ◌≤◌, ◌<◌}
use native.Mathlib.Omega.{arith}
use lib.ListN.{length, get_or, set, take, drop, length-set}
use lib.Seq.{get_or-set_same, get_or-set_other, drop-set-lt}
use Rattle.sheet.specs.Number.{number_at, signed32}
use Rattle.sheet.specs.Slot.{converted_at, logical_at, parameter_a_at, parameter_b_at, child_count_at, type_length_at, scale_at, precision_at, name_length_at, reserved_at, name_at, physical, repetition, converted, logical, parameter_a, parameter_b, child_count, type_length_of, scale, precision, name_length_of, name, annotated_slot}
use Rattle.sheet.specs.Sound.{physical_listed, repetition_listed, converted_listed, logical_listed, reserved_zero, tail_zero, codes_listed, name_right, slot_sound}
use Rattle.sheet.proofs.NumberLaws.{number_at_nothing, number_at_more}

-- a number of bytes that agree from its place on
number_at_same : (size : ℕ) (x y : List ℕ) (at : ℕ) → ((i : ℕ) → at ≤ i → get_or x i 0 ≡ get_or y i 0) → number_at x at size ≡ number_at y at size
number_at_same zero x y at same = number_at_nothing x at ∙ sym (number_at_nothing y at)
number_at_same (suc size) x y at same =
    number_at_more x at size
    ∙ ap₂ (λ (low rest : ℕ). low + 256 * rest) (same at (omega arith)) (number_at_same size x y (suc at) (λ i h. same i (omega arith)))
    ∙ sym (number_at_more y at size)

-- two tests of a conjunction that hold in any case
listed_kept : (p r c l n : Bool) → (p && r && c && l && n) ≡ true → (p && r && true && true && n) ≡ true
listed_kept true true true true n e = e
listed_kept true true true false n e = absurd (true≢false (sym e))
listed_kept true true false l n e = absurd (true≢false (sym e))
listed_kept true false c l n e = absurd (true≢false (sym e))
listed_kept false r c l n e = absurd (true≢false (sym e))

module _ (slot : List ℕ) (conv log a b : ℕ) where
  -- the slot after one, two and three of the four stores
  abbrev l₁ : List ℕ
  l₁ = set slot converted_at conv

  abbrev l₂ : List ℕ
  l₂ = set l₁ logical_at log

  abbrev l₃ : List ℕ
  l₃ = set l₂ parameter_a_at a

  -- the fields before the annotations and behind them
  other_byte : (i : ℕ) → (i < converted_at) ⊎ (child_count_at ≤ i) → get_or (annotated_slot slot conv log a b) i 0 ≡ get_or slot i 0
  unfolding annotated_slot
  other_byte i (inl h) =
      get_or-set_other l₃ parameter_b_at i b 0 (λ (e : i ≡ parameter_b_at). omega arith) ∙ get_or-set_other l₂ parameter_a_at i a 0 (λ (e : i ≡ parameter_a_at). omega arith) ∙ get_or-set_other l₁ logical_at i log 0 (λ (e : i ≡ logical_at). omega arith) ∙ get_or-set_other slot converted_at i conv 0 (λ (e : i ≡ converted_at). omega arith)
  other_byte i (inr h) =
      get_or-set_other l₃ parameter_b_at i b 0 (λ (e : i ≡ parameter_b_at). omega arith) ∙ get_or-set_other l₂ parameter_a_at i a 0 (λ (e : i ≡ parameter_a_at). omega arith) ∙ get_or-set_other l₁ logical_at i log 0 (λ (e : i ≡ logical_at). omega arith) ∙ get_or-set_other slot converted_at i conv 0 (λ (e : i ≡ converted_at). omega arith)

  -- what stands behind them
  drop_annotated : (n : ℕ) → child_count_at ≤ n → drop n (annotated_slot slot conv log a b) ≡ drop n slot
  unfolding annotated_slot
  drop_annotated n h =
      drop-set-lt n l₃ parameter_b_at b (omega arith) ∙ drop-set-lt n l₂ parameter_a_at a (omega arith) ∙ drop-set-lt n l₁ logical_at log (omega arith) ∙ drop-set-lt n slot converted_at conv (omega arith)

  number_annotated : (at size : ℕ) → child_count_at ≤ at → number_at (annotated_slot slot conv log a b) at size ≡ number_at slot at size
  number_annotated at size h = number_at_same size (annotated_slot slot conv log a b) slot at (λ i l. other_byte i (inr (omega arith)))

  pub physical_annotated : physical (annotated_slot slot conv log a b) ≡ physical slot
  unfolding physical
  physical_annotated = other_byte 0 (inl (omega arith))

  pub repetition_annotated : repetition (annotated_slot slot conv log a b) ≡ repetition slot
  unfolding repetition
  repetition_annotated = other_byte 1 (inl (omega arith))

  pub child_count_annotated : child_count (annotated_slot slot conv log a b) ≡ child_count slot
  unfolding child_count
  child_count_annotated = number_annotated child_count_at 2 (omega arith)

  pub type_length_annotated : type_length_of (annotated_slot slot conv log a b) ≡ type_length_of slot
  unfolding type_length_of
  type_length_annotated = ap signed32 (number_annotated type_length_at 4 (omega arith))

  pub scale_annotated : scale (annotated_slot slot conv log a b) ≡ scale slot
  unfolding scale
  scale_annotated = ap signed32 (number_annotated scale_at 4 (omega arith))

  pub precision_annotated : precision (annotated_slot slot conv log a b) ≡ precision slot
  unfolding precision
  precision_annotated = ap signed32 (number_annotated precision_at 4 (omega arith))

  pub name_length_annotated : name_length_of (annotated_slot slot conv log a b) ≡ name_length_of slot
  unfolding name_length_of
  name_length_annotated = other_byte name_length_at (inr (omega arith))

  pub name_annotated : name (annotated_slot slot conv log a b) ≡ name slot
  unfolding name
  name_annotated = ap₂ take name_length_annotated (drop_annotated name_at (omega arith))

  pub length_annotated : length (annotated_slot slot conv log a b) ≡ length slot
  unfolding annotated_slot
  length_annotated = simp length-set

  -- the annotations, in a slot that is long enough to have them
  module _ (long : child_count_at ≤ length slot) where
    pub converted_annotated : converted (annotated_slot slot conv log a b) ≡ conv
    unfolding converted annotated_slot
    converted_annotated =
        get_or-set_other l₃ parameter_b_at converted_at b 0 (λ (e : converted_at ≡ parameter_b_at). omega arith) ∙ get_or-set_other l₂ parameter_a_at converted_at a 0 (λ (e : converted_at ≡ parameter_a_at). omega arith) ∙ get_or-set_other l₁ logical_at converted_at log 0 (λ (e : converted_at ≡ logical_at). omega arith) ∙ get_or-set_same slot converted_at conv 0 (omega arith)

    pub logical_annotated : logical (annotated_slot slot conv log a b) ≡ log
    unfolding logical annotated_slot
    logical_annotated =
        get_or-set_other l₃ parameter_b_at logical_at b 0 (λ (e : logical_at ≡ parameter_b_at). omega arith) ∙ get_or-set_other l₂ parameter_a_at logical_at a 0 (λ (e : logical_at ≡ parameter_a_at). omega arith) ∙ get_or-set_same l₁ logical_at log 0 (simp length-set (omega arith))

    pub parameter_a_annotated : parameter_a (annotated_slot slot conv log a b) ≡ a
    unfolding parameter_a annotated_slot
    parameter_a_annotated =
        get_or-set_other l₃ parameter_b_at parameter_a_at b 0 (λ (e : parameter_a_at ≡ parameter_b_at). omega arith) ∙ get_or-set_same l₂ parameter_a_at a 0 (simp length-set (omega arith))

    pub parameter_b_annotated : parameter_b (annotated_slot slot conv log a b) ≡ b
    unfolding parameter_b annotated_slot
    parameter_b_annotated = get_or-set_same l₃ parameter_b_at b 0 (simp length-set (omega arith))

    -- it is sound where it was, and the annotations are listed
    pub sound_annotated : (edition : ℕ) → converted_listed conv ≡ true → logical_listed edition log ≡ true → slot_sound edition slot ≡ true → slot_sound edition (annotated_slot slot conv log a b) ≡ true
    unfolding slot_sound codes_listed name_right reserved_zero tail_zero
    sound_annotated edition c l s =
        rw (physical_annotated, repetition_annotated, converted_annotated, logical_annotated, name_length_annotated, drop_annotated reserved_at (omega arith), drop_annotated (name_at + name_length_of slot) (omega arith), c, l)
        (listed_kept (physical_listed (physical slot)) (repetition_listed (repetition slot)) (converted_listed (converted slot)) (logical_listed edition (logical slot)) _ s)
