-- The ranges of a slot's fields, where its elements are bytes.
use mathlib.Core.List.{List}
use Prim.Native.Nat.{ℕ, ◌^◌, ◌<◌}
use lib.Signed.{mag}
use Rattle.sheet.specs.Slot.{physical_at, repetition_at, converted_at, logical_at, parameter_a_at, parameter_b_at, child_count_at, type_length_at, scale_at, precision_at, name_length_at, physical, repetition, converted, logical, parameter_a, parameter_b, child_count, type_length_of, scale, precision, name_length_of}
use Rattle.laws.specs.Bytes.{Bytes}
use Rattle.sheet.proofs.NumberLaws.{number_at_two_lt, number_at_four_lt, signed32_mag}

module _ (slot : List ℕ) (bytes : Bytes slot) where
  pub physical_lt : physical slot < 256
  unfolding physical
  physical_lt = bytes physical_at

  pub repetition_lt : repetition slot < 256
  unfolding repetition
  repetition_lt = bytes repetition_at

  pub converted_lt : converted slot < 256
  unfolding converted
  converted_lt = bytes converted_at

  pub logical_lt : logical slot < 256
  unfolding logical
  logical_lt = bytes logical_at

  pub parameter_a_lt : parameter_a slot < 256
  unfolding parameter_a
  parameter_a_lt = bytes parameter_a_at

  pub parameter_b_lt : parameter_b slot < 256
  unfolding parameter_b
  parameter_b_lt = bytes parameter_b_at

  pub child_count_lt : child_count slot < 2 ^ 16
  unfolding child_count
  child_count_lt = number_at_two_lt slot child_count_at bytes

  pub type_length_mag : mag (type_length_of slot) < 2 ^ 31
  unfolding type_length_of
  type_length_mag = signed32_mag _ (number_at_four_lt slot type_length_at bytes)

  pub scale_mag : mag (scale slot) < 2 ^ 31
  unfolding scale
  scale_mag = signed32_mag _ (number_at_four_lt slot scale_at bytes)

  pub precision_mag : mag (precision slot) < 2 ^ 31
  unfolding precision
  precision_mag = signed32_mag _ (number_at_four_lt slot precision_at bytes)

  pub name_length_lt : name_length_of slot < 256
  unfolding name_length_of
  name_length_lt = bytes name_length_at
