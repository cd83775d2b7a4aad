-- Parameters as one number: a pair is valid where it is one of those that are spelled.
-- Assumes nothing.
use Prim.Native.Nat.{ℕ}
use mathlib.Core.Path.{◌≡◌}
use mathlib.Core.Bool.{Bool, true, false, ◌&&◌}
use mathlib.Core.List.{List, [], ◌∷◌}
use native.Mathlib.Omega.{arith}
use lib.Dec.{eqb}
use Rattle.laws.proofs.BoolLaws.{is_false}
use Rattle.logical_type.specs.Parameters.{UNUSED, unit_code, bit_width_code, edge_code, flag_code, valid_unit, valid_bit_width, valid_edge, valid_flag, unit_of, bit_width_of, edge_of, flag_of}
use Rattle.logical_type.specs.declared.types.TimeUnit.{TimeUnit}
use Rattle.logical_type.specs.declared.types.BitWidth.{BitWidth}
use Rattle.logical_type.specs.declared.types.EdgeRule.{EdgeRule}
use Rattle.logical_type.proofs.ReadingLaws.{unused_spelled, unit_flag_spelled, width_flag_spelled, edge_unused_spelled}
use Rattle.annotation.specs.Pairs.{NO_PAIR, pair_of, pair_a, pair_b}
use Rattle.annotation.proofs.TableLaws.{Rest}

pub unused_pair : (pair : ℕ) → (pair ≡ NO_PAIR → ⊥) → eqb (pair_a pair) UNUSED && eqb (pair_b pair) UNUSED ≡ false
unused_pair pair ne =
    is_false _ (λ e. let both = unused_spelled (pair_a pair) (pair_b pair) e in ne (omega arith))

-- the parameters of TIME and TIMESTAMP, in the order of the arms that read them; others are not valid
abbrev timed_pairs : List (ℕ × Unit {0})
timed_pairs =
    (pair_of (unit_code TimeUnit.Millis) (flag_code false), tt)
    ∷ (pair_of (unit_code TimeUnit.Micros) (flag_code false), tt)
    ∷ (pair_of (unit_code TimeUnit.Nanos) (flag_code false), tt)
    ∷ (pair_of (unit_code TimeUnit.Millis) (flag_code true), tt)
    ∷ (pair_of (unit_code TimeUnit.Micros) (flag_code true), tt)
    ∷ (pair_of (unit_code TimeUnit.Nanos) (flag_code true), tt)
    ∷ []

pub timed_rest : (pair : ℕ) → Rest pair timed_pairs (Unit {0}) → valid_unit (pair_a pair) && valid_flag (pair_b pair) ≡ false
timed_rest pair r =
    is_false _ (λ e. let both = unit_flag_spelled (pair_a pair) (pair_b pair) e in none (unit_of (pair_a pair)) (flag_of (pair_b pair)) (omega arith))
  where
    none : (p : TimeUnit) (flag : Bool) → pair ≡ pair_of (unit_code p) (flag_code flag) → ⊥
    none TimeUnit.Millis false = r.0.0.0.0.0.1
    none TimeUnit.Micros false = r.0.0.0.0.1
    none TimeUnit.Nanos false = r.0.0.0.1
    none TimeUnit.Millis true = r.0.0.1
    none TimeUnit.Micros true = r.0.1
    none TimeUnit.Nanos true = r.1

-- and those of INTEGER
abbrev sized_pairs : List (ℕ × Unit {0})
sized_pairs =
    (pair_of (bit_width_code BitWidth.Bits8) (flag_code false), tt)
    ∷ (pair_of (bit_width_code BitWidth.Bits16) (flag_code false), tt)
    ∷ (pair_of (bit_width_code BitWidth.Bits32) (flag_code false), tt)
    ∷ (pair_of (bit_width_code BitWidth.Bits64) (flag_code false), tt)
    ∷ (pair_of (bit_width_code BitWidth.Bits8) (flag_code true), tt)
    ∷ (pair_of (bit_width_code BitWidth.Bits16) (flag_code true), tt)
    ∷ (pair_of (bit_width_code BitWidth.Bits32) (flag_code true), tt)
    ∷ (pair_of (bit_width_code BitWidth.Bits64) (flag_code true), tt)
    ∷ []

pub sized_rest : (pair : ℕ) → Rest pair sized_pairs (Unit {0}) → valid_bit_width (pair_a pair) && valid_flag (pair_b pair) ≡ false
sized_rest pair r =
    is_false _ (λ e. let both = width_flag_spelled (pair_a pair) (pair_b pair) e in none (bit_width_of (pair_a pair)) (flag_of (pair_b pair)) (omega arith))
  where
    none : (p : BitWidth) (flag : Bool) → pair ≡ pair_of (bit_width_code p) (flag_code flag) → ⊥
    none BitWidth.Bits8 false = r.0.0.0.0.0.0.0.1
    none BitWidth.Bits16 false = r.0.0.0.0.0.0.1
    none BitWidth.Bits32 false = r.0.0.0.0.0.1
    none BitWidth.Bits64 false = r.0.0.0.0.1
    none BitWidth.Bits8 true = r.0.0.0.1
    none BitWidth.Bits16 true = r.0.0.1
    none BitWidth.Bits32 true = r.0.1
    none BitWidth.Bits64 true = r.1

-- and those of GEOGRAPHY but SPHERICAL, whose parameters are unused
abbrev edged_pairs : List (ℕ × Unit {0})
edged_pairs =
    (pair_of (edge_code EdgeRule.Vincenty) UNUSED, tt)
    ∷ (pair_of (edge_code EdgeRule.Thomas) UNUSED, tt)
    ∷ (pair_of (edge_code EdgeRule.Andoyer) UNUSED, tt)
    ∷ (pair_of (edge_code EdgeRule.Karney) UNUSED, tt)
    ∷ []

pub edged_rest : (pair : ℕ) → (pair ≡ NO_PAIR → ⊥) → Rest pair edged_pairs (Unit {0}) → valid_edge (pair_a pair) && eqb (pair_b pair) UNUSED ≡ false
edged_rest pair some r =
    is_false _ (λ e. let both = edge_unused_spelled (pair_a pair) (pair_b pair) e in none (edge_of (pair_a pair)) (omega arith))
  where
    none : (p : EdgeRule) → pair ≡ pair_of (edge_code p) UNUSED → ⊥
    none EdgeRule.Spherical = some
    none EdgeRule.Vincenty = r.0.0.0.1
    none EdgeRule.Thomas = r.0.0.1
    none EdgeRule.Andoyer = r.0.1
    none EdgeRule.Karney = r.1
