-- `c_values::values::numbers` meets its contract, case by case.
use Prim.Native.Nat.{ℕ}
use mathlib.Core.Path.{refl, sym, ap, ◌∙◌}
use mathlib.Core.List.{[], ◌∷◌}
use lib.IntN.{ℤ}
use lib.Ieee.{binary32, binary64}
use mir.Syntax.{w64}
use mir.Val.{of_z}
use mir.ValLaws.{to_z-of_z}
use Rattle.c_values.specs.Values.{case_of, numbers_of}
use Rattle.c_values.proofs.ValueLaws.{written_of_lem, truth_bits, signed_bits, written_bits}
use Rattle.c_values.proofs.values.numbers.Goals as goal

pub returns-in-Truth : goal.returns-in-Truth
returns-in-Truth c = written_of_lem c.in-Truth.is c.bits.ensures.0 c.bits.ensures.1 (ap (λ (n : ℕ). n ∷ 0 ∷ []) (truth_bits c.in-Truth.p))

pub returns-in-Signed : goal.returns-in-Signed
returns-in-Signed c =
    let whole = ap (λ (z : ℤ). of_z w64 z) (to_z-of_z w64 c.in-Signed.x (record { sfits = c.in-Signed.known_told-in-Signed-1-own.given.0.1 })) in
    written_of_lem c.in-Signed.is c.bits-in-Signed.ensures.0 c.bits-in-Signed.ensures.1
    (ap (λ (n : ℕ). n ∷ 0 ∷ []) (c.cast_unsigned.ensures ∙ whole ∙ signed_bits c.in-Signed.x))

pub returns-in-Unsigned : goal.returns-in-Unsigned
returns-in-Unsigned c = written_of_lem c.in-Unsigned.is c.bits-in-Unsigned.ensures.0 c.bits-in-Unsigned.ensures.1 refl

pub returns-in-Float : goal.returns-in-Float
returns-in-Float c =
    written_of_lem c.in-Float.is c.bits-in-Float.ensures.0 c.bits-in-Float.ensures.1
    (ap (λ (n : ℕ). n ∷ 0 ∷ []) (c.from.ensures ∙ c.f32_to_bits_with_nan.ensures ∙ written_bits binary32 c.in-Float.x))

pub returns-in-Double : goal.returns-in-Double
returns-in-Double c =
    written_of_lem c.in-Double.is c.bits-in-Double.ensures.0 c.bits-in-Double.ensures.1
    (ap (λ (n : ℕ). n ∷ 0 ∷ []) (c.f64_to_bits_with_nan.ensures ∙ written_bits binary64 c.in-Double.x))

pub returns-in-Bytes : goal.returns-in-Bytes
returns-in-Bytes c = let told = sym c.in-Bytes.is in (ap case_of told, ap numbers_of told)
