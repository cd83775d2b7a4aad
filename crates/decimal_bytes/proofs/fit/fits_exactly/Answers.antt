-- `decimal_bytes::fit::fits_exactly` meets its contract: the order against the power of ten, or its negative, is judged. Assumes nothing.
use mathlib.Core.Path.{◌≡◌, sym, ap, subst, ◌∙◌}
use mathlib.Core.Bool.{Bool, true, cond}
use mathlib.Core.List.{List, ◌++◌}
use Prim.Native.Nat.{ℕ, ◌^◌, ◌≤◌}
use native.Mathlib.Nat.{le_trans, pow-le-pow_right}
use native.Mathlib.Omega.{arith}
use lib.IntN.{pos, neg_ℤ}
use lib.ListN.{length, take, drop, length-append}
use lib.Seq.{length-take-le, take_at}
use Rattle.std.specs.Prelude.{Ok}
use Rattle.std.specs.declared.cmp.Ordering.{Ordering}
use Rattle.decimal_bytes.specs.Precision.{is_length, greatest_length, greatest_number}
use Rattle.decimal_bytes.specs.Number.{is_negative, number}
use Rattle.decimal_bytes.specs.Order.{order}
use Rattle.decimal_bytes.specs.Fit.{fit_of}
use Rattle.decimal_bytes.proofs.PrecisionLaws.{is_length_bounds, greatest_precision_low}
use Rattle.decimal_bytes.proofs.UnsignedLaws.{each_get_d}
use Rattle.decimal_bytes.proofs.FitLaws.{judged, fit_of_judged}
use Rattle.decimal_bytes.proofs.fit.fits_exactly.Goals as goal
use Rattle.decimal_bytes.proofs.fit.fits_exactly.Goals.{After-compare_numbers, After-room-bound, After-write_power, Start}

-- the number's length holds the power of ten
held : (c : Start) → 10 ^ c.args.precision ≤ greatest_number (length c.args.number.now)
held c =
    let bounds = is_length_bounds (length c.args.number.now) c.requires.0 in
    le_trans (pow-le-pow_right (omega arith) c.requires.1) (greatest_precision_low (length c.args.number.now) bounds.0 bounds.1)

-- the room that is lent is as long as the number
within : (n : ℕ) (room : List ℕ) → is_length n ≡ true → length room ≡ greatest_length → n ≤ length room
within n room e h = omega (arith, (is_length_bounds n e).1)

-- and so is what is written there
front : (n : ℕ) (power left : List ℕ) → length power ≡ n → n ≤ length (power ++ left)
front n power left e = omega (arith, length-append power left)

module _ (c : After-room-bound) where
  length_lent : length (take (length c.args.number.now) c.room-bound.result) ≡ length c.args.number.now
  length_lent = length-take-le _ c.room-bound.result (within _ c.room-bound.result c.requires.0 c.room-bound.ensures)

module _ (c : After-write_power) where
  length_power : length c.write_power.new.bytes ≡ length c.args.number.now
  length_power =
      c.write_power.auto.bytes
      ∙ length-take-le _ c.room-bound.result (within _ c.room-bound.result c.requires.0 c.room-bound.ensures)

-- what the order says of the number
module _ (c : After-compare_numbers) where
  abbrev bs : List ℕ
  bs = c.args.number.now

  abbrev precision : ℕ
  precision = c.args.precision

  abbrev bound : List ℕ
  bound = c.write_power.new.bytes

  length_bound : length bound ≡ length bs
  length_bound =
      c.write_power.auto.bytes
      ∙ length-take-le _ c.room-bound.result (within _ c.room-bound.result c.requires.0 c.room-bound.ensures)

  order_is : c.compare_numbers.result ≡ order (number bs) (number bound)
  order_is =
      c.compare_numbers.ensures
      ∙ ap (λ (l : List ℕ). order (number bs) (number l)) (take_at bound (drop (length bs) c.room-bound.result) (length bs) length_bound)

  value : number bound ≡ cond (is_negative bs) (neg_ℤ (pos (10 ^ precision))) (pos (10 ^ precision))
  value =
      c.write_power.ensures
      ∙ ap (λ (t : Bool). cond t (neg_ℤ (pos (10 ^ precision))) (pos (10 ^ precision))) c.is_negative-negative.ensures

  answer : (o : Ordering) → c.compare_numbers.result ≡ o → Ok (judged c.is_negative-negative.result o) ≡ fit_of bs precision
  answer o e =
      fit_of_judged bs bound precision c.requires.0 (each_get_d bs (λ k. (c.type_inv.number k).fits)) value
      c.is_negative-negative.result o (sym c.is_negative-negative.ensures) (sym order_is ∙ e)

pub slice_bounds-bound-end : goal.slice_bounds-bound-end
slice_bounds-bound-end c = within _ _ c.requires.0 c.room-bound.ensures

pub slice_bounds-write_power-end : goal.slice_bounds-write_power-end
slice_bounds-write_power-end c = sym (length_lent (goal.at.slice_bounds-write_power-end c).After-room-bound)

pub write_power-requires : goal.write_power-requires
write_power-requires c =
    let long = sym (length_lent (goal.at.write_power-requires c).After-room-bound) in (
      subst (λ (m : ℕ). 1 ≤ m) long (is_length_bounds _ c.requires.0).0,
      subst (λ (m : ℕ). 10 ^ c.args.precision ≤ greatest_number m) long (held (goal.at.write_power-requires c).Start),
    )

pub slice_bounds-bound-end-2 : goal.slice_bounds-bound-end-2
slice_bounds-bound-end-2 c = front _ _ _ (length_power (goal.at.slice_bounds-bound-end-2 c).After-write_power)

pub slice_bounds-compare_numbers-end : goal.slice_bounds-compare_numbers-end
slice_bounds-compare_numbers-end c = sym (length-take-le _ _ (front _ _ _ (length_power (goal.at.slice_bounds-compare_numbers-end c).After-write_power)))

pub returns-in-Less : goal.returns-in-Less
returns-in-Less c = answer (goal.at.returns-in-Less c).After-compare_numbers Ordering.Less c.in-Less.is

pub returns-in-Equal : goal.returns-in-Equal
returns-in-Equal c = answer (goal.at.returns-in-Equal c).After-compare_numbers Ordering.Equal c.in-Equal.is

pub returns-in-Greater : goal.returns-in-Greater
returns-in-Greater c = answer (goal.at.returns-in-Greater c).After-compare_numbers Ordering.Greater c.in-Greater.is
