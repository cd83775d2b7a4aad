-- `int96::conversion::write_value` meets its contract: the parts into which the count is divided are those of its value.
use Prim.Native.Nat.{ℕ, ◌/◌, ◌%◌, ◌<◌, ◌≤◌, ◌^◌}
use native.Mathlib.Omega.{arith}
use mathlib.Core.Path.{◌≡◌, sym, ap, ap₂, ◌∙◌}
use mathlib.Core.List.{List, ◌++◌, append_assoc}
use borrow.Author.Rules.{sfits_of}
use borrow.Rule.Slice.PartMut.{put_mid}
use lib.IntN.{ℤ, pos, nat_abs, ◌+ℤ◌}
use lib.ListN.{length, take, drop, length-drop}
use lib.Seq.{length-take-le, take_at, drop_at, drop-drop}
use mir.Syntax.{w64}
use mir.Val.{SFits, to_z, of_z}
use mir.ValLaws.{to_z-of_z}
use Rattle.laws.specs.Bytes.{bytes_of}
use Rattle.laws.proofs.ByteLaws.{length_bytes_of}
use Rattle.laws.proofs.SignedLaws.{read_back}
use Rattle.timestamp.specs.declared.division.Division.{Division}
use Rattle.timestamp.specs.FloorDivision.{FloorDivision}
use Rattle.timestamp.proofs.FloorLaws.{division_told}
use Rattle.int96.specs.Value.{NANOS_BYTES, DAY_BYTES, VALUE_BYTES, DAY_OF_1970, NANOS_PER_DAY, since_day0, value_of}
use Rattle.int96.proofs.ValueLaws.{divided_day, divided_small, divided_rest}
use Rattle.int96.proofs.conversion.write_value.Goals as goal
use Rattle.int96.proofs.conversion.write_value.Goals.{After-divide-parts, After-store}

-- what is stored: the nanoseconds, and the day behind them
written : (out nanos day : List ℕ) (z : ℤ) → nanos ≡ bytes_of NANOS_BYTES (since_day0 z % NANOS_PER_DAY) → day ≡ bytes_of DAY_BYTES (since_day0 z / NANOS_PER_DAY)
    → put_mid NANOS_BYTES DAY_BYTES (nanos ++ drop NANOS_BYTES out) day ≡ value_of z ++ drop VALUE_BYTES out
unfolding value_of
written out nanos day z e f =
    let eight : length nanos ≡ NANOS_BYTES = ap length e ∙ length_bytes_of NANOS_BYTES _ in
    let rest : drop DAY_BYTES (drop NANOS_BYTES (nanos ++ drop NANOS_BYTES out)) ≡ drop VALUE_BYTES out =
    ap (drop DAY_BYTES) (drop_at nanos (drop NANOS_BYTES out) NANOS_BYTES eight) ∙ drop-drop DAY_BYTES NANOS_BYTES out in
    ap₂ (λ (a b : List ℕ). a ++ (day ++ b)) (take_at nanos (drop NANOS_BYTES out) NANOS_BYTES eight) rest
    ∙ sym (append_assoc nanos day (drop VALUE_BYTES out))
    ∙ ap₂ (λ (a b : List ℕ). (a ++ b) ++ drop VALUE_BYTES out) e f

-- the division of the count
divided : (c : After-divide-parts) → FloorDivision c.args.count NANOS_PER_DAY c.divide-parts.result
divided c = division_told c.ranges.count c.divide-parts.ensures.floor_division

-- its day, as the machine reads it back, is the Julian day
day_is : (count : ℤ) (d : Division) → SFits w64 count → SFits w64 d.day → FloorDivision count NANOS_PER_DAY d
    → to_z w64 (of_z w64 d.day) +ℤ pos DAY_OF_1970 ≡ pos (since_day0 count / NANOS_PER_DAY)
day_is count d fits day_fits parts = ap (λ (z : ℤ). z +ℤ pos DAY_OF_1970) (to_z-of_z w64 d.day day_fits) ∙ divided_day count d fits.sfits parts

day_small : (c : After-divide-parts) → since_day0 c.args.count / NANOS_PER_DAY < 2 ^ 63
day_small c = divided_small c.args.count c.divide-parts.result c.ranges.count.sfits (divided c)

-- and its rest the nanoseconds
nanos_are : (c : After-store) → c.store.new.out ≡ bytes_of NANOS_BYTES (since_day0 c.args.count % NANOS_PER_DAY)
nanos_are c =
    let eight : length (take 8 c.args.out.now) ≡ 8 = length-take-le 8 c.args.out.now (omega (arith, c.requires)) in
    c.store.ensures
    ∙ ap₂ bytes_of eight (divided_rest c.args.count c.divide-parts.result c.ranges.count.sfits (division_told c.ranges.count c.divide-parts.ensures.floor_division))

-- four bytes stand behind them
four : (out nanos : List ℕ) → VALUE_BYTES ≤ length out → length nanos ≡ NANOS_BYTES → length (take DAY_BYTES (drop NANOS_BYTES (nanos ++ drop NANOS_BYTES out))) ≡ DAY_BYTES
four out nanos h e =
    ap (λ (bs : List ℕ). length (take DAY_BYTES bs)) (drop_at nanos (drop NANOS_BYTES out) NANOS_BYTES e)
    ∙ length-take-le DAY_BYTES (drop NANOS_BYTES out) (omega (arith, length-drop NANOS_BYTES out))

pub returns : goal.returns
returns c =
    let nanos = c.store.new.out in
    let at_divide = (goal.at.returns c).After-divide-parts in
    let at_store = (goal.at.returns c).After-store in
    let eight : length nanos ≡ NANOS_BYTES = ap length (nanos_are at_store) ∙ length_bytes_of NANOS_BYTES _ in
    let day = day_is c.args.count c.divide-parts.result c.ranges.count (search sfits_of) (divided at_divide) in
    written c.args.out.now nanos _ c.args.count (nanos_are at_store)
    (c.store-2.ensures ∙ ap₂ bytes_of (four c.args.out.now nanos c.requires eight) (ap nat_abs (read_back day (day_small at_divide))))
