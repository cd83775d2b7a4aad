-- `int96::conversion::day_in` meets its contract: four bytes are read, so no number leaves 64 bits.
use Prim.Native.Nat.{ℕ, suc, ◌-◌, ◌<◌, ◌^◌}
use native.Mathlib.Omega.{arith}
use mathlib.Core.Path.{◌≡◌, sym, ap, subst, ◌∙◌}
use mathlib.Core.List.{List}
use lib.Dec.{lit<}
use lib.IntN.{ℤ, pos, negsuc, ◌+ℤ◌, ◌-ℤ◌}
use lib.ListN.{length, take, drop, length-drop}
use lib.Seq.{take_all}
use lib.Signed.{mag}
use mir.Syntax.{w64}
use mir.Val.{SFits, to_z}
use mir.ValLaws.{to_z_pos}
use Rattle.laws.specs.Bytes.{little}
use Rattle.laws.proofs.SignedLaws.{read_back}
use Rattle.timestamp.proofs.CalendarLaws.{difference_most}
use Rattle.int96.specs.Value.{VALUE_BYTES, DAY_OF_1970, day_in}
use Rattle.int96.proofs.ValueLaws.{day_small, days_fit}
use Rattle.int96.proofs.conversion.day_in.Goals as goal
use Rattle.int96.proofs.conversion.day_in.Goals.{After-number}

-- the bytes behind the nanoseconds are the day's
behind : (v : List ℕ) → length v ≡ VALUE_BYTES → little (take 8 (take (length v - 8) (drop 8 v))) ≡ day_in v
unfolding day_in
behind v long =
    let four : length (drop 8 v) ≡ length v - 8 = length-drop 8 v in
    let all : take (length v - 8) (drop 8 v) ≡ drop 8 v = take_all (length v - 8) (drop 8 v) (omega (arith, four)) in
    ap (λ (bs : List ℕ). little (take 8 bs)) all ∙ ap little (take_all 8 (drop 8 v) (omega (arith, four, long)))

day_is : (c : After-number) → c.number.result ≡ day_in c.args.value.now
day_is c =
    c.number.ensures ∙ behind c.args.value.now c.requires

day_fits : (c : After-number) → c.number.result < 2 ^ 63
day_fits c =
    omega (arith, day_is c, day_small c.args.value.now (λ i. (c.type_inv.value i).fits) c.requires)

-- whatever day they are counted from, the days to it have 64 bits
less_fits : (n k : ℕ) → n < 2 ^ 63 → k < 2 ^ 62 → SFits w64 (to_z w64 n +ℤ negsuc k)
less_fits n k h l =
    subst (λ (z : ℤ). SFits w64 (z +ℤ negsuc k)) (sym (to_z_pos w64 n h)) (record { sfits = difference_most n (suc k) (2 ^ 63) h (omega arith) })

-- the days from 1 January 1970 to it
days_are : (c : After-number) → to_z w64 c.number.result -ℤ pos DAY_OF_1970 ≡ pos (day_in c.args.value.now) -ℤ pos DAY_OF_1970
days_are c = ap (λ (z : ℤ). z -ℤ pos DAY_OF_1970) (to_z_pos w64 c.number.result (day_fits c) ∙ ap pos (day_is c))

few : (c : After-number) → mag (pos (day_in c.args.value.now) -ℤ pos DAY_OF_1970) < 2 ^ 63
few c = days_fit _ (λ i. (c.type_inv.value i).fits) c.requires

pub overflow_cast-result : goal.overflow_cast-result
overflow_cast-result c = record { sfits = day_fits c }

pub overflow_sub-result : goal.overflow_sub-result
overflow_sub-result c = less_fits c.number.result _ (day_fits c) (lit< tt)

pub returns : goal.returns
returns c = read_back (days_are c) (few c)
