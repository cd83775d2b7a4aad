-- `decimal_bytes::number::significant` meets its contract. The loop's invariant: the bytes that are needed are those that are needed
-- from the byte before `next` on. Assumes nothing.
use mathlib.Core.Path.{◌≡◌, sym, ap, ◌∙◌}
use mathlib.Core.List.{List, [], ◌∷◌}
use Prim.Native.Nat.{ℕ, ◌+◌, ◌-◌, ◌≤◌, ◌<◌}
use native.Mathlib.Nat.{le_of_eq}
use native.Mathlib.Omega.{arith}
use lib.ListN.{length, take, drop, length-drop}
use lib.Seq.{take_all}
use Rattle.decimal_bytes.specs.Significant.{sign_byte, significant}
use Rattle.decimal_bytes.proofs.NumberLaws.{significant_short, significant_next, significant_stop}
use Rattle.decimal_bytes.proofs.number.significant.Goals as goal
use Rattle.decimal_bytes.proofs.number.significant.Goals.{After-sign_byte}

-- the part of a list from a place to its end
whole : (bs : List ℕ) (at : ℕ) → take (length bs - at) (drop at bs) ≡ drop at bs
whole bs at = take_all (length bs - at) (drop at bs) (le_of_eq (length-drop at bs))

-- the sign of the bytes behind the byte before `next`
sign : (c : After-sign_byte)
    → c.sign_byte.result ≡ sign_byte (drop (c.loop-next.next - 1 + 1) c.args.number.now)
sign c =
    c.sign_byte.ensures ∙ ap sign_byte (whole c.args.number.now c.loop-next.next)
    ∙ ap (λ (n : ℕ). sign_byte (drop n c.args.number.now)) (omega (arith, c.loop-next.auto.next))

-- the last byte is needed
last_needed : (bs : List ℕ) (last : ℕ) → last ≡ length bs - 1 → significant (drop last bs) ≡ drop last bs
last_needed bs last e = significant_short (drop last bs) (omega (arith, length-drop last bs))

-- and where no byte is left behind it, it is the byte before `next`, if there is one
last_left : (bs : List ℕ) (next last : ℕ) → last ≡ length bs - 1 → 1 ≤ next → (1 ≤ length bs → next ≤ length bs) → length bs ≤ next
    → significant (drop (next - 1) bs) ≡ significant bs → significant (drop last bs) ≡ significant bs
last_left [] next last e one within end needed = ap (λ (n : ℕ). significant (drop n [])) e
last_left (b ∷ bs) next last e one within end needed =
    ap (λ (n : ℕ). significant (drop n (b ∷ bs))) (omega (arith, e, one, within (omega arith), end)) ∙ needed

pub returns-then-number-at : goal.returns-then-number-at
returns-then-number-at c =
    let bs = c.args.number.now in
    let at = c.loop-next.next - 1 in
    let within : at + 1 < length bs = omega (arith, c.loop-next-test.true, c.loop-next.auto.next) in
    whole bs at
    ∙ sym (significant_stop bs at within (λ e. c.if-number-at.true (e ∙ sym (sign (goal.at.returns-then-number-at c).After-sign_byte))))
    ∙ c.loop-next.invariant

pub loop-next-preserved : goal.loop-next-preserved
loop-next-preserved c =
    let bs = c.args.number.now in
    let at = c.loop-next.next - 1 in
    let within : at + 1 < length bs = omega (arith, c.loop-next-test.true, c.loop-next.auto.next) in
    ap (λ (n : ℕ). significant (drop n bs)) (omega (arith, c.loop-next.auto.next))
    ∙ sym (significant_next bs at within (c.if-number-at.false ∙ sign (goal.at.loop-next-preserved c).After-sign_byte))
    ∙ c.loop-next.invariant

pub returns : goal.returns
returns c =
    let bs = c.args.number.now in
    let last = c.saturating_sub.result in
    whole bs last ∙ sym (last_needed bs last c.saturating_sub.ensures)
    ∙ last_left bs _ last c.saturating_sub.ensures c.loop-next.auto.next c.loop-next.auto.next-end c.loop-next-test.false c.loop-next.invariant
