-- Which value a refusal is laid on, and that it is then what reading answers for that value. Assumes nothing.
use mathlib.Core.Path.{◌≡◌, refl, sym, ap, subst, ◌∙◌}
use mathlib.Core.Bool.{Bool, true, false, cond}
use mathlib.Core.List.{List}
use mathlib.Core.Logic.{◌↔◌, ◌⊎◌, inl, inr}
use Prim.Native.Nat.{ℕ, ◌<◌, ◌≤◌}
use native.Mathlib.Omega.{arith}
use Rattle.refusal.specs.Faults.{FIRST, SECOND, NEITHER, fault, of_neither, Sided, given, refused}
use Rattle.refusal.specs.Bounds.{FaultBounded}
use Rattle.refusal.specs.Numbers.{NO_ORDER, UNKNOWN_TYPE, UNKNOWN_EDITION, GREATEST}
use Rattle.refusal.specs.Outcome.{refusal}
use Rattle.refusal.specs.Outcome as reading
use Rattle.refusal.specs.declared.answers.Refusal.{Refusal}
use Rattle.refusal.specs.declared.answers.Fault.{Fault}
use Rattle.std.specs.Prelude.{Option, Ok, Err}
use Rattle.std.specs.declared.cmp.Ordering.{Ordering}
use Rattle.column_type.specs.Lawful.{is_lawful, type_refusal}
use Rattle.column_type.proofs.RefusalLaws.{unknown_unlawful, refusal_known, refusal_unknown, refusal_either}
use Rattle.edition.specs.Editions.{is_known}
use Rattle.laws.proofs.BoolLaws.{by_test}
use Rattle.column_type.specs.declared.types.ColumnType.{ColumnType}
use Rattle.column.specs.Lengths.{most_bytes}
use Rattle.column.specs.Reading.{read_of}
use Rattle.column.specs.Outcome as column
use Rattle.std.specs.Prelude.{Result}
use Rattle.column.specs.declared.value.Value.{Value}
use Rattle.column.proofs.PlaceLaws.{refusal_bounded}
use Rattle.column_order.specs.Keys.{key_of, key_order}
use Rattle.column_order.specs.Order.{has_order, unless_refused, order_of}
use Rattle.column_order.specs.Comparison.{Valid}
use Rattle.column_order.specs.Outcome.{outcome_of, outcome}
use Rattle.column_order.specs.Order.{Order}
use Rattle.column_order.proofs.Turning.{related, faulted}

-- ---- what an outcome says, field by field

fault_is : {f g : Fault} → ◌≡◌ {A = Sided (Option Ordering)} (refused f) (refused g) → f ≡ g
fault_is e = cc

side_is : {f g : Fault} → ◌≡◌ {A = Sided (Option Ordering)} (refused f) (refused g) → f.side ≡ g.side
side_is e = ap (λ (x : Fault). x.side) (fault_is e)

refusal_is : {f g : Fault} → ◌≡◌ {A = Sided (Option Ordering)} (refused f) (refused g) → f.refusal ≡ g.refusal
refusal_is e = ap (λ (x : Fault). x.refusal) (fault_is e)

-- a value that is given was read
given_read : (edition : ℕ) (c : ColumnType) (bs : List ℕ) (v : Value) → column.outcome edition c bs ≡ reading.given v → read_of edition c bs ≡ Ok v
unfolding column.outcome
given_read edition c bs v = go (read_of edition c bs)
  where
    go : (r : Result Value Refusal) → column.outcome_of r ≡ reading.given v → r ≡ Ok v
    go (Ok w) e = cc
    go (Err r) e = absurd (let z : ◌≡◌ {A = ℕ} 0 1 = cc in omega arith)

-- ---- how great a refusal's side, number and place are

pub order_bounded : (edition : ℕ) (c : ColumnType) (a b : List ℕ) (f : Fault) → order_of edition c a b ≡ faulted f → FaultBounded GREATEST most_bytes f
unfolding order_of
order_bounded edition c a b f = go (is_lawful edition c) (has_order c) (read_of edition c a) refl (read_of edition c b) refl
  where
    same : (g : Fault) → FaultBounded GREATEST most_bytes g → faulted g ≡ faulted f → FaultBounded GREATEST most_bytes f
    same g h e = let i : g ≡ f = cc in subst (FaultBounded GREATEST most_bytes) i h

    neither : (number : ℕ) → 0 < number → number ≤ GREATEST → FaultBounded GREATEST most_bytes (of_neither number)
    neither number some h = record { side = omega arith; refusal = record { some_number = some; most_number = h; most_place = omega arith } }

    go : (l h : Bool) (x : Result Value Refusal) → read_of edition c a ≡ x → (y : Result Value Refusal) → read_of edition c b ≡ y
        → cond l (cond h (unless_refused FIRST x (unless_refused SECOND y (related (key_order (key_of c a) (key_of c b))))) (faulted (of_neither NO_ORDER))) (faulted (fault NEITHER (type_refusal edition))) ≡ faulted f → FaultBounded GREATEST most_bytes f
    go false h x p y q e =
        same (fault NEITHER (type_refusal edition))
        (refusal_either edition (λ r. FaultBounded GREATEST most_bytes (fault NEITHER r)) (neither UNKNOWN_TYPE (omega arith) (omega arith)) (neither UNKNOWN_EDITION (omega arith) (omega arith))) e
    go true false x p y q e = same (of_neither NO_ORDER) (neither NO_ORDER (omega arith) (omega arith)) e
    go true true (Err r) p y q e = same (fault FIRST r) (record { side = omega arith; refusal = refusal_bounded edition c a r p }) e
    go true true (Ok v) p (Err r) q e = same (fault SECOND r) (record { side = omega arith; refusal = refusal_bounded edition c b r q }) e
    go true true (Ok v) p (Ok w) q e = absurd (let z : ◌≡◌ {A = ℕ} 0 1 = cc in omega arith)

-- ---- what ordering comes to, by what reading its values comes to

-- the refusal of the value on a side, or what follows where it is read
abbrev after : ℕ → reading.Outcome Value → Sided (Option Ordering) → Sided (Option Ordering)
after side (reading.refused r) next = refused (fault side r)
after side (reading.given v) next = next

module _ (edition : ℕ) (c : ColumnType) (a b : List ℕ) where
  -- 21 and 20, 17, the first value, the second value
  abbrev steps : Bool → Bool → reading.Outcome Value → reading.Outcome Value → Sided (Option Ordering)
  steps l h x y = cond l (cond h (after FIRST x (after SECOND y (given (key_order (key_of c a) (key_of c b))))) (refused (of_neither NO_ORDER))) (refused (fault NEITHER (type_refusal edition)))

  outcome_is : outcome edition c a b ≡ steps (is_lawful edition c) (has_order c) (column.outcome edition c a) (column.outcome edition c b)
  unfolding outcome order_of column.outcome
  outcome_is = go (is_lawful edition c) (has_order c) (read_of edition c a) (read_of edition c b)
    where
      go : (l h : Bool) (x y : Result Value Refusal)
          → outcome_of (cond l (cond h (unless_refused FIRST x (unless_refused SECOND y (related (key_order (key_of c a) (key_of c b))))) (faulted (of_neither NO_ORDER))) (faulted (fault NEITHER (type_refusal edition))))
          ≡ steps l h (column.outcome_of x) (column.outcome_of y)
      go false h x y = refl
      go true false x y = refl
      go true true (Err r) y = refl
      go true true (Ok v) (Err r) = refl
      go true true (Ok v) (Ok w) = refl

  -- ---- whose refusal it is

  module _ (number place : ℕ) where
    -- the side is 1 or 2, or 0
    pub fault_most : (side : ℕ) → outcome edition c a b ≡ refused (fault side (refusal number place)) → side ≤ 2
    unfolding outcome
    fault_most side e = (order_bounded edition c a b (fault side (refusal number place)) (go (order_of edition c a b) e)).side
      where
        go : (o : Order) → outcome_of o ≡ refused (fault side (refusal number place)) → o ≡ faulted (fault side (refusal number place))
        go (Ok r) f = absurd (let z : ◌≡◌ {A = ℕ} 0 1 = cc in omega arith)
        go (Err g) f = ap faulted (fault_is f)

    -- the first value's: what reading answers for it
    to_first : outcome edition c a b ≡ refused (fault FIRST (refusal number place)) → (is_lawful edition c ≡ true) × (has_order c ≡ true) × (column.outcome edition c a ≡ reading.refused (refusal number place))
    to_first e = go (is_lawful edition c) refl (has_order c) refl (column.outcome edition c a) refl (column.outcome edition c b) (sym outcome_is ∙ e)
      where
        go : (l : Bool) → is_lawful edition c ≡ l → (h : Bool) → has_order c ≡ h → (x : reading.Outcome Value) → column.outcome edition c a ≡ x → (y : reading.Outcome Value) → steps l h x y ≡ refused (fault FIRST (refusal number place))
            → (is_lawful edition c ≡ true) × (has_order c ≡ true) × (column.outcome edition c a ≡ reading.refused (refusal number place))
        go false p h q x r y f = absurd (omega (arith, side_is f))
        go true p false q x r y f = absurd (omega (arith, side_is f))
        go true p true q (reading.refused t) r y f = (p, q, r ∙ ap reading.refused (refusal_is f))
        go true p true q (reading.given v) r (reading.refused t) f = absurd (omega (arith, side_is f))
        go true p true q (reading.given v) r (reading.given w) f = absurd (let z : ◌≡◌ {A = ℕ} 0 1 = cc in omega arith)

    pub first_exactly : (outcome edition c a b ≡ refused (fault FIRST (refusal number place))) ↔ ((is_lawful edition c ≡ true) × (has_order c ≡ true) × (column.outcome edition c a ≡ reading.refused (refusal number place)))
    first_exactly = (to_first, λ h. outcome_is ∙ rw (h.0, h.1, h.2))

    -- the second's: the first is read, and reading answers it for the second
    to_second : outcome edition c a b ≡ refused (fault SECOND (refusal number place)) → (is_lawful edition c ≡ true) × (has_order c ≡ true) × Valid edition c a × (column.outcome edition c b ≡ reading.refused (refusal number place))
    to_second e = go (is_lawful edition c) refl (has_order c) refl (column.outcome edition c a) refl (column.outcome edition c b) refl (sym outcome_is ∙ e)
      where
        go : (l : Bool) → is_lawful edition c ≡ l → (h : Bool) → has_order c ≡ h → (x : reading.Outcome Value) → column.outcome edition c a ≡ x → (y : reading.Outcome Value) → column.outcome edition c b ≡ y → steps l h x y ≡ refused (fault SECOND (refusal number place))
            → (is_lawful edition c ≡ true) × (has_order c ≡ true) × Valid edition c a × (column.outcome edition c b ≡ reading.refused (refusal number place))
        go false p h q x r y s f = absurd (omega (arith, side_is f))
        go true p false q x r y s f = absurd (omega (arith, side_is f))
        go true p true q (reading.refused t) r y s f = absurd (omega (arith, side_is f))
        go true p true q (reading.given v) r (reading.refused t) s f = (p, q, (v, given_read edition c a v r), s ∙ ap reading.refused (refusal_is f))
        go true p true q (reading.given v) r (reading.given w) s f = absurd (let z : ◌≡◌ {A = ℕ} 0 1 = cc in omega arith)

    from_second : is_lawful edition c ≡ true → has_order c ≡ true → Valid edition c a → column.outcome edition c b ≡ reading.refused (refusal number place) → outcome edition c a b ≡ refused (fault SECOND (refusal number place))
    unfolding column.outcome
    from_second l h v e = outcome_is ∙ rw (l, h, v.1, e)

    pub second_exactly : (outcome edition c a b ≡ refused (fault SECOND (refusal number place))) ↔ ((is_lawful edition c ≡ true) × (has_order c ≡ true) × Valid edition c a × (column.outcome edition c b ≡ reading.refused (refusal number place)))
    second_exactly = (to_second, λ h. from_second h.0 h.1 h.2 h.3)

    -- neither's: 21 of an unknown edition, 20 of an unlawful column type, or 17 of a column without order
    abbrev pub OfNeither : Type 0
    OfNeither = ((is_known edition ≡ false) × (number ≡ UNKNOWN_EDITION) × (place ≡ 0))
        ⊎ ((is_known edition ≡ true) × (is_lawful edition c ≡ false) × (number ≡ UNKNOWN_TYPE) × (place ≡ 0))
        ⊎ ((is_lawful edition c ≡ true) × (has_order c ≡ false) × (number ≡ NO_ORDER) × (place ≡ 0))

    to_neither : outcome edition c a b ≡ refused (fault NEITHER (refusal number place)) → OfNeither
    to_neither e = go (is_lawful edition c) refl (has_order c) refl (column.outcome edition c a) (column.outcome edition c b) (sym outcome_is ∙ e)
      where
        number_is : {r : Refusal} → r ≡ refusal number place → number ≡ r.number
        number_is f = sym (ap (λ (x : Refusal). x.number) f)

        place_is : {r : Refusal} → r ≡ refusal number place → place ≡ r.place
        place_is f = sym (ap (λ (x : Refusal). x.place) f)

        go : (l : Bool) → is_lawful edition c ≡ l → (h : Bool) → has_order c ≡ h → (x y : reading.Outcome Value) → steps l h x y ≡ refused (fault NEITHER (refusal number place)) → OfNeither
        go false p h q x y f =
            by_test (is_known edition)
            (λ k. let r = sym (refusal_known edition k) ∙ refusal_is f in inr (inl (k, p, number_is r, place_is r)))
            (λ u. let r = sym (refusal_unknown edition u) ∙ refusal_is f in inl (u, number_is r, place_is r))
        go true p false q x y f = inr (inr (p, q, number_is (refusal_is f), place_is (refusal_is f)))
        go true p true q (reading.refused t) y f = absurd (omega (arith, side_is f))
        go true p true q (reading.given v) (reading.refused t) f = absurd (omega (arith, side_is f))
        go true p true q (reading.given v) (reading.given w) f = absurd (let z : ◌≡◌ {A = ℕ} 0 1 = cc in omega arith)

    from_neither : OfNeither → outcome edition c a b ≡ refused (fault NEITHER (refusal number place))
    from_neither (inl (u, n, p)) = outcome_is ∙ rw (unknown_unlawful edition c u, refusal_unknown edition u, n, p)
    from_neither (inr (inl (k, l, n, p))) = outcome_is ∙ rw (l, refusal_known edition k, n, p)
    from_neither (inr (inr (l, h, n, p))) = outcome_is ∙ rw (l, h, n, p)

    pub neither_exactly : (outcome edition c a b ≡ refused (fault NEITHER (refusal number place))) ↔ OfNeither
    neither_exactly = (to_neither, from_neither)
