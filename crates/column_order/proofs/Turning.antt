-- Answers that say how two values stand.
use mathlib.Core.Path.{◌≡◌, refl, ap}
use mathlib.Core.Bool.{true}
use mathlib.Core.Logic.{◌↔◌}
use Rattle.std.specs.Prelude.{Option, Some, None, Ok, Err}
use Rattle.std.specs.Ordering.{ordering_reverse}
use Rattle.std.specs.declared.cmp.Ordering.{Ordering}
use Rattle.std.specs.declared.cmp.Ordering.TheVariants.{Less, Equal, Greater}
use Rattle.refusal.specs.declared.answers.Fault.{Fault}
use Rattle.column_order.specs.Comparison.{reversed, turned, at_most}
use Rattle.column_order.specs.Order.{Order}

-- the two kinds of answer
abbrev pub related : Option Ordering → Order
related r = Ok r

abbrev pub faulted : Fault → Order
faulted f = Err f

-- an order of two that are ordered
abbrev pub ordered : Ordering → Option Ordering
ordered o = Some o

-- at most both ways is equal
pub at_most_both : (o : Order) → at_most o ≡ true → at_most (turned o) ≡ true → o ≡ related (Some Equal)
at_most_both (Ok (Some Less)) p q = cc
at_most_both (Ok (Some Equal)) p q = refl
at_most_both (Ok (Some Greater)) p q = cc
at_most_both (Ok None) p q = cc
at_most_both (Err f) p q = cc

-- an answer says a relation exactly where it is that one
pub related_is : {r s : Option Ordering} → related r ≡ related s → r ≡ s
related_is e = cc

pub related_as : {r s : Option Ordering} {P : Type 0} → (r ≡ s) ↔ P → (related r ≡ related s) ↔ P
related_as h = (λ e. h.0 (related_is e), λ p. ap related (h.1 p))

-- and of two that are ordered, which order
pub related_some : {r s : Ordering} {P : Type 0} → (r ≡ s) ↔ P → (related (Some r) ≡ related (Some s)) ↔ P
related_some {r} {s} h = related_as (λ e. h.0 (same e), λ p. ap ordered (h.1 p))
  where
    same : ordered r ≡ ordered s → r ≡ s
    same e = cc

-- turned round, of two that are ordered
pub turned_some : (o : Ordering) → ordered (ordering_reverse o) ≡ reversed (Some o)
turned_some Less = refl
turned_some Equal = refl
turned_some Greater = refl
