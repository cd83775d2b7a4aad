-- Each sentence of "Order" holds of `order_of`, both ways.
use Prim.Native.Nat.{ℕ, ◌%◌, ◌*◌, ◌<◌}
use mathlib.Core.Path.{◌≡◌, refl, sym, ap, ap₂, ◌∙◌}
use mathlib.Core.Bool.{Bool, true, false, cond, not, ◌&&◌}
use mathlib.Core.List.{List, [], ◌∷◌}
use mathlib.Core.Logic.{◌⊎◌, inl, inr, ◌↔◌}
use native.Mathlib.Omega.{arith}
use borrow.Author.Tests.{not-false, ne_eqb, eqb-true, lt-ltb, le-ltb, ltb-true, ltb-false}
use lib.Dec.{ltb, eqb}
use lib.Ieee.{Format, binary32, binary64, hid, ones, top}
use lib.IntN.{ℤ, pos}
use Rattle.laws.specs.Bytes.{little}
use Rattle.refusal.specs.Faults.{of_neither, given, refused}
use Rattle.laws.proofs.BoolLaws.{by_test}
use Rattle.refusal.specs.Numbers.{NO_ORDER}
use Rattle.refusal.specs.declared.answers.Fault.{Fault}
use Rattle.parquet.specs.Physical.{BOOLEAN, INT96, FLOAT, DOUBLE}
use Rattle.parquet.specs.Converted.{INTERVAL}
use Rattle.parquet.specs.Logical.{DECIMAL, INTEGER, is_geospatial}
use Rattle.decimal_bytes.specs.Number.{number}
use Rattle.column_type.specs.Lawful.{is_lawful}
use Rattle.column_type.specs.declared.types.ColumnType.{ColumnType}
use Rattle.column.specs.Numbers.{signed}
use Rattle.column.specs.Promises.{Whole, ByteForm}
use Rattle.float_order.specs.Keys.{float_key, whole_order}
use Rattle.std.specs.Prelude.{Option, Some, None}
use Rattle.std.specs.declared.cmp.Ordering.{Ordering}
use Rattle.std.specs.declared.cmp.Ordering.TheVariants.{Less, Equal, Greater}
use Rattle.float_order.proofs.FloatLaws as float
use Rattle.column_order.specs.Keys.{Key, whole, bytes, none, number_of, number_key, key_of, byte_order, key_order}
use Rattle.column_order.specs.Order.{has_order, order_of}
use Rattle.std.specs.Prelude.{Ok, Err}
use Rattle.std.specs.Ordering.{ordering_reverse}
use Rattle.column_order.specs.Comparison.{Valid}
use Rattle.column_order.specs.Outcome.{outcome_of, outcome}
use Rattle.column_order.specs.Promises.{AsNumbers, Before, prefix, lower, further, AsBytes, bits_below, FLOAT_SIGN, FLOAT_INFINITY, DOUBLE_SIGN, DOUBLE_INFINITY, IsNan}
use Rattle.column_order.specs.Order.{Order}
use Rattle.column_order.proofs.Turning.{related, faulted, ordered, related_is, related_some}
use Rattle.column_order.proofs.WholeLaws.{whole_less, whole_equal, whole_greater}
use Rattle.column_order.proofs.ByteLaws.{byte_refl, byte_turned}
use Rattle.column_order.proofs.OrderLaws.{order_keys, decimal_less, decimal_equal, decimal_greater}
use Rattle.column_order.proofs.FaultLaws.{OfNeither, neither_exactly}

-- bytes ------------------------------------------------------------------------------------------------------------------------

less_before : (a b : List ℕ) → byte_order a b ≡ Less → Before a b
unfolding byte_order
less_before [] [] e = absurd (let z : ◌≡◌ {A = ℕ} 0 1 = cc in omega arith)
less_before [] (y ∷ ys) e = prefix y ys
less_before (x ∷ xs) [] e = absurd (let z : ◌≡◌ {A = ℕ} 0 1 = cc in omega arith)
less_before (x ∷ xs) (y ∷ ys) e = go (ltb x y) refl (ltb y x) refl (less_before xs ys) e
  where
    go : (t : Bool) → ltb x y ≡ t → (u : Bool) → ltb y x ≡ u → (byte_order xs ys ≡ Less → Before xs ys) → cond t Less (cond u Greater (byte_order xs ys)) ≡ Less → Before (x ∷ xs) (y ∷ ys)
    go true p u q rest f = lower x y xs ys (ltb-true x y p)
    go false p true q rest f = absurd (let z : ◌≡◌ {A = ℕ} 0 1 = cc in omega arith)
    go false p false q rest f =
        let same : x ≡ y = omega (arith, ltb-false x y p, ltb-false y x q) in
        rw (← same) (further x xs ys (rest f))

before_less : (a b : List ℕ) → Before a b → byte_order a b ≡ Less
unfolding byte_order
before_less _ _ (prefix y ys) = refl
before_less _ _ (lower x y xs ys l) = rw (lt-ltb x y l)
before_less _ _ (further x xs ys h) = rw (le-ltb x x (omega arith)) (before_less xs ys h)

equal_same : (a b : List ℕ) → byte_order a b ≡ Equal → a ≡ b
unfolding byte_order
equal_same [] [] e = refl
equal_same [] (y ∷ ys) e = absurd (let z : ◌≡◌ {A = ℕ} 0 1 = cc in omega arith)
equal_same (x ∷ xs) [] e = absurd (let z : ◌≡◌ {A = ℕ} 0 1 = cc in omega arith)
equal_same (x ∷ xs) (y ∷ ys) e = go (ltb x y) refl (ltb y x) refl (equal_same xs ys) e
  where
    go : (t : Bool) → ltb x y ≡ t → (u : Bool) → ltb y x ≡ u → (byte_order xs ys ≡ Equal → xs ≡ ys) → cond t Less (cond u Greater (byte_order xs ys)) ≡ Equal → ◌≡◌ {A = List ℕ} (x ∷ xs) (y ∷ ys)
    go true p u q rest f = absurd (let z : ◌≡◌ {A = ℕ} 0 1 = cc in omega arith)
    go false p true q rest f = absurd (let z : ◌≡◌ {A = ℕ} 0 1 = cc in omega arith)
    go false p false q rest f =
        let same : x ≡ y = omega (arith, ltb-false x y p, ltb-false y x q) in
        ap₂ ◌∷◌ same (rest f)

-- an answer turned round twice
reversed_less : (o : Ordering) → ordering_reverse o ≡ Less → o ≡ Greater
reversed_less Less e = cc
reversed_less Equal e = cc
reversed_less Greater e = refl

-- valid values of a column that has an order ---------------------------------------------------------------------------------------

module _ (edition : ℕ) (c : ColumnType) (has : has_order c ≡ true) (a b : List ℕ) (p : Valid edition c a) (q : Valid edition c b) where
  as_numbers : (x y : ℤ) → key_of c a ≡ whole x → key_of c b ≡ whole y → AsNumbers edition c a b x y
  unfolding key_order
  as_numbers x y e f =
      let o : order_of edition c a b ≡ related (Some (whole_order x y)) = order_keys edition c has a b p q ∙ ap₂ (λ (k l : Key). related (key_order k l)) e f in
      record { less = rw o (related_some (whole_less x y)); equal = rw o (related_some (whole_equal x y)); greater = rw o (related_some (whole_greater x y)) }

  -- "signed for numbers, dates, times, decimals"
  pub signed_order_lem : Whole c → ((c.kind ≡ INTEGER) × (c.p2 ≡ 0) → ⊥) → AsNumbers edition c a b (signed a) (signed b)
  unfolding key_of number_of
  signed_order_lem w s = by_physical w
    where
      not_unsigned : (eqb c.kind INTEGER && eqb c.p2 0) ≡ false
      not_unsigned =
          by_test (eqb c.kind INTEGER)
          (λ k. by_test (eqb c.p2 0) (λ z. absurd (s (eqb-true c.kind INTEGER k, eqb-true c.p2 0 z))) (λ z. rw (k, z)))
          (λ k. rw k)

      by_physical : Whole c → AsNumbers edition c a b (signed a) (signed b)
      by_physical (inl e) = as_numbers (signed a) (signed b) (rw (e, not_unsigned)) (rw (e, not_unsigned))
      by_physical (inr e) = as_numbers (signed a) (signed b) (rw (e, not_unsigned)) (rw (e, not_unsigned))

  -- "unsigned for INT(n, false) and BOOLEAN"
  pub unsigned_order_lem : Whole c → c.kind ≡ INTEGER → c.p2 ≡ 0 → AsNumbers edition c a b (pos (little a)) (pos (little b))
  unfolding key_of
  unsigned_order_lem (inl e) k s = as_numbers (pos (little a)) (pos (little b)) (rw (e, k, s)) (rw (e, k, s))
  unsigned_order_lem (inr e) k s = as_numbers (pos (little a)) (pos (little b)) (rw (e, k, s)) (rw (e, k, s))

  pub truth_order_lem : c.physical ≡ BOOLEAN → AsNumbers edition c a b (pos (little a)) (pos (little b))
  unfolding key_of
  truth_order_lem e = as_numbers (pos (little a)) (pos (little b)) (rw e) (rw e)

  -- decimals in byte forms
  pub decimal_bytes_order : ByteForm c → c.kind ≡ DECIMAL → AsNumbers edition c a b (number a) (number b)
  unfolding key_of number_of
  decimal_bytes_order (inl e) k = as_numbers (number a) (number b) (rw (e, k)) (rw (e, k))
  decimal_bytes_order (inr e) k = as_numbers (number a) (number b) (rw (e, k)) (rw (e, k))

  -- "unsigned byte-wise for other bytes"
  pub bytes_order_lem : ByteForm c → ((c.kind ≡ DECIMAL) → ⊥) → AsBytes edition c a b
  unfolding key_of key_order
  bytes_order_lem form d =
      let o : order_of edition c a b ≡ related (Some (byte_order a b)) = order_keys edition c has a b p q ∙ ap₂ (λ (k l : Key). related (key_order k l)) (key form a) (key form b) in
      record {
        less = rw o (related_some (less_before a b, before_less a b));
        equal = rw o (related_some (equal_same a b, λ e. rw (← e) (byte_refl a)));
        greater = rw o (related_some (λ e. less_before b a (byte_turned a b ∙ ap ordering_reverse e), λ h. reversed_less (byte_order a b) (sym (byte_turned a b) ∙ before_less b a h)));
      }
    where
      key : ByteForm c → (bs : List ℕ) → key_of c bs ≡ bytes bs
      key (inl e) bs = rw (e, ne_eqb c.kind DECIMAL d)
      key (inr e) bs = rw (e, ne_eqb c.kind DECIMAL d)

  -- "FLOAT, DOUBLE numeric, stated over their bits", once for both formats
  module _ (f : Format) (key : (bs : List ℕ) → key_of c bs ≡ number_key (float_key f (little bs))) where
    abbrev Nan : List ℕ → Type 0
    Nan bs = IsNan (top f) (ones f * hid f) (little bs)

    nan_key : (bs : List ℕ) → Nan bs → key_of c bs ≡ none
    nan_key bs h = key bs ∙ ap number_key (float.nan_key f (little bs) h)

    number_key_lem : (bs : List ℕ) → (Nan bs → ⊥) → key_of c bs ≡ whole (bits_below (top f) (little bs))
    number_key_lem bs h = key bs ∙ ap number_key (float.number_key_lem f (little bs) (omega (arith, h)))

    format_numbers : (Nan a → ⊥) → (Nan b → ⊥) → AsNumbers edition c a b (bits_below (top f) (little a)) (bits_below (top f) (little b))
    format_numbers h k = as_numbers (bits_below (top f) (little a)) (bits_below (top f) (little b)) (number_key_lem a h) (number_key_lem b k)

    -- two numbers are never unordered
    ordered_numbers : (x y : ℤ) → ordered (whole_order x y) ≡ None → ⊥
    ordered_numbers x y e = cc

    -- a NaN on the right
    nan_second : (k : Key) → key_order k none ≡ None
    unfolding key_order
    nan_second (whole x) = refl
    nan_second (bytes x) = refl
    nan_second none = refl

    format_unordered : (order_of edition c a b ≡ related None) ↔ (Nan a ⊎ Nan b)
    unfolding key_order
    format_unordered = (
      λ e. by_test (ltb (ones f * hid f) (little a % top f)) (λ t. inl (ltb-true (ones f * hid f) (little a % top f) t))
          (λ t. by_test (ltb (ones f * hid f) (little b % top f)) (λ u. inr (ltb-true (ones f * hid f) (little b % top f) u))
          (λ u. absurd
          (ordered_numbers (bits_below (top f) (little a)) (bits_below (top f) (little b))
          (related_is (sym (ap₂ (λ (k l : Key). related (key_order k l)) (number_key_lem a (λ h. ltb_no (ones f * hid f) (little a % top f) t h)) (number_key_lem b (λ h. ltb_no (ones f * hid f) (little b % top f) u h)))
          ∙ sym (order_keys edition c has a b p q)
          ∙ e))))),
      nan_either,
    )
      where
        ltb_no : (m n : ℕ) → ltb m n ≡ false → m < n → ⊥
        ltb_no m n t h = omega (arith, ltb-false m n t, h)

        nan_either : Nan a ⊎ Nan b → order_of edition c a b ≡ related None
        nan_either (inl h) = order_keys edition c has a b p q ∙ ap (λ (k : Key). related (key_order k (key_of c b))) (nan_key a h)
        nan_either (inr h) = order_keys edition c has a b p q ∙ ap related (ap (key_order (key_of c a)) (nan_key b h) ∙ nan_second (key_of c a))

  module _ (e : c.physical ≡ FLOAT) where
    float_key_lem : (bs : List ℕ) → key_of c bs ≡ number_key (float_key binary32 (little bs))
    unfolding key_of
    float_key_lem bs = rw e

    pub float_order_lem : (IsNan FLOAT_SIGN FLOAT_INFINITY (little a) → ⊥) → (IsNan FLOAT_SIGN FLOAT_INFINITY (little b) → ⊥) → AsNumbers edition c a b (bits_below FLOAT_SIGN (little a)) (bits_below FLOAT_SIGN (little b))
    float_order_lem = format_numbers binary32 float_key_lem

    pub float_unordered : (order_of edition c a b ≡ related None) ↔ (IsNan FLOAT_SIGN FLOAT_INFINITY (little a) ⊎ IsNan FLOAT_SIGN FLOAT_INFINITY (little b))
    float_unordered = format_unordered binary32 float_key_lem

  module _ (e : c.physical ≡ DOUBLE) where
    double_key : (bs : List ℕ) → key_of c bs ≡ number_key (float_key binary64 (little bs))
    unfolding key_of
    double_key bs = rw e

    pub double_order_lem : (IsNan DOUBLE_SIGN DOUBLE_INFINITY (little a) → ⊥) → (IsNan DOUBLE_SIGN DOUBLE_INFINITY (little b) → ⊥) → AsNumbers edition c a b (bits_below DOUBLE_SIGN (little a)) (bits_below DOUBLE_SIGN (little b))
    double_order_lem = format_numbers binary64 double_key

    pub double_unordered : (order_of edition c a b ≡ related None) ↔ (IsNan DOUBLE_SIGN DOUBLE_INFINITY (little a) ⊎ IsNan DOUBLE_SIGN DOUBLE_INFINITY (little b))
    double_unordered = format_unordered binary64 double_key

-- "INTERVAL and INT96 have none", GEOMETRY and GEOGRAPHY neither ---------------------------------------------------------------------

pub no_order_tested : (c : ColumnType) → has_order c ≡ false → (c.physical ≡ INT96) ⊎ ((c.kind ≡ INTERVAL) ⊎ (is_geospatial c.kind ≡ true))
no_order_tested c e =
    by_test (eqb c.physical INT96) (λ i. inl (eqb-true c.physical INT96 i))
    (λ i. by_test (eqb c.kind INTERVAL) (λ k. inr (inl (eqb-true c.kind INTERVAL k))) (λ k. inr (inr (not-false (is_geospatial c.kind) (rw (i, k) at e)))))

pub tested_no_order : (c : ColumnType) → (c.physical ≡ INT96) ⊎ ((c.kind ≡ INTERVAL) ⊎ (is_geospatial c.kind ≡ true)) → has_order c ≡ false
tested_no_order c (inl e) = rw e
tested_no_order c (inr (inl e)) = by_test (eqb c.physical INT96) (λ i. rw i) (λ i. rw (i, e))
tested_no_order c (inr (inr e)) = rw e (none (not (eqb c.physical INT96)) (not (eqb c.kind INTERVAL)))
  where
    none : (a b : Bool) → (a && b && false) ≡ false
    none true true = refl
    none true false = refl
    none false b = refl

pub no_order_exactly : (edition : ℕ) (c : ColumnType) (a b : List ℕ) → (outcome edition c a b ≡ refused (of_neither NO_ORDER)) ↔ ((is_lawful edition c ≡ true) × ((c.physical ≡ INT96) ⊎ ((c.kind ≡ INTERVAL) ⊎ (is_geospatial c.kind ≡ true))))
no_order_exactly edition c a b = (
  λ e. by_cases ((neither_exactly edition c a b NO_ORDER 0).0 e),
  λ h. (neither_exactly edition c a b NO_ORDER 0).1 (inr (inr (h.0, tested_no_order c h.1, refl, refl))),
)
  where
    by_cases : OfNeither edition c a b NO_ORDER 0 → (is_lawful edition c ≡ true) × ((c.physical ≡ INT96) ⊎ ((c.kind ≡ INTERVAL) ⊎ (is_geospatial c.kind ≡ true)))
    by_cases (inl h) = absurd (omega (arith, h.1))
    by_cases (inr (inl h)) = absurd (omega (arith, h.2))
    by_cases (inr (inr h)) = (h.0, no_order_tested c h.1)

-- decimals over all four physical types ----------------------------------------------------------------------------------------------

pub decimals_order : (edition : ℕ) (c : ColumnType) (a b : List ℕ) → Valid edition c a → Valid edition c b → c.kind ≡ DECIMAL → AsNumbers edition c a b (number_of c a) (number_of c b)
decimals_order edition c a b p q k = record { less = decimal_less edition c a b p q k; equal = decimal_equal edition c a b p q k; greater = decimal_greater edition c a b p q k }

-- outcomes and answers ------------------------------------------------------------------------------------------------------------------

module _ (edition : ℕ) (c : ColumnType) (a b : List ℕ) where
  -- a relation is given exactly where it is answered
  pub given_exactly : (r : Option Ordering) → (outcome edition c a b ≡ given r) ↔ (order_of edition c a b ≡ related r)
  unfolding outcome
  given_exactly r = (go (order_of edition c a b), λ e. ap outcome_of e)
    where
      go : (o : Order) → outcome_of o ≡ given r → o ≡ related r
      go (Ok s) e = cc
      go (Err f) e = absurd (let z : ◌≡◌ {A = ℕ} 0 1 = cc in omega arith)

  -- and so is a refusal
  pub refused_exactly : (f : Fault) → (outcome edition c a b ≡ refused f) ↔ (order_of edition c a b ≡ faulted f)
  unfolding outcome
  refused_exactly f = (go (order_of edition c a b), λ e. ap outcome_of e)
    where
      go : (o : Order) → outcome_of o ≡ refused f → o ≡ faulted f
      go (Ok s) e = absurd (let z : ◌≡◌ {A = ℕ} 0 1 = cc in omega arith)
      go (Err g) e = cc
