-- What document 01's order promises: without a NaN it is total, transitive and, up to equal, antisymmetric; exchanged values are answered the
-- other way round; and decimals compare as their numbers. Assumes nothing.
use mathlib.Core.Path.{◌≡◌, refl, sym, ap, ap₂, ◌∙◌}
use mathlib.Core.Bool.{Bool, true, false, cond, ◌||◌}
use mathlib.Core.List.{List}
use mathlib.Core.Logic.{◌↔◌, ◌⊎◌, inl, inr, ⊎_elim}
use Prim.Native.Nat.{ℕ}
use lib.Dec.{eqb}
use lib.Ieee.{Format, binary32, binary64, nan_bits}
use lib.IntN.{ℤ, pos}
use lib.Signed.{◌<ℤ◌}
use borrow.Author.Tests.{eqb-true}
use Rattle.laws.proofs.BoolLaws.{or_cases}
use Rattle.laws.specs.Bytes.{little}
use Rattle.annotation.specs.Meaning.{annotation_of}
use Rattle.logical_type.specs.Parameters.{valid_parameters}
use Rattle.annotation.specs.Rule10.{decimal_on, is_placed}
use Rattle.logical_type.specs.Spelling.{named_of, stated_of}
use Rattle.column_type.specs.declared.types.ColumnType.{ColumnType}
use Rattle.column_type.specs.Lawful.{slot_of, is_lawful}
use Rattle.column_type.proofs.LawfulLaws.{placed}
use Rattle.parquet.specs.Physical.{BOOLEAN, INT32, INT64, FLOAT, DOUBLE, BYTE_ARRAY, FIXED_LEN_BYTE_ARRAY}
use Rattle.parquet.specs.Logical.{DECIMAL}
use Rattle.column.specs.Lengths.{is_byte_decimal}
use Rattle.column.specs.Annotations.{is_whole, is_unsigned}
use Rattle.column.proofs.ReadingLaws.{reads}
use Rattle.std.specs.Prelude.{Some, None}
use Rattle.float_order.specs.Floats.{less_or_equal}
use Rattle.float_order.specs.Keys.{float_key, whole_order}
use Rattle.std.specs.declared.cmp.Ordering.TheVariants.{Less, Equal, Greater}
use Rattle.column_order.specs.Keys.{Key, whole, bytes, none, number_of, number_key, key_of, byte_order, key_order}
use Rattle.column_order.specs.Order.{has_order, order_of}
use Rattle.column_order.specs.Comparison.{Valid, NotANumber, reversed, turned, at_most}
use Rattle.column_order.proofs.Turning.{related, ordered, at_most_both, related_some, turned_some}
use Rattle.column_order.proofs.WholeLaws.{whole_less, whole_equal, whole_greater, whole_turned, whole_trans, whole_total}
use Rattle.column_order.proofs.ByteLaws.{byte_refl, byte_turned, byte_trans, byte_total}

-- ---- keys

pub key_turned : (k l : Key) → key_order l k ≡ reversed (key_order k l)
unfolding key_order
key_turned (whole x) (whole y) = ap ordered (whole_turned x y) ∙ turned_some (whole_order x y)
key_turned (whole x) (bytes b) = refl
key_turned (whole x) none = refl
key_turned (bytes a) (whole y) = refl
key_turned (bytes a) (bytes b) = ap ordered (byte_turned a b) ∙ turned_some (byte_order a b)
key_turned (bytes a) none = refl
key_turned none (whole y) = refl
key_turned none (bytes b) = refl
key_turned none none = refl

pub key_refl : (k : Key) → (k ≡ none → ⊥) → key_order k k ≡ Some Equal
unfolding key_order
key_refl (whole x) h = ap ordered ((whole_equal x x).1 refl)
key_refl (bytes a) h = ap ordered (byte_refl a)
key_refl none h = absurd (h refl)

pub key_trans : (k l m : Key) → less_or_equal (key_order k l) ≡ true → less_or_equal (key_order l m) ≡ true → less_or_equal (key_order k m) ≡ true
unfolding key_order
key_trans (whole x) (whole y) (whole z) p q = whole_trans x y z p q
key_trans (whole x) (whole y) (bytes c) p q = q
key_trans (whole x) (whole y) none p q = q
key_trans (whole x) (bytes b) m p q = cc
key_trans (whole x) none m p q = cc
key_trans (bytes a) (whole y) m p q = cc
key_trans (bytes a) (bytes b) (whole z) p q = q
key_trans (bytes a) (bytes b) (bytes c) p q = byte_trans a b c p q
key_trans (bytes a) (bytes b) none p q = q
key_trans (bytes a) none m p q = cc
key_trans none l m p q = cc

-- keys that one column can have
abbrev comparable : Key → Key → Bool
comparable (whole x) (whole y) = true
comparable (whole x) (bytes b) = false
comparable (whole x) none = true
comparable (bytes a) (whole y) = false
comparable (bytes a) (bytes b) = true
comparable (bytes a) none = true
comparable none l = true

key_total : (k l : Key) → comparable k l ≡ true → (k ≡ none → ⊥) → (l ≡ none → ⊥) → (less_or_equal (key_order k l) || less_or_equal (reversed (key_order k l))) ≡ true
unfolding key_order
key_total (whole x) (whole y) e h k = whole_total x y
key_total (whole x) (bytes b) e h k = cc
key_total (whole x) none e h k = absurd (k refl)
key_total (bytes a) (whole y) e h k = cc
key_total (bytes a) (bytes b) e h k = byte_total a b
key_total (bytes a) none e h k = absurd (k refl)
key_total none l e h k = absurd (h refl)

float_comparable : (f : Format) (a b : ℕ) → comparable (number_key (float_key f a)) (number_key (float_key f b)) ≡ true
unfolding float_key
float_comparable f a b = go (nan_bits f a) (nan_bits f b) _ _
  where
    go : (t u : Bool) (x y : ℤ) → comparable (number_key (cond t None (Some x))) (number_key (cond u None (Some y))) ≡ true
    go true u x y = refl
    go false true x y = refl
    go false false x y = refl

keys_comparable : (c : ColumnType) (a b : List ℕ) → comparable (key_of c a) (key_of c b) ≡ true
unfolding key_of
keys_comparable c a b = go (eqb c.physical BOOLEAN) (is_whole c) (eqb c.physical FLOAT) (eqb c.physical DOUBLE) (is_byte_decimal c)
  where
    key : Bool → Bool → Bool → Bool → Bool → List ℕ → Key
    key t w f d s bs =
        cond t (whole (pos (little bs)))
        (cond w (whole (cond (is_unsigned c) (pos (little bs)) (number_of c bs)))
        (cond f (number_key (float_key binary32 (little bs))) (cond d (number_key (float_key binary64 (little bs))) (cond s (whole (number_of c bs)) (bytes bs)))))

    go : (t w f d s : Bool) → comparable (key t w f d s a) (key t w f d s b) ≡ true
    go true w f d s = refl
    go false true f d s = refl
    go false false true d s = float_comparable binary32 (little a) (little b)
    go false false false true s = float_comparable binary64 (little a) (little b)
    go false false false false true = refl
    go false false false false false = refl

-- ---- the values of a column that has an order

module _ (edition : ℕ) (c : ColumnType) (has : has_order c ≡ true) where
  -- valid values are ordered by their keys
  pub order_keys : (a b : List ℕ) → Valid edition c a → Valid edition c b → order_of edition c a b ≡ related (key_order (key_of c a) (key_of c b))
  unfolding order_of
  order_keys a b p q = rw ((reads edition c a p.0 p.1).lawful, has, p.1, q.1)

  -- exchanged values are answered the other way round
  pub order_turned : (a b : List ℕ) → Valid edition c a → Valid edition c b → order_of edition c b a ≡ turned (order_of edition c a b)
  order_turned a b p q = rw (order_keys b a q p, order_keys a b p q) (ap related (key_turned (key_of c a) (key_of c b)))

  -- a value that is no NaN equals itself
  pub order_refl : (a : List ℕ) → Valid edition c a → (NotANumber c a → ⊥) → order_of edition c a a ≡ related (Some Equal)
  order_refl a p h = order_keys a a p p ∙ ap related (key_refl (key_of c a) h)

  -- transitive
  pub order_trans : (a b d : List ℕ) → Valid edition c a → Valid edition c b → Valid edition c d
      → at_most (order_of edition c a b) ≡ true → at_most (order_of edition c b d) ≡ true → at_most (order_of edition c a d) ≡ true
  order_trans a b d p q r e f =
      ap at_most (order_keys a d p r)
      ∙ key_trans (key_of c a) (key_of c b) (key_of c d) (ap at_most (sym (order_keys a b p q)) ∙ e) (ap at_most (sym (order_keys b d q r)) ∙ f)

  -- antisymmetric, up to equal
  pub order_antisym : (a b : List ℕ) → Valid edition c a → Valid edition c b → at_most (order_of edition c a b) ≡ true → at_most (order_of edition c b a) ≡ true → order_of edition c a b ≡ related (Some Equal)
  order_antisym a b p q e f = at_most_both (order_of edition c a b) e (ap at_most (sym (order_turned a b p q)) ∙ f)

  -- total, where neither is a NaN
  pub order_total : (a b : List ℕ) → Valid edition c a → Valid edition c b → (NotANumber c a → ⊥) → (NotANumber c b → ⊥)
      → (at_most (order_of edition c a b) || at_most (order_of edition c b a)) ≡ true
  order_total a b p q h k =
      rw (order_turned a b p q, order_keys a b p q) (key_total (key_of c a) (key_of c b) (keys_comparable c a b) h k)

  -- a NaN is unordered, to itself too
  pub order_nan : (a b : List ℕ) → Valid edition c a → Valid edition c b → NotANumber c a → (order_of edition c a b ≡ related None) × (order_of edition c b a ≡ related None)
  unfolding key_order
  order_nan a b p q e =
      let u : order_of edition c a b ≡ related None = order_keys a b p q ∙ ap (λ (k : Key). related (key_order k (key_of c b))) e in
      (u, order_turned a b p q ∙ ap turned u)

-- ---- decimals

-- the physical types that a DECIMAL can have: "DECIMAL: INT32, INT64, FIXED, BYTE_ARRAY" (rule 10)
abbrev pub TakesDecimal : ColumnType → Type 0
TakesDecimal c = (c.physical ≡ INT32) ⊎ ((c.physical ≡ INT64) ⊎ ((c.physical ≡ FIXED_LEN_BYTE_ARRAY) ⊎ (c.physical ≡ BYTE_ARRAY)))

-- rule 10 of a lawful DECIMAL
lawful_on : (edition : ℕ) (c : ColumnType) → is_lawful edition c ≡ true → c.kind ≡ DECIMAL → decimal_on c.physical ≡ true
unfolding slot_of is_placed annotation_of stated_of named_of valid_parameters
lawful_on edition c l k = rw k at (placed edition c l)

pub takes_decimal : (edition : ℕ) (c : ColumnType) → is_lawful edition c ≡ true → c.kind ≡ DECIMAL → TakesDecimal c
takes_decimal edition c l k =
    ⊎_elim
    (λ three. ⊎_elim
    (λ two. ⊎_elim (λ e. inl (eqb-true p INT32 e)) (λ e. inr (inl (eqb-true p INT64 e))) (or_cases (eqb p INT32) (eqb p INT64) two))
    (λ e. inr (inr (inl (eqb-true p FIXED_LEN_BYTE_ARRAY e))))
    (or_cases (eqb p INT32 || eqb p INT64) (eqb p FIXED_LEN_BYTE_ARRAY) three))
    (λ e. inr (inr (inr (eqb-true p BYTE_ARRAY e))))
    (or_cases (eqb p INT32 || eqb p INT64 || eqb p FIXED_LEN_BYTE_ARRAY) (eqb p BYTE_ARRAY) (lawful_on edition c l k))
  where
    p : ℕ
    p = c.physical

pub decimal_ordered : (c : ColumnType) → c.kind ≡ DECIMAL → TakesDecimal c → has_order c ≡ true
decimal_ordered c k (inl e) = rw (k, e)
decimal_ordered c k (inr (inl e)) = rw (k, e)
decimal_ordered c k (inr (inr (inl e))) = rw (k, e)
decimal_ordered c k (inr (inr (inr e))) = rw (k, e)

pub decimal_key : (c : ColumnType) (bs : List ℕ) → c.kind ≡ DECIMAL → TakesDecimal c → key_of c bs ≡ whole (number_of c bs)
unfolding key_of
decimal_key c bs k (inl e) = rw (k, e)
decimal_key c bs k (inr (inl e)) = rw (k, e)
decimal_key c bs k (inr (inr (inl e))) = rw (k, e)
decimal_key c bs k (inr (inr (inr e))) = rw (k, e)

-- decimals of one column compare as the signed numbers that their bytes stand for, whatever their lengths and physical type
module _ (edition : ℕ) (c : ColumnType) (a b : List ℕ) (p : Valid edition c a) (q : Valid edition c b) (kind : c.kind ≡ DECIMAL) where
  physical : TakesDecimal c
  physical = takes_decimal edition c (reads edition c a p.0 p.1).lawful kind

  pub decimal_order : order_of edition c a b ≡ related (Some (whole_order (number_of c a) (number_of c b)))
  unfolding key_order
  decimal_order = order_keys edition c (decimal_ordered c kind physical) a b p q ∙ ap₂ (λ (k l : Key). related (key_order k l)) (decimal_key c a kind physical) (decimal_key c b kind physical)

  pub decimal_less : (order_of edition c a b ≡ related (Some Less)) ↔ (number_of c a <ℤ number_of c b)
  decimal_less = rw decimal_order (related_some (whole_less (number_of c a) (number_of c b)))

  -- equal exactly when the numbers are
  pub decimal_equal : (order_of edition c a b ≡ related (Some Equal)) ↔ (number_of c a ≡ number_of c b)
  decimal_equal = rw decimal_order (related_some (whole_equal (number_of c a) (number_of c b)))

  pub decimal_greater : (order_of edition c a b ≡ related (Some Greater)) ↔ (number_of c b <ℤ number_of c a)
  decimal_greater = rw decimal_order (related_some (whole_greater (number_of c a) (number_of c b)))
