-- A logical type that is read spells the numbers that it was read from, and these are bytes.
-- Assumes nothing.
use Prim.Native.Nat.{ℕ, ◌^◌, ◌<◌}
use mathlib.Core.Path.{◌≡◌, refl, sym, subst}
use mathlib.Core.Bool.{Bool, true, false, true≢false, cond, ◌&&◌, ◌||◌, and-eq-true_iff}
use mathlib.Core.List.{List, [], ◌∷◌}
use native.Mathlib.Omega.{arith}
use lib.Dec.{eqb}
use borrow.Author.Tests.{eqb-true}
use Rattle.logical_type.specs.Table.{lookup}
use Rattle.logical_type.specs.Parameters.{UNUSED, unit_code, bit_width_code, edge_code, flag_code, valid_unit, valid_bit_width, valid_edge, valid_flag, unit_of, bit_width_of, edge_of, flag_of, valid_parameters}
use Rattle.logical_type.specs.Spelling.{code_of, a_of, b_of, logical_table, named_of, stated_of}
use Rattle.logical_type.specs.declared.types.TimeUnit.{TimeUnit}
use Rattle.logical_type.specs.declared.types.BitWidth.{BitWidth}
use Rattle.logical_type.specs.declared.types.EdgeRule.{EdgeRule}
use Rattle.logical_type.specs.declared.types.LogicalType.{LogicalType}
use Rattle.logical_type.specs.declared.types.Annotation.{Annotation}

-- each number of a logical type is below 256

unit_byte : (unit : TimeUnit) → unit_code unit < 2 ^ 8
unit_byte TimeUnit.Millis = omega arith
unit_byte TimeUnit.Micros = omega arith
unit_byte TimeUnit.Nanos = omega arith

bit_width_byte : (width : BitWidth) → bit_width_code width < 2 ^ 8
bit_width_byte BitWidth.Bits8 = omega arith
bit_width_byte BitWidth.Bits16 = omega arith
bit_width_byte BitWidth.Bits32 = omega arith
bit_width_byte BitWidth.Bits64 = omega arith

edge_byte : (edge : EdgeRule) → edge_code edge < 2 ^ 8
edge_byte EdgeRule.Spherical = omega arith
edge_byte EdgeRule.Vincenty = omega arith
edge_byte EdgeRule.Thomas = omega arith
edge_byte EdgeRule.Andoyer = omega arith
edge_byte EdgeRule.Karney = omega arith

flag_byte : (flag : Bool) → flag_code flag < 2 ^ 8
flag_byte true = omega arith
flag_byte false = omega arith

pub spelled_bytes : (l : LogicalType) → (code_of l < 2 ^ 8) × (a_of l < 2 ^ 8) × (b_of l < 2 ^ 8)
spelled_bytes LogicalType.String = omega arith
spelled_bytes LogicalType.Map = omega arith
spelled_bytes LogicalType.List = omega arith
spelled_bytes LogicalType.Enum = omega arith
spelled_bytes LogicalType.Decimal = omega arith
spelled_bytes LogicalType.Date = omega arith
spelled_bytes (LogicalType.Time unit utc) = (omega arith, unit_byte unit, flag_byte utc)
spelled_bytes (LogicalType.Timestamp unit utc) = (omega arith, unit_byte unit, flag_byte utc)
spelled_bytes (LogicalType.Integer width signed) = (omega arith, bit_width_byte width, flag_byte signed)
spelled_bytes LogicalType.Unknown = omega arith
spelled_bytes LogicalType.Json = omega arith
spelled_bytes LogicalType.Bson = omega arith
spelled_bytes LogicalType.Uuid = omega arith
spelled_bytes LogicalType.Geometry = omega arith
spelled_bytes (LogicalType.Geography edge) = (omega arith, edge_byte edge, omega arith)

-- a valid code is spelled as it was read

unit_spelled : (a : ℕ) → valid_unit a ≡ true → unit_code (unit_of a) ≡ a
unfolding unit_of
unit_spelled a e = cases (eqb a (unit_code TimeUnit.Millis)) (eqb a (unit_code TimeUnit.Micros)) (eqb a (unit_code TimeUnit.Nanos)) refl refl refl e
  where
    cases : (p q r : Bool) → eqb a (unit_code TimeUnit.Millis) ≡ p → eqb a (unit_code TimeUnit.Micros) ≡ q → eqb a (unit_code TimeUnit.Nanos) ≡ r → p || q || r ≡ true → unit_code (cond p TimeUnit.Millis (cond q TimeUnit.Micros TimeUnit.Nanos)) ≡ a
    cases true q r x y z v = sym (eqb-true a _ x)
    cases false true r x y z v = sym (eqb-true a _ y)
    cases false false true x y z v = sym (eqb-true a _ z)
    cases false false false x y z v = absurd (true≢false (sym v))

bit_width_spelled : (a : ℕ) → valid_bit_width a ≡ true → bit_width_code (bit_width_of a) ≡ a
unfolding bit_width_of
bit_width_spelled a e = cases (eqb a (bit_width_code BitWidth.Bits8)) (eqb a (bit_width_code BitWidth.Bits16)) (eqb a (bit_width_code BitWidth.Bits32)) (eqb a (bit_width_code BitWidth.Bits64)) refl refl refl refl e
  where
    cases : (p q r t : Bool) → eqb a (bit_width_code BitWidth.Bits8) ≡ p → eqb a (bit_width_code BitWidth.Bits16) ≡ q → eqb a (bit_width_code BitWidth.Bits32) ≡ r → eqb a (bit_width_code BitWidth.Bits64) ≡ t → p || q || r || t ≡ true → bit_width_code (cond p BitWidth.Bits8 (cond q BitWidth.Bits16 (cond r BitWidth.Bits32 BitWidth.Bits64))) ≡ a
    cases true q r t w x y z v = sym (eqb-true a _ w)
    cases false true r t w x y z v = sym (eqb-true a _ x)
    cases false false true t w x y z v = sym (eqb-true a _ y)
    cases false false false true w x y z v = sym (eqb-true a _ z)
    cases false false false false w x y z v = absurd (true≢false (sym v))

edge_spelled : (a : ℕ) → valid_edge a ≡ true → edge_code (edge_of a) ≡ a
unfolding edge_of
edge_spelled a e =
    cases (eqb a (edge_code EdgeRule.Spherical)) (eqb a (edge_code EdgeRule.Vincenty)) (eqb a (edge_code EdgeRule.Thomas)) (eqb a (edge_code EdgeRule.Andoyer)) (eqb a (edge_code EdgeRule.Karney)) refl refl refl refl refl e
  where
    cases : (p q r t u : Bool) → eqb a (edge_code EdgeRule.Spherical) ≡ p → eqb a (edge_code EdgeRule.Vincenty) ≡ q → eqb a (edge_code EdgeRule.Thomas) ≡ r → eqb a (edge_code EdgeRule.Andoyer) ≡ t → eqb a (edge_code EdgeRule.Karney) ≡ u → p || q || r || t || u ≡ true → edge_code (cond p EdgeRule.Spherical (cond q EdgeRule.Vincenty (cond r EdgeRule.Thomas (cond t EdgeRule.Andoyer EdgeRule.Karney)))) ≡ a
    cases true q r t u v w x y z o = sym (eqb-true a _ v)
    cases false true r t u v w x y z o = sym (eqb-true a _ w)
    cases false false true t u v w x y z o = sym (eqb-true a _ x)
    cases false false false true u v w x y z o = sym (eqb-true a _ y)
    cases false false false false true v w x y z o = sym (eqb-true a _ z)
    cases false false false false false v w x y z o = absurd (true≢false (sym o))

flag_spelled : (b : ℕ) → valid_flag b ≡ true → flag_code (flag_of b) ≡ b
flag_spelled b e = cases (eqb b (flag_code false)) (eqb b (flag_code true)) refl refl e
  where
    cases : (p q : Bool) → eqb b (flag_code false) ≡ p → eqb b (flag_code true) ≡ q → p || q ≡ true → flag_code q ≡ b
    cases p true x y v = sym (eqb-true b _ y)
    cases true false x y v = sym (eqb-true b _ x)
    cases false false x y v = absurd (true≢false (sym v))

-- an annotation is a logical type that spells a code and parameters, or cannot be read
abbrev pub Spells : Annotation → ℕ → ℕ → ℕ → Type 0
Spells Annotation.Plain code a b = ⊥
Spells (Annotation.Logical l) code a b = (code_of l ≡ code) × (a_of l ≡ a) × (b_of l ≡ b)
Spells Annotation.Interval code a b = ⊥
Spells Annotation.Unreadable code a b = Unit {0}

pub unused_spelled : (a b : ℕ) → eqb a UNUSED && eqb b UNUSED ≡ true → (UNUSED ≡ a) × (UNUSED ≡ b)
unused_spelled a b e =
    let both = (and-eq-true_iff (eqb a UNUSED) (eqb b UNUSED)).0 e in
    (sym (eqb-true a UNUSED both.0), sym (eqb-true b UNUSED both.1))

pub unit_flag_spelled : (a b : ℕ) → valid_unit a && valid_flag b ≡ true → (unit_code (unit_of a) ≡ a) × (flag_code (flag_of b) ≡ b)
unit_flag_spelled a b e =
    let both = (and-eq-true_iff (valid_unit a) (valid_flag b)).0 e in
    (unit_spelled a both.0, flag_spelled b both.1)

pub width_flag_spelled : (a b : ℕ) → valid_bit_width a && valid_flag b ≡ true → (bit_width_code (bit_width_of a) ≡ a) × (flag_code (flag_of b) ≡ b)
width_flag_spelled a b e =
    let both = (and-eq-true_iff (valid_bit_width a) (valid_flag b)).0 e in
    (bit_width_spelled a both.0, flag_spelled b both.1)

pub edge_unused_spelled : (a b : ℕ) → valid_edge a && eqb b UNUSED ≡ true → (edge_code (edge_of a) ≡ a) × (UNUSED ≡ b)
edge_unused_spelled a b e =
    let both = (and-eq-true_iff (valid_edge a) (eqb b UNUSED)).0 e in
    (edge_spelled a both.0, sym (eqb-true b UNUSED both.1))

-- R, given that P holds of every entry of a table
abbrev Given : {A : Type 0} → (ℕ → A → Type 0) → List (ℕ × A) → Type 0 → Type 0
Given P [] R = R
Given P (entry ∷ table) R = P entry.0 entry.1 → Given P table R

-- what holds of every entry of a table and of the default holds of what the table has for a code
lookup_each : {A : Type 0} (P : ℕ → A → Type 0) (code : ℕ) (default : A) → P code default → (table : List (ℕ × A)) (R : Type 0) → (P code (lookup code table default) → R) → Given P table R
lookup_each P code default h [] R k = k h
lookup_each P code default h (entry ∷ table) R k =
    λ own. lookup_each P code default h table R (λ rest. k (cases (eqb code entry.0) refl own rest))
  where
    cases : (found : Bool) → eqb code entry.0 ≡ found → P entry.0 entry.1 → P code (lookup code table default) → P code (cond found entry.1 (lookup code table default))
    cases true e own rest = subst (λ (c : ℕ). P c entry.1) (sym (eqb-true code entry.0 e)) own
    cases false e own rest = rest

-- a logical type that is named by its code and takes its parameters spells them
named_spelled : (code a b : ℕ) → valid_parameters code a b ≡ true → Spells (named_of code a b) code a b
unfolding named_of valid_parameters
named_spelled code a b e =
    let bare = unused_spelled a b in
    let timed = unit_flag_spelled a b in
    let sized = width_flag_spelled a b in
    let edged = edge_unused_spelled a b in
    lookup_each (λ c says. valid_parameters c a b ≡ true → Spells says c a b) code Annotation.Unreadable (λ v. tt) (logical_table a b) (Spells (named_of code a b) code a b) (λ spelled. spelled e)
    (λ v. (refl, (bare v).0, (bare v).1))
    (λ v. (refl, (bare v).0, (bare v).1))
    (λ v. (refl, (bare v).0, (bare v).1))
    (λ v. (refl, (bare v).0, (bare v).1))
    (λ v. (refl, (bare v).0, (bare v).1))
    (λ v. (refl, (bare v).0, (bare v).1))
    (λ v. (refl, (timed v).0, (timed v).1))
    (λ v. (refl, (timed v).0, (timed v).1))
    (λ v. (refl, (sized v).0, (sized v).1))
    (λ v. (refl, (bare v).0, (bare v).1))
    (λ v. (refl, (bare v).0, (bare v).1))
    (λ v. (refl, (bare v).0, (bare v).1))
    (λ v. (refl, (bare v).0, (bare v).1))
    (λ v. (refl, (bare v).0, (bare v).1))
    (λ v. (refl, (edged v).0, (edged v).1))

-- what a code and parameters say is a logical type that spells them, or cannot be read
pub spelled_stated : (code a b : ℕ) → Spells (stated_of code a b) code a b
unfolding stated_of
spelled_stated code a b = cases (valid_parameters code a b) refl
  where
    cases : (valid : Bool) → valid_parameters code a b ≡ valid → Spells (cond valid (named_of code a b) Annotation.Unreadable) code a b
    cases true e = named_spelled code a b e
    cases false e = tt
