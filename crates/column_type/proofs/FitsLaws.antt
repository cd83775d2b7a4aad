-- A column type whose numbers fit a slot, taken apart, and the physical codes of leaves.
use Prim.Native.Nat.{ℕ, ◌≤◌, ◌<◌}
use mathlib.Core.Path.{◌≡◌, refl}
use mathlib.Core.Bool.{Bool, true, false, not, ◌&&◌}
use native.Mathlib.Decide.{dec_le}
use native.Mathlib.Omega.{arith}
use lib.Dec.{ltb, leb, eqb}
use borrow.Author.Tests.{ltb-true, lt-ltb, le-leb, lt-leb, eq-eqb, ne_eqb, not-true}
use Rattle.laws.proofs.BoolLaws.{and_both, and_right}
use Rattle.parquet.specs.Logical as logical
use Rattle.parquet.specs.Physical as physical
use Rattle.sheet.specs.Sound.{listed, physical_listed}
use Rattle.tree.specs.Rules.{is_group}
use Rattle.column_type.specs.Lawful.{byte_numbers, signed_numbers, parameter_numbers, fits, is_leaf}
use Rattle.column_type.specs.declared.types.ColumnType.{ColumnType}

-- each number of a column type is below the count of its field's
pub record Fits (c : ColumnType) : Type 0 where
  pub physical : c.physical < byte_numbers
  pub «type_length» : c.type_length < signed_numbers
  pub kind : c.kind < byte_numbers
  pub p1 : c.p1 < parameter_numbers c.kind
  pub p2 : c.p2 < parameter_numbers c.kind

pub fits_parts : (c : ColumnType) → fits c ≡ true → Fits c
unfolding fits
fits_parts c e =
    let fourth = and_both _ (ltb c.p2 (parameter_numbers c.kind)) e in
    let third = and_both _ (ltb c.p1 (parameter_numbers c.kind)) fourth.0 in
    let second = and_both _ (ltb c.kind byte_numbers) third.0 in
    let first = and_both (ltb c.physical byte_numbers) (ltb c.type_length signed_numbers) second.0 in
    record {
      physical = ltb-true _ _ first.0;
      «type_length» = ltb-true _ _ first.1;
      kind = ltb-true _ _ second.1;
      p1 = ltb-true _ _ third.1;
      p2 = ltb-true _ _ fourth.1;
    }

pub parts_fits : (c : ColumnType) → Fits c → fits c ≡ true
unfolding fits
parts_fits c f =
    rw (lt-ltb _ _ f.physical, lt-ltb _ _ f.«type_length», lt-ltb _ _ f.kind, lt-ltb _ _ f.p1, lt-ltb _ _ f.p2)

-- the physical codes of leaves are those up to FIXED_LEN_BYTE_ARRAY
pub is_leaf_upto : (code : ℕ) → leb code physical.FIXED_LEN_BYTE_ARRAY ≡ is_leaf code
unfolding is_leaf physical_listed listed
is_leaf_upto code = cases (dec_le code physical.FIXED_LEN_BYTE_ARRAY)
  where
    beside : (b : Bool) → false ≡ b && not b
    beside true = refl
    beside false = refl

    cases : Dec (code ≤ physical.FIXED_LEN_BYTE_ARRAY) → leb code physical.FIXED_LEN_BYTE_ARRAY ≡ is_leaf code
    cases (yes h) = rw (le-leb code physical.FIXED_LEN_BYTE_ARRAY h, ne_eqb code physical.GROUP (λ (e : code ≡ physical.GROUP). omega arith))
    cases (no h) = rw (lt-leb code physical.FIXED_LEN_BYTE_ARRAY (omega arith)) (beside (eqb code physical.GROUP))

-- a leaf is no physical.GROUP
pub is_leaf_not_group : (code : ℕ) → is_leaf code ≡ true → is_group code ≡ false
unfolding is_leaf
is_leaf_not_group code e = not-true (is_group code) (and_right (physical_listed code) (not (is_group code)) e)

-- p1 and p2 of a DECIMAL fit four bytes
pub fits_decimal : (c : ColumnType) → Fits c → c.kind ≡ logical.DECIMAL → (c.p1 < signed_numbers) × (c.p2 < signed_numbers)
fits_decimal c f e =
    let is = eq-eqb c.kind logical.DECIMAL e in
    (rw is at f.p1, rw is at f.p2)

-- of any other kind one byte
pub fits_other : (c : ColumnType) → Fits c → (c.kind ≡ logical.DECIMAL → ⊥) → (c.p1 < byte_numbers) × (c.p2 < byte_numbers)
fits_other c f n =
    let is = ne_eqb c.kind logical.DECIMAL n in
    (rw is at f.p1, rw is at f.p2)
