-- Laws of a sheet's length and its headers.
use mathlib.Core.Path.{◌≡◌, refl}
use mathlib.Core.Bool.{Bool, true, false, cond, So, ◌&&◌, and-eq-true_iff}
use mathlib.Core.List.{List}
use Prim.Native.Nat.{ℕ, ◌*◌, ◌%◌, ◌≤◌, ◌<◌}
use native.Mathlib.Omega.{arith}
use lib.Dec.{leb, eqb}
use lib.ListN.{length}
use borrow.Author.Tests.{le-leb, leb-true, eq-eqb, eqb-true}
use Rattle.sheet.specs.Block.{block_size, most_bytes, most_nodes, slots_in_block, version_now, block_count, block_at, block_number, nodes_here, version, total, total_of}
use Rattle.sheet.specs.Header.{length_right, blocks_for, nodes_in, total_right, numbers_right, header_right}

module _ (n : ℕ) (right : length_right n ≡ true) where
  length_parts : So (leb 1 n && eqb (n % block_size) 0) × So (leb n most_bytes)
  unfolding length_right
  length_parts = (and-eq-true_iff (leb 1 n && eqb (n % block_size) 0) (leb n most_bytes)).0 right

  length_front : So (leb 1 n) × So (eqb (n % block_size) 0)
  length_front = (and-eq-true_iff (leb 1 n) (eqb (n % block_size) 0)).0 length_parts.0

  -- a right length is no more than the most
  pub length_right_most : n ≤ most_bytes
  length_right_most = leb-true n most_bytes length_parts.1

  -- it is that of whole blocks
  pub length_right_whole : n % block_size ≡ 0
  length_right_whole = eqb-true (n % block_size) 0 length_front.1

  -- and at least a block
  pub length_right_least : block_size ≤ n
  length_right_least = omega (arith, leb-true 1 n length_front.0, length_right_whole)

-- a length of whole blocks, one or more and no more than the most, is right
pub length_right_blocks : (n : ℕ) → 1 ≤ n → block_size * n ≤ most_bytes → length_right (block_size * n) ≡ true
unfolding length_right
length_right_blocks n l h =
    rw (le-leb 1 (block_size * n) (omega arith), eq-eqb (block_size * n % block_size) 0 (omega arith)) (le-leb (block_size * n) most_bytes h)

-- a block of bytes is a block
pub block_count_least : (sheet : List ℕ) → block_size ≤ length sheet → 0 < block_count sheet
unfolding block_count
block_count_least sheet h = omega arith

module _ (t blocks : ℕ) (right : total_right t blocks ≡ true) where
  parts : (So (leb 1 t && leb t most_nodes)) × So (eqb (blocks_for t) blocks)
  unfolding total_right
  parts = (and-eq-true_iff (leb 1 t && leb t most_nodes) (eqb (blocks_for t) blocks)).0 right

  bounds : So (leb 1 t) × So (leb t most_nodes)
  bounds = (and-eq-true_iff (leb 1 t) (leb t most_nodes)).0 parts.0

  -- a right total is 1 or more
  pub total_right_least : 1 ≤ t
  total_right_least = leb-true 1 t bounds.0

  -- no more than the most
  pub total_right_most : t ≤ most_nodes
  total_right_most = leb-true t most_nodes bounds.1

  -- and no more than the blocks hold
  pub total_right_within : t ≤ slots_in_block * blocks
  unfolding blocks_for
  total_right_within = omega (arith, eqb-true (blocks_for t) blocks parts.1)

  -- there are as many blocks as it needs
  pub total_right_needed : blocks_for t ≡ blocks
  total_right_needed = eqb-true (blocks_for t) blocks parts.1

-- what a right header says
pub record Fields (t i : ℕ) (block : List ℕ) : Type 0 where
  pub number_is : block_number block ≡ i
  pub version_is : version block ≡ version_now
  pub total_is : total block ≡ t
  pub nodes_is : nodes_here block ≡ nodes_in t i

module _ (t i : ℕ) (block : List ℕ) where
  pub numbers_right_fields : numbers_right t i block ≡ true → Fields t i block
  unfolding numbers_right
  numbers_right_fields right =
      let front = (and-eq-true_iff (eqb (block_number block) i && eqb (version block) version_now && eqb (total block) t) (eqb (nodes_here block) (nodes_in t i))).0 right in
      let three = (and-eq-true_iff (eqb (block_number block) i && eqb (version block) version_now) (eqb (total block) t)).0 front.0 in
      let two = (and-eq-true_iff (eqb (block_number block) i) (eqb (version block) version_now)).0 three.0 in
      record {
        number_is = eqb-true (block_number block) i two.0;
        version_is = eqb-true (version block) version_now two.1;
        total_is = eqb-true (total block) t three.1;
        nodes_is = eqb-true (nodes_here block) (nodes_in t i) front.1;
      }

  pub fields_numbers_right : Fields t i block → numbers_right t i block ≡ true
  unfolding numbers_right
  fields_numbers_right fields = rw (
    eq-eqb (block_number block) i fields.number_is,
    eq-eqb (version block) version_now fields.version_is,
    eq-eqb (total block) t fields.total_is,
    eq-eqb (nodes_here block) (nodes_in t i) fields.nodes_is,
  )

-- a block whose header is right says so
pub header_right_fields : (sheet : List ℕ) (i : ℕ) → header_right sheet i ≡ true → Fields (total_of sheet) i (block_at sheet i)
unfolding header_right
header_right_fields sheet i right =
    numbers_right_fields (total_of sheet) i (block_at sheet i)
    ((and-eq-true_iff (numbers_right (total_of sheet) i (block_at sheet i)) (cond (eqb i 0) (total_right (total_of sheet) (block_count sheet)) true)).0 right).0

-- and is right where it says so, of a right total
pub fields_header_right : (sheet : List ℕ) (i : ℕ) → Fields (total_of sheet) i (block_at sheet i) → total_right (total_of sheet) (block_count sheet) ≡ true
    → header_right sheet i ≡ true
unfolding header_right
fields_header_right sheet i fields right =
    rw (fields_numbers_right (total_of sheet) i (block_at sheet i) fields, right) (either (eqb i 0))
  where
    either : (b : Bool) → cond b true true ≡ true
    either true = refl
    either false = refl

-- a total of 1 to 896 is right where there are as many blocks as it needs
pub total_right_true : (t blocks : ℕ) → 1 ≤ t → t ≤ most_nodes → blocks_for t ≡ blocks → total_right t blocks ≡ true
unfolding total_right
total_right_true t blocks l h e = rw (le-leb 1 t l, le-leb t most_nodes h) (eq-eqb (blocks_for t) blocks e)
