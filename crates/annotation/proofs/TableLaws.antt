-- Looking up a code that a table does not have.
-- Assumes nothing.
use Prim.Native.Nat.{ℕ}
use mathlib.Core.Path.{◌≡◌, refl}
use mathlib.Core.List.{List, [], ◌∷◌}
use borrow.Author.Tests.{ne_eqb}
use Rattle.logical_type.specs.Table.{lookup}

-- what the last arm of a `match` knows: a code is none of a table's, beside what was known before
abbrev pub Rest : {A : Type 0} → ℕ → List (ℕ × A) → Type 0 → Type 0
Rest code [] Known = Known
Rest code (entry ∷ table) Known = Rest code table (Known × (code ≡ entry.0 → ⊥))

rest_known : {A : Type 0} (code : ℕ) (table : List (ℕ × A)) (Known : Type 0) → Rest code table Known → Known
rest_known code [] Known r = r
rest_known code (entry ∷ table) Known r = (rest_known code table (Known × (code ≡ entry.0 → ⊥)) r).0

lookup_rest : {A : Type 0} (code : ℕ) (table : List (ℕ × A)) (default : A) (Known : Type 0) → Rest code table Known → default ≡ lookup code table default
lookup_rest code [] default Known r = refl
lookup_rest code (entry ∷ table) default Known r =
    let ne = (rest_known code table (Known × (code ≡ entry.0 → ⊥)) r).1 in
    rw (ne_eqb code entry.0 ne) (lookup_rest code table default (Known × (code ≡ entry.0 → ⊥)) r)

-- what the last arm of a `match` with an arm for each code of a table answers
pub lookup_default : {A : Type 0} (code : ℕ) (table : List (ℕ × A)) (default : A) → Rest code table (Unit {0}) → default ≡ lookup code table default
lookup_default code table default r = lookup_rest code table default (Unit {0}) r
