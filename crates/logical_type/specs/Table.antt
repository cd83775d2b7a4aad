-- Tables by code.
use Rattle.std.specs.Prelude.{ℕ, cond, List, [], ◌∷◌, eqb}

-- what a table has for a code, and the default for a code that is not in it
abbrev pub lookup : {A : Type 0} → ℕ → List (ℕ × A) → A → A
lookup code [] default = default
lookup code (entry ∷ table) default = cond (eqb code entry.0) entry.1 (lookup code table default)
