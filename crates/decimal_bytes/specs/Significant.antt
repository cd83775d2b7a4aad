-- What the contracts of private functions cite, and no promise to a caller: the byte of a sign, and the bytes that a number needs.
use Rattle.std.specs.Prelude.{ℕ, cond, List, [], ◌∷◌, eqb}
use Rattle.decimal_bytes.specs.Number.{is_negative}

-- the byte that repeats the sign of a number: in front of its bytes, it changes nothing
abbrev pub sign_byte : List ℕ → ℕ
sign_byte bs = cond (is_negative bs) 255 0

-- the bytes that are needed: those of a number without the bytes in front that only repeat the sign of what comes after
unfoldable pub significant : List ℕ → List ℕ
significant [] = []
significant (b ∷ []) = b ∷ []
significant (b ∷ c ∷ bs) = cond (eqb b (sign_byte (c ∷ bs))) (significant (c ∷ bs)) (b ∷ c ∷ bs)
