-- What a call answers in one number, and what it leaves in the output that it was lent.
use Rattle.std.specs.Prelude.{ℕ, ◌+◌, ◌*◌, ◌/◌, ◌%◌, ◌^◌, cond, List, ◌++◌, ltb, length, drop}
use Rattle.refusal.specs.Outcome.{Outcome, given, refused, short_output}
use Rattle.refusal.specs.Outcome.{Counted}
use Rattle.std.specs.Prelude.{Ok, Err}
use Rattle.refusal.specs.declared.answers.Refusal.{Refusal}
use Rattle.refusal.specs.declared.answers.Fault.{Fault}

-- an answer: "bits 32 to 39 the refusal's number (0 for a result), bits 0 to 31 its place, or for a result the value named"; the bits above
-- are 0, but for those of a refusal of one of two
abbrev pub packed : ℕ → ℕ → ℕ
packed number low = number * 2 ^ 32 + low

-- the number of a result
abbrev pub RESULT : ℕ
RESULT = 0

-- what a caller takes out of an answer again: bits 32 to 39, and bits 0 to 31
abbrev pub number_in : ℕ → ℕ
number_in answer = answer / 2 ^ 32 % 2 ^ 8

abbrev pub low_in : ℕ → ℕ
low_in answer = answer % 2 ^ 32

-- the answer of a refusal of one of two, which has in bits 40 to 47 "which value is at fault, 1 or 2, and 0 for neither" (document 02, R-6);
-- of comparing, which sheet is
abbrev pub packed_fault : ℕ → ℕ → ℕ → ℕ
packed_fault side number low = side * 2 ^ 40 + packed number low

-- and what a caller takes out of it again
abbrev pub side_in : ℕ → ℕ
side_in answer = answer / 2 ^ 40 % 2 ^ 8

-- the answer of a refusal
abbrev pub refusal_answer : Refusal → ℕ
refusal_answer r = packed r.number r.place

-- of one with its side
abbrev pub fault_answer : Fault → ℕ
fault_answer f = packed_fault f.side f.refusal.number f.refusal.place

-- and of a call that answers how many there are
abbrev pub counted_answer : Counted → ℕ
counted_answer (Ok n) = packed RESULT n
counted_answer (Err r) = refusal_answer r

-- what a call gives that writes numbers: the value named, and what is written at the output's start
pub record Result (A : Type 0) : Type 0 where
  pub value : ℕ
  pub numbers : List A

-- what such a call comes to
abbrev pub Effect : Type 0 → Type 0
Effect A = Outcome (Result A)

abbrev pub result : {A : Type 0} → ℕ → List A → Effect A
result value numbers = given (record { value = value; numbers = numbers })

-- a result whose value is how many numbers are written
abbrev pub listed : {A : Type 0} → List A → Effect A
listed numbers = result (length numbers) numbers

-- "Too short an output is 14 after everything else", of an output of so many numbers
abbrev pub within : {A : Type 0} → ℕ → Effect A → Effect A
within lent (refused r) = refused r
within lent (given g) = cond (ltb lent (length g.numbers)) (refused short_output) (given g)

-- the answer
abbrev pub answer : {A : Type 0} → Effect A → ℕ
answer (refused r) = refusal_answer r
answer (given g) = packed RESULT g.value

-- what the output holds afterwards: the numbers and what stood past them, or what it held where the call is refused
abbrev pub left : {A : Type 0} → Effect A → List A → List A
left (refused r) lent = lent
left (given g) lent = g.numbers ++ drop (length g.numbers) lent
