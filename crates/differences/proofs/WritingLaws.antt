-- An entry's bytes, part by part.
use mathlib.Core.Path.{◌≡◌, refl, sym, ap, ap₂, ◌∙◌}
use mathlib.Core.List.{List, [], ◌∷◌, ◌++◌, append_assoc, append-nil}
use Prim.Native.Nat.{ℕ, ◌+◌, ◌-◌, ◌%◌, ◌≤◌, ◌<◌}
use native.Mathlib.Omega.{arith}
use lib.ListN.{length, get_or, set, take, drop, replicate, length-append, length-set, length-take, length-drop, drop_of_length-le}
use lib.Seq.{take_at, drop_at, drop-drop}
use Rattle.std.specs.Int.{to_le_bytes}
use Rattle.std.proofs.Common.{w16}
use Rattle.laws.specs.Bytes.{bytes_of}
use Rattle.laws.specs.Stretches.{stretched}
use Rattle.sheet.specs.Block.{slot_size}
use Rattle.differences.specs.Entry.{entry, entry_size, entry_bytes, filled}
use Rattle.differences.proofs.FitLaws.{length_filled}

-- a content in front, and zeros behind it, are the content, zero-filled
pub content_filled : (content out copy rest : List ℕ) → length content ≤ slot_size → length out ≡ slot_size → copy ≡ content
    → rest ≡ replicate (length (take (length (copy ++ drop (length content) out) - length content) (drop (length content) (copy ++ drop (length content) out)))) 0
    → take (length content) (copy ++ drop (length content) out)
    ++ (rest ++ drop (length (copy ++ drop (length content) out) - length content) (drop (length content) (copy ++ drop (length content) out)))
    ≡ filled content
unfolding filled
content_filled content out copy rest h long c r =
    let n = length content in
    let all = copy ++ drop n out in
    let is_long : length all ≡ slot_size = omega (arith, ap length c, length-append copy (drop n out), length-drop n out, h, long) in
    let front : take n all ≡ content = ap (λ (l : List ℕ). take n (l ++ drop n out)) c ∙ take_at content (drop n out) n refl in
    let left : length (take (length all - n) (drop n all)) ≡ slot_size - n = simp (length-take, length-drop) (omega arith) in
    let none : drop (length all - n) (drop n all) ≡ [] = drop_of_length-le (drop n all) {i = length all - n} (omega (arith, length-drop n all)) in
    let zeros : rest ≡ replicate (slot_size - n) 0 = r ∙ ap (λ (i : ℕ). replicate i 0) left in
    ap₂ ◌++◌ front (ap (rest ++◌) none ∙ append-nil rest ∙ zeros)

-- the first four bytes of an entry
abbrev pub headed : List ℕ → ℕ → List ℕ → List ℕ
headed out code bytes = set (set (set (set out 0 code) 1 0) 2 (get_or bytes 0 0)) 3 (get_or bytes 1 0)

-- a part of an output in its middle, with others in its place
abbrev pub placed : ℕ → List ℕ → List ℕ → List ℕ
placed at part out = take at out ++ (part ++ drop slot_size (drop at out))

-- the parts of an entry are its bytes
pub entry_written : (out : List ℕ) (code number : ℕ) (bytes first second : List ℕ) → length out ≡ entry_size → code < 256 → bytes ≡ to_le_bytes w16 number → length first ≤ slot_size → length second ≤ slot_size
    → placed 76 (filled second) (placed 4 (filled first) (headed out code bytes)) ≡ entry_bytes (entry code number first second)
unfolding entry_bytes bytes_of
entry_written (a ∷ b ∷ c ∷ d ∷ rest) code number bytes first second long small two g h =
    let one : take 72 (filled first ++ drop slot_size rest) ≡ filled first = take_at (filled first) (drop slot_size rest) 72 (length_filled first g) in
    let behind : drop 72 (filled first ++ drop slot_size rest) ≡ drop slot_size rest = drop_at (filled first) (drop slot_size rest) 72 (length_filled first g) in
    let none : drop slot_size (drop slot_size rest) ≡ [] = drop_of_length-le (drop slot_size rest) {i = slot_size} (omega (arith, length-drop slot_size rest, long)) in
    let code_is : code ≡ code % 256 = omega (arith, small) in
    ap₂ (λ (f r : List ℕ). code ∷ 0 ∷ get_or bytes 0 0 ∷ get_or bytes 1 0 ∷ (f ++ (filled second ++ drop slot_size r))) one behind
    ∙ ap (λ (r : List ℕ). code ∷ 0 ∷ get_or bytes 0 0 ∷ get_or bytes 1 0 ∷ (filled first ++ r)) (ap (λ (r : List ℕ). filled second ++ r) none ∙ append-nil (filled second))
    ∙ ap₂ (λ (x : ℕ) (ys : List ℕ). x ∷ 0 ∷ get_or ys 0 0 ∷ get_or ys 1 0 ∷ (filled first ++ filled second)) code_is two
entry_written (a ∷ b ∷ c ∷ []) code number bytes first second long small two g h = absurd (omega arith)
entry_written (a ∷ b ∷ []) code number bytes first second long small two g h = absurd (omega arith)
entry_written (a ∷ []) code number bytes first second long small two g h = absurd (omega arith)
entry_written [] code number bytes first second long small two g h = absurd (omega arith)

-- what is placed where there is room keeps the output's length
pub length_placed : (at : ℕ) (part out : List ℕ) → length part ≡ slot_size → at + slot_size ≤ length out → length (placed at part out) ≡ length out
length_placed at part out e h = simp (length-append, length-take, length-drop) (omega arith)

pub length_headed : (out : List ℕ) (code : ℕ) (bytes : List ℕ) → length (headed out code bytes) ≡ length out
length_headed out code bytes = simp length-set

-- a part that has come back is a stretch
pub part_stretched : (out part : List ℕ) (a k : ℕ) → length part ≡ k → take a out ++ (part ++ drop k (drop a out)) ≡ stretched out a part
unfolding stretched
part_stretched out part a k e =
    sym (append_assoc (take a out) part (drop k (drop a out)))
    ∙ ap (λ (l : List ℕ). take a out ++ part ++ l) (drop-drop k a out ∙ ap (λ (n : ℕ). drop (a + n) out) (sym e))
