-- Numbers in a stretch of a list: one by one, one stretch behind another, and one of them changed.
use Prim.Native.Nat.{ℕ, ◌+◌, ◌≤◌, ◌<◌}
use mathlib.Core.Path.{◌≡◌, sym, ap, ◌∙◌}
use mathlib.Core.List.{List, [], ◌∷◌, ◌++◌, append_assoc, append-nil}
use native.Mathlib.Omega.{arith}
use native.Mathlib.Nat.{add_assoc, add-zero, zero-add, suc-add}
use lib.ListN.{length, take, drop, set, length-append, length-take, length-drop, length-set, take-append-drop}
use lib.Seq.{set-append_left, length-take-le, take_at, drop_at, drop-drop, sets, sets-eq}
use Rattle.laws.specs.Stretches.{stretched}

-- what is set element by element
pub sets_stretched : (vs l : List ℕ) (i : ℕ) → i + length vs ≤ length l → sets l i vs ≡ stretched l i vs
unfolding stretched
sets_stretched vs l i h = sets-eq vs l i h

pub stretched_none : (l : List ℕ) (i : ℕ) → stretched l i [] ≡ l
unfolding stretched
stretched_none l i = rw (append-nil, add-zero) (take-append-drop i l)

-- the list keeps its length
pub length_stretched : (l : List ℕ) (i : ℕ) (vs : List ℕ) → i + length vs ≤ length l → length (stretched l i vs) ≡ length l
unfolding stretched
length_stretched l i vs h = simp (length-append, length-take, length-drop) (omega arith)

-- a stretch behind another
pub stretched_stretched : (l : List ℕ) (i : ℕ) (us vs : List ℕ) → i + length us ≤ length l → stretched (stretched l i us) (i + length us) vs ≡ stretched l i (us ++ vs)
unfolding stretched
stretched_stretched l i us vs h =
    let n : length (take i l ++ us) ≡ i + length us = length-append (take i l) us ∙ ap (λ (k : ℕ). k + length us) (length-take-le i l (omega arith)) in
    let rest : drop (i + length us + length vs) (take i l ++ us ++ drop (i + length us) l) ≡ drop (i + length (us ++ vs)) l =
    sym (drop-drop (length vs) (i + length us) (take i l ++ us ++ drop (i + length us) l))
    ∙ ap (drop (length vs)) (drop_at (take i l ++ us) (drop (i + length us) l) (i + length us) n)
    ∙ drop-drop (length vs) (i + length us) l
    ∙ ap (λ (k : ℕ). drop k l) (add_assoc i (length us) (length vs) ∙ ap (λ (k : ℕ). i + k) (sym (length-append us vs))) in
    ap (λ (x : List ℕ). x ++ vs ++ drop (i + length us + length vs) (take i l ++ us ++ drop (i + length us) l)) (take_at (take i l ++ us) (drop (i + length us) l) (i + length us) n)
    ∙ ap (λ (x : List ℕ). take i l ++ us ++ vs ++ x) rest
    ∙ ap (λ (x : List ℕ). x ++ drop (i + length (us ++ vs)) l) (append_assoc (take i l) us vs)

-- one number of a stretch set
set_behind : (xs ys : List ℕ) (j x : ℕ) → set (xs ++ ys) (length xs + j) x ≡ xs ++ set ys j x
set_behind [] ys j x = ap (λ (k : ℕ). set ys k x) (zero-add j)
set_behind (y ∷ xs) ys j x = ap (λ (k : ℕ). set (y ∷ (xs ++ ys)) k x) (suc-add (length xs) j) ∙ ap (λ (zs : List ℕ). y ∷ zs) (set_behind xs ys j x)

pub stretched_set : (l : List ℕ) (i : ℕ) (vs : List ℕ) (j x : ℕ) → i + length vs ≤ length l → j < length vs → set (stretched l i vs) (i + j) x ≡ stretched l i (set vs j x)
unfolding stretched
stretched_set l i vs j x h k =
    let n : length (take i l) ≡ i = length-take-le i l (omega arith) in
    set-append_left (take i l ++ vs) (drop (i + length vs) l) (i + j) x (omega (arith, length-append (take i l) vs))
    ∙ ap (λ (m : ℕ). set (take i l ++ vs) (m + j) x ++ drop (i + length vs) l) (sym n)
    ∙ ap (λ (zs : List ℕ). zs ++ drop (i + length vs) l) (set_behind (take i l) vs j x)
    ∙ ap (λ (m : ℕ). take i l ++ set vs j x ++ drop (i + m) l) (sym (length-set vs j x))
