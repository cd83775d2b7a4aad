-- Entries put into an output: one behind the other, as far as there is room.
use mathlib.Core.Path.{◌≡◌, refl, sym, ap, subst, ◌∙◌}
use mathlib.Core.List.{List, [], ◌∷◌, ◌++◌, append_assoc, append-nil}
use Prim.Native.Nat.{ℕ, suc, ◌+◌, ◌*◌, ◌≤◌, ◌<◌}
use native.Mathlib.Nat.{add-zero}
use native.Mathlib.Omega.{arith}
use lib.ListN.{length, length-append}
use borrow.Author.Tests.{le-leb, lt-leb}
use Rattle.laws.specs.Stretches.{stretched}
use Rattle.laws.proofs.StretchLaws.{stretched_none, length_stretched, stretched_stretched}
use Rattle.differences.specs.Entry.{Entry, entry_size, entry_bytes, list_bytes}
use Rattle.differences.specs.Steps.{put, put_all, Puts}
use Rattle.differences.proofs.EntryLaws.{AllFit, length_entry}

module _ (out : List ℕ) (n : ℕ) (e : Entry) where
  -- there is no room for it, or there is
  pub put_none : length out < entry_size * suc n → put out n e ≡ out
  unfolding put
  put_none h = rw (lt-leb (entry_size * suc n) (length out) h)

  pub put_there : entry_size * suc n ≤ length out → put out n e ≡ stretched out (entry_size * n) (entry_bytes e)
  unfolding put
  put_there h = rw (le-leb (entry_size * suc n) (length out) h)

-- some entries, and others behind them
put_all_append : (out : List ℕ) (n : ℕ) (es fs : List Entry) → put_all out n (es ++ fs) ≡ put_all (put_all out n es) (n + length es) fs
unfolding put_all
put_all_append out n [] fs = ap (λ (i : ℕ). put_all out i fs) (sym (add-zero n))
put_all_append out n (e ∷ es) fs = put_all_append (put out n e) (suc n) es fs ∙ ap (λ (i : ℕ). put_all (put_all (put out n e) (suc n) es) i fs) (omega arith)

-- an output of no byte has room for none
pub put_all_empty : (n : ℕ) (es : List Entry) → put_all [] n es ≡ []
unfolding put_all
put_all_empty n [] = refl
put_all_empty n (e ∷ es) = ap (λ (l : List ℕ). put_all l (suc n) es) (put_none [] n e (omega arith)) ∙ put_all_empty (suc n) es

-- one that is long enough has room for all
pub put_all_all : (out : List ℕ) (n : ℕ) (es : List Entry) → AllFit es → entry_size * (n + length es) ≤ length out → put_all out n es ≡ stretched out (entry_size * n) (list_bytes es)
unfolding put_all AllFit list_bytes
put_all_all out n [] fit h = sym (stretched_none out (entry_size * n))
put_all_all out n (e ∷ es) fit h =
    let long = length_entry e fit.0 in
    let here = put_there out n e (omega (arith, h)) in
    let behind : entry_size * suc n ≡ entry_size * n + length (entry_bytes e) = omega (arith, long) in
    put_all_all (put out n e) (suc n) es fit.1 (omega (arith, h, ap length here, length_stretched out (entry_size * n) (entry_bytes e) (omega (arith, h, long))))
    ∙ ap (λ (l : List ℕ). stretched l (entry_size * suc n) (list_bytes es)) here
    ∙ ap (λ (i : ℕ). stretched (stretched out (entry_size * n) (entry_bytes e)) i (list_bytes es)) behind
    ∙ stretched_stretched out (entry_size * n) (entry_bytes e) (list_bytes es) (omega (arith, h, long))

-- what putting answers -----------------------------------------------------------------------------------------------------------

pub puts_none : (out : List ℕ) (n : ℕ) → Puts out n [] out n
unfolding put_all
puts_none out n = record { counts = sym (add-zero n); holds = refl }

-- entries that are others
pub puts_as : {out held : List ℕ} {n r : ℕ} {es fs : List Entry} → es ≡ fs → Puts out n fs held r → Puts out n es held r
puts_as {out} {held} {n} {r} e p = subst (λ (l : List Entry). Puts out n l held r) (sym e) p

-- one entry
module _ (out : List ℕ) (n : ℕ) (e : Entry) where
  pub puts_full : length out < entry_size * n + entry_size → Puts out n (e ∷ []) out (n + 1)
  unfolding put_all
  puts_full h = record { counts = refl; holds = sym (put_none out n e (omega (arith, h))) }

  pub puts_one : (held : List ℕ) → entry_size * n + entry_size ≤ length out → held ≡ stretched out (entry_size * n) (entry_bytes e) → Puts out n (e ∷ []) held (n + 1)
  unfolding put_all
  puts_one held h q = record { counts = refl; holds = q ∙ sym (put_there out n e (omega (arith, h))) }

-- some, and others behind them
pub puts_append : {out held last : List ℕ} {n m r : ℕ} {es fs : List Entry} → Puts out n es held m → Puts held m fs last r → Puts out n (es ++ fs) last r
puts_append {out} {held} {last} {n} {m} {r} {es} {fs} p q = record {
  counts = q.counts ∙ omega (arith, p.counts, length-append es fs);
  holds = q.holds ∙ ap (λ (l : List ℕ). put_all l m fs) p.holds ∙ ap (λ (i : ℕ). put_all (put_all out n es) i fs) p.counts ∙ sym (put_all_append out n es fs);
}

-- a loop that puts some entries, of which these are left
pub record Putting (out₀ : List ℕ) (n₀ : ℕ) (all : List Entry) (out : List ℕ) (n : ℕ) (rest : List Entry) : Type 0 where
  pub done : List Entry
  pub is : all ≡ done ++ rest
  pub puts : Puts out₀ n₀ done out n

module _ (out₀ : List ℕ) (n₀ : ℕ) (all : List Entry) where
  pub putting_start : Putting out₀ n₀ all out₀ n₀ all
  putting_start = record { done = []; is = refl; puts = puts_none out₀ n₀ }

  module _ (out : List ℕ) (n : ℕ) (rest : List Entry) (p : Putting out₀ n₀ all out n rest) where
    pub putting_next : (es later : List Entry) → rest ≡ es ++ later → (held : List ℕ) (m : ℕ) → Puts out n es held m → Putting out₀ n₀ all held m later
    putting_next es later e held m q = record {
      done = p.done ++ es;
      is = p.is ∙ ap (λ (l : List Entry). p.done ++ l) e ∙ sym (append_assoc p.done es later);
      puts = puts_append p.puts q;
    }

    pub putting_end : rest ≡ [] → Puts out₀ n₀ all out n
    putting_end e = rw (p.is ∙ ap (λ (l : List Entry). p.done ++ l) e ∙ append-nil p.done) p.puts
