-- The promises of calls on boxes hold.
use Prim.Native.Nat.{ℕ, zero, suc, ◌≤◌, ◌<◌}
use mathlib.Core.Path.{◌≡◌, refl, sym, ap, ◌∙◌}
use mathlib.Core.Bool.{Bool, true, false, cond}
use mathlib.Core.List.{List, [], ◌++◌}
use mathlib.Core.Logic.{◌⊎◌, inl, inr}
use native.Mathlib.Omega.{arith}
use borrow.Author.Tests.{lt-ltb, le-ltb}
use lib.Dec.{ltb}
use lib.ListN.{length, get_or, drop}
use lib.Seq.{drop_at}
use lib.Ieee.{Float, nan}
use Rattle.laws.proofs.DifferenceLaws.{below?}
use Rattle.refusal.specs.Numbers.{UNKNOWN_TYPE}
use Rattle.refusal.specs.Outcome.{given, refused, short_output}
use Rattle.boxes.specs.Coordinates.{Same}
use Rattle.boxes.specs.Points.{Boxed, Answers}
use Rattle.boxes.specs.Promises as boxes
use Rattle.boxes.specs.declared.bounding_box.BoundingBox.{BoundingBox}
use Rattle.std.specs.Prelude.{Some, None, Ok, Err}
use Rattle.boxes.proofs.PromiseLaws as boxed
use Rattle.boxes.proofs.RefusalLaws.{box_bounded, test_bounded}
use Rattle.c_answer.specs.Answers.{refusal_answer, Effect, listed, within, answer, left}
use Rattle.c_answer.specs.Packing.{PacksResult, PacksEffect}
use Rattle.c_answer.proofs.PackingLaws.{result_packs, refusal_packs, short_packs}
use Rattle.c_boxes.specs.Boxes.{bound_numbers, box_effect, Boxing, test_answer}
use Rattle.c_boxes.specs.Promises.{Promises}

-- ---- answers are taken apart again

effect_packs : (kind : ℕ) (coordinates : List Float) (b : Boxed) → Answers kind coordinates b → PacksEffect (box_effect b)
effect_packs kind coordinates (Ok (Some b)) a = result_packs 4 (omega arith)
effect_packs kind coordinates (Ok None) a = result_packs 0 (omega arith)
effect_packs kind coordinates (Err r) a = refusal_packs UNKNOWN_TYPE 0 (omega arith) (omega arith) r (box_bounded kind coordinates r a)

test_packs : (inside : Bool) → PacksResult (test_answer (given inside)) (cond inside 1 0)
test_packs true = result_packs 1 (omega arith)
test_packs false = result_packs 0 (omega arith)

-- ---- what a box of points comes to

module _ (lent : List Float) where
  -- the bounds fit
  fits : (b : BoundingBox) → 4 ≤ length lent → within (length lent) (listed (bound_numbers b)) ≡ listed (bound_numbers b)
  fits b h = rw (le-ltb (length lent) 4 h)

  -- or they do not
  too_short : (b : BoundingBox) → length lent < 4 → within (length lent) (listed (bound_numbers b)) ≡ refused short_output
  too_short b h = rw (lt-ltb (length lent) 4 h)

  -- no box always does
  nothing : within (length lent) (listed {A = Float} []) ≡ listed {A = Float} []
  nothing = rw (le-ltb (length lent) 0 (omega arith))

-- a box's numbers stand at the output's start
record Written (kind : ℕ) (coordinates lent : List Float) (answered : ℕ) (held : List Float) : Type 0 where
  box : BoundingBox
  answers : Answers kind coordinates (Ok (Some box))
  four : answered ≡ 4
  held_is : held ≡ bound_numbers box ++ drop 4 lent

-- or the output is as it was
record Unwritten (lent : List Float) (answered : ℕ) (held : List Float) : Type 0 where
  not_four : answered ≡ 4 → ⊥
  same : held ≡ lent

module _ (kind : ℕ) (coordinates lent : List Float) (r : ℕ) (h : List Float) where
  outcome : Boxing kind coordinates lent r h → Written kind coordinates lent r h ⊎ Unwritten lent r h
  outcome p = go p.boxed p.answers p.answered_is p.left_is
    where
      by_effect : {e f : Effect Float} → e ≡ f → r ≡ answer e → h ≡ left e lent → (r ≡ answer f) × (h ≡ left f lent)
      by_effect q a l = (a ∙ ap answer q, l ∙ ap (λ (e : Effect Float). left e lent) q)

      go : (b : Boxed) → Answers kind coordinates b → r ≡ answer (within (length lent) (box_effect b)) → h ≡ left (within (length lent) (box_effect b)) lent → Written kind coordinates lent r h ⊎ Unwritten lent r h
      go (Ok (Some b)) c a l =
          below? (length lent) 4
          (λ n. let q = by_effect (too_short lent b n) a l in inr (record { not_four = λ e. omega (arith, q.0); same = q.1 }))
          (λ n. let q = by_effect (fits lent b n) a l in inl (record { box = b; answers = c; four = q.0; held_is = q.1 }))
      go (Ok None) c a l = let q = by_effect (nothing lent) a l in inr (record { not_four = λ e. omega (arith, q.0); same = q.1 })
      go (Err s) c a l = inr (record { not_four = λ e. let b = box_bounded kind coordinates s c in omega (arith, b.some_number); same = l })

  rest : Boxing kind coordinates lent r h → drop 4 h ≡ drop 4 lent
  rest p = go (outcome p)
    where
      go : Written kind coordinates lent r h ⊎ Unwritten lent r h → drop 4 h ≡ drop 4 lent
      go (inl w) = ap (drop 4) w.held_is ∙ drop_at (bound_numbers w.box) (drop 4 lent) 4 refl
      go (inr u) = ap (drop 4) u.same

  unchanged : Boxing kind coordinates lent r h → (r ≡ 4 → ⊥) → h ≡ lent
  unchanged p n = go (outcome p)
    where
      go : Written kind coordinates lent r h ⊎ Unwritten lent r h → h ≡ lent
      go (inl w) = absurd (n w.four)
      go (inr u) = u.same

-- ---- one answer, and numerically the same bounds

same_answer : (n : ℕ) (a b : Boxed) → boxes.SameAnswer a b → answer (within n (box_effect a)) ≡ answer (within n (box_effect b))
same_answer n (Ok (Some b)) (Ok (Some c)) s = by_room (ltb n 4)
  where
    by_room : (short : Bool) → answer (cond short (refused short_output) (listed (bound_numbers b))) ≡ answer (cond short (refused short_output) (listed (bound_numbers c)))
    by_room true = refl
    by_room false = refl
same_answer n (Ok (Some b)) (Ok None) s = absurd s
same_answer n (Ok (Some b)) (Err r) s = absurd s
same_answer n (Ok None) (Ok (Some c)) s = absurd s
same_answer n (Ok None) (Ok None) s = refl
same_answer n (Ok None) (Err r) s = absurd s
same_answer n (Err q) (Ok (Some c)) s = absurd s
same_answer n (Err q) (Ok None) s = absurd s
same_answer n (Err q) (Err r) s = ap refusal_answer s

module _ (kind : ℕ) (coordinates lent : List Float) where
  one : (r s : ℕ) (h k : List Float) → Boxing kind coordinates lent r h → Boxing kind coordinates lent s k → r ≡ s
  one r s h k p q =
      p.answered_is
      ∙ same_answer (length lent) p.boxed q.boxed ((boxed.promised).one_answer kind coordinates p.boxed q.boxed p.answers q.answers)
      ∙ sym q.answered_is

  same_bounds : (b c : BoundingBox) → boxes.SameBox b c → (i : ℕ) → i < 4 → Same (get_or (bound_numbers b ++ drop 4 lent) i nan) (get_or (bound_numbers c ++ drop 4 lent) i nan)
  same_bounds b c s zero h = s.xmin
  same_bounds b c s (suc zero) h = s.xmax
  same_bounds b c s (suc (suc zero)) h = s.ymin
  same_bounds b c s (suc (suc (suc zero))) h = s.ymax
  same_bounds b c s (suc (suc (suc (suc i)))) h = absurd (omega arith)

  same : (h k : List Float) → Boxing kind coordinates lent 4 h → Boxing kind coordinates lent 4 k → (i : ℕ) → i < 4 → Same (get_or h i nan) (get_or k i nan)
  same h k p q i n = go (outcome kind coordinates lent 4 h p) (outcome kind coordinates lent 4 k q)
    where
      go : Written kind coordinates lent 4 h ⊎ Unwritten lent 4 h → Written kind coordinates lent 4 k ⊎ Unwritten lent 4 k → Same (get_or h i nan) (get_or k i nan)
      go (inr u) w = absurd (u.not_four refl)
      go (inl v) (inr u) = absurd (u.not_four refl)
      go (inl v) (inl w) =
          rw (v.held_is, w.held_is)
          (same_bounds v.box w.box ((boxed.promised).one_answer kind coordinates (Ok (Some v.box)) (Ok (Some w.box)) v.answers w.answers) i n)

pub promised : Promises
promised =
    record {
      box_packs = λ kind coordinates lent b a. short_packs lent (box_effect b) (effect_packs kind coordinates b a);
      inside_packs = λ kind b x y inside e. test_packs inside;
      inside_refused_packs = λ kind b x y r e. refusal_packs UNKNOWN_TYPE 0 (omega arith) (omega arith) r (test_bounded kind b x y r e);
      box_one = one;
      box_rest = rest;
      box_same = same;
      box_unchanged = unchanged;
    }
