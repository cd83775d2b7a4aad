-- Laws of where whole sequences stop: it is the end of the longest beginning that is a text.
-- Assumes nothing.
use Prim.Native.Nat.{ℕ, zero, suc, ◌+◌, ◌≤◌, ◌<◌}
use mathlib.Core.Bool.{Bool, true, false, cond}
use mathlib.Core.Logic.{◌↔◌}
use mathlib.Core.Path.{◌≡◌, refl, sym, ap, ◌∙◌}
use mathlib.Core.List.{List, [], ◌∷◌, ◌++◌, append_assoc}
use native.Mathlib.Nat.{zero-add, add_assoc}
use native.Mathlib.Omega.{arith}
use lib.Dec.{T}
use lib.Ieee.Fits.{and_r}
use lib.ListN.{length, take, drop, get_or, length-append, length-take, length-drop, take-append-drop}
use lib.Seq.{take_at, take-add, take-length, drop-cons, drop-drop, drop-append_seam, length-take-le}
use Rattle.utf8.specs.Sequence.{Range, Rule, inside, spells, derives, sequence, utf8_char, utf8_1, utf8_2, utf8_3, utf8_4}
use Rattle.utf8.specs.Text.{Text, none, next}
use Rattle.utf8.specs.Valid.{matched, leading, reading, valid_up_to, Stops}
use Rattle.std.specs.Prelude.{Some}
use Rattle.utf8.specs.Steps.{begun, Passes}
use Rattle.laws.proofs.BoolLaws.{T_true, T_or_left, T_or_right, T_or_cases}
use Rattle.utf8.proofs.SequenceLaws.{inside_true, inside_below, inside_above, spells_length, Above, Below, Ordered, utf8_char_ordered, derives_above, derives_nil}

-- What a first octet says of a rule

pub matched_above : (a : ℕ) (s : List ℕ) (rule : Rule) → Above a rule → matched rule (a ∷ s) ≡ 0
unfolding matched spells
matched_above a s [] h = refl
matched_above a s ([] ∷ rule) h = absurd h
matched_above a s ((range ∷ ranges) ∷ rule) h = rw (inside_below range a h.0) (matched_above a s rule h.1)

pub matched_below : (a : ℕ) (s : List ℕ) (before after : Rule) → Below a before → matched (before ++ after) (a ∷ s) ≡ matched after (a ∷ s)
unfolding matched spells
matched_below a s [] after h = refl
matched_below a s ([] ∷ before) after h = absurd h
matched_below a s ((range ∷ ranges) ∷ before) after h = rw (inside_above range a h.0) (matched_below a s before after h.1)

pub matched_here : (a : ℕ) (s : List ℕ) (range : Range) (ranges : List Range) (after : Rule) → range.lo ≤ a → a ≤ range.hi → Above a after
    → matched ((range ∷ ranges) ∷ after) (a ∷ s) ≡ cond (spells ranges (take (length ranges) s)) (suc (length ranges)) 0
unfolding matched spells
matched_here a s range ranges after low high above = rw (inside_true range a low high, matched_above a s after above)

-- What octets begin with

pub matched_within : (rule : Rule) (s : List ℕ) → matched rule s ≤ length s
unfolding matched
matched_within [] s = omega arith
matched_within (ranges ∷ rule) s =
    go (spells ranges (take (length ranges) s)) (spells_length ranges (take (length ranges) s)) (matched_within rule s)
  where
    go : (t : Bool) → (T t → length (take (length ranges) s) ≡ length ranges) → matched rule s ≤ length s
        → cond t (length ranges) (matched rule s) ≤ length s
    go true here later = omega (arith, length-take (length ranges) s, here tt)
    go false here later = later

pub matched_derives : (rule : Rule) (s : List ℕ) → 0 < matched rule s → T (derives rule (take (matched rule s) s))
unfolding matched derives
matched_derives [] s h = omega arith
matched_derives (ranges ∷ rule) s h = go (spells ranges (take (length ranges) s)) (λ t. t) (matched_derives rule s) h
  where
    go : (t : Bool) → (T t → T (spells ranges (take (length ranges) s))) → (0 < matched rule s → T (derives rule (take (matched rule s) s)))
        → 0 < cond t (length ranges) (matched rule s) → T (derives (ranges ∷ rule) (take (cond t (length ranges) (matched rule s)) s))
    go true here later h = T_or_left (spells ranges (take (length ranges) s)) (derives rule (take (length ranges) s)) (here tt)
    go false here later h = T_or_right (spells ranges (take (matched rule s) s)) (derives rule (take (matched rule s) s)) (later h)

-- what a rule in order derives is what octets that go on from it begin with
pub matched_append : (rule : Rule) (s t : List ℕ) → Ordered rule → T (derives rule s) → matched rule (s ++ t) ≡ length s
unfolding matched derives spells
matched_append [] s t h d = absurd d
matched_append ([] ∷ rule) s t h d = absurd h
matched_append ((range ∷ ranges) ∷ rule) [] t h d = absurd (derives_nil rule h.1 d)
matched_append ((range ∷ ranges) ∷ rule) (b ∷ s) t h d =
    T_or_cases (spells (range ∷ ranges) (b ∷ s)) (derives rule (b ∷ s)) d
    (λ here.
    let e : length s ≡ length ranges = spells_length ranges s (and_r (inside range b) (spells ranges s) here) in
    rw (take_at s t (length ranges) e, T_true (spells (range ∷ ranges) (b ∷ s)) here, e))
    (λ later. rw (inside_above range b (derives_above range.hi b s rule h.0 later)) (matched_append rule (b ∷ s) t h.1 later))

-- The sequence that octets begin with

pub leading_within : (s : List ℕ) → leading s ≤ length s
unfolding leading
leading_within s = matched_within utf8_char s

pub leading_sequence : (s : List ℕ) → 0 < leading s → T (sequence (take (leading s) s))
unfolding leading sequence
leading_sequence s h = matched_derives utf8_char s h

pub leading_append : (s t : List ℕ) → T (sequence s) → leading (s ++ t) ≡ length s
unfolding leading sequence
leading_append s t h = matched_append utf8_char s t utf8_char_ordered h

-- octets cannot begin with an alternative before k where their first octet lies above those
pub leading_above : (k a : ℕ) (s : List ℕ) → Below a (take k utf8_char) → leading (a ∷ s) ≡ matched (drop k utf8_char) (a ∷ s)
unfolding leading
leading_above k a s below =
    ap (λ (rule : Rule). matched rule (a ∷ s)) (sym (take-append-drop k utf8_char))
    ∙ matched_below a s (take k utf8_char) (drop k utf8_char) below

-- the first octet is of the alternative at k, so octets can begin with that one only
pub leading_first : (k : ℕ) {range : Range} {ranges : List Range} {after : Rule} → drop k utf8_char ≡ (range ∷ ranges) ∷ after
    → (a : ℕ) (s : List ℕ) → Below a (take k utf8_char) × (range.lo ≤ a) × (a ≤ range.hi) × Above a after
    → leading (a ∷ s) ≡ cond (spells ranges (take (length ranges) s)) (suc (length ranges)) 0
leading_first k {range} {ranges} {after} e a s h =
    leading_above k a s h.0
    ∙ ap (λ (rule : Rule). matched rule (a ∷ s)) e
    ∙ matched_here a s range ranges after h.1 h.2 h.3

-- the first octet lies between those of the alternatives before k and those from k on, so octets can begin with none
pub leading_between : (k a : ℕ) (s : List ℕ) → Below a (take k utf8_char) × Above a (drop k utf8_char) → leading (a ∷ s) ≡ 0
leading_between k a s h = leading_above k a s h.0 ∙ matched_above a s (drop k utf8_char) h.1

-- an octet of UTF8-1 is a sequence
pub leading_ascii : (s : List ℕ) (i : ℕ) → i < length s → get_or s i 0 ≤ 0x7F → leading (drop i s) ≡ 1
unfolding utf8_char utf8_1 utf8_2 utf8_3 utf8_4 spells
leading_ascii s i h low = ap leading (drop-cons s i 0 h) ∙ leading_first 0 refl _ (drop (suc i) s) (omega arith)

-- Reading one sequence after the other

pub reading_within : (n : ℕ) (s : List ℕ) → reading n s ≤ length s
unfolding reading
reading_within zero s = omega arith
reading_within (suc n) s =
    omega (arith, leading_within s, length-drop (leading s) s, reading_within n (drop (leading s) s))

pub reading_whole : (n : ℕ) (s : List ℕ) → Text (take (reading n s) s)
unfolding reading
reading_whole zero s = none
reading_whole (suc n) s = rw take-add (go (leading s) (leading_sequence s) (reading_whole n (drop (leading s) s)))
  where
    go : (k : ℕ) → (0 < k → T (sequence (take k s))) → {t : List ℕ} → Text t → Text (take k s ++ t)
    go zero h whole = whole
    go (suc k) h whole = next (take (suc k) s) (h (omega arith)) whole

-- where no sequence begins there is nothing to read
pub reading_none : (n : ℕ) (s : List ℕ) → leading s ≡ 0 → reading n s ≡ 0
unfolding reading
reading_none zero s e = refl
reading_none (suc n) s e = rw (e, zero-add) (reading_none n s e)

-- as many sequences as octets are all that there are to read
pub reading_enough : (n m : ℕ) (s : List ℕ) → length s ≤ n → length s ≤ m → reading n s ≡ reading m s
unfolding reading
reading_enough zero m s hn hm = omega (arith, reading_within m s)
reading_enough (suc n) zero s hn hm = omega (arith, reading_within (suc n) s)
reading_enough (suc n) (suc m) s hn hm =
    go (leading s) refl (λ pos. reading_enough n m (drop (leading s) s) (simp length-drop (omega arith)) (simp length-drop (omega arith)))
  where
    go : (k : ℕ) → leading s ≡ k → (0 < leading s → reading n (drop (leading s) s) ≡ reading m (drop (leading s) s)) → reading (suc n) s ≡ reading (suc m) s
    go zero e more = reading_none (suc n) s e ∙ sym (reading_none (suc m) s e)
    go (suc k) e more = ap (λ (r : ℕ). leading s + r) (more (omega arith))

-- Where whole sequences stop

pub valid_up_to_none : (s : List ℕ) → leading s ≡ 0 → valid_up_to s ≡ 0
unfolding valid_up_to
valid_up_to_none s e = reading_none (length s) s e

-- reading goes on after the sequence at the start as it does from there
pub valid_up_to_next : (s : List ℕ) → valid_up_to s ≡ leading s + valid_up_to (drop (leading s) s)
unfolding valid_up_to reading
valid_up_to_next s =
    reading_enough (length s) (suc (length s)) s (omega arith) (omega arith)
    ∙ ap (λ (r : ℕ). leading s + r)
    (reading_enough (length s) (length (drop (leading s) s)) (drop (leading s) s) (simp length-drop (omega arith)) (omega arith))

pub valid_up_to_drop : (s : List ℕ) (i n : ℕ) → n ≡ leading (drop i s) → valid_up_to (drop i s) ≡ n + valid_up_to (drop (i + n) s)
valid_up_to_drop s i n e = valid_up_to_next (drop i s) ∙ rw (← e, drop-drop)

-- reading passes no octets, a sequence, and one stretch after the other
pub passes_none : (s : List ℕ) (i : ℕ) → i ≤ length s → Passes s i i
passes_none s i h = record { onward = omega arith; within = h; reads = refl }

pub passes_sequence : (s : List ℕ) (from i n : ℕ) → n ≡ leading (drop i s) → i ≤ length s → Passes s from i → Passes s from (i + n)
passes_sequence s from i n e h p =
    record {
      onward = omega (arith, p.onward);
      within = omega (arith, leading_within (drop i s), length-drop i s);
      reads = omega (arith, p.reads, valid_up_to_drop s i n e);
    }

-- an octet of UTF8-1 is one
pub passes_one : (s : List ℕ) (from i j : ℕ) → j ≡ i + 1 → i < length s → get_or s i 0 ≤ 0x7F → Passes s from i → Passes s from j
passes_one s from i j e h low p = rw e (passes_sequence s from i 1 (sym (leading_ascii s i h low)) (omega arith) p)

pub passes_on : {s : List ℕ} {from at r : ℕ} → Passes s from at → Passes s at r → Passes s from r
passes_on p q =
    record { onward = omega (arith, p.onward, q.onward); within = q.within; reads = p.reads ∙ q.reads }

-- reading goes on after a text as it does from there
pub valid_up_to_append : {s : List ℕ} → Text s → (t : List ℕ) → valid_up_to (s ++ t) ≡ length s + valid_up_to t
valid_up_to_append none t = sym (zero-add (valid_up_to t))
valid_up_to_append (next s {t = u} h whole) t =
    rw (append_assoc, length-append, add_assoc, ← valid_up_to_append whole t, valid_up_to_next (s ++ (u ++ t)), leading_append s (u ++ t) h, drop-append_seam)

pub valid_up_to_stops : (s : List ℕ) → Stops s (valid_up_to s)
unfolding valid_up_to
valid_up_to_stops s =
    record {
      within = reading_within (length s) s;
      whole = reading_whole (length s) s;
      longest = longest;
    }
  where
    longest : (n : ℕ) → valid_up_to s < n → n ≤ length s → Text (take n s) → ⊥
    longest n h fits whole =
        omega (arith, simp (take-append-drop, length-take-le) at (valid_up_to_append whole (drop n s)))

-- Octets stop at one place, and are a text exactly where that is their length

pub stops_unique : {s : List ℕ} {q r : ℕ} → Stops s q → Stops s r → q ≡ r
stops_unique {s} {q} {r} a b =
    let up : ¬ (q < r) = λ h. a.longest r h b.within b.whole in
    let down : ¬ (r < q) = λ h. b.longest q h a.within a.whole in
    omega arith

pub stops_length : {s : List ℕ} {r : ℕ} → Stops s r → (r ≡ length s) ↔ Text s
stops_length {s} {r} stops = (λ e. rw (e, take-length) at stops.whole, text)
  where
    text : Text s → r ≡ length s
    text whole =
        let short : ¬ (r < length s) = λ h. stops.longest (length s) h (omega arith) (rw take-length whole) in
        omega (arith, stops.within)

pub valid_up_to_length : (s : List ℕ) → (valid_up_to s ≡ length s) ↔ Text s
valid_up_to_length s = stops_length (valid_up_to_stops s)

-- a sequence that begins, by how many octets it has
pub begun_some : (n : ℕ) → 0 < n → begun n ≡ Some n
begun_some zero h = absurd (omega arith)
begun_some (suc n) h = refl

pub begun_is : (n k : ℕ) → begun n ≡ Some k → (k ≡ n) × (0 < k)
begun_is zero k e = cc
begun_is (suc n) k e = let same : suc n ≡ k = cc in (sym same, omega arith)
