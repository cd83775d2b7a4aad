-- Two accepted sheets: their list, what it needs, and what is answered and written.
use mathlib.Core.Path.{◌≡◌, refl, sym, ap, ◌∙◌}
use mathlib.Core.Bool.{true}
use mathlib.Core.List.{List, [], ◌∷◌, ◌++◌}
use Prim.Native.Nat.{ℕ, ◌+◌, ◌*◌, ◌≤◌, ◌<◌}
use native.Mathlib.Omega.{arith}
use lib.ListN.{length, drop}
use borrow.Author.Tests.{lt-ltb, le-ltb}
use Rattle.std.specs.Prelude.{Result, Ok, Err}
use Rattle.matching.specs.declared.sheets.Totals.{Totals}
use Rattle.laws.specs.Stretches.{stretched}
use Rattle.refusal.specs.Outcome.{short_output}
use Rattle.refusal.specs.Faults.{NEITHER, FIRST, fault}
use Rattle.refusal.specs.Outcome.{Counted}
use Rattle.edition.specs.Editions.{is_known}
use Rattle.tree.specs.Judgement.{judgement_of}
use Rattle.refusal.specs.declared.answers.Fault.{Fault}
use Rattle.sheet.specs.Slot.{slots}
use Rattle.sheet.specs.Name.{same_bytes}
use Rattle.sheet.proofs.NameLaws.{same_bytes_equal}
use Rattle.tree.specs.Reading.{tree_of}
use Rattle.tree.specs.Judgement.{judgement}
use Rattle.tree.proofs.JudgementLaws.{judged_lawful}
use Rattle.matching.specs.Outcome.{totals, laid_on, matched_of, matches_of, matching_by, matching_of}
use Rattle.matching.specs.declared.fields.Match.{Match}
use Rattle.matching.specs.declared.sheets.Matching.{Matching}
use Rattle.std.specs.Prelude.{Option as Found}
use Rattle.matching.proofs.OutcomeLaws.{both_counted, matched_first, matched_both}
use Rattle.differences.specs.Entry.{Entry, entry_size, list_bytes}
use Rattle.differences.specs.Outcome.{list_for, answer, compare_outcome, compare_written}
use Rattle.differences.specs.Steps.{Self, Comparable, Numbered, Lists, Puts, put_all}
use Rattle.differences.proofs.EntryLaws.{AllFit, length_list}
use Rattle.differences.proofs.PutLaws.{put_all_empty, put_all_all}
use Rattle.differences.proofs.OutputLaws.{list_fits, entries_most}
use Rattle.differences.proofs.SelfLaws.{differences_self}
use Rattle.differences.proofs.NumberedLaws.{numbered_both, lists_both}

module _ (first second : List ℕ) (nodes others : ℕ) (found : List (Found Match)) (c : Comparable first second nodes others found) where
  pub numbered_are : Numbered first second nodes others found
  numbered_are = rw c.are (numbered_both c.edition first second nodes others c.one c.other)

  pub lists_are : Lists first second nodes found
  lists_are = rw c.are (lists_both c.edition first second nodes others c.one c.other)

  first_lawful : judgement c.edition first ≡ Ok tt
  first_lawful = (judged_lawful c.edition first nodes c.one).0

  second_lawful : judgement c.edition second ≡ Ok tt
  second_lawful = (judged_lawful c.edition second others c.other).0

  -- the list's entries can be written
  pub entries_fit : AllFit (list_for first second)
  entries_fit = list_fits c.edition first second first_lawful second_lawful

  -- and are few
  pub list_most : length (list_for first second) ≤ 13 * nodes + others
  list_most = omega (arith, entries_most c.edition first second first_lawful second_lawful, numbered_are.one.total, numbered_are.other.total)

-- ---- the answers

-- counting puts nothing
counted_kept : (es : List Entry) (out held : List ℕ) (r : ℕ) → Puts [] 0 es held r → held ++ out ≡ out
counted_kept es out held r p = ap (◌++ out) (p.holds ∙ put_all_empty 0 es)

no_entries : (es : List Entry) → length es ≡ 0 → es ≡ []
no_entries [] e = refl
no_entries (x ∷ es) e = absurd (omega (arith, e))

-- a stretch from the start on
front : (out bs : List ℕ) → stretched out 0 bs ≡ bs ++ drop (length bs) out
unfolding stretched
front out bs = let is : 0 + length bs ≡ length bs = omega arith in ap (λ (i : ℕ). bs ++ drop i out) is

module _ (first second : List ℕ) (nodes others : ℕ) (out held : List ℕ) (r : ℕ) (counted : Puts [] 0 (list_for first second) held r) where
  -- there is no entry
  pub answers_none : r ≡ 0
      → (Ok 0 ≡ answer (Ok (totals nodes others)) (length (list_for first second)) (length out))
      × (held ++ out ≡ compare_written (Ok 0) first second out)
  unfolding answer compare_written list_bytes
  answers_none e =
      let none = no_entries (list_for first second) (omega (arith, counted.counts, e)) in
      (rw none (rw (le-ltb (length out) (entry_size * 0) (omega arith))), counted_kept _ out held r counted ∙ rw none)

  -- there is not room for all
  pub answers_short : length (held ++ out) < entry_size * r → (refusal : _) → refusal ≡ short_output
      → (Err (fault NEITHER refusal) ≡ answer (Ok (totals nodes others)) (length (list_for first second)) (length out))
      × (held ++ out ≡ compare_written (Err (fault NEITHER refusal)) first second out)
  unfolding answer compare_written
  answers_short h refusal e =
      let kept = counted_kept _ out held r counted in
      (rw (e, lt-ltb (length out) (entry_size * length (list_for first second)) (omega (arith, h, ap length kept, counted.counts))), kept)

  -- there is
  pub answers_all : AllFit (list_for first second) → entry_size * r ≤ length (held ++ out)
      → (last : List ℕ) (n : ℕ) → Puts (held ++ out) 0 (list_for first second) last n
      → (Ok r ≡ answer (Ok (totals nodes others)) (length (list_for first second)) (length out))
      × (last ≡ compare_written (Ok r) first second out)
  unfolding answer compare_written
  answers_all fit h last n p =
      let all = list_for first second in
      let kept = counted_kept all out held r counted in
      let room : entry_size * length all ≤ length out = omega (arith, h, ap length kept, counted.counts) in
      let start : entry_size * 0 ≡ 0 = omega arith in
      let count : r ≡ length all = omega (arith, counted.counts) in (
        rw (le-ltb (length out) (entry_size * length all) room) (ap Ok count),
        p.holds
            ∙ ap (λ (l : List ℕ). put_all l 0 all) kept
            ∙ put_all_all out 0 all fit (omega (arith, room))
            ∙ ap (λ (i : ℕ). stretched out i (list_bytes all)) start
            ∙ front out (list_bytes all)
            ∙ ap (λ (i : ℕ). list_bytes all ++ drop i out) (length_list all fit ∙ ap (entry_size *◌) (sym count)),
      )

-- ---- any two sheets

module _ (edition : ℕ) (first second : List ℕ) where
  -- what is matched is that of the totals of both
  matching_told : (o : Result Totals Fault) (m : Matching) → Ok m ≡ matching_by o first second → (o ≡ Ok m.totals) × (m.matches ≡ matches_of first second)
  matching_told (Ok t) m e =
      let is : m ≡ record { totals = t; matches = matches_of first second } = cc in
      (ap Ok (sym (ap (λ (w : Matching). w.totals) is)), ap (λ (w : Matching). w.matches) is)
  matching_told (Err f) m e = absurd (let z : ◌≡◌ {A = ℕ} 0 1 = cc in omega arith)

  -- both are accepted
  module _ (m : Matching) (told : Ok m ≡ matching_of edition first second) where
    matching_both : (matched_of edition first second ≡ Ok m.totals) × (m.matches ≡ matches_of first second)
    unfolding matching_of
    matching_both = matching_told (matched_of edition first second) m told

    pub comparable_both : Comparable first second m.totals.first m.totals.second m.matches
    comparable_both =
        let both = both_counted edition first second m.totals.first m.totals.second matching_both.0 in
        record { edition = edition; one = both.0; other = both.1; are = matching_both.1 }

    pub compares_listed : (out held : List ℕ) (r : Result ℕ Fault) → r ≡ answer (Ok m.totals) (length (list_for first second)) (length out)
        → held ≡ compare_written r first second out
        → (r ≡ compare_outcome edition first second (length out)) × (held ≡ compare_written (compare_outcome edition first second (length out)) first second out)
    unfolding compare_outcome
    compares_listed out held r e h =
        let is : r ≡ compare_outcome edition first second (length out) = e ∙ ap (λ (w : Result Totals Fault). answer w (length (list_for first second)) (length out)) (sym matching_both.0) in
        (is, h ∙ ap (λ (c : Result ℕ Fault). compare_written c first second out) is)

  -- either is refused
  refused_told : (o : Result Totals Fault) (f : Fault) → Err f ≡ matching_by o first second → o ≡ Err f
  refused_told (Ok t) f e = absurd (let z : ◌≡◌ {A = ℕ} 0 1 = cc in omega arith)
  refused_told (Err g) f e = let is : g ≡ f = cc in ap Err is

  pub compares_refused : (f : Fault) → Err f ≡ matching_of edition first second → (out : List ℕ)
      → (Err f ≡ compare_outcome edition first second (length out)) × (out ≡ compare_written (compare_outcome edition first second (length out)) first second out)
  unfolding compare_outcome answer compare_written matching_of
  compares_refused f told out = rw (refused_told (matched_of edition first second) f told) (refl, refl)

-- ---- a sheet with itself

module _ (edition : ℕ) (sheet : List ℕ) where
  none_differs : list_for sheet sheet ≡ []
  unfolding list_for
  none_differs = differences_self (tree_of (slots sheet))

  -- the edition is unknown, or the sheet refused
  pub self_refused : (f : Fault) → matched_of edition sheet sheet ≡ Err f → Self edition sheet (Err f)
  unfolding compare_outcome answer compare_written
  self_refused f e = record { answers = λ lent. rw e; kept = λ out. refl }

  -- or there are no entries
  pub self_none : (t u : ℕ) → matched_of edition sheet sheet ≡ Ok (totals t u) → Self edition sheet (Ok 0)
  unfolding compare_outcome answer compare_written list_bytes
  self_none t u e = record { answers = λ lent. rw (e, none_differs) (rw (le-ltb lent (entry_size * 0) (omega arith))); kept = λ out. rw none_differs }

  -- by what judging the sheet answers, laid on the first
  module _ (known : is_known edition ≡ true) where
    pub self_judged_err : (q : Counted) → judgement_of edition sheet ≡ q → (f : Fault) → laid_on FIRST q ≡ Err f → Self edition sheet (Err f)
    self_judged_err (Err r) e f d = let is : fault FIRST r ≡ f = cc in self_refused f (matched_first edition sheet sheet known r e ∙ ap Err is)
    self_judged_err (Ok n) e f d = absurd (let z : ◌≡◌ {A = ℕ} 0 1 = cc in omega arith)

    pub self_judged_ok : (q : Counted) → judgement_of edition sheet ≡ q → (n : ℕ) → laid_on FIRST q ≡ Ok n → Self edition sheet (Ok 0)
    self_judged_ok (Ok t) e n d = self_none t t (matched_both edition sheet sheet known t t e e)
    self_judged_ok (Err r) e n d = absurd (let z : ◌≡◌ {A = ℕ} 0 1 = cc in omega arith)

-- two that are the same are compared as one with itself
pub compares_self : (edition : ℕ) (first second out : List ℕ) (r : Result ℕ Fault) → same_bytes first second ≡ true → Self edition first r
    → (r ≡ compare_outcome edition first second (length out)) × (out ≡ compare_written (compare_outcome edition first second (length out)) first second out)
compares_self edition first second out r e s =
    rw (← (same_bytes_equal first second e))
    (s.answers (length out), s.kept out ∙ ap (λ (c : Result ℕ Fault). compare_written c first first out) (s.answers (length out)))
