-- The numbers and places of refusals: where text goes bad, and 0 for everything else. Assumes nothing.
use mathlib.Core.Path.{◌≡◌, refl, sym, ap, subst, ◌∙◌}
use mathlib.Core.Bool.{Bool, true, false, cond}
use mathlib.Core.List.{List}
use Prim.Native.Nat.{ℕ, ◌≤◌, ◌<◌}
use native.Mathlib.Omega.{arith}
use lib.Dec.{eqb}
use lib.ListN.{length}
use borrow.Author.Tests.{le-leb, eqb-true, eqb-false, ne_eqb}
use Rattle.utf8.specs.Valid.{valid_up_to, Stops}
use Rattle.utf8.proofs.ValidLaws.{valid_up_to_stops, stops_unique}
use Rattle.refusal.specs.Bounds.{Bounded}
use Rattle.refusal.specs.Numbers.{WRONG_LENGTH, BREAKS_ANNOTATION, UNKNOWN_TYPE, UNKNOWN_EDITION, GREATEST}
use Rattle.refusal.specs.Outcome.{Outcome, refused, refusal, unplaced}
use Rattle.refusal.specs.declared.answers.Refusal.{Refusal}
use Rattle.parquet.specs.Physical.{BYTE_ARRAY}
use Rattle.parquet.specs.Logical.{STRING, ENUM, DECIMAL, UNKNOWN, JSON}
use Rattle.column_type.specs.Lawful.{is_lawful, type_refusal}
use Rattle.column_type.proofs.RefusalLaws.{refusal_either}
use Rattle.column_type.specs.declared.types.ColumnType.{ColumnType}
use Rattle.column_type.proofs.PlacementLaws.{string_bytes, enum_bytes, json_bytes}
use Rattle.column.specs.Lengths.{most_bytes, is_byte_form, length_right}
use Rattle.column.specs.Annotations.{is_text, bytes_keep, annotation_place, keeps}
use Rattle.column.specs.Reading.{read_of}
use Rattle.column.specs.Outcome.{outcome_of, outcome}
use Rattle.std.specs.Prelude.{Result, Err}
use Rattle.column.specs.declared.value.Value.{Value}
use Rattle.column.proofs.LengthLaws.{length_most}
use Rattle.column.proofs.ReadingLaws.{tested, refused_is}

-- ---- how great a place is

place_within : (c : ColumnType) (bs : List ℕ) → annotation_place c bs ≤ length bs
unfolding annotation_place
place_within c bs = go (is_byte_form c) (is_text c.kind)
  where
    go : (f t : Bool) → cond f (cond t (valid_up_to bs) 0) 0 ≤ length bs
    go false t = omega arith
    go true false = omega arith
    go true true = (valid_up_to_stops bs).within

-- no number is greater than the greatest, and no place lies past the longest value
pub refusal_bounded : (edition : ℕ) (c : ColumnType) (bs : List ℕ) (r : Refusal) → read_of edition c bs ≡ Err r → Bounded GREATEST most_bytes r
unfolding read_of
refusal_bounded edition c bs r = go (is_lawful edition c) (length_right c (length bs)) refl (keeps c bs)
  where
    same : (q : Refusal) → Bounded GREATEST most_bytes q → ◌≡◌ {A = Result Value Refusal} (Err q) (Err r) → Bounded GREATEST most_bytes r
    same q h e = let f : q ≡ r = cc in subst (Bounded GREATEST most_bytes) f h

    go : (l w : Bool) → length_right c (length bs) ≡ w → (k : Bool) → tested edition c bs l w k ≡ Err r → Bounded GREATEST most_bytes r
    go false w p k e =
        same (type_refusal edition)
        (refusal_either edition (Bounded GREATEST most_bytes)
        (record { some_number = omega arith; most_number = omega arith; most_place = omega arith })
        (record { some_number = omega arith; most_number = omega arith; most_place = omega arith })) e
    go true false p k e = same (unplaced WRONG_LENGTH) (record { some_number = omega arith; most_number = omega arith; most_place = omega arith }) e
    go true true p true e = absurd (let z : ◌≡◌ {A = ℕ} 0 1 = cc in omega arith)
    go true true p false e =
        same (refusal BREAKS_ANNOTATION (annotation_place c bs)) (record { some_number = omega arith; most_number = omega arith; most_place = omega (arith, place_within c bs, length_most c (length bs) p) }) e

-- ---- what a refusal says

-- 16 and its place; every other refusal is at 0
record Refuses (edition : ℕ) (c : ColumnType) (bs : List ℕ) (number place : ℕ) : Type 0 where
  lawful : number ≡ BREAKS_ANNOTATION → is_lawful edition c ≡ true
  broken : number ≡ BREAKS_ANNOTATION → keeps c bs ≡ false
  placed : number ≡ BREAKS_ANNOTATION → place ≡ annotation_place c bs
  elsewhere : (number ≡ BREAKS_ANNOTATION → ⊥) → place ≡ 0

refuses : (edition : ℕ) (c : ColumnType) (bs : List ℕ) (number place : ℕ) → outcome edition c bs ≡ refused (refusal number place) → Refuses edition c bs number place
unfolding outcome read_of
refuses edition c bs number place = go (is_lawful edition c) refl (length_right c (length bs)) (keeps c bs) refl
  where
    other : (n : ℕ) → (n ≡ BREAKS_ANNOTATION → ⊥) → ◌≡◌ {A = Outcome Value} (refused (unplaced n)) (refused (refusal number place)) → Refuses edition c bs number place
    other n h e =
        let m : n ≡ number = ap (λ (r : Refusal). r.number) (refused_is e) in
        let p : 0 ≡ place = ap (λ (r : Refusal). r.place) (refused_is e) in
        record { lawful = λ k. absurd (h (m ∙ k)); broken = λ k. absurd (h (m ∙ k)); placed = λ k. absurd (h (m ∙ k)); elsewhere = λ k. sym p }

    go : (l : Bool) → is_lawful edition c ≡ l → (r k : Bool) → keeps c bs ≡ k
        → outcome_of (tested edition c bs l r k) ≡ refused (refusal number place) → Refuses edition c bs number place
    go false p r k q e =
        refusal_either edition (λ s. ◌≡◌ {A = Outcome Value} (refused s) (refused (refusal number place)) → Refuses edition c bs number place)
        (other UNKNOWN_TYPE (λ h. omega (arith, h))) (other UNKNOWN_EDITION (λ h. omega (arith, h))) e
    go true p false k q e = other WRONG_LENGTH (λ h. omega (arith, h)) e
    go true p true true q e = absurd (let z : ◌≡◌ {A = ℕ} 0 1 = cc in omega arith)
    go true p true false q e =
        let m : BREAKS_ANNOTATION ≡ number = ap (λ (r : Refusal). r.number) (refused_is e) in
        let at : annotation_place c bs ≡ place = ap (λ (r : Refusal). r.place) (refused_is e) in
        record { lawful = λ h. p; broken = λ h. q; placed = λ h. sym at; elsewhere = λ h. absurd (h (sym m)) }

-- ---- text

-- the kinds of text one by one
text_cases : {A : Type 0} (kind : ℕ) → is_text kind ≡ true → (kind ≡ STRING → A) → (kind ≡ ENUM → A) → (kind ≡ JSON → A) → A
text_cases {A} kind e f g h = first (eqb kind STRING) refl (eqb kind ENUM) refl
  where
    first : (s : Bool) → eqb kind STRING ≡ s → (t : Bool) → eqb kind ENUM ≡ t → A
    first true p t q = f (eqb-true kind STRING p)
    first false p true q = g (eqb-true kind ENUM q)
    first false p false q = h (eqb-true kind JSON (rw (p, q) at e))

-- text is BYTE_ARRAY in every lawful column
pub text_form : (edition : ℕ) (c : ColumnType) → is_lawful edition c ≡ true → is_text c.kind ≡ true → c.physical ≡ BYTE_ARRAY
text_form edition c l e = text_cases c.kind e (string_bytes edition c l) (enum_bytes edition c l) (json_bytes edition c l)

-- and neither a DECIMAL nor UNKNOWN
text_kind : (kind : ℕ) → is_text kind ≡ true → (eqb kind DECIMAL ≡ false) × (eqb kind UNKNOWN ≡ false)
text_kind kind e = text_cases kind e (λ k. rw k (refl, refl)) (λ k. rw k (refl, refl)) (λ k. rw k (refl, refl))

module _ (edition : ℕ) (c : ColumnType) (bs : List ℕ) (lawful : is_lawful edition c ≡ true) (text : is_text c.kind ≡ true) where
  pub text_place_lem : annotation_place c bs ≡ valid_up_to bs
  unfolding annotation_place
  text_place_lem = rw (text_form edition c lawful text, text)

  pub text_keeps : keeps c bs ≡ eqb (valid_up_to bs) (length bs)
  unfolding keeps bytes_keep
  text_keeps = rw (text_form edition c lawful text, (text_kind c.kind text).1, (text_kind c.kind text).0, text)

  -- text has any length up to the most
  text_right : length bs ≤ most_bytes → length_right c (length bs) ≡ true
  unfolding length_right
  text_right most = rw (le-leb (length bs) most_bytes most, text_form edition c lawful text, (text_kind c.kind text).0)

-- the place of a text's 16: whole sequences stop there, short of the end
pub text_stops : (edition : ℕ) (c : ColumnType) (bs : List ℕ) (place : ℕ) → is_text c.kind ≡ true → outcome edition c bs ≡ refused (refusal BREAKS_ANNOTATION place) → Stops bs place × (place < length bs)
text_stops edition c bs place text e =
    let r = refuses edition c bs BREAKS_ANNOTATION place e in
    let lawful = r.lawful refl in
    let at : place ≡ valid_up_to bs = r.placed refl ∙ text_place_lem edition c bs lawful text in
    let short = eqb-false (valid_up_to bs) (length bs) (sym (text_keeps edition c bs lawful text) ∙ r.broken refl) in
    let stops = subst (Stops bs) (sym at) (valid_up_to_stops bs) in
    (stops, omega (arith, stops.within, short, at))

-- and 0 is the place of every other 16, and of every other refusal
pub other_place : (edition : ℕ) (c : ColumnType) (bs : List ℕ) (number place : ℕ) → outcome edition c bs ≡ refused (refusal number place) → ((number ≡ BREAKS_ANNOTATION) × (is_text c.kind ≡ true) → ⊥) → place ≡ 0
unfolding annotation_place
other_place edition c bs number place e h = by_number (eqb number BREAKS_ANNOTATION) refl
  where
    r : Refuses edition c bs number place
    r = refuses edition c bs number place e

    no_text : (f t : Bool) → (t ≡ true → ⊥) → cond f (cond t (valid_up_to bs) 0) 0 ≡ 0
    no_text false t k = refl
    no_text true true k = absurd (k refl)
    no_text true false k = refl

    by_number : (b : Bool) → eqb number BREAKS_ANNOTATION ≡ b → place ≡ 0
    by_number true p = let n = eqb-true number BREAKS_ANNOTATION p in r.placed n ∙ no_text (is_byte_form c) (is_text c.kind) (λ k. h (n, k))
    by_number false p = r.elsewhere (eqb-false number BREAKS_ANNOTATION p)

-- text of a lawful column that stops short of its end is refused there
pub text_refused : (edition : ℕ) (c : ColumnType) (bs : List ℕ) (place : ℕ) → is_lawful edition c ≡ true → is_text c.kind ≡ true → length bs ≤ most_bytes → Stops bs place → place < length bs → outcome edition c bs ≡ refused (refusal BREAKS_ANNOTATION place)
unfolding outcome read_of
text_refused edition c bs place lawful text most stops short =
    let at : valid_up_to bs ≡ place = stops_unique (valid_up_to_stops bs) stops in
    let broken : keeps c bs ≡ false = text_keeps edition c bs lawful text ∙ ne_eqb (valid_up_to bs) (length bs) (λ e. omega (arith, e, at, short)) in
    rw (lawful, text_right edition c bs lawful text most, broken, text_place_lem edition c bs lawful text, at)
