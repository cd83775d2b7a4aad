-- A slot with each field of another that is listed: it is that other slot.
use Prim.Native.Nat.{ℕ, ◌+◌, ◌-◌, ◌≤◌}
use mathlib.Core.Path.{◌≡◌, refl, sym, ap, ap₂, ◌∙◌}
use mathlib.Core.Bool.{cond}
use mathlib.Core.List.{List, [], ◌∷◌, ◌++◌, append_assoc, append-nil}
use native.Mathlib.Nat.{sub_self}
use native.Mathlib.Omega.{arith}
use lib.Dec.{eqb}
use lib.ListN.{length, take, drop, replicate, length-drop, take-append-drop, drop_of_length-le}
use lib.Seq.{length-take-le, take_all, take_at, drop_at, drop-drop, take-add}
use Rattle.laws.specs.Stretches.{stretched}
use Rattle.laws.proofs.BoolLaws.{by_test}
use Rattle.laws.proofs.StretchLaws.{stretched_none}
use Rattle.sheet.specs.Block.{slot_size}
use Rattle.sheet.specs.Slot.{physical_at, repetition_at, converted_at, logical_at, parameter_a_at, parameter_b_at, child_count_at, type_length_at, scale_at, precision_at, name_length_at, reserved_at, name_at}
use Rattle.sheet.specs.Name.{same_bytes}
use Rattle.sheet.proofs.NameLaws.{same_bytes_equal}
use Rattle.tree.specs.Tree.{SlotBytes}
use Rattle.matching.specs.declared.fields.Match.{Match}
use Rattle.differences.specs.Entry.{SlotField, slot_fields, Entry, entry, filled, PLACES}
use Rattle.differences.specs.Differences.{content, field_entries, place_entries}
use Rattle.differences.specs.Rebuilding.{width_in, slot_by}

-- entries one behind the other
slot_by_append : (s : SlotBytes) (es fs : List Entry) → slot_by s (es ++ fs) ≡ slot_by (slot_by s es) fs
unfolding slot_by
slot_by_append s [] fs = refl
slot_by_append s (e ∷ es) fs = slot_by_append (stretched s e.code (take (width_in slot_fields e.code) e.second)) es fs

-- places change no slot
slot_by_places : (s : SlotBytes) (k : ℕ) (m : Match) → slot_by s (place_entries k m) ≡ s
unfolding slot_by place_entries width_in slot_fields
slot_by_places s k m = by_test (eqb m.place m.other) (λ e. rw e) (λ e. rw e (stretched_none s PLACES))

-- ---- a slot that has another's bytes up to some

module _ (s v : SlotBytes) (long : length s ≡ slot_size) (whole : length v ≡ slot_size) where
  -- the second's bytes up to `at`, the first's from there on
  mixed : ℕ → SlotBytes
  mixed at = take at v ++ drop at s

  -- where the next bytes are the same, the second's reach so much further
  mixed_same : (at n : ℕ) → take n (drop at s) ≡ take n (drop at v) → mixed at ≡ mixed (at + n)
  unfolding mixed
  mixed_same at n e =
      ap (λ (l : List ℕ). take at v ++ l) (sym (take-append-drop n (drop at s)) ∙ ap₂ ◌++◌ e (drop-drop n at s))
      ∙ sym (append_assoc (take at v) (take n (drop at v)) (drop (at + n) s))
      ∙ ap (λ (l : List ℕ). l ++ drop (at + n) s) (sym (take-add at n v))

  -- and so they do where the second's are put there
  mixed_next : (at n : ℕ) → at + n ≤ slot_size → stretched (mixed at) at (take n (drop at v)) ≡ mixed (at + n)
  unfolding mixed stretched
  mixed_next at n h =
      let front : length (take at v) ≡ at = length-take-le at v (omega arith) in
      let part : length (take n (drop at v)) ≡ n = length-take-le n (drop at v) (omega (arith, length-drop at v)) in
      ap₂ ◌++◌
      (ap (λ (l : List ℕ). l ++ take n (drop at v)) (take_at (take at v) (drop at s) at front) ∙ sym (take-add at n v))
      (ap (λ (m : ℕ). drop (at + m) (mixed at)) part
      ∙ sym (drop-drop n at (mixed at))
      ∙ ap (drop n) (drop_at (take at v) (drop at s) at front)
      ∙ drop-drop n at s)

  -- a field's width is its own, it lies in the slot, and up to it the slots are the same
  record Next (at : ℕ) (f : SlotField) : Type 0 where
    wide : width_in slot_fields f.code ≡ f.width
    within : f.code + f.width ≤ slot_size
    behind : at ≤ f.code
    same : take (f.code - at) (drop at s) ≡ take (f.code - at) (drop at v)

  -- fields, one behind the other, up to the slot's end
  abbrev Cover : ℕ → List SlotField → Type 0
  Cover at [] = at ≡ slot_size
  Cover at (f ∷ fs) = Next at f × Cover (f.code + f.width) fs

  -- what is listed of a field
  abbrev listed : ℕ → SlotField → List Entry
  listed k f = cond (same_bytes (content f s) (content f v)) [] (entry f.code k (content f s) (content f v) ∷ [])

  module _ (k : ℕ) (f : SlotField) (at : ℕ) (next : Next at f) where
    -- up to a field the slots are the same
    reached : mixed at ≡ mixed f.code
    reached = mixed_same at (f.code - at) next.same ∙ ap mixed {x = at + (f.code - at)} {y = f.code} (omega (arith, next.behind))

    -- a field lies in the slot, whole
    content_length : length (content f v) ≡ f.width
    unfolding content
    content_length = length-take-le f.width (drop f.code v) (omega (arith, next.within, length-drop f.code v))

    -- the second's content is read from what is listed
    content_read : take (width_in slot_fields f.code) (filled (content f v)) ≡ content f v
    unfolding filled
    content_read =
        ap (λ (n : ℕ). take n (filled (content f v))) next.wide
        ∙ take_at (content f v) (replicate (slot_size - length (content f v)) 0) f.width content_length

    -- a field's content is put into the slot, or stands there already
    slot_by_field : slot_by (mixed at) (listed k f) ≡ mixed (f.code + f.width)
    unfolding slot_by content
    slot_by_field = by_test (same_bytes (content f s) (content f v))
        (λ e. rw e (reached ∙ mixed_same f.code f.width (same_bytes_equal (content f s) (content f v) e)))
        (λ e. rw e
        (ap₂ (λ (x l : List ℕ). stretched x f.code l) reached content_read ∙ mixed_next f.code f.width next.within))

  -- all contents put into the slot, the second's
  slot_by_fields : (k : ℕ) (fs : List SlotField) (at : ℕ) → Cover at fs → slot_by (mixed at) (field_entries k s v fs) ≡ v
  unfolding field_entries mixed slot_by
  slot_by_fields k [] at cover = rw (cover, take_all slot_size v (omega arith), drop_of_length-le s {i = slot_size} (omega arith)) (append-nil v)
  slot_by_fields k (f ∷ fs) at cover =
      slot_by_append (mixed at) (listed k f) (field_entries k s v fs)
      ∙ ap (λ (x : SlotBytes). slot_by x (field_entries k s v fs)) (slot_by_field k f at cover.0)
      ∙ slot_by_fields k fs (f.code + f.width) cover.1

  -- a field that starts where another ends, before others
  adjoining : {X : Type 0} (at width : ℕ) → width_in slot_fields at ≡ width → at + width ≤ slot_size → X → Next at (record { code = at; width = width }) × X
  adjoining at width e h rest = (record { wide = e; within = h; behind = omega arith; same = rw (sub_self at) }, rest)

  -- the fields of a slot cover it but for the bytes before the name
  slot_fields_cover : take (name_at - reserved_at) (drop reserved_at s) ≡ take (name_at - reserved_at) (drop reserved_at v) → Cover 0 slot_fields
  unfolding slot_fields width_in
  slot_fields_cover e =
      adjoining physical_at 1 refl (omega arith)
      (adjoining repetition_at 1 refl (omega arith)
      (adjoining converted_at 1 refl (omega arith)
      (adjoining logical_at 1 refl (omega arith)
      (adjoining parameter_a_at 1 refl (omega arith)
      (adjoining parameter_b_at 1 refl (omega arith)
      (adjoining child_count_at 2 refl (omega arith)
      (adjoining type_length_at 4 refl (omega arith)
      (adjoining scale_at 4 refl (omega arith)
      (adjoining precision_at 4 refl (omega arith)
      (adjoining name_length_at 1 refl (omega arith)
      (record { wide = refl; within = omega arith; behind = omega arith; same = e }, refl)))))))))))

  -- a slot with each field of the other that is listed, and its place
  pub slot_by_listed : take (name_at - reserved_at) (drop reserved_at s) ≡ take (name_at - reserved_at) (drop reserved_at v)
      → (k : ℕ) (m : Match) → slot_by s (field_entries k s v slot_fields ++ place_entries k m) ≡ v
  unfolding mixed
  slot_by_listed e k m =
      slot_by_append s (field_entries k s v slot_fields) (place_entries k m)
      ∙ ap (λ (x : SlotBytes). slot_by x (place_entries k m)) (slot_by_fields k slot_fields 0 (slot_fields_cover e))
      ∙ slot_by_places v k m
