-- The fields of two slots, as they are compared one after the other, and two places.
use mathlib.Core.Path.{◌≡◌, refl, sym, ap, ap₂, ◌∙◌}
use mathlib.Core.Bool.{true, false, cond}
use mathlib.Core.List.{List, [], ◌∷◌, ◌++◌}
use Prim.Native.Nat.{ℕ, ◌+◌, ◌-◌, ◌≤◌, ◌<◌}
use native.Mathlib.Numerals.{add-one}
use native.Mathlib.Omega.{arith}
use lib.ListN.{length, get_or, take, drop, length-take, length-drop, drop_of_length-le}
use lib.Seq.{drop-cons}
use borrow.Author.Tests.{eq-eqb, ne_eqb}
use Rattle.std.specs.Int.{to_le_bytes}
use Rattle.std.proofs.Common.{w16}
use Rattle.laws.specs.Bytes.{bytes_of}
use Rattle.laws.proofs.BoolLaws.{by_test}
use Rattle.sheet.specs.Block.{slot_size}
use Rattle.sheet.specs.Name.{same_bytes}
use Rattle.sheet.proofs.NameLaws.{same_bytes_equal, same_bytes_true}
use Rattle.tree.specs.Tree.{SlotBytes}
use Rattle.matching.specs.declared.fields.Match.{Match}
use Rattle.differences.specs.Entry.{SlotField, slot_fields, Entry, entry, PLACES}
use Rattle.differences.specs.Differences.{content, field_entries, place_entries}
use Rattle.differences.specs.Steps.{Puts, field_of}
use Rattle.differences.specs.declared.fields.Field.{Field}
use Rattle.differences.proofs.TableLaws.{no_field}
use Rattle.differences.proofs.PutLaws.{Putting, putting_start, putting_next, putting_end}

-- a field's content, as a part of the code
pub content_part : (f : Field) (s : SlotBytes) → take (f.code + f.width - f.code) (drop f.code s) ≡ content (field_of f) s
unfolding content
content_part f s =
    let wide : f.code + f.width - f.code ≡ f.width = omega arith in
    ap (λ (n : ℕ). take n (drop f.code s)) wide

pub length_part : (f : Field) (s : SlotBytes) → length s ≡ slot_size → f.code + f.width ≤ slot_size → length (take (f.code + f.width - f.code) (drop f.code s)) ≡ f.width
length_part f s long h = simp (length-take, length-drop) (omega arith)

-- the entry of a field, where the contents are the same or not
abbrev pub field_entry : ℕ → SlotBytes → SlotBytes → SlotField → List Entry
field_entry k s u f = cond (same_bytes (content f s) (content f u)) [] (entry f.code k (content f s) (content f u) ∷ [])

module _ (f : Field) (k : ℕ) (s u : SlotBytes) where
  abbrev part : SlotBytes → List ℕ
  part x = take (f.code + f.width - f.code) (drop f.code x)

  both_parts : same_bytes (part s) (part u) ≡ same_bytes (content (field_of f) s) (content (field_of f) u)
  both_parts = ap₂ same_bytes (content_part f s) (content_part f u)

  pub field_alike : same_bytes (part s) (part u) ≡ true → field_entry k s u (field_of f) ≡ []
  field_alike e = rw (sym both_parts ∙ e)

  pub field_unlike : same_bytes (part s) (part u) ≡ false → field_entry k s u (field_of f) ≡ entry f.code k (part s) (part u) ∷ []
  field_unlike e = rw (sym both_parts ∙ e) (ap₂ (λ (a b : List ℕ). entry f.code k a b ∷ []) (sym (content_part f s)) (sym (content_part f u)))

module _ (k : ℕ) (s u : SlotBytes) where
  -- a field, and those behind it
  pub fields_next : (i : ℕ) → i < length slot_fields → (f : SlotField) → f ≡ get_or slot_fields i no_field
      → field_entries k s u (drop i slot_fields) ≡ field_entry k s u f ++ field_entries k s u (drop (i + 1) slot_fields)
  unfolding field_entries
  fields_next i h f e = ap (field_entries k s u) (drop-cons slot_fields i no_field h) ∙ rw (← e, add-one)

  pub fields_end : (i : ℕ) → length slot_fields ≤ i → field_entries k s u (drop i slot_fields) ≡ []
  unfolding field_entries
  fields_end i h = ap (field_entries k s u) (drop_of_length-le slot_fields h)

-- slots that are the same differ in no field
pub fields_same : (k : ℕ) (s u : SlotBytes) → same_bytes s u ≡ true → (fs : List SlotField) → field_entries k s u fs ≡ []
unfolding field_entries
fields_same k s u e [] = refl
fields_same k s u e (f ∷ fs) = rw (same_bytes_true (content f s) (content f u) (ap (content f) (same_bytes_equal s u e))) (fields_same k s u e fs)

pub twelve_fields : length slot_fields ≡ 12
unfolding slot_fields
twelve_fields = refl

module _ (k : ℕ) (m : Match) where
  pub places_alike : m.place ≡ m.other → place_entries k m ≡ []
  unfolding place_entries
  places_alike e = rw (eq-eqb m.place m.other e)

  pub places_unlike : (m.place ≡ m.other → ⊥) → (a b : List ℕ) → a ≡ to_le_bytes w16 m.place → b ≡ to_le_bytes w16 m.other → place_entries k m ≡ entry PLACES k a b ∷ []
  unfolding place_entries bytes_of
  places_unlike n a b e d = rw (ne_eqb m.place m.other n, e, d)

-- an entry at most
pub field_most : (k : ℕ) (s u : SlotBytes) (f : SlotField) → length (field_entry k s u f) ≤ 1
field_most k s u f =
    by_test (same_bytes (content f s) (content f u)) (λ e. rw e (omega arith)) (λ e. rw e (omega arith))

-- fields that are passed, of two slots, and what is put for them
pub record FieldsPut (k : ℕ) (s u : SlotBytes) (out₀ : List ℕ) (n₀ : ℕ) (out : List ℕ) (n i : ℕ) : Type 0 where
  pub most : i ≤ 12
  pub few : n ≤ n₀ + i
  pub long : length out ≡ length out₀
  pub putting : Putting out₀ n₀ (field_entries k s u slot_fields) out n (field_entries k s u (drop i slot_fields))

module _ (k : ℕ) (s u : SlotBytes) (out₀ : List ℕ) (n₀ : ℕ) where
  pub fields_put_start : FieldsPut k s u out₀ n₀ out₀ n₀ 0
  fields_put_start = record { most = omega arith; few = omega arith; long = refl; putting = putting_start out₀ n₀ (field_entries k s u slot_fields) }

  module _ (out : List ℕ) (n i : ℕ) (p : FieldsPut k s u out₀ n₀ out n i) where
    pub fields_put_next : i < 12 → (f : SlotField) → f ≡ get_or slot_fields i no_field → (held : List ℕ) (m : ℕ) → length held ≡ length out → Puts out n (field_entry k s u f) held m → FieldsPut k s u out₀ n₀ held m (i + 1)
    fields_put_next h f e held m long q = record {
      most = omega (arith, h);
      few = omega (arith, p.few, q.counts, field_most k s u f);
      long = long ∙ p.long;
      putting = putting_next out₀ n₀ (field_entries k s u slot_fields) out n (field_entries k s u (drop i slot_fields)) p.putting
          (field_entry k s u f) (field_entries k s u (drop (i + 1) slot_fields)) (fields_next k s u i (omega (arith, h, twelve_fields)) f e) held m q;
    }

    pub fields_put_end : 12 ≤ i → Puts out₀ n₀ (field_entries k s u slot_fields) out n
    fields_put_end h = putting_end out₀ n₀ (field_entries k s u slot_fields) out n (field_entries k s u (drop i slot_fields)) p.putting (fields_end k s u i (omega (arith, h, twelve_fields)))
