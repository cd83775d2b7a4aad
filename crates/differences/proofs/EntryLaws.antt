-- The bytes of a list of entries: each has its 148, one behind the other, and the entries are read back from them.
use Prim.Native.Nat.{ℕ, zero, suc, ◌+◌, ◌*◌, ◌-◌, ◌/◌, ◌%◌, ◌^◌, ◌<◌}
use mathlib.Core.Path.{◌≡◌, refl, ap, ap₂, ◌∙◌}
use mathlib.Core.List.{List, [], ◌∷◌, ◌++◌, append_assoc, map}
use mathlib.Core.Option.{some, some_inj, none-ne-some}
use native.Mathlib.Omega.{arith}
use lib.ListN.{length, take, drop, replicate, get_elem?, length-append}
use lib.Seq.{take_at, drop_at, drop-append-add}
use Rattle.laws.specs.Bytes.{little, bytes_of}
use Rattle.sheet.specs.Block.{slot_size}
use Rattle.tree.specs.Tree.{SlotBytes}
use Rattle.differences.specs.Entry.{SlotField, slot_fields, Entry, filled, entry, entry_size, entry_bytes, list_bytes, entry_in, entries_in}
use Rattle.differences.specs.Differences.{content}

-- ---- entries that bytes can hold

-- its code takes a byte, its number two, its contents 72 each
pub record Fits (e : Entry) : Type 0 where
  pub code : e.code < 256
  pub number : e.number < 256 ^ 2
  pub first : length e.first ≡ slot_size
  pub second : length e.second ≡ slot_size

-- each of some entries does
unfoldable pub AllFit : List Entry → Type 0
AllFit [] = Unit {0}
AllFit (e ∷ es) = Fits e × AllFit es

module _ (e : Entry) (fits : Fits e) where
  -- it has 148 bytes
  pub length_entry : length (entry_bytes e) ≡ entry_size
  unfolding entry_bytes bytes_of
  length_entry = omega (arith, length-append e.first e.second, fits.first, fits.second)

  -- its contents are read behind its first bytes
  first_read : (rest : List ℕ) → take slot_size (e.first ++ e.second ++ rest) ≡ e.first
  first_read rest = rw append_assoc (take_at e.first (e.second ++ rest) slot_size fits.first)

  second_read : (rest : List ℕ) → take slot_size (drop slot_size (e.first ++ e.second ++ rest)) ≡ e.second
  second_read rest =
      rw (append_assoc, drop_at e.first (e.second ++ rest) slot_size fits.first) (take_at e.second rest slot_size fits.second)

  -- its bytes, one by one
  entry_spelled : entry_bytes e ≡ e.code ∷ 0 ∷ e.number % 256 ∷ e.number / 256 ∷ (e.first ++ e.second)
  unfolding entry_bytes bytes_of
  entry_spelled =
      let code : e.code % 256 ≡ e.code = omega (arith, fits.code) in
      let high : e.number / 256 % 256 ≡ e.number / 256 = omega (arith, fits.number) in
      rw (code, high)

  -- an entry is read from its bytes
  entry_in_entry : (rest : List ℕ) → entry_in (entry_bytes e ++ rest) ≡ e
  unfolding entry_in entry_bytes bytes_of little
  entry_in_entry rest =
      let code : e.code % 256 ≡ e.code = omega (arith, fits.code) in
      let number : e.number % 256 + 256 * (e.number / 256 % 256 + 256 * 0) ≡ e.number = omega (arith, fits.number) in
      λ i. record { code = code i; number = number i; first = first_read rest i; second = second_read rest i }

-- ---- a list

-- each of its entries fits
pub fits_at : (es : List Entry) → AllFit es → (i : ℕ) {e : Entry} → get_elem? es i ≡ some e → Fits e
unfolding AllFit
fits_at [] h i {e} at = absurd (none-ne-some e at)
fits_at (d ∷ es) h zero at = rw (← (some_inj.0 at)) h.0
fits_at (d ∷ es) h (suc i) at = fits_at es h.1 i at

-- and stands at its place
entry_at : (es : List Entry) → AllFit es → (i : ℕ) {e : Entry} → get_elem? es i ≡ some e → (rest : List ℕ)
    → take entry_size (drop (entry_size * i) (list_bytes es ++ rest)) ≡ entry_bytes e
unfolding AllFit list_bytes
entry_at [] h i {e} at rest = absurd (none-ne-some e at)
entry_at (d ∷ es) h zero at rest =
    ap (take entry_size) (append_assoc (entry_bytes d) (list_bytes es) rest)
    ∙ take_at (entry_bytes d) (list_bytes es ++ rest) entry_size (length_entry d h.0)
    ∙ ap entry_bytes (some_inj.0 at)
entry_at (d ∷ es) h (suc i) at rest =
    let further : entry_size * suc i ≡ length (entry_bytes d) + entry_size * i = omega (arith, length_entry d h.0) in
    rw (further, append_assoc, drop-append-add) (entry_at es h.1 i at rest)

pub entry_spelled_at : (es : List Entry) → AllFit es → (i : ℕ) {e : Entry} → get_elem? es i ≡ some e → (rest : List ℕ)
    → take entry_size (drop (entry_size * i) (list_bytes es ++ rest)) ≡ e.code ∷ 0 ∷ e.number % 256 ∷ e.number / 256 ∷ (e.first ++ e.second)
entry_spelled_at es h i {e} at rest = entry_at es h i at rest ∙ entry_spelled e (fits_at es h i at)

-- a list has as many bytes as its entries
pub length_list : (es : List Entry) → AllFit es → length (list_bytes es) ≡ entry_size * length es
unfolding AllFit list_bytes
length_list [] h = refl
length_list (e ∷ es) h = length-append (entry_bytes e) (list_bytes es) ∙ omega (arith, length_entry e h.0, length_list es h.1)

-- its entries are read one behind the other
entries_in_list : (es : List Entry) → AllFit es → entries_in (length es) (list_bytes es) ≡ es
unfolding AllFit list_bytes entries_in
entries_in_list [] h = refl
entries_in_list (e ∷ es) h =
    ap₂ (λ (x : Entry) (xs : List Entry). x ∷ xs) (entry_in_entry e h.0 (list_bytes es))
    (ap (entries_in (length es)) (drop_at (entry_bytes e) (list_bytes es) entry_size (length_entry e h.0)) ∙ entries_in_list es h.1)

-- the entries of a list's bytes are the list's
pub entries_in_list_bytes : (es : List Entry) → AllFit es → entries_in (length (list_bytes es) / entry_size) (list_bytes es) ≡ es
entries_in_list_bytes es h =
    ap (λ (n : ℕ). entries_in n (list_bytes es)) {x = length (list_bytes es) / entry_size} {y = length es} (omega (arith, length_list es h)) ∙ entries_in_list es h

-- ---- what an entry has

-- each side zero-filled
pub sides_filled : (code number : ℕ) (a b : List ℕ)
    → entry code number a b ≡ record { code = code; number = number; first = a ++ replicate (72 - length a) 0; second = b ++ replicate (72 - length b) 0 }
unfolding filled
sides_filled code number a b = refl

-- the fields of a slot: their codes, their widths, and where they stand
pub field_codes : map (λ (f : SlotField). f.code) slot_fields ≡ 0 ∷ 1 ∷ 2 ∷ 3 ∷ 4 ∷ 5 ∷ 6 ∷ 8 ∷ 12 ∷ 16 ∷ 20 ∷ 24 ∷ []
unfolding slot_fields
field_codes = refl

pub field_widths : map (λ (f : SlotField). f.width) slot_fields ≡ 1 ∷ 1 ∷ 1 ∷ 1 ∷ 1 ∷ 1 ∷ 2 ∷ 4 ∷ 4 ∷ 4 ∷ 1 ∷ 48 ∷ []
unfolding slot_fields
field_widths = refl

pub field_contents : (f : SlotField) (s : SlotBytes) → content f s ≡ take f.width (drop f.code s)
unfolding content
field_contents f s = refl
