-- The promises of calls on timestamps hold.
use Prim.Native.Nat.{ℕ, ◌<◌}
use mathlib.Core.Path.{◌≡◌, sym, ◌∙◌}
use mathlib.Core.List.{List}
use native.Mathlib.Omega.{arith}
use lib.IntN.{ℤ}
use lib.ListN.{length}
use Rattle.refusal.specs.Numbers.{UNKNOWN_TYPE}
use Rattle.refusal.specs.Outcome.{Outcome, given, refused}
use Rattle.timestamp.specs.Units.{unit_of}
use Rattle.timestamp.specs.declared.fields.Fields.{Fields}
use Rattle.int96.specs.Value.{VALUE_BYTES}
use Rattle.int96.specs.Outcomes as int96
use Rattle.int96.proofs.ValueLaws.{refused_unchanged}
use Rattle.c_answer.specs.Answers.{RESULT, number_in, counted_answer}
use Rattle.c_answer.specs.Packing.{PacksCounted, PacksEffect}
use Rattle.c_answer.proofs.PackingLaws.{result_packs, refusal_packs, counted_packs, short_packs, counted_refused, unchanged}
use Rattle.c_timestamps.specs.Promises.{Promises}
use Rattle.c_timestamps.specs.Timestamps.{decode_effect, Decoding, encoding_of, encode_effect, encoding}
use Rattle.c_timestamps.specs.Int96.{from_int96}
use Rattle.c_timestamps.proofs.BoundLaws.{OutcomeBounded, decoded_bounded, encoded_bounded}
use Rattle.c_timestamps.proofs.Int96Laws.{from_bounded, to_bounded}

decoded_packs : (o : Outcome Fields) → OutcomeBounded o → PacksEffect (decode_effect o)
decoded_packs (given f) b = result_packs 7 (omega arith)
decoded_packs (refused r) b = refusal_packs UNKNOWN_TYPE 0 (omega arith) (omega arith) r b

encoded_packs : (o : Outcome ℤ) → OutcomeBounded o → PacksEffect (encode_effect o)
encoded_packs (given z) b = result_packs 1 (omega arith)
encoded_packs (refused r) b = refusal_packs UNKNOWN_TYPE 0 (omega arith) (omega arith) r b

decode_one : (unit : ℕ) (count : ℤ) (lent : List ℤ) (r s : ℕ) (k l : List ℤ) → Decoding unit count lent r k → Decoding unit count lent s l → (r ≡ s) × (k ≡ l)
decode_one unit count lent r s k l d e =
    let o = d.some_outcome.0 in
    let p = d.some_outcome.1 in
    (d.every_answer o p ∙ sym (e.every_answer o p), d.every_left o p ∙ sym (e.every_left o p))

-- ---- INT96 values

from_int96_packs : (value : List ℕ) (lent : ℕ) → PacksEffect (from_int96 value lent)
unfolding from_int96
from_int96_packs value lent = short_packs lent (encode_effect (int96.decoding value)) (encoded_packs (int96.decoding value) (from_bounded value))

to_int96_packs : (lent : ℕ) → PacksCounted (int96.encoding lent)
to_int96_packs lent = counted_packs VALUE_BYTES UNKNOWN_TYPE 0 (omega arith) (omega arith) (omega arith) (int96.encoding lent) (to_bounded lent)

to_int96_unchanged : (count : ℤ) (lent : List ℕ) → RESULT < number_in (counted_answer (int96.encoding (length lent))) → int96.encoded count lent ≡ lent
to_int96_unchanged count lent h =
    let refusal = counted_refused (int96.encoding (length lent)) (to_int96_packs (length lent)) h in
    refused_unchanged count lent refusal.0 refusal.1

pub promised : Promises
unfolding encoding
promised =
    record {
      decode_packs = λ unit count lent o d. short_packs lent (decode_effect o) (decoded_packs o (decoded_bounded (unit_of unit) count o d));
      encode_packs = λ unit numbers lent. short_packs lent (encode_effect (encoding_of (unit_of unit) numbers)) (encoded_packs (encoding_of (unit_of unit) numbers) (encoded_bounded (unit_of unit) numbers));
      from_int96_packs = from_int96_packs;
      to_int96_packs = to_int96_packs;
      decode_one = decode_one;
      from_int96_unchanged = λ value lent. unchanged (from_int96 value (length lent)) lent (from_int96_packs value (length lent));
      to_int96_unchanged = to_int96_unchanged;
    }
