-- The three demands hold. Each part cites the law of the layer that shows it.
use Prim.Native.Nat.{ℕ}
use Rattle.logical_type.proofs.ConversionLaws.{backward_forward, forward_backward, forward_not_map_key_value}
use Rattle.tree.proofs.TreeOfLaws.{six_five_or_tree, tree_neither, tree_refusal_tree}
use Rattle.schema.proofs.DemandLaws as demand
use Rattle.schema.proofs.RewriteLaws.{rewrite_kept}
use Rattle.schema.proofs.RowKindLaws.{rows_kinds}
use Rattle.schema.proofs.RewriteDemandLaws as rewriting
use Rattle.schema.proofs.RowRoleLaws.{roles_exactly}
use Rattle.schema.proofs.WrittenBackLaws.{written_back, key_value_bare}
use Rattle.differences.proofs.OutputLaws as compared
use Rattle.decimal_bytes.proofs.FitLaws.{fit_of_exactly}
use Rattle.utf8.proofs.ValidLaws.{valid_up_to_length}
use Rattle.column.proofs.PromiseLaws as value
use Rattle.column_order.proofs.PromiseLaws as ordered
use Rattle.column_type.proofs.LawfulLaws.{lawful_exactly, unlawful_exactly}
use Rattle.column_order.proofs.OrderLaws as order
use Rattle.timestamp.proofs.CountLaws.{decodes_some, decodes_one, encoding_decoded, decoding_encoded}
use Rattle.timestamp.proofs.RefusalLaws.{refused_20, refused_18, refused_19}
use mathlib.Core.Path.{◌≡◌, refl, subst}
use mathlib.Core.Bool.{true, false}
use mathlib.Core.List.{List, []}
use mathlib.Core.Option.{some}
use lib.IntN.{ℤ}
use lib.ListN.{length, get_or}
use Rattle.parquet.specs.Converted as converted
use Rattle.logical_type.specs.Backward.{backward_of}
use Rattle.logical_type.specs.declared.types.LogicalType.{LogicalType}
use Rattle.logical_type.specs.declared.types.Annotation.{Annotation}
use Rattle.tree.specs.Tree.{SlotBytes}
use Rattle.schema.specs.Rows.{rows}
use Rattle.schema.specs.Roles.{ascent, is_under_map}
use Rattle.schema.specs.Demand.{kind_in, ResolvesTo}
use Rattle.schema.proofs.ResolvesLaws.{node_resolves}
use Rattle.logical_type.specs.declared.types.TimeUnit.{TimeUnit}
use Rattle.refusal.specs.Outcome.{Outcome, given}
use Rattle.timestamp.specs.Outcomes.{Decodes}
use Rattle.timestamp.specs.declared.fields.Fields.{Fields}
use Rattle.timestamp.specs.Units.{unit_of}
use Rattle.c_values.specs.Values.{reading}
use Rattle.int96.proofs.ValueLaws as int96
use Rattle.c_timestamps.specs.Timestamps.{encoding}
use Rattle.c_timestamps.specs.Int96.{from_int96}
use Rattle.c_boxes.proofs.PromiseLaws as c_boxes
use Rattle.griffeljol.proofs.PromiseLaws.{promised}
use Rattle.demands.proofs.RefusalLaws as sheets
use Rattle.demands.proofs.ValueRefusalLaws as values
use Rattle.demands.proofs.BoxLaws as box
use Rattle.demands.specs.Demand1.{Demand1}
use Rattle.demands.specs.Demand2.{Demand2}
use Rattle.demands.specs.Demand3.{Demand3}
use Rattle.sheet_reader.specs.Reading.{opened_on}
use Rattle.sheet_reader.proofs.ReaderLaws.{steps_handouts, steps_all, moved_by_sheet, moved_by_opened}
use Rattle.demands.specs.Reader.{Reader}

-- MAP_KEY_VALUE alone, as the table has it
map_key_value_lem : (backward_of converted.MAP_KEY_VALUE true ≡ Annotation.Plain) × (backward_of converted.MAP_KEY_VALUE false ≡ Annotation.Logical LogicalType.Map)
unfolding backward_of
map_key_value_lem = (refl, refl)

-- one set of fields for a count
decodes_fields : (unit : TimeUnit) (count : ℤ) (f g : Fields) → Decodes (some unit) count (given f) → Decodes (some unit) count (given g) → f ≡ g
decodes_fields unit count f g p q =
    let same : ◌≡◌ {A = Outcome Fields} (given f) (given g) = decodes_one (some unit) count (given f) (given g) p q in
    cc

pub demand1 : (edition : ℕ) → Demand1 edition
demand1 edition =
    record {
      chosen =
          record {
            opening = sheets.opening_first edition;
            judging = sheets.judging_first edition;
            resolving = sheets.resolving_first edition;
            rewriting = sheets.rewriting_first edition;
            comparing = sheets.comparing_first edition;
            slot_resolving = sheets.slot_first edition;
            slot_rewriting = sheets.slot_rewriting_first edition;
            typing = values.typing_first edition;
            reading = values.reading_first edition;
            ordering = values.ordering_first edition;
            decoding = values.decoding_first;
            decoding_one = λ unit count o o'. decodes_one (unit_of unit) count o o';
            encoding = values.encoding_first;
            in_day_lem = values.in_day_first;
            from_int96_lem = values.from_int96_first;
            to_int96 = values.to_int96_first;
            boxing = box.boxing_first;
            testing = box.testing_first;
            rows_text_lem = sheets.rows_text_first;
            answer_rows = sheets.answer_rows_first;
            answer_refusal = sheets.answer_refusal_first;
            c_reading = values.c_reading_first edition;
            c_decoding = values.c_decoding_first;
            c_encoding = values.c_encoding_first;
            c_from_int96 = values.c_from_int96_first;
            c_boxing = box.c_boxing_first;
          };
      unchanged =
          record {
            rows = demand.refused_unchanged edition;
            output = rewrite_kept edition;
            differences = compared.refused_unchanged edition;
            int96_value = int96.refused_unchanged;
            text_buffer = sheets.text_left;
            c_value = λ c bs lent. values.refused_left (reading edition c bs (length lent)) lent;
            c_count = λ unit numbers lent. values.refused_left (encoding unit numbers (length lent)) lent;
            c_int96_count = λ value lent. values.refused_left (from_int96 value (length lent)) lent;
            c_fields = values.fields_left;
            c_box = λ kind coordinates lent held answered. (c_boxes.promised).box_unchanged kind coordinates lent answered held;
            c_interface = promised;
          };
    }

pub demand2 : (edition : ℕ) → Demand2 edition
demand2 edition =
    record {
      resolving =
          record {
            backward_forward = backward_forward;
            forward_backward = forward_backward;
            never_map_key_value = forward_not_map_key_value;
            map_key_value_lem = map_key_value_lem;
            resolves = λ sheet t h k l. subst (λ (ss : List SlotBytes). ResolvesTo (is_under_map (ascent t k)) (get_or ss k []) (kind_in (rows t) k)) h.lists (node_resolves edition t h.keeps k l);
            rows_kinds = rows_kinds;
          };
      rewriting =
          record {
            accepts = rewriting.rewriting_accepts edition;
            lawful = rewriting.rewritten_lawful edition;
            same_outcome = rewriting.rewritten_outcome edition;
            same_rows = rewriting.rewritten_rows edition;
            again = rewriting.rewritten_rewritten edition;
            written_back = written_back edition;
            key_value_layer = key_value_bare edition;
            copied = rewriting.rewritten_copied;
            stretch = rewriting.stretch_is edition;
            before = rewriting.stretch_before edition;
            after = rewriting.stretch_after edition;
          };
      values =
          record {
            lawful_exactly = lawful_exactly edition;
            unlawful_exactly = unlawful_exactly edition;
            refused_unlawful = value.refused_unlawful edition;
            wrong_length_lem = value.wrong_length_lem edition;
            boolean = value.truth_held edition;
            unsigned = value.unsigned_held edition;
            signed = value.signed_held edition;
            time = value.time_held edition;
            decimal = value.decimal_whole_held edition;
            decimal_bytes = value.decimal_bytes_held edition;
            text = value.text_held edition;
            text_exactly = valid_up_to_length;
            fits_exactly = fit_of_exactly;
            unknown = value.unknown_refused edition;
            any_whole = value.any_whole edition;
            any_float = value.any_float edition;
            any_double = value.any_double edition;
            any_int96 = value.any_int96 edition;
            any_bytes = value.any_bytes edition;
          };
      ordering =
          record {
            given_exactly = ordered.given_exactly edition;
            no_order = ordered.no_order_exactly edition;
            has_order_lem = λ c. (ordered.no_order_tested c, ordered.tested_no_order c);
            signed = ordered.signed_order_lem edition;
            unsigned = ordered.unsigned_order_lem edition;
            boolean = ordered.truth_order_lem edition;
            decimal_bytes = ordered.decimal_bytes_order edition;
            decimals = ordered.decimals_order edition;
            bytes = ordered.bytes_order_lem edition;
            float = ordered.float_order_lem edition;
            double = ordered.double_order_lem edition;
            float_unordered = ordered.float_unordered edition;
            double_unordered = ordered.double_unordered edition;
            order_turned = order.order_turned edition;
            order_trans = order.order_trans edition;
            order_antisym = order.order_antisym edition;
            order_total = order.order_total edition;
          };
      timestamps =
          record {
            decodes = decodes_some;
            decodes_one = decodes_fields;
            unknown_unit_lem = refused_20;
            no_date_time_lem = refused_18;
            not_representable_lem = refused_19;
            decoded_encodes = encoding_decoded;
            encoded_decodes = decoding_encoded;
          };
    }

pub reader : (edition : ℕ) → Reader edition
reader edition =
    record {
      handed_out = steps_handouts edition;
      all_handed_out = steps_all edition;
      held = λ sheet n. moved_by_sheet n (opened_on edition sheet);
      found = λ sheet n. moved_by_opened n (opened_on edition sheet);
    }

pub demand3 : (edition : ℕ) → Demand3 edition
demand3 edition =
    record {
      accepted_exactly = demand.accepted_exactly edition;
      one_tree = demand.one_tree edition;
      rows_are = demand.rows_are edition;
      rows_length = demand.rows_length edition;
      roles =
          λ sheet t h k l.
          let exactly = roles_exactly edition t h.keeps k l in
          record {
            field = exactly 0;
            list_layer = exactly 1;
            element = exactly 2;
            element_layer = exactly 3;
            key_value_layer = exactly 4;
            key = exactly 5;
            value = exactly 6;
            bare_repeated = exactly 7;
          };
      sound_exactly = demand.sound_exactly edition;
      six_five_or_tree = six_five_or_tree;
      tree_neither = tree_neither;
      seven_to_thirteen = tree_refusal_tree edition;
    }
