-- What stands in each slot of the rewritten sheet, by the kind in its node's row.
use Prim.Native.Nat.{ℕ, ◌*◌, ◌<◌, ◌≤◌}
use mathlib.Core.Path.{◌≡◌, refl, sym, ap, ◌∙◌, subst}
use mathlib.Core.Bool.{Bool, true, false, true≢false, cond}
use mathlib.Core.List.{List, [], ◌++◌}
use native.Mathlib.Omega.{arith}
use borrow.Author.Tests.{ne_eqb, eqb-true, eqb-false}
use lib.Dec.{eqb}
use lib.ListN.{length, get_or, drop}
use Rattle.laws.proofs.BoolLaws.{by_test}
use Rattle.parquet.specs.Physical.{GROUP}
use Rattle.parquet.specs.Converted as converted
use Rattle.parquet.specs.Logical as logical
use Rattle.logical_type.specs.Parameters.{UNUSED}
use Rattle.logical_type.specs.Spelling.{code_of, a_of, b_of, stated_of}
use Rattle.logical_type.specs.Forward.{image_of}
use Rattle.logical_type.specs.declared.types.LogicalType.{LogicalType}
use Rattle.logical_type.specs.declared.types.Annotation.{Annotation}
use Rattle.logical_type.proofs.SpellingLaws.{stated_spelled}
use Rattle.annotation.specs.Meaning.{annotation_of}
use Rattle.annotation.specs.Kinds.{PLAIN_LEAF, PLAIN_GROUP, bare_kind, kind_as, kind_of}
use Rattle.annotation.specs.Rewriting.{written_as, written_of}
use Rattle.annotation.specs.declared.slot.Annotated.{Annotated}
use Rattle.annotation.specs.declared.resolution.Kind.{Kind}
use Rattle.annotation.proofs.PlacementLaws.{kind_logical, code_stands, group_kind, ten_placed, group_kind_lem}
use Rattle.sheet.specs.Block.{total_of}
use Rattle.sheet.specs.Slot.{child_count_at, converted as convertedOf, logical as logicalOf, parameter_a, parameter_b, numbers_of, slot_at, slots}
use Rattle.sheet.proofs.SlotLaws.{slot_at_length, slots_at_lem}
use Rattle.tree.specs.Annotated.{annotated, kind, rule10}
use Rattle.tree.specs.Tree.{SlotBytes, Tree, listing, size}
use Rattle.tree.specs.Rules.{under_map_of, is_list, is_map}
use Rattle.tree.specs.Reading.{tree_of}
use Rattle.tree.specs.Judgement.{judgement}
use Rattle.tree.specs.declared.standing.Standing.TheVariants.{Root}
use Rattle.std.specs.Prelude.{Ok}
use Rattle.tree.proofs.TreeOfLaws.{tree_of_listing}
use Rattle.schema.specs.Rows.{KEY_VALUE_LAYER, rows, row_width, number_in}
use Rattle.schema.specs.Rewriting.{rewriting, rewritten}
use Rattle.schema.specs.Roles.{ascent, IsKeyValueLayer}
use Rattle.schema.specs.Demand.{IsTreeOf, Sound, kind_in, Bare, WithLogical, WrittenBack}
use Rattle.schema.proofs.DemandLaws.{sound_judgement, tree_accepted, size_is}
use Rattle.schema.proofs.RepeatedFieldLaws.{no_list, no_map}
use Rattle.schema.proofs.RewrittenSlotLaws.{Holds, holds_rewritten}
use Rattle.schema.proofs.RewrittenTreeLaws.{rewritten_tree, resolves}
use Rattle.schema.proofs.RewriteDemandLaws.{slots_are, total_is}
use Rattle.schema.proofs.NodeRowLaws.{NodeRow, node_row, row_kind}
use Rattle.schema.proofs.RowRoleLaws.{roles_exactly}

-- one node -------------------------------------------------------------------------------------------------------------------

-- a slot in which an annotation is written
abbrev Written : Annotation → SlotBytes → Type 0
Written says s = Holds (written_as says) s

-- no annotation
bare : (s : SlotBytes) → Written Annotation.Plain s → Bare s
bare s h = record { converted_is = h.0; logical_is = h.1; a_is = h.2; b_is = h.3 }

plain_back : (group : Bool) (s : SlotBytes) → Bare s → WrittenBack (cond group (bare_kind PLAIN_GROUP) (bare_kind PLAIN_LEAF)) s
plain_back true s b =
    record {
      plain_leaf = λ e. b;
      plain_group = λ e. b;
      interval = λ e. absurd (eqb-false PLAIN_GROUP converted.INTERVAL refl e);
      any_other = λ l g i. absurd (g refl);
    }
plain_back false s b =
    record {
      plain_leaf = λ e. b;
      plain_group = λ e. b;
      interval = λ e. absurd (eqb-false PLAIN_LEAF converted.INTERVAL refl e);
      any_other = λ l g i. absurd (l refl);
    }

-- the code of a logical type is not INTERVAL's, and only DECIMAL's has a kind with other parameters; it has none itself
no_interval : (l : LogicalType) → eqb (code_of l) converted.INTERVAL ≡ false
no_interval LogicalType.String = refl
no_interval LogicalType.Map = refl
no_interval LogicalType.List = refl
no_interval LogicalType.Enum = refl
no_interval LogicalType.Decimal = refl
no_interval LogicalType.Date = refl
no_interval (LogicalType.Time unit utc) = refl
no_interval (LogicalType.Timestamp unit utc) = refl
no_interval (LogicalType.Integer width signed) = refl
no_interval LogicalType.Unknown = refl
no_interval LogicalType.Json = refl
no_interval LogicalType.Bson = refl
no_interval LogicalType.Uuid = refl
no_interval LogicalType.Geometry = refl
no_interval (LogicalType.Geography edge) = refl

decimal_unused : (l : LogicalType) → code_of l ≡ logical.DECIMAL → (a_of l ≡ UNUSED) × (b_of l ≡ UNUSED)
decimal_unused LogicalType.String e = (refl, refl)
decimal_unused LogicalType.Map e = (refl, refl)
decimal_unused LogicalType.List e = (refl, refl)
decimal_unused LogicalType.Enum e = (refl, refl)
decimal_unused LogicalType.Decimal e = (refl, refl)
decimal_unused LogicalType.Date e = (refl, refl)
decimal_unused (LogicalType.Time unit utc) e = absurd (eqb-false logical.TIME logical.DECIMAL refl e)
decimal_unused (LogicalType.Timestamp unit utc) e = absurd (eqb-false logical.TIMESTAMP logical.DECIMAL refl e)
decimal_unused (LogicalType.Integer width signed) e = absurd (eqb-false logical.INTEGER logical.DECIMAL refl e)
decimal_unused LogicalType.Unknown e = (refl, refl)
decimal_unused LogicalType.Json e = (refl, refl)
decimal_unused LogicalType.Bson e = (refl, refl)
decimal_unused LogicalType.Uuid e = (refl, refl)
decimal_unused LogicalType.Geometry e = (refl, refl)
decimal_unused (LogicalType.Geography edge) e = absurd (eqb-false logical.GEOGRAPHY logical.DECIMAL refl e)

module _ (l : LogicalType) (n : Annotated) (s : SlotBytes) (h : Written (Annotation.Logical l) s) where
  abbrev K : Kind
  K = kind_as (Annotation.Logical l) n

  parameters : (code_of l ≡ logical.DECIMAL → ⊥) → (a_of l ≡ K.p1) × (b_of l ≡ K.p2)
  parameters other = rw (ne_eqb (code_of l) logical.DECIMAL other) (refl, refl)

  image : convertedOf s ≡ image_of (stated_of (logicalOf s) (parameter_a s) (parameter_b s))
  image = h.0 ∙ sym (rw (h.1, h.2, h.3) (ap image_of (stated_spelled l)))

  with_logical : WithLogical K s
  with_logical =
      let code = kind_logical l n in
      record {
        logical_is = h.1 ∙ sym code;
        a_is = λ d. h.2 ∙ (parameters (λ e. d (code ∙ e))).0;
        b_is = λ d. h.3 ∙ (parameters (λ e. d (code ∙ e))).1;
        decimal_a = λ e. h.2 ∙ (decimal_unused l (sym code ∙ e)).0;
        decimal_b = λ e. h.3 ∙ (decimal_unused l (sym code ∙ e)).1;
        image_is = image;
      }

  logical_back : WrittenBack K s
  logical_back =
      let code = kind_logical l n in
      record {
        plain_leaf = λ e. absurd (eqb-false (code_of l) PLAIN_LEAF (code_stands l).0 (sym code ∙ e));
        plain_group = λ e. absurd (eqb-false (code_of l) PLAIN_GROUP (code_stands l).1 (sym code ∙ e));
        interval = λ e. absurd (eqb-false (code_of l) converted.INTERVAL (no_interval l) (sym code ∙ e));
        any_other = λ l g i. with_logical;
      }

interval_back : (s : SlotBytes) → Written Annotation.Interval s → WrittenBack (bare_kind converted.INTERVAL) s
interval_back s h =
    record {
      plain_leaf = λ e. absurd (eqb-false converted.INTERVAL PLAIN_LEAF refl e);
      plain_group = λ e. absurd (eqb-false converted.INTERVAL PLAIN_GROUP refl e);
      interval = λ e. record { converted_is = h.0; logical_is = h.1; a_is = h.2; b_is = h.3 };
      any_other = λ l g i. absurd (i refl);
    }

annotation_back : (says : Annotation) (n : Annotated) (s : SlotBytes) → Written says s → WrittenBack (kind_as says n) s
annotation_back Annotation.Plain n s h = plain_back (eqb n.physical GROUP) s (bare s h)
annotation_back (Annotation.Logical l) n s h = logical_back l n s h
annotation_back Annotation.Interval n s h = interval_back s h
annotation_back Annotation.Unreadable n s h = plain_back (eqb n.physical GROUP) s (bare s h)

-- each node of a tree --------------------------------------------------------------------------------------------------------

module _ (edition : ℕ) (b : List ℕ) (t : Tree) (sound : Sound edition b) (tree : IsTreeOf edition b t) (k : ℕ) (below : k < size t) where
  lawful : judgement edition b ≡ Ok tt
  lawful = sound_judgement edition b sound ∙ tree_accepted edition b t tree

  read_tree : tree_of (slots b) ≡ t
  read_tree = tree_of_listing t (slots b) tree.claims tree.lists

  in_sheet : k < total_of b
  in_sheet = omega (arith, size_is edition b t tree, below)

  -- the node's slot, and that of the rewritten sheet
  slot_is : get_or (listing t) k [] ≡ slot_at b k
  slot_is = ap (λ (ss : List SlotBytes). get_or ss k []) tree.lists ∙ slots_at_lem b k [] in_sheet

  copy_is : get_or (listing (rewritten_tree Root t)) k [] ≡ slot_at (rewritten b) k
  copy_is =
      ap (λ (u : Tree). get_or (listing (rewritten_tree Root u)) k []) (sym read_tree)
      ∙ ap (λ (ss : List SlotBytes). get_or ss k []) (sym (slots_are edition b lawful))
      ∙ slots_at_lem (rewritten b) k [] (omega (arith, total_is edition b lawful, in_sheet))

  own : NodeRow edition (get_or (listing t) k []) (get_or (listing (rewritten_tree Root t)) k []) (ascent t k) (drop (row_width * k) (rows t ++ []))
  own = node_row edition t tree.keeps [] k below

  abbrev s : SlotBytes
  s = get_or (listing t) k []

  abbrev under : Bool
  under = under_map_of own.standing

  long : child_count_at ≤ length s
  long = rw slot_is (omega (arith, slot_at_length b k))

  -- what is written of the node stands in its rewritten slot
  holds : Written (annotation_of (annotated s) under) (slot_at (rewritten b) k)
  unfolding rewriting written_of
  holds =
      subst (Holds (written_as (annotation_of (annotated s) under))) (sym own.copied ∙ copy_is)
      (holds_rewritten edition under s (resolves edition own.standing s own.fields long own.keeps))

  -- the kind in its row is the one that the rules took it for
  kind_is : kind_in (rows t) k ≡ kind under s
  unfolding own
  kind_is = row_kind edition t tree.keeps k below ∙ ap (λ (u : Bool). kind u s) (sym own.alike)

  pub written_back : WrittenBack (kind_in (rows t) k) (slot_at (rewritten b) k)
  unfolding kind kind_of
  written_back = rw kind_is (annotation_back (annotation_of (annotated s) under) (annotated s) (slot_at (rewritten b) k) holds)

  -- "a key_value layer has none": it is a repeated group, and so no LIST and no MAP
  layer_kind : IsKeyValueLayer (ascent t k) → (kind under s).kind ≡ PLAIN_GROUP
  unfolding IsKeyValueLayer kind is_list is_map annotated numbers_of rule10
  layer_kind h =
      let layer = own.map_child (subst IsKeyValueLayer own.stands h) in
      let code = (kind under s).kind in
      let some_kind : group_kind code ≡ true = group_kind_lem (annotated s) under (ten_placed edition (annotated s) under own.keeps.placement) layer.1 in
      by_test (eqb code PLAIN_GROUP) (λ e. eqb-true code PLAIN_GROUP e)
      (λ e. absurd (true≢false (sym (rw (e, no_list edition own.standing s own.fields own.keeps layer.0) at some_kind) ∙ no_map edition own.standing s own.fields own.keeps layer.0)))

  pub key_value_bare : number_in (rows t) k 8 ≡ KEY_VALUE_LAYER → Bare (slot_at (rewritten b) k)
  key_value_bare e =
      written_back.plain_group (ap (λ (x : Kind). x.kind) kind_is ∙ layer_kind ((roles_exactly edition t tree.keeps k below KEY_VALUE_LAYER).0 e))
