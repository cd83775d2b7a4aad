-- What rewriting writes is accepted, resolves to the same kind, p1 and p2, and is written the same again.
-- Assumes nothing.
use Prim.Native.Nat.{ℕ}
use mathlib.Core.Path.{◌≡◌, refl, sym, ap, ◌∙◌}
use mathlib.Core.Bool.{Bool, true, false, true≢false, cond, ◌||◌, or-true}
use lib.Dec.{eqb}
use borrow.Author.Tests.{eq-eqb, eqb-true, eqb-false}
use Rattle.std.specs.Prelude.{Ok, Err}
use Rattle.parquet.specs.Physical as physical
use Rattle.parquet.specs.Converted as converted
use Rattle.parquet.specs.Logical as logical
use Rattle.logical_type.specs.Parameters.{valid_parameters}
use Rattle.logical_type.specs.Spelling.{code_of, named_of, stated_of}
use Rattle.annotation.specs.Signed.{natural}
use Rattle.logical_type.specs.Forward.{forward_of, image_of}
use Rattle.logical_type.specs.Backward.{backward_of}
use Rattle.annotation.specs.Meaning.{annotation_of}
use Rattle.annotation.specs.Rule9.{rule9}
use Rattle.annotation.specs.Rule10.{annotation_on, is_placed, rule10}
use Rattle.annotation.specs.Rule11.{is_decimal, decimal_holds, rule11}
use Rattle.annotation.specs.Kinds.{PLAIN_LEAF, PLAIN_GROUP, bare_kind, kind_as, kind_of}
use Rattle.annotation.specs.Outcome.{resolution_of}
use Rattle.annotation.specs.Rewriting.{written_as, written_of, rewriting_of, with_written, rewritten}
use Rattle.logical_type.specs.declared.types.LogicalType.{LogicalType}
use Rattle.logical_type.specs.declared.types.Annotation.{Annotation}
use Rattle.annotation.specs.declared.slot.Annotated.{Annotated}
use Rattle.annotation.specs.declared.resolution.Kind.{Kind}
use Rattle.annotation.specs.declared.rules.Broken.{Broken}
use Rattle.annotation.specs.declared.rewriting.Written.{Written}
use Rattle.logical_type.proofs.ConversionLaws.{forward_decimal}
use Rattle.logical_type.proofs.SpellingLaws.{stated_spelled}
use Rattle.annotation.proofs.PlacementLaws.{kind_logical, code_stands, ten_placed}
use Rattle.annotation.proofs.OutcomeLaws.{resolved_of_keeps, keeps_of_resolved, kind_of_resolved}

-- an annotation as it is after rewriting: what cannot be read is written as none
abbrev settled : Annotation → Annotation
settled Annotation.Plain = Annotation.Plain
settled (Annotation.Logical l) = Annotation.Logical l
settled Annotation.Interval = Annotation.Interval
settled Annotation.Unreadable = Annotation.Plain

-- what is written for an annotation says that annotation
annotation_written : (says : Annotation) (n : Annotated) (under_map_of : Bool) → annotation_of (with_written n (written_as says)) under_map_of ≡ settled says
unfolding annotation_of valid_parameters backward_of
annotation_written Annotation.Plain n under_map_of = refl
annotation_written (Annotation.Logical l) n under_map_of = rw (code_stands l).0 (stated_spelled l)
annotation_written Annotation.Interval n under_map_of = refl
annotation_written Annotation.Unreadable n under_map_of = refl

-- what is written keeps rule 9
nine_written : (says : Annotation) (n : Annotated) → rule9 (with_written n (written_as says)) ≡ true
unfolding rule9
nine_written Annotation.Plain n = refl
nine_written (Annotation.Logical l) n =
    rw (stated_spelled l, eq-eqb (forward_of l) (forward_of l) refl) (or-true (eqb (forward_of l) converted.NONE || eqb (code_of l) logical.NONE))
nine_written Annotation.Interval n = refl
nine_written Annotation.Unreadable n = refl

-- an annotation that rule 10 lets stand can be read
settled_on : (says : Annotation) (code length : ℕ) → annotation_on says code length ≡ true → settled says ≡ says
settled_on Annotation.Plain code length e = refl
settled_on (Annotation.Logical l) code length e = refl
settled_on Annotation.Interval code length e = refl
settled_on Annotation.Unreadable code length e = absurd (true≢false (sym e))

-- numbers whose annotation is placed as rule 10 asks say the same after rewriting
pub annotation_rewritten : (n : Annotated) (under_map_of : Bool) → is_placed n under_map_of ≡ true → annotation_of (rewritten n under_map_of) under_map_of ≡ annotation_of n under_map_of
unfolding rewritten written_of is_placed
annotation_rewritten n under_map_of e =
    annotation_written (annotation_of n under_map_of) n under_map_of ∙ settled_on (annotation_of n under_map_of) n.physical (natural n.type_length) e

-- the kind of an annotation does not look at the annotation numbers themselves
kind_written : (says : Annotation) (n : Annotated) (w : Written) → kind_as says (with_written n w) ≡ kind_as says n
kind_written Annotation.Plain n w = refl
kind_written (Annotation.Logical l) n w = refl
kind_written Annotation.Interval n w = refl
kind_written Annotation.Unreadable n w = refl

-- what rewriting writes is accepted, and resolves to the same kind, p1 and p2
pub resolved_rewritten : (edition : ℕ) (n : Annotated) (under_map_of : Bool) (k : Kind) → resolution_of edition n under_map_of ≡ Ok k → resolution_of edition (rewritten n under_map_of) under_map_of ≡ Ok k
unfolding rewritten written_of is_placed rule10 rule11 decimal_holds kind_of
resolved_rewritten edition n under_map_of k e =
    let keeps = keeps_of_resolved edition n under_map_of k e in
    let same = annotation_rewritten n under_map_of (ten_placed edition n under_map_of keeps.ten) in
    resolved_of_keeps edition (rewritten n under_map_of) under_map_of
    (record {
      nine = nine_written (annotation_of n under_map_of) n;
      ten = rw same keeps.ten;
      eleven = rw same keeps.eleven;
    })
    ∙ ap Ok (rw (same, kind_written (annotation_of n under_map_of) n (written_of n under_map_of)) (kind_of_resolved edition n under_map_of k e))

written_settled : (says : Annotation) → written_as (settled says) ≡ written_as says
written_settled Annotation.Plain = refl
written_settled (Annotation.Logical l) = refl
written_settled Annotation.Interval = refl
written_settled Annotation.Unreadable = refl

-- and is written the same again
pub written_rewritten : (n : Annotated) (under_map_of : Bool) → written_of (rewritten n under_map_of) under_map_of ≡ written_of n under_map_of
unfolding rewritten written_of
written_rewritten n under_map_of =
    ap written_as (annotation_written (annotation_of n under_map_of) n under_map_of) ∙ written_settled (annotation_of n under_map_of)

pub rewritten_rewritten : (n : Annotated) (under_map_of : Bool) → rewritten (rewritten n under_map_of) under_map_of ≡ rewritten n under_map_of
unfolding rewritten
rewritten_rewritten n under_map_of = ap (with_written n) (written_rewritten n under_map_of)

-- numbers without annotation are written without one
pub written_plain : (n : Annotated) (under_map_of : Bool) → n.converted ≡ converted.NONE → n.logical ≡ logical.NONE → written_of n under_map_of ≡ written_as Annotation.Plain
unfolding written_of annotation_of backward_of
written_plain n under_map_of c l = rw (l, c) (plain_either (valid_parameters logical.NONE n.a n.b))
  where
    plain_either : (valid : Bool) → written_as (cond valid Annotation.Plain Annotation.Unreadable) ≡ written_as Annotation.Plain
    plain_either true = refl
    plain_either false = refl

-- a plain group is written without annotation, also where MAP_KEY_VALUE stood on it
pub written_plain_group : (n : Annotated) (under_map_of : Bool) → (kind_of n under_map_of).kind ≡ PLAIN_GROUP → written_of n under_map_of ≡ written_as Annotation.Plain
unfolding kind_of written_of
written_plain_group n under_map_of e = by_kind (annotation_of n under_map_of) e
  where
    by_kind : (says : Annotation) → (kind_as says n).kind ≡ PLAIN_GROUP → written_as says ≡ written_as Annotation.Plain
    by_kind Annotation.Plain h = refl
    by_kind (Annotation.Logical l) h =
        absurd (eqb-false (code_of l) PLAIN_GROUP (code_stands l).1 (sym (kind_logical l n) ∙ h))
    by_kind Annotation.Interval h = absurd (eqb-false converted.INTERVAL PLAIN_GROUP refl h)
    by_kind Annotation.Unreadable h = refl

-- DECIMAL where it can be read, and nothing readable elsewhere, is DECIMAL where rule 10 lets it stand
decimal_read : (valid : Bool) (code length : ℕ) → annotation_on (cond valid (Annotation.Logical LogicalType.Decimal) Annotation.Unreadable) code length ≡ true → is_decimal (cond valid (Annotation.Logical LogicalType.Decimal) Annotation.Unreadable) ≡ true
decimal_read true code length e = refl
decimal_read false code length e = e

image_decimal : (says : Annotation) → eqb (image_of says) converted.DECIMAL ≡ true → is_decimal says ≡ true
image_decimal Annotation.Plain e = e
image_decimal (Annotation.Logical l) e =
    eq-eqb (code_of l) logical.DECIMAL (forward_decimal l (eqb-true (forward_of l) converted.DECIMAL e))
image_decimal Annotation.Interval e = e
image_decimal Annotation.Unreadable e = e

written_decimal : (says : Annotation) → is_decimal says ≡ true → (written_as says).logical ≡ logical.DECIMAL
written_decimal Annotation.Plain e = absurd (true≢false (sym e))
written_decimal (Annotation.Logical l) e = eqb-true (code_of l) logical.DECIMAL e
written_decimal Annotation.Interval e = absurd (true≢false (sym e))
written_decimal Annotation.Unreadable e = absurd (true≢false (sym e))

module _ (n : Annotated) (under_map_of : Bool) (nine : rule9 n ≡ true) (placed : is_placed n under_map_of ≡ true) where
  -- numbers that keep rule 9, and rule 10 as to their annotation, say DECIMAL where their logical type is DECIMAL

  decimal_by_logical : n.logical ≡ logical.DECIMAL → is_decimal (annotation_of n under_map_of) ≡ true
  unfolding is_placed annotation_of stated_of named_of
  decimal_by_logical e =
      rw e
      (decimal_read (valid_parameters logical.DECIMAL n.a n.b) n.physical (natural n.type_length) (rw e at placed))

  -- and where their converted type is, alone or beside a logical type
  decimal_by_converted : n.converted ≡ converted.DECIMAL → (alone : Bool) → eqb n.logical logical.NONE ≡ alone → is_decimal (annotation_of n under_map_of) ≡ true
  unfolding rule9 is_placed annotation_of backward_of
  decimal_by_converted e true f =
      rw (f, e)
      (decimal_read (valid_parameters logical.NONE n.a n.b) n.physical (natural n.type_length) (rw (f, e) at placed))
  decimal_by_converted e false f = rw f (image_decimal (stated_of n.logical n.a n.b) (rw (f, e) at nine))

  decimal_by_either : (named : Bool) → eqb n.converted converted.DECIMAL ≡ named → (named || eqb n.logical logical.DECIMAL) ≡ true → is_decimal (annotation_of n under_map_of) ≡ true
  decimal_by_either true f e =
      decimal_by_converted (eqb-true n.converted converted.DECIMAL f) (eqb n.logical logical.NONE) refl
  decimal_by_either false f e = decimal_by_logical (eqb-true n.logical logical.DECIMAL e)

  -- DECIMAL in either place is DECIMAL in the logical type once it is rewritten
  pub decimal_rewritten : (eqb n.converted converted.DECIMAL || eqb n.logical logical.DECIMAL) ≡ true → (rewritten n under_map_of).logical ≡ logical.DECIMAL
  unfolding rewritten written_of
  decimal_rewritten e =
      written_decimal (annotation_of n under_map_of) (decimal_by_either (eqb n.converted converted.DECIMAL) refl e)

-- what is written of the numbers of a slot says whether their kind is a code, but for the codes of nodes without logical type
module _ (code : ℕ) (none : eqb logical.NONE code ≡ false) (group : eqb PLAIN_GROUP code ≡ false) (interval : eqb converted.INTERVAL code ≡ false) where
  plain_code : (t : Bool) → eqb logical.NONE code ≡ eqb (cond t (bare_kind PLAIN_GROUP) (bare_kind PLAIN_LEAF)).kind code
  plain_code true = none ∙ sym group
  plain_code false = refl

  written_code : (says : Annotation) (n : Annotated) → eqb (written_as says).logical code ≡ eqb (kind_as says n).kind code
  written_code Annotation.Plain n = plain_code (eqb n.physical physical.GROUP)
  written_code (Annotation.Logical l) n = ap (λ (c : ℕ). eqb c code) (sym (kind_logical l n))
  written_code Annotation.Interval n = none ∙ sym interval
  written_code Annotation.Unreadable n = plain_code (eqb n.physical physical.GROUP)

  pub written_kind : (n : Annotated) (under_map_of : Bool) → eqb (written_of n under_map_of).logical code ≡ eqb (kind_of n under_map_of).kind code
  unfolding written_of kind_of
  written_kind n under_map_of = written_code (annotation_of n under_map_of) n

-- what rewriting answers for numbers that resolve
pub written_rewriting : (edition : ℕ) (n : Annotated) (under_map_of : Bool) (k : Kind) (w : Written) → resolution_of edition n under_map_of ≡ Ok k → w ≡ written_of n under_map_of → Ok w ≡ rewriting_of edition n under_map_of
unfolding rewriting_of
written_rewriting edition n under_map_of k w e same = rw e (ap Ok same)

-- and for those that do not
pub refused_rewriting : (edition : ℕ) (n : Annotated) (under_map_of : Bool) (broken : Broken) → resolution_of edition n under_map_of ≡ Err broken → Err broken ≡ rewriting_of edition n under_map_of
unfolding rewriting_of
refused_rewriting edition n under_map_of broken e = rw e
