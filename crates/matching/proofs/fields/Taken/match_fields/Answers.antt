-- `matching::fields::Taken::match_fields` meets its contract: each field takes the candidate that it matches.
use mathlib.Core.Path.{sym, ap, ◌∙◌}
use mathlib.Core.List.{List}
use Prim.Native.Nat.{ℕ, ◌+◌, ◌<◌}
use native.Mathlib.Omega.{arith}
use Rattle.sheet.specs.Block.{total_of, most_nodes}
use Rattle.tree.proofs.VisitLaws.{tree_within}
use Rattle.matching.specs.Steps.{print_of, fields_from, first_free, found_of}
use Rattle.matching.proofs.FieldsLaws.{headed_same, spread_start, spread_below, spread_next, spread_end, spread_indexed, fields_from_all, fields_most, stands_all, found_most, field_most}
use Rattle.matching.proofs.fields.Taken.match_fields.Goals as goal
use Rattle.matching.proofs.fields.Taken.match_fields.Goals.{In-loop-place}

-- the field that is next is a node of the first sheet
field_below : (c : In-loop-place) → (c.loop-place.at < total_of c.args.first.now.sheet.now) × (c.loop-place.at < most_nodes)
field_below c =
    let below = spread_below _ _ _ _ _ _ _ _ _ _ _ _ c.args.first.now.surveyed.claimed c.loop-place.invariant.0 c.loop-place-test.true in
    (below, omega (arith, below, c.args.first.now.surveyed.claimed.most))

place_most : (c : In-loop-place) → c.loop-place.place < most_nodes
place_most c =
    field_most _ _ _ c.slot_at-ours.ensures c.args.first.now.surveyed.claimed c.requires.node_bound _ c.loop-place-test.true

pub overflow_add-taker : goal.overflow_add-taker
overflow_add-taker c = omega (arith, c.requires.node_bound, c.args.first.now.surveyed.claimed.most)

pub overflow_cast-taker : goal.overflow_cast-taker
overflow_cast-taker c = record { fits = omega (arith, c.requires.node_bound, c.args.first.now.surveyed.claimed.most) }

pub overflow_add-start : goal.overflow_add-start
overflow_add-start c = omega (arith, c.requires.partner_bound, c.args.second.now.surveyed.claimed.most)

pub write_heads-requires : goal.write_heads-requires
write_heads-requires c =
    let few = fields_most _ _ _ c.slot_at-theirs.ensures c.args.second.now.surveyed.claimed c.requires.partner_bound in
    let heads = c.requires.heads_most in record { stands = stands_all _ _ _ c.slot_at-theirs.ensures c.args.second.now.surveyed.claimed c.requires.partner_bound; count_le_most_nodes = omega (arith, few); taker_le_most_nodes = omega (arith, c.requires.node_bound, c.args.first.now.surveyed.claimed.most); heads_below = (omega arith, record { long = heads.long; taker_at = λ r. omega (arith, heads.taker_at r) }) }

pub overflow_add-at : goal.overflow_add-at
overflow_add-at c = omega (arith, c.requires.node_bound, c.args.first.now.surveyed.claimed.most)

pub loop-place-init : goal.loop-place-init
loop-place-init c = (spread_start _ _ _ _ _ _ _ _ c.args.first.now.surveyed.claimed c.args.second.now.surveyed.claimed c.requires.node_bound c.requires.partner_bound c.slot_at-ours.ensures c.slot_at-theirs.ensures c.requires.takers_most c.requires.named, record { known = c.write_heads.ensures.heads; most = c.write_heads.ensures.heads_most })

pub skip_taken-from-requires : goal.skip_taken-from-requires
skip_taken-from-requires c = record { stands = c.loop-place.invariant.0.stands; takers_len = c.loop-place.invariant.0.takers_most.long }

pub offset_bounds-first-at : goal.offset_bounds-first-at
offset_bounds-first-at c = record { fits = omega (arith, (field_below (goal.at.offset_bounds-first-at c).In-loop-place).1) }

pub bounds-first-at : goal.bounds-first-at
bounds-first-at c = omega (arith, (field_below (goal.at.bounds-first-at c).In-loop-place).1, c.args.first.now.surveyed.printed.long)

pub skip_unlike-near-requires : goal.skip_unlike-near-requires
skip_unlike-near-requires c =
    spread_indexed _ _ _ _ _ _ _ _ _ _ _ _ c.args.first.now.surveyed.claimed c.loop-place.invariant.0 c.loop-place-test.true _ c.skip_taken-from.ensures.count_value
    (fields_from_all _ _ _ c.slot_at-theirs.ensures) c.skip_taken-from.ensures.stands_2 _ _ c.loop-place.invariant.1.known

pub invariant_of-sought : goal.invariant_of-sought
invariant_of-sought c = record { print_value = c.args.first.now.surveyed.printed.print_at _ (field_below (goal.at.invariant_of-sought c).In-loop-place).0 ∙ ap print_of (sym c.name_of.ensures) }

pub first_free-found-requires : goal.first_free-found-requires
first_free-found-requires c = record { stands = c.skip_unlike-near.ensures.stands; takers_len = c.loop-place.invariant.0.takers_most.long }

pub take-requires : goal.take-requires
take-requires c = record { at_lt_most_nodes = (field_below (goal.at.take-requires c).In-loop-place).1; place_lt_most_nodes = place_most (goal.at.take-requires c).In-loop-place; found_within = found_most _ _ _ c.slot_at-theirs.ensures c.args.second.now.surveyed.claimed c.requires.partner_bound c.first_free-found.result c.first_free-found.ensures.found_within }

pub offset_bounds-first-at-in-loop-place : goal.offset_bounds-first-at-in-loop-place
offset_bounds-first-at-in-loop-place c = record { fits = omega (arith, (field_below (goal.at.offset_bounds-first-at-in-loop-place c).In-loop-place).1) }

pub bounds-first-at-in-loop-place : goal.bounds-first-at-in-loop-place
bounds-first-at-in-loop-place c = omega (arith, (field_below (goal.at.bounds-first-at-in-loop-place c).In-loop-place).1, c.args.first.now.surveyed.ended.long)

pub overflow_cast-at : goal.overflow_cast-at
overflow_cast-at c =
    record { fits = omega (arith, c.args.first.now.surveyed.ended.end_at _ (omega arith) (field_below (goal.at.overflow_cast-at c).In-loop-place).0, tree_within _ _ c.args.first.now.surveyed.claimed (field_below (goal.at.overflow_cast-at c).In-loop-place).0, c.args.first.now.surveyed.claimed.most) }

pub loop-place-preserved : goal.loop-place-preserved
loop-place-preserved c =
    let print = ap print_of c.name_of.ensures ∙ sym (c.args.first.now.surveyed.printed.print_at _ (field_below (goal.at.loop-place-preserved c).In-loop-place).0) in
    let called = ap (λ (n : List ℕ). found_of (first_free c.loop-place.self.takers (c.args.node + 1) n (fields_from c.args.second.now.sheet.now c.skip_taken-from.result c.slot_at-theirs.result.children))) c.name_of.ensures in (
      spread_next _ _ _ _ _ _ _ _ _ _ _ _ c.args.first.now.surveyed.claimed c.loop-place.invariant.0 c.loop-place-test.true _ c.skip_taken-from.ensures.count_value c.skip_taken-from.ensures.stands_2
          c.first_free-found.result (c.first_free-found.ensures.value ∙ ap found_of (c.skip_unlike-near.ensures.same _ _ _ print) ∙ called) c.first_free-found.ensures.found_within c.args.second.now.surveyed.claimed.most
          _ (c.args.first.now.surveyed.ended.end_at _ (omega arith) (field_below (goal.at.loop-place-preserved c).In-loop-place).0) _ _ c.take.ensures.takers_after c.take.ensures.matches_after,
      headed_same c.take.ensures.heads_after c.loop-place.invariant.1,
    )

pub returns : goal.returns
returns c = let heads = c.loop-place.invariant.1.most in record { matches_after = spread_end _ _ _ _ _ _ _ _ _ _ _ _ c.args.first.now.surveyed.claimed c.loop-place.invariant.0 c.loop-place-test.false; takers_most_2 = c.loop-place.invariant.0.takers_most; heads_most_2 = record { long = heads.long; taker_at = λ r. omega (arith, heads.taker_at r) }; named_2 = c.loop-place.invariant.0.names }
