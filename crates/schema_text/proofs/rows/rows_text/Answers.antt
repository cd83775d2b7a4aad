-- `schema_text::rows::rows_text` meets its contract.
use Prim.Native.Nat.{ℕ, ◌+◌, ◌≤◌}
use mathlib.Core.List.{List}
use mathlib.Core.Path.{◌≡◌, refl, sym, ap, ◌∙◌}
use native.Mathlib.Omega.{arith}
use lib.ListN.{length, take, length-append}
use Rattle.std.specs.Prelude.{Err}
use Rattle.text.specs.Placing.{position_past, position_after, placed_text}
use Rattle.text.proofs.PlacingLaws.{past_within, past_beyond, placed_short, after_more, holds_none, holds_more, holds_placed}
use Rattle.schema_text.specs.Rows.{cut, lines_of, header_text, rows_text}
use Rattle.schema_text.proofs.GreatestLaws.{rows_most}
use Rattle.schema_text.proofs.MakingLaws.{made_within, made_beyond, rows_few, rows_enough, made_none}
use Rattle.schema_text.proofs.rows.rows_text.Goals as goal
use Rattle.schema_text.proofs.rows.rows_text.Goals.{After-after_rows-end}

-- the line with the number of rows, which the room's front is
header : (count total : ℕ) (room : List ℕ) → count ≡ length (take count room) → take count room ≡ header_text total → count ≡ length (header_text total)
header count total room all line = all ∙ ap length line

-- the position after all lines
reached : (c : After-after_rows-end) → c.after_rows-end.result ≡ position_after (length c.args.out.now) 0 (rows_text c.args.total c.args.rows.now)
unfolding rows_text
reached c =
    after_more (length c.args.out.now) 0 (header_text c.args.total) (lines_of (cut c.args.total c.args.rows.now))
    (c.after-first.ensures ∙ ap (position_past (length c.args.out.now) 0) (header _ _ _ c.make_header-count.ensures.prefix_len.1 c.make_header-count.ensures.room_after))
    c.after_rows-end.ensures

pub returns-then-rows-total : goal.returns-then-rows-total
returns-then-rows-total c = let made = made_none _ _ (rows_few _ _ c.if-rows-total.true) in record { value = ap Err c.short_output.ensures ∙ made.0; out_after = made.1; by_index = λ text e. rows_most _ _ text (λ i. omega (arith, c.type_inv.rows i)) e }

pub returns-then-end-out : goal.returns-then-end-out
returns-then-end-out c =
    let enough = rows_enough c.args.total c.args.rows.now (omega arith) in
    let after = reached (goal.at.returns-then-end-out c).After-after_rows-end in
    let made = made_beyond _ _ _ _ _ enough after (sym (placed_short _ _ _ (past_beyond _ _ _ _ after c.if-end-out.true))) c.if-end-out.true in record { value = ap Err c.short_output-then-end-out.ensures ∙ made.0; out_after = made.1; by_index = λ text e. rows_most _ _ text (λ i. omega (arith, c.type_inv.rows i)) e }

pub write_rows-requires : goal.write_rows-requires
unfolding rows_text
write_rows-requires c = let whole = past_within _ _ _ _ (reached (goal.at.write_rows-requires c).After-after_rows-end) c.if-end-out.false in record { total_in_bounds = omega (arith, c.if-rows-total.false); rows_in_bounds = omega (arith, whole, c.if-end-out.false, length-append (header_text c.args.total) (lines_of (cut c.args.total c.args.rows.now)), header _ _ _ c.make_header-count.ensures.prefix_len.1 c.make_header-count.ensures.room_after, c.put.auto.out) }

pub returns : goal.returns
unfolding rows_text
returns c =
    let ns = c.args.rows.now in
    let total = c.args.total in
    let within = c.if-end-out.false in
    let fits : length (header_text total) + length (lines_of (cut total ns)) ≤ length c.args.out.now = omega (arith, past_within _ _ _ _ (reached (goal.at.returns c).After-after_rows-end) within, within, length-append (header_text total) (lines_of (cut total ns))) in
    let line = c.make_header-count.ensures.room_after in
    let first = holds_more (holds_none c.args.out.now 0 (omega arith)) (header_text total) (omega arith) (c.put.ensures.value ∙ ap (position_after _ _) line, c.put.ensures.out_after ∙ ap (placed_text _ _) line) in
    let count : c.make_header-count.result ≡ c.put.result = omega (arith, header _ _ _ c.make_header-count.ensures.prefix_len.1 c.make_header-count.ensures.room_after, first.end) in
    let all = holds_more first (lines_of (cut total ns)) (omega arith) (refl, c.write_rows.ensures ∙ ap (λ (k : ℕ). placed_text c.put.new.out k (lines_of (cut total ns))) count) in
    let made = made_within _ _ _ _ _ (rows_enough total ns (omega (arith, c.if-rows-total.false))) (reached (goal.at.returns c).After-after_rows-end) (holds_placed all) within in record { value = made.0; out_after = made.1; by_index = λ text e. rows_most _ _ text (λ i. omega (arith, c.type_inv.rows i)) e }
