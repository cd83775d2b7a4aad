-- `differences::entries::write_entry` meets its contract: its parts are the entry's bytes.
use mathlib.Core.Path.{◌≡◌, sym, ap, ap₂, ◌∙◌}
use mathlib.Core.List.{List}
use Prim.Native.Nat.{ℕ}
use native.Mathlib.Omega.{arith}
use lib.ListN.{length, length-set, length-take, length-drop}
use Rattle.differences.specs.Entry.{entry_size}
use Rattle.differences.proofs.FitLaws.{length_filled}
use Rattle.differences.proofs.WritingLaws.{headed, placed, entry_written, length_placed, length_headed}
use Rattle.differences.proofs.entries.write_entry.Goals as goal
use Rattle.differences.proofs.entries.write_entry.Goals.{After-write_content}

room : (c : After-write_content) → length (placed 4 c.write_content.new.out (headed c.args.out.now c.args.told.now.code c.to_le_bytes-number.result)) ≡ entry_size
room c =
    let head = length_headed c.args.out.now c.args.told.now.code c.to_le_bytes-number.result in
    length_placed 4 c.write_content.new.out (headed c.args.out.now c.args.told.now.code c.to_le_bytes-number.result) (ap length c.write_content.ensures ∙ length_filled _ c.args.told.now.first_len_bound) (omega (arith, head, c.requires)) ∙ head ∙ c.requires

pub slice_bounds-write_content-end : goal.slice_bounds-write_content-end
slice_bounds-write_content-end c = simp length-set (omega (arith, c.requires))

pub write_content-requires : goal.write_content-requires
write_content-requires c = record { content_len_bound = c.args.told.now.first_len_bound; out_len = simp (length-take, length-drop, length-set) (omega (arith, c.requires)) }

pub slice_bounds-write_content-end-2 : goal.slice_bounds-write_content-end-2
slice_bounds-write_content-end-2 c = omega (arith, room (goal.at.slice_bounds-write_content-end-2 c).After-write_content)

pub write_content-requires-2 : goal.write_content-requires-2
write_content-requires-2 c = record { content_len_bound = c.args.told.now.second_len_bound; out_len = simp (length-take, length-drop) (omega (arith, room (goal.at.write_content-requires-2 c).After-write_content)) }

pub shape_of-out : goal.shape_of-out
shape_of-out c = length_placed 76 c.write_content-2.new.out (placed 4 c.write_content.new.out (headed c.args.out.now c.args.told.now.code c.to_le_bytes-number.result)) (ap length c.write_content-2.ensures ∙ length_filled _ c.args.told.now.second_len_bound) (omega (arith, room (goal.at.shape_of-out c).After-write_content)) ∙ room (goal.at.shape_of-out c).After-write_content ∙ sym c.requires

pub returns : goal.returns
returns c =
    ap₂ (λ (a b : List ℕ). placed 76 b (placed 4 a (headed c.args.out.now c.args.told.now.code c.to_le_bytes-number.result))) c.write_content.ensures c.write_content-2.ensures
    ∙ entry_written c.args.out.now c.args.told.now.code c.args.told.now.node c.to_le_bytes-number.result c.args.told.now.first.now c.args.told.now.second.now c.requires (omega arith) c.to_le_bytes-number.ensures c.args.told.now.first_len_bound c.args.told.now.second_len_bound
