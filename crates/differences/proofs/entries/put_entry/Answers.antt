-- `differences::entries::put_entry` meets its contract: there is room for the entry, or not.
use mathlib.Core.Path.{ap, ◌∙◌}
use Prim.Native.Nat.{◌+◌, ◌-◌, ◌*◌}
use native.Mathlib.Omega.{arith}
use lib.ListN.{length, length-take, length-drop}
use Rattle.laws.specs.Stretches.{stretched}
use Rattle.differences.specs.Entry.{entry_size}
use Rattle.differences.proofs.EntryLaws.{length_entry}
use Rattle.differences.proofs.FitLaws.{fits_entry}
use Rattle.differences.proofs.PutLaws.{puts_full, puts_one}
use Rattle.differences.proofs.WritingLaws.{part_stretched}
use Rattle.differences.proofs.entries.put_entry.Goals as goal

pub returns-then-out-end : goal.returns-then-out-end
returns-then-out-end c = puts_full _ _ _ (omega (arith, c.if-out-end.true))

pub write_entry-requires : goal.write_entry-requires
write_entry-requires c = simp (length-take, length-drop) (omega (arith, c.if-out-end.false))

pub returns : goal.returns
returns c =
    let fits = fits_entry c.args.told.now.code c.args.told.now.node c.args.told.now.first.now c.args.told.now.second.now (omega arith) (omega arith) c.args.told.now.first_len_bound c.args.told.now.second_len_bound in
    let long = ap length c.write_entry.ensures ∙ length_entry _ fits in
    puts_one _ _ _ _ (omega (arith, c.if-out-end.false))
    (part_stretched c.args.out.now _ (entry_size * c.args.entries) (entry_size * c.args.entries + entry_size - entry_size * c.args.entries) (long ∙ omega arith) ∙ ap (stretched c.args.out.now (entry_size * c.args.entries)) c.write_entry.ensures)
