-- `edition_argument::input::read_full` meets its contract: each read consumes what it puts behind what stood there.
use Rattle.std.proofs.Common.{subst, rules}
use Rattle.std.specs.Io.KnownBytes.{Consumes}
use Rattle.std.proofs.KnownBytes.{Consumes-trans}
use Rattle.edition_argument.proofs.InputLaws.{filled_more}
use Rattle.edition_argument.proofs.input.read_full.Goals as goal

pub loop-done-preserved : goal.loop-done-preserved
loop-done-preserved g c =
    let room = c.loop-done.room in
    let enough = c.in-Ok.ensures.bound.0 in (
      search rules,
      subst (Consumes _ _) (filled_more c.loop-done.done c.in-Ok.n _ room c.read.new.buf c.loop-done.invariant.0 enough) (Consumes-trans _ _ _ _ _ c.loop-done.invariant.1 c.in-Ok.ensures.bytes.0),
    )
