-- `differences::entries::write_content` meets its contract: a copy, and zeros behind it.
use Rattle.differences.proofs.WritingLaws.{content_filled}
use Rattle.differences.proofs.entries.write_content.Goals as goal

pub returns : goal.returns
returns c = content_filled _ _ _ _ c.requires.content_len_bound c.requires.out_len c.copy_from_slice.ensures.after (c.fill.ensures.after (λ y e. e))
