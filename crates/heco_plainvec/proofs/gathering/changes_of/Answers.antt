use Rattle.std.proofs.Common.{◌∙◌, length, ap, sym}
use Rattle.heco_plainvec.proofs.Rows.{length-wires}
use Rattle.heco_plainvec.proofs.ChosenAt.{length-bounds}
use Rattle.heco_plainvec.proofs.gathering.changes_of.Goals as goal

pub reads_of-requires : goal.reads_of-requires
reads_of-requires c = c.len.ensures ∙ ap length c.in_ok-bounds.ensures ∙ length-bounds c.args.c.now ∙ sym (length-wires c.args.c.now)
