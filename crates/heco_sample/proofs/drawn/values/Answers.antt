use Rattle.std.proofs.Common.{◌∙◌, ap, length}
use Rattle.heco_draw.specs.Words.{start}
use Rattle.heco_sample.proofs.DrawnRows.{length-values}
use Rattle.heco_sample.proofs.drawn.values.Goals as goal

pub rows-requires : goal.rows-requires
rows-requires c = ap length (c.as_slice.ensures ∙ c.in_ok-values.ensures.words) ∙ length-values (start c.args.seed 3) c.args.p.now.t 1024
