use Rattle.std.proofs.Common.{◌<◌, length, arith}
use Rattle.heco_texts.proofs.LineLaws.{cut_cr, kept_cr}
use Rattle.heco_texts.proofs.bytes.without_cr.Goals as goal
use Rattle.heco_texts.proofs.bytes.without_cr.Goals.{else-len-gt0-via-then-len-gt0+else-line-len-eq13, else-len-gt0-via-else-len-gt0}

pub returns-then-line-len-eq13 : goal.returns-then-line-len-eq13
returns-then-line-len-eq13 c = cut_cr _ c.if-len-gt0.true c.if-line-len-eq13.true

pub returns-else-len-gt0 : goal.returns-else-len-gt0
returns-else-len-gt0 c =
    kept_cr _ (λ (some : 0 < length c.args.line.now) is. elim c.else-len-gt0.branch [
      | else-len-gt0-via-then-len-gt0+else-line-len-eq13 w ↦ w.if-line-len-eq13.false is
      | else-len-gt0-via-else-len-gt0 w ↦ (let none = w.if-len-gt0.false in absurd (omega (arith, some, none)))
    ])
