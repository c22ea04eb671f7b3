use Rattle.std.proofs.Common.{sym, ◌∙◌, length, arith}
use Rattle.heco_circuit.specs.Circuits.{most}
use Rattle.heco_fields.proofs.FileLaws.{take_all, drop_all}
use Rattle.heco_circuit.proofs.reading.cut.Goals as goal

pub returns-else-bytes-gt-MOST-clause-head : goal.returns-else-bytes-gt-MOST-clause-head
returns-else-bytes-gt-MOST-clause-head c = c.split_at-else-bytes-gt-MOST.ensures.front ∙ take_all (length c.args.bytes.now) c.args.bytes.now (omega arith) ∙ sym (take_all most c.args.bytes.now (omega arith))

pub returns-else-bytes-gt-MOST-clause-beyond : goal.returns-else-bytes-gt-MOST-clause-beyond
returns-else-bytes-gt-MOST-clause-beyond c = c.split_at-else-bytes-gt-MOST.ensures.back ∙ drop_all (length c.args.bytes.now) c.args.bytes.now (omega arith) ∙ sym (drop_all most c.args.bytes.now (omega arith))
