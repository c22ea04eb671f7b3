use Rattle.heco_peep.specs.Passed.{shows}
use Rattle.heco_peep.proofs.Sieves.{sieved_marks}
use Rattle.heco_peep.proofs.living.keep_needed.Goals as goal

pub returns : goal.returns
returns c =
    let same = sieved_marks (shows c.args.outputs.now) c.args.inputs c.args.gates.now c.args.marks.now c.mark_outputs.new.marks c.mark_needed.new.marks c.requires.marks c.mark_outputs.ensures.long c.mark_outputs.ensures.each
    c.mark_needed.ensures.each in
    rw (← same) c.keep.ensures
