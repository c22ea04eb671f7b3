use Rattle.std.proofs.Common.{◌∙◌}
use Rattle.heco_peep.proofs.living.needed_gates.Goals as goal

pub keep_needed-requires-clause-marks : goal.keep_needed-requires-clause-marks
keep_needed-requires-clause-marks c = c.as_mut_slice.ensures.value ∙ c.in_ok-marks.ensures.items_if_clones_equal (λ y h. h)
