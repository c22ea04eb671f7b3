use Rattle.std.proofs.Common.{sym, subst}
use Rattle.heco_nums.specs.Needs.{IsRising}
use Rattle.heco_material.proofs.file_length.turn_count.Goals as goal

pub rising_len-requires : goal.rising_len-requires
rising_len-requires c = subst IsRising (sym c.as_slice.ensures) c.args.needs.now.rising
