use Rattle.std.proofs.Common.{SFits, to_z-of_z}
use mir.Syntax.{w64}
use Rattle.heco_nums.proofs.PresetFacts.{facts}
use Rattle.heco_bfv.proofs.Numbers.{factor_small}
use Rattle.heco_bfv.proofs.linear.factor.Goals as goal

pub returns-clause-small : goal.returns-clause-small
returns-clause-small c =
    let f : SFits w64 c.centre_t.result = record { sfits = c.centre_t.type_inv } in
    simp to_z-of_z (rw c.centre_t.ensures (factor_small c.args.p.now.t c.args.c c.requires (facts c.args.p.now).t_small))
