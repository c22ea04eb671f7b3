use Rattle.std.proofs.Common.{ltb}
use Rattle.heco_written.specs.Cost.{cost, late_cost}
use Rattle.heco_place.proofs.KindCounts.{version_is}
use Rattle.heco_place.proofs.laws.placed_circuits_have_version_1.Goals as goal

pub returns : goal.returns
returns c ts vs gates are = version_is (ltb (late_cost vs) (cost vs)) ts vs gates ts are
