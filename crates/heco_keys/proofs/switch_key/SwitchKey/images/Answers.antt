use Rattle.std.proofs.Common.{arith}
use Rattle.heco_keys.proofs.switch_key.SwitchKey.images.Goals as goal

pub get-requires : goal.get-requires
get-requires c = let m = c.args.self.now.imaged c.in-Some.images c.in-Some.is in omega (arith, m.count, c.requires)

pub returns-in-Some : goal.returns-in-Some
returns-in-Some c = let m = c.args.self.now.imaged c.in-Some.images c.in-Some.is in rw c.if-images-depth.true at (m.each c.args.i c.get.result.now c.get.ensures)
