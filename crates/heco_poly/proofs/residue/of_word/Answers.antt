use Rattle.std.proofs.Common.{SFits, to_z-of_z}
use mir.Syntax.{w8, w64}
use Rattle.heco_poly.proofs.residue.of_word.Goals as goal

pub returns : goal.returns
returns c =
    let fw : SFits w8 c.args.word = c.ranges.word in
    let fr : SFits w64 c.from.result = record { sfits = c.from.type_inv } in
    let x = simp to_z-of_z at c.from.ensures in
    let v = simp to_z-of_z at c.of.ensures in
    rw x at v
