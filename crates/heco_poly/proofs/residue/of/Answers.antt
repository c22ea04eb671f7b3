use Rattle.std.proofs.Common.{◌^◌, ap, ◌∙◌, SFits, to_z-of_z}
use mir.Syntax.{w64}
use Rattle.std.specs.Int.RustNames.{unsigned_abs}
use Rattle.heco_ring.proofs.Remainders.{rem_is}
use Rattle.heco_poly.proofs.residue.of.Goals as goal

pub returns : goal.returns
returns c =
    let fr : SFits w64 c.rem_euclid.result = record { sfits = c.rem_euclid.type_inv } in
    let fx : SFits w64 c.args.c = c.ranges.c in
    let value = simp to_z-of_z at c.rem_euclid.ensures.value in
    simp to_z-of_z (ap unsigned_abs (value ∙ rem_is (2 ^ 58) c.args.c))
