use Rattle.std.proofs.Common.{◌^◌, ap, ◌∙◌, SFits, to_z-of_z}
use mir.Syntax.{w64}
use Rattle.std.specs.Int.RustNames.{unsigned_abs}
use Rattle.heco_ring.specs.Remainders.{rem}
use Rattle.heco_ring.proofs.Remainders.{rem_is}
use Rattle.heco_bfv.proofs.plain_vector.word.Goals as goal

pub returns-clause-value : goal.returns-clause-value
returns-clause-value c =
    let fr : SFits w64 c.rem_euclid.result = record { sfits = c.rem_euclid.type_inv } in
    let fx : SFits w64 c.centre_t.result = record { sfits = c.centre_t.type_inv } in
    let value = simp to_z-of_z at c.rem_euclid.ensures.value in
    simp to_z-of_z (ap unsigned_abs (value ∙ rem_is (2 ^ 58) c.centre_t.result) ∙ ap (rem (2 ^ 58)) c.centre_t.ensures)
