use Rattle.std.proofs.Common.{◌≡◌, List, ℕ, true, sym, subst}
use Rattle.heco_circuit.specs.Plans.{is_vector}
use Rattle.heco_measure.proofs.Plaintexts.{vector_passes}
use Rattle.heco_measure.proofs.message_gates.vector_at.Goals as goal

pub returns-clause-vector : goal.returns-clause-vector
returns-clause-vector c =
    let p = c.args.p.now in
    let read = c.index-vectors-v.result in
    rw c.as_slice.ensures (subst (λ (x : List ℕ). is_vector p.t p.slots x ≡ true) (sym c.index-vectors-v.is) (vector_passes p c.args.vectors.now c.args.v read c.requires.inside c.requires.vectors))
