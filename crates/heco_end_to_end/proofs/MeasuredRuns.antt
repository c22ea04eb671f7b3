-- What is measured of a run on material within bounds keeps to the written bounds.
use Rattle.std.proofs.Common.{arith}
use Rattle.heco_products.specs.Encrypting.{encrypted_messages}
use Rattle.heco_products.specs.KeyProducts.{circuit_key}
use Rattle.heco_products.specs.Results.{keys_of}
use Rattle.heco_run_laws.specs.Measured.{measured_noise}
use Rattle.heco_run_laws.proofs.Measured.{measured_keeps}
use Rattle.heco_end_to_end.specs.Measured.{RunsAreMeasuredWithinBounds}
use Rattle.heco_end_to_end.proofs.DecryptedRuns.{has_keys, fresh}
use Rattle.heco_end_to_end.proofs.OutputWires.{length-wires}

pub measured_within : RunsAreMeasuredWithinBounds
unfolding measured_noise
measured_within p c k material messages given many are =
    let kept = measured_keeps p k.s (keys_of (circuit_key p c k)) c messages (encrypted_messages p (circuit_key p c k) material messages) given.preset given.valid given.keys.secret
    (has_keys p c k material messages given many) many (fresh p c k material messages given many) are in
    record {
      inputs = kept.0;
      noises = λ w l. (kept.1.each w (omega (arith, l, length-wires c))).noise;
    }
