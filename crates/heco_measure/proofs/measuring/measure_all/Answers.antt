use Rattle.std.proofs.Common.{◌≡◌, ◌∙◌, ℕ, List, [], ◌∷◌, ◌++◌, get_or, sym, ap, ap₂, arith}
use Rattle.std.proofs.lemmas.List.{get_or_default}
use Rattle.std.proofs.lemmas.List.FromFn.{map-range_with_len_more}
use Rattle.heco_scheme.specs.Noise.{noise}
use Rattle.heco_measure.specs.Measuring.{measured_of}
use Rattle.heco_measure.specs.inside.Stores.{ciphertext_in}
use Rattle.heco_measure.specs.declared.measuring.Measured.{Measured}
use Rattle.heco_measure.proofs.measuring.measure_all.Goals as goal

abbrev measured : ℕ → ℕ → ℕ → Measured
measured w e b = record { wire = w; noise = e; bound = b }

pub loop-wire-preserved : goal.loop-wire-preserved
loop-wire-preserved c =
    let p = c.args.s.now.preset in
    let s = c.args.s.now.places in
    let k = c.loop-wire.wire in
    let f = measured_of p s (ciphertext_in c.args.store.now.items) c.args.messages.now c.args.bounds.now in
    let at : c.index-messages-wire.result ≡ get_or c.args.messages.now k [] = c.index-messages-wire.is ∙ get_or_default c.args.messages.now k c.index-messages-wire.result [] c.loop-wire-test.true in
    let last : measured k c.in_ok-noise.noise c.bound_at.result ≡ f k =
    ap₂ (λ (e b : ℕ). measured k e b) (c.in_ok-noise.ensures ∙ ap (λ (m : List ℕ). noise p s (ciphertext_in c.args.store.now.items k) m) at) c.bound_at.ensures in
    c.in_ok-push.ensures.ok ∙ ap₂ (λ (l : List Measured) (x : Measured). l ++ x ∷ []) c.loop-wire.invariant last ∙ sym (map-range_with_len_more f 0 k k (omega arith))
