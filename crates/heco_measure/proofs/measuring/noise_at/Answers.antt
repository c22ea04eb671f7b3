use Rattle.std.proofs.Common.{◌≡◌, ◌∙◌, [], IfOk, sym, ap, subst}
use Rattle.std.specs.Prelude.{unwrap_or}
use Rattle.heco_run.proofs.Gathering.{entry_read}
use Rattle.heco_run_laws.specs.Runs.{Ciphertext}
use Rattle.heco_scheme.specs.Noise.{noise}
use Rattle.heco_measure.proofs.measuring.noise_at.Goals as goal

pub noise-requires-clause-c : goal.noise-requires-clause-c
noise-requires-clause-c c =
    let at = entry_read c.args.store.now.items c.args.wire c.index.result.now c.requires.inside c.index.ensures ∙ c.in-Some.is in
    c.requires.entries.ciphertexts c.args.wire c.in-Some.c at

pub returns-in-Some : goal.returns-in-Some
returns-in-Some c =
    let at = entry_read c.args.store.now.items c.args.wire c.index.result.now c.requires.inside c.index.ensures ∙ c.in-Some.is in
    subst (λ (x : Ciphertext). IfOk c.noise.result (λ e. e ≡ noise c.args.s.now.preset c.args.s.now.places x c.args.m.now)) (sym (ap (λ o. unwrap_or o []) at)) c.noise.ensures

pub returns-in-None : goal.returns-in-None
returns-in-None c =
    let at = entry_read c.args.store.now.items c.args.wire c.index.result.now c.requires.inside c.index.ensures ∙ c.in-None.is in
    absurd (let there = rw at at (c.requires.entries.there c.args.wire c.requires.inside) in cc)
