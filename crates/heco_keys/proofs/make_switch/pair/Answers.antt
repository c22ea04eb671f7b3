use Rattle.std.proofs.Common.{◌≡◌, length, ap, ◌∙◌}
use Rattle.heco_scheme.specs.Keys.{switch_part}
use Rattle.heco_keys.proofs.KeySteps.{switched_is}
use Rattle.heco_keys.proofs.make_switch.pair.Goals as goal

pub returns-clause-first : goal.returns-clause-first
returns-clause-first c = λ t i source.
    let n = c.args.p.now.n in
    let lf : length c.in_ok-first.first ≡ n = c.in_ok-first.ensures.long in
    let z = rw lf at c.add_in.ensures.value in
    let a : c.in_ok-a.a ≡ c.args.row.now.a = c.in_ok-a.ensures ∙ c.as_slice.ensures in
    let e : c.as_slice-2.result.now ≡ c.args.row.now.e = c.as_slice-2.ensures in
    switched_is n i c.args.s.now t c.as_slice-2.result.now c.in_ok-a.a c.in_ok-first.first c.args.source.now c.add_in.new.self c.in_ok-first.ensures.value source z
    ∙ ap (λ x. switch_part n c.args.s.now t i x c.as_slice-2.result.now) a ∙ ap (λ x. switch_part n c.args.s.now t i c.args.row.now.a x) e
