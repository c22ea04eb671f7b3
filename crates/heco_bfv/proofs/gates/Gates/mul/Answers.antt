use Rattle.std.proofs.Common.{◌∙◌, ap, length}
use Rattle.heco_nums.specs.declared.preset.Preset.{Preset}
use Rattle.heco_bfv.proofs.Seen.{seen, at_first, at_second, two_parts}
use Rattle.heco_scheme.proofs.ProductNoise.{multiplied_is, multiplied_noise}
use Rattle.heco_bfv.proofs.Shapes.{multiplied_ciphertext, multiplied_count}
use Rattle.heco_bfv.proofs.gates.Gates.mul.Goals as goal

pub returns-in-Some-clause-formula : goal.returns-in-Some-clause-formula
returns-in-Some-clause-formula c =
    let p : Preset = c.args.self.now.preset in
    let A = seen p.n c.args.a.now c.a.inside.first c.a.inside.second c.a.inside.third c.a.view_is c.requires.a in
    let B = seen p.n c.args.b.now c.b.inside.first c.b.inside.second c.b.inside.third c.b.view_is c.requires.b in
    multiplied_is p c.args.self.now.tensor.preset c.args.a.now c.args.b.now c.a.inside.first c.a.inside.second c.b.inside.first c.b.inside.second c.product.new.o0 c.product.new.o1 c.product.new.o2 c.args.self.now.one_preset
    (at_first p.n c.args.a.now c.a.inside.first c.a.inside.second c.a.inside.third A) (at_second p.n c.args.a.now c.a.inside.first c.a.inside.second c.a.inside.third A)
    (at_first p.n c.args.b.now c.b.inside.first c.b.inside.second c.b.inside.third B) (at_second p.n c.args.b.now c.b.inside.first c.b.inside.second c.b.inside.third B)
    c.product.ensures.first c.product.ensures.second c.product.ensures.third

pub returns-in-Some-clause-noise : goal.returns-in-Some-clause-noise
returns-in-Some-clause-noise c = λ s m l E F hs hE hF x y.
    let p : Preset = c.args.self.now.preset in
    let A = seen p.n c.args.a.now c.a.inside.first c.a.inside.second c.a.inside.third c.a.view_is c.requires.a in
    let B = seen p.n c.args.b.now c.b.inside.first c.b.inside.second c.b.inside.third c.b.view_is c.requires.b in
    rw (returns-in-Some-clause-formula c) (multiplied_noise p s c.args.a.now c.args.b.now m l E F hs
    (two_parts p.n c.args.a.now c.a.inside.first c.a.inside.second c.a.inside.third A c.requires.a_two c.as_slice-valid.ensures.below c.as_slice-valid-2.ensures.below)
    (two_parts p.n c.args.b.now c.b.inside.first c.b.inside.second c.b.inside.third B c.requires.b_two c.as_slice-valid-3.ensures.below c.as_slice-valid-4.ensures.below) hE hF x y)

pub returns-in-Some-clause-ciphertext : goal.returns-in-Some-clause-ciphertext
returns-in-Some-clause-ciphertext c = rw (returns-in-Some-clause-formula c) (multiplied_ciphertext c.args.self.now.preset c.args.a.now c.args.b.now)

pub returns-in-Some-clause-count : goal.returns-in-Some-clause-count
returns-in-Some-clause-count c = ap length (returns-in-Some-clause-formula c) ∙ multiplied_count c.args.self.now.preset c.args.a.now c.args.b.now
