use Rattle.std.proofs.Common.{◌≡◌, ap, ◌∙◌}
use Rattle.heco_material.specs.declared.words.EncRow.{EncRow}
use Rattle.heco_scheme.specs.Encryption.{encrypted}
use Rattle.heco_scheme.proofs.FreshNoise.{encrypted_noise}
use Rattle.heco_bfv.proofs.Shapes.{encrypted_ciphertext}
use Rattle.heco_bfv.proofs.encryption.encrypt_poly.Goals as goal

pub returns-clause-formula : goal.returns-clause-formula
returns-clause-formula c = λ r er.
    let row : c.get.result.now ≡ r = (let g = c.get.ensures in cc) in
    c.of.ensures.value ∙ c.encrypt_into.ensures ∙ ap (λ (x : EncRow). encrypted c.args.e.now.preset c.args.e.now.p0 c.args.e.now.p1 x.u x.e1 x.e2 c.args.m.now) row

pub returns-clause-ciphertext : goal.returns-clause-ciphertext
returns-clause-ciphertext c =
    let r : EncRow = c.get.result.now in
    rw (returns-clause-formula c c.get.result.now c.get.ensures) (encrypted_ciphertext c.args.e.now.preset c.args.e.now.p0 c.args.e.now.p1 r.u r.e1 r.e2 c.args.m.now)

pub returns-clause-noise : goal.returns-clause-noise
returns-clause-noise c = λ r s er hs hp hu h1 h2. rw (returns-clause-formula c r er) (encrypted_noise c.args.e.now.preset s c.args.e.now.p0 c.args.e.now.p1 r.u r.e1 r.e2 c.args.m.now hs hp hu h1 h2)
