use Rattle.std.proofs.Common.{◌≡◌, ◌^◌, ℕ, ap, ◌∙◌}
use Rattle.heco_nums.specs.declared.preset.Preset.{Preset}
use Rattle.heco_ring.specs.Ring.{wholes, plus, times}
use Rattle.heco_ring.specs.Remainders.{reduced}
use Rattle.heco_scheme.specs.Encryption.{scaled_all}
use Rattle.heco_bfv.proofs.EncryptSteps.{encrypted_is}
use Rattle.heco_bfv.proofs.encryption.encrypt_into.Goals as goal

pub returns : goal.returns
returns c =
    let p : Preset = c.args.e.now.preset in
    let n : ℕ = c.args.e.now.preset.n in
    let x : c.masked.new.out ≡ reduced (2 ^ 58) n (plus n (times n (wholes c.args.e.now.p0) c.args.row.now.u) c.args.row.now.e1) = rw (c.requires.c0, c.p0.ensures, c.as_slice-u.ensures, c.as_slice.ensures) at c.masked.ensures.value in
    let y : c.add_scaled.new.out ≡ reduced (2 ^ 58) n (plus n (wholes c.masked.new.out) (scaled_all c.args.e.now.preset c.args.message.now)) = c.add_scaled.ensures.value ∙ ap (λ (r : Preset). reduced (2 ^ 58) r.n (plus r.n (wholes c.masked.new.out) (scaled_all r c.args.message.now))) c.preset.ensures in
    let z : c.masked-2.new.out ≡ reduced (2 ^ 58) n (plus n (times n (wholes c.args.e.now.p1) c.args.row.now.u) c.args.row.now.e2) = rw (c.requires.c1, c.p1.ensures, c.as_slice-u.ensures, c.as_slice-2.ensures) at c.masked-2.ensures.value in
    encrypted_is p c.args.e.now.p0 c.args.e.now.p1 c.args.row.now.u c.args.row.now.e1 c.args.row.now.e2 c.args.message.now c.masked.new.out c.add_scaled.new.out c.masked-2.new.out x y z
