use Rattle.std.proofs.Common.{◌≡◌, length, arith, ap, ◌∙◌}
use lib.ListN.{drop}
use Rattle.heco_nums.specs.declared.preset.Preset.{Preset}
use Rattle.heco_poly.proofs.Written.{front}
use Rattle.heco_slots.specs.Slots.{encoded}
use Rattle.heco_bfv.proofs.EncryptSteps.{encoded_below}
use Rattle.heco_bfv.proofs.encryption.encrypt.Goals as goal

pub encrypt_poly-requires-clause-below : goal.encrypt_poly-requires-clause-below
encrypt_poly-requires-clause-below c =
    let l : length c.encode.new.out ≡ c.in_ok-message.message.len = omega (arith, ap length c.as_mut_slice.ensures.value, c.encode.auto.out) in
    let t : c.in_ok-table.table.preset ≡ c.args.e.now.preset = c.in_ok-table.ensures ∙ c.preset-p.ensures in
    let m : c.as_slice.result.now ≡ encoded c.args.e.now.preset c.args.slots.now = c.as_slice.ensures.value ∙ front c.in_ok-message.message.len c.encode.new.out (drop (length c.encode.new.out) c.in_ok-message.message.items) l ∙ c.encode.ensures ∙ ap (λ (x : Preset). encoded x c.args.slots.now) t in
    rw m (encoded_below c.args.e.now.preset c.args.slots.now)

pub returns-clause-formula : goal.returns-clause-formula
returns-clause-formula c =
    let l : length c.encode.new.out ≡ c.in_ok-message.message.len = omega (arith, ap length c.as_mut_slice.ensures.value, c.encode.auto.out) in
    let t : c.in_ok-table.table.preset ≡ c.args.e.now.preset = c.in_ok-table.ensures ∙ c.preset-p.ensures in
    let m : c.as_slice.result.now ≡ encoded c.args.e.now.preset c.args.slots.now = c.as_slice.ensures.value ∙ front c.in_ok-message.message.len c.encode.new.out (drop (length c.encode.new.out) c.in_ok-message.message.items) l ∙ c.encode.ensures ∙ ap (λ (x : Preset). encoded x c.args.slots.now) t in
    rw m at c.encrypt_poly.ensures.formula

pub returns-clause-noise : goal.returns-clause-noise
returns-clause-noise c =
    let l : length c.encode.new.out ≡ c.in_ok-message.message.len = omega (arith, ap length c.as_mut_slice.ensures.value, c.encode.auto.out) in
    let t : c.in_ok-table.table.preset ≡ c.args.e.now.preset = c.in_ok-table.ensures ∙ c.preset-p.ensures in
    let m : c.as_slice.result.now ≡ encoded c.args.e.now.preset c.args.slots.now = c.as_slice.ensures.value ∙ front c.in_ok-message.message.len c.encode.new.out (drop (length c.encode.new.out) c.in_ok-message.message.items) l ∙ c.encode.ensures ∙ ap (λ (x : Preset). encoded x c.args.slots.now) t in
    rw m at c.encrypt_poly.ensures.noise
