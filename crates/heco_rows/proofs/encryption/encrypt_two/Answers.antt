use Rattle.std.proofs.Common.{◌≡◌, length, arith, ap, ◌∙◌}
use lib.ListN.{drop}
use Rattle.heco_nums.specs.declared.preset.Preset.{Preset}
use Rattle.heco_poly.proofs.Written.{front}
use Rattle.heco_slots.specs.Rows.{encoded_two}
use Rattle.heco_rows.proofs.Encoded.{encoded_two_below}
use Rattle.heco_rows.proofs.encryption.encrypt_two.Goals as goal

pub encrypt_poly-requires-clause-below : goal.encrypt_poly-requires-clause-below
encrypt_poly-requires-clause-below c =
    let l : length c.encode_two.new.out ≡ c.in_ok-message.message.len = omega (arith, ap length c.as_mut_slice.ensures.value, c.encode_two.auto.out) in
    let m : c.as_slice.result.now ≡ encoded_two c.args.e.now.preset c.args.first.now c.args.second.now =
    c.as_slice.ensures.value ∙ front c.in_ok-message.message.len c.encode_two.new.out (drop (length c.encode_two.new.out) c.in_ok-message.message.items) l ∙ c.encode_two.ensures
    ∙ ap (λ (x : Preset). encoded_two x c.args.first.now c.args.second.now) c.requires.table in
    rw m (encoded_two_below c.args.e.now.preset c.args.first.now c.args.second.now)

pub returns-clause-formula : goal.returns-clause-formula
returns-clause-formula c =
    let l : length c.encode_two.new.out ≡ c.in_ok-message.message.len = omega (arith, ap length c.as_mut_slice.ensures.value, c.encode_two.auto.out) in
    let m : c.as_slice.result.now ≡ encoded_two c.args.e.now.preset c.args.first.now c.args.second.now =
    c.as_slice.ensures.value ∙ front c.in_ok-message.message.len c.encode_two.new.out (drop (length c.encode_two.new.out) c.in_ok-message.message.items) l ∙ c.encode_two.ensures
    ∙ ap (λ (x : Preset). encoded_two x c.args.first.now c.args.second.now) c.requires.table in
    rw m at c.encrypt_poly.ensures.formula

pub returns-clause-noise : goal.returns-clause-noise
returns-clause-noise c =
    let l : length c.encode_two.new.out ≡ c.in_ok-message.message.len = omega (arith, ap length c.as_mut_slice.ensures.value, c.encode_two.auto.out) in
    let m : c.as_slice.result.now ≡ encoded_two c.args.e.now.preset c.args.first.now c.args.second.now =
    c.as_slice.ensures.value ∙ front c.in_ok-message.message.len c.encode_two.new.out (drop (length c.encode_two.new.out) c.in_ok-message.message.items) l ∙ c.encode_two.ensures
    ∙ ap (λ (x : Preset). encoded_two x c.args.first.now c.args.second.now) c.requires.table in
    rw m at c.encrypt_poly.ensures.noise
