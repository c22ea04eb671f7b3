use Rattle.std.proofs.Common.{◌≡◌, length, arith, ap, ◌∙◌}
use lib.ListN.{drop}
use Rattle.heco_nums.specs.declared.preset.Preset.{Preset}
use Rattle.heco_poly.proofs.Written.{front}
use Rattle.heco_slots.specs.Slots.{decoded}
use Rattle.heco_scheme.specs.Encryption.{decrypted}
use Rattle.heco_scheme.proofs.FreshNoise.{decrypted_is}
use Rattle.heco_bfv.proofs.PhaseSteps.{decoded_reduced, decrypted_below}
use Rattle.heco_bfv.proofs.decryption.decrypt.Goals as goal

pub decode-requires-clause-below : goal.decode-requires-clause-below
decode-requires-clause-below c =
    let l : length c.message_into.new.out ≡ c.args.scratch.now.message.len = omega (arith, ap length c.as_mut_slice.ensures.value, c.message_into.auto.out) in
    let m : c.as_slice.result.now ≡ decrypted c.args.s.now.preset c.args.s.now.places c.args.c.now = c.as_slice.ensures.value ∙ front c.args.scratch.now.message.len c.message_into.new.out (drop (length c.message_into.new.out) c.args.scratch.now.message.items) l ∙ c.message_into.ensures.formula in
    rw (m, c.requires.table) (decrypted_below c.args.s.now.preset c.args.s.now.places c.args.c.now)

pub returns-clause-formula : goal.returns-clause-formula
returns-clause-formula c =
    let l : length c.message_into.new.out ≡ c.args.scratch.now.message.len = omega (arith, ap length c.as_mut_slice.ensures.value, c.message_into.auto.out) in
    let m : c.as_slice.result.now ≡ decrypted c.args.s.now.preset c.args.s.now.places c.args.c.now = c.as_slice.ensures.value ∙ front c.args.scratch.now.message.len c.message_into.new.out (drop (length c.message_into.new.out) c.args.scratch.now.message.items) l ∙ c.message_into.ensures.formula in
    c.decode.ensures ∙ ap (λ (x : Preset). decoded x c.as_slice.result.now) c.requires.table ∙ ap (decoded c.args.s.now.preset) m

pub returns-clause-right : goal.returns-clause-right
returns-clause-right c = λ m E h x. returns-clause-formula c ∙ ap (decoded c.args.s.now.preset) (decrypted_is c.args.s.now.preset c.args.s.now.places c.args.c.now m E h x) ∙ decoded_reduced c.args.s.now.preset m
