use Rattle.std.proofs.Common.{◌≡◌, ◌∙◌, ◌++◌, ℕ, List, length, take, drop, sym, ap}
use Rattle.std.proofs.Math.Seq.{take-append_seam}
use Rattle.heco_scheme.specs.Encryption.{decrypted}
use Rattle.heco_slots.proofs.SlotsInRow.{first_is_decoded}
use Rattle.heco_products.specs.Decrypting.{decrypted_slots}
use Rattle.heco_products.proofs.decrypting.decrypt_slots.Goals as goal

pub returns-clause-slots : goal.returns-clause-slots
unfolding decrypted_slots
returns-clause-slots c =
    let p = c.args.key.now.preset in
    let out = c.decrypt.new.out in
    let rest : List ℕ = drop (length out) c.in_ok-row.row.items in
    let long : c.in_ok-row.row.len ≡ length out = sym (c.decrypt.auto.out ∙ c.as_mut_slice.ensures.len) in
    c.from_vec.ensures ∙ ap (λ n. take n (out ++ rest)) long ∙ take-append_seam out rest ∙ c.decrypt.ensures.formula ∙ sym (first_is_decoded p (decrypted p c.args.key.now.places c.args.c.now))
