use Rattle.std.proofs.Common.{◌≡◌, ◌∙◌, ◌++◌, ℕ, List, length, take, drop, sym, ap}
use Rattle.std.proofs.Math.Seq.{take-append_seam}
use Rattle.heco_products.specs.Decrypting.{decrypted_slots}
use Rattle.heco_products.proofs.both_rows.decrypt_rows.Goals as goal

pub returns-clause-first : goal.returns-clause-first
unfolding decrypted_slots
returns-clause-first c =
    let out = c.decrypt_two.new.first in
    let rest : List ℕ = drop (length out) c.in_ok-first.first.items in
    let long : c.in_ok-first.first.len ≡ length out = sym (c.decrypt_two.auto.first ∙ c.as_mut_slice.ensures.len) in
    c.from_vec.ensures ∙ ap (λ n. take n (out ++ rest)) long ∙ take-append_seam out rest ∙ c.decrypt_two.ensures.first

pub returns-clause-second : goal.returns-clause-second
unfolding decrypted_slots
returns-clause-second c =
    let out = c.decrypt_two.new.second in
    let rest : List ℕ = drop (length out) c.in_ok-second.second.items in
    let long : c.in_ok-second.second.len ≡ length out = sym (c.decrypt_two.auto.second ∙ c.as_mut_slice-2.ensures.len) in
    c.from_vec-2.ensures ∙ ap (λ n. take n (out ++ rest)) long ∙ take-append_seam out rest ∙ c.decrypt_two.ensures.second
