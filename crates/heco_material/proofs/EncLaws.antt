-- What is read of encryption material is what was spelled, for exactly the material within bounds, and its length.
use Rattle.std.proofs.Common.{◌≡◌, ℕ, ◌*◌, ◌<◌, List, ◌++◌, length, refl, sym, ap, ◌∙◌, arith}
use Rattle.std.specs.Prelude.{ℤ}
use Rattle.std.specs.List.{All}
use Rattle.std.proofs.lemmas.List.{length-append}
use Rattle.std.proofs.lemmas.List.Elements.{All-weaker}
use Rattle.heco_fields.specs.Formats.{Value, ◌>>=◌ as ◌then◌}
use Rattle.heco_fields.proofs.Laws.{Law, then_law, last_law, same_law}
use Rattle.heco_fields.proofs.ManyLaws.{each_law}
use Rattle.heco_nums.specs.MaterialBounds.{IsSparse, AreErrors}
use Rattle.heco_material.specs.declared.words.EncRow.{EncRow}
use Rattle.heco_material.specs.KeyLists.{IsEncRow, IsEncMaterial}
use Rattle.heco_lists.specs.ListFormat.{sparse, errors, bytes_text}
use Rattle.heco_material.specs.EncFormat.{enc_row, encryption, encryptions, encryption_text, encryptions_text, encryptions_length}
use Rattle.heco_lists.proofs.ListLaws.{sparse_law, errors_law}
use Rattle.heco_lists.proofs.Lengths.{length_each, length_bytes}

abbrev Second : ℕ → ℕ → List ℤ → List ℤ → EncRow → Type 0
Second n b u e1 r = AreErrors n b r.e2 × (enc_row u e1 r.e2 ≡ r)

abbrev First : ℕ → ℕ → List ℤ → EncRow → Type 0
First n b u r = AreErrors n b r.e1 × Second n b u r.e1 r

encryption_law : (n h b : ℕ) → b < 128 → (s : ℕ) → Law (encryption n h b s) encryption_text (IsEncRow n h b)
unfolding encryption
encryption_law n h b small s =
    let last = λ (u e1 : List ℤ). last_law (errors n b) (enc_row u e1) (λ r. r.e2) bytes_text (AreErrors n b) (errors_law n b small) (λ e. refl) in
    let from_first = λ (u : List ℤ). then_law (errors n b) (λ e1. errors n b then λ e2. Value (enc_row u e1 e2)) bytes_text (λ (r : EncRow). bytes_text r.e2) (AreErrors n b) (Second n b u) (λ r. r.e1) (errors_law n b small)
    (λ e1 _. last u e1) (λ e1 r l. ap (λ (t : EncRow). t.e1) (sym l.1)) in
    same_law (encryption n h b s) encryption_text encryption_text (λ (r : EncRow). IsSparse n h r.u × First n b r.u r) (IsEncRow n h b)
    (then_law (sparse n h) (λ u. errors n b then λ e1. errors n b then λ e2. Value (enc_row u e1 e2)) bytes_text (λ (r : EncRow). bytes_text r.e1 ++ bytes_text r.e2) (IsSparse n h) (First n b) (λ r. r.u) (sparse_law n h)
    (λ u _. from_first u) (λ u r l. ap (λ (t : EncRow). t.u) (sym l.1.1)))
    (λ r _. refl) (λ r m. record { secret = m.0; first = m.1.0; second = m.1.1.0 }) (λ r m. (m.secret, (m.first, (m.second, refl))))

pub encryptions_law : (n h b count : ℕ) → b < 128 → Law (encryptions n h b count) encryptions_text (IsEncMaterial n h b count)
unfolding encryptions encryptions_text
encryptions_law n h b count small =
    same_law (encryptions n h b count) encryptions_text encryptions_text (λ rows. (length rows ≡ count) × All (IsEncRow n h b) rows) (IsEncMaterial n h b count)
    (each_law (encryption n h b) encryption_text (IsEncRow n h b) (encryption_law n h b small) count 0)
    (λ rows _. refl) (λ rows m. record { count = m.0; rows = m.1 }) (λ rows m. (m.count, m.rows))

length_encryption : (n h b : ℕ) (r : EncRow) → IsEncRow n h b r → length (encryption_text r) ≡ 3 * n
length_encryption n h b r m =
    let i = length-append (bytes_text r.u) (bytes_text r.e1 ++ bytes_text r.e2) in
    let j = length-append (bytes_text r.e1) (bytes_text r.e2) in
    omega (arith, length_bytes r.u, length_bytes r.e1, length_bytes r.e2, m.secret.long, m.first.long, m.second.long)

pub encryptions_long : (n h b count : ℕ) (rows : List EncRow) → IsEncMaterial n h b count rows → length (encryptions_text rows) ≡ encryptions_length n count
unfolding encryptions_text
encryptions_long n h b count rows m =
    length_each encryption_text (3 * n) rows (All-weaker (IsEncRow n h b) (λ r. length (encryption_text r) ≡ 3 * n) (length_encryption n h b) rows m.rows) ∙ ap (λ c. 3 * n * c) m.count
