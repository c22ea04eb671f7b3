-- Each wire of a run decrypts, in each row, to what it means.
use Rattle.std.proofs.Common.{◌≡◌, ◌∙◌, ℕ, ◌*◌, ◌^◌, ◌<◌, List, [], length, map, get_or, refl, sym, ap, inl, arith, inr}
use Rattle.std.proofs.lemmas.List.{ext_get_or, get_or-map}
use Rattle.heco_nums.specs.declared.preset.Preset.{Preset}
use Rattle.heco_nums.proofs.PresetFacts.{facts}
use Rattle.heco_nums.specs.Runs.{along}
use Rattle.heco_circuit.specs.Bounds.{weights_of, wire_bounds}
use Rattle.heco_circuit.specs.Plans.{wire_parts}
use Rattle.heco_meaning.specs.Meanings.{with_wire, wires_of}
use Rattle.heco_ring.specs.Remainders.{reduced}
use Rattle.heco_ring.specs.Ring.{wholes}
use Rattle.heco_ring.proofs.Reduced.{same_wholes}
use Rattle.heco_ring.proofs.SlotLaws.{value_same}
use Rattle.heco_slots.specs.Rows.{second_row, slot_in, row_of}
use Rattle.heco_slots.proofs.SlotsInRow.{row_long, row_at}
use Rattle.heco_scheme.proofs.FreshNoise.{decrypted_is, encrypted_noise}
use Rattle.heco_run_laws.specs.Runs.{ciphertext_at, run_of}
use Rattle.heco_run_laws.specs.Messages.{message_at, messages_along}
use Rattle.heco_run_laws.specs.Carried.{AllKeep, two_row_messages}
use Rattle.heco_run_laws.specs.DecryptedRows.{EncryptionsAreFresh, RowsDecryptToTheMeaning, TwoRowsDecryptApart}
use Rattle.heco_run_laws.proofs.GateWords.{encrypted_words, length-encrypted}
use Rattle.heco_run_laws.proofs.RowsOfMessages.{messages_mean, wires_mean, first_rows, second_rows, length-two_rows}
use Rattle.heco_run_laws.proofs.Wires.{circuit_keeps}

pub encryptions_fresh : EncryptionsAreFresh
encryptions_fresh p s p0 p1 u e1 e2 m hs hp hu h1 h2 = record {
  shape = record { count = length-encrypted p p0 p1 u e1 e2 m; two_or_three = inl refl; words = encrypted_words p p0 p1 u e1 e2 m };
  noise = encrypted_noise p s p0 p1 u e1 e2 m hs hp hu h1 h2;
}

slot_same : (p : Preset) (e : ℕ) (m : List ℕ) (j : ℕ) → slot_in p e (reduced p.t p.n (wholes m)) j ≡ slot_in p e m j
unfolding slot_in
slot_same p e m j = value_same p.n p.t p.zeta (e * 3 ^ j) (wholes (reduced p.t p.n (wholes m))) (wholes m) (facts p).t_pos (same_wholes p.t p.n (wholes m) (facts p).t_pos)

-- a row depends on the coefficients modulo t alone
row_reduced : (p : Preset) (e : ℕ) (m : List ℕ) → row_of p e (reduced p.t p.n (wholes m)) ≡ row_of p e m
row_reduced p e m = ext_get_or 0 (row_of p e (reduced p.t p.n (wholes m))) (row_of p e m) (row_long p e (reduced p.t p.n (wholes m)) ∙ sym (row_long p e m)) (λ j h.
    let l : j < p.slots = omega (arith, row_long p e (reduced p.t p.n (wholes m))) in
    row_at p e (reduced p.t p.n (wholes m)) j l ∙ slot_same p e m j ∙ sym (row_at p e m j l))

pub rows_decrypt : RowsDecryptToTheMeaning
rows_decrypt p e s keys c messages rows inputs row id valid sparse have many fresh same w l =
    let all : AllKeep p s (wire_parts c) (wire_bounds c.preset (weights_of c.preset c.vectors) c.inputs c.gates) (messages_along p c messages) (run_of p keys c inputs) = circuit_keeps p s keys c messages inputs id valid sparse have many fresh in
    let m : List ℕ = message_at (messages_along p c messages) w in
    let means : map (row_of p e) (messages_along p c messages) ≡ wires_of c rows =
    messages_mean p e c messages row id valid many ∙ ap (λ xs. along (with_wire p.t c.vectors) xs c.gates) same ∙ wires_mean p c rows id in
    ap (row_of p e) (decrypted_is p s (ciphertext_at (run_of p keys c inputs) w) m (get_or (wire_bounds c.preset (weights_of c.preset c.vectors) c.inputs c.gates) w 0) (all.quiet w l) (all.each w l).noise)
    ∙ row_reduced p e m ∙ sym (get_or-map (row_of p e) (messages_along p c messages) w [] [] (omega (arith, l, all.as_many_messages))) ∙ ap (λ vs. get_or vs w []) means

pub two_rows_apart : TwoRowsDecryptApart
two_rows_apart p s keys c vs ws inputs id valid sparse have many others fit_first fit_second fresh w l =
    let same : length vs ≡ length ws = many ∙ sym others in
    let long : length (two_row_messages p vs ws) ≡ length c.inputs = length-two_rows p vs ws same ∙ many in (
      rows_decrypt p 1 s keys c (two_row_messages p vs ws) vs inputs (inl refl) id valid sparse have long fresh (first_rows p vs ws same fit_first) w l,
      rows_decrypt p (second_row p) s keys c (two_row_messages p vs ws) ws inputs (inr refl) id valid sparse have long fresh (second_rows p vs ws same fit_second) w l,
    )
