-- What wires carry, with the slots of the first row: from the noise of messages and from their rows.
use Rattle.std.proofs.Common.{◌≡◌, ◌∙◌, ℕ, List, [], ◌∷◌, length, map, get_or, refl, sym, ap, ap₂, arith, inl}
use Rattle.std.specs.List.{AllZip}
use Rattle.std.proofs.lemmas.List.{get_or-map, length-map}
use lib.IntN.{ℤ}
use Rattle.heco_nums.specs.declared.preset.Preset.{Preset}
use Rattle.heco_nums.specs.Runs.{along}
use Rattle.heco_circuit.specs.Bounds.{weights_of, wire_bounds}
use Rattle.heco_circuit.specs.Plans.{wire_parts}
use Rattle.heco_meaning.specs.Meanings.{filled, with_wire, wires_of}
use Rattle.heco_slots.specs.Rows.{first_row, row_of}
use Rattle.heco_slots.proofs.SlotsInRow.{first_is_decoded}
use Rattle.heco_run_laws.specs.Runs.{Ciphertext, run_of}
use Rattle.heco_run_laws.specs.Messages.{input_message, messages_along, messages_of}
use Rattle.heco_run_laws.specs.Carried.{AllKeep, IsFresh, IsFreshFor, WiresCarryTheirMessages}
use Rattle.heco_run_laws.proofs.Wires.{circuit_keeps}
use Rattle.heco_run_laws.proofs.RowsOfMessages.{messages_mean, wires_mean}

module _ (p : Preset) (s : List ℤ) where
  fresh_for : (rows : List (List ℕ)) (inputs : List Ciphertext) → AllZip (IsFresh p s) rows inputs → AllZip (IsFreshFor p s) (map (input_message p) rows) inputs
  fresh_for [] [] h = h
  fresh_for [] (c ∷ inputs) h = absurd h
  fresh_for (v ∷ rows) [] h = absurd h
  fresh_for (v ∷ rows) (c ∷ inputs) h = (record { shape = h.0.shape; noise = h.0.noise }, fresh_for rows inputs h.1)

  slots_of_inputs : (rows : List (List ℕ)) (inputs : List Ciphertext) → AllZip (IsFresh p s) rows inputs → map (row_of p first_row) (map (input_message p) rows) ≡ map (filled p.slots) rows
  slots_of_inputs [] inputs h = refl
  slots_of_inputs (v ∷ rows) [] h = absurd h
  slots_of_inputs (v ∷ rows) (c ∷ inputs) h = ap₂ (λ x xs. x ∷ xs) (first_is_decoded p (input_message p v) ∙ h.0.means) (slots_of_inputs rows inputs h.1)

pub circuit_carries : WiresCarryTheirMessages
unfolding messages_of
circuit_carries p s keys c rows inputs id valid sparse have many fresh =
    let long : length (map (input_message p) rows) ≡ length c.inputs = length-map rows (input_message p) ∙ many in
    let keep : AllKeep p s (wire_parts c) (wire_bounds c.preset (weights_of c.preset c.vectors) c.inputs c.gates) (messages_along p c (map (input_message p) rows)) (run_of p keys c inputs) =
    circuit_keeps p s keys c (map (input_message p) rows) inputs id valid sparse have long (fresh_for p s rows inputs fresh) in
    let means : map (row_of p first_row) (messages_along p c (map (input_message p) rows)) ≡ wires_of c rows =
    messages_mean p 1 c (map (input_message p) rows) (inl refl) id valid long ∙ ap (λ xs. along (with_wire p.t c.vectors) xs c.gates) (slots_of_inputs p s rows inputs fresh) ∙ wires_mean p c rows id in
    let as_many : length (wires_of c rows) ≡ length (wire_parts c) = sym (ap length means) ∙ length-map (messages_along p c (map (input_message p) rows)) (row_of p first_row) ∙ keep.as_many_messages in
    record {
      as_many_bounds = keep.as_many_bounds;
      as_many_slots = as_many;
      as_many_messages = keep.as_many_messages;
      as_many_wires = keep.as_many_wires;
      quiet = keep.quiet;
      each = λ w h. record {
        shape = (keep.each w h).shape;
        noise = (keep.each w h).noise;
        means = sym (first_is_decoded p (get_or (messages_along p c (map (input_message p) rows)) w []))
            ∙ sym (get_or-map (row_of p first_row) (messages_along p c (map (input_message p) rows)) w [] [] (omega (arith, h, keep.as_many_messages))) ∙ ap (λ vs. get_or vs w []) means;
      };
    }
