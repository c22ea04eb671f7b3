-- The messages of wires, gate by gate.
use Rattle.std.proofs.Common.{◌≡◌, ◌∙◌, ℕ, suc, ◌+◌, ◌<◌, List, [], ◌∷◌, ◌++◌, length, get_or, drop, sym, ap, add-one, drop-cons}
use Rattle.heco_nums.specs.declared.preset.Preset.{Preset}
use Rattle.heco_nums.specs.Runs.{along}
use Rattle.heco_circuit.specs.declared.gate.Gate.{Gate}
use Rattle.heco_run_laws.specs.Messages.{message_by, with_message}

module _ (p : Preset) (vectors messages : List (List ℕ)) (gates : List Gate) (k : ℕ) (d : Gate) (m : List ℕ) where
  -- with the message of the next gate, those behind the gates that are left are the same
  pub along_more : k < length gates → m ≡ message_by p vectors messages (get_or gates k d) → along (with_message p vectors) (messages ++ m ∷ []) (drop (k + 1) gates) ≡ along (with_message p vectors) messages (drop k gates)
  along_more h e =
      let next : drop k gates ≡ get_or gates k d ∷ drop (suc k) gates = drop-cons gates k d h in
      ap (λ (x : List ℕ). along (with_message p vectors) (messages ++ x ∷ []) (drop (k + 1) gates)) e
      ∙ ap (λ (j : ℕ). along (with_message p vectors) (messages ++ message_by p vectors messages (get_or gates k d) ∷ []) (drop j gates)) (add-one k)
      ∙ sym (ap (along (with_message p vectors) messages) next)
