-- Values in two rows: they fit, and their encryptions as far as a loop has come.
use Rattle.std.proofs.Common.{◌≡◌, ◌<◌, ◌≤◌, ◌+◌, ◌∙◌, ℕ, suc, List, [], ◌∷◌, ◌++◌, length, drop, get_or, sym, ap, subst, append_assoc, drop-cons}
use Rattle.std.specs.Prelude.{All}
use Rattle.std.proofs.Math.Numerals.{add-one}
use Rattle.heco_circuit.specs.Circuits.{IsCircuit}
use Rattle.heco_circuit.specs.Plans.{Plan as Circuit}
use Rattle.heco_key_files.specs.KeyFiles.{EvalLists}
use Rattle.heco_material.specs.declared.words.EncRow.{EncRow}
use Rattle.heco_nums.specs.Presets.{slots_of}
use Rattle.heco_nums.specs.declared.preset.Preset.{Preset}
use Rattle.heco_nums.specs.declared.shape.Shape.{Shape}
use Rattle.heco_run_laws.specs.Carried.{FitsRow}
use Rattle.heco_texts.specs.Answers.{HaveFit}
use Rattle.heco_products.specs.Encrypting.{encrypted_message, encrypted_pairs, pair_message}
use Rattle.heco_products.proofs.CircuitFacts.{short_inputs}
use Rattle.heco_products.proofs.Products.{fit_below, fit_short, no_row}

-- values that fit the inputs of a valid circuit fit its rows
pub rows_fit : (p : Preset) (c : Circuit) (rows : List (List ℕ)) → p.id ≡ c.preset → IsCircuit c → HaveFit p.t c.inputs rows → All (FitsRow p) rows
rows_fit p c rows id valid fit =
    let slots : slots_of c.preset ≡ p.slots = ap slots_of (sym id) ∙ sym p.row.3 in
    let short : All (λ (x : Shape). x.len ≤ p.slots) c.inputs = subst (λ n. All (λ (x : Shape). x.len ≤ n) c.inputs) slots (short_inputs c valid) in
    λ j d l. (fit_short p.t p.slots c.inputs rows fit short j d l, fit_below p.t c.inputs rows fit j d l)

module _ (p : Preset) (key : EvalLists) (rows : List EncRow) (first second : List (List ℕ)) (i : ℕ) (v w : List ℕ) (lr : i < length rows) (lf : i < length first) (ls : i < length second) where
  pairs_step : encrypted_pairs p key (drop i rows) (drop i first) (drop i second)
      ≡ encrypted_message p key (get_or rows i no_row) (pair_message p (get_or first i v) (get_or second i w)) ∷ encrypted_pairs p key (drop (i + 1) rows) (drop (i + 1) first) (drop (i + 1) second)
  pairs_step =
      ap (λ x. encrypted_pairs p key x (drop i first) (drop i second)) (drop-cons rows i no_row lr)
      ∙ ap (λ x. encrypted_pairs p key (get_or rows i no_row ∷ drop (suc i) rows) x (drop i second)) (drop-cons first i v lf)
      ∙ ap (λ x. encrypted_pairs p key (get_or rows i no_row ∷ drop (suc i) rows) (get_or first i v ∷ drop (suc i) first) x) (drop-cons second i w ls)
      ∙ ap (λ n. encrypted_message p key (get_or rows i no_row) (pair_message p (get_or first i v) (get_or second i w)) ∷ encrypted_pairs p key (drop n rows) (drop n first) (drop n second)) (sym (add-one i))

  -- one more of them
  pub pairs_push : (cs : List (List (List ℕ))) (c : List (List ℕ)) (whole : List (List (List ℕ))) → c ≡ encrypted_message p key (get_or rows i no_row) (pair_message p (get_or first i v) (get_or second i w))
      → cs ++ encrypted_pairs p key (drop i rows) (drop i first) (drop i second) ≡ whole
      → (cs ++ c ∷ []) ++ encrypted_pairs p key (drop (i + 1) rows) (drop (i + 1) first) (drop (i + 1) second) ≡ whole
  pairs_push cs c whole is total =
      append_assoc cs (c ∷ []) (encrypted_pairs p key (drop (i + 1) rows) (drop (i + 1) first) (drop (i + 1) second))
      ∙ ap (λ x. cs ++ x ∷ encrypted_pairs p key (drop (i + 1) rows) (drop (i + 1) first) (drop (i + 1) second)) is
      ∙ ap (λ (xs : List (List (List ℕ))). cs ++ xs) (sym pairs_step) ∙ total
