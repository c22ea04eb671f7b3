-- Each gate's key is among those that are made for the circuit.
use Rattle.std.proofs.Common.{◌≡◌, ◌∙◌, ℕ, suc, ◌+◌, ◌-◌, ◌<◌, ◌≤◌, Bool, true, ◌||◌, List, [], ◌∷◌, length, refl, sym, ap, subst, inl, inr, arith, if◌then◌else◌, ◌==◌, nat_le, get_or}
use Rattle.std.specs.List.{list_any}
use Rattle.std.proofs.lemmas.Bool.{and_parts, cases_Bool, cond-true, cond-false, eq-eqb, eqb-true, leb-true, or_left, or_right}
use lib.IntN.{ℤ}
use Rattle.heco_nums.specs.Presets.{modulus_of, slots_of}
use Rattle.heco_nums.specs.declared.preset.Preset.{Preset}
use Rattle.heco_nums.proofs.Amounts.{any_passing}
use Rattle.heco_nums.specs.Runs.{all_along}
use Rattle.heco_circuit.specs.Circuits.{IsCircuit}
use Rattle.heco_circuit.specs.Needs.{is_relin, turns_by, needs_relin, needed_turns, needed_keys}
use Rattle.heco_circuit.specs.Plans.{Plan, input_parts}
use Rattle.heco_circuit.specs.Validity.{has_parts, is_between, is_gate, with_gate}
use Rattle.heco_circuit.specs.declared.gate.Gate.{Gate}
use Rattle.heco_circuit.specs.declared.gate.Gate.TheVariants.{Neg, Add, Sub, Mul, Relin, Scale, Shift, Turn, Weigh}
use Rattle.heco_keys.specs.Made.{purpose, source_of}
use Rattle.heco_material.specs.KeyLists.{KeyLists, IsKeyMaterial}
use Rattle.heco_run_laws.specs.Carried.{HasKey, HaveKeys}
use Rattle.heco_run_laws.specs.Runs.{Rows, turn_keys, rows_beside}
use Rattle.heco_run_laws.proofs.FoundKeys.{turn_key_at, length-turn_keys}
use Rattle.heco_run_laws.proofs.Wires.{formed_gates}
use Rattle.heco_scheme.specs.Keys.{square, turned_secret, IsSwitchKey}
use Rattle.heco_run_laws.specs.CircuitKeys.{circuit_rows, switch_keys}
use Rattle.heco_keys.proofs.MadeRows.{length-all, made_switch, relin_source, turn_source}

-- what holds of each key and its amount holds of the key beside an amount that is there
beside_all : (P : ℕ → Rows → Type 0) (r : ℕ) (turns : List ℕ) (keys : List Rows) → length keys ≡ length turns → ((j : ℕ) → j < length turns → P (get_or turns j 0) (get_or keys j []))
    → list_any (λ t. t == r) turns ≡ true → P r (rows_beside r turns keys)
beside_all P r [] keys e each h = absurd (let no : ⊥ = cc in no)
beside_all P r (t ∷ turns) [] e each h = absurd (omega arith)
beside_all P r (t ∷ turns) (k ∷ keys) e each h = elim (cases_Bool (t == r)) [
  | inl same ↦ subst (P r) (sym (cond-true (t == r) k (rows_beside r turns keys) same)) (subst (λ x. P x k) (eqb-true t r same) (each 0 (omega arith)))
  | inr other ↦ subst (P r) (sym (cond-false (t == r) k (rows_beside r turns keys) other))
      (beside_all P r turns keys (omega arith) (λ j l. each (suc j) (omega arith)) (subst (λ b. (b || list_any (λ x. x == r) turns) ≡ true) other h))
]

-- ---- the keys of a circuit

relin_count : (b : Bool) (n : ℕ) → b ≡ true → 0 < (if b then 1 else 0) + n
relin_count b n e = rw e (omega arith)

module _ (p : Preset) (c : Plan) (k : KeyLists) (material : IsKeyMaterial p.n p.h p.b (needed_keys c) k) where
  inside : (j : ℕ) → j < (if needs_relin c then 1 else 0) + length (needed_turns c) → j < length k.switch
  inside j l = let e : length k.switch ≡ (if needs_relin c then 1 else 0) + length (needed_turns c) = material.count in omega arith

  relin_key : needs_relin c ≡ true → IsSwitchKey p.n p.b k.s (square p.n k.s) (get_or (circuit_rows p.n c k) 0 [])
  relin_key e =
      let source : source_of p.n k.s (purpose (needs_relin c) (needed_turns c) 0) ≡ square p.n k.s =
      ap (λ b. source_of p.n k.s (purpose b (needed_turns c) 0)) e ∙ relin_source p.n k.s (needed_turns c) in
      subst (λ (from : List ℤ). IsSwitchKey p.n p.b k.s from (get_or (circuit_rows p.n c k) 0 [])) source
      (made_switch p.n k.s (needs_relin c) (needed_turns c) k.switch p.b 0 material.switch (inside 0 (relin_count (needs_relin c) (length (needed_turns c)) e)))

  pub many : length (circuit_rows p.n c k) ≡ (if needs_relin c then 1 else 0) + length (needed_turns c)
  many = length-all p.n k.s (needs_relin c) (needed_turns c) k.switch ∙ material.count

  turn_key : (j : ℕ) → j < length (needed_turns c)
      → IsSwitchKey p.n p.b k.s (turned_secret p.n k.s (get_or (needed_turns c) j 0)) (get_or (turn_keys (needs_relin c) (circuit_rows p.n c k)) j [])
  turn_key j l =
      rw (turn_key_at (needs_relin c) j (circuit_rows p.n c k), ← (turn_source p.n k.s (needs_relin c) (needed_turns c) j))
      (made_switch p.n k.s (needs_relin c) (needed_turns c) k.switch p.b ((if needs_relin c then 1 else 0) + j) material.switch (inside ((if needs_relin c then 1 else 0) + j) (omega arith)))

  turn_key_of : (r : ℕ) → 1 ≤ r → r ≤ slots_of c.preset - 1 → list_any (turns_by r) c.gates ≡ true → IsSwitchKey p.n p.b k.s (turned_secret p.n k.s r) ((switch_keys p.n c k).turn r)
  turn_key_of r low high h =
      beside_all (λ t rows. IsSwitchKey p.n p.b k.s (turned_secret p.n k.s t) rows) r (needed_turns c) (turn_keys (needs_relin c) (circuit_rows p.n c k))
      (length-turn_keys (needs_relin c) (circuit_rows p.n c k) (length (needed_turns c)) many) turn_key
      (any_passing (λ t. list_any (turns_by t) c.gates) 1 (slots_of c.preset - 1) r (low, omega arith, h))

  abbrev Occur : List Gate → Type 0
  Occur gates = (test : Gate → Bool) → list_any test gates ≡ true → list_any test c.gates ≡ true

  gates_have : (gates : List Gate) (ps : List ℕ) → all_along (is_gate (modulus_of c.preset) (slots_of c.preset) (length c.vectors)) with_gate ps gates ≡ true → Occur gates → HaveKeys p k.s (switch_keys p.n c k) gates
  gates_have [] ps valid among = tt
  gates_have (g ∷ gates) ps valid among =
      let both = and_parts (is_gate (modulus_of c.preset) (slots_of c.preset) (length c.vectors) ps g) (all_along (is_gate (modulus_of c.preset) (slots_of c.preset) (length c.vectors)) with_gate (with_gate ps g) gates) valid in
      (gate_has g both.0 (λ test h. among test (or_left (test g) (list_any test gates) h)), gates_have gates (with_gate ps g) both.1 (λ test h. among test (or_right (test g) (list_any test gates) h)))
    where
      gate_has : (g : Gate) → is_gate (modulus_of c.preset) (slots_of c.preset) (length c.vectors) ps g ≡ true → ((test : Gate → Bool) → test g ≡ true → list_any test c.gates ≡ true) → HasKey p k.s (switch_keys p.n c k) g
      gate_has (Neg a) h is = tt
      gate_has (Add a b) h is = tt
      gate_has (Sub a b) h is = tt
      gate_has (Mul a b) h is = tt
      gate_has (Relin a) h is = relin_key (is is_relin refl)
      gate_has (Scale x a) h is = tt
      gate_has (Shift x a) h is = tt
      gate_has (Turn r a) h is =
          let both = and_parts (is_between 1 (slots_of c.preset - 1) r) (has_parts 2 ps a) h in
          let range = and_parts (nat_le 1 r) (nat_le r (slots_of c.preset - 1)) both.0 in
          turn_key_of r (leb-true 1 r range.0) (leb-true r (slots_of c.preset - 1) range.1) (is (turns_by r) (eq-eqb r r refl))
      gate_has (Weigh v a) h is = tt

pub circuit_has_keys : (p : Preset) (c : Plan) (k : KeyLists) → IsCircuit c → IsKeyMaterial p.n p.h p.b (needed_keys c) k → HaveKeys p k.s (switch_keys p.n c k) c.gates
circuit_has_keys p c k valid material = gates_have p c k material c.gates (input_parts c.inputs) (formed_gates c valid) (λ test h. h)
