-- The keys that are made for a circuit, and how many it needs.
use Rattle.std.proofs.Common.{◌≡◌, ◌≤◌, ◌+◌, ◌-◌, ◌∙◌, ℕ, Bool, List, length, sym, ap, subst, arith}
use Rattle.std.specs.Prelude.{if◌then◌else◌, map}
use Rattle.std.specs.List.{list_any}
use Rattle.heco_circuit.specs.Needs.{needs_relin, needed_turns, needed_keys, turns_by}
use Rattle.heco_circuit.proofs.Rising.{needed_amounts}
use Rattle.heco_circuit.specs.Plans.{Plan as Circuit}
use Rattle.heco_key_files.specs.KeyFiles.{eval_lists, made_key, eval_text, secret_text, lists_of as eval_lists_of}
use Rattle.heco_keys.specs.Amounts.{AreAmounts}
use Rattle.heco_keys.specs.Made.{all_rows}
use Rattle.heco_keys.specs.declared.eval.Eval.{Eval}
use Rattle.heco_scheme.specs.Keys.{key_part}
use Rattle.heco_material.specs.KeyLists.{KeyLists, key_count, lists_of}
use Rattle.heco_material.specs.declared.words.KeyWords.{KeyWords}
use Rattle.heco_nums.proofs.Amounts.{passing_few}
use Rattle.heco_nums.specs.Presets.{slots_of}
use Rattle.heco_nums.specs.declared.needs.KeyNeeds.{KeyNeeds}
use Rattle.heco_nums.specs.declared.preset.Preset.{Preset}
use Rattle.heco_nums.proofs.PresetCases.{slots_few}
use Rattle.heco_nums.proofs.PresetFacts.{some_slots}
use Rattle.heco_products.specs.KeyProducts.{secret_file, evaluation_file}
use Rattle.heco_jobs.specs.Products.{Stores}
use Rattle.heco_jobs.specs.declared.product.Product.{Product}
use Rattle.heco_tasks.specs.CircuitTasks.{two_files}

pub count_is : (c : Circuit) (needs : KeyNeeds) → needs.relin ≡ needs_relin c → needs.turns ≡ needed_turns c → key_count needs ≡ needed_keys c
count_is c needs relin turns = ap (λ r. (if r then 1 else 0) + length needs.turns) relin ∙ ap (λ t. (if needs_relin c then 1 else 0) + length t) turns

-- ---- how many there are

pub few_turns : (c : Circuit) → length (needed_turns c) ≤ 511
few_turns c = omega (arith, passing_few (λ r. list_any (turns_by r) c.gates) 1 (slots_of c.preset - 1), slots_few c.preset)

-- ---- the keys that are made

-- the turns of a circuit's material are of its preset
pub material_amounts : (c : Circuit) (p : Preset) (turns : List ℕ) → p.id ≡ c.preset → turns ≡ needed_turns c → AreAmounts p.slots turns
material_amounts c p turns id e =
    subst (AreAmounts p.slots) (sym e) (needed_amounts c p.slots (ap slots_of (sym id) ∙ sym p.row.3) (some_slots p))

-- the evaluation key of these parts has these lists
pub made_is : (k : KeyWords) (e : Eval) → e.needs.relin ≡ k.needs.relin → e.needs.turns ≡ k.needs.turns → e.p0 ≡ key_part k.preset.n k.s k.a k.e → e.p1 ≡ k.a → map (λ key. key.rows) e.switch ≡ all_rows k.preset.n k.s k.needs.relin k.needs.turns k.switch
    → eval_lists_of e ≡ made_key k.preset.n k.needs.relin k.needs.turns (lists_of k)
unfolding made_key
made_is k e relin turns first second switch =
    ap (λ r. eval_lists r e.needs.turns e.p0 e.p1 (map (λ key. key.rows) e.switch)) relin
    ∙ (ap (λ ts. eval_lists k.needs.relin ts e.p0 e.p1 (map (λ key. key.rows) e.switch)) turns
    ∙ (ap (λ p. eval_lists k.needs.relin k.needs.turns p e.p1 (map (λ key. key.rows) e.switch)) first
    ∙ (ap (λ p. eval_lists k.needs.relin k.needs.turns (key_part k.preset.n k.s k.a k.e) p (map (λ key. key.rows) e.switch)) second
    ∙ ap (λ rows. eval_lists k.needs.relin k.needs.turns (key_part k.preset.n k.s k.a k.e) k.a rows) switch)))

abbrev StoresKeys : KeyLists → Product → ℕ → ℕ → Bool → List ℕ → Type 0
StoresKeys k p id n relin turns = Stores (two_files (secret_text id k.s) (eval_text id (made_key n relin turns k))) p

pub stored_for : (c : Circuit) (q : Preset) (k : KeyWords) (p : Product) → k.preset ≡ q → k.needs.relin ≡ needs_relin c → k.needs.turns ≡ needed_turns c
    → StoresKeys (lists_of k) p k.preset.id k.preset.n k.needs.relin k.needs.turns → Stores (two_files (secret_file q (lists_of k)) (evaluation_file q c (lists_of k))) p
unfolding evaluation_file
stored_for c q k p preset relin turns h =
    subst (λ r. StoresKeys (lists_of k) p r.id r.n (needs_relin c) (needed_turns c)) preset
    (subst (λ r. StoresKeys (lists_of k) p k.preset.id k.preset.n r (needed_turns c)) relin
    (subst (λ ts. StoresKeys (lists_of k) p k.preset.id k.preset.n k.needs.relin ts) turns h))
