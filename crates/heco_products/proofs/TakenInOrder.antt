-- The wires of outputs take the ciphertexts of a result in order.
use Rattle.std.proofs.Common.{◌≡◌, ◌∙◌, ℕ, zero, suc, ◌+◌, ◌<◌, Bool, true, false, List, [], ◌∷◌, length, map, take, get_or, refl, ap, sym, subst, cond, arith}
use Rattle.std.specs.List.{count_by, range_with_len}
use Rattle.std.proofs.lemmas.List.Recursion.{is_count_by}
use Rattle.std.proofs.lemmas.List.FromFn.{get_or-map-range_with_len, take-map-range_with_len}
use lib.IntN.{ℤ}
use Rattle.heco_nums.specs.declared.preset.Preset.{Preset}
use Rattle.heco_run_laws.specs.Results.{is_output_wire, wire_count}
use Rattle.heco_products.specs.Decrypting.{output_wires, decrypted_slots, decrypted_wires}
use Rattle.heco_products.specs.Taken.{WiresTakeTheirCiphertexts}

-- how many marks are true
abbrev trues : List Bool → ℕ
trues [] = 0
trues (true ∷ marks) = suc (trues marks)
trues (false ∷ marks) = trues marks

trues_of_map : (f : ℕ → Bool) (xs : List ℕ) → trues (map f xs) ≡ count_by f xs
trues_of_map f xs = is_count_by (λ ys. trues (map f ys)) f refl each xs
  where
    each : (x : ℕ) (ys : List ℕ) → trues (map f (x ∷ ys)) ≡ cond (f x) (1 + trues (map f ys)) (trues (map f ys))
    each x ys = elim (f x) as (λ b. trues (b ∷ map f ys) ≡ cond b (1 + trues (map f ys)) (trues (map f ys))) [
      | true ↦ omega arith
      | false ↦ refl
    ]

module _ (p : Preset) (e : ℕ) (s : List ℤ) where
  taken : (marks : List Bool) (cs : List (List (List ℕ))) (w : ℕ) → get_or marks w false ≡ true → trues (take w marks) < length cs
      → get_or (decrypted_wires p e s marks cs) w [] ≡ decrypted_slots p e s (get_or cs (trues (take w marks)) [])
  taken [] cs w marked few = absurd (let no : ⊥ = cc in no)
  taken (true ∷ marks) [] w marked few = absurd (omega (arith, few))
  taken (true ∷ marks) (c ∷ cs) zero marked few = refl
  taken (true ∷ marks) (c ∷ cs) (suc w) marked few = taken marks cs w marked (omega (arith, few))
  taken (false ∷ marks) cs zero marked few = absurd (let no : ⊥ = cc in no)
  taken (false ∷ marks) cs (suc w) marked few = taken marks cs w marked few

pub wires_take_their_ciphertexts : WiresTakeTheirCiphertexts
unfolding output_wires
wires_take_their_ciphertexts p e s c cs w within marked few =
    let f : ℕ → Bool = is_output_wire c.outputs in
    let here = get_or-map-range_with_len f 0 (wire_count c) w w false within (omega arith) in
    let below = ap trues (take-map-range_with_len f 0 (wire_count c) w (omega (arith, within))) ∙ trues_of_map f (range_with_len 0 w) in
    taken p e s (output_wires c) cs w (here ∙ marked) (subst (λ n. n < length cs) (sym below) few) ∙ ap (λ n. decrypted_slots p e s (get_or cs n [])) below
