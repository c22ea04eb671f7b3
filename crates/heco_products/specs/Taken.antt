-- Which ciphertext of a result an output's wire takes.
use Rattle.std.specs.Prelude.{◌≡◌, ◌<◌, ℕ, true, List, [], length, slice_index_or, ℤ}
use Rattle.std.specs.List.{count_by, range_with_len}
use Rattle.heco_circuit.specs.Plans.{Plan as Circuit}
use Rattle.heco_nums.specs.declared.preset.Preset.{Preset}
use Rattle.heco_run_laws.specs.Results.{is_output_wire, wire_count}
use Rattle.heco_products.specs.Decrypting.{output_wires, decrypted_slots, decrypted_wires}

-- how many wires below this one outputs have
abbrev pub output_wires_below : Circuit → ℕ → ℕ
output_wires_below c w = count_by (is_output_wire c.outputs) (range_with_len 0 w)

-- an output's wire has the slots of the ciphertext whose number is how many wires below it outputs have
abbrev pub WiresTakeTheirCiphertexts : Type 0
WiresTakeTheirCiphertexts =
    (p : Preset) (e : ℕ) (s : List ℤ) (c : Circuit) (cs : List (List (List ℕ))) (w : ℕ)
    → w < wire_count c → is_output_wire c.outputs w ≡ true → output_wires_below c w < length cs
    → slice_index_or (decrypted_wires p e s (output_wires c) cs) w [] ≡ decrypted_slots p e s (slice_index_or cs (output_wires_below c w) [])
