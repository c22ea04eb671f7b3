-- What gathering keeps of a circuit, together.
use Rattle.std.proofs.Common.{◌≡◌, refl, ℕ, List, [], ◌∷◌, map}
use Rattle.heco_circuit.specs.declared.gate.Cell.{Cell}
use Rattle.heco_circuit.specs.declared.gate.Cell.TheVariants.{Number, Slot}
use Rattle.heco_circuit.specs.declared.gate.Output.{Output}
use Rattle.heco_circuit.specs.Circuits.{IsCircuit}
use Rattle.heco_circuit.specs.Plans.{Plan}
use Rattle.heco_thrift.specs.Homes.{is_number_cell}
use Rattle.heco_rewrites.specs.Wires.{cell_over, output_over}
use Rattle.heco_rewrites.proofs.Outputs.{same_shapes}
use Rattle.heco_plainvec.specs.Gathered.{name, gathered}
use Rattle.heco_plainvec.specs.Kept.{KeepsTheRest}
use Rattle.heco_plainvec.proofs.Counts.{same_relin, same_turns, same_relinearisations, same_products, fewer_gates}
use Rattle.heco_plainvec.proofs.Meaning.{same_bound}

same_numbers : (f : ℕ → ℕ) (xs : List Cell) → map is_number_cell (map (cell_over f) xs) ≡ map is_number_cell xs
same_numbers f [] = refl
same_numbers f (Number n ∷ xs) = rw (same_numbers f xs) refl
same_numbers f (Slot w s ∷ xs) = rw (same_numbers f xs) refl

all_numbers : (f : ℕ → ℕ) (os : List Output) → map (λ (o : Output). map is_number_cell o.cells) (map (output_over f) os) ≡ map (λ (o : Output). map is_number_cell o.cells) os
all_numbers f [] = refl
all_numbers f (o ∷ os) = rw (same_numbers f o.cells, all_numbers f os) refl

pub keeps_the_rest : (c : Plan) → IsCircuit c → KeepsTheRest c (gathered c)
unfolding gathered
keeps_the_rest c h = record {
  preset = refl;
  inputs = refl;
  outputs = same_shapes (name c) c.outputs;
  numbers = all_numbers (name c) c.outputs;
  relinearisation_needed = same_relin c;
  turns_needed = same_turns c;
  gates = fewer_gates c;
  products = same_products c;
  relinearisations = same_relinearisations c;
  bounds = λ a l s. same_bound c a h l s;
}
