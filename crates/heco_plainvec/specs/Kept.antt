-- What gathering keeps of a circuit, but for its meaning.
use Rattle.std.specs.Prelude.{◌≡◌, ◌≤◌, ◌<◌, ◌+◌, ℕ, length, map, slice_index, None}
use Rattle.std.specs.List.{count_by}
use Rattle.heco_circuit.specs.declared.gate.Output.{Output}
use Rattle.heco_circuit.specs.Needs.{is_relin, needs_relin, needed_turns}
use Rattle.heco_circuit.specs.Plans.{Plan, shape_of}
use Rattle.heco_thrift.specs.Homes.{is_number_cell}
use Rattle.heco_thrift.specs.Thrift.{is_product, bounds_of}
use Rattle.heco_plainvec.specs.Gathered.{source, name}

-- its preset, its inputs, the names, lengths and numbers of its outputs, its needs; no more gates, and as many products and
-- relinearisations; and each wire but the multiples that go has its bound
pub record KeepsTheRest (c d : Plan) : Type 0 where
  pub preset : d.preset ≡ c.preset
  pub inputs : d.inputs ≡ c.inputs
  pub outputs : map shape_of d.outputs ≡ map shape_of c.outputs
  pub numbers : map (λ (o : Output). map is_number_cell o.cells) d.outputs ≡ map (λ (o : Output). map is_number_cell o.cells) c.outputs
  pub relinearisation_needed : needs_relin d ≡ needs_relin c
  pub turns_needed : needed_turns d ≡ needed_turns c
  pub gates : length d.gates ≤ length c.gates
  pub products : count_by is_product d.gates ≡ count_by is_product c.gates
  pub relinearisations : count_by is_relin d.gates ≡ count_by is_relin c.gates
  pub bounds : (a : ℕ) → a < length c.inputs + length c.gates → source c a ≡ None → slice_index (bounds_of d) (name c a) ≡ slice_index (bounds_of c) a
