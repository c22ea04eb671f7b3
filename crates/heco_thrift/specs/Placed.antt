-- A circuit that was placed from the written homes of its outputs' elements.
use Rattle.std.specs.Prelude.{◌≡◌, ℕ, List, map}
use Rattle.heco_nums.specs.declared.shape.Shape.{Shape}
use Rattle.heco_circuit.specs.Plans.{Plan, shape_of}
use Rattle.heco_written.specs.WrittenForm.{WrittenHome}
use Rattle.heco_thrift.specs.Homes.{HoldsHomes}
use Rattle.heco_thrift.specs.Thrift.{IsThrifty}

-- with this preset and these names and lengths, each element of the outputs holds its home, and the whole is thrifty
pub record IsPlaced (id : ℕ) (inputs outputs : List Shape) (homes : List WrittenHome) (c : Plan) : Type 0 where
  pub preset : c.preset ≡ id
  pub inputs_are : c.inputs ≡ inputs
  pub outputs_are : map shape_of c.outputs ≡ outputs
  pub holds : HoldsHomes c homes
  pub thrift : IsThrifty c homes
