-- The gates of vector terms without their wires, relinearised late or at once.
use Rattle.std.specs.Prelude.{◌≡◌, ℕ, Bool, cond, nat_lt, List, [], ◌∷◌, map}
use Rattle.std.specs.List.{flat_map}
use Rattle.heco_written.specs.VectorTerm.{VectorTerm, Input, Multiplied, Turned}
use Rattle.heco_written.specs.Cost.{is_due, cost, late_cost}
use Rattle.heco_written.specs.Needs.{is_product}
use Rattle.heco_circuit.specs.declared.gate.Gate.{Gate}
use Rattle.heco_circuit.specs.declared.gate.Gate.TheVariants.{Neg, Add, Sub, Mul, Relin, Scale, Shift, Turn, Weigh}

-- whether the wire of a term is relinearised: late where it is due, or else where the term is a product
abbrev pub is_relinearised : Bool → List VectorTerm → List VectorTerm → VectorTerm → Bool
is_relinearised late ts vs v = cond late (is_due ts vs v) (is_product v)

-- a gate without its wires
pub data Kind : Type 0 where
  Linear : Kind
  Difference : Kind
  Weighing : Kind
  Product : Kind
  Relinearisation : Kind
  TurnBy : ℕ → Kind

abbrev pub kind : Gate → Kind
kind (Neg a) = Linear
kind (Add a b) = Linear
kind (Sub a b) = Difference
kind (Mul a b) = Product
kind (Relin a) = Relinearisation
kind (Scale c a) = Linear
kind (Shift c a) = Linear
kind (Turn r a) = TurnBy r
kind (Weigh v a) = Weighing

abbrev pub kind_of_term : VectorTerm → Kind
kind_of_term (Multiplied v u) = Product
kind_of_term (Turned r v) = TurnBy r
kind_of_term v = Linear

abbrev pub relinearisation_where : Bool → List Kind
relinearisation_where b = cond b (Relinearisation ∷ []) []

-- the gates of a term among the terms ts, with roots vs
abbrev pub kinds : Bool → List VectorTerm → List VectorTerm → VectorTerm → List Kind
kinds late ts vs (Input a) = []
kinds late ts vs v = kind_of_term v ∷ relinearisation_where (is_relinearised late ts vs v)

-- the gates are those of the terms ts in order, with roots vs: late exactly where that makes fewer gates
abbrev pub AreFewer : List VectorTerm → List VectorTerm → List Gate → Type 0
AreFewer ts vs gates = map kind gates ≡ flat_map (kinds (nat_lt (late_cost vs) (cost vs)) ts vs) ts
