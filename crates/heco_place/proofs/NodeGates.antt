-- What the gate of a node gives, from the carriers of its operands.
use Rattle.std.proofs.Common.{◌≡◌, ℕ, zero, suc, ◌<◌, Bool, true, false, ◌&&◌, ◌||◌, not, cond, List, [], ◌∷◌, length, refl, ◌∙◌, get_or, arith}
use Rattle.std.specs.List.{list_any}
use Rattle.heco_nums.specs.Presets.{modulus_of, slots_of}
use Rattle.heco_nums.specs.declared.shape.Shape.{Shape}
use Rattle.heco_written.specs.VectorTerm.{VectorTerm, Input, same_vector}
use Rattle.heco_written.specs.Cost.{is_long, turns_or_multiplies, is_due}
use Rattle.heco_written.specs.Needs.{is_product}
use Rattle.heco_written.proofs.Parts.{same_vector-itself}
use Rattle.heco_ir.specs.declared.dialect.NodeId.{NodeId}
use Rattle.heco_ir.specs.declared.vector.VNode.{VNode}
use Rattle.heco_ir.specs.declared.vector.VNode.TheVariants.{Input as InputNode, Neg, Add, Mul, Scale, Shift, Turn}
use Rattle.heco_ir.specs.Values.{all_below}
use Rattle.heco_ir.specs.Vectors.{vector_operands}
use Rattle.heco_ir.specs.Terms.{vector_at, vector_term_over}
use Rattle.heco_ir.proofs.Unique.{below_one, below_two}
use Rattle.heco_circuit.specs.declared.gate.Gate.{Gate}
use Rattle.heco_place.specs.declared.carrier.Carrier.{Carrier}
use Rattle.heco_place.specs.declared.way.Way.{Way}
use Rattle.heco_place.specs.declared.way.Way.TheVariants.{Wire, Gate as ByGate}
use Rattle.heco_place.specs.inside.Carried.{Carries, Gives}
use Rattle.heco_place.specs.Fitting.{Fits}
use Rattle.heco_place.specs.inside.Ways.{nowhere, carrier_at, way_of}
use Rattle.heco_place.specs.Kinds.{kind, kinds, relinearisation_where, is_relinearised}
use Rattle.heco_place.specs.inside.Placing.{due_at, IsCarrier}
use Rattle.heco_place.proofs.Bools.{or_left, or_right}
use Rattle.heco_place.proofs.GateGives.{gives_neg, gives_add, gives_mul, gives_scale, gives_shift, gives_turn}

pub any_at : (p : VectorTerm → Bool) (ts : List VectorTerm) (k : ℕ) (d : VectorTerm) → k < length ts → p (get_or ts k d) ≡ true → list_any p ts ≡ true
any_at p [] k d h e = elim h [ ]
any_at p (t ∷ ts) zero d h e = rw e refl
any_at p (t ∷ ts) (suc k) d h e = by (p t) (any_at p ts k d (omega arith) e)
  where
    by : (b : Bool) → list_any p ts ≡ true → (b || list_any p ts) ≡ true
    by true f = refl
    by false f = f

-- a term that is long and used is due, and so its other wire has two parts
pub ready : (late d long due used : Bool) → d ≡ (late && long) → (late ≡ true → due ≡ (long && used)) → used ≡ true → (d && not due) ≡ false
ready false d long due used e f u = rw e refl
ready true d true due used e f u = let g : due ≡ true = f refl ∙ u in rw (e, g) refl
ready true d false due used e f u = rw e refl

late_only : (late a b : Bool) → a ≡ (late && b) → a ≡ cond late b false
late_only true a b e = e
late_only false a b e = e

late_two : (late a b x y : Bool) → a ≡ (late && x) → b ≡ (late && y) → (a || b) ≡ cond late (x || y) false
late_two true a b x y e f = rw (e, f) refl
late_two false a b x y e f = rw (e, f) refl

either : (late b : Bool) → b ≡ cond late b b
either true b = refl
either false b = refl

-- the gate gives the term, and has its kind
pub record IsNodeGate (id : ℕ) (inputs : List Shape) (gates : List Gate) (late : Bool) (ts vs : List VectorTerm) (v : VectorTerm) (g : Gate) (long : Bool) : Type 0 where
  pub gives : Gives id inputs gates g long v
  pub long_is : long ≡ cond late (is_long v) (is_product v)
  pub kinds_are : kinds late ts vs v ≡ kind g ∷ relinearisation_where (is_relinearised late ts vs v)

-- the node is the input of that wire, or the gate gives its term
abbrev pub IsWay : (id : ℕ) (inputs : List Shape) (gates : List Gate) (late : Bool) (ts vs : List VectorTerm) (v : VectorTerm) → Way → Type 0
IsWay id inputs gates late ts vs v (Wire a) = (v ≡ Input a) × (a < length inputs)
IsWay id inputs gates late ts vs v (ByGate g long) = IsNodeGate id inputs gates late ts vs v g long

module _ (id : ℕ) (inputs : List Shape) (gates : List Gate) (late : Bool) (dues : List Bool) (ds : List Carrier) (ts vs : List VectorTerm) (i : ℕ)
    (carried : (k : ℕ) → k < i → IsCarrier id inputs gates late (due_at dues k) (get_or ds k nowhere) (get_or ts k (Input 0)))
    (dues_are : late ≡ true → (k : ℕ) → k < i → due_at dues k ≡ is_due ts vs (get_or ts k (Input 0)))
    (here : i < length ts) where
  -- the short wire of an operand of a turn or a product
  short_of : (v : NodeId) → v.0 < i → turns_or_multiplies (vector_at ts v) (get_or ts i (Input 0)) ≡ true → Carries id inputs gates (carrier_at ds v).short false (vector_at ts v)
  short_of v h u =
      let x : VectorTerm = vector_at ts v in
      let used : list_any (turns_or_multiplies x) ts ≡ true = any_at (turns_or_multiplies x) ts i (Input 0) here u in
      (carried v.0 h).short (ready late (carrier_at ds v).long (is_long x) (due_at dues v.0) (list_any (turns_or_multiplies x) ts || list_any (same_vector x) vs)
      ((carried v.0 h).long_is) (λ l. dues_are l v.0 h) (or_left _ _ used))

  pub node_way : (n : VNode) → all_below i (vector_operands n) ≡ true → Fits (length inputs) (slots_of id) (modulus_of id) n → get_or ts i (Input 0) ≡ vector_term_over ts n
      → IsWay id inputs gates late ts vs (vector_term_over ts n) (way_of ds n)
  node_way (InputNode a) b f e = (refl, f)
  node_way (Neg v) b f e =
      let c = carried v.0 (below_one i v.0 [] b) in record {
        gives = gives_neg id inputs gates _ _ _ c.linear;
        long_is = late_only late _ (is_long (vector_at ts v)) c.long_is;
        kinds_are = refl;
      }
  node_way (Add v u) b f e =
      let c = carried v.0 (below_one i v.0 (u.0 ∷ []) b) in
      let d = carried u.0 (below_two i v.0 u.0 b) in record {
        gives = gives_add id inputs gates _ _ _ _ _ _ c.linear d.linear;
        long_is = late_two late _ _ (is_long (vector_at ts v)) (is_long (vector_at ts u)) c.long_is d.long_is;
        kinds_are = refl;
      }
  node_way (Mul v u) b f e = record {
    gives = gives_mul id inputs gates _ _ _ _
        (short_of v (below_one i v.0 (u.0 ∷ []) b) (rw e (or_left _ _ (same_vector-itself (vector_at ts v)))))
        (short_of u (below_two i v.0 u.0 b) (rw e (or_right (same_vector (vector_at ts u) (vector_at ts v)) _ (same_vector-itself (vector_at ts u)))));
    long_is = either late true;
    kinds_are = refl;
  }
  node_way (Scale k v) b f e =
      let c = carried v.0 (below_one i v.0 [] b) in record {
        gives = gives_scale id inputs gates k _ _ _ f.0 f.1 c.linear;
        long_is = late_only late _ (is_long (vector_at ts v)) c.long_is;
        kinds_are = refl;
      }
  node_way (Shift k v) b f e =
      let c = carried v.0 (below_one i v.0 [] b) in record {
        gives = gives_shift id inputs gates k _ _ _ f c.linear;
        long_is = late_only late _ (is_long (vector_at ts v)) c.long_is;
        kinds_are = refl;
      }
  node_way (Turn r v) b f e = record {
    gives = gives_turn id inputs gates r _ _ f.0 f.1 (short_of v (below_one i v.0 [] b) (rw e (same_vector-itself (vector_at ts v))));
    long_is = either late false;
    kinds_are = refl;
  }
