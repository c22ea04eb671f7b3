-- Behind the first gates of a circuit and those of them that are gathered: what the new wires are.
use Rattle.std.proofs.Common.{◌≡◌, ℕ, ◌+◌, ◌*◌, ◌%◌, ◌<◌, [], length, map, ap, sym, ◌∙◌, arith, inl, inr, subst}
use Rattle.std.specs.Prelude.{Some, None, slice_get, slice_index, Contains}
use Rattle.std.proofs.lemmas.Bool.{cases_lt}
use Rattle.heco_nums.specs.Presets.{modulus_of}
use Rattle.heco_circuit.specs.declared.gate.Gate.{Gate}
use Rattle.heco_circuit.specs.declared.gate.Gate.TheVariants.{Scale}
use Rattle.heco_circuit.specs.Plans.{Plan}
use Rattle.heco_meaning.specs.Meanings.{wire_at, products}
use Rattle.heco_rewrites.specs.Wires.{Wires, behind, operands, Even, maker}
use Rattle.heco_rewrites.proofs.OtherNames.{first}
use Rattle.heco_plainvec.specs.Gathering.{vector}
use Rattle.heco_plainvec.specs.Gathered.{source, leader, staying_below, name, gathered_vectors}
use Rattle.heco_plainvec.proofs.Leaders.{IsSource, source_is, leader_below, leader_stays}
use Rattle.heco_plainvec.proofs.Places.{place_before}
use Rattle.heco_plainvec.proofs.Known.{known, parts_known, slots_known, known_more}

-- each gate reads earlier wires
abbrev pub Earlier : Plan → Type 0
Earlier c = (k : ℕ) (g : Gate) → slice_get c.gates k ≡ Some g → (a : ℕ) → Contains (operands g) a → a < length c.inputs + k

pub source_earlier : (c : Plan) → Earlier c → (wire a : ℕ) → source c wire ≡ Some a → a < wire
source_earlier c early wire a e =
    let s : IsSource c wire a = source_is c wire a e in
    let l = early s.place (Scale s.by a) s.gate a (first a []) in
    let n = s.number in omega (arith, l, n)

pub name_below : (c : Plan) (a u : ℕ) → a < u → name c a < staying_below c u
name_below c a u l = let b = leader_below c a in place_before c (leader c a) u (leader_stays c a) (omega (arith, l, b))

-- a multiple of a wire, in whose place the wire is weighed
pub record IsGone (c : Plan) (old new : Wires) (a of : ℕ) : Type 0 where
  pub by : ℕ
  pub gate : maker (length c.inputs) c.gates a ≡ Some (Scale by of)
  pub scaled : wire_at old.slots a ≡ map (λ x. (by * x) % modulus_of c.preset) (wire_at old.slots of)
  pub parts_are : slice_index old.parts a ≡ slice_index old.parts of
  pub parts : slice_index new.parts (name c a) ≡ slice_index old.parts of
  pub weighed : wire_at new.slots (name c a) ≡ products (modulus_of c.preset) (vector c of) (wire_at old.slots of)

-- of the wires below u: those that stay are what they were
pub record Before (c : Plan) (u : ℕ) (old new : Wires) : Type 0 where
  pub each : (a : ℕ) → a < u → source c a ≡ None → known new (name c a) ≡ known old a
  pub gone : (a of : ℕ) → a < u → source c a ≡ Some of → IsGone c old new a of

pub record IsSwept (c : Plan) (u : ℕ) (old new : Wires) : Type 0 where
  pub old_long : length old.parts ≡ u
  pub new_long : length new.parts ≡ staying_below c u
  pub old_even : Even old
  pub new_even : Even new
  pub before : Before c u old new

-- ---- one gate more
pub before_old : (c : Plan) (u : ℕ) (old new : Wires) (g : Gate) → Earlier c → Even old → length old.parts ≡ u → Before c u old new → Before c u (behind c.preset c.vectors old g) new
before_old c u old new g early e l b = record {
  each = λ a la s. b.each a la s ∙ sym (known_more c.preset c.vectors old g a e (rw l la));
  gone = λ a of la s.
      let z : IsGone c old new a of = b.gone a of la s in
      let x = source_earlier c early a of s in
      let ka = known_more c.preset c.vectors old g a e (rw l la) in
      let ko = known_more c.preset c.vectors old g of e (rw l (omega (arith, x, la))) in
      record {
        by = z.by;
        gate = z.gate;
        scaled = ap slots_known ka ∙ z.scaled ∙ sym (ap (λ k. map (λ x. (z.by * x) % modulus_of c.preset) (slots_known k)) ko);
        parts_are = ap parts_known ka ∙ z.parts_are ∙ sym (ap parts_known ko);
        parts = z.parts ∙ sym (ap parts_known ko);
        weighed = z.weighed ∙ sym (ap (λ k. products (modulus_of c.preset) (vector c of) (slots_known k)) ko);
      };
}

pub before_new : (c : Plan) (u : ℕ) (old new : Wires) (h : Gate) → Even new → length new.parts ≡ staying_below c u → Before c u old new → Before c u old (behind c.preset (gathered_vectors c) new h)
before_new c u old new h e l b = record {
  each = λ a la s. known_more c.preset (gathered_vectors c) new h (name c a) e (rw l (name_below c a u la)) ∙ b.each a la s;
  gone = λ a of la s.
      let z : IsGone c old new a of = b.gone a of la s in
      let k = known_more c.preset (gathered_vectors c) new h (name c a) e (rw l (name_below c a u la)) in
      record {
        by = z.by;
        gate = z.gate;
        scaled = z.scaled;
        parts_are = z.parts_are;
        parts = ap parts_known k ∙ z.parts;
        weighed = ap slots_known k ∙ z.weighed;
      };
}

-- the wire u too
pub before_last : (c : Plan) (u : ℕ) (old new : Wires) → Before c u old new → (source c u ≡ None → known new (name c u) ≡ known old u) → ((of : ℕ) → source c u ≡ Some of → IsGone c old new u of) → Before c (u + 1) old new
before_last c u old new b f g = record {
  each = λ a la s. elim (cases_lt a u) [
    | inl l ↦ b.each a l s
    | inr ge ↦ (let q : u ≡ a = omega (arith, la, ge) in subst (λ z. source c z ≡ None → known new (name c z) ≡ known old z) q f s)
  ];
  gone = λ a of la s. elim (cases_lt a u) [
    | inl l ↦ b.gone a of l s
    | inr ge ↦ (let q : u ≡ a = omega (arith, la, ge) in subst (λ z. source c z ≡ Some of → IsGone c old new z of) q (g of) s)
  ];
}
