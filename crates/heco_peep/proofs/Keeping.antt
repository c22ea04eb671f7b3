-- Where the gates come from that are kept: each from a needed wire behind the inputs.
use Rattle.std.proofs.Common.{◌≡◌, ℕ, ◌+◌, ◌<◌, ◌≤◌, List, [], ◌∷◌, ◌++◌, length, refl, ◌∙◌, arith, inl, inr, Bool, true, false}
use Rattle.std.specs.Prelude.{slice_index}
use Rattle.std.proofs.lemmas.Bool.{cases_lt}
use Rattle.std.proofs.lemmas.List.{get_or_append_left, get_or_push}
use Rattle.heco_nums.specs.Runs.{along}
use Rattle.heco_circuit.specs.declared.gate.Gate.{Gate}
use Rattle.heco_rewrites.specs.Wires.{over}
use Rattle.heco_rewrites.specs.Needed.{Kept, kept, kept_where}
use Rattle.heco_rewrites.proofs.Named.{longer}

-- the kept gate of this number makes the new wire of a needed one
pub record IsFrom (need : ℕ → Bool) (count i : ℕ) (names : List ℕ) : Type 0 where
  pub wire : ℕ
  pub after : count ≤ wire
  pub within : wire < length names
  pub needed : need wire ≡ true
  pub name : slice_index names wire ≡ count + i

abbrev pub AreFrom : (ℕ → Bool) → ℕ → Kept → Type 0
AreFrom need count s = (i : ℕ) → i < length s.gates → IsFrom need count i s.names

from_more : (need : ℕ → Bool) (count i : ℕ) (names : List ℕ) (x : ℕ) → IsFrom need count i names → IsFrom need count i (names ++ x ∷ [])
from_more need count i names x f = record {
  wire = f.wire;
  after = f.after;
  within = let l = f.within in let m = longer names x in omega (arith, l, m);
  needed = f.needed;
  name = get_or_append_left names (x ∷ []) 0 f.wire f.within ∙ f.name;
}

from_where : (need : ℕ → Bool) (count : ℕ) (s : Kept) (g : Gate) (b : Bool) → need (length s.names) ≡ b → count ≤ length s.names → AreFrom need count s → AreFrom need count (kept_where count s g b)
from_where need count s g false e l f i h = from_more need count i s.names 0 (f i h)
from_where need count s g true e l f i h = elim (cases_lt i (length s.gates)) [
  | inl k ↦ from_more need count i s.names (count + length s.gates) (f i k)
  | inr ge ↦ (let n = longer s.gates (over (slice_index s.names) g) in
      let q : length s.gates ≡ i = omega (arith, n, ge, h) in
      record {
        wire = length s.names;
        after = l;
        within = let m = longer s.names (count + length s.gates) in omega (arith, m);
        needed = e;
        name = get_or_push s.names (count + length s.gates) 0 (length s.names) refl ∙ (omega (arith, q));
      })
]

names_more : (need : ℕ → Bool) (count : ℕ) (s : Kept) (g : Gate) (b : Bool) → length (kept_where count s g b).names ≡ length s.names + 1
names_more need count s g true = longer s.names (count + length s.gates)
names_more need count s g false = longer s.names 0

gates_more : (need : ℕ → Bool) (count : ℕ) (s : Kept) (g : Gate) (b : Bool) → length (kept_where count s g b).gates ≤ length s.gates + 1
gates_more need count s g true = let m = longer s.gates (over (slice_index s.names) g) in omega (arith, m)
gates_more need count s g false = omega arith

pub all_from : (need : ℕ → Bool) (count : ℕ) (s : Kept) (gates : List Gate) → count ≤ length s.names → AreFrom need count s → AreFrom need count (along (kept need count) s gates)
all_from need count s [] l f = f
all_from need count s (g ∷ gates) l f =
    let m = names_more need count s g (need (length s.names)) in
    all_from need count (kept need count s g) gates (omega (arith, l, m)) (from_where need count s g (need (length s.names)) refl l f)

pub names_long : (need : ℕ → Bool) (count : ℕ) (s : Kept) (gates : List Gate) → length (along (kept need count) s gates).names ≡ length s.names + length gates
names_long need count s [] = omega arith
names_long need count s (g ∷ gates) =
    let m = names_more need count s g (need (length s.names)) in
    let r = names_long need count (kept need count s g) gates in omega (arith, m, r)

pub gates_few : (need : ℕ → Bool) (count : ℕ) (s : Kept) (gates : List Gate) → length (along (kept need count) s gates).gates ≤ length s.gates + length gates
gates_few need count s [] = omega arith
gates_few need count s (g ∷ gates) =
    let m = gates_more need count s g (need (length s.names)) in
    let r = gates_few need count (kept need count s g) gates in omega (arith, m, r)
