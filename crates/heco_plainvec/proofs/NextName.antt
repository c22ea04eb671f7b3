-- The names and the gates with what comes of one gate more.
use Rattle.std.proofs.Common.{◌≡◌, ℕ, ◌+◌, ◌<◌, ◌≤◌, List, [], ◌∷◌, ◌++◌, length, map, take, ap, sym, ◌∙◌, arith, get_or, length-append, subst}
use Rattle.std.specs.Prelude.{slice_index, filter_map}
use Rattle.std.specs.List.{range_with_len, enumerate_from, cons_option}
use Rattle.std.proofs.lemmas.Bool.{eqb-true, eq-eqb, ne_eqb}
use Rattle.std.proofs.lemmas.List.{ext_get_or}
use Rattle.std.proofs.lemmas.List.FromFn.{get_or-map-range_with_len, map-range_with_len_more, get_or-range_with_len, length-range_with_len, length-map-range_with_len}
use Rattle.heco_circuit.specs.declared.gate.Gate.{Gate}
use Rattle.heco_circuit.specs.declared.gate.Gate.TheVariants.{Neg}
use Rattle.heco_circuit.specs.Plans.{Plan}
use Rattle.heco_plainvec.specs.declared.rewriting.Image.{Image}
use Rattle.heco_plainvec.specs.declared.rewriting.Image.TheVariants.{Stands, Goes}
use Rattle.heco_plainvec.specs.Gathered.{leader, staying_below, name, gathered_gate}
use Rattle.heco_plainvec.specs.inside.Finding.{IsImage, standing, new_name}
use Rattle.heco_plainvec.proofs.Numbered.{numbered_more}
use Rattle.heco_plainvec.proofs.Leaders.{leader_stays, input_stays}
use Rattle.heco_plainvec.proofs.Places.{place_kept, place_gone, place_inputs, name_itself}

-- the new gates of the first i old ones
abbrev pub gathered_front : Plan → ℕ → List Gate
gathered_front c i = filter_map (gathered_gate c) (enumerate_from (length c.inputs) (take i c.gates))

pub record IsFront (c : Plan) (i : ℕ) (names : List ℕ) (gates : List Gate) : Type 0 where
  pub names_are : names ≡ map (name c) (range_with_len 0 (length c.inputs + i))
  pub gates_are : gates ≡ gathered_front c i
  pub count : length c.inputs + length gates ≡ staying_below c (length c.inputs + i)
  pub few : length gates ≤ i

-- ---- the inputs
input_names : (c : Plan) → range_with_len 0 (length c.inputs) ≡ map (name c) (range_with_len 0 (length c.inputs))
input_names c =
    let n : ℕ = length c.inputs in
    let a = length-range_with_len 0 n in
    let b = length-map-range_with_len (name c) 0 n in
    ext_get_or 0 (range_with_len 0 n) (map (name c) (range_with_len 0 n)) (omega (arith, a, b)) (λ i l.
    let k : i < n = omega (arith, l, a) in
    get_or-range_with_len 0 n i 0 k ∙ (let z : 0 + i ≡ i = omega arith in z)
    ∙ sym (get_or-map-range_with_len (name c) 0 n i i 0 k (omega arith) ∙ name_itself c i (input_stays c i k) ∙ place_inputs c i (omega (arith, k))))

pub front_first : (c : Plan) (names : List ℕ) (gates : List Gate) → names ≡ range_with_len 0 (length c.inputs) → gates ≡ [] → IsFront c 0 names gates
front_first c names gates n g =
    let z : length c.inputs + 0 ≡ length c.inputs = omega arith in
    let l = ap length g in
    let p = place_inputs c (length c.inputs) (omega arith) in
    record {
      names_are = n ∙ input_names c ∙ ap (λ k. map (name c) (range_with_len 0 k)) (sym z);
      gates_are = g;
      count = let q = ap (staying_below c) z in omega (arith, l, p, q);
      few = omega (arith, l);
    }

-- ---- one gate more
standing_is : (c : Plan) (wire : ℕ) (g : Gate) (m : Image) → IsImage c wire g m → standing m ≡ gathered_gate c (wire, g)
standing_is c wire g (Stands h) i = sym i.0
standing_is c wire g (Goes first) i = sym i.0

next_is : (c : Plan) (wire next : ℕ) (names : List ℕ) (g : Gate) (m : Image) → IsImage c wire g m → names ≡ map (name c) (range_with_len 0 wire) → next ≡ staying_below c wire → new_name names next m ≡ name c wire
next_is c wire next names g (Stands h) i n e = e ∙ ap (staying_below c) (sym i.1)
next_is c wire next names g (Goes first) i n e =
    ap (λ ns. slice_index ns first) n ∙ get_or-map-range_with_len (name c) 0 wire first first 0 i.2 (omega arith)
    ∙ ap (name c) (sym i.1) ∙ ap (staying_below c) (eqb-true (leader c (leader c wire)) (leader c wire) (leader_stays c wire))

pub next_place : (c : Plan) (wire : ℕ) (g : Gate) (m : Image) → IsImage c wire g m → staying_below c wire + length (cons_option (standing m) []) ≡ staying_below c (wire + 1)
next_place c wire g (Stands h) i = sym (place_kept c wire (eq-eqb (leader c wire) wire i.1))
next_place c wire g (Goes first) i =
    let l = i.1 in
    let b = i.2 in
    let p = place_gone c wire (ne_eqb (leader c wire) wire (λ q. omega (arith, q, l, b))) in
    omega (arith, p)

one_at_most : (m : Image) → length (cons_option (standing m) []) ≤ 1
one_at_most (Stands h) = omega arith
one_at_most (Goes first) = omega arith

pub front_more : (c : Plan) (i wire next : ℕ) (g : Gate) (m : Image) (names new_names : List ℕ) (gates new_gates : List Gate) → IsFront c i names gates → i < length c.gates → g ≡ get_or c.gates i (Neg 0)
    → wire ≡ length c.inputs + i → next ≡ length c.inputs + length gates → IsImage c wire g m
    → new_names ≡ names ++ new_name names next m ∷ [] → new_gates ≡ gates ++ cons_option (standing m) [] → IsFront c (i + 1) new_names new_gates
front_more c i wire next g m names new_names gates new_gates f l e w n im ns gs =
    let u : ℕ = length c.inputs + i in
    let here : IsImage c u g m = subst (λ k. IsImage c k g m) w im in
    let s : u + 1 ≡ length c.inputs + (i + 1) = omega arith in
    let a = ap length gs in
    let b = length-append gates (cons_option (standing m) []) in
    let p = next_place c u g m here in
    let k = f.count in
    let q = ap (staying_below c) s in
    let few = f.few in
    let one = one_at_most m in
    record {
      names_are =
          ns ∙ ap (λ x. names ++ x ∷ []) (next_is c u next names g m here f.names_are (n ∙ f.count)) ∙ ap (λ xs. xs ++ name c u ∷ []) f.names_are
          ∙ sym (ap (λ j. map (name c) (range_with_len 0 j)) (sym s) ∙ map-range_with_len_more (name c) 0 u u (omega arith));
      gates_are =
          gs ∙ ap (λ xs. xs ++ cons_option (standing m) []) f.gates_are ∙ ap (λ o. gathered_front c i ++ cons_option o []) (standing_is c u g m here ∙ ap (λ x. gathered_gate c (u, x)) e)
          ∙ sym (numbered_more (gathered_gate c) (length c.inputs) c.gates i (Neg 0) l);
      count = omega (arith, a, b, p, k, q);
      few = omega (arith, a, b, few, one);
    }
