-- How many wires below a wire stay.
use Rattle.std.proofs.Common.{◌≡◌, ℕ, zero, suc, ◌+◌, ◌-◌, ◌<◌, ◌≤◌, length, refl, ap, sym, ◌∙◌, arith, true, false, cond, inl, inr}
use Rattle.std.proofs.lemmas.Bool.{cases_lt}
use Rattle.std.specs.Prelude.{None}
use Rattle.heco_circuit.specs.Plans.{Plan}
use Rattle.heco_plainvec.specs.Gathered.{source, stays, staying_below, name}
use Rattle.heco_plainvec.proofs.Leaders.{input_stays, source_stays, leader_itself}

pub place_more : (c : Plan) (u : ℕ) → staying_below c (u + 1) ≡ staying_below c u + cond (stays c u) 1 0
place_more c u = let e : u + 1 ≡ suc u = omega arith in rw e refl

pub place_kept : (c : Plan) (u : ℕ) → stays c u ≡ true → staying_below c (u + 1) ≡ staying_below c u + 1
place_kept c u h = place_more c u ∙ rw h refl

pub place_gone : (c : Plan) (u : ℕ) → stays c u ≡ false → staying_below c (u + 1) ≡ staying_below c u
place_gone c u h = place_more c u ∙ rw h (omega arith)

grows : (c : Plan) (u d : ℕ) → staying_below c u ≤ staying_below c (u + d)
grows c u zero = let e : u + 0 ≡ u = omega arith in rw e (omega arith)
grows c u (suc d) =
    let e : u + suc d ≡ u + d + 1 = omega arith in
    let l = grows c u d in
    let m = place_more c (u + d) in
    rw e (omega (arith, l, m))

pub place_grows : (c : Plan) (u v : ℕ) → u ≤ v → staying_below c u ≤ staying_below c v
place_grows c u v l = let e : u + (v - u) ≡ v = omega (arith, l) in rw (← e) (grows c u (v - u))

pub place_before : (c : Plan) (u v : ℕ) → stays c u ≡ true → u < v → staying_below c u < staying_below c v
place_before c u v h l =
    let k = place_kept c u h in
    let m = place_grows c (u + 1) v (omega (arith, l)) in
    omega (arith, k, m)

-- wires that stay have numbers of their own
pub place_apart : (c : Plan) (u v : ℕ) → stays c u ≡ true → stays c v ≡ true → staying_below c u ≡ staying_below c v → u ≡ v
place_apart c u v h k e = elim (cases_lt u v) [
  | inl l ↦ absurd (let m = place_before c u v h l in omega (arith, m, e))
  | inr ge ↦ (elim (cases_lt v u) [
    | inl l ↦ absurd (let m = place_before c v u k l in omega (arith, m, e))
    | inr le ↦ omega (arith, ge, le)
  ])
]

-- all inputs stay
pub place_inputs : (c : Plan) (u : ℕ) → u ≤ length c.inputs → staying_below c u ≡ u
place_inputs c zero l = refl
place_inputs c (suc u) l =
    let e : suc u ≡ u + 1 = omega arith in
    let k = place_kept c u (source_stays c u (input_stays c u (omega (arith, l)))) in
    let i = place_inputs c u (omega (arith, l)) in
    ap (staying_below c) e ∙ k ∙ ap (λ n. n + 1) i ∙ sym e

pub name_itself : (c : Plan) (u : ℕ) → source c u ≡ None → name c u ≡ staying_below c u
name_itself c u e = ap (staying_below c) (leader_itself c u e)
