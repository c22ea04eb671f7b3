-- What each gate of a circuit is in the gathered one, and what is counted of both.
use Rattle.std.proofs.Common.{◌≡◌, ℕ, suc, ◌+◌, ◌≤◌, List, [], ◌∷◌, length, refl, ap, sym, ◌∙◌, arith, Bool, true, false, ◌||◌, cond, inl, inr, ◌⊎◌}
use Rattle.std.specs.Prelude.{Option, Some, None, slice_get, filter_map}
use Rattle.std.specs.List.{list_any, enumerate_from, cons_option, sum_by}
use Rattle.std.proofs.lemmas.Bool.{eqb-true}
use Rattle.std.proofs.lemmas.List.Sums.{sum_by-cons}
use Rattle.heco_circuit.specs.declared.gate.Gate.{Gate}
use Rattle.heco_circuit.specs.declared.gate.Gate.TheVariants.{Scale, Weigh}
use Rattle.heco_circuit.specs.Plans.{Plan}
use Rattle.heco_rewrites.specs.Wires.{over}
use Rattle.heco_plainvec.specs.Gathered.{source, leader, stays, name, vector_number, gate_where, gathered_gate}
use Rattle.heco_plainvec.proofs.Leaders.{IsSource, source_is, source_stays}

-- a gate that stays as it was, under new numbers, or a multiple in whose place its wire is weighed
pub record IsKept (c : Plan) (u : ℕ) (g h : Gate) : Type 0 where
  pub source_is : source c u ≡ None
  pub is : h ≡ over (name c) g

pub record IsWeighed (c : Plan) (u : ℕ) (g h : Gate) : Type 0 where
  pub of : ℕ
  pub by : ℕ
  pub source_is : source c u ≡ Some of
  pub leads : leader c u ≡ u
  pub gate : g ≡ Scale by of
  pub is : h ≡ Weigh (vector_number c of) (name c of)

pub scale_at : (c : Plan) (u k of : ℕ) (g : Gate) → u ≡ length c.inputs + k → slice_get c.gates k ≡ Some g → source c u ≡ Some of → (by : ℕ) × (g ≡ Scale by of)
scale_at c u k of g n e s =
    let is : IsSource c u of = source_is c u of s in
    let a = is.number in
    let q : is.place ≡ k = omega (arith, a, n) in
    let f : Some g ≡ Some (Scale is.by of) = sym e ∙ ap (slice_get c.gates) (sym q) ∙ is.gate in
    (is.by, cc)

pub image_is : (c : Plan) (u k : ℕ) (g h : Gate) → u ≡ length c.inputs + k → slice_get c.gates k ≡ Some g → gathered_gate c (u, g) ≡ Some h → IsKept c u g h ⊎ IsWeighed c u g h
image_is c u k g h n e q = by_stays (stays c u) refl q
  where
    by_source : (o : Option ℕ) → source c u ≡ o → leader c u ≡ u → Some (gate_where c g o) ≡ Some h → IsKept c u g h ⊎ IsWeighed c u g h
    by_source None s l q = let r : over (name c) g ≡ h = cc in inl (record { source_is = s; is = sym r })
    by_source (Some of) s l q =
        let r : Weigh (vector_number c of) (name c of) ≡ h = cc in
        let w = scale_at c u k of g n e s in
        inr (record { of = of; by = w.0; source_is = s; leads = l; gate = w.1; is = sym r })

    by_stays : (b : Bool) → stays c u ≡ b → cond b (Some (gate_where c g (source c u))) None ≡ Some h → IsKept c u g h ⊎ IsWeighed c u g h
    by_stays true t q = by_source (source c u) refl (eqb-true (leader c u) u t) q
    by_stays false t q = absurd cc

-- a gate that goes is a multiple
pub gone_is : (c : Plan) (u k : ℕ) (g : Gate) → u ≡ length c.inputs + k → slice_get c.gates k ≡ Some g → gathered_gate c (u, g) ≡ None → (of : ℕ) × (by : ℕ) × (g ≡ Scale by of) × (source c u ≡ Some of)
gone_is c u k g n e q = by_source (source c u) refl
  where
    by_source : (o : Option ℕ) → source c u ≡ o → (of : ℕ) × (by : ℕ) × (g ≡ Scale by of) × (source c u ≡ Some of)
    by_source None s =
        absurd (let f : Some (over (name c) g) ≡ None = sym (ap (λ b. cond b (Some (gate_where c g (source c u))) None) (source_stays c u s) ∙ ap (λ o. Some (gate_where c g o)) s) ∙ q in cc)
    by_source (Some of) s = let w = scale_at c u k of g n e s in (of, w.0, w.1, s)

-- ---- tests and counts over what a function gives
pub same_any : {X : Type 0} (F : ℕ × X → Option X) (test : X → Bool) (u : ℕ) (xs : List X) → ((k : ℕ) (x : X) → slice_get xs k ≡ Some x → F (u + k, x) ≡ None → test x ≡ false)
    → ((k : ℕ) (x y : X) → slice_get xs k ≡ Some x → F (u + k, x) ≡ Some y → test y ≡ test x) → list_any test (filter_map F (enumerate_from u xs)) ≡ list_any test xs
same_any F test u [] f g = refl
same_any {X = X} F test u (x ∷ xs) f g =
    by_answer (F (u, x)) refl
    (same_any F test (u + 1) xs (λ k y e q. f (suc k) y e (let s : u + suc k ≡ u + 1 + k = omega arith in rw s q)) (λ k y w e q. g (suc k) y w e (let s : u + suc k ≡ u + 1 + k = omega arith in rw s q)))
  where
    z : u + 0 ≡ u
    z = omega arith

    by_answer : (o : Option X) → F (u, x) ≡ o → list_any test (filter_map F (enumerate_from (u + 1) xs)) ≡ list_any test xs → list_any test (cons_option o (filter_map F (enumerate_from (u + 1) xs))) ≡ (test x || list_any test xs)
    by_answer None q rest = let n : test x ≡ false = f 0 x refl (rw z q) in rest ∙ sym (ap (λ b. b || list_any test xs) n)
    by_answer (Some y) q rest = let n : test y ≡ test x = g 0 x y refl (rw z q) in ap (λ b. b || list_any test (filter_map F (enumerate_from (u + 1) xs))) n ∙ ap (λ b. test x || b) rest

pub less_by : {X : Type 0} (F : ℕ × X → Option X) (size : X → ℕ) (u : ℕ) (xs : List X) → ((k : ℕ) (x y : X) → slice_get xs k ≡ Some x → F (u + k, x) ≡ Some y → size y ≤ size x)
    → sum_by size (filter_map F (enumerate_from u xs)) ≤ sum_by size xs
less_by F size u [] g = omega arith
less_by {X = X} F size u (x ∷ xs) g = by_answer (F (u, x)) refl (less_by F size (u + 1) xs (λ k y w e q. g (suc k) y w e (let s : u + suc k ≡ u + 1 + k = omega arith in rw s q)))
  where
    z : u + 0 ≡ u
    z = omega arith

    by_answer : (o : Option X) → F (u, x) ≡ o → sum_by size (filter_map F (enumerate_from (u + 1) xs)) ≤ sum_by size xs → sum_by size (cons_option o (filter_map F (enumerate_from (u + 1) xs))) ≤ sum_by size (x ∷ xs)
    by_answer None q rest = omega (arith, rest, sum_by-cons size x xs)
    by_answer (Some y) q rest = let n : size y ≤ size x = g 0 x y refl (rw z q) in omega (arith, rest, n, sum_by-cons size x xs, sum_by-cons size y (filter_map F (enumerate_from (u + 1) xs)))

pub same_by : {X : Type 0} (F : ℕ × X → Option X) (size : X → ℕ) (u : ℕ) (xs : List X) → ((k : ℕ) (x : X) → slice_get xs k ≡ Some x → F (u + k, x) ≡ None → size x ≡ 0)
    → ((k : ℕ) (x y : X) → slice_get xs k ≡ Some x → F (u + k, x) ≡ Some y → size y ≡ size x) → sum_by size (filter_map F (enumerate_from u xs)) ≡ sum_by size xs
same_by F size u [] f g = refl
same_by {X = X} F size u (x ∷ xs) f g =
    by_answer (F (u, x)) refl
    (same_by F size (u + 1) xs (λ k y e q. f (suc k) y e (let s : u + suc k ≡ u + 1 + k = omega arith in rw s q)) (λ k y w e q. g (suc k) y w e (let s : u + suc k ≡ u + 1 + k = omega arith in rw s q)))
  where
    z : u + 0 ≡ u
    z = omega arith

    by_answer : (o : Option X) → F (u, x) ≡ o → sum_by size (filter_map F (enumerate_from (u + 1) xs)) ≡ sum_by size xs → sum_by size (cons_option o (filter_map F (enumerate_from (u + 1) xs))) ≡ sum_by size (x ∷ xs)
    by_answer None q rest = let n : size x ≡ 0 = f 0 x refl (rw z q) in omega (arith, rest, n, sum_by-cons size x xs)
    by_answer (Some y) q rest = let n : size y ≡ size x = g 0 x y refl (rw z q) in omega (arith, rest, n, sum_by-cons size x xs, sum_by-cons size y (filter_map F (enumerate_from (u + 1) xs)))

pub length-sum : {X : Type 0} (xs : List X) → sum_by (λ x. 1) xs ≡ length xs
length-sum [] = refl
length-sum (x ∷ xs) = let r = length-sum xs in omega (arith, r, sum_by-cons (λ x. 1) x xs)
