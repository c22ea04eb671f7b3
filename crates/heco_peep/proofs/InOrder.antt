-- Passes in order leave a circuit that is no worse.
use Rattle.std.proofs.Common.{◌≡◌, ℕ, ◌^◌, ◌<◌, ◌≤◌, List, [], ◌∷◌, refl, sym, ◌∙◌, arith, Bool, true, false, cond, ◌&&◌, leb}
use Rattle.std.specs.Bool.{beq}
use Rattle.std.specs.List.{AllZip, count_by}
use Rattle.std.specs.Str.{bytes_eq}
use Rattle.std.proofs.lemmas.Bool.{leb-true}
use Rattle.std.proofs.lemmas.Slice.Eq.{bytes_eq-Decides}
use Rattle.heco_nums.specs.Presets.{modulus_of}
use Rattle.heco_nums.specs.declared.preset.Preset.{Preset}
use Rattle.heco_fields.proofs.Bools.{both_true}
use Rattle.heco_circuit.specs.declared.gate.Cell.{Cell}
use Rattle.heco_circuit.specs.declared.gate.Cell.TheVariants.{Number, Slot}
use Rattle.heco_circuit.specs.Circuits.{IsCircuit}
use Rattle.heco_circuit.specs.Needs.{is_relin, needs_relin, needed_turns}
use Rattle.heco_circuit.specs.Plans.{Plan}
use Rattle.heco_texts.specs.Answers.{HaveFit}
use Rattle.heco_thrift.specs.Homes.{all_cells}
use Rattle.heco_thrift.specs.Thrift.{is_product}
use Rattle.heco_peep.specs.Rules.{Rule, Handed}
use Rattle.heco_peep.specs.Looks.{Progress, looked}
use Rattle.heco_peep.specs.Passed.{tried, is_kept, after, passed}
use Rattle.heco_peep.specs.NoWorse.{Replaces, IsSameCell, IsNoWorse, PassedCircuitsAreNoWorse}
use Rattle.heco_peep.proofs.OnePass.{Valid, valid, for_none, brought, brought_valid, brought_means, brought_cells, brought_bounds, brought_elsewhere, brought_shapes}
use Rattle.heco_peep.specs.inside.Ready.{room}
use Rattle.heco_peep.proofs.Sizes.{has_room}

-- ---- no worse than itself
itself : (c : Plan) (xs : List Cell) → AllZip (IsSameCell c c) xs xs
itself c [] = tt
itself c (Number n ∷ xs) = (refl, itself c xs)
itself c (Slot w k ∷ xs) = ((refl, record { bound = omega arith; means = λ rows fit. refl; weighed = λ h. h }), itself c xs)

no_worse_itself : (c : Plan) → IsCircuit c → IsNoWorse c c
no_worse_itself c h = record {
  valid = h;
  preset = refl;
  inputs = refl;
  vectors = refl;
  outputs = refl;
  cells = itself c (all_cells c);
  means = λ rows fit. refl;
  gates = omega arith;
  bounds = λ most all. all;
  bounds_elsewhere = λ most all. all;
  relinearisation_needed = refl;
  turns_needed = refl;
  relinearisations = λ l. l;
}

-- ---- one after the other
fits_too : (c d : Plan) (rows : List (List ℕ)) → IsNoWorse c d → HaveFit (modulus_of c.preset) c.inputs rows → HaveFit (modulus_of d.preset) d.inputs rows
fits_too c d rows x fit = rw (x.preset, x.inputs) fit

replaces_through : (c d e : Plan) (u v w : ℕ) → IsNoWorse c d → Replaces c d u v → Replaces d e v w → Replaces c e u w
replaces_through c d e u v w x r s = record {
  bound = let a = r.bound in let b = s.bound in omega (arith, a, b);
  means = λ rows fit. s.means rows (fits_too c d rows x fit) ∙ r.means rows fit;
  weighed = λ h. s.weighed (r.weighed h);
}

cell_through : (c d e : Plan) (x y z : Cell) → IsNoWorse c d → IsSameCell c d x y → IsSameCell d e y z → IsSameCell c e x z
cell_through c d e (Number n) (Number m) (Number k) o r s = s ∙ r
cell_through c d e (Slot u i) (Slot v j) (Slot w k) o r s = (s.0 ∙ r.0, replaces_through c d e u v w o r.1 s.1)
cell_through c d e (Number n) (Number m) (Slot w k) o r s = absurd s
cell_through c d e (Number n) (Slot v j) z o r s = absurd r
cell_through c d e (Slot u i) (Number m) z o r s = absurd r
cell_through c d e (Slot u i) (Slot v j) (Number k) o r s = absurd s

cells_through : (c d e : Plan) (xs ys zs : List Cell) → IsNoWorse c d → AllZip (IsSameCell c d) xs ys → AllZip (IsSameCell d e) ys zs → AllZip (IsSameCell c e) xs zs
cells_through c d e [] [] [] o r s = tt
cells_through c d e [] [] (z ∷ zs) o r s = absurd s
cells_through c d e [] (y ∷ ys) zs o r s = absurd r
cells_through c d e (x ∷ xs) [] zs o r s = absurd r
cells_through c d e (x ∷ xs) (y ∷ ys) [] o r s = absurd s
cells_through c d e (x ∷ xs) (y ∷ ys) (z ∷ zs) o r s = (cell_through c d e x y z o r.0 s.0, cells_through c d e xs ys zs o r.1 s.1)

no_worse_through : (c d e : Plan) → IsNoWorse c d → IsNoWorse d e → IsNoWorse c e
no_worse_through c d e x y = record {
  valid = y.valid;
  preset = y.preset ∙ x.preset;
  inputs = y.inputs ∙ x.inputs;
  vectors = y.vectors ∙ x.vectors;
  outputs = y.outputs ∙ x.outputs;
  cells = cells_through c d e (all_cells c) (all_cells d) (all_cells e) x x.cells y.cells;
  means = λ rows fit. y.means rows (fits_too c d rows x fit) ∙ x.means rows fit;
  gates = let a = x.gates in let b = y.gates in omega (arith, a, b);
  bounds = λ most all. y.bounds most (x.bounds most all);
  bounds_elsewhere = λ most all. y.bounds_elsewhere most (x.bounds_elsewhere most all);
  relinearisation_needed = y.relinearisation_needed ∙ x.relinearisation_needed;
  turns_needed = y.turns_needed ∙ x.turns_needed;
  relinearisations = λ l. y.relinearisations (x.relinearisations l);
}

-- ---- one pass
same_bool : (a b : Bool) → beq a b ≡ true → a ≡ b
same_bool true true h = refl
same_bool false false h = refl
same_bool true false h = absurd cc
same_bool false true h = absurd cc

-- no worse, and its file has no less room
pub record Follows (c d : Plan) : Type 0 where
  pub no_worse : IsNoWorse c d
  pub less : room d ≤ room c

kept_follows : (p : Preset) (c : Plan) (rule : Rule) (state : List ℕ) → p.id ≡ c.preset → IsCircuit c → room c < 2 ^ 29 → is_kept c (tried p c rule state) ≡ true → Follows c (tried p c rule state)
unfolding tried is_kept
kept_follows p c rule state q h r k =
    let v : Valid c = valid c h in
    let s : Progress = looked p c rule state in
    let d : Plan = brought c s in
    let w = brought_valid p c rule state q h r in
    let a = for_none p c rule state q v in
    let t = both_true (beq (needs_relin d) (needs_relin c)) (bytes_eq (needed_turns d) (needed_turns c) && leb (count_by is_relin d.gates) (count_by is_product d.gates)) k in
    let u = both_true (bytes_eq (needed_turns d) (needed_turns c)) (leb (count_by is_relin d.gates) (count_by is_product d.gates)) t.1 in
    record {
      no_worse = record {
        valid = w.0;
        preset = refl;
        inputs = refl;
        vectors = refl;
        outputs = brought_shapes c s;
        cells = brought_cells p c rule state q v;
        means = λ rows fit. brought_means p c rule state rows q v fit;
        gates = a.fewer;
        bounds = λ most all. brought_bounds c s most a all;
        bounds_elsewhere = λ most all. brought_elsewhere c s most a all;
        relinearisation_needed = same_bool (needs_relin d) (needs_relin c) t.0;
        turns_needed = (bytes_eq-Decides (needed_turns d) (needed_turns c)).0 u.0;
        relinearisations = λ l. leb-true (count_by is_relin d.gates) (count_by is_product d.gates) u.1;
      };
      less = w.1;
    }

pub after_follows : (p : Preset) (c : Plan) (rule : Rule) (state : List ℕ) → p.id ≡ c.preset → IsCircuit c → room c < 2 ^ 29 → Follows c (after p c rule state)
after_follows p c rule state q h r = by_test (is_kept c (tried p c rule state)) refl
  where
    by_test : (b : Bool) → is_kept c (tried p c rule state) ≡ b → Follows c (cond b (tried p c rule state) c)
    by_test true e = kept_follows p c rule state q h r e
    by_test false e = record { no_worse = no_worse_itself c h; less = omega arith }

-- ---- all passes
in_order : (p : Preset) (c : Plan) (handed : List Handed) → p.id ≡ c.preset → IsCircuit c → room c < 2 ^ 29 → IsNoWorse c (passed p c handed)
in_order p c [] q h r = no_worse_itself c h
in_order p c (x ∷ handed) q h r =
    let f : Follows c (after p c x.rule x.state) = after_follows p c x.rule x.state q h r in
    let n = f.no_worse in
    let l = f.less in
    no_worse_through c (after p c x.rule x.state) (passed p (after p c x.rule x.state) handed) n
    (in_order p (after p c x.rule x.state) handed (q ∙ sym n.preset) n.valid (omega (arith, l, r)))

pub passed_no_worse : PassedCircuitsAreNoWorse
passed_no_worse p c handed q h few = in_order p c handed q h (has_room c few)
