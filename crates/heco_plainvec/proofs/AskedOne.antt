-- What one cell asks: a constant, of the wire that the gate of its wire multiplies by it.
use Rattle.std.proofs.Common.{◌≡◌, ℕ, suc, ◌+◌, ◌-◌, ◌<◌, ◌≤◌, List, [], ◌∷◌, ◌++◌, length, refl, ap, sym, ◌∙◌, arith, Bool, true, false, ◌&&◌, cond, ltb, eqb, inl, inr, subst}
use Rattle.std.specs.Prelude.{Option, Some, None, slice_get, filter_map}
use Rattle.std.specs.List.{enumerate_from, cons_option}
use Rattle.std.proofs.lemmas.Bool.{cases_lt, cases_eq, eq-eqb, ne_eqb, lt-ltb, le-ltb}
use Rattle.heco_circuit.specs.declared.gate.Gate.{Gate}
use Rattle.heco_circuit.specs.declared.gate.Gate.TheVariants.{Neg, Add, Sub, Mul, Relin, Scale, Shift, Turn, Weigh}
use Rattle.heco_circuit.specs.Plans.{Plan}
use Rattle.heco_rewrites.specs.Wires.{maker}
use Rattle.heco_plainvec.specs.declared.multiple.Multiple.{Multiple}
use Rattle.heco_plainvec.specs.declared.multiple.Asked.{Asked}
use Rattle.heco_plainvec.specs.declared.multiple.Scaled.{Scaled}
use Rattle.heco_plainvec.specs.Gathering.{cell_only, multiple_where, multiple_of, multiples, asked_at}
use Rattle.heco_plainvec.specs.inside.Finding.{scaled_where, scaled_by_maker, scaled_at}
use Rattle.heco_plainvec.proofs.Leaders.{own_number}

-- of the wire a, at this slot
abbrev pub asks_where : ℕ → ℕ → Option Scaled → List Asked
asks_where a slot (Some s) = cond (eqb s.of a) (record { slot = slot; by = s.by } ∷ []) []
asks_where a slot None = []

-- ---- the first of the multiples
other_head : (wire slot u : ℕ) (o : Option Multiple) (ms : List Multiple) → ((m : Multiple) → o ≡ Some m → m.wire ≡ u) → eqb u wire ≡ false → filter_map (asked_at wire slot) (cons_option o ms) ≡ filter_map (asked_at wire slot) ms
other_head wire slot u None ms h f = refl
other_head wire slot u (Some m) ms h f =
    ap (λ b. cons_option (cond b (Some (record { slot = slot; by = m.by })) None) (filter_map (asked_at wire slot) ms)) (ap (λ w. eqb w wire) (h m refl) ∙ f)

own_head : (only : Bool) (a slot u : ℕ) (g : Gate) (ms : List Multiple) → filter_map (asked_at u slot) (cons_option (multiple_where only a u g) ms) ≡ asks_where a slot (scaled_where only g) ++ filter_map (asked_at u slot) ms
own_head only a slot u (Scale k x) ms = by_tests (eqb x a) only refl
  where
    by_tests : (b only : Bool) → eqb x a ≡ b
        → filter_map (asked_at u slot) (cons_option (cond (b && only) (Some (record { wire = u; by = k })) None) ms)
        ≡ asks_where a slot (cond only (Some (record { of = x; by = k })) None) ++ filter_map (asked_at u slot) ms
    by_tests true true t =
        ap (λ b. cons_option (cond b (Some (record { slot = slot; by = k })) None) (filter_map (asked_at u slot) ms)) (eq-eqb u u refl)
        ∙ sym (ap (λ b. cond b (record { slot = slot; by = k } ∷ []) [] ++ filter_map (asked_at u slot) ms) t)
    by_tests true false t = refl
    by_tests false true t = sym (ap (λ b. cond b (record { slot = slot; by = k } ∷ []) [] ++ filter_map (asked_at u slot) ms) t)
    by_tests false false t = refl
own_head only a slot u (Neg x) ms = refl
own_head only a slot u (Add x y) ms = refl
own_head only a slot u (Sub x y) ms = refl
own_head only a slot u (Mul x y) ms = refl
own_head only a slot u (Relin x) ms = refl
own_head only a slot u (Shift k x) ms = refl
own_head only a slot u (Turn r x) ms = refl
own_head only a slot u (Weigh v x) ms = refl

-- ---- the multiples of a among gates from the wire u on
abbrev multiples_from : (ℕ → Bool) → ℕ → ℕ → List Gate → List Multiple
multiples_from only a u gs = filter_map (multiple_of only a) (enumerate_from u gs)

-- none has an earlier wire
none_before : (only : ℕ → Bool) (a wire slot u : ℕ) (gs : List Gate) → wire < u → filter_map (asked_at wire slot) (multiples_from only a u gs) ≡ []
none_before only a wire slot u [] l = refl
none_before only a wire slot u (g ∷ gs) l =
    other_head wire slot u (multiple_where (only u) a u g) (multiples_from only a (u + 1) gs) (λ m e. own_number only a u g m e) (ne_eqb u wire (λ q. omega (arith, q, l)))
    ∙ none_before only a wire slot (u + 1) gs (omega (arith, l))

later_maker : (u wire : ℕ) (g : Gate) (gs : List Gate) → u < wire → maker u (g ∷ gs) wire ≡ maker (u + 1) gs wire
later_maker u wire g gs l =
    let a : ltb wire u ≡ false = le-ltb wire u (omega (arith, l)) in
    let b : ltb wire (u + 1) ≡ false = le-ltb wire (u + 1) (omega (arith, l)) in
    let s : wire - u ≡ suc (wire - (u + 1)) = omega (arith, l) in
    ap (λ t. cond t None (slice_get (g ∷ gs) (wire - u))) a ∙ ap (slice_get (g ∷ gs)) s ∙ sym (ap (λ t. cond t None (slice_get gs (wire - (u + 1)))) b)

own_maker : (u : ℕ) (g : Gate) (gs : List Gate) → maker u (g ∷ gs) u ≡ Some g
own_maker u g gs =
    let z : u - u ≡ 0 = omega arith in
    ap (λ t. cond t None (slice_get (g ∷ gs) (u - u))) (le-ltb u u (omega arith)) ∙ ap (slice_get (g ∷ gs)) z

early_maker : (u wire : ℕ) (gs : List Gate) → wire < u → maker u gs wire ≡ None
early_maker u wire gs l = ap (λ t. cond t None (slice_get gs (wire - u))) (lt-ltb wire u l)

asked_from : (only : ℕ → Bool) (a wire slot u : ℕ) (gs : List Gate) → filter_map (asked_at wire slot) (multiples_from only a u gs) ≡ asks_where a slot (scaled_by_maker (only wire) (maker u gs wire))
asked_from only a wire slot u [] = by_test (ltb wire u)
  where
    by_test : (b : Bool) → [] ≡ asks_where a slot (scaled_by_maker (only wire) (cond b None None))
    by_test true = refl
    by_test false = refl
asked_from only a wire slot u (g ∷ gs) = elim (cases_lt wire u) [
  | inl l ↦ none_before only a wire slot u (g ∷ gs) l ∙ sym (ap (λ o. asks_where a slot (scaled_by_maker (only wire) o)) (early_maker u wire (g ∷ gs) l))
  | inr ge ↦ (elim (cases_eq u wire) [
    | inl q ↦ subst (λ w. filter_map (asked_at w slot) (multiples_from only a u (g ∷ gs)) ≡ asks_where a slot (scaled_by_maker (only w) (maker u (g ∷ gs) w))) q own
    | inr ne ↦ other_head wire slot u (multiple_where (only u) a u g) (multiples_from only a (u + 1) gs) (λ m e. own_number only a u g m e) (ne_eqb u wire ne)
        ∙ asked_from only a wire slot (u + 1) gs
        ∙ sym (ap (λ o. asks_where a slot (scaled_by_maker (only wire) o)) (later_maker u wire g gs (above u wire ge ne)))
  ])
]
  where
    above : (x y : ℕ) → x ≤ y → (x ≡ y → ⊥) → x < y
    above x y l n = elim (cases_lt x y) [ inl h ↦ h | inr g ↦ absurd (n (omega (arith, l, g))) ]

    own : filter_map (asked_at u slot) (multiples_from only a u (g ∷ gs)) ≡ asks_where a slot (scaled_by_maker (only u) (maker u (g ∷ gs) u))
    own =
        own_head (only u) a slot u g (multiples_from only a (u + 1) gs)
        ∙ ap (λ xs. asks_where a slot (scaled_where (only u) g) ++ xs) (none_before only a u slot (u + 1) gs (omega arith))
        ∙ nothing_behind (asks_where a slot (scaled_where (only u) g))
        ∙ sym (ap (λ o. asks_where a slot (scaled_by_maker (only u) o)) (own_maker u g gs))
      where
        nothing_behind : (xs : List Asked) → xs ++ [] ≡ xs
        nothing_behind [] = refl
        nothing_behind (x ∷ xs) = ap (λ ys. x ∷ ys) (nothing_behind xs)

pub asked_one : (c : Plan) (a wire slot : ℕ) → filter_map (asked_at wire slot) (multiples c a) ≡ asks_where a slot (scaled_at c wire)
asked_one c a wire slot = asked_from (cell_only c) a wire slot (length c.inputs) c.gates
