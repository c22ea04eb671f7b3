-- Products by plain vectors: a pass leaves them and their wires, and a gate that is kept when dead ones go is one where it was.
use Rattle.std.proofs.Common.{◌≡◌, ℕ, zero, suc, ◌+◌, ◌-◌, ◌<◌, ◌≤◌, List, [], ◌∷◌, ◌++◌, length, refl, ap, sym, ◌∙◌, arith, inl, inr, Bool, true, false, cond, ltb, subst}
use Rattle.std.specs.Prelude.{Option, Some, None, slice_get, slice_index}
use Rattle.std.specs.List.{range_with_len}
use Rattle.std.proofs.lemmas.Bool.{cases_lt, le-ltb, ltb-false}
use Rattle.std.proofs.lemmas.List.{get_or_append_left, get_or_push, append_assoc, append-nil}
use Rattle.std.proofs.lemmas.List.FromFn.{length-range_with_len}
use Rattle.heco_nums.specs.declared.preset.Preset.{Preset}
use Rattle.heco_nums.specs.Runs.{along}
use Rattle.heco_circuit.specs.declared.gate.Gate.{Gate}
use Rattle.heco_circuit.specs.declared.gate.Gate.TheVariants.{Neg, Add, Sub, Mul, Relin, Scale, Shift, Turn, Weigh}
use Rattle.heco_circuit.specs.Bounds.{with_bound}
use Rattle.heco_circuit.specs.Validity.{with_gate}
use Rattle.heco_thrift.specs.Thrift.{is_weighing}
use Rattle.heco_rewrites.specs.Wires.{over, maker}
use Rattle.heco_rewrites.specs.Needed.{Kept, kept, kept_where}
use Rattle.heco_rewrites.proofs.Named.{longer}
use Rattle.heco_peep.specs.declared.window.Swap.{Swap}
use Rattle.heco_peep.specs.declared.window.Swap.TheVariants as swap
use Rattle.heco_peep.specs.Rules.{Rule}
use Rattle.heco_peep.specs.Looks.{Progress, fits, grown, put, taken, answered, look_behind, unchanged}
use Rattle.heco_peep.specs.NoWorse.{weighed_by}

-- the gate of this place is a product by a plain vector
abbrev pub weighs_at : List Gate → ℕ → Bool
weighs_at gates k = weighed_by (slice_get gates k)

at_left : (xs ys : List Gate) (k : ℕ) → k < length xs → weighs_at (xs ++ ys) k ≡ weighs_at xs k
at_left [] ys k l = absurd (omega (arith, l))
at_left (x ∷ xs) ys zero l = refl
at_left (x ∷ xs) ys (suc k) l = at_left xs ys k (omega (arith, l))

at_last : (xs : List Gate) (g : Gate) (k : ℕ) → length xs ≡ k → weighs_at (xs ++ g ∷ []) k ≡ is_weighing g
at_last [] g zero e = refl
at_last [] g (suc k) e = absurd (omega (arith, e))
at_last (x ∷ xs) g zero e = absurd (omega (arith, e))
at_last (x ∷ xs) g (suc k) e = at_last xs g k (omega (arith, e))

pub weighs_within : (xs : List Gate) (k : ℕ) → weighs_at xs k ≡ true → k < length xs
weighs_within [] k h = absurd cc
weighs_within (x ∷ xs) zero h = omega arith
weighs_within (x ∷ xs) (suc k) h = let l = weighs_within xs k h in omega (arith, l)

pub maker_weighs : (count : ℕ) (gates : List Gate) (k : ℕ) → weighed_by (maker count gates (count + k)) ≡ weighs_at gates k
maker_weighs count gates k =
    let f : ltb (count + k) count ≡ false = le-ltb (count + k) count (omega arith) in
    let s : count + k - count ≡ k = omega arith in
    rw (f, s) refl

-- no input is one
pub weighed_after : (count : ℕ) (gates : List Gate) (a : ℕ) → weighed_by (maker count gates a) ≡ true → count ≤ a
weighed_after count gates a h = by_test (ltb a count) refl h
  where
    by_test : (b : Bool) → ltb a count ≡ b → weighed_by (cond b None (slice_get gates (a - count))) ≡ true → count ≤ a
    by_test true t e = absurd cc
    by_test false t e = ltb-false a count t

over_weighs : (f : ℕ → ℕ) (g : Gate) → is_weighing (over f g) ≡ is_weighing g
over_weighs f (Neg a) = refl
over_weighs f (Add a b) = refl
over_weighs f (Sub a b) = refl
over_weighs f (Mul a b) = refl
over_weighs f (Relin a) = refl
over_weighs f (Scale c a) = refl
over_weighs f (Shift c a) = refl
over_weighs f (Turn r a) = refl
over_weighs f (Weigh v a) = refl

-- ---- looks
-- after the looks at these gates there are as many; each product by a plain vector is one still, and its wire is its own
pub record Stays (count : ℕ) (done : List Gate) (s : Progress) : Type 0 where
  pub gates : length s.gates ≡ length done
  pub names : length s.names ≡ count + length done
  pub each : (k : ℕ) → weighs_at done k ≡ true → (weighs_at s.gates k ≡ true) × (slice_index s.names (count + k) ≡ count + k)

stays_more : (count : ℕ) (done : List Gate) (s : Progress) (g h : Gate) (x : ℕ) (state : List ℕ) → Stays count done s → (is_weighing g ≡ true → (is_weighing h ≡ true) × (x ≡ count + length s.gates))
    → Stays count (done ++ g ∷ []) (grown s h x state)
stays_more count done s g h x state o one =
    let many = o.gates in
    let named = o.names in
    let more = longer done g in
    record {
      gates = longer s.gates h ∙ ap (λ n. n + 1) many ∙ sym more;
      names = let m = longer s.names x in omega (arith, m, named, more);
      each = λ k e. (let l = weighs_within (done ++ g ∷ []) k e in elim (cases_lt k (length done)) [
        | inl i ↦ (let r = o.each k (sym (at_left done (g ∷ []) k i) ∙ e) in (
          at_left s.gates (h ∷ []) k (omega (arith, i, many)) ∙ r.0,
          get_or_append_left s.names (x ∷ []) 0 (count + k) (omega (arith, i, named)) ∙ r.1,
        ))
        | inr ge ↦ (let z : length done ≡ k = omega (arith, ge, l, more) in
            let r = one (sym (at_last done g k z) ∙ e) in (
              at_last s.gates h k (many ∙ z) ∙ r.0,
              get_or_push s.names x 0 (count + k) (omega (arith, named, z)) ∙ r.1 ∙ (omega (arith, many, z)),
            ))
      ]);
    }

-- a gate of another kind, whatever is answered
other_stays : (id : ℕ) (weights parts bounds : List ℕ) (count : ℕ) (done : List Gate) (s : Progress) (g at : Gate) (answer : Option Swap × List ℕ) → is_weighing g ≡ false → Stays count done s
    → Stays count (done ++ g ∷ []) (taken id weights (count + length s.gates) parts bounds at s answer)
other_stays id weights parts bounds count done s g at (None, state) e o = stays_more count done s g at (count + length s.gates) state o (λ f. absurd (let q : true ≡ false = sym f ∙ e in cc))
other_stays id weights parts bounds count done s g at (Some x, state) e o = by_fit (fits id weights parts bounds at x) x
  where
    by_fit : (b : Bool) (x : Swap) → Stays count (done ++ g ∷ []) (put (count + length s.gates) at s state b x)
    by_fit false x = stays_more count done s g at (count + length s.gates) state o (λ f. absurd (let q : true ≡ false = sym f ∙ e in cc))
    by_fit true (swap.Wire y) = stays_more count done s g at y state o (λ f. absurd (let q : true ≡ false = sym f ∙ e in cc))
    by_fit true (swap.Gate h) = stays_more count done s g h (count + length s.gates) state o (λ f. absurd (let q : true ≡ false = sym f ∙ e in cc))

other_look : (p : Preset) (weights parts bounds : List ℕ) (rule : Rule) (done : List Gate) (s : Progress) (g : Gate) → is_weighing g ≡ false → Stays (length parts) done s
    → Stays (length parts) (done ++ g ∷ []) (look_behind p weights parts bounds rule s g)
other_look p weights parts bounds rule done s g e o =
    let at : Gate = over (slice_index s.names) g in
    other_stays p.id weights (along with_gate parts s.gates) (along (with_bound p.id weights) bounds s.gates) (length parts) done s g at (answered p (length parts) rule at s) e o

look_stays : (p : Preset) (weights parts bounds : List ℕ) (rule : Rule) (done : List Gate) (s : Progress) (g : Gate) → Stays (length parts) done s → Stays (length parts) (done ++ g ∷ []) (look_behind p weights parts bounds rule s g)
look_stays p weights parts bounds rule done s (Weigh v a) o =
    stays_more (length parts) done s (Weigh v a) (Weigh v (slice_index s.names a)) (length parts + length s.gates) s.state o (λ e. (refl, refl))
look_stays p weights parts bounds rule done s (Neg a) o = other_look p weights parts bounds rule done s (Neg a) refl o
look_stays p weights parts bounds rule done s (Add a b) o = other_look p weights parts bounds rule done s (Add a b) refl o
look_stays p weights parts bounds rule done s (Sub a b) o = other_look p weights parts bounds rule done s (Sub a b) refl o
look_stays p weights parts bounds rule done s (Mul a b) o = other_look p weights parts bounds rule done s (Mul a b) refl o
look_stays p weights parts bounds rule done s (Relin a) o = other_look p weights parts bounds rule done s (Relin a) refl o
look_stays p weights parts bounds rule done s (Scale c a) o = other_look p weights parts bounds rule done s (Scale c a) refl o
look_stays p weights parts bounds rule done s (Shift c a) o = other_look p weights parts bounds rule done s (Shift c a) refl o
look_stays p weights parts bounds rule done s (Turn r a) o = other_look p weights parts bounds rule done s (Turn r a) refl o

looks_stay : (p : Preset) (weights parts bounds : List ℕ) (rule : Rule) (done gates : List Gate) (s : Progress) → Stays (length parts) done s → Stays (length parts) (done ++ gates) (along (look_behind p weights parts bounds rule) s gates)
looks_stay p weights parts bounds rule done [] s o = rw (append-nil done) o
looks_stay p weights parts bounds rule done (g ∷ gates) s o =
    let look = look_behind p weights parts bounds rule in
    subst (λ all. Stays (length parts) all (along look (look s g) gates)) (append_assoc done (g ∷ []) gates)
    (looks_stay p weights parts bounds rule (done ++ g ∷ []) gates (look s g) (look_stays p weights parts bounds rule done s g o))

-- a whole pass
pub all_stay : (p : Preset) (weights parts bounds : List ℕ) (rule : Rule) (count : ℕ) (state : List ℕ) (gates : List Gate) → length parts ≡ count → Stays count gates (along (look_behind p weights parts bounds rule) (unchanged count state) gates)
all_stay p weights parts bounds rule count state gates e =
    subst (λ n. Stays n gates (along (look_behind p weights parts bounds rule) (unchanged n state) gates)) e
    (looks_stay p weights parts bounds rule [] gates (unchanged (length parts) state) (record {
      gates = refl;
      names = let l = length-range_with_len 0 (length parts) in omega (arith, l);
      each = λ k f. absurd cc;
    }))

-- ---- the gates that are kept
-- the gate of this place is kept as the gate i, which is a product by a plain vector where it was
pub record IsKeptAs (count : ℕ) (done : List Gate) (s : Kept) (k : ℕ) : Type 0 where
  pub gate : ℕ
  pub within : gate < length s.gates
  pub name : slice_index s.names (count + k) ≡ count + gate
  pub alike : weighs_at s.gates gate ≡ weighs_at done k

pub record AreKept (need : ℕ → Bool) (count : ℕ) (done : List Gate) (s : Kept) : Type 0 where
  pub names : length s.names ≡ count + length done
  pub each : (k : ℕ) → k < length done → need (count + k) ≡ true → IsKeptAs count done s k

kept_more : (need : ℕ → Bool) (count : ℕ) (done : List Gate) (s : Kept) (g : Gate) (b : Bool) → need (length s.names) ≡ b → AreKept need count done s → AreKept need count (done ++ g ∷ []) (kept_where count s g b)
kept_more need count done s g false e o =
    let named = o.names in
    let more = longer done g in
    record {
      names = let m = longer s.names 0 in omega (arith, m, named, more);
      each = λ k l n. elim (cases_lt k (length done)) [
        | inl i ↦ (let r = o.each k i n in
            record { gate = r.gate; within = r.within; name = get_or_append_left s.names (0 ∷ []) 0 (count + k) (omega (arith, i, named)) ∙ r.name; alike = r.alike ∙ sym (at_left done (g ∷ []) k i) })
        | inr ge ↦ absurd (let z : count + k ≡ length s.names = omega (arith, ge, l, more, named) in let q : true ≡ false = sym n ∙ ap need z ∙ e in cc)
      ];
    }
kept_more need count done s g true e o =
    let named = o.names in
    let more = longer done g in
    let h : Gate = over (slice_index s.names) g in
    let grown_by = longer s.gates h in
    record {
      names = let m = longer s.names (count + length s.gates) in omega (arith, m, named, more);
      each = λ k l n. elim (cases_lt k (length done)) [
        | inl i ↦ (let r = o.each k i n in
            let w = r.within in
            record {
              gate = r.gate;
              within = omega (arith, w, grown_by);
              name = get_or_append_left s.names ((count + length s.gates) ∷ []) 0 (count + k) (omega (arith, i, named)) ∙ r.name;
              alike = at_left s.gates (h ∷ []) r.gate w ∙ r.alike ∙ sym (at_left done (g ∷ []) k i);
            })
        | inr ge ↦ (let z : length done ≡ k = omega (arith, ge, l, more) in
            record {
              gate = length s.gates;
              within = omega (arith, grown_by);
              name = get_or_push s.names (count + length s.gates) 0 (count + k) (omega (arith, named, z));
              alike = at_last s.gates h (length s.gates) refl ∙ over_weighs (slice_index s.names) g ∙ sym (at_last done g k z);
            })
      ];
    }

pub all_kept : (need : ℕ → Bool) (count : ℕ) (done gates : List Gate) (s : Kept) → AreKept need count done s → AreKept need count (done ++ gates) (along (kept need count) s gates)
all_kept need count done [] s o = rw (append-nil done) o
all_kept need count done (g ∷ gates) s o =
    subst (λ all. AreKept need count all (along (kept need count) (kept need count s g) gates)) (append_assoc done (g ∷ []) gates)
    (all_kept need count (done ++ g ∷ []) gates (kept need count s g) (kept_more need count done s g (need (length s.names)) refl o))

pub none_kept : (need : ℕ → Bool) (count : ℕ) → AreKept need count [] (record { gates = []; names = range_with_len 0 count })
none_kept need count = record { names = (let l = length-range_with_len 0 count in omega (arith, l)); each = λ k l n. absurd (omega (arith, l)) }

-- ---- both
-- a gate that is kept and is no product by a plain vector was none before the looks
pub none_before : (need : ℕ → Bool) (count : ℕ) (done : List Gate) (s : Progress) (k : Kept) (wire i : ℕ) → Stays count done s → AreKept need count s.gates k → count ≤ wire → wire < count + length s.gates → need wire ≡ true
    → slice_index k.names wire ≡ count + i → weighs_at k.gates i ≡ false → weighs_at done (wire - count) ≡ false
none_before need count done s k wire i st kept ge l n name h = by_test (weighs_at done (wire - count)) refl
  where
    back : count + (wire - count) ≡ wire
    back = omega (arith, ge)

    new : IsKeptAs count s.gates k (wire - count)
    new = kept.each (wire - count) (omega (arith, ge, l)) (rw back n)

    at : new.gate ≡ i
    at = let a = new.name in let b : slice_index k.names (count + (wire - count)) ≡ slice_index k.names wire = ap (slice_index k.names) back in omega (arith, a, b, name)

    still : weighs_at s.gates (wire - count) ≡ false
    still = sym (new.alike) ∙ ap (weighs_at k.gates) at ∙ h

    by_test : (b : Bool) → weighs_at done (wire - count) ≡ b → weighs_at done (wire - count) ≡ false
    by_test false e = e
    by_test true e = absurd (let q : true ≡ false = sym (st.each (wire - count) e).0 ∙ still in cc)

-- the wire of a product by a plain vector is such a wire still, if it is needed
pub still_weighed : (need : ℕ → Bool) (count : ℕ) (done : List Gate) (s : Progress) (k : Kept) (a : ℕ) → Stays count done s → AreKept need count s.gates k → weighed_by (maker count done a) ≡ true
    → need (slice_index s.names a) ≡ true → weighed_by (maker count k.gates (slice_index k.names (slice_index s.names a))) ≡ true
still_weighed need count done s k a st kept h n =
    rw (own, ← back, new.name, maker_weighs count k.gates new.gate, new.alike) one.0
  where
    ge : count ≤ a
    ge = weighed_after count done a h

    back : count + (a - count) ≡ a
    back = omega (arith, ge)

    here : weighs_at done (a - count) ≡ true
    here = sym (maker_weighs count done (a - count)) ∙ ap (λ z. weighed_by (maker count done z)) back ∙ h

    one : (weighs_at s.gates (a - count) ≡ true) × (slice_index s.names (count + (a - count)) ≡ count + (a - count))
    one = st.each (a - count) here

    own : slice_index s.names a ≡ a
    own = ap (slice_index s.names) (sym back) ∙ one.1 ∙ back

    new : IsKeptAs count s.gates k (a - count)
    new = kept.each (a - count) (weighs_within s.gates (a - count) one.0) (ap need (back ∙ sym own) ∙ n)
