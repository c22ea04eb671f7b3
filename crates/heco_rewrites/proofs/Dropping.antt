-- Dropping the gates that no output needs.
use Rattle.std.proofs.Common.{◌≡◌, ℕ, zero, suc, ◌+◌, ◌<◌, List, [], ◌∷◌, ◌++◌, length, refl, ap, sym, ◌∙◌, arith, inl, inr, Bool, true, false, ◌&&◌, ◌||◌, eqb, subst}
use Rattle.std.specs.Prelude.{Contains, slice_get, slice_index, Some}
use Rattle.std.specs.List.{range_with_len}
use Rattle.std.proofs.lemmas.Bool.{cases_lt, eqb-true, eq-eqb}
use Rattle.std.proofs.lemmas.List.{get_or_append_left, get_or_push}
use Rattle.std.proofs.lemmas.List.FromFn.{length-range_with_len, get_or-range_with_len}
use Rattle.heco_nums.specs.Presets.{modulus_of, slots_of}
use Rattle.heco_nums.specs.Runs.{along, all_along}
use Rattle.heco_fields.proofs.Bools.{both_true, and_true}
use Rattle.heco_fields.proofs.Loops.{along_push}
use Rattle.heco_circuit.specs.declared.gate.Gate.{Gate}
use Rattle.heco_circuit.specs.Validity.{parts_of, with_gate, is_gate}
use Rattle.heco_rewrites.specs.Wires.{Wires, behind, operands, over, StandsFor, OperandsStand, Even, Keeps}
use Rattle.heco_rewrites.specs.Needed.{has, reads, needed, Kept, kept, kept_where}
use Rattle.heco_rewrites.specs.Dropping.{needed_gates, DeadGatesMayGo}
use Rattle.heco_rewrites.specs.Renaming.{IsRenamed}
use Rattle.heco_rewrites.proofs.Renamed.{renamed}
use Rattle.heco_rewrites.proofs.Named.{longer, even_more, same_wire_back, stands_through, stands_more, own_stands}
use Rattle.heco_rewrites.proofs.Along.{along_parts, along_long, all_push, gate_below, all_earlier}

pub has_contained : (xs : List ℕ) (a : ℕ) → Contains xs a → has xs a ≡ true
has_contained [] a (i, l, e) = absurd (omega (arith, l))
has_contained (x ∷ xs) a (zero, l, e) = rw (eq-eqb x a e) refl
has_contained (x ∷ xs) a (suc i, l, e) = or_right (eqb x a) (has xs a) (has_contained xs a (i, omega (arith, l), e))
  where
    or_right : (b c : Bool) → c ≡ true → (b || c) ≡ true
    or_right true c h = refl
    or_right false c h = h

pub contained_has : (xs : List ℕ) (a : ℕ) → has xs a ≡ true → Contains xs a
contained_has [] a h = absurd cc
contained_has (x ∷ xs) a h = by_test (eqb x a) refl h (contained_has xs a)
  where
    by_test : (b : Bool) → eqb x a ≡ b → (b || has xs a) ≡ true → (has xs a ≡ true → Contains xs a) → Contains (x ∷ xs) a
    by_test true t h f = (zero, omega arith, eqb-true x a t)
    by_test false t h f = let r = f h in (suc r.0, (let l = r.1 in omega (arith, l)), r.2)

-- what a needed gate reads is needed
pub needed_closed : (outs : ℕ → Bool) (wire : ℕ) (gates : List Gate) → ((k : ℕ) (g : Gate) → slice_get gates k ≡ Some g → (a : ℕ) → Contains (operands g) a → a < wire + k)
    → (k : ℕ) (g : Gate) → slice_get gates k ≡ Some g → needed outs wire gates (wire + k) ≡ true → (a : ℕ) → Contains (operands g) a → needed outs wire gates a ≡ true
needed_closed outs wire [] early k g e n a c = absurd cc
needed_closed outs wire (x ∷ gates) early zero g e n a c =
    let N : ℕ → Bool = needed outs (wire + 1) gates in
    let z : wire + 0 ≡ wire = omega arith in
    let same : x ≡ g = (let q : Some x ≡ Some g = e in cc) in
    let own : N wire ≡ true = either (N wire) (reads x wire) (rw z at n) in
    right_side (N a) (reads x a) (N wire) (has_contained (operands x) a (subst (λ y. Contains (operands y) a) (sym same) c)) own
  where
    either : (b r : Bool) → (b || (r && b)) ≡ true → b ≡ true
    either true r h = refl
    either false true h = h
    either false false h = h

    right_side : (b r o : Bool) → r ≡ true → o ≡ true → (b || (r && o)) ≡ true
    right_side true r o h k = refl
    right_side false r o h k = and_true r o h k
needed_closed outs wire (x ∷ gates) early (suc k) g e n a c =
    let N : ℕ → Bool = needed outs (wire + 1) gates in
    let z : wire + suc k ≡ wire + 1 + k = omega arith in
    let n' : (N (wire + 1 + k) || (reads x (wire + 1 + k) && N wire)) ≡ true = rw z at n in
    let later : reads x (wire + 1 + k) ≡ true → ⊥ = (λ h. let l = early zero x refl (wire + 1 + k) (contained_has (operands x) (wire + 1 + k) h) in omega (arith, l)) in
    left_side (N a) (reads x a && N wire)
    (needed_closed outs (wire + 1) gates (λ j y q b d. let l = early (suc j) y q b d in omega (arith, l)) k g e (only (N (wire + 1 + k)) (reads x (wire + 1 + k)) (N wire) n' later) a c)
  where
    left_side : (b c : Bool) → b ≡ true → (b || c) ≡ true
    left_side true c h = refl
    left_side false c h = absurd cc

    only : (b r o : Bool) → (b || (r && o)) ≡ true → (r ≡ true → ⊥) → b ≡ true
    only true r o h n = refl
    only false true o h n = absurd (n refl)
    only false false o h n = h

-- ---- the kept gates
pub record Copied (id : ℕ) (vs : List (List ℕ)) (need : ℕ → Bool) (start old : Wires) (s : Kept) : Type 0 where
  pub count : length s.names ≡ length old.parts
  pub old_even : Even old
  pub new_even : Even (along (behind id vs) start s.gates)
  pub each : (a : ℕ) → a < length old.parts → need a ≡ true → StandsFor old (along (behind id vs) start s.gates) a (slice_index s.names a)
  pub formed : all_along (is_gate (modulus_of id) (slots_of id) (length vs)) with_gate start.parts s.gates ≡ true

pub keeps_itself : (vs : List (List ℕ)) → Keeps vs vs
keeps_itself vs = record { few = omega arith; each = λ v l. refl }

copied_where : (id : ℕ) (vs : List (List ℕ)) (need : ℕ → Bool) (start old : Wires) (s : Kept) (g : Gate) → Copied id vs need start old s → is_gate (modulus_of id) (slots_of id) (length vs) old.parts g ≡ true
    → (b : Bool) → need (length s.names) ≡ b → (b ≡ true → (a : ℕ) → Contains (operands g) a → need a ≡ true) → Copied id vs need start (behind id vs old g) (kept_where (length start.parts) s g b)
copied_where id vs need start old s g o valid false e closed =
    let more = longer old.parts (parts_of old.parts g) in
    let new : Wires = along (behind id vs) start s.gates in
    record {
      count = longer s.names 0 ∙ ap (λ k. k + 1) o.count ∙ sym more;
      old_even = even_more id vs old g o.old_even;
      new_even = o.new_even;
      each = λ a la n. elim (cases_lt a (length old.parts)) [
        | inl l ↦ (let q = get_or_append_left s.names (0 ∷ []) 0 a (rw (o.count) l) in
            rw q (stands_through (behind id vs old g) old new a a (slice_index s.names a) (same_wire_back id vs old g a o.old_even l) (o.each a l n)))
        | inr ge ↦ absurd (let z : a ≡ length s.names = (let c = o.count in omega (arith, c, more, la, ge)) in let f : need a ≡ false = ap need z ∙ e in cc)
      ];
      formed = o.formed;
    }
copied_where id vs need start old s g o valid true e closed =
    let more = longer old.parts (parts_of old.parts g) in
    let new : Wires = along (behind id vs) start s.gates in
    let h : Gate = over (slice_index s.names) g in
    let below = gate_below (modulus_of id) (slots_of id) (length vs) old.parts g valid in
    let ops : OperandsStand (slice_index s.names) old new g = (λ a c. o.each a (below a c) (closed refl a c)) in
    let same : IsRenamed id vs vs old new g h = renamed id vs vs (slice_index s.names) old new g (keeps_itself vs) ops valid in
    let at : length start.parts + length s.gates ≡ length new.parts = sym (along_long id vs start s.gates) in
    let push : along (behind id vs) start (s.gates ++ h ∷ []) ≡ behind id vs new h = along_push (behind id vs) start s.gates h in
    record {
      count = longer s.names (length start.parts + length s.gates) ∙ ap (λ k. k + 1) o.count ∙ sym more;
      old_even = even_more id vs old g o.old_even;
      new_even = rw push (even_more id vs new h o.new_even);
      each = rw push (λ a la n. elim (cases_lt a (length old.parts)) [
        | inl l ↦ (let q = get_or_append_left s.names ((length start.parts + length s.gates) ∷ []) 0 a (rw (o.count) l) in
            rw q (stands_more id vs vs old new g h a (slice_index s.names a) o.old_even o.new_even l (o.each a l n)))
        | inr ge ↦ (let z : length old.parts ≡ a = omega (arith, more, la, ge) in
            let q = get_or_push s.names (length start.parts + length s.gates) 0 a (o.count ∙ z) in
            rw (q, at) (rw z at (own_stands id vs vs old new g h o.old_even o.new_even same.parts same.bound same.slots)))
      ]);
      formed = all_push (is_gate (modulus_of id) (slots_of id) (length vs)) with_gate start.parts s.gates h o.formed (rw (← (along_parts id vs start s.gates)) same.valid);
    }

copied : (id : ℕ) (vs : List (List ℕ)) (need : ℕ → Bool) (start old : Wires) (s : Kept) (g : Gate) → Copied id vs need start old s → is_gate (modulus_of id) (slots_of id) (length vs) old.parts g ≡ true
    → (need (length old.parts) ≡ true → (a : ℕ) → Contains (operands g) a → need a ≡ true) → Copied id vs need start (behind id vs old g) (kept need (length start.parts) s g)
copied id vs need start old s g o valid closed = copied_where id vs need start old s g o valid (need (length s.names)) refl (λ e. closed (rw (o.count) at e))

-- ---- gate by gate
drops : (id : ℕ) (vs : List (List ℕ)) (need : ℕ → Bool) (start old : Wires) (s : Kept) (gates : List Gate) → Copied id vs need start old s
    → all_along (is_gate (modulus_of id) (slots_of id) (length vs)) with_gate old.parts gates ≡ true
    → ((k : ℕ) (g : Gate) → slice_get gates k ≡ Some g → need (length old.parts + k) ≡ true → (a : ℕ) → Contains (operands g) a → need a ≡ true)
    → Copied id vs need start (along (behind id vs) old gates) (along (kept need (length start.parts)) s gates)
drops id vs need start old s [] o v h = o
drops id vs need start old s (g ∷ gates) o v h =
    let test = is_gate (modulus_of id) (slots_of id) (length vs) in
    let u = both_true (test old.parts g) (all_along test with_gate (with_gate old.parts g) gates) v in
    let z : length old.parts + 0 ≡ length old.parts = omega arith in
    let m = longer old.parts (parts_of old.parts g) in
    drops id vs need start (behind id vs old g) (kept need (length start.parts) s g) gates
    (copied id vs need start old s g o u.0 (λ n. h zero g refl (rw z n)))
    u.1
    (λ k x e n. let q : length old.parts + suc k ≡ length (with_gate old.parts g) + k = omega (arith, m) in h (suc k) x e (rw q n))

start_copied : (id : ℕ) (vs : List (List ℕ)) (need : ℕ → Bool) (start : Wires) → Even start → Copied id vs need start start (record { gates = []; names = range_with_len 0 (length start.parts) })
start_copied id vs need start e = record {
  count = length-range_with_len 0 (length start.parts);
  old_even = e;
  new_even = e;
  each = λ a l n. (let q : slice_index (range_with_len 0 (length start.parts)) a ≡ a = get_or-range_with_len 0 (length start.parts) a 0 l ∙ omega arith in
      rw q (record { within = l; parts = refl; bounds = omega arith; slots = refl }));
  formed = refl;
}

pub dropped : DeadGatesMayGo
dropped id vs start outs gates e v =
    let n : ℕ = length start.parts in
    let need : ℕ → Bool = needed outs n gates in
    let o : Copied id vs need start (along (behind id vs) start gates) (needed_gates outs n gates) =
    drops id vs need start start (record { gates = []; names = range_with_len 0 n }) gates (start_copied id vs need start e) v
    (needed_closed outs n gates (all_earlier (modulus_of id) (slots_of id) (length vs) start.parts gates v)) in
    record {
      each = λ a l q. o.each a (rw (along_long id vs start gates) l) q;
      formed = o.formed;
    }
