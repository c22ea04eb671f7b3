-- One gate more, on both sides.
use Rattle.std.proofs.Common.{◌≡◌, ℕ, ◌+◌, ◌<◌, ◌≤◌, List, [], ◌∷◌, ◌++◌, length, refl, ap, sym, ◌∙◌, arith, get_or, inl, inr, length-append}
use Rattle.std.specs.Prelude.{slice_index}
use Rattle.std.proofs.lemmas.Bool.{cases_lt}
use Rattle.std.proofs.lemmas.List.{get_or_append_left, get_or_push}
use Rattle.heco_nums.specs.Presets.{modulus_of}
use Rattle.heco_circuit.specs.declared.gate.Gate.{Gate}
use Rattle.heco_circuit.specs.Validity.{parts_of}
use Rattle.heco_circuit.specs.Bounds.{bound_of, weights_of}
use Rattle.heco_meaning.specs.Meanings.{wire_at, wire_of}
use Rattle.heco_rewrites.specs.Wires.{Wires, behind, StandsFor, Even, Named}

left : {X : Type 0} (xs : List X) (y d : X) (i : ℕ) → i < length xs → get_or (xs ++ y ∷ []) i d ≡ get_or xs i d
left xs y d i h = get_or_append_left xs (y ∷ []) d i h

pub longer : {X : Type 0} (xs : List X) (y : X) → length (xs ++ y ∷ []) ≡ length xs + 1
longer xs y = length-append xs (y ∷ [])

pub even_more : (id : ℕ) (vs : List (List ℕ)) (w : Wires) (g : Gate) → Even w → Even (behind id vs w g)
even_more id vs w g e = record {
  bounds = longer w.bounds (bound_of id (weights_of id vs) w.bounds g) ∙ ap (λ x. x + 1) e.bounds ∙ sym (longer w.parts (parts_of w.parts g));
  slots = longer w.slots (wire_of (modulus_of id) vs w.slots g) ∙ ap (λ x. x + 1) e.slots ∙ sym (longer w.parts (parts_of w.parts g));
}

-- later gates do not change what a wire is
pub same_wire : (id : ℕ) (vs : List (List ℕ)) (w : Wires) (g : Gate) (a : ℕ) → Even w → a < length w.parts → StandsFor w (behind id vs w g) a a
same_wire id vs w g a e h = record {
  within = let l = longer w.parts (parts_of w.parts g) in omega (arith, l, h);
  parts = left w.parts (parts_of w.parts g) 0 a h;
  bounds = let b : a < length w.bounds = rw (e.bounds) h in let q = left w.bounds (bound_of id (weights_of id vs) w.bounds g) 0 a b in omega (arith, q);
  slots = left w.slots (wire_of (modulus_of id) vs w.slots g) [] a (rw (e.slots) h);
}

pub same_wire_back : (id : ℕ) (vs : List (List ℕ)) (w : Wires) (g : Gate) (a : ℕ) → Even w → a < length w.parts → StandsFor (behind id vs w g) w a a
same_wire_back id vs w g a e h = record {
  within = h;
  parts = sym (left w.parts (parts_of w.parts g) 0 a h);
  bounds = let b : a < length w.bounds = rw (e.bounds) h in let q = left w.bounds (bound_of id (weights_of id vs) w.bounds g) 0 a b in omega (arith, q);
  slots = sym (left w.slots (wire_of (modulus_of id) vs w.slots g) [] a (rw (e.slots) h));
}

pub stands_through : (u v w : Wires) (a b c : ℕ) → StandsFor u v a b → StandsFor v w b c → StandsFor u w a c
stands_through u v w a b c s r = record {
  within = r.within;
  parts = r.parts ∙ s.parts;
  bounds = let p = r.bounds in let q = s.bounds in omega (arith, p, q);
  slots = r.slots ∙ s.slots;
}

pub stands_more : (id : ℕ) (vs ws : List (List ℕ)) (old new : Wires) (g h : Gate) (a name : ℕ) → Even old → Even new → a < length old.parts → StandsFor old new a name
    → StandsFor (behind id vs old g) (behind id ws new h) a name
stands_more id vs ws old new g h a name eo en la s =
    stands_through (behind id vs old g) old (behind id ws new h) a a name (same_wire_back id vs old g a eo la)
    (stands_through old new (behind id ws new h) a name name s (same_wire id ws new h name en s.within))

-- the wire of a new gate stands for that of an old one
pub own_stands : (id : ℕ) (vs ws : List (List ℕ)) (old new : Wires) (g h : Gate) → Even old → Even new → parts_of new.parts h ≡ parts_of old.parts g
    → bound_of id (weights_of id ws) new.bounds h ≤ bound_of id (weights_of id vs) old.bounds g → wire_of (modulus_of id) ws new.slots h ≡ wire_of (modulus_of id) vs old.slots g
    → StandsFor (behind id vs old g) (behind id ws new h) (length old.parts) (length new.parts)
own_stands id vs ws old new g h eo en p b s = record {
  within = let l = longer new.parts (parts_of new.parts h) in omega (arith, l);
  parts = get_or_push new.parts (parts_of new.parts h) 0 (length new.parts) refl ∙ p ∙ sym (get_or_push old.parts (parts_of old.parts g) 0 (length old.parts) refl);
  bounds =
      let x = get_or_push new.bounds (bound_of id (weights_of id ws) new.bounds h) 0 (length new.parts) en.bounds in
      let y = get_or_push old.bounds (bound_of id (weights_of id vs) old.bounds g) 0 (length old.parts) eo.bounds in
      rw (x, y) b;
  slots =
      get_or_push new.slots (wire_of (modulus_of id) ws new.slots h) [] (length new.parts) en.slots
      ∙ s ∙ sym (get_or_push old.slots (wire_of (modulus_of id) vs old.slots g) [] (length old.parts) eo.slots);
}

-- so does an earlier wire with as many parts, no greater bound and the same slots
pub wire_stands : (id : ℕ) (vs ws : List (List ℕ)) (old new : Wires) (g h : Gate) (x : ℕ) → Even old → Even new → x < length new.parts → slice_index new.parts x ≡ parts_of old.parts g
    → slice_index new.bounds x ≤ bound_of id (weights_of id vs) old.bounds g → wire_at new.slots x ≡ wire_of (modulus_of id) vs old.slots g
    → StandsFor (behind id vs old g) (behind id ws new h) (length old.parts) x
wire_stands id vs ws old new g h x eo en l p b s = record {
  within = let k = longer new.parts (parts_of new.parts h) in omega (arith, k, l);
  parts = left new.parts (parts_of new.parts h) 0 x l ∙ p ∙ sym (get_or_push old.parts (parts_of old.parts g) 0 (length old.parts) refl);
  bounds =
      let c = left new.bounds (bound_of id (weights_of id ws) new.bounds h) 0 x (rw (en.bounds) l) in
      let y = get_or_push old.bounds (bound_of id (weights_of id vs) old.bounds g) 0 (length old.parts) eo.bounds in
      rw (c, y) b;
  slots =
      left new.slots (wire_of (modulus_of id) ws new.slots h) [] x (rw (en.slots) l)
      ∙ s ∙ sym (get_or_push old.slots (wire_of (modulus_of id) vs old.slots g) [] (length old.parts) eo.slots);
}

pub named_push : (id : ℕ) (vs ws : List (List ℕ)) (names : List ℕ) (old new : Wires) (g h : Gate) (x : ℕ) → Named names old new
    → StandsFor (behind id vs old g) (behind id ws new h) (length old.parts) x → Named (names ++ x ∷ []) (behind id vs old g) (behind id ws new h)
named_push id vs ws names old new g h x n s = record {
  count = longer names x ∙ ap (λ k. k + 1) n.count ∙ sym (longer old.parts (parts_of old.parts g));
  old_even = even_more id vs old g n.old_even;
  new_even = even_more id ws new h n.new_even;
  each = λ a la. elim (cases_lt a (length old.parts)) [
    | inl l ↦ (let e = left names x 0 a (rw (n.count) l) in rw e (stands_more id vs ws old new g h a (slice_index names a) n.old_even n.new_even l (n.each a l)))
    | inr ge ↦ (let k = longer old.parts (parts_of old.parts g) in let q : length old.parts ≡ a = omega (arith, k, la, ge) in
        let e = get_or_push names x 0 a (n.count ∙ q) in rw e (rw q at s))
  ];
}
