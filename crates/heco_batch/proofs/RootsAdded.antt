-- Roots and homes, one after the other.
use Rattle.std.proofs.Common.{◌≡◌, ℕ, suc, ◌+◌, ◌<◌, List, [], ◌∷◌, ◌++◌, length, refl, ap, sym, ◌∙◌, arith, get_or, map, take, length-append, true}
use Rattle.std.specs.Prelude.{slice_get, Some}
use Rattle.std.proofs.lemmas.List.{take_more, map-append, length-take-le}
use Rattle.std.proofs.Math.Seq.{take-length}
use Rattle.heco_written.specs.ScalarTerm.{ScalarTerm, Number}
use Rattle.heco_written.specs.VectorTerm.{Input}
use Rattle.heco_written.specs.WrittenForm.{WrittenHome, Known, At as AtPlace, Place, places, vectors_of, written}
use Rattle.heco_ir.specs.declared.dialect.NodeId.{NodeId}
use Rattle.heco_ir.specs.declared.home.Home.{Home}
use Rattle.heco_ir.specs.declared.home.Home.TheVariants.{Number as NumberHome, At}
use Rattle.heco_ir.specs.declared.scalar.SNode.{SNode}
use Rattle.heco_ir.specs.declared.vector.VNode.{VNode}
use Rattle.heco_ir.specs.Values.{all_below, all_earlier, numbers}
use Rattle.heco_ir.specs.Vectors.{vector_operands}
use Rattle.heco_ir.specs.Terms.{scalar_terms, scalar_term_over, vector_terms, terms_at}
use Rattle.heco_ir.proofs.Built.{slice_get_below, length-built}
use Rattle.heco_ir.proofs.Means.{below_append, earlier_at, numbers-append}
use Rattle.heco_batch.specs.declared.place.NodeSlot.{NodeSlot}
use Rattle.heco_batch.specs.declared.home.NodeHome.TheVariants.{Number as NumberNode, At as AtNode}
use Rattle.heco_batch.specs.declared.written.NodeWritten.{NodeWritten}
use Rattle.heco_batch.specs.inside.Homes.{HomeIs}
use Rattle.heco_batch.specs.Table.{TableIs}
use Rattle.heco_ir.specs.Unrolled.{root_terms}
use Rattle.heco_batch.specs.Roots.{written_homes, homes_from, RootsAre}
use Rattle.heco_ir.specs.Homes.{HomeFits, AllHomesFit}
use Rattle.heco_batch.proofs.HomesAdded.{places-known, places-at}

-- the nodes so far are the first of the set
pub before : (ns out : List VNode) (i : ℕ) (n : VNode) → all_earlier vector_operands 0 ns ≡ true → out ≡ take i ns → slice_get ns i ≡ Some n
    → (length out ≡ i) × (all_below (length out) (vector_operands n) ≡ true)
before ns out i n h e g =
    let (l, f) = slice_get_below ns i n n g in
    let long : length out ≡ i = ap length e ∙ length-take-le i ns (omega arith) in
    let z : length out ≡ 0 + i = omega arith in
    (long, rw z (ap (λ k. all_below (0 + i) (vector_operands k)) (sym f) ∙ earlier_at vector_operands 0 i ns n h l))

pub copied_next : (ns out out2 : List VNode) (i : ℕ) (n : VNode) → out ≡ take i ns → slice_get ns i ≡ Some n → out2 ≡ out ++ n ∷ [] → out2 ≡ take (i + 1) ns
copied_next ns out out2 i n e g f =
    let (l, there) = slice_get_below ns i n n g in
    f ∙ ap (λ x. x ++ n ∷ []) e ∙ sym (take_more ns i n l ∙ ap (λ x. take i ns ++ x ∷ []) there)

pub copied_all : (ns out : List VNode) (i : ℕ) → out ≡ take i ns → i ≡ length ns → out ≡ ns
copied_all ns out i e f = e ∙ ap (λ k. take k ns) f ∙ take-length ns

homes_from-known : (next c : ℕ) (hs : List WrittenHome) → homes_from next (hs ++ Known c ∷ []) ≡ homes_from next hs ++ NumberHome c ∷ []
homes_from-known next c [] = refl
homes_from-known next c (Known d ∷ hs) = ap (λ x. NumberHome d ∷ x) (homes_from-known next c hs)
homes_from-known next c (AtPlace p ∷ hs) = ap (λ x. At next p.slot ∷ x) (homes_from-known (next + 1) c hs)

homes_from-at : (next : ℕ) (q : Place) (hs : List WrittenHome) → homes_from next (hs ++ AtPlace q ∷ []) ≡ homes_from next hs ++ At (next + length (places hs)) q.slot ∷ []
homes_from-at next q [] = let e : next + 0 ≡ next = omega arith in rw e refl
homes_from-at next q (Known d ∷ hs) = ap (λ x. NumberHome d ∷ x) (homes_from-at next q hs)
homes_from-at next q (AtPlace p ∷ hs) =
    let e : next + 1 + length (places hs) ≡ next + suc (length (places hs)) = omega arith in
    ap (λ x. At next p.slot ∷ x) (homes_from-at (next + 1) q hs ∙ ap (λ k. homes_from (next + 1) hs ++ At k q.slot ∷ []) e)

fit-push : (slots modulus : ℕ) (hs : List Home) (h : Home) → AllHomesFit slots modulus hs → HomeFits slots modulus h → AllHomesFit slots modulus (hs ++ h ∷ [])
fit-push slots modulus [] h a f = (f, tt)
fit-push slots modulus (x ∷ hs) h a f = (a.0, fit-push slots modulus hs h a.1 f)

pub number_next : {nodes : List VNode} {slots modulus : ℕ} {roots : List NodeId} {homes homes2 : List Home} {hs : List WrittenHome} (d : ℕ) (k : WrittenHome)
    → RootsAre nodes slots modulus roots homes hs → HomeIs nodes slots modulus (NumberNode d) k → homes2 ≡ homes ++ NumberHome d ∷ []
    → RootsAre nodes slots modulus roots homes2 (hs ++ k ∷ [])
number_next {nodes} {slots} {modulus} {roots} {homes} {homes2} {hs} d (Known c) r h e = record {
  terms_are = r.terms_are ∙ ap (map (λ p. p.vector)) (sym (places-known hs c));
  inside = r.inside;
  count = r.count ∙ ap length (sym (places-known hs c));
  homes_are = e ∙ ap (λ x. x ++ NumberHome d ∷ []) r.homes_are ∙ ap (λ x. homes_from 0 hs ++ NumberHome x ∷ []) h.0 ∙ sym (homes_from-known 0 c hs);
  fit = rw e (fit-push slots modulus homes (NumberHome d) r.fit h.1);
}
number_next {nodes} {slots} {modulus} {roots} {homes} {homes2} {hs} d (AtPlace p) r h e = absurd h

pub place_next : {nodes : List VNode} {slots modulus : ℕ} {roots roots2 : List NodeId} {homes homes2 : List Home} {hs : List WrittenHome} (d : NodeSlot) (at : ℕ) (k : WrittenHome)
    → RootsAre nodes slots modulus roots homes hs → HomeIs nodes slots modulus (AtNode d) k → at ≡ length roots → roots2 ≡ roots ++ d.node ∷ []
    → homes2 ≡ homes ++ At at d.slot ∷ [] → RootsAre nodes slots modulus roots2 homes2 (hs ++ k ∷ [])
place_next {nodes} {slots} {modulus} {roots} {roots2} {homes} {homes2} {hs} d at (Known c) r h ea er eh = absurd h
place_next {nodes} {slots} {modulus} {roots} {roots2} {homes} {homes2} {hs} d at (AtPlace p) r h ea er eh =
    let place : ◌≡◌ {A = Place} (record { vector = get_or (vector_terms nodes) d.node.0 (Input 0); slot = d.slot }) p = h.0.is in
    let vector : get_or (vector_terms nodes) d.node.0 (Input 0) ≡ p.vector = ap (λ q. q.vector) place in
    let slot : d.slot ≡ p.slot = ap (λ q. q.slot) place in
    record {
      terms_are =
          ap (λ x. terms_at nodes (numbers x)) er
          ∙ ap (terms_at nodes) (numbers-append roots d.node)
          ∙ map-append (λ i. get_or (vector_terms nodes) i (Input 0)) (numbers roots) (d.node.0 ∷ [])
          ∙ ap (λ x. x ++ get_or (vector_terms nodes) d.node.0 (Input 0) ∷ []) r.terms_are
          ∙ ap (λ x. vectors_of hs ++ x ∷ []) vector
          ∙ sym (map-append (λ q. q.vector) (places hs) (p ∷ []))
          ∙ ap (map (λ q. q.vector)) (sym (places-at hs p));
      inside = rw (er, numbers-append roots d.node) (below_append (length nodes) (numbers roots) d.node.0 r.inside h.0.within);
      count = ap length er ∙ length-append roots (d.node ∷ []) ∙ ap (λ k. k + 1) r.count ∙ sym (length-append (places hs) (p ∷ [])) ∙ ap length (sym (places-at hs p));
      homes_are =
          eh ∙ ap (λ x. x ++ At at d.slot ∷ []) r.homes_are
          ∙ ap (λ k. homes_from 0 hs ++ At k d.slot ∷ []) (omega (arith, ea, r.count))
          ∙ ap (λ k. homes_from 0 hs ++ At (0 + length (places hs)) k ∷ []) slot
          ∙ sym (homes_from-at 0 p hs);
      fit = rw eh (fit-push slots modulus homes (At at d.slot) r.fit h.1);
    }

table_length : (nodes : List VNode) (slots modulus : ℕ) (table : List NodeWritten) (ts : List ScalarTerm) → TableIs nodes slots modulus table ts → length table ≡ length ts
table_length nodes slots modulus [] [] h = refl
table_length nodes slots modulus [] (x ∷ ts) h = absurd h
table_length nodes slots modulus (d ∷ table) [] h = absurd h
table_length nodes slots modulus (d ∷ table) (x ∷ ts) h = ap suc (table_length nodes slots modulus table ts h.1)

pub table_long : (nodes : List VNode) (slots modulus : ℕ) (table : List NodeWritten) (ns : List SNode) → TableIs nodes slots modulus table (scalar_terms ns) → length table ≡ length ns
table_long nodes slots modulus table ns h = table_length nodes slots modulus table (scalar_terms ns) h ∙ length-built scalar_term_over ns

-- one root more
pub homes_more : (ns : List SNode) (slots modulus : ℕ) (ids : List NodeId) (i : ℕ) (d : NodeId) → i < length ids
    → written_homes modulus slots (root_terms ns (numbers (take (i + 1) ids)))
    ≡ written_homes modulus slots (root_terms ns (numbers (take i ids))) ++ (written modulus slots (get_or (scalar_terms ns) (get_or ids i d).0 (Number 0))).home ∷ []
homes_more ns slots modulus ids i d l =
    let r : NodeId = get_or ids i d in
    ap (λ x. written_homes modulus slots (root_terms ns (numbers x))) (take_more ids i d l)
    ∙ ap (λ x. written_homes modulus slots (root_terms ns x)) (numbers-append (take i ids) r)
    ∙ ap (written_homes modulus slots) (map-append (λ k. get_or (scalar_terms ns) k (Number 0)) (numbers (take i ids)) (r.0 ∷ []))
    ∙ map-append (λ x. (written modulus slots x).home) (root_terms ns (numbers (take i ids))) (get_or (scalar_terms ns) r.0 (Number 0) ∷ [])
