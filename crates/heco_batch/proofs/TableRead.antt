use Rattle.std.proofs.Common.{◌≡◌, ℕ, zero, suc, ◌+◌, ◌*◌, ◌<◌, ◌≤◌, List, [], ◌∷◌, ◌++◌, length, refl, ap, sym, ◌∙◌, arith, get_or, take, drop, length-append, true, ◌^◌, lit<}
use Rattle.std.specs.Prelude.{slice_get, Some, Contains}
use Rattle.std.proofs.lemmas.List.{take_more, take-append-drop, length-take-le}
use Rattle.std.proofs.lemmas.Option.{slice_get-get_or}
use Rattle.std.proofs.Math.Seq.{take-length}
use Rattle.heco_ir.specs.declared.scalar.SNode.{SNode}
use Rattle.heco_ir.specs.Values.{all_below, all_earlier}
use Rattle.heco_ir.specs.Scalars.{scalar_operands}
use Rattle.heco_ir.proofs.Means.{earlier_at}
use Rattle.heco_ir.proofs.Built.{built-push, built-stands, built-last, length-built, slice_get_below}
use Rattle.heco_ir.specs.Ranges.{AllFit, gates_of_nodes}
use Rattle.heco_ir.specs.Used.{EachOnce}
use Rattle.heco_written.specs.Proper.{IsProper}
use Rattle.heco_written.proofs.MadeTerms.{proper_made}
use Rattle.heco_written.specs.ScalarTerm.{ScalarTerm, Number}
use Rattle.heco_ir.specs.declared.vector.VNode.{VNode}
use Rattle.heco_ir.specs.Terms.{Extends, scalar_term_over, scalar_terms}
use Rattle.heco_batch.specs.declared.written.NodeWritten.{NodeWritten}
use Rattle.heco_batch.specs.inside.Written.{WrittenIs}
use Rattle.heco_ir.specs.Unrolled.{AllMade, AllElementsBelow, operation, operations}
use Rattle.heco_batch.specs.Table.{TableIs}
use Rattle.heco_batch.proofs.FewNodes.{few_nodes}
use Rattle.heco_batch.proofs.WrittenAdded.{written_stands}

pub table_at : (nodes : List VNode) (slots modulus : ℕ) (table : List NodeWritten) (ts : List ScalarTerm) (k : ℕ) (d : NodeWritten)
    → TableIs nodes slots modulus table ts → k < length table → WrittenIs nodes slots modulus (get_or table k d) (get_or ts k (Number 0))
table_at nodes slots modulus [] ts k d h l = elim l [ ]
table_at nodes slots modulus (e ∷ table) [] k d h l = absurd h
table_at nodes slots modulus (e ∷ table) (x ∷ ts) zero d h l = h.0
table_at nodes slots modulus (e ∷ table) (x ∷ ts) (suc k) d h l = table_at nodes slots modulus table ts k d h.1 (omega arith)

pub table_push : (nodes : List VNode) (slots modulus : ℕ) (table : List NodeWritten) (ts : List ScalarTerm) (d : NodeWritten) (x : ScalarTerm)
    → TableIs nodes slots modulus table ts → WrittenIs nodes slots modulus d x → TableIs nodes slots modulus (table ++ d ∷ []) (ts ++ x ∷ [])
table_push nodes slots modulus [] [] d x h w = (w, tt)
table_push nodes slots modulus [] (y ∷ ts) d x h w = absurd h
table_push nodes slots modulus (e ∷ table) [] d x h w = absurd h
table_push nodes slots modulus (e ∷ table) (y ∷ ts) d x h w = (h.0, table_push nodes slots modulus table ts d x h.1 w)

pub table_stands : {m : ℕ} {a b : List VNode} (slots modulus : ℕ) (table : List NodeWritten) (ts : List ScalarTerm) → Extends m a b → TableIs a slots modulus table ts → TableIs b slots modulus table ts
table_stands slots modulus [] [] h t = tt
table_stands slots modulus [] (y ∷ ts) h t = absurd t
table_stands slots modulus (e ∷ table) [] h t = absurd t
table_stands slots modulus (e ∷ table) (y ∷ ts) h t = (written_stands h t.0, table_stands slots modulus table ts h t.1)

-- the first nodes have their written forms, with few gates and in range
pub record Tabled (ns : List SNode) (i : ℕ) (c : List VNode) (slots modulus : ℕ) (table : List NodeWritten) : Type 0 where
  pub table_is : TableIs c slots modulus table (scalar_terms (take i ns))
  pub count : length table ≡ i
  pub gates : gates_of_nodes c ≤ 39 * operations (take i ns)
  pub fits : AllFit slots modulus ns c

pub tabled_start : (ns : List SNode) (c : List VNode) (slots modulus : ℕ) → c ≡ [] → Tabled ns 0 c slots modulus []
tabled_start ns c slots modulus e = record { table_is = tt; count = refl; gates = rw e (omega arith); fits = rw e tt }

pub operands_before : (ns : List SNode) (i m : ℕ) (n : SNode) → all_earlier scalar_operands 0 ns ≡ true → slice_get ns i ≡ Some n → m ≡ i → all_below m (scalar_operands n) ≡ true
operands_before ns i m n h e f =
    let (l, g) = slice_get_below ns i n n e in
    let z : m ≡ 0 + i = omega arith in
    ap (λ k. all_below m (scalar_operands k)) (sym g) ∙ ap (λ k. all_below k (scalar_operands (get_or ns i n))) z ∙ earlier_at scalar_operands 0 i ns n h l

pub operations-append : (xs : List SNode) (n : SNode) → operations (xs ++ n ∷ []) ≡ operations xs + operation n
operations-append [] n = omega arith
operations-append (x ∷ xs) n = omega (arith, operations-append xs n)

operations-take : (i : ℕ) (ns : List SNode) → operations (take i ns) ≤ operations ns
operations-take zero ns = omega arith
operations-take (suc i) [] = omega arith
operations-take (suc i) (n ∷ ns) = omega (arith, operations-take i ns)

one_more : (ns : List SNode) (i : ℕ) (n : SNode) → slice_get ns i ≡ Some n → take (i + 1) ns ≡ take i ns ++ n ∷ []
one_more ns i n e = let (l, g) = slice_get_below ns i n n e in take_more ns i n l ∙ ap (λ x. take i ns ++ x ∷ []) g

pub tabled_next : {ns : List SNode} {i : ℕ} {a b : List VNode} {slots modulus : ℕ} {table table2 : List NodeWritten} (n : SNode) (d : NodeWritten)
    → Tabled ns i a slots modulus table → slice_get ns i ≡ Some n → Extends 39 a b → gates_of_nodes b ≤ gates_of_nodes a + 39 * operation n → AllFit slots modulus ns b
    → WrittenIs b slots modulus d (scalar_term_over (scalar_terms (take i ns)) n) → table2 ≡ table ++ d ∷ [] → Tabled ns (i + 1) b slots modulus table2
tabled_next {ns} {i} {a} {b} {slots} {modulus} {table} {table2} n d h e ext few fits w et =
    let more : take (i + 1) ns ≡ take i ns ++ n ∷ [] = one_more ns i n e in
    let t : scalar_terms (take (i + 1) ns) ≡ scalar_terms (take i ns) ++ scalar_term_over (scalar_terms (take i ns)) n ∷ [] =
    ap scalar_terms more ∙ built-push scalar_term_over (take i ns) n in
    record {
      table_is = rw (t, et) (table_push b slots modulus table (scalar_terms (take i ns)) d (scalar_term_over (scalar_terms (take i ns)) n) (table_stands slots modulus table (scalar_terms (take i ns)) ext h.table_is) w);
      count = omega (arith, ap length et, length-append table (d ∷ []), h.count);
      gates = omega (arith, h.gates, few, ap operations more, operations-append (take i ns) n);
      fits = fits;
    }

pub tabled_all : {ns : List SNode} {i : ℕ} {c : List VNode} {slots modulus : ℕ} {table : List NodeWritten} → Tabled ns i c slots modulus table → i ≡ length ns
    → TableIs c slots modulus table (scalar_terms ns) × (gates_of_nodes c ≤ 39 * operations ns)
tabled_all {ns} {i} {c} {slots} {modulus} {table} h e =
    let t : take i ns ≡ ns = ap (λ k. take k ns) e ∙ take-length ns in
    (rw t at h.table_is, rw t at h.gates)

pub contained : (ns : List SNode) (i : ℕ) (n : SNode) → slice_get ns i ≡ Some n → Contains ns n
contained ns i n e = let (l, g) = slice_get_below ns i n n e in (i, l, g)

-- a node's term is over those before it
pub term_here : (ns : List SNode) (i : ℕ) (n : SNode) → slice_get ns i ≡ Some n → get_or (scalar_terms ns) i (Number 0) ≡ scalar_term_over (scalar_terms (take i ns)) n
term_here ns i n e =
    let (l, g) = slice_get_below ns i n n e in
    let front : length (take i ns) ≡ i = length-take-le i ns (omega arith) in
    let more : length (take (i + 1) ns) ≡ i + 1 = length-take-le (i + 1) ns (omega arith) in
    let split : ns ≡ take (i + 1) ns ++ drop (i + 1) ns = sym (take-append-drop (i + 1) ns) in
    ap (λ x. get_or (scalar_terms x) i (Number 0)) split
    ∙ built-stands scalar_term_over (take (i + 1) ns) (drop (i + 1) ns) i (Number 0) (omega arith)
    ∙ ap (λ x. get_or (scalar_terms x) i (Number 0)) (one_more ns i n e)
    ∙ ap (λ k. get_or (scalar_terms (take i ns ++ n ∷ [])) k (Number 0)) (sym front)
    ∙ built-last scalar_term_over (take i ns) n (Number 0)

-- the term of the next node over those before it is proper
pub next_proper : (ns : List SNode) (i slots modulus : ℕ) (n : SNode) → 0 < modulus → AllMade modulus slots (scalar_terms ns) → slice_get ns i ≡ Some n
    → IsProper modulus slots (scalar_term_over (scalar_terms (take i ns)) n)
next_proper ns i slots modulus n some made e =
    let (l, g) = slice_get_below ns i n n e in
    let there : slice_get (scalar_terms ns) i ≡ Some (get_or (scalar_terms ns) i (Number 0)) = slice_get-get_or (scalar_terms ns) i (Number 0) (omega (arith, length-built scalar_term_over ns)) in
    rw (term_here ns i n e) at (proper_made modulus slots some (made i (get_or (scalar_terms ns) i (Number 0)) there))

-- there is room for what one node adds
pub room : {ns : List SNode} {i : ℕ} {c : List VNode} {slots modulus : ℕ} {table : List NodeWritten} → Tabled ns i c slots modulus table → EachOnce c
    → AllElementsBelow 256 ns → operations ns ≤ 524288 → length c + 64 < 2 ^ 26
room {ns} {i} {c} {slots} {modulus} {table} h once below few =
    let small : length c ≤ gates_of_nodes c + 256 = few_nodes slots modulus ns c 256 once h.fits below in
    let gates : gates_of_nodes c ≤ 39 * operations (take i ns) = h.gates in
    let part : operations (take i ns) ≤ operations ns = operations-take i ns in
    let large : 20447552 < 2 ^ 26 = lit< tt in
    omega arith
