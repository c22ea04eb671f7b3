use Rattle.std.proofs.Common.{◌≡◌, ◌<◌, ◌+◌, ◌++◌, [], length, map, ap, sym, ◌∙◌, arith, get_or}
use Rattle.std.proofs.lemmas.List.{length-replicate, get_or-replicate, ext_get_or, append-nil}
use Rattle.std.specs.List.{flat_map}
use Rattle.heco_circuit.specs.declared.gate.Output.{Output}
use Rattle.heco_plainvec.specs.Gathering.{is_read, wires, multiples, asked_by, asked}
use Rattle.heco_plainvec.proofs.Rows.{length-each, each_at, none_left}
use Rattle.heco_plainvec.proofs.asks.asks_of.Goals as goal

pub loop-rest-init : goal.loop-rest-init
loop-rest-init c =
    let k = c.args.c.now in
    let n : length c.args.reads.now ≡ length k.inputs + length k.gates = ap length c.requires ∙ length-each (is_read k) k in
    let os = c.as_slice-rest.ensures ∙ c.outputs.ensures in
    record {
      long = ap length c.in_ok-asks.ensures ∙ length-replicate (length c.args.reads.now) [] ∙ n;
      each = λ a l.
          ap (λ xs. xs ++ flat_map (asked_by (multiples k a)) (flat_map (λ (o : Output). o.cells) c.as_slice-rest.result.now))
          (ap (λ xs. get_or xs a []) c.in_ok-asks.ensures ∙ get_or-replicate (length c.args.reads.now) a [] [] (omega (arith, n, l)))
          ∙ ap (λ ys. flat_map (asked_by (multiples k a)) (flat_map (λ (o : Output). o.cells) ys)) os;
    }

pub returns : goal.returns
returns c =
    let k = c.args.c.now in
    let n = length-each (asked k) k in
    let m = c.loop-rest.invariant.long in
    let gone = none_left c.loop-rest.rest.now c.in_default.len_below in
    c.from_vec.ensures ∙ ext_get_or [] c.loop-rest.asks.items (map (asked k) (wires k)) (omega (arith, m, n)) (λ a l.
    let la : a < length k.inputs + length k.gates = omega (arith, m, l) in
    sym (append-nil (get_or c.loop-rest.asks.items a []))
    ∙ sym (ap (λ ys. get_or c.loop-rest.asks.items a [] ++ flat_map (asked_by (multiples k a)) (flat_map (λ (o : Output). o.cells) ys)) gone)
    ∙ c.loop-rest.invariant.each a la ∙ sym (each_at (asked k) k a [] la))
