use Rattle.std.proofs.Common.{◌≡◌, ◌<◌, ◌+◌, [], length, map, ap, sym, ◌∙◌, arith, get_or, take}
use Rattle.std.proofs.lemmas.List.{length-replicate, get_or-replicate, ext_get_or, take_all}
use Rattle.std.specs.Prelude.{filter_map}
use Rattle.std.specs.List.{enumerate_from}
use Rattle.heco_plainvec.specs.Gathering.{is_read, cell_only, wires, multiple_of, multiples}
use Rattle.heco_plainvec.proofs.Rows.{length-each, each_at, group_more}
use Rattle.heco_plainvec.proofs.groups.multiples_of.Goals as goal

pub loop-i-init : goal.loop-i-init
loop-i-init c =
    let k = c.args.c.now in
    let n : length c.args.reads.now ≡ length k.inputs + length k.gates = ap length c.requires ∙ length-each (is_read k) k in
    record {
      long = ap length c.in_ok-groups.ensures ∙ length-replicate (length c.args.reads.now) [] ∙ n;
      each = λ a l. ap (λ xs. get_or xs a []) c.in_ok-groups.ensures ∙ get_or-replicate (length c.args.reads.now) a [] [] (omega (arith, n, l));
    }

pub put_multiple-requires : goal.put_multiple-requires
put_multiple-requires c =
    let k = c.args.c.now in
    let n : length c.args.reads.now ≡ length k.inputs + length k.gates = ap length c.requires ∙ length-each (is_read k) k in
    omega (arith, n, ap length c.as_slice-gates.ensures, ap length c.gates.ensures, ap length c.inputs.ensures, c.len-inputs.ensures)

pub loop-i-preserved : goal.loop-i-preserved
loop-i-preserved c =
    let k = c.args.c.now in
    let i = c.loop-i.i in
    let gs : c.as_slice-gates.result.now ≡ k.gates = c.as_slice-gates.ensures ∙ c.gates.ensures in
    let n : c.len-inputs.result ≡ length k.inputs = c.len-inputs.ensures ∙ ap length c.inputs.ensures in
    let l : i < length k.gates = omega (arith, ap length gs) in
    record {
      long = c.in_ok-put_multiple.ensures.long ∙ c.loop-i.invariant.long;
      each = λ a la. group_more k c.args.reads.now c.as_slice-gates.result.now _ _ a i (c.len-inputs.result + i) c.requires gs (ap (λ m. m + i) n) l
          (c.in_ok-put_multiple.ensures.each a (omega (arith, c.loop-i.invariant.long, la))) (c.loop-i.invariant.each a la);
    }

pub returns : goal.returns
returns c =
    let k = c.args.c.now in
    let gs : c.as_slice-gates.result.now ≡ k.gates = c.as_slice-gates.ensures ∙ c.gates.ensures in
    let n = length-each (multiples k) k in
    let m = c.loop-i.invariant.long in
    let all : take c.loop-i.i k.gates ≡ k.gates = take_all c.loop-i.i k.gates (omega (arith, ap length gs)) in
    c.from_vec.ensures ∙ ext_get_or [] c.loop-i.groups.items (map (multiples k) (wires k)) (omega (arith, m, n)) (λ a l.
    let la : a < length k.inputs + length k.gates = omega (arith, m, l) in
    c.loop-i.invariant.each a la ∙ ap (λ xs. filter_map (multiple_of (cell_only k) a) (enumerate_from (length k.inputs) xs)) all ∙ sym (each_at (multiples k) k a [] la))
