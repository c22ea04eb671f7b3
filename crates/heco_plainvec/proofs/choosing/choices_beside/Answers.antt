use Rattle.std.proofs.Common.{◌≡◌, ◌<◌, ◌+◌, ◌++◌, ◌∷◌, [], ◌∙◌, length, map, ap, sym, arith, get_or, subst, All}
use Rattle.std.specs.List.{range_with_len, cons_option}
use Rattle.std.specs.Option.{option_map}
use Rattle.std.proofs.lemmas.List.FromFn.{map-range_with_len_more}
use Rattle.heco_plainvec.specs.Gathering.{vector, multiples, asked}
use Rattle.heco_plainvec.specs.Gathered.{first_wire}
use Rattle.heco_plainvec.specs.inside.Finding.{IsAsk, product_at, numbered_product}
use Rattle.heco_plainvec.proofs.Rows.{length-each, each_at}
use Rattle.heco_plainvec.proofs.AskedAll.{asked_are}
use Rattle.heco_plainvec.proofs.Whole.{valid}
use Rattle.heco_plainvec.proofs.Few.{few_vectors}
use Rattle.heco_plainvec.proofs.ChosenAt.{chosen_below, found_at, found_from, length-bounds, length-vectors, few_chosen, vectors_more, product_found, all_chosen}
use Rattle.heco_plainvec.proofs.choosing.choices_beside.Goals as goal

pub bounds-groups-a : goal.bounds-groups-a
bounds-groups-a c =
    let k = c.args.c.now in
    omega (arith, ap length c.requires.bounds ∙ length-bounds k, ap length c.requires.groups ∙ length-each (multiples k) k, c.loop-a-test.true)

pub bounds-asks-a : goal.bounds-asks-a
bounds-asks-a c =
    let k = c.args.c.now in
    omega (arith, ap length c.requires.bounds ∙ length-bounds k, ap length c.requires.asks ∙ length-each (asked k) k, c.loop-a-test.true)

pub found-requires-clause-asks : goal.found-requires-clause-asks
found-requires-clause-asks c =
    let k = c.args.c.now in
    let la : c.loop-a.a < length k.inputs + length k.gates = omega (arith, ap length c.requires.bounds ∙ length-bounds k, c.loop-a-test.true) in
    let e : c.as_slice-asked.result.now ≡ asked k c.loop-a.a = c.as_slice-asked.ensures ∙ c.index-asks-a.is ∙ ap (λ xs. get_or xs c.loop-a.a c.index-asks-a.result) c.requires.asks ∙ each_at (asked k) k c.loop-a.a c.index-asks-a.result la in
    subst (λ id. All (IsAsk id) c.as_slice-asked.result.now) (sym c.requires.table)
    (subst (λ xs. All (IsAsk k.preset) xs) (sym e) (asked_are k c.loop-a.a (valid k c.preset-valid.ensures.valid)))

pub found-requires-clause-quiet : goal.found-requires-clause-quiet
found-requires-clause-quiet c =
    let k = c.args.c.now in
    rw (c.requires.bounds) (c.valid_circuits_are_quiet.ensures k c.preset-valid.ensures.valid c.loop-a.a 0 (omega (arith, ap length c.requires.bounds, c.loop-a-test.true)))

pub put_vector-requires : goal.put_vector-requires
put_vector-requires c =
    let k = c.args.c.now in
    omega (arith, ap length c.loop-a.invariant.vectors ∙ length-vectors k c.loop-a.a, few_chosen k c.loop-a.a (few_vectors k c.preset-valid.ensures.valid))

pub loop-a-preserved : goal.loop-a-preserved
loop-a-preserved c =
    let k = c.args.c.now in
    let a = c.loop-a.a in
    let few = few_vectors k c.preset-valid.ensures.valid in
    let la : a < length k.inputs + length k.gates = omega (arith, ap length c.requires.bounds ∙ length-bounds k, c.loop-a-test.true) in
    let n : length c.loop-a.vectors ≡ length k.vectors + length (chosen_below k a) = ap length c.loop-a.invariant.vectors ∙ length-vectors k a in
    let ms : c.as_slice-group.result.now ≡ multiples k a = c.as_slice-group.ensures ∙ c.index-groups-a.is ∙ ap (λ xs. get_or xs a c.index-groups-a.result) c.requires.groups ∙ each_at (multiples k) k a c.index-groups-a.result la in
    let asks : c.as_slice-asked.result.now ≡ asked k a = c.as_slice-asked.ensures ∙ c.index-asks-a.is ∙ ap (λ xs. get_or xs a c.index-asks-a.result) c.requires.asks ∙ each_at (asked k) k a c.index-asks-a.result la in
    let f : c.in_ok-found.found ≡ found_at k a =
    c.in_ok-found.ensures ∙ found_from k a c.len-count.result c.args.table.now.preset.id (get_or c.args.bounds.now a 0) c.as_slice-group.result.now c.as_slice-asked.result.now (c.len-count.ensures ∙ n) c.requires.table ms asks
    (ap (λ xs. get_or xs a 0) c.requires.bounds) in
    let first : c.first_wire.result ≡ first_wire (multiples k a) = c.first_wire.ensures ∙ ap first_wire ms in
    let p : c.in_ok-product.product ≡ product_at k a =
    c.in_ok-product.ensures.product ∙ ap (λ m. option_map (numbered_product m c.first_wire.result) c.in_ok-found.found) n
    ∙ ap (λ w. option_map (numbered_product (length k.vectors + length (chosen_below k a)) w) c.in_ok-found.found) first
    ∙ ap (option_map (numbered_product (length k.vectors + length (chosen_below k a)) (first_wire (multiples k a)))) f ∙ product_found k a few la in
    record {
      vectors = c.in_ok-product.ensures.vectors ∙ ap (λ vs. vs ++ cons_option c.in_ok-found.found []) c.loop-a.invariant.vectors
          ∙ ap (λ o. (k.vectors ++ map (vector k) (chosen_below k a)) ++ cons_option o []) f ∙ vectors_more k a few;
      products = c.in_ok-push.ensures.ok ∙ ap (λ x. c.loop-a.products ++ x ∷ []) p ∙ ap (λ xs. xs ++ product_at k a ∷ []) c.loop-a.invariant.products
          ∙ sym (map-range_with_len_more (product_at k) 0 a a (omega arith));
    }

pub returns-clause-products : goal.returns-clause-products
returns-clause-products c =
    let k = c.args.c.now in
    let e : c.loop-a.a ≡ length k.inputs + length k.gates = omega (arith, ap length c.requires.bounds ∙ length-bounds k, c.loop-a.auto.a-end, c.loop-a-test.false) in
    c.loop-a.invariant.products ∙ ap (λ n. map (product_at k) (range_with_len 0 n)) e

pub returns-clause-vectors : goal.returns-clause-vectors
returns-clause-vectors c =
    let k = c.args.c.now in
    let e : c.loop-a.a ≡ length k.inputs + length k.gates = omega (arith, ap length c.requires.bounds ∙ length-bounds k, c.loop-a.auto.a-end, c.loop-a-test.false) in
    c.loop-a.invariant.vectors ∙ ap (λ xs. k.vectors ++ map (vector k) xs) (all_chosen k c.loop-a.a e)
