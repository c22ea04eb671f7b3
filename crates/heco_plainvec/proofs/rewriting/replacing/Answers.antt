use Rattle.std.proofs.Common.{◌≡◌, ap, sym, ◌∙◌, arith}
use Rattle.std.specs.Prelude.{Some, None}
use Rattle.std.specs.Option.{option_map}
use Rattle.heco_plainvec.specs.Gathering.{is_read, cell_only}
use Rattle.heco_plainvec.specs.inside.Finding.{scaled_where, product_at, replacing_by, replacing_where}
use Rattle.heco_plainvec.proofs.Rows.{length-each, made_below}
use Rattle.heco_plainvec.proofs.Whole.{valid, earlier}
use Rattle.heco_plainvec.proofs.OneImage.{scaled_read, scaled_earlier, product_read}
use Rattle.heco_plainvec.proofs.rewriting.replacing.Goals as goal

pub scaled-requires : goal.scaled-requires
scaled-requires c =
    let l = made_below c.args.c.now c.args.wire c.args.gate c.requires.here in
    rw (c.requires.reads) (let n = length-each (is_read c.args.c.now) c.args.c.now in omega (arith, l, n))

pub returns-in-Some-product_of : goal.returns-in-Some-product_of
returns-in-Some-product_of c =
    let k = c.args.c.now in
    let s = c.in-Some.s in
    let l = made_below k c.args.wire c.args.gate c.requires.here in
    let e : scaled_where (cell_only k c.args.wire) c.args.gate ≡ Some s = sym (c.in-Some.ensures ∙ scaled_read k c.args.reads.now c.args.wire c.args.gate c.requires.reads l) in
    let b = scaled_earlier k c.args.wire c.args.gate s (earlier k (valid k c.preset-valid.ensures.valid)) c.requires.here e in
    let p : product_at k s.of ≡ Some c.in-Some-product_of.product = sym (c.in-Some-product_of.ensures ∙ product_read k c.args.products.now s.of c.requires.products (omega (arith, b, l))) in
    sym (ap (replacing_where k) e ∙ ap (option_map (replacing_by s.of)) p)

pub returns-in-None-product_of : goal.returns-in-None-product_of
returns-in-None-product_of c =
    let k = c.args.c.now in
    let s = c.in-Some.s in
    let l = made_below k c.args.wire c.args.gate c.requires.here in
    let e : scaled_where (cell_only k c.args.wire) c.args.gate ≡ Some s = sym (c.in-Some.ensures ∙ scaled_read k c.args.reads.now c.args.wire c.args.gate c.requires.reads l) in
    let b = scaled_earlier k c.args.wire c.args.gate s (earlier k (valid k c.preset-valid.ensures.valid)) c.requires.here e in
    let p : product_at k s.of ≡ None = sym (c.in-None-product_of.ensures ∙ product_read k c.args.products.now s.of c.requires.products (omega (arith, b, l))) in
    sym (ap (replacing_where k) e ∙ ap (option_map (replacing_by s.of)) p)

pub returns-in-None : goal.returns-in-None
returns-in-None c =
    let k = c.args.c.now in
    let l = made_below k c.args.wire c.args.gate c.requires.here in
    let e : scaled_where (cell_only k c.args.wire) c.args.gate ≡ None = sym (c.in-None.ensures ∙ scaled_read k c.args.reads.now c.args.wire c.args.gate c.requires.reads l) in
    sym (ap (replacing_where k) e)
