use Rattle.std.proofs.Common.{◌≡◌, ℕ, List, length, arith, sym, ap, ◌∙◌}
use Rattle.std.specs.Prelude.{ℤ}
use lib.ListN.{get_or}
use Rattle.std.proofs.lemmas.Option.{get_or_from_slice_get}
use Rattle.std.proofs.lemmas.Result.{IfOk-weaker}
use Rattle.heco_nums.specs.Listed.{listed}
use Rattle.heco_nums.proofs.ListedLaws.{listed_none, length-listed}
use Rattle.heco_material.specs.declared.words.SwitchRow.{SwitchRow}
use Rattle.heco_material.specs.KeyLists.{IsSwitchRow}
use Rattle.heco_keys.specs.declared.switch_key.SwitchKey.{SwitchKey}
use Rattle.heco_keys.specs.Made.{source_of, pair_of, no_row, switch_rows}
use Rattle.heco_keys.proofs.KeySteps.{source_begins, source_next}
use Rattle.heco_keys.proofs.ReadItems.{read_is, pair_is}
use Rattle.heco_nums.proofs.ListedLaws.{listed_push}
use Rattle.heco_keys.proofs.make_switch.make_switch.Goals as goal

abbrev item : ℕ → List ℤ → List ℤ → List SwitchRow → ℕ → List ℕ × List ℕ
item n s t rows i = pair_of n s t i (get_or rows i no_row)

pub get-requires : goal.get-requires
get-requires c = omega (arith, c.requires.words.count)

pub pair-requires-clause-row : goal.pair-requires-clause-row
pair-requires-clause-row c =
    let p = c.args.p.now in
    read_is (IsSwitchRow p.n p.b) c.args.words.now.rows c.loop-i.i c.get.result.now c.requires.words.rows c.get.ensures

pub loop-i-init : goal.loop-i-init
loop-i-init c =
    let n = c.args.p.now.n in
    let t = source_of n c.args.s.now c.args.kind in
    record {
      pairs = c.new-pairs.ensures ∙ sym (listed_none (item n c.args.s.now t c.args.words.now.rows));
      source = source_begins n t c.in_ok-source.source c.in_ok-source.ensures.value;
      long = c.in_ok-source.ensures.long;
    }

pub loop-i-preserved : goal.loop-i-preserved
loop-i-preserved c =
    let n = c.args.p.now.n in
    let i = c.loop-i.i in
    let s = c.args.s.now in
    let t = source_of n s c.args.kind in
    let rows = c.args.words.now.rows in
    let r = c.get.result.now in
    let here : get_or rows i no_row ≡ r = get_or_from_slice_get rows i r no_row c.get.ensures in
    let x = c.in_ok-pair.field-0 in
    let is = pair_is n i s t x r (get_or rows i no_row) (c.in_ok-pair.ensures.first t i c.loop-i.invariant.source) c.in_ok-pair.ensures.second here in
    let long = c.loop-i.invariant.long in
    let next = rw long at c.scale_in.ensures.value in
    record {
      pairs = listed_push (item n s t rows) i c.loop-i.pairs c.push.new.self x c.loop-i.invariant.pairs is c.in_ok-push.ensures.ok;
      source = source_next n i t c.loop-i.source c.scale_in.new.self c.loop-i.invariant.source next;
      long = c.scale_in.ensures.long ∙ long;
    }

pub pair-requires-clause-source : goal.pair-requires-clause-source
pair-requires-clause-source c = c.loop-i.invariant.long

pub of-requires : goal.of-requires
of-requires c =
    let n = c.args.p.now.n in
    let e : c.loop-i.i ≡ 29 = omega arith in
    ap length c.loop-i.invariant.pairs ∙ length-listed (item n c.args.s.now (source_of n c.args.s.now c.args.kind) c.args.words.now.rows) c.loop-i.i ∙ e

pub returns : goal.returns
unfolding switch_rows
returns c =
    let n = c.args.p.now.n in
    let t = source_of n c.args.s.now c.args.kind in
    let rows = c.args.words.now.rows in
    let e : c.loop-i.i ≡ 29 = omega arith in
    let all : c.of.result.rows ≡ listed 29 (item n c.args.s.now t rows) = c.of.ensures ∙ c.loop-i.invariant.pairs ∙ ap (λ m. listed m (item n c.args.s.now t rows)) e in
    IfOk-weaker c.imaged.result (λ (k : SwitchKey). k.rows ≡ c.of.result.rows) (λ (k : SwitchKey). k.rows ≡ listed 29 (item n c.args.s.now t rows)) (λ k made. made ∙ all) c.imaged.ensures
