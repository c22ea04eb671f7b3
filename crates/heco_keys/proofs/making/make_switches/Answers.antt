use Rattle.std.proofs.Common.{◌≡◌, ℕ, List, [], ◌∷◌, Option, map, length, arith, sym, ap, ◌∙◌}
use Rattle.std.specs.Prelude.{ℤ}
use lib.ListN.{get_or}
use Rattle.std.proofs.lemmas.List.{length-append}
use Rattle.std.proofs.lemmas.Option.{get_or_from_slice_get}
use Rattle.heco_nums.specs.Listed.{listed}
use Rattle.heco_nums.proofs.ListedLaws.{listed_none}
use Rattle.heco_nums.specs.declared.needs.KeyNeeds.{KeyNeeds}
use Rattle.heco_material.specs.declared.words.SwitchWords.{SwitchWords}
use Rattle.heco_material.specs.KeyLists.{IsSwitch}
use Rattle.heco_keys.specs.declared.switch_key.SwitchKey.{SwitchKey}
use Rattle.heco_keys.specs.Made.{purpose, source_of, switch_rows, no_rows, all_rows}
use Rattle.heco_keys.proofs.ReadItems.{read_is}
use Rattle.heco_nums.proofs.ListedLaws.{listed_push_seen}
use Rattle.heco_keys.proofs.making.make_switches.Goals as goal

abbrev item : ℕ → List ℤ → KeyNeeds → List SwitchWords → ℕ → List (List ℕ × List ℕ)
item n s needs switch j = switch_rows n s (source_of n s (purpose needs.relin needs.turns j)) (get_or switch j no_rows).rows

pub loop-j-init : goal.loop-j-init
loop-j-init c =
    let k = c.args.k.now in
    record { rows = ap (map (λ (key : SwitchKey). key.rows)) c.new-keys.ensures ∙ sym (listed_none (item k.preset.n k.s k.needs k.switch)); long = ap length c.new-keys.ensures }

pub make_switch-requires-clause-words : goal.make_switch-requires-clause-words
make_switch-requires-clause-words c =
    let k = c.args.k.now in
    read_is (IsSwitch k.preset.n k.preset.b) k.switch c.loop-j.j c.get-words.result.now c.requires.switch c.get-words.ensures

-- the rows of one key, where what was passed is what the material has there
made : (n : ℕ) (s s2 : List ℤ) (needs : KeyNeeds) (switch : List SwitchWords) (j : ℕ) (kind : Option ℕ) (w : SwitchWords) (rows : List (List ℕ × List ℕ)) → rows ≡ switch_rows n s2 (source_of n s2 kind) w.rows → s2 ≡ s → kind ≡ purpose needs.relin needs.turns j → get_or switch j no_rows ≡ w
    → rows ≡ item n s needs switch j
made n s s2 needs switch j kind w rows r_is s_is kind_is w_is =
    r_is ∙ ap (λ t. switch_rows n t (source_of n t kind) w.rows) s_is ∙ ap (λ k. switch_rows n s (source_of n s k) w.rows) kind_is ∙ ap (λ (v : SwitchWords). switch_rows n s (source_of n s (purpose needs.relin needs.turns j)) v.rows) (sym w_is)

pub loop-j-preserved : goal.loop-j-preserved
loop-j-preserved c =
    let k = c.args.k.now in
    let j = c.loop-j.j in
    let key = c.in_ok-key.key in
    let w = c.get-words.result.now in
    let here : get_or k.switch j no_rows ≡ w = get_or_from_slice_get k.switch j w no_rows c.get-words.ensures in
    let is = made k.preset.n k.s c.as_slice.result.now k.needs k.switch j c.purpose-kind.result w key.rows c.in_ok-key.ensures c.as_slice.ensures c.purpose-kind.ensures here in
    record {
      rows = listed_push_seen (λ (x : SwitchKey). x.rows) (item k.preset.n k.s k.needs k.switch) j c.loop-j.keys c.push.new.self key c.loop-j.invariant.rows is c.in_ok-push.ensures.ok;
      long = ap length c.in_ok-push.ensures.ok ∙ length-append c.loop-j.keys (key ∷ []) ∙ omega (arith, c.loop-j.invariant.long);
    }

pub returns-clause-rows : goal.returns-clause-rows
unfolding all_rows
returns-clause-rows c =
    let k = c.args.k.now in
    let e : c.loop-j.j ≡ length k.switch = omega arith in
    c.loop-j.invariant.rows ∙ ap (λ m. listed m (item k.preset.n k.s k.needs k.switch)) e
