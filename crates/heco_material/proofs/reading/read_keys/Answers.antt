use Rattle.std.proofs.Common.{arith}
use Rattle.heco_fields.proofs.Laws.{IsBytes}
use Rattle.heco_material.specs.KeyLists.{lists_of, key_count, IsKeyMaterial}
use Rattle.heco_material.specs.KeyFormat.{keys, keys_text, keys_length}
use Rattle.heco_material.proofs.KeyLaws.{keys_law, keys_long}
use Rattle.heco_material.proofs.Answered.{spelled, only, caused, long, broken}
use Rattle.heco_material.proofs.PresetErrors.{small_error}
use Rattle.heco_material.proofs.reading.read_keys.Goals as goal

pub returns-clause-spelled : goal.returns-clause-spelled
returns-clause-spelled c =
    let p = c.args.p.now in
    let count = key_count c.args.needs.now in
    let fits : IsBytes c.args.bytes.now = λ i. omega (arith, c.type_inv.bytes i) in
    spelled lists_of (keys p.n p.h p.b count) (keys_length p.n count) keys_text (IsKeyMaterial p.n p.h p.b count) (keys_law p.n p.h p.b count (small_error p)) c.args.bytes.now c.read_words.result fits c.read_words.ensures.exact

pub returns-clause-only : goal.returns-clause-only
returns-clause-only c =
    let p = c.args.p.now in
    let count = key_count c.args.needs.now in
    only lists_of (keys p.n p.h p.b count) (keys_length p.n count) keys_text (IsKeyMaterial p.n p.h p.b count) (keys_law p.n p.h p.b count (small_error p)) (keys_long p.n p.h p.b count) c.args.bytes.now c.read_words.result c.read_words.ensures.exact

pub returns-clause-cause : goal.returns-clause-cause
returns-clause-cause c =
    let p = c.args.p.now in
    let count = key_count c.args.needs.now in
    caused lists_of (keys p.n p.h p.b count) (keys_length p.n count) c.args.bytes.now c.read_words.result c.read_words.ensures.exact

pub returns-clause-long : goal.returns-clause-long
returns-clause-long c =
    let p = c.args.p.now in
    let count = key_count c.args.needs.now in
    long lists_of (keys p.n p.h p.b count) (keys_length p.n count) c.args.bytes.now c.read_words.result c.read_words.ensures.exact

pub returns-clause-bounds : goal.returns-clause-bounds
returns-clause-bounds c =
    let p = c.args.p.now in
    let count = key_count c.args.needs.now in
    broken lists_of (keys p.n p.h p.b count) (keys_length p.n count) c.args.bytes.now c.read_words.result c.read_words.ensures.exact
