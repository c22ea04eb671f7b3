use Rattle.std.proofs.Common.{arith}
use Rattle.heco_fields.proofs.Laws.{IsBytes}
use Rattle.heco_material.specs.declared.words.EncWords.{EncWords}
use Rattle.heco_material.specs.KeyLists.{IsEncMaterial}
use Rattle.heco_material.specs.EncFormat.{encryptions, encryptions_text, encryptions_length}
use Rattle.heco_material.proofs.EncLaws.{encryptions_law, encryptions_long}
use Rattle.heco_material.proofs.Answered.{spelled, only, caused, long, broken}
use Rattle.heco_material.proofs.PresetErrors.{small_error}
use Rattle.heco_material.proofs.reading.read_enc.Goals as goal

pub returns-clause-spelled : goal.returns-clause-spelled
returns-clause-spelled c =
    let p = c.args.p.now in
    let view = λ (w : EncWords). w.rows in
    let count = c.args.count in
    let fits : IsBytes c.args.bytes.now = λ i. omega (arith, c.type_inv.bytes i) in
    spelled view (encryptions p.n p.h p.b count) (encryptions_length p.n count) encryptions_text (IsEncMaterial p.n p.h p.b count) (encryptions_law p.n p.h p.b count (small_error p)) c.args.bytes.now c.read_enc_words.result fits c.read_enc_words.ensures.exact

pub returns-clause-only : goal.returns-clause-only
returns-clause-only c =
    let p = c.args.p.now in
    let view = λ (w : EncWords). w.rows in
    let count = c.args.count in
    only view (encryptions p.n p.h p.b count) (encryptions_length p.n count) encryptions_text (IsEncMaterial p.n p.h p.b count) (encryptions_law p.n p.h p.b count (small_error p)) (encryptions_long p.n p.h p.b count) c.args.bytes.now c.read_enc_words.result c.read_enc_words.ensures.exact

pub returns-clause-cause : goal.returns-clause-cause
returns-clause-cause c =
    let p = c.args.p.now in
    let view = λ (w : EncWords). w.rows in
    let count = c.args.count in
    caused view (encryptions p.n p.h p.b count) (encryptions_length p.n count) c.args.bytes.now c.read_enc_words.result c.read_enc_words.ensures.exact

pub returns-clause-long : goal.returns-clause-long
returns-clause-long c =
    let p = c.args.p.now in
    let view = λ (w : EncWords). w.rows in
    let count = c.args.count in
    long view (encryptions p.n p.h p.b count) (encryptions_length p.n count) c.args.bytes.now c.read_enc_words.result c.read_enc_words.ensures.exact

pub returns-clause-bounds : goal.returns-clause-bounds
returns-clause-bounds c =
    let p = c.args.p.now in
    let view = λ (w : EncWords). w.rows in
    let count = c.args.count in
    broken view (encryptions p.n p.h p.b count) (encryptions_length p.n count) c.args.bytes.now c.read_enc_words.result c.read_enc_words.ensures.exact
