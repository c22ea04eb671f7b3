use Rattle.std.proofs.Common.{arith}
use Rattle.std.specs.Prelude.{codes}
use Rattle.heco_fields.proofs.Laws.{IsBytes}
use Rattle.heco_nums.specs.MaterialBounds.{IsSparse}
use Rattle.heco_lists.specs.ListFormat.{sparse, bytes_text}
use Rattle.heco_lists.proofs.ListLaws.{sparse_law}
use Rattle.heco_key_files.specs.KeyFiles.{secret_text}
use Rattle.heco_key_files.proofs.Judged.{spelled, only, caused, malformed, wrong}
use Rattle.heco_key_files.proofs.secret.read_secret.Goals as goal

pub returns-clause-spelled : goal.returns-clause-spelled
unfolding secret_text
returns-clause-spelled c =
    let p = c.args.p.now in
    let fits : IsBytes c.args.bytes.now = λ i. omega (arith, c.type_inv.bytes i) in
    spelled (λ s. s.places) (codes "HSEC") p.id (sparse p.n p.h) bytes_text (IsSparse p.n p.h) (sparse_law p.n p.h) c.args.bytes.now c.key.result fits c.key.ensures.exact

pub returns-clause-only : goal.returns-clause-only
unfolding secret_text
returns-clause-only c = λ s.
    let p = c.args.p.now in
    only (λ k. k.places) (codes "HSEC") p.id (sparse p.n p.h) bytes_text (IsSparse p.n p.h) (sparse_law p.n p.h) c.args.bytes.now c.key.result c.key.ensures.exact s p.row.0 p.row.1

pub returns-clause-cause : goal.returns-clause-cause
returns-clause-cause c =
    let p = c.args.p.now in
    let fits : IsBytes c.args.bytes.now = λ i. omega (arith, c.type_inv.bytes i) in
    caused (λ k. k.places) (codes "HSEC") p.id (sparse p.n p.h) c.args.bytes.now c.key.result fits c.key.ensures.exact

pub returns-clause-malformed : goal.returns-clause-malformed
returns-clause-malformed c =
    let p = c.args.p.now in
    let fits : IsBytes c.args.bytes.now = λ i. omega (arith, c.type_inv.bytes i) in
    malformed (λ k. k.places) (codes "HSEC") p.id (sparse p.n p.h) c.args.bytes.now c.key.result fits c.key.ensures.exact

pub returns-clause-wrong : goal.returns-clause-wrong
returns-clause-wrong c =
    let p = c.args.p.now in
    let fits : IsBytes c.args.bytes.now = λ i. omega (arith, c.type_inv.bytes i) in
    wrong (λ k. k.places) (codes "HSEC") p.id (sparse p.n p.h) c.args.bytes.now c.key.result fits c.key.ensures.exact
