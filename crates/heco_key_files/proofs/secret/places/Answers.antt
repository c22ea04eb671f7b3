use Rattle.std.proofs.Common.{arith}
use Rattle.std.specs.Prelude.{codes}
use Rattle.heco_fields.proofs.Laws.{IsBytes}
use Rattle.heco_nums.specs.MaterialBounds.{IsSparse}
use Rattle.heco_lists.specs.ListFormat.{sparse, bytes_text}
use Rattle.heco_lists.proofs.ListLaws.{sparse_law}
use Rattle.heco_key_files.proofs.Judged.{fitting}
use Rattle.heco_key_files.proofs.secret.places.Goals as goal

pub returns-clause-within : goal.returns-clause-within
returns-clause-within c =
    let p = c.args.p.now in
    let fits : IsBytes c.args.bytes.now = λ i. omega (arith, c.type_inv.bytes i) in
    fitting (λ s. s) (codes "HSEC") p.id (sparse p.n p.h) bytes_text (IsSparse p.n p.h) (sparse_law p.n p.h) c.args.bytes.now c.file.result fits c.file.ensures
