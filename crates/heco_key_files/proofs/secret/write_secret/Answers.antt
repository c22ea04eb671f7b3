use Rattle.std.specs.Prelude.{codes}
use Rattle.heco_nums.specs.MaterialBounds.{IsSparse}
use Rattle.heco_lists.specs.ListFormat.{sparse, bytes_text}
use Rattle.heco_lists.proofs.ListLaws.{sparse_law}
use Rattle.heco_key_files.specs.KeyFiles.{secret_text}
use Rattle.heco_key_files.proofs.Judged.{read_back, own_text}
use Rattle.heco_key_files.proofs.secret.write_secret.Goals as goal

pub returns-clause-back : goal.returns-clause-back
unfolding secret_text
returns-clause-back c =
    let k = c.args.s.now in
    let p = k.preset in
    read_back (codes "HSEC") p.id (sparse p.n p.h) bytes_text (IsSparse p.n p.h) (sparse_law p.n p.h) k.places c.text.result p.row.0 p.row.1 c.text.ensures k.sparse

pub returns-clause-own : goal.returns-clause-own
unfolding secret_text
returns-clause-own c = λ other.
    let k = c.args.s.now in
    let p = k.preset in
    own_text (codes "HSEC") p.id (sparse p.n p.h) bytes_text (IsSparse p.n p.h) (sparse_law p.n p.h) k.places c.text.result p.row.0 p.row.1 c.text.ensures other k.sparse
