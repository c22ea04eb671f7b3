use Rattle.heco_ciphertext_files.specs.CiphertextFiles.{magic_of}
use Rattle.heco_ciphertext_files.proofs.Files.{back_file, own_file}
use Rattle.heco_ciphertext_files.proofs.writing.write_cts.Goals as goal

pub returns-clause-back : goal.returns-clause-back
returns-clause-back c = λ few cs.
    let p = c.args.p.now in
    back_file (magic_of c.args.k) p.id p.n c.args.c.now c.text.result p.row.0 p.row.1 c.text.ensures few cs

pub returns-clause-own : goal.returns-clause-own
returns-clause-own c = λ other few other_few cs others.
    let p = c.args.p.now in
    own_file (magic_of c.args.k) p.id p.n c.args.c.now c.text.result p.row.0 p.row.1 c.text.ensures few cs other other_few others
