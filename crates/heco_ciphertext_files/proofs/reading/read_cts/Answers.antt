use Rattle.std.proofs.Common.{arith}
use Rattle.heco_fields.proofs.Laws.{IsBytes}
use Rattle.heco_ciphertext_files.specs.CiphertextFiles.{ciphertexts, magic_of}
use Rattle.heco_ciphertext_files.proofs.Counted.{judge, caused, malformed, wrong, counted}
use Rattle.heco_ciphertext_files.proofs.Files.{spelled_file, only_file}
use Rattle.heco_ciphertext_files.proofs.reading.read_cts.Goals as goal

pub returns-clause-spelled : goal.returns-clause-spelled
returns-clause-spelled c =
    let p = c.args.p.now in
    let fits : IsBytes c.args.bytes.now = λ i. omega (arith, c.type_inv.bytes i) in
    spelled_file (λ cs. cs.items) (magic_of c.args.k) p.id p.n c.args.want c.args.bytes.now c.vector.result fits c.vector.ensures

pub returns-clause-only : goal.returns-clause-only
returns-clause-only c = λ cs.
    let p = c.args.p.now in
    only_file (λ cs. cs.items) (magic_of c.args.k) p.id p.n c.args.want c.args.bytes.now c.vector.result c.vector.ensures cs p.row.0 p.row.1 (omega arith)

pub returns-clause-cause : goal.returns-clause-cause
returns-clause-cause c =
    let p = c.args.p.now in
    let fits : IsBytes c.args.bytes.now = λ i. omega (arith, c.type_inv.bytes i) in
    caused (λ cs. cs.items) (magic_of c.args.k) p.id c.args.want (ciphertexts p.n c.args.want) c.args.bytes.now c.vector.result (judge (magic_of c.args.k) p.id c.args.want (ciphertexts p.n c.args.want) c.args.bytes.now fits p.row.0 p.row.1) c.vector.ensures

pub returns-clause-malformed : goal.returns-clause-malformed
returns-clause-malformed c =
    let p = c.args.p.now in
    let fits : IsBytes c.args.bytes.now = λ i. omega (arith, c.type_inv.bytes i) in
    malformed (λ cs. cs.items) (magic_of c.args.k) p.id c.args.want (ciphertexts p.n c.args.want) c.args.bytes.now c.vector.result (judge (magic_of c.args.k) p.id c.args.want (ciphertexts p.n c.args.want) c.args.bytes.now fits p.row.0 p.row.1) c.vector.ensures

pub returns-clause-wrong : goal.returns-clause-wrong
returns-clause-wrong c =
    let p = c.args.p.now in
    let fits : IsBytes c.args.bytes.now = λ i. omega (arith, c.type_inv.bytes i) in
    wrong (λ cs. cs.items) (magic_of c.args.k) p.id c.args.want (ciphertexts p.n c.args.want) c.args.bytes.now c.vector.result (judge (magic_of c.args.k) p.id c.args.want (ciphertexts p.n c.args.want) c.args.bytes.now fits p.row.0 p.row.1) c.vector.ensures

pub returns-clause-count : goal.returns-clause-count
returns-clause-count c =
    let p = c.args.p.now in
    let fits : IsBytes c.args.bytes.now = λ i. omega (arith, c.type_inv.bytes i) in
    counted (λ cs. cs.items) (magic_of c.args.k) p.id c.args.want (ciphertexts p.n c.args.want) c.args.bytes.now c.vector.result p.row.0 p.row.1 (judge (magic_of c.args.k) p.id c.args.want (ciphertexts p.n c.args.want) c.args.bytes.now fits p.row.0 p.row.1) c.vector.ensures
