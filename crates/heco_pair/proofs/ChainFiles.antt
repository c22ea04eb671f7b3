-- What `pair` has written of its circuit, both keys and its inputs are files of one chain.
use Rattle.std.proofs.Common.{[], ◌∷◌}
use Rattle.heco_products.proofs.Products.{fit_count}
use Rattle.heco_nums.specs.PresetRows.{preset_of}
use Rattle.heco_jobs.specs.Words.{name_of}
use Rattle.heco_tasks.proofs.MeasureLaws.{encrypted_of_the_chain}
use Rattle.heco_exec.proofs.ChainFiles.{given_runs}
use Rattle.heco_pair.specs.Laws.{PairedFilesAreOfOneChain}

pub paired_of_one_chain : PairedFilesAreOfOneChain
paired_of_one_chain words command file file' first_printed second_printed handed left e =
    let given = e.given in
    let of_first = given_runs e.source e.circuit given.first_inputs.text given.kmat.text given.emat.text e.first e.keys e.material e.of_source.good given.first_inputs.fits given.kmat.fits given.emat.fits in
    let of_second = given_runs e.source e.circuit given.second_inputs.text given.kmat.text given.emat.text e.second e.keys e.material e.of_source.good given.second_inputs.fits given.kmat.fits given.emat.fits in
    let t = (preset_of e.circuit.preset).t in
    (encrypted_of_the_chain (command ∷ name_of words 6 ∷ name_of words 7 ∷ name_of words 8 ∷ name_of words 9 ∷ []) file' e.circuit e.keys e.material e.first.rows e.second.rows
    (record { provided = of_first.provided; circuit = e.cir; secret = e.sec; evaluation = e.eva }) (fit_count t e.circuit.inputs e.first.rows of_first.fit) (fit_count t e.circuit.inputs e.second.rows of_second.fit)).1 e.cts
