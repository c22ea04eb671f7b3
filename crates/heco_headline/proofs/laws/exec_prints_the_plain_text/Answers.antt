use Rattle.heco_headline.proofs.ExecLaw as exec
use Rattle.heco_headline.proofs.laws.exec_prints_the_plain_text.Goals as goal

pub returns : goal.returns
returns c = λ source circuit text v k material good input fits. (exec.runs source circuit k material good fits text v input, exec.plain source circuit k material good fits text v input)
