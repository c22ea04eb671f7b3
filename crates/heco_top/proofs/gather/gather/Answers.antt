use Rattle.heco_top.proofs.gather.gather.Goals as goal

pub returns-in-Compile-clause-gathered : goal.returns-in-Compile-clause-gathered
returns-in-Compile-clause-gathered g c = rw c.in-Compile.is (c.gather_compile.ensures.gathered _)
