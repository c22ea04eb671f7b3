use Rattle.heco_scheme.specs.Keys.{square}
use Rattle.heco_scheme.proofs.SwitchedNoise.{relinearised_noise}
use Rattle.heco_scheme.proofs.noise_laws.noise_of_a_relinearisation.Goals as goal

pub returns : goal.returns
unfolding square
returns c = λ p s k a m E K h. relinearised_noise p s k a m E K h
