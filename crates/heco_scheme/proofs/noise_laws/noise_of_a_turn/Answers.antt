use Rattle.heco_scheme.specs.Keys.{turned_secret}
use Rattle.heco_scheme.proofs.SwitchedNoise.{turned_noise}
use Rattle.heco_scheme.proofs.noise_laws.noise_of_a_turn.Goals as goal

pub returns : goal.returns
unfolding turned_secret
returns c = λ p s r k a m E hr two K h. turned_noise p s r k a m E hr two K h
