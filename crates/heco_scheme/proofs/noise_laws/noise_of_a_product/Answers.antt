use Rattle.heco_scheme.proofs.ProductNoise.{multiplied_noise}
use Rattle.heco_scheme.proofs.noise_laws.noise_of_a_product.Goals as goal

pub returns : goal.returns
returns c = λ p s a b m l E F hs wa wb hE hF x y. multiplied_noise p s a b m l E F hs wa wb hE hF x y
