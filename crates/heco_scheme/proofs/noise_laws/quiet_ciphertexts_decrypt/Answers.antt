use Rattle.heco_scheme.proofs.FreshNoise.{decrypted_is}
use Rattle.heco_scheme.proofs.noise_laws.quiet_ciphertexts_decrypt.Goals as goal

pub returns : goal.returns
returns c = λ p s a m E hE h. decrypted_is p s a m E hE h
