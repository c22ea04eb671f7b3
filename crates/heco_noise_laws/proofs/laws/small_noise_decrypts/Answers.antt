use Rattle.heco_noise_laws.proofs.Decryption.{decrypt_is}
use Rattle.heco_noise_laws.proofs.laws.small_noise_decrypts.Goals as goal

pub returns : goal.returns
returns c = decrypt_is
