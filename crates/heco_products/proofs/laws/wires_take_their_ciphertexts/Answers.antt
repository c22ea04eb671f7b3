use Rattle.heco_products.proofs.TakenInOrder.{wires_take_their_ciphertexts as in_order}
use Rattle.heco_products.proofs.laws.wires_take_their_ciphertexts.Goals as goal

pub returns : goal.returns
returns c = λ p e s circuit cs w within marked few. in_order p e s circuit cs w within marked few
