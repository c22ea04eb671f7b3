-- Places are in order.
use Rattle.std.proofs.Common.{◌∙◌, inl, inr, arith}
use Rattle.heco_lex.specs.declared.place.Place.{Place}
use Rattle.heco_syntax.specs.Kept.{Before}

pub before_trans : (p q r : Place) → Before p q → Before q r → Before p r
before_trans p q r (inl a) (inl b) = inl (omega arith)
before_trans p q r (inl a) (inr b) = inl (let e = b.0 in omega arith)
before_trans p q r (inr a) (inl b) = inl (let e = a.0 in omega arith)
before_trans p q r (inr a) (inr b) = inr (a.0 ∙ b.0, (let c = a.1 in let d = b.1 in omega arith))
