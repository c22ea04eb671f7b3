-- The written form of the dot product: its products, added up by nine turns, and no bound of it passes.
use Rattle.std.proofs.Common.{◌≡◌, ℕ, zero, suc, ◌+◌, None, refl, ap}
use Rattle.heco_nums.specs.Arithmetic.{centre_t}
use Rattle.heco_written.proofs.FoldTerms.{fold-power}
use Rattle.heco_written.specs.Bound.{scheme_of, first_deep}
use Rattle.heco_written.specs.Fold.{power, fold_within, fold}
use Rattle.heco_written.specs.ScalarTerm.{ScalarTerm, Number, Element, Product, sum_of}
use Rattle.heco_written.specs.VectorTerm.{VectorTerm, Input, Multiplied}
use Rattle.heco_written.specs.WrittenForm.{WrittenHome, At, written}

-- a[k]*b[k]
abbrev pub term : ℕ → ScalarTerm
term k = Product (Element 0 k) (Element 1 k)

-- n products from k on, added to a sum one after the other
abbrev pub added_up : ScalarTerm → ℕ → ℕ → ScalarTerm
added_up sum k zero = sum
added_up sum k (suc n) = added_up (sum_of 65537 sum (term k)) (k + 1) n

abbrev pub dot_product : ScalarTerm
dot_product = added_up (Number 0) 0 512

abbrev pub products : VectorTerm
products = Multiplied (Input 0) (Input 1)

abbrev home_of : VectorTerm → WrittenHome
home_of v = At (record { vector = v; slot = 0 })

pub home_is : (written 65537 512 dot_product).home ≡ home_of (power products 9)
home_is = ap home_of (fold-power products 9)

pub none_deep : first_deep (scheme_of 5) (power products 9) ≡ None
unfolding power fold_within fold centre_t
none_deep = refl
