-- What a product writes and prints.
use Rattle.std.specs.Prelude.{◌≡◌, ℕ, List, [], Some, None}
use Rattle.heco_jobs.specs.declared.product.Planned.{Planned}
use Rattle.heco_jobs.specs.declared.product.Product.{Product}

-- no file is written, and this text is printed
pub record Prints (printed : List ℕ) (p : Product) : Type 0 where
  pub writes : p.writes ≡ []
  pub text : p.text ≡ Some printed

-- these files are written in order, and nothing is printed
pub record Stores (files : List Planned) (p : Product) : Type 0 where
  pub writes : p.writes ≡ files
  pub text : p.text ≡ None

abbrev pub planned : ℕ → List ℕ → Planned
planned which bytes = record { which = which; bytes = bytes }
