-- The trees that reading gives.
use Rattle.std.specs.Prelude.{ℕ, List}
use Rattle.heco_syntax.specs.Kept.{IsInOrder}
use Rattle.heco_syntax.specs.Limits.{levels, depth}
use Rattle.heco_syntax.specs.Sources.{IsSource}
use Rattle.heco_syntax.specs.declared.lexeme.Lexeme.{Lexeme}
use Rattle.heco_syntax.specs.declared.tree.Source.{Source}

-- some tokens spell it, with at most n expression levels and d blocks open
pub record IsTreeWithin (n d : ℕ) (x : Source) : Type 0 where
  pub tokens : List Lexeme
  pub is : IsSource n d tokens x

-- a tree of the grammar within the nesting limits, whose names are Words of at most 2^20 bytes and whose places rise in text order
pub record IsWellformed (x : Source) : Type 0 where
  pub within : IsTreeWithin levels depth x
  pub order : IsInOrder x
