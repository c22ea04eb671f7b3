-- The typed source that a text is, and why a text is none.
use Rattle.std.specs.Prelude.{◌⊎◌, ℕ, ◌<◌, ◌≤◌, List, length}
use Rattle.heco_lex.specs.declared.place.Place.{Place}
use Rattle.heco_lex.specs.declared.rule.Rule.{Rule}
use Rattle.heco_syntax.specs.declared.tree.Source.{Source}
use Rattle.heco_parse.specs.Trees.{source_limit, IsTree}
use Rattle.heco_parse.specs.Trees as reading
use Rattle.heco_parse.specs.declared.read.ParseErr.{ParseErr}
use Rattle.heco_parse.specs.declared.read.ParseErr.TheVariants as parse
use Rattle.heco_types.specs.FirstBroken.{BreaksNone, IsFirstBroken}
use Rattle.heco_types.specs.declared.refusal.TypeErr.{TypeErr}
use Rattle.heco_types.specs.declared.refusal.TypeErr.TheVariants as typing
use Rattle.heco_sources.specs.declared.source.SourceErr.{SourceErr}
use Rattle.heco_sources.specs.declared.source.SourceErr.TheVariants as e

-- the text is short enough, and its tokens spell this tree, which breaks no rule of typing
pub record IsSource (text : List ℕ) (s : Source) : Type 0 where
  pub short : length text ≤ source_limit
  pub tree : IsTree text s
  pub none : BreaksNone s

-- the tokens of the text spell a tree, and this is the first rule of typing that it breaks
pub record IsMistyped (text : List ℕ) (rule : Rule) (at : Place) : Type 0 where
  pub source : Source
  pub tree : IsTree text source
  pub first : IsFirstBroken source rule at

-- its length, the first rule of reading that it breaks, or, where it has a tree, the first rule of typing; want of memory is free
abbrev pub IsRefused : List ℕ → SourceErr → Type 0
IsRefused text e.SourceLong = source_limit < length text
IsRefused text (e.At rule at) = (length text ≤ source_limit) × (reading.IsRefused text (parse.At rule at) ⊎ IsMistyped text rule at)
IsRefused text e.Memory = Unit {0}

-- what a refusal of reading, and one of typing, is answered with
abbrev pub parse_answer : ParseErr → SourceErr
parse_answer parse.SourceLong = e.SourceLong
parse_answer (parse.At rule at) = e.At rule at
parse_answer parse.Memory = e.Memory

abbrev pub type_answer : TypeErr → SourceErr
type_answer (typing.At rule at) = e.At rule at
type_answer typing.Memory = e.Memory
