-- A source that tokens of a text spell is in order.
use Rattle.std.proofs.Common.{ℕ, List, ◌^◌, ◌≤◌, length}
use Rattle.heco_lex.specs.Splits.{AreSpans}
use Rattle.heco_lex.specs.declared.token.Token.{Token}
use Rattle.heco_syntax.specs.Kept.{IsInOrder, kept_source}
use Rattle.heco_syntax.specs.Lexemes.{lexemes_of}
use Rattle.heco_syntax.specs.Sources.{IsSource}
use Rattle.heco_syntax.specs.declared.tree.Source.{Source}
use Rattle.heco_order.proofs.PickedSources.{source_picked}
use Rattle.heco_order.proofs.Rising.{rising, named}

pub in_order : (text : List ℕ) (at : ℕ) (ts : List Token) (n d : ℕ) (x : Source) → length text ≤ 2 ^ 20 → AreSpans text at ts → IsSource n d (lexemes_of text ts) x → IsInOrder x
in_order text at ts n d x short s i =
    let p = source_picked n d (lexemes_of text ts) x i in
    record { named = named text at ts (kept_source x) short s p; rising = rising text at ts (kept_source x) s p }
