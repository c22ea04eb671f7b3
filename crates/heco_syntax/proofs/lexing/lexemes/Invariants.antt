use Rattle.std.proofs.Common.{◌≡◌, ◌≤◌, ◌++◌, drop, length}
use Rattle.heco_lex.specs.Places.{place_in}
use Rattle.heco_lex.specs.Splits.{AreSpans}
use Rattle.heco_syntax.specs.Lexemes.{lexemes_of}
use Rattle.heco_syntax.proofs.lexing.lexemes.Given as goal

abbrev pub invariant-loop-token : goal.invariant-loop-token
invariant-loop-token l = record {
  done : l.found ++ lexemes_of l.text (drop l.token-index l.tokens) ≡ lexemes_of l.text l.tokens;
  spans : AreSpans l.text l.from (drop l.token-index l.tokens);
  place : l.at ≡ place_in l.text l.from;
  within : l.from ≤ length l.text;
}
