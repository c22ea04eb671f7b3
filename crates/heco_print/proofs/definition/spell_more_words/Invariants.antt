use Rattle.std.proofs.Common.{◌≡◌, [], ◌++◌, ◌∷◌, drop}
use Rattle.std.specs.List.{flat_map}
use Rattle.heco_lex.specs.declared.token.TokenKind.TheVariants as k
use Rattle.heco_print.specs.Spelling.{mark, word_of}
use Rattle.heco_print.proofs.definition.spell_more_words.Given as goal

abbrev pub invariant-loop-word : goal.invariant-loop-word
invariant-loop-word l = l.fn.out ++ flat_map (λ x. mark k.Comma ∷ word_of x ∷ []) l.words ≡ l.out ++ flat_map (λ x. mark k.Comma ∷ word_of x ∷ []) (drop l.word-index l.words)
