use Rattle.std.proofs.Common.{◌≡◌, ◌++◌, ◌∷◌, drop}
use Rattle.std.specs.List.{flat_map}
use Rattle.heco_lex.specs.declared.token.TokenKind.TheVariants as k
use Rattle.heco_print.specs.Spelling.{mark}
use Rattle.heco_print.specs.Statements.{param}
use Rattle.heco_print.proofs.printing.spell_more_params.Given as goal

abbrev pub invariant-loop-p : goal.invariant-loop-p
invariant-loop-p l = l.fn.out ++ flat_map (λ p. mark k.Comma ∷ param p) l.ports ≡ l.out ++ flat_map (λ p. mark k.Comma ∷ param p) (drop l.p-index l.ports)
