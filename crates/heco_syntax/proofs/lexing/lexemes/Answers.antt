use Rattle.std.proofs.Common.{◌∙◌, ap, ◌-◌, ◌∷◌, ◌++◌, [], arith, get_or, drop}
use Rattle.std.proofs.lemmas.List.{length-take-le, length-drop}
use Rattle.heco_lex.specs.declared.token.Token.{Token}
use Rattle.heco_lex.specs.declared.token.TokenKind.TheVariants as k
use Rattle.heco_lex.proofs.Spans.{from_earlier}
use Rattle.heco_syntax.proofs.LexemeFacts.{first_span, next_place, near_place, one_more}
use Rattle.heco_syntax.proofs.lexing.lexemes.Goals as goal

no_token : Token
no_token = record { kind = k.Word; from = 0; to = 0 }

pub place_behind-at-requires-clause-col : goal.place_behind-at-requires-clause-col
unfolding no_token
place_behind-at-requires-clause-col c =
    let s = first_span c.args.text.now c.loop-token.from c.args.tokens.now c.loop-token.token-index no_token c.loop-token-test.true c.loop-token.invariant.spans in
    let n = near_place c.args.text.now c.loop-token.from c.loop-token.at c.loop-token.invariant.within c.loop-token.invariant.place in
    omega (arith, s.0, s.1, s.2, n.col, c.requires.length, length-take-le ((get_or c.args.tokens.now c.loop-token.token-index no_token).from - c.loop-token.from) (drop c.loop-token.from c.args.text.now) (omega (arith, s.0, s.1, s.2, length-drop c.loop-token.from c.args.text.now)))

pub lexeme-requires-clause-at : goal.lexeme-requires-clause-at
unfolding no_token
lexeme-requires-clause-at c =
    let s = first_span c.args.text.now c.loop-token.from c.args.tokens.now c.loop-token.token-index no_token c.loop-token-test.true c.loop-token.invariant.spans in
    next_place c.args.text.now c.loop-token.from (get_or c.args.tokens.now c.loop-token.token-index no_token).from c.loop-token.at c.place_behind-at.result s.0 c.loop-token.invariant.place c.place_behind-at.ensures.line c.place_behind-at.ensures.col

pub loop-token-preserved : goal.loop-token-preserved
unfolding no_token
loop-token-preserved c =
    let s = first_span c.args.text.now c.loop-token.from c.args.tokens.now c.loop-token.token-index no_token c.loop-token-test.true c.loop-token.invariant.spans in
    record {
      done = one_more c.args.text.now c.args.tokens.now c.loop-token.token-index no_token c.loop-token.found c.push.new.self c.loop-token-test.true c.loop-token.invariant.done
          (c.in_ok-push.ensures.ok ∙ ap (λ v. c.loop-token.found ++ v ∷ []) c.in_ok-next.ensures);
      spans = from_earlier c.args.text.now _ _ _ (omega (arith, s.1)) s.4;
      place = next_place c.args.text.now c.loop-token.from (get_or c.args.tokens.now c.loop-token.token-index no_token).from c.loop-token.at c.place_behind-at.result s.0 c.loop-token.invariant.place c.place_behind-at.ensures.line c.place_behind-at.ensures.col;
      within = omega (arith, s.1, s.2);
    }
