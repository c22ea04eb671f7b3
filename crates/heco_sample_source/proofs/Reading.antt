-- The source's text is read as its tree.
use Rattle.std.proofs.Common.{◌≡◌, [], refl}
use Rattle.heco_expressions.specs.Reading.{found, parts_from, product as product_parser, sum, factor}
use Rattle.heco_statements.proofs.WholeSources.{whole_found}
use Rattle.heco_statements.specs.Reading.{whole, series, block}
use Rattle.heco_syntax.specs.Lexemes.{lexemes_of}
use Rattle.heco_syntax.specs.Limits.{levels, depth}
use Rattle.heco_syntax.specs.Sources.{IsSource as IsSpelled}
use Rattle.heco_sample_source.proofs.Lexing.{tokens}
use Rattle.heco_sample_source.proofs.Tree.{tree, low, high, of_a, of_b, product, addition, loop}
use Rattle.heco_sample_source.specs.SampleText.{sample_text}

read : whole levels depth (lexemes_of sample_text tokens) ≡ found tree []
unfolding sample_text tokens series block parts_from product_parser sum factor low high of_a of_b product addition loop
read = refl

pub spelled : IsSpelled levels depth (lexemes_of sample_text tokens) tree
spelled = whole_found levels depth (lexemes_of sample_text tokens) tree [] read
