-- The source is accepted: its execution breaks no rule, and its one output element is not too deep.
use Rattle.std.proofs.Common.{◌≡◌, ◌∙◌, [], ◌∷◌, None, ap}
use Rattle.std.specs.Option.{option_map}
use Rattle.std.proofs.lemmas.List.Elements.{All-nil, All-cons}
use Rattle.heco_good.specs.Accepted.{IsAccepted, AllShallow, depth_of}
use Rattle.heco_thrift.specs.Deep.{deep_bound}
use Rattle.heco_written.specs.Bound.{scheme_of, bound}
use Rattle.heco_sample_source.proofs.Execution.{executed}
use Rattle.heco_sample_source.proofs.Tree.{tree}
use Rattle.heco_sample_source.proofs.Written.{dot_product, home_is, none_deep}

shallow : depth_of tree dot_product ≡ None
shallow = ap (deep_bound (scheme_of 5)) home_is ∙ ap (option_map (bound (scheme_of 5))) none_deep

pub accepted : IsAccepted tree
accepted = record {
  terms = (dot_product ∷ []) ∷ [];
  execution = executed;
  shallow = All-cons (AllShallow tree) (dot_product ∷ []) [] (All-cons (λ x. depth_of tree x ≡ None) dot_product [] shallow (All-nil (λ x. depth_of tree x ≡ None))) (All-nil (AllShallow tree));
}
