-- The source breaks no rule of typing.
use Rattle.std.proofs.Common.{◌≡◌, ◌∙◌, ℕ, true, false, List, [], ◌∷◌, ◌++◌, map, Option, None, refl, ap, ap₂, codes}
use Rattle.std.specs.Option.{option_or}
use Rattle.heco_syntax.specs.Parts.{product_part}
use Rattle.heco_syntax.specs.declared.tree.Expr.TheOpen.{Expr-F}
use Rattle.heco_syntax.specs.declared.tree.Expr.TheVariants as e
use Rattle.heco_syntax.specs.declared.tree.SetOp.TheVariants.{Add}
use Rattle.heco_types.proofs.FirstFacts.{finds-none}
use Rattle.heco_types.specs.Expressions.{Told, of_expr, of_layer, of_product_layer, of_sum_layer}
use Rattle.heco_types.specs.FirstBroken.{BreaksNone}
use Rattle.heco_types.specs.Names.{visible}
use Rattle.heco_types.specs.Parameters.{of_source, of_params, param_name}
use Rattle.heco_types.specs.Sites.{first, site, refusal_at}
use Rattle.heco_types.specs.Statements.{Judged, block, judged, judged_as, declared, target, only, value_context, stmt_layer}
use Rattle.heco_types.specs.Table.{preset_word}
use Rattle.heco_types.specs.declared.context.Context.TheVariants.{Bound}
use Rattle.heco_types.specs.declared.name.Sort.TheVariants as sort
use Rattle.heco_types.specs.declared.refusal.TypeErr.{TypeErr}
use Rattle.heco_sample_source.proofs.Folds.{of_number, of_name, of_item, of_product, of_factor, of_assignment, of_loop}
use Rattle.heco_sample_source.proofs.Tree.{at, named, number, ports, low, high, of_a, of_b, product, addition, loop, tree}

abbrev Tells : Type 0
Tells = Told first false

-- what is told of the names a and b with their index, of the two bounds, and of the product
abbrev item_told : List ℕ → ℕ → ℕ → Tells
item_told text col index_col = of_layer first false (Expr-F.Item (named text col) (of_layer first false (Expr-F.One (named (codes "i") index_col))))

abbrev number_told : ℕ → ℕ → Tells
number_told n col = of_layer first false (Expr-F.Lit (number n col))

abbrev product_told : Tells
product_told = of_layer first false (Expr-F.Prod (item_told (codes "a") 62 64) (item_told (codes "b") 67 69 ∷ []))

low_is : of_expr first false low ≡ number_told 0 48
unfolding low
low_is = of_number (of_layer first false) (of_product_layer first false) (of_sum_layer first false) (number 0 48)

high_is : of_expr first false high ≡ number_told 512 51
unfolding high
high_is = of_number (of_layer first false) (of_product_layer first false) (of_sum_layer first false) (number 512 51)

item_is : (text : List ℕ) (col index_col : ℕ) → of_expr first false (e.Item (named text col) (e.One (named (codes "i") index_col))) ≡ item_told text col index_col
item_is text col index_col =
    of_item (of_layer first false) (of_product_layer first false) (of_sum_layer first false) (named text col) (e.One (named (codes "i") index_col))
    ∙ ap (λ (told : Tells). of_layer first false (Expr-F.Item (named text col) told)) (of_name (of_layer first false) (of_product_layer first false) (of_sum_layer first false) (named (codes "i") index_col))

product_is : of_expr first false product ≡ product_told
unfolding product of_a of_b
product_is =
    of_product (of_layer first false) (of_product_layer first false) (of_sum_layer first false) of_a (product_part (at 66) of_b ∷ [])
    ∙ ap₂ (λ (x y : Tells). of_layer first false (Expr-F.Prod x (y ∷ []))) (item_is (codes "a") 62 64)
    (of_factor (of_layer first false) (of_product_layer first false) (of_sum_layer first false) (at 66) of_b ∙ item_is (codes "b") 67 69)

-- of the assignment, of the loop round it, and of the whole source
abbrev assigned : Tells → Judged first
assigned value = judged_as first (λ names. option_or (target first false (named (codes "s") 57) names) (option_or None (value (value_context (visible names (codes "s"))) names))) []

abbrev looped : Tells → Tells → Judged first → Judged first
looped l h body =
    judged_as first (λ names. option_or (declared first (named (codes "i") 43) names)
    (option_or (l Bound names) (option_or (h Bound names) (block first (body ∷ []) (names ++ only (named (codes "i") 43) sort.Counter false))))) []

abbrev whole : Judged first → Option TypeErr
whole body = option_or (refusal_at (site tree.params.at (codes "q512") (preset_word true) [])) (option_or (of_params first 512 0 ports []) (block first (body ∷ []) (map param_name ports)))

addition_is : judged first addition ≡ assigned product_told
unfolding addition
addition_is = of_assignment (stmt_layer first) (named (codes "s") 57) None Add (at 59) product ∙ ap assigned product_is

loop_is : judged first loop ≡ looped (number_told 0 48) (number_told 512 51) (assigned product_told)
unfolding loop
loop_is =
    of_loop (stmt_layer first) (at 39) (named (codes "i") 43) low high (addition ∷ [])
    ∙ ap (λ l. looped l (of_expr first false high) (judged first addition)) low_is
    ∙ ap (λ h. looped (number_told 0 48) h (judged first addition)) high_is
    ∙ ap (looped (number_told 0 48) (number_told 512 51)) addition_is

computed : whole (looped (number_told 0 48) (number_told 512 51) (assigned product_told)) ≡ None
computed = refl

none_found : of_source first tree ≡ None
none_found = ap whole loop_is ∙ computed

pub none_broken : BreaksNone tree
none_broken = finds-none tree none_found
