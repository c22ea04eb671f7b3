-- What two ways tell of a tree corresponds, and to what the tree keeps of its tokens.
use Rattle.std.proofs.Common.{◌≡◌, refl, ap, subst, ◌⊎◌, inl, inr, Bool, true, false, List, [], ◌∷◌, ◌++◌, map, Option, Some, None, ℕ, suc}
use Rattle.std.proofs.lemmas.List.{length-map}
use Rattle.std.specs.List.{flat_map}
use Rattle.heco_lex.specs.declared.place.Place.{Place}
use Rattle.heco_syntax.specs.Kept.{Kept, kept_ident, kept_num, kept_step, kept_product_step, kept_sum_step, kept_sum_part, kept_product_part, kept_expr, kept_some, kept_stmt_step, kept_stmt, kept_param, kept_def}
use Rattle.heco_syntax.specs.declared.tree.Def.{Def}
use Rattle.heco_syntax.specs.declared.tree.Ident.{Ident}
use Rattle.heco_syntax.specs.declared.tree.Expr.{Expr, ind-Expr, roll-Expr}
use Rattle.heco_syntax.specs.declared.tree.Expr.TheFolds.{map-Expr, map-ProdPart, map-SumPart, fold-roll-Expr, fold-roll-ProdPart, fold-roll-SumPart}
use Rattle.heco_syntax.specs.declared.tree.Expr.TheOpen.{Expr-F, SumPart-F, ProdPart-F}
use Rattle.heco_syntax.specs.declared.tree.Num.{Num}
use Rattle.heco_syntax.specs.declared.tree.Param.{Param}
use Rattle.heco_syntax.specs.declared.tree.ProdPart.{ProdPart, roll-ProdPart}
use Rattle.heco_syntax.specs.declared.tree.Source.{Source}
use Rattle.heco_syntax.specs.declared.tree.Stmt.{Stmt, ind-Stmt, roll-Stmt}
use Rattle.heco_syntax.specs.declared.tree.Stmt.TheFolds.{map-Stmt, fold-roll-Stmt}
use Rattle.heco_syntax.specs.declared.tree.Stmt.TheOpen.{Stmt-F}
use Rattle.heco_syntax.specs.declared.tree.SumPart.{SumPart, roll-SumPart}
use Rattle.heco_types.specs.Definitions.{argument_name, definition_name, definition_names, of_arguments, of_definitions}
use Rattle.heco_types.specs.Expressions.{Told, invoked, each, of_layer, of_product_layer, of_sum_layer, of_expr, of_product, of_sum}
use Rattle.heco_types.specs.Names.{Name}
use Rattle.heco_types.specs.Parameters.{of_length, of_params, of_source, param_limit, param_name}
use Rattle.heco_types.specs.Sites.{Report, Site}
use Rattle.heco_types.specs.Statements.{Judged, of_maybe, block, stmt_layer, judged, of_block}
use Rattle.heco_types.specs.declared.context.Context.{Context}
use Rattle.heco_types.specs.declared.context.Context.TheVariants.{Anywhere, Index, Bound, IntValue}

-- the relation holds of nothing and of one site, and goes on over what comes next and over a nameless token at which nothing is tried
pub record Follows {M N : Type 0} (r : Report M) (q : Report N) (R : M → N → List Kept → Type 0) : Type 0 where
  pub nothing : R r.nothing q.nothing []
  pub test : (s : Site) (name : Option (List ℕ)) → (name ≡ Some s.text) ⊎ (name ≡ None) → R (r.test s) (q.test s) (record { name = name; at = s.at } ∷ [])
  pub next : (x y : M) (u v : N) (ks ls : List Kept) → R x u ks → R y v ls → R (r.next x y) (q.next u v) (ks ++ ls)
  pub skip : (at : Place) (x : M) (u : N) (ks : List Kept) → R x u ks → R x u (record { name = None; at = at } ∷ ks)

module _ {M N : Type 0} (r : Report M) (q : Report N) (R : M → N → List Kept → Type 0) (f : Follows r q R) where
  along : (x y : M) (u v : N) (ks ls : List Kept) → x ≡ y → u ≡ v → ks ≡ ls → R y v ls → R x u ks
  along x y u v ks ls a b c s = rw (a, b, c) s

  module _ (inside : Bool) where
    abbrev ExprFollows : Expr → Type 0
    ExprFollows x = (context : Context) (names : List Name) → R (of_expr r inside x context names) (of_expr q inside x context names) (kept_expr x)

    abbrev ProductFollows : ProdPart → Type 0
    ProductFollows p = (context : Context) (names : List Name) → R (of_product r inside p context names) (of_product q inside p context names) (kept_product_part p)

    abbrev SumFollows : SumPart → Type 0
    SumFollows p = (context : Context) (names : List Name) → R (of_sum r inside p context names) (of_sum q inside p context names) (kept_sum_part p)

    sums-follow : (ys : List ((p : SumPart) × SumFollows p)) (context : Context) (names : List Name)
        → R (each r inside (map (of_sum r inside) (map (λ y. y.0) ys)) context names) (each q inside (map (of_sum q inside) (map (λ y. y.0) ys)) context names) (flat_map (λ ks. ks) (map kept_sum_part (map (λ y. y.0) ys)))
    sums-follow [] context names = f.nothing
    sums-follow (y ∷ ys) context names = f.next _ _ _ _ _ _ (y.1 context names) (sums-follow ys context names)

    products-follow : (ys : List ((p : ProdPart) × ProductFollows p)) (context : Context) (names : List Name)
        → R (each r inside (map (of_product r inside) (map (λ y. y.0) ys)) context names) (each q inside (map (of_product q inside) (map (λ y. y.0) ys)) context names) (flat_map (λ ks. ks) (map kept_product_part (map (λ y. y.0) ys)))
    products-follow [] context names = f.nothing
    products-follow (y ∷ ys) context names = f.next _ _ _ _ _ _ (y.1 context names) (products-follow ys context names)

    args-follow : (ys : List ((x : Expr) × ExprFollows x)) (context : Context) (names : List Name)
        → R (each r inside (map (of_expr r inside) (map (λ y. y.0) ys)) context names) (each q inside (map (of_expr q inside) (map (λ y. y.0) ys)) context names) (flat_map (λ ks. ks) (map kept_expr (map (λ y. y.0) ys)))
    args-follow [] context names = f.nothing
    args-follow (y ∷ ys) context names = f.next _ _ _ _ _ _ (y.1 context names) (args-follow ys context names)

    abbrev bare : Expr-F ((x : Expr) × ExprFollows x) ((p : ProdPart) × ProductFollows p) ((p : SumPart) × SumFollows p) → Expr-F Expr ProdPart SumPart
    bare y = map-Expr _ _ _ _ _ _ (λ x. x.0) (λ x. x.0) (λ x. x.0) y

    layer-follows : (y : Expr-F ((x : Expr) × ExprFollows x) ((p : ProdPart) × ProductFollows p) ((p : SumPart) × SumFollows p)) (context : Context) (names : List Name)
        → R (of_layer r inside (map-Expr _ _ _ _ _ _ (of_expr r inside) (of_product r inside) (of_sum r inside) (bare y)) context names) (of_layer q inside (map-Expr _ _ _ _ _ _ (of_expr q inside) (of_product q inside) (of_sum q inside) (bare y)) context names)
        (kept_step (map-Expr _ _ _ _ _ _ kept_expr kept_product_part kept_sum_part (bare y)))
    layer-follows (Expr-F.Lit n) context names = f.skip _ _ _ _ f.nothing
    layer-follows (Expr-F.One name) context names = f.test _ _ (inl refl)
    layer-follows (Expr-F.Item name index) context names = f.next _ _ _ _ _ _ (f.test _ _ (inl refl)) (index.1 Index names)
    layer-follows (Expr-F.Neg at of) context names = f.skip _ _ _ _ (of.1 context names)
    layer-follows (Expr-F.Sum x rest) context names = f.next _ _ _ _ _ _ (x.1 context names) (sums-follow rest context names)
    layer-follows (Expr-F.Prod x rest) context names = f.next _ _ _ _ _ _ (x.1 context names) (products-follow rest context names)
    layer-follows (Expr-F.Call name args) context names =
        let xs = map (λ (y : (x : Expr) × ExprFollows x). y.0) args in
        along _ _ _ _ _ _
        (ap (λ n. r.next (invoked r inside n name context names) (each r inside (map (of_expr r inside) xs) context names)) (length-map xs (of_expr r inside)))
        (ap (λ n. q.next (invoked q inside n name context names) (each q inside (map (of_expr q inside) xs) context names)) (length-map xs (of_expr q inside)))
        refl (f.next _ _ _ _ _ _ (f.test _ _ (inl refl)) (args-follow args context names))

    rolled-follows : (y : Expr-F ((x : Expr) × ExprFollows x) ((p : ProdPart) × ProductFollows p) ((p : SumPart) × SumFollows p)) → ExprFollows (roll-Expr (bare y))
    rolled-follows y context names =
        along _ _ _ _ _ _ (ap (λ g. g context names) (fold-roll-Expr (Told r inside) (Told r inside) (Told r inside) (of_layer r inside) (of_product_layer r inside) (of_sum_layer r inside) (bare y)))
        (ap (λ g. g context names) (fold-roll-Expr (Told q inside) (Told q inside) (Told q inside) (of_layer q inside) (of_product_layer q inside) (of_sum_layer q inside) (bare y)))
        (fold-roll-Expr (List Kept) (List Kept) (List Kept) kept_step kept_product_step kept_sum_step (bare y)) (layer-follows y context names)

    product-follows : (y : ProdPart-F ((x : Expr) × ExprFollows x) ((p : ProdPart) × ProductFollows p) ((p : SumPart) × SumFollows p))
        → ProductFollows (roll-ProdPart (map-ProdPart _ _ _ _ _ _ (λ x. x.0) (λ x. x.0) (λ x. x.0) y))
    product-follows y context names =
        along _ _ _ _ _ _ (ap (λ g. g context names) (fold-roll-ProdPart (Told r inside) (Told r inside) (Told r inside) (of_layer r inside) (of_product_layer r inside) (of_sum_layer r inside) _))
        (ap (λ g. g context names) (fold-roll-ProdPart (Told q inside) (Told q inside) (Told q inside) (of_layer q inside) (of_product_layer q inside) (of_sum_layer q inside) _))
        (fold-roll-ProdPart (List Kept) (List Kept) (List Kept) kept_step kept_product_step kept_sum_step _) (f.skip _ _ _ _ (y.of.1 context names))

    sum-follows : (y : SumPart-F ((x : Expr) × ExprFollows x) ((p : ProdPart) × ProductFollows p) ((p : SumPart) × SumFollows p))
        → SumFollows (roll-SumPart (map-SumPart _ _ _ _ _ _ (λ x. x.0) (λ x. x.0) (λ x. x.0) y))
    sum-follows y context names =
        along _ _ _ _ _ _ (ap (λ g. g context names) (fold-roll-SumPart (Told r inside) (Told r inside) (Told r inside) (of_layer r inside) (of_product_layer r inside) (of_sum_layer r inside) _))
        (ap (λ g. g context names) (fold-roll-SumPart (Told q inside) (Told q inside) (Told q inside) (of_layer q inside) (of_product_layer q inside) (of_sum_layer q inside) _))
        (fold-roll-SumPart (List Kept) (List Kept) (List Kept) kept_step kept_product_step kept_sum_step _) (f.skip _ _ _ _ (y.of.1 context names))

    pub expr-follows : (x : Expr) → ExprFollows x
    expr-follows = ind-Expr ExprFollows ProductFollows SumFollows
        (λ x y is. subst (λ z. ExprFollows (roll-Expr z)) is (rolled-follows y))
        (λ x y is. subst (λ z. ProductFollows (roll-ProdPart z)) is (product-follows y))
        (λ x y is. subst (λ z. SumFollows (roll-SumPart z)) is (sum-follows y))

    values-follow : (xs : List Expr) (context : Context) (names : List Name) → R (each r inside (map (of_expr r inside) xs) context names) (each q inside (map (of_expr q inside) xs) context names) (flat_map kept_expr xs)
    values-follow [] context names = f.nothing
    values-follow (x ∷ xs) context names = f.next _ _ _ _ _ _ (expr-follows x context names) (values-follow xs context names)

  maybe-follows : (o : Option Expr) (context : Context) (names : List Name) → R (of_maybe r o context names) (of_maybe q o context names) (kept_some kept_expr o)
  maybe-follows None context names = f.nothing
  maybe-follows (Some x) context names = expr-follows false x context names

  record JudgedFollows (j : Judged r) (k : Judged q) (ks : List Kept) : Type 0 where
    pub told : (names : List Name) → R (j.told names) (k.told names) ks
    pub adds : j.adds ≡ k.adds

  abbrev StmtFollows : Stmt → Type 0
  StmtFollows s = JudgedFollows (judged r s) (judged q s) (kept_stmt s)

  block-next : (j : Judged r) (k : Judged q) (ks : List Kept) (js : List (Judged r)) (kks : List (Judged q)) (ls : List Kept) (names : List Name)
      → JudgedFollows j k ks → R (block r js (names ++ j.adds)) (block q kks (names ++ j.adds)) ls → R (block r (j ∷ js) names) (block q (k ∷ kks) names) (ks ++ ls)
  block-next j k ks js kks ls names s rest = f.next _ _ _ _ _ _ (s.told names) (subst (λ a. R (block r js (names ++ j.adds)) (block q kks (names ++ a)) ls) s.adds rest)

  stmts-follow : (ys : List ((s : Stmt) × StmtFollows s)) (names : List Name)
      → R (block r (map (judged r) (map (λ y. y.0) ys)) names) (block q (map (judged q) (map (λ y. y.0) ys)) names) (flat_map (λ ks. ks) (map kept_stmt (map (λ y. y.0) ys)))
  stmts-follow [] names = f.nothing
  stmts-follow (y ∷ ys) names = block-next _ _ _ _ _ _ names y.1 (stmts-follow ys _)

  abbrev bare_stmt : Stmt-F ((s : Stmt) × StmtFollows s) → Stmt-F Stmt
  bare_stmt y = map-Stmt _ _ (λ x. x.0) y

  stmt-layer-follows : (y : Stmt-F ((s : Stmt) × StmtFollows s))
      → JudgedFollows (stmt_layer r (map-Stmt _ _ (judged r) (bare_stmt y))) (stmt_layer q (map-Stmt _ _ (judged q) (bare_stmt y))) (kept_stmt_step (map-Stmt _ _ kept_stmt (bare_stmt y)))
  stmt-layer-follows (Stmt-F.IntOne at name value) = record {
    told = λ names. f.skip _ _ _ _ (f.next _ _ _ _ _ _ (f.test _ _ (inl refl)) (expr-follows false value IntValue names));
    adds = refl;
  }
  stmt-layer-follows (Stmt-F.IntMany at name len values) = record {
    told = λ names. f.skip _ _ _ _ (f.next _ _ _ _ _ _ (f.test _ _ (inl refl)) (f.next _ _ _ _ _ _ (f.test _ _ (inr refl)) (values-follow false values IntValue names)));
    adds = refl;
  }
  stmt-layer-follows (Stmt-F.SecretOne at name value) = record {
    told = λ names. f.skip _ _ _ _ (f.next _ _ _ _ _ _ (f.test _ _ (inl refl)) (maybe-follows value Anywhere names));
    adds = refl;
  }
  stmt-layer-follows (Stmt-F.SecretMany at name len) = record {
    told = λ names. f.skip _ _ _ _ (f.next _ _ _ _ _ _ (f.test _ _ (inl refl)) (f.test _ _ (inr refl)));
    adds = refl;
  }
  stmt-layer-follows (Stmt-F.Set name index op at value) = record {
    told = λ names. f.next _ _ _ _ _ _ (f.test _ _ (inl refl)) (f.next _ _ _ _ _ _ (maybe-follows index Index names) (f.skip _ _ _ _ (expr-follows false value _ names)));
    adds = refl;
  }
  stmt-layer-follows (Stmt-F.Loop at name low high body) = record {
    told = λ names. f.skip _ _ _ _ (f.next _ _ _ _ _ _ (f.test _ _ (inl refl)) (f.next _ _ _ _ _ _ (expr-follows false low Bound names)
        (f.next _ _ _ _ _ _ (expr-follows false high Bound names) (stmts-follow body _))));
    adds = refl;
  }
  stmt-layer-follows (Stmt-F.Choice at test body None) = record {
    told = λ names. f.skip _ _ _ _ (f.next _ _ _ _ _ _ (expr-follows false test Bound names) (f.next _ _ _ _ _ _ (stmts-follow body names) f.nothing));
    adds = refl;
  }
  stmt-layer-follows (Stmt-F.Choice at test body (Some other)) = record {
    told = λ names. f.skip _ _ _ _ (f.next _ _ _ _ _ _ (expr-follows false test Bound names) (f.next _ _ _ _ _ _ (stmts-follow body names) (stmts-follow other names)));
    adds = refl;
  }

  equal-follows : (j k : Judged r) (l m : Judged q) (ks ls : List Kept) → j ≡ k → l ≡ m → ks ≡ ls → JudgedFollows k m ls → JudgedFollows j l ks
  equal-follows j k l m ks ls a b c s = rw (a, b, c) s

  stmt-rolled-follows : (y : Stmt-F ((s : Stmt) × StmtFollows s)) → StmtFollows (roll-Stmt (bare_stmt y))
  stmt-rolled-follows y =
      equal-follows _ _ _ _ _ _ (fold-roll-Stmt (Judged r) (stmt_layer r) (bare_stmt y)) (fold-roll-Stmt (Judged q) (stmt_layer q) (bare_stmt y))
      (fold-roll-Stmt (List Kept) kept_stmt_step (bare_stmt y)) (stmt-layer-follows y)

  stmt-follows : (s : Stmt) → StmtFollows s
  stmt-follows = ind-Stmt StmtFollows (λ x y is. subst (λ z. StmtFollows (roll-Stmt z)) is (stmt-rolled-follows y))

  block-follows : (body : List Stmt) (names : List Name) → R (of_block r body names) (of_block q body names) (flat_map kept_stmt body)
  block-follows [] names = f.nothing
  block-follows (s ∷ body) names = block-next _ _ _ _ _ _ names (stmt-follows s) (block-follows body _)

  length-follows : (len : Option Num) (limit : ℕ) (names : List Name) → R (of_length r len limit names) (of_length q len limit names) (kept_some kept_num len)
  length-follows None limit names = f.nothing
  length-follows (Some len) limit names = f.test _ _ (inr refl)

  params-follow : (slots number : ℕ) (ps : List Param) (names : List Name) → R (of_params r slots number ps names) (of_params q slots number ps names) (flat_map kept_param ps)
  params-follow slots number [] names = f.nothing
  params-follow slots number (p ∷ ps) names =
      f.next _ _ _ _ _ _ (f.next _ _ _ _ _ _ (f.test _ _ (inl refl)) (length-follows p.len (param_limit slots p.output) names)) (params-follow slots (suc number) ps (names ++ param_name p ∷ []))

  arguments-follow : (number : ℕ) (xs : List Ident) (names : List Name) → R (of_arguments r number xs names) (of_arguments q number xs names) (flat_map kept_ident xs)
  arguments-follow number [] names = f.nothing
  arguments-follow number (x ∷ xs) names = f.next _ _ _ _ _ _ (f.test _ _ (inl refl)) (arguments-follow (suc number) xs (names ++ argument_name x ∷ []))

  definitions-follow : (ds : List Def) (names : List Name) → R (of_definitions r ds names) (of_definitions q ds names) (flat_map kept_def ds)
  definitions-follow [] names = f.nothing
  definitions-follow (d ∷ ds) names =
      f.next _ _ _ _ _ _
      (f.skip _ _ _ _ (f.next _ _ _ _ _ _ (f.test _ _ (inl refl)) (f.next _ _ _ _ _ _ (arguments-follow 0 d.params names) (expr-follows true d.value Anywhere (names ++ map argument_name d.params)))))
      (definitions-follow ds (names ++ definition_name names d ∷ []))

  -- what the two ways tell of a source corresponds, where the relation goes on over what is kept of the function's own name
  pub source-follows : (x : Source) (own : List Kept) → ((y : M) (v : N) (ks : List Kept) → R y v ks → R y v (own ++ ks))
      → R (of_source r x) (of_source q x) (kept_ident x.params ++ (flat_map kept_def x.defs ++ (own ++ (flat_map kept_param x.ports ++ flat_map kept_stmt x.body))))
  source-follows x own over =
      let names = definition_names [] x.defs in
      f.next _ _ _ _ _ _ (f.test _ _ (inl refl)) (f.next _ _ _ _ _ _ (definitions-follow x.defs []) (over _ _ _ (f.next _ _ _ _ _ _ (params-follow _ 0 x.ports names) (block-follows x.body (names ++ map param_name x.ports)))))
