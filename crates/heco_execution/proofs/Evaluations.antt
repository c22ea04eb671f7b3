-- Evaluations follow one another where the secrets' operations do.
use Rattle.std.proofs.Common.{◌≡◌, refl, subst, ℕ, ◌-ℤ◌, ℤ, pos, List, [], ◌∷◌, map, Ok, Err, ◌++◌, Bool, true, false, cond}
use Rattle.std.specs.List.{list_any}
use Rattle.std.specs.Str.{bytes_eq}
use Rattle.heco_syntax.specs.declared.tree.Def.{Def}
use Rattle.heco_lex.specs.declared.place.Place.{Place}
use Rattle.heco_syntax.specs.declared.tree.Ident.{Ident}
use Rattle.heco_syntax.specs.declared.tree.Expr.{Expr, ind-Expr, roll-Expr}
use Rattle.heco_syntax.specs.declared.tree.Expr.TheFolds.{map-Expr, map-ProdPart, map-SumPart, fold-roll-Expr, fold-roll-ProdPart, fold-roll-SumPart}
use Rattle.heco_syntax.specs.declared.tree.Expr.TheOpen.{Expr-F, SumPart-F, ProdPart-F}
use Rattle.heco_syntax.specs.declared.tree.SumPart.{SumPart, roll-SumPart}
use Rattle.heco_syntax.specs.declared.tree.ProdPart.{ProdPart, roll-ProdPart}
use Rattle.heco_execution.specs.declared.value.Value.{Value}
use Rattle.heco_execution.specs.declared.value.Value.TheVariants.{Public, Secret}
use Rattle.heco_execution.specs.declared.value.Element.{Element}
use Rattle.heco_execution.specs.declared.value.Operator.{Operator}
use Rattle.heco_execution.specs.declared.value.Operator.TheVariants.{Plus, Minus, Times}
use Rattle.heco_execution.specs.Outcomes.{Outcome, in_range}
use Rattle.heco_execution.specs.Secrets.{Secrets, Stored, storeless}
use Rattle.heco_execution.specs.States.{State, nothing, found, element}
use Rattle.heco_execution.specs.Steps.{Step, give, then, make}
use Rattle.heco_execution.specs.Evaluation.{Calls, Meaning, no_calls, called, in_turn, is_secret, called_with, meaning, with_definition, definitions_after, calls_of, Evaluation, Part, on_whole, public, item, on_secrets, as_secret, secret_result, operate, opposite, along, layer, sum_layer, product_layer, evaluate, sum_part, product_part}
use Rattle.heco_execution.proofs.Following.{AllLike, Agree, IsGrowth, Follows, Lasts, then_follows, give_follows, test_follows, counted_follows, make_follows}
use Rattle.heco_execution.proofs.Likenesses.{ValueLike, StateLike, ElementLike, element_agrees, append_like, arguments_like, any_like}

-- the operations keep the correspondence
pub record AreFollowed {S V W : Type 0} (a : Stored S V) (b : Secrets W) (Grows : S → S → Type 0) (R : S → V → W → Type 0) : Type 0 where
  pub growth : IsGrowth Grows R
  pub of_number : (s : S) (z : ℤ) → Grows s (a.of_number z s).1 × R (a.of_number z s).1 (a.of_number z s).0 (b.of_number z)
  pub add : (s : S) (x y : V) (u w : W) → R s x u → R s y w → Grows s (a.add x y s).1 × R (a.add x y s).1 (a.add x y s).0 (b.add u w)
  pub multiply : (s : S) (x y : V) (u w : W) → R s x u → R s y w → Grows s (a.multiply x y s).1 × R (a.multiply x y s).1 (a.multiply x y s).0 (b.multiply u w)
  pub negate : (s : S) (x : V) (u : W) → R s x u → Grows s (a.negate x s).1 × R (a.negate x s).1 (a.negate x s).0 (b.negate u)

module _ {S V W : Type 0} (a : Stored S V) (b : Secrets W) (Grows : S → S → Type 0) (R : S → V → W → Type 0) (same : AreFollowed a b Grows R) where
  abbrev pub Values : S → Value V → Value W → Type 0
  Values s = ValueLike (R s)

  abbrev pub Lists : S → List (Value V) → List (Value W) → Type 0
  Lists s = AllLike (ValueLike (R s))

  abbrev pub States : S → State V → State W → Type 0
  States s = StateLike (R s)

  abbrev pub Elements : S → Element V → Element W → Type 0
  Elements s = ElementLike (R s)

  pub values_last : Lasts Grows Values
  values_last s t (Public m) (Public n) grown e = e
  values_last s t (Secret v) (Secret w) grown e = same.growth.kept s t v w grown e
  values_last s t (Public m) (Secret w) grown e = e
  values_last s t (Secret v) (Public n) grown e = e

  pub lists_last : Lasts Grows Lists
  lists_last s t [] [] grown h = tt
  lists_last s t (x ∷ xs) (y ∷ ys) grown h = (values_last s t x y grown h.0, lists_last s t xs ys grown h.1)
  lists_last s t [] (y ∷ ys) grown h = h
  lists_last s t (x ∷ xs) [] grown h = h

  all_last : (s t : S) (xs : List (List (Value V))) (ys : List (List (Value W))) → Grows s t → AllLike (Lists s) xs ys → AllLike (Lists t) xs ys
  all_last s t [] [] grown h = tt
  all_last s t (x ∷ xs) (y ∷ ys) grown h = (lists_last s t x y grown h.0, all_last s t xs ys grown h.1)
  all_last s t [] (y ∷ ys) grown h = h
  all_last s t (x ∷ xs) [] grown h = h

  pub states_last : Lasts Grows States
  states_last s t x y grown h = record { texts = h.texts; lists = all_last s t x.lists y.lists grown h.lists }

  pub public_follows : (s : S) (at : Place) (z : ℤ) → Follows Grows Values s (public at z) (public at z)
  public_follows s at z =
      then_follows Grows R same.growth (λ _ m n. m ≡ n) Values s _ _ (λ n. give (Public n)) (λ n. give (Public n))
      (test_follows Grows R same.growth (λ _ m n. m ≡ n) s (in_range at z) (in_range at z) (λ t grown. agree_refl (in_range at z)))
      (λ t m n grown e. give_follows Grows R same.growth Values values_last t (Public m) (Public n) e)
    where
      agree_refl : (o : Outcome ℤ) → Agree (λ m n. m ≡ n) o o
      agree_refl (Ok n) = refl
      agree_refl (Err e) = refl

  pub number_follows : (s : S) (z : ℤ) → Follows Grows R s (make (a.of_number z)) (make ((storeless {S = Unit {0}} b).of_number z))
  number_follows s z = make_follows Grows R same.growth R s (a.of_number z) (b.of_number z) (λ t grown. same.of_number t z)

  negate_follows : (s : S) (x : V) (u : W) → R s x u → Follows Grows R s (make (a.negate x)) (make ((storeless {S = Unit {0}} b).negate u))
  negate_follows s x u h = make_follows Grows R same.growth R s (a.negate x) (b.negate u) (λ t grown. same.negate t x u (same.growth.kept s t x u grown h))

  add_follows : (s : S) (x y : V) (u w : W) → R s x u → R s y w → Follows Grows R s (make (a.add x y)) (make ((storeless {S = Unit {0}} b).add u w))
  add_follows s x y u w h k =
      make_follows Grows R same.growth R s (a.add x y) (b.add u w) (λ t grown. same.add t x y u w (same.growth.kept s t x u grown h) (same.growth.kept s t y w grown k))

  on_secrets_follows : (s : S) (o : Operator) (x y : V) (u w : W) → R s x u → R s y w → Follows Grows R s (on_secrets a o x y) (on_secrets (storeless b) o u w)
  on_secrets_follows s Plus x y u w h k = add_follows s x y u w h k
  on_secrets_follows s Minus x y u w h k =
      then_follows Grows R same.growth R R s (make (a.negate y)) (make ((storeless b).negate w)) (λ n. make (a.add x n)) (λ n. make ((storeless b).add u n)) (negate_follows s y w k)
      (λ t n m grown c. add_follows t x n u m (same.growth.kept s t x u grown h) c)
  on_secrets_follows s Times x y u w h k =
      make_follows Grows R same.growth R s (a.multiply x y) (b.multiply u w) (λ t grown. same.multiply t x y u w (same.growth.kept s t x u grown h) (same.growth.kept s t y w grown k))

  pub as_secret_follows : (s : S) (v : Value V) (w : Value W) → Values s v w → Follows Grows R s (as_secret a v) (as_secret (storeless b) w)
  as_secret_follows s (Public m) (Public n) e = subst (λ z. Follows Grows R s (make (a.of_number m)) (make ((storeless {S = Unit {0}} b).of_number z))) e (number_follows s m)
  as_secret_follows s (Secret v) (Secret w) h = give_follows Grows R same.growth R (λ x y v' w' grown c. same.growth.kept x y v' w' grown c) s v w h
  as_secret_follows s (Public m) (Secret w) e = absurd e
  as_secret_follows s (Secret v) (Public n) e = absurd e

  pub secretly : (s : S) (f : Step S V) (g : Step (Unit {0}) W) → Follows Grows R s f g → Follows Grows Values s (then f (λ u. give (Secret u))) (then g (λ u. give (Secret u)))
  secretly s f g h =
      then_follows Grows R same.growth R Values s f g (λ u. give (Secret u)) (λ u. give (Secret u)) h
      (λ t v w grown c. give_follows Grows R same.growth Values values_last t (Secret v) (Secret w) c)

  secret_result_follows : (s : S) (o : Operator) (x y : V) (u w : W) → R s x u → R s y w → Follows Grows Values s (secret_result a o x y) (secret_result (storeless b) o u w)
  secret_result_follows s o x y u w h k = secretly s (on_secrets a o x y) (on_secrets (storeless b) o u w) (on_secrets_follows s o x y u w h k)

  pub operate_follows : (s : S) (o : Operator) (at : Place) (v x : Value V) (w y : Value W) → Values s v w → Values s x y
      → Follows Grows Values s (operate a o at v x) (operate (storeless b) o at w y)
  operate_follows s o at (Public m) (Public n) (Public m') (Public n') e f = rw (e, f) (public_follows s at (on_whole o m' n'))
  operate_follows s o at (Public m) (Secret x) (Public m') (Secret y) e f =
      rw e (then_follows Grows R same.growth R Values s (make (a.of_number m')) (make ((storeless b).of_number m')) (λ z. secret_result a o z x) (λ z. secret_result (storeless b) o z y) (number_follows s m')
      (λ t z z' grown c. secret_result_follows t o z x z' y c (same.growth.kept s t x y grown f)))
  operate_follows s o at (Secret x) v (Secret y) w e f =
      then_follows Grows R same.growth R Values s _ _ (secret_result a o x) (secret_result (storeless b) o y) (as_secret_follows s v w f)
      (λ t z z' grown c. secret_result_follows t o x z y z' (same.growth.kept s t x y grown e) c)
  operate_follows s o at (Public m) (Secret x) (Public m') (Public n) e f = absurd f
  operate_follows s o at (Public m) (Public n) (Public m') (Secret y) e f = absurd f
  operate_follows s o at (Public m) v (Secret y) w e f = absurd e
  operate_follows s o at (Secret x) v (Public n) w e f = absurd e

  opposite_follows : (s : S) (at : Place) (v : Value V) (w : Value W) → Values s v w → Follows Grows Values s (opposite a at v) (opposite (storeless b) at w)
  opposite_follows s at (Public m) (Public n) e = rw e (public_follows s at (pos 0 -ℤ n))
  opposite_follows s at (Secret v) (Secret w) h = secretly s (make (a.negate v)) (make ((storeless b).negate w)) (negate_follows s v w h)
  opposite_follows s at (Public m) (Secret w) e = absurd e
  opposite_follows s at (Secret v) (Public n) e = absurd e

  pub item_follows : (s : S) (name : Ident) (x : State V) (y : State W) (i : Value V) (j : Value W) → States s x y → Values s i j
      → Follows Grows Values s (item name x i) (item name y j)
  item_follows s name x y i j like e =
      then_follows Grows R same.growth Elements Values s _ _ (λ v. give v.value) (λ v. give v.value)
      (test_follows Grows R same.growth Elements s (element name x i) (element name y j)
      (λ t grown. element_agrees (R t) name x y i j (states_last s t x y grown like) (values_last s t i j grown e)))
      (λ t v w grown c. give_follows Grows R same.growth Values values_last t v.value w.value c.value)

  -- the one evaluation follows the other over corresponding states
  abbrev pub Evaluates : Evaluation S V → Evaluation (Unit {0}) W → Type 0
  Evaluates f g = (s : S) (x : State V) (y : State W) → States s x y → Follows Grows Values s (f x) (g y)

  pub record PartFollows (p : Part S V) (q : Part (Unit {0}) W) : Type 0 where
    pub operator : p.operator ≡ q.operator
    pub at : p.at ≡ q.at
    pub of : Evaluates p.of q.of

  -- the one meaning follows the other over corresponding arguments
  abbrev pub Means : Meaning S V → Meaning (Unit {0}) W → Type 0
  Means m n = (s : S) (vs : List (Value V)) (ws : List (Value W)) → Lists s vs ws → Follows Grows Values s (m vs) (n ws)

  -- calls of each name follow one another
  abbrev pub CallsFollow : Calls S V → Calls (Unit {0}) W → Type 0
  CallsFollow c d = (text : List ℕ) → Means (c text) (d text)

  pub in_turn_follows : (es : List (Evaluation S V)) (fs : List (Evaluation (Unit {0}) W)) → AllLike Evaluates es fs → (s : S) (x : State V) (y : State W) (done : List (Value V)) (done' : List (Value W))
      → States s x y → Lists s done done' → Follows Grows Lists s (in_turn es x done) (in_turn fs y done')
  in_turn_follows [] [] m s x y done done' like h = give_follows Grows R same.growth Lists lists_last s done done' h
  in_turn_follows (e ∷ es) (f ∷ fs) m s x y done done' like h =
      then_follows Grows R same.growth Values Lists s (e x) (f y) (λ v. in_turn es x (done ++ v ∷ [])) (λ w. in_turn fs y (done' ++ w ∷ [])) (m.0 s x y like)
      (λ t v w grown c. in_turn_follows es fs m.1 t x y _ _ (states_last s t x y grown like)
      (append_like (ValueLike (R t)) done (v ∷ []) done' (w ∷ []) (lists_last s t done done' grown h) (c, tt)))
  in_turn_follows [] (f ∷ fs) m s x y done done' like h = absurd m
  in_turn_follows (e ∷ es) [] m s x y done done' like h = absurd m

  called_follows : (c : Calls S V) (d : Calls (Unit {0}) W) → CallsFollow c d → (name : Ident) (es : List (Evaluation S V)) (fs : List (Evaluation (Unit {0}) W)) → AllLike Evaluates es fs
      → Evaluates (called c name es) (called d name fs)
  called_follows c d h name es fs m s x y like =
      then_follows Grows R same.growth Lists Values s (in_turn es x []) (in_turn fs y []) _ _ (in_turn_follows es fs m s x y [] [] like tt)
      (λ t vs ws grown l. counted_follows Grows R same.growth Values t 1 name.at _ _ (λ t' more. h name.text t' vs ws (lists_last t t' vs ws more l)))

  along_follows : (ps : List (Part S V)) (qs : List (Part (Unit {0}) W)) → AllLike PartFollows ps qs → (s : S) (x : State V) (y : State W) (v : Value V) (w : Value W)
      → States s x y → Values s v w → Follows Grows Values s (along a ps x v) (along (storeless b) qs y w)
  along_follows [] [] m s x y v w like e = give_follows Grows R same.growth Values values_last s v w e
  along_follows (p ∷ ps) (q ∷ qs) m s x y v w like e =
      then_follows Grows R same.growth Values Values s (p.of x) (q.of y) _ _ (m.0.of s x y like)
      (λ t v' w' grown c.
      rw (m.0.operator, m.0.at)
      (counted_follows Grows R same.growth Values t 1 q.at _ _ (λ t' grown'.
      then_follows Grows R same.growth Values Values t' _ _ (along a ps x) (along (storeless b) qs y)
      (operate_follows t' q.operator q.at v v' w w' (values_last s t' v w (same.growth.further s t t' grown grown') e) (values_last t t' v' w' grown' c))
      (λ u v'' w'' more d.
      along_follows ps qs m.1 u x y v'' w'' (states_last s u x y (same.growth.further s t' u (same.growth.further s t t' grown grown') more) like) d))))
  along_follows [] (q ∷ qs) m s x y v w like e = absurd m
  along_follows (p ∷ ps) [] m s x y v w like e = absurd m

  module _ (c : Calls S V) (d : Calls (Unit {0}) W) (calls : CallsFollow c d) where
    abbrev IsFollowed : Expr → Type 0
    IsFollowed e = Evaluates (evaluate a c e) (evaluate (storeless b) d e)

    abbrev SumFollowed : SumPart → Type 0
    SumFollowed p = PartFollows (sum_part a c p) (sum_part (storeless b) d p)

    abbrev ProductFollowed : ProdPart → Type 0
    ProductFollowed p = PartFollows (product_part a c p) (product_part (storeless b) d p)

    sums_follow : (ys : List ((p : SumPart) × SumFollowed p)) → AllLike PartFollows (map (sum_part a c) (map (λ y. y.0) ys)) (map (sum_part (storeless b) d) (map (λ y. y.0) ys))
    sums_follow [] = tt
    sums_follow (y ∷ ys) = (y.1, sums_follow ys)

    products_follow : (ys : List ((p : ProdPart) × ProductFollowed p)) → AllLike PartFollows (map (product_part a c) (map (λ y. y.0) ys)) (map (product_part (storeless b) d) (map (λ y. y.0) ys))
    products_follow [] = tt
    products_follow (y ∷ ys) = (y.1, products_follow ys)

    args_follow : (ys : List ((e : Expr) × IsFollowed e)) → AllLike Evaluates (map (evaluate a c) (map (λ y. y.0) ys)) (map (evaluate (storeless b) d) (map (λ y. y.0) ys))
    args_follow [] = tt
    args_follow (y ∷ ys) = (y.1, args_follow ys)

    -- what the layer is of which y has the proofs
    abbrev bare : Expr-F ((e : Expr) × IsFollowed e) ((p : ProdPart) × ProductFollowed p) ((p : SumPart) × SumFollowed p) → Expr-F Expr ProdPart SumPart
    bare y = map-Expr _ _ _ _ _ _ (λ e. e.0) (λ e. e.0) (λ e. e.0) y

    abbrev evaluated : {T U : Type 0} → Stored T U → Calls T U → Expr-F Expr ProdPart SumPart → Expr-F (Evaluation T U) (Part T U) (Part T U)
    evaluated s cs x = map-Expr _ _ _ _ _ _ (evaluate s cs) (product_part s cs) (sum_part s cs) x

    layer_follows : (y : Expr-F ((e : Expr) × IsFollowed e) ((p : ProdPart) × ProductFollowed p) ((p : SumPart) × SumFollowed p))
        → Evaluates (layer a c (evaluated a c (bare y))) (layer (storeless b) d (evaluated (storeless b) d (bare y)))
    layer_follows (Expr-F.Lit n) s x z like = public_follows s n.at (pos n.value)
    layer_follows (Expr-F.One name) s x z like = item_follows s name x z (Public (pos 0)) (Public (pos 0)) like refl
    layer_follows (Expr-F.Item name index) s x z like =
        then_follows Grows R same.growth Values Values s _ _ (item name x) (item name z) (index.1 s x z like)
        (λ t v w grown l. item_follows t name x z v w (states_last s t x z grown like) l)
    layer_follows (Expr-F.Neg at of) s x z like =
        then_follows Grows R same.growth Values Values s _ _ _ _ (of.1 s x z like)
        (λ t v w grown l. counted_follows Grows R same.growth Values t 1 at _ _ (λ t' more. opposite_follows t' at v w (values_last t t' v w more l)))
    layer_follows (Expr-F.Sum first rest) s x z like =
        then_follows Grows R same.growth Values Values s _ _ _ _ (first.1 s x z like)
        (λ t v w grown l. along_follows _ _ (sums_follow rest) t x z v w (states_last s t x z grown like) l)
    layer_follows (Expr-F.Prod first rest) s x z like =
        then_follows Grows R same.growth Values Values s _ _ _ _ (first.1 s x z like)
        (λ t v w grown l. along_follows _ _ (products_follow rest) t x z v w (states_last s t x z grown like) l)
    layer_follows (Expr-F.Call name args) s x z like = called_follows c d calls name _ _ (args_follow args) s x z like

    equal_follow : (f f' : Evaluation S V) (g g' : Evaluation (Unit {0}) W) → f ≡ f' → g ≡ g' → Evaluates f' g' → Evaluates f g
    equal_follow f f' g g' e k h = rw (e, k) h

    rolled_follows : (y : Expr-F ((e : Expr) × IsFollowed e) ((p : ProdPart) × ProductFollowed p) ((p : SumPart) × SumFollowed p)) → IsFollowed (roll-Expr (bare y))
    rolled_follows y =
        equal_follow _ _ _ _
        (fold-roll-Expr (Evaluation S V) (Part S V) (Part S V) (layer a c) (product_layer a) (sum_layer a) (bare y))
        (fold-roll-Expr (Evaluation (Unit {0}) W) (Part (Unit {0}) W) (Part (Unit {0}) W) (layer (storeless b) d) (product_layer (storeless b)) (sum_layer (storeless b)) (bare y))
        (layer_follows y)

    equal_parts : (p p' : Part S V) (q q' : Part (Unit {0}) W) → p ≡ p' → q ≡ q' → PartFollows p' q' → PartFollows p q
    equal_parts p p' q q' e f m = rw (e, f) m

    product_followed : (y : ProdPart-F ((e : Expr) × IsFollowed e) ((p : ProdPart) × ProductFollowed p) ((p : SumPart) × SumFollowed p))
        → ProductFollowed (roll-ProdPart (map-ProdPart _ _ _ _ _ _ (λ e. e.0) (λ e. e.0) (λ e. e.0) y))
    product_followed y =
        equal_parts _ _ _ _
        (fold-roll-ProdPart (Evaluation S V) (Part S V) (Part S V) (layer a c) (product_layer a) (sum_layer a) _)
        (fold-roll-ProdPart (Evaluation (Unit {0}) W) (Part (Unit {0}) W) (Part (Unit {0}) W) (layer (storeless b) d) (product_layer (storeless b)) (sum_layer (storeless b)) _)
        (record { operator = refl; at = refl; of = y.of.1 })

    sum_followed : (y : SumPart-F ((e : Expr) × IsFollowed e) ((p : ProdPart) × ProductFollowed p) ((p : SumPart) × SumFollowed p))
        → SumFollowed (roll-SumPart (map-SumPart _ _ _ _ _ _ (λ e. e.0) (λ e. e.0) (λ e. e.0) y))
    sum_followed y =
        equal_parts _ _ _ _
        (fold-roll-SumPart (Evaluation S V) (Part S V) (Part S V) (layer a c) (product_layer a) (sum_layer a) _)
        (fold-roll-SumPart (Evaluation (Unit {0}) W) (Part (Unit {0}) W) (Part (Unit {0}) W) (layer (storeless b) d) (product_layer (storeless b)) (sum_layer (storeless b)) _)
        (record { operator = refl; at = refl; of = y.of.1 })

    pub evaluate_follows : (e : Expr) → IsFollowed e
    evaluate_follows = ind-Expr IsFollowed ProductFollowed SumFollowed
        (λ x y is. subst (λ z. IsFollowed (roll-Expr z)) is (rolled_follows y))
        (λ x y is. subst (λ z. ProductFollowed (roll-ProdPart z)) is (product_followed y))
        (λ x y is. subst (λ z. SumFollowed (roll-SumPart z)) is (sum_followed y))

  -- a call of a definition follows
  called_with_follows : (secret : Bool) (s : S) (v : Value V) (w : Value W) → Values s v w → Follows Grows Values s (called_with a secret v) (called_with (storeless b) secret w)
  called_with_follows true s v w h = secretly s (as_secret a v) (as_secret (storeless b) w) (as_secret_follows s v w h)
  called_with_follows false s v w h = give_follows Grows R same.growth Values values_last s v w h

  definition_follows : (c : Calls S V) (d : Calls (Unit {0}) W) → CallsFollow c d → (f : Def) → Means (meaning a c f) (meaning (storeless b) d f)
  unfolding meaning
  definition_follows c d calls f s vs ws h =
      rw (any_like (R s) vs ws h)
      (then_follows Grows R same.growth Values Values s _ _ (called_with a (list_any is_secret ws)) (called_with (storeless b) (list_any is_secret ws))
      (evaluate_follows c d calls f.value s _ _ (arguments_like (R s) f.params vs ws nothing nothing h (record { texts = refl; lists = tt })))
      (λ t v w grown l. called_with_follows (list_any is_secret ws) t v w l))

  with_follows : (c : Calls S V) (d : Calls (Unit {0}) W) → CallsFollow c d → (f : Def) → CallsFollow (with_definition a c f) (with_definition (storeless b) d f)
  with_follows c d calls f text = by (bytes_eq f.name.text text)
    where
      by : (found : Bool) → Means (cond found (meaning a c f) (c text)) (cond found (meaning (storeless b) d f) (d text))
      by true = definition_follows c d calls f
      by false = calls text

  definitions_follow : (fs : List Def) (c : Calls S V) (d : Calls (Unit {0}) W) → CallsFollow c d → CallsFollow (definitions_after a c fs) (definitions_after (storeless b) d fs)
  definitions_follow [] c d calls = calls
  definitions_follow (f ∷ fs) c d calls = definitions_follow fs _ _ (with_follows c d calls f)

  -- what may be called behind the same definitions follows
  pub calls_follow : (fs : List Def) → CallsFollow (calls_of a fs) (calls_of (storeless b) fs)
  unfolding calls_of
  calls_follow fs = definitions_follow fs no_calls no_calls (λ text s vs ws l. give_follows Grows R same.growth Values values_last s (Public (pos 0)) (Public (pos 0)) refl)
