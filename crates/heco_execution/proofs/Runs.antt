-- Runs of statements follow one another where the secrets' operations do.
use Rattle.std.proofs.Common.{◌≡◌, ◌∙◌, refl, Bool, true, false, ap, subst, ℕ, zero, suc, ◌+◌, ℤ, ◌+ℤ◌, ◌-ℤ◌, pos, List, [], ◌∷◌, map, take, length, replicate, Some, None, slice_index_or}
use Rattle.std.specs.declared.option.Option.{Option}
use Rattle.heco_lex.specs.declared.place.Place.{Place}
use Rattle.heco_syntax.specs.declared.tree.Ident.{Ident}
use Rattle.heco_syntax.specs.declared.tree.Expr.{Expr}
use Rattle.heco_syntax.specs.declared.tree.SetOp.{SetOp}
use Rattle.heco_syntax.specs.declared.tree.SetOp.TheVariants.{Put, Add, Sub, Mul}
use Rattle.heco_syntax.specs.declared.tree.Stmt.{Stmt, ind-Stmt, roll-Stmt}
use Rattle.heco_syntax.specs.declared.tree.Stmt.TheFolds.{map-Stmt, fold-roll-Stmt}
use Rattle.heco_syntax.specs.declared.tree.Stmt.TheOpen.{Stmt-F}
use Rattle.heco_execution.specs.declared.value.Value.{Value}
use Rattle.heco_execution.specs.declared.value.Value.TheVariants.{Public, Secret}
use Rattle.heco_execution.specs.declared.value.Element.{Element}
use Rattle.heco_execution.specs.declared.value.Operator.TheVariants.{Plus, Minus, Times}
use Rattle.heco_execution.specs.Secrets.{Secrets, Stored, storeless}
use Rattle.heco_execution.specs.States.{State, element, declared, first_names, replaced}
use Rattle.heco_execution.specs.Steps.{Step, give, then, make}
use Rattle.heco_execution.specs.Evaluation.{Calls, as_secret, evaluate}
use Rattle.heco_execution.specs.Execution.{Run, at_least_zero, bound, holds, within, chosen, in_order, turn, turns, zeros, kept, combined, target_index, initial, assigned, statement, run, run_all}
use Rattle.heco_execution.proofs.Following.{AllLike, Follows, then_follows, give_follows, test_follows, counted_follows}
use Rattle.heco_execution.proofs.Evaluations.{AreFollowed, Values, Lists, States, Elements, values_last, lists_last, states_last, number_follows, as_secret_follows, secretly, operate_follows, evaluate_follows, Evaluates, in_turn_follows, CallsFollow}
use Rattle.heco_execution.proofs.Likenesses.{ValueLike, StateLike, ElementLike, held_like, element_agrees, take_like, set_like, replicate_like, declared_like}

module _ {V W : Type 0} (R : V → W → Type 0) where
  first_like : (n : ℕ) (x : State V) (y : State W) → StateLike R x y → StateLike R (first_names n x) (first_names n y)
  first_like n x y h = record { texts = ap (λ t. take n t) h.texts; lists = take_like (AllLike (ValueLike R)) n x.lists y.lists h.lists }

  replaced_like : (x : State V) (y : State W) (e : Element V) (f : Element W) (v : Value V) (w : Value W) → StateLike R x y → ElementLike R e f → ValueLike R v w
      → StateLike R (replaced x e v) (replaced y f w)
  replaced_like x y e f v w h k l = record {
    texts = h.texts;
    lists = rw (k.list, k.place)
        (set_like (AllLike (ValueLike R)) x.lists y.lists f.list _ _ h.lists
        (set_like (ValueLike R) (slice_index_or x.lists f.list []) (slice_index_or y.lists f.list []) f.place v w (held_like R x.lists y.lists f.list h.lists) l));
  }

  holds_like : (v : Value V) (w : Value W) → ValueLike R v w → holds v ≡ holds w
  holds_like (Public m) (Public n) e = ap (λ z. holds {V = W} (Public z)) e ∙ refl
  holds_like (Secret v) (Secret w) e = refl
  holds_like (Public m) (Secret w) e = absurd e
  holds_like (Secret v) (Public n) e = absurd e

  bound_like : (v : Value V) (w : Value W) → ValueLike R v w → bound v ≡ bound w
  bound_like (Public m) (Public n) e = e
  bound_like (Secret v) (Secret w) e = refl
  bound_like (Public m) (Secret w) e = absurd e
  bound_like (Secret v) (Public n) e = absurd e

module _ {S V W : Type 0} (a : Stored S V) (b : Secrets W) (Grows : S → S → Type 0) (R : S → V → W → Type 0) (same : AreFollowed a b Grows R)
    (c : Calls S V) (d : Calls (Unit {0}) W) (calls : CallsFollow a b Grows R same c d) where
  -- the one run follows the other over corresponding states
  abbrev pub Runs : Run S V → Run (Unit {0}) W → Type 0
  Runs f g = (s : S) (x : State V) (y : State W) → StateLike (R s) x y → Follows Grows (States a b Grows R same) s (f x) (g y)

  given : (s : S) (x : State V) (y : State W) → StateLike (R s) x y → Follows Grows (States a b Grows R same) s (give x) (give y)
  given s x y like = give_follows Grows R same.growth (States a b Grows R same) (states_last a b Grows R same) s x y like

  in_order_follows : (rs : List (Run S V)) (qs : List (Run (Unit {0}) W)) → AllLike Runs rs qs → Runs (in_order rs) (in_order qs)
  in_order_follows [] [] m s x y like = given s x y like
  in_order_follows (r ∷ rs) (q ∷ qs) m s x y like =
      then_follows Grows R same.growth (States a b Grows R same) (States a b Grows R same) s (r x) (q y) (in_order rs) (in_order qs) (m.0 s x y like)
      (λ t x' y' grown c. in_order_follows rs qs m.1 t x' y' c)
  in_order_follows [] (q ∷ qs) m s x y like = absurd m
  in_order_follows (r ∷ rs) [] m s x y like = absurd m

  turn_follows : (at : Place) (text : List ℕ) (r : Run S V) (q : Run (Unit {0}) W) → Runs r q → (i : ℤ) → Runs (turn at text r i) (turn at text q i)
  turn_follows at text r q m i s x y like =
      counted_follows Grows R same.growth (States a b Grows R same) s 1 at _ _ (λ t grown.
      let inside = declared_like (R t) x y text (Public i ∷ []) (Public i ∷ []) (states_last a b Grows R same s t x y grown like) (refl, tt) in
      then_follows Grows R same.growth (States a b Grows R same) (States a b Grows R same) t _ _ (λ end. give (first_names (length x.texts) end)) (λ end. give (first_names (length y.texts) end))
      (m t (declared x text (Public i ∷ [])) (declared y text (Public i ∷ [])) inside)
      (λ u x' y' more c. given u _ _ (rw (ap length like.texts) (first_like (R u) (length y.texts) x' y' c))))

  turns_follows : (at : Place) (text : List ℕ) (r : Run S V) (q : Run (Unit {0}) W) → Runs r q → (n : ℕ) (i : ℤ) → Runs (turns at text r n i) (turns at text q n i)
  turns_follows at text r q m zero i s x y like = given s x y like
  turns_follows at text r q m (suc n) i s x y like =
      then_follows Grows R same.growth (States a b Grows R same) (States a b Grows R same) s (turn at text r i x) (turn at text q i y) (turns at text r n (i +ℤ pos 1)) (turns at text q n (i +ℤ pos 1))
      (turn_follows at text r q m i s x y like)
      (λ t x' y' grown c. turns_follows at text r q m n (i +ℤ pos 1) t x' y' c)

  pub zeros_follows : (n : ℕ) (s : S) → Follows Grows (Lists a b Grows R same) s (zeros a n) (zeros (storeless b) n)
  zeros_follows n s =
      then_follows Grows R same.growth R (Lists a b Grows R same) s (make (a.of_number (pos 0))) (make ((storeless b).of_number (pos 0))) (λ z. give (replicate n (Secret z))) (λ z. give (replicate n (Secret z))) (number_follows a b Grows R same s (pos 0))
      (λ t v w grown c. give_follows Grows R same.growth (Lists a b Grows R same) (lists_last a b Grows R same) t _ _ (replicate_like (ValueLike (R t)) n (Secret v) (Secret w) c))

  kept_follows : (s : S) (old v : Value V) (old' w : Value W) → ValueLike (R s) old old' → ValueLike (R s) v w
      → Follows Grows (Values a b Grows R same) s (kept a old v) (kept (storeless b) old' w)
  kept_follows s (Public m) v (Public n) w e f = give_follows Grows R same.growth (Values a b Grows R same) (values_last a b Grows R same) s v w f
  kept_follows s (Secret x) v (Secret y) w e f = secretly a b Grows R same s (as_secret a v) (as_secret (storeless b) w) (as_secret_follows a b Grows R same s v w f)
  kept_follows s (Public m) v (Secret y) w e f = absurd e
  kept_follows s (Secret x) v (Public n) w e f = absurd e

  combined_follows : (s : S) (op : SetOp) (at : Place) (old v : Value V) (old' w : Value W) → ValueLike (R s) old old' → ValueLike (R s) v w
      → Follows Grows (Values a b Grows R same) s (combined a op at old v) (combined (storeless b) op at old' w)
  combined_follows s Put at old v old' w e f = kept_follows s old v old' w e f
  combined_follows s Add at old v old' w e f = operate_follows a b Grows R same s Plus at old v old' w e f
  combined_follows s Sub at old v old' w e f = operate_follows a b Grows R same s Minus at old v old' w e f
  combined_follows s Mul at old v old' w e f = operate_follows a b Grows R same s Times at old v old' w e f

  values_follows : (es : List Expr) → AllLike (Evaluates a b Grows R same) (map (evaluate a c) es) (map (evaluate (storeless b) d) es)
  values_follows [] = tt
  values_follows (e ∷ es) = (evaluate_follows a b Grows R same c d calls e, values_follows es)

  target_follows : (i : Option Expr) (s : S) (x : State V) (y : State W) → StateLike (R s) x y
      → Follows Grows (Values a b Grows R same) s (target_index a c i x) (target_index (storeless b) d i y)
  target_follows None s x y like = give_follows Grows R same.growth (Values a b Grows R same) (values_last a b Grows R same) s (Public (pos 0)) (Public (pos 0)) refl
  target_follows (Some e) s x y like = evaluate_follows a b Grows R same c d calls e s x y like

  initial_follows : (i : Option Expr) (s : S) (x : State V) (y : State W) → StateLike (R s) x y
      → Follows Grows (Values a b Grows R same) s (initial a c i x) (initial (storeless b) d i y)
  initial_follows None s x y like = secretly a b Grows R same s (make (a.of_number (pos 0))) (make ((storeless b).of_number (pos 0))) (number_follows a b Grows R same s (pos 0))
  initial_follows (Some e) s x y like =
      then_follows Grows R same.growth (Values a b Grows R same) (Values a b Grows R same) s _ _ _ _ (evaluate_follows a b Grows R same c d calls e s x y like)
      (λ t v w grown c. secretly a b Grows R same t (as_secret a v) (as_secret (storeless b) w) (as_secret_follows a b Grows R same t v w c))

  assigned_follows : (name : Ident) (index : Option Expr) (op : SetOp) (at : Place) (value : Expr) → Runs (assigned a c name index op at value) (assigned (storeless b) d name index op at value)
  unfolding assigned
  assigned_follows name index op at value s x y like =
      counted_follows Grows R same.growth (States a b Grows R same) s 1 name.at _ _ (λ s1 g1.
      let like1 = states_last a b Grows R same s s1 x y g1 like in
      then_follows Grows R same.growth (Values a b Grows R same) (States a b Grows R same) s1 _ _ _ _ (target_follows index s1 x y like1)
      (λ s2 i j g2 ij.
      let like2 = states_last a b Grows R same s1 s2 x y g2 like1 in
      then_follows Grows R same.growth (Elements a b Grows R same) (States a b Grows R same) s2 _ _ _ _
      (test_follows Grows R same.growth (Elements a b Grows R same) s2 (element name x i) (element name y j)
      (λ t g. element_agrees (R t) name x y i j (states_last a b Grows R same s2 t x y g like2) (values_last a b Grows R same s2 t i j g ij)))
      (λ s3 e f g3 ef.
      let like3 = states_last a b Grows R same s2 s3 x y g3 like2 in
      then_follows Grows R same.growth (Values a b Grows R same) (States a b Grows R same) s3 _ _ _ _ (evaluate_follows a b Grows R same c d calls value s3 x y like3)
      (λ s4 v w g4 vw.
      let like4 = states_last a b Grows R same s3 s4 x y g4 like3 in
      then_follows Grows R same.growth (Values a b Grows R same) (States a b Grows R same) s4 _ _ _ _
      (combined_follows s4 op at e.value v f.value w (values_last a b Grows R same s3 s4 e.value f.value g4 ef.value) vw)
      (λ s5 u u' g5 uu.
      given s5 _ _ (replaced_like (R s5) x y e f u u' (states_last a b Grows R same s4 s5 x y g5 like4)
      (record { list = ef.list; place = ef.place; value = values_last a b Grows R same s3 s5 e.value f.value (same.growth.further s3 s4 s5 g4 g5) ef.value }) uu))))))

  declaring : (s : S) (name : Ident) (x : State V) (y : State W) → StateLike (R s) x y → (f : Step S (List (Value V))) (g : Step (Unit {0}) (List (Value W)))
      → Follows Grows (Lists a b Grows R same) s f g
      → Follows Grows (States a b Grows R same) s (then f (λ l. give (declared x name.text l))) (then g (λ l. give (declared y name.text l)))
  declaring s name x y like f g h =
      then_follows Grows R same.growth (Lists a b Grows R same) (States a b Grows R same) s f g (λ l. give (declared x name.text l)) (λ l. give (declared y name.text l)) h
      (λ t l m grown c. given t _ _ (declared_like (R t) x y name.text l m (states_last a b Grows R same s t x y grown like) c))

  declaring_one : (s : S) (name : Ident) (x : State V) (y : State W) → StateLike (R s) x y → (f : Step S (Value V)) (g : Step (Unit {0}) (Value W))
      → Follows Grows (Values a b Grows R same) s f g
      → Follows Grows (States a b Grows R same) s (then f (λ v. give (declared x name.text (v ∷ [])))) (then g (λ v. give (declared y name.text (v ∷ []))))
  declaring_one s name x y like f g h =
      then_follows Grows R same.growth (Values a b Grows R same) (States a b Grows R same) s f g _ _ h
      (λ t v w grown c. given t _ _ (declared_like (R t) x y name.text (v ∷ []) (w ∷ []) (states_last a b Grows R same s t x y grown like) (c, tt)))

  abbrev IsFollowed : Stmt → Type 0
  IsFollowed s = Runs (run a c s) (run (storeless b) d s)

  runs_follow : (ys : List ((s : Stmt) × IsFollowed s)) → AllLike Runs (map (run a c) (map (λ y. y.0) ys)) (map (run (storeless b) d) (map (λ y. y.0) ys))
  runs_follow [] = tt
  runs_follow (y ∷ ys) = (y.1, runs_follow ys)

  abbrev bare : Stmt-F ((s : Stmt) × IsFollowed s) → Stmt-F Stmt
  bare y = map-Stmt _ _ (λ e. e.0) y

  within_follows : (r : Run S V) (q : Run (Unit {0}) W) → Runs r q → Runs (within r) (within q)
  within_follows r q m s x y like =
      then_follows Grows R same.growth (States a b Grows R same) (States a b Grows R same) s (r x) (q y) (λ end. give (first_names (length x.texts) end)) (λ end. give (first_names (length y.texts) end)) (m s x y like)
      (λ u x' y' more l. given u _ _ (rw (ap length like.texts) (first_like (R u) (length y.texts) x' y' l)))

  chosen_follows : (first : Bool) (rs : List (Run S V)) (qs : List (Run (Unit {0}) W)) → AllLike Runs rs qs → Runs (chosen first rs None) (chosen first qs None)
  chosen_follows true rs qs m s x y like = within_follows _ _ (in_order_follows rs qs m) s x y like
  chosen_follows false rs qs m s x y like = given s x y like

  either_follows : (first : Bool) (rs os : List (Run S V)) (qs us : List (Run (Unit {0}) W)) → AllLike Runs rs qs → AllLike Runs os us → Runs (chosen first rs (Some os)) (chosen first qs (Some us))
  either_follows true rs os qs us m n s x y like = within_follows _ _ (in_order_follows rs qs m) s x y like
  either_follows false rs os qs us m n s x y like = within_follows _ _ (in_order_follows os us n) s x y like

  statement_follows : (y : Stmt-F ((s : Stmt) × IsFollowed s)) → Runs (statement a c (map-Stmt _ _ (run a c) (bare y))) (statement (storeless b) d (map-Stmt _ _ (run (storeless b) d) (bare y)))
  statement_follows (Stmt-F.IntOne at name value) s x y like =
      counted_follows Grows R same.growth (States a b Grows R same) s 1 at _ _ (λ t grown.
      let inside = states_last a b Grows R same s t x y grown like in
      declaring_one t name x y inside _ _ (evaluate_follows a b Grows R same c d calls value t x y inside))
  statement_follows (Stmt-F.IntMany at name len list) s x y like =
      counted_follows Grows R same.growth (States a b Grows R same) s (1 + len.value) at _ _ (λ t grown.
      let inside = states_last a b Grows R same s t x y grown like in
      declaring t name x y inside _ _ (in_turn_follows a b Grows R same _ _ (values_follows list) t x y [] [] inside tt))
  statement_follows (Stmt-F.SecretOne at name value) s x y like =
      counted_follows Grows R same.growth (States a b Grows R same) s 1 at _ _ (λ t grown.
      let inside = states_last a b Grows R same s t x y grown like in
      declaring_one t name x y inside _ _ (initial_follows value t x y inside))
  statement_follows (Stmt-F.SecretMany at name len) s x y like =
      counted_follows Grows R same.growth (States a b Grows R same) s (1 + len.value) at _ _ (λ t grown.
      declaring t name x y (states_last a b Grows R same s t x y grown like) (zeros a len.value) (zeros (storeless b) len.value) (zeros_follows len.value t))
  statement_follows (Stmt-F.Set name index op at value) s x y like = assigned_follows name index op at value s x y like
  statement_follows (Stmt-F.Loop at name low high body) s x y like =
      counted_follows Grows R same.growth (States a b Grows R same) s 1 at _ _ (λ s1 g1.
      let like1 = states_last a b Grows R same s s1 x y g1 like in
      then_follows Grows R same.growth (Values a b Grows R same) (States a b Grows R same) s1 _ _ _ _ (evaluate_follows a b Grows R same c d calls low s1 x y like1)
      (λ s2 l l' g2 ll.
      let like2 = states_last a b Grows R same s1 s2 x y g2 like1 in
      then_follows Grows R same.growth (Values a b Grows R same) (States a b Grows R same) s2 _ _ _ _ (evaluate_follows a b Grows R same c d calls high s2 x y like2)
      (λ s3 h h' g3 hh.
      rw (bound_like (R s2) l l' ll, bound_like (R s3) h h' hh)
      (turns_follows at name.text (in_order (map (run a c) (map (λ z. z.0) body))) (in_order (map (run (storeless b) d) (map (λ z. z.0) body)))
      (in_order_follows _ _ (runs_follow body)) (at_least_zero (bound h' -ℤ bound l')) (bound l') s3 x y (states_last a b Grows R same s2 s3 x y g3 like2)))))
  statement_follows (Stmt-F.Choice at test body None) s x y like =
      counted_follows Grows R same.growth (States a b Grows R same) s 1 at _ _ (λ s1 g1.
      let like1 = states_last a b Grows R same s s1 x y g1 like in
      then_follows Grows R same.growth (Values a b Grows R same) (States a b Grows R same) s1 _ _ _ _ (evaluate_follows a b Grows R same c d calls test s1 x y like1)
      (λ s2 v w g2 vw.
      rw (holds_like (R s2) v w vw)
      (chosen_follows (holds w) _ _ (runs_follow body) s2 x y (states_last a b Grows R same s1 s2 x y g2 like1))))
  statement_follows (Stmt-F.Choice at test body (Some other)) s x y like =
      counted_follows Grows R same.growth (States a b Grows R same) s 1 at _ _ (λ s1 g1.
      let like1 = states_last a b Grows R same s s1 x y g1 like in
      then_follows Grows R same.growth (Values a b Grows R same) (States a b Grows R same) s1 _ _ _ _ (evaluate_follows a b Grows R same c d calls test s1 x y like1)
      (λ s2 v w g2 vw.
      rw (holds_like (R s2) v w vw)
      (either_follows (holds w) _ _ _ _ (runs_follow body) (runs_follow other) s2 x y (states_last a b Grows R same s1 s2 x y g2 like1))))

  equal_follow : (f f' : Run S V) (g g' : Run (Unit {0}) W) → f ≡ f' → g ≡ g' → Runs f' g' → Runs f g
  equal_follow f f' g g' e k h = rw (e, k) h

  rolled_follows : (y : Stmt-F ((s : Stmt) × IsFollowed s)) → IsFollowed (roll-Stmt (bare y))
  rolled_follows y =
      equal_follow _ _ _ _ (fold-roll-Stmt (Run S V) (statement a c) (bare y)) (fold-roll-Stmt (Run (Unit {0}) W) (statement (storeless b) d) (bare y)) (statement_follows y)

  pub run_follows : (s : Stmt) → IsFollowed s
  run_follows = ind-Stmt IsFollowed (λ x y is. subst (λ z. IsFollowed (roll-Stmt z)) is (rolled_follows y))

  all_follow : (body : List Stmt) → AllLike Runs (map (run a c) body) (map (run (storeless b) d) body)
  all_follow [] = tt
  all_follow (s ∷ body) = (run_follows s, all_follow body)

  -- the runs of statements follow one another
  pub run_all_follows : (body : List Stmt) → Runs (run_all a c body) (run_all (storeless b) d body)
  run_all_follows body = in_order_follows _ _ (all_follow body)
