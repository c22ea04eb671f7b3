-- Values, lists and states of two executions alike.
use Rattle.std.proofs.Common.{◌≡◌, ◌∙◌, refl, ap, subst, ℕ, zero, suc, List, [], ◌∷◌, Some, None, Ok, slice_get, slice_index_or, ◌++◌, take, replicate, slice_set}
use Rattle.std.specs.List.{list_any}
use Rattle.std.specs.declared.option.Option.{Option}
use Rattle.heco_lex.specs.declared.place.Place.{Place}
use Rattle.heco_syntax.specs.declared.tree.Ident.{Ident}
use Rattle.heco_execution.specs.declared.value.Value.{Value}
use Rattle.heco_execution.specs.declared.value.Value.TheVariants.{Public, Secret}
use Rattle.heco_execution.specs.declared.value.Element.{Element}
use Rattle.heco_execution.specs.Outcomes.{after}
use Rattle.heco_execution.specs.States.{State, with_list, declared, place_of, found, index_of, element}
use Rattle.heco_execution.specs.Evaluation.{is_secret, with_arguments}
use Rattle.heco_execution.proofs.Following.{AllLike, Agree, agree_same}

module _ {V W : Type 0} (R : V → W → Type 0) where
  -- the same number, or corresponding secrets
  abbrev pub ValueLike : Value V → Value W → Type 0
  ValueLike (Public m) (Public n) = m ≡ n
  ValueLike (Secret v) (Secret w) = R v w
  ValueLike (Public m) (Secret w) = ⊥
  ValueLike (Secret v) (Public n) = ⊥

  -- the same names, which hold corresponding lists
  pub record StateLike (s : State V) (t : State W) : Type 0 where
    pub texts : s.texts ≡ t.texts
    pub lists : AllLike (AllLike ValueLike) s.lists t.lists

  -- the same place, with corresponding values
  pub record ElementLike (e : Element V) (f : Element W) : Type 0 where
    pub list : e.list ≡ f.list
    pub place : e.place ≡ f.place
    pub value : ValueLike e.value f.value

  abbrev OptionLike : Option (Value V) → Option (Value W) → Type 0
  OptionLike None None = Unit {0}
  OptionLike (Some v) (Some w) = ValueLike v w
  OptionLike None (Some w) = ⊥
  OptionLike (Some v) None = ⊥

  index_like : (at : Place) (i : Value V) (j : Value W) → ValueLike i j → index_of at i ≡ index_of at j
  index_like at (Public m) (Public n) e = ap (λ z. index_of {V = W} at (Public z)) e ∙ refl
  index_like at (Secret v) (Secret w) e = refl
  index_like at (Public m) (Secret w) e = absurd e
  index_like at (Secret v) (Public n) e = absurd e

  pub held_like : (xs : List (List (Value V))) (ys : List (List (Value W))) (n : ℕ) → AllLike (AllLike ValueLike) xs ys
      → AllLike ValueLike (slice_index_or xs n []) (slice_index_or ys n [])
  held_like [] [] n h = tt
  held_like (x ∷ xs) (y ∷ ys) zero h = h.0
  held_like (x ∷ xs) (y ∷ ys) (suc n) h = held_like xs ys n h.1
  held_like [] (y ∷ ys) n h = absurd h
  held_like (x ∷ xs) [] n h = absurd h

  get_like : (xs : List (Value V)) (ys : List (Value W)) (n : ℕ) → AllLike ValueLike xs ys → OptionLike (slice_get xs n) (slice_get ys n)
  get_like [] [] n h = tt
  get_like (x ∷ xs) (y ∷ ys) zero h = h.0
  get_like (x ∷ xs) (y ∷ ys) (suc n) h = get_like xs ys n h.1
  get_like [] (y ∷ ys) n h = absurd h
  get_like (x ∷ xs) [] n h = absurd h

  found_agrees : (at : Place) (i k : ℕ) (o : Option (Value V)) (u : Option (Value W)) → OptionLike o u
      → Agree ElementLike (after (found at o) (λ v. Ok (record { list = i; place = k; value = v }))) (after (found at u) (λ v. Ok (record { list = i; place = k; value = v })))
  found_agrees at i k None None h = refl
  found_agrees at i k (Some v) (Some w) h = record { list = refl; place = refl; value = h }
  found_agrees at i k None (Some w) h = absurd h
  found_agrees at i k (Some v) None h = absurd h

  pub element_agrees : (name : Ident) (s : State V) (t : State W) (i : Value V) (j : Value W) → StateLike s t → ValueLike i j
      → Agree ElementLike (element name s i) (element name t j)
  element_agrees name s t i j like same =
      rw (index_like name.at i j same, like.texts)
      (agree_same ElementLike (index_of name.at j) _ _ (λ k.
      agree_same ElementLike (found name.at (place_of name.text t.texts)) _ _ (λ n.
      found_agrees name.at n k _ _ (get_like _ _ k (held_like s.lists t.lists n like.lists)))))

module _ {A B : Type 0} (Q : A → B → Type 0) where
  pub append_like : (xs zs : List A) (ys ws : List B) → AllLike Q xs ys → AllLike Q zs ws → AllLike Q (xs ++ zs) (ys ++ ws)
  append_like [] zs [] ws h k = k
  append_like (x ∷ xs) zs (y ∷ ys) ws h k = (h.0, append_like xs zs ys ws h.1 k)
  append_like [] zs (y ∷ ys) ws h k = absurd h
  append_like (x ∷ xs) zs [] ws h k = absurd h

  pub take_like : (n : ℕ) (xs : List A) (ys : List B) → AllLike Q xs ys → AllLike Q (take n xs) (take n ys)
  take_like zero xs ys h = tt
  take_like (suc n) [] [] h = tt
  take_like (suc n) (x ∷ xs) (y ∷ ys) h = (h.0, take_like n xs ys h.1)
  take_like (suc n) [] (y ∷ ys) h = absurd h
  take_like (suc n) (x ∷ xs) [] h = absurd h

  pub set_like : (xs : List A) (ys : List B) (n : ℕ) (x : A) (y : B) → AllLike Q xs ys → Q x y → AllLike Q (slice_set xs n x) (slice_set ys n y)
  set_like [] [] n x y h k = tt
  set_like (v ∷ xs) (w ∷ ys) zero x y h k = (k, h.1)
  set_like (v ∷ xs) (w ∷ ys) (suc n) x y h k = (h.0, set_like xs ys n x y h.1 k)
  set_like [] (w ∷ ys) n x y h k = absurd h
  set_like (v ∷ xs) [] n x y h k = absurd h

  pub replicate_like : (n : ℕ) (x : A) (y : B) → Q x y → AllLike Q (replicate n x) (replicate n y)
  replicate_like zero x y k = tt
  replicate_like (suc n) x y k = (k, replicate_like n x y k)

module _ {V W : Type 0} (R : V → W → Type 0) where
  with_like : (x : State V) (y : State W) (text : List ℕ) (vs : List (Value V)) (ws : List (Value W)) (o : Option ℕ) → StateLike R x y → AllLike (ValueLike R) vs ws
      → StateLike R (with_list x text vs o) (with_list y text ws o)
  with_like x y text vs ws None h k = record {
    texts = ap (λ t. t ++ text ∷ []) h.texts;
    lists = append_like (AllLike (ValueLike R)) x.lists (vs ∷ []) y.lists (ws ∷ []) h.lists (k, tt);
  }
  with_like x y text vs ws (Some i) h k = record { texts = h.texts; lists = set_like (AllLike (ValueLike R)) x.lists y.lists i vs ws h.lists k }

  pub declared_like : (x : State V) (y : State W) (text : List ℕ) (vs : List (Value V)) (ws : List (Value W)) → StateLike R x y → AllLike (ValueLike R) vs ws
      → StateLike R (declared x text vs) (declared y text ws)
  unfolding declared
  declared_like x y text vs ws h k =
      subst (λ t. StateLike R (with_list x text vs (place_of text x.texts)) (with_list y text ws (place_of text t))) h.texts (with_like x y text vs ws (place_of text x.texts) h k)

  -- the parameters with corresponding arguments
  pub arguments_like : (params : List Ident) (vs : List (Value V)) (ws : List (Value W)) (x : State V) (y : State W) → AllLike (ValueLike R) vs ws → StateLike R x y
      → StateLike R (with_arguments params vs x) (with_arguments params ws y)
  arguments_like [] vs ws x y h k = k
  arguments_like (p ∷ params) [] [] x y h k = k
  arguments_like (p ∷ params) (v ∷ vs) (w ∷ ws) x y h k = arguments_like params vs ws _ _ h.1 (declared_like x y p.text (v ∷ []) (w ∷ []) k (h.0, tt))
  arguments_like (p ∷ params) [] (w ∷ ws) x y h k = absurd h
  arguments_like (p ∷ params) (v ∷ vs) [] x y h k = absurd h

  secret_like : (v : Value V) (w : Value W) → ValueLike R v w → is_secret v ≡ is_secret w
  secret_like (Public m) (Public n) e = refl
  secret_like (Secret v) (Secret w) e = refl
  secret_like (Public m) (Secret w) e = absurd e
  secret_like (Secret v) (Public n) e = absurd e

  -- as many of them are secret
  pub any_like : (vs : List (Value V)) (ws : List (Value W)) → AllLike (ValueLike R) vs ws → list_any is_secret vs ≡ list_any is_secret ws
  any_like [] [] h = refl
  any_like (v ∷ vs) (w ∷ ws) h = rw (secret_like v w h.0, any_like vs ws h.1) refl
  any_like [] (w ∷ ws) h = absurd h
  any_like (v ∷ vs) [] h = absurd h
