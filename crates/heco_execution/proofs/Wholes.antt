-- Executions of whole sources follow one another where the secrets' operations do.
use Rattle.std.proofs.Common.{◌≡◌, ◌∙◌, refl, pos, sym, ap, ℕ, zero, suc, ◌+◌, ◌%◌, true, false, cond, List, [], ◌∷◌, ◌++◌, map, Some, None, Ok, Err, slice_index, slice_index_or, arith, add-zero}
use Rattle.std.proofs.Math.Nat.{mod-eq_of_lt}
use Rattle.std.specs.declared.option.Option.{Option}
use Rattle.heco_syntax.specs.declared.tree.Param.{Param}
use Rattle.heco_syntax.specs.declared.tree.Source.{Source}
use Rattle.heco_written.specs.World.{World}
use Rattle.heco_written.specs.ScalarTerm.{ScalarTerm, scalar_value}
use Rattle.heco_execution.specs.declared.progress.Progress.{Progress}
use Rattle.heco_execution.specs.declared.value.Value.{Value}
use Rattle.heco_execution.specs.declared.value.Value.TheVariants.{Public, Secret}
use Rattle.heco_execution.specs.Outcomes.{Outcome, after}
use Rattle.heco_execution.specs.Secrets.{Secrets, Stored, storeless, numbers, terms}
use Rattle.heco_execution.specs.States.{State, nothing, place_of, list_at, list_of, declared}
use Rattle.heco_execution.specs.Steps.{give, then}
use Rattle.heco_execution.specs.Evaluation.{no_calls}
use Rattle.heco_execution.specs.Execution.{zeros}
use Rattle.heco_syntax.specs.Ports.{length_of}
use Rattle.heco_execution.specs.Whole.{first_row, other_rows, opened, as_secrets, with_output, outputs, execute}
use Rattle.heco_execution.specs.Laws.{input_lengths, elements_from, elements, IsInputRow, AreInputRows, mapped, values_of, NumbersAreTheTermsValues}
use Rattle.heco_execution.proofs.Following.{AllLike, Comes, Follows, then_follows, give_follows}
use Rattle.heco_execution.proofs.Evaluations.{AreFollowed, Values, Lists, States, values_last, lists_last, states_last, as_secret_follows, calls_follow}
use Rattle.heco_execution.proofs.Likenesses.{ValueLike, StateLike, held_like, append_like, declared_like}
use Rattle.heco_execution.proofs.Runs.{zeros_follows, run_all_follows}
use Rattle.heco_execution.proofs.TermLaws.{HasValue, Stays, terms_followed}

module _ {V W : Type 0} (R : V → W → Type 0) where
  first_like : (rows : List (List V)) (others : List (List W)) → AllLike (AllLike R) rows others → AllLike (ValueLike R) (map (λ v. Secret v) (first_row rows)) (map (λ v. Secret v) (first_row others))
  first_like [] [] h = tt
  first_like (row ∷ rows) (other ∷ others) h = secrets_like row other h.0
    where
      secrets_like : (vs : List V) (ws : List W) → AllLike R vs ws → AllLike (ValueLike R) (map (λ v. Secret v) vs) (map (λ v. Secret v) ws)
      secrets_like [] [] h = tt
      secrets_like (v ∷ vs) (w ∷ ws) h = (h.0, secrets_like vs ws h.1)
      secrets_like [] (w ∷ ws) h = absurd h
      secrets_like (v ∷ vs) [] h = absurd h
  first_like [] (other ∷ others) h = absurd h
  first_like (row ∷ rows) [] h = absurd h

  other_like : (rows : List (List V)) (others : List (List W)) → AllLike (AllLike R) rows others → AllLike (AllLike R) (other_rows rows) (other_rows others)
  other_like [] [] h = tt
  other_like (row ∷ rows) (other ∷ others) h = h.1
  other_like [] (other ∷ others) h = absurd h
  other_like (row ∷ rows) [] h = absurd h

  list_at_like : (xs : List (List (Value V))) (ys : List (List (Value W))) (o : Option ℕ) → AllLike (AllLike (ValueLike R)) xs ys → AllLike (ValueLike R) (list_at xs o) (list_at ys o)
  list_at_like xs ys None h = tt
  list_at_like xs ys (Some i) h = held_like R xs ys i h

  list_of_like : (x : State V) (y : State W) (text : List ℕ) → StateLike R x y → AllLike (ValueLike R) (list_of x text) (list_of y text)
  list_of_like x y text h = rw h.texts (list_at_like x.lists y.lists (place_of text y.texts) h.lists)

module _ {S V W : Type 0} (a : Stored S V) (b : Secrets W) (Grows : S → S → Type 0) (R : S → V → W → Type 0) (same : AreFollowed a b Grows R) where
  abbrev Row : S → List V → List W → Type 0
  Row s = AllLike (R s)

  abbrev pub Rows : S → List (List V) → List (List W) → Type 0
  Rows s = AllLike (AllLike (R s))

  row_lasts : (s t : S) (x : List V) (y : List W) → Grows s t → Row s x y → Row t x y
  row_lasts s t [] [] grown h = tt
  row_lasts s t (x ∷ xs) (y ∷ ys) grown h = (same.growth.kept s t x y grown h.0, row_lasts s t xs ys grown h.1)
  row_lasts s t [] (y ∷ ys) grown h = h
  row_lasts s t (x ∷ xs) [] grown h = h

  rows_last : (s t : S) (x : List (List V)) (y : List (List W)) → Grows s t → Rows s x y → Rows t x y
  rows_last s t [] [] grown h = tt
  rows_last s t (x ∷ xs) (y ∷ ys) grown h = (row_lasts s t x y grown h.0, rows_last s t xs ys grown h.1)
  rows_last s t [] (y ∷ ys) grown h = h
  rows_last s t (x ∷ xs) [] grown h = h

  opened_follows : (ports : List Param) (s : S) (rows : List (List V)) (others : List (List W)) (x : State V) (y : State W) → Rows s rows others → StateLike (R s) x y
      → Follows Grows (States a b Grows R same) s (opened a ports rows x) (opened (storeless b) ports others y)
  opened_follows [] s rows others x y h like = give_follows Grows R same.growth (States a b Grows R same) (states_last a b Grows R same) s x y like
  opened_follows (p ∷ ports) s rows others x y h like = elim p.output as
      (λ o. Follows Grows (States a b Grows R same) s
      (cond o (then (zeros a (length_of p.len)) (λ list. opened a ports rows (declared x p.name.text list))) (opened a ports (other_rows rows) (declared x p.name.text (map (λ v. Secret v) (first_row rows)))))
      (cond o (then (zeros (storeless b) (length_of p.len)) (λ list. opened (storeless b) ports others (declared y p.name.text list)))
      (opened (storeless b) ports (other_rows others) (declared y p.name.text (map (λ v. Secret v) (first_row others)))))) [
        | true ↦ then_follows Grows R same.growth (Lists a b Grows R same) (States a b Grows R same) s (zeros a (length_of p.len)) (zeros (storeless b) (length_of p.len)) _ _ (zeros_follows a b Grows R same no_calls no_calls (λ text s vs ws l. give_follows Grows R same.growth (Values a b Grows R same) (values_last a b Grows R same) s (Public (pos 0)) (Public (pos 0)) refl) (length_of p.len) s)
            (λ t l m grown c. opened_follows ports t rows others _ _ (rows_last s t rows others grown h)
            (declared_like (R t) x y p.name.text l m (states_last a b Grows R same s t x y grown like) c))
        | false ↦ opened_follows ports s (other_rows rows) (other_rows others) _ _ (other_like (R s) rows others h)
            (declared_like (R s) x y p.name.text _ _ like (first_like (R s) rows others h))
      ]

  as_secrets_follows : (vs : List (Value V)) (ws : List (Value W)) (s : S) (done : List V) (done' : List W) → AllLike (ValueLike (R s)) vs ws → Row s done done'
      → Follows Grows Row s (as_secrets a vs done) (as_secrets (storeless b) ws done')
  as_secrets_follows [] [] s done done' h k = give_follows Grows R same.growth Row row_lasts s done done' k
  as_secrets_follows (v ∷ vs) (w ∷ ws) s done done' h k =
      then_follows Grows R same.growth R Row s _ _ _ _ (as_secret_follows a b Grows R same s v w h.0)
      (λ t u u' grown c. as_secrets_follows vs ws t _ _ (lists_last a b Grows R same s t vs ws grown h.1) (append_like (R t) done (u ∷ []) done' (u' ∷ []) (row_lasts s t done done' grown k) (c, tt)))
  as_secrets_follows [] (w ∷ ws) s done done' h k = absurd h
  as_secrets_follows (v ∷ vs) [] s done done' h k = absurd h

  with_output_follows : (p : Param) (s : S) (x : State V) (y : State W) (done : List (List V)) (done' : List (List W)) → StateLike (R s) x y → Rows s done done'
      → Follows Grows Rows s (with_output a p x done) (with_output (storeless b) p y done')
  unfolding with_output
  with_output_follows p s x y done done' like h = elim p.output as
      (λ o. Follows Grows Rows s
      (cond o (then (as_secrets a (list_of x p.name.text) []) (λ row. give (done ++ row ∷ []))) (give done))
      (cond o (then (as_secrets (storeless b) (list_of y p.name.text) []) (λ row. give (done' ++ row ∷ []))) (give done'))) [
        | true ↦ then_follows Grows R same.growth Row Rows s _ _ _ _ (as_secrets_follows _ _ s [] [] (list_of_like (R s) x y p.name.text like) tt)
            (λ t row row' grown c. give_follows Grows R same.growth Rows rows_last t _ _ (append_like (AllLike (R t)) done (row ∷ []) done' (row' ∷ []) (rows_last s t done done' grown h) (c, tt)))
        | false ↦ give_follows Grows R same.growth Rows rows_last s done done' h
      ]

  outputs_follows : (ports : List Param) (s : S) (x : State V) (y : State W) (done : List (List V)) (done' : List (List W)) → StateLike (R s) x y → Rows s done done'
      → Follows Grows Rows s (outputs a ports x done) (outputs (storeless b) ports y done')
  outputs_follows [] s x y done done' like h = give_follows Grows R same.growth Rows rows_last s done done' h
  outputs_follows (p ∷ ports) s x y done done' like h =
      then_follows Grows R same.growth Rows Rows s _ _ (outputs a ports x) (outputs (storeless b) ports y) (with_output_follows p s x y done done' like h)
      (λ t row row' grown c. outputs_follows ports t x y row row' (states_last a b Grows R same s t x y grown like) c)

  -- whole executions on corresponding rows follow one another
  pub execute_follows : (source : Source) (s : S) (rows : List (List V)) (others : List (List W)) → Rows s rows others
      → Follows Grows Rows s (execute a source rows) (execute (storeless b) source others)
  unfolding execute
  execute_follows source s rows others h =
      then_follows Grows R same.growth (States a b Grows R same) Rows s _ _ _ _ (opened_follows source.ports s rows others nothing nothing h (record { texts = refl; lists = tt }))
      (λ t x y grown like.
      then_follows Grows R same.growth (States a b Grows R same) Rows t _ _ _ _ (run_all_follows a b Grows R same _ _ (calls_follow a b Grows R same source.defs) source.body t x y like)
      (λ u x' y' more end. outputs_follows source.ports u x' y' [] [] end tt))

module _ (w : World) where
  abbrev HaveValues : List (List ScalarTerm) → List (List ℕ) → Type 0
  HaveValues = AllLike (AllLike (HasValue w tt))

  row_values : (xs : List ScalarTerm) (ns : List ℕ) → AllLike (HasValue w tt) xs ns → map (λ x. scalar_value w x) xs ≡ ns
  row_values [] [] h = refl
  row_values (x ∷ xs) (n ∷ ns) h = rw (h.0, row_values xs ns h.1) refl
  row_values [] (n ∷ ns) h = absurd h
  row_values (x ∷ xs) [] h = absurd h

  rows_values : (rows : List (List ScalarTerm)) (others : List (List ℕ)) → HaveValues rows others → values_of w rows ≡ others
  rows_values [] [] h = refl
  rows_values (row ∷ rows) (other ∷ others) h = rw (row_values row other h.0, rows_values rows others h.1) refl
  rows_values [] (other ∷ others) h = absurd h
  rows_values (row ∷ rows) [] h = absurd h

  read : (o : Outcome (List (List ScalarTerm) × Progress (Unit {0}))) (u : Outcome (List (List ℕ) × Progress (Unit {0})))
      → Comes (Stays w) (λ s. HaveValues) tt o u → after u (λ r. Ok r.0) ≡ mapped (values_of w) (after o (λ r. Ok r.0))
  read (Ok x) (Ok y) c = ap (λ n. Ok n) (sym (rows_values x.0 y.0 c.2))
  read (Err e) (Err f) c = ap (λ r. Err r) (sym c)
  read (Ok x) (Err f) c = absurd c
  read (Err e) (Ok y) c = absurd c

  -- the elements of an input have the values of its row
  elements_have : (a i n : ℕ) (row : List ℕ) → ((k : ℕ) → slice_index (slice_index_or w.inputs a []) (i + k) ≡ slice_index row k) → IsInputRow w.modulus n row
      → AllLike (HasValue w tt) (elements_from a i n) row
  elements_have a i zero [] at h = tt
  elements_have a i (suc n) (x ∷ row) at h = (
    ap (λ m. m % w.modulus) (ap (slice_index (slice_index_or w.inputs a [])) (sym (add-zero i)) ∙ at 0) ∙ mod-eq_of_lt h.0,
    elements_have a (suc i) n row (λ k. ap (slice_index (slice_index_or w.inputs a [])) (further i k) ∙ at (suc k)) h.1,
  )
    where
      further : (m k : ℕ) → suc m + k ≡ m + suc k
      further m k = omega arith
  elements_have a i zero (x ∷ row) at h = absurd h
  elements_have a i (suc n) [] at h = absurd h

  inputs_have : (a : ℕ) (ns : List ℕ) (rows : List (List ℕ)) → ((k : ℕ) → slice_index_or w.inputs (a + k) [] ≡ slice_index_or rows k []) → AreInputRows w.modulus ns rows
      → HaveValues (elements a ns) rows
  inputs_have a [] [] at h = tt
  inputs_have a (n ∷ ns) (row ∷ rows) at h = (
    elements_have a 0 n row (λ k. ap (λ l. slice_index l (0 + k)) (ap (λ m. slice_index_or w.inputs m []) (sym (add-zero a)) ∙ at 0) ∙ ap (slice_index row) (none k)) h.0,
    inputs_have (suc a) ns rows (λ k. ap (λ m. slice_index_or w.inputs m []) (further a k) ∙ at (suc k)) h.1,
  )
    where
      none : (k : ℕ) → 0 + k ≡ k
      none k = omega arith

      further : (m k : ℕ) → suc m + k ≡ m + suc k
      further m k = omega arith
  inputs_have a [] (row ∷ rows) at h = absurd h
  inputs_have a (n ∷ ns) [] at h = absurd h

pub numbers_are_the_terms_values : NumbersAreTheTermsValues
numbers_are_the_terms_values w source h =
    read w _ _
    (execute_follows (storeless {S = Unit {0}} (terms w.modulus)) (numbers w.modulus) (Stays w) (HasValue w) (terms_followed w) source tt (elements 0 (input_lengths source.ports)) w.inputs
    (inputs_have w 0 (input_lengths source.ports) w.inputs (λ k. ap (λ m. slice_index_or w.inputs m []) (none k)) h)
    (record { steps = 0; store = tt }) (record { steps = 0; store = tt }) tt refl)
  where
    none : (k : ℕ) → 0 + k ≡ k
    none k = omega arith
