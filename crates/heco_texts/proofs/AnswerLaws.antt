-- The answers of reading exclude one another.
use Rattle.std.proofs.Common.{◌≡◌, ◌≢◌, ◌∙◌, inl, inr, refl, sym, ap, subst, ℕ, ◌<◌, List, Some, None, Result, Ok, Err, arith}
use Rattle.std.specs.Prelude.{IfOk, IfErr}
use Rattle.std.proofs.lemmas.Bool.{cases_lt}
use Rattle.heco_nums.specs.declared.shape.Shape.{Shape}
use Rattle.heco_nums.specs.declared.shape.Values.{Values}
use Rattle.heco_texts.specs.Answers.{IsRead, IsRefused, Gives}
use Rattle.heco_texts.specs.Lines.{lines}
use Rattle.heco_texts.specs.Rules.{broken_at, first_missing, given_by, IsFirstBroken, NoneBroken}
use Rattle.heco_texts.specs.declared.error.InputErr.{InputErr}
use Rattle.heco_texts.specs.declared.error.InputErr.TheVariants.{InputLong, At, InputMissing, Memory}
use Rattle.heco_texts.specs.declared.error.InputRule.{InputRule}

module _ (t : ℕ) (shapes : List Shape) where
  broken_none : (ls : List (List ℕ)) (rule : InputRule) (number : ℕ) → IsFirstBroken t shapes ls rule number → NoneBroken t shapes ls → ⊥
  broken_none ls rule number b none =
      let some : broken_at t shapes ls b.index ≡ Some rule = b.broken in
      let no : broken_at t shapes ls b.index ≡ None = none b.index b.within in
      cc

  not_later : (ls : List (List ℕ)) (rule other : InputRule) (number line : ℕ) (a : IsFirstBroken t shapes ls rule number) (b : IsFirstBroken t shapes ls other line) → a.index < b.index → ⊥
  not_later ls rule other number line a b lt =
      let some : broken_at t shapes ls a.index ≡ Some rule = a.broken in
      let no : broken_at t shapes ls a.index ≡ None = b.earlier a.index lt in
      cc

  same_index : (ls : List (List ℕ)) (rule other : InputRule) (number line : ℕ) (a : IsFirstBroken t shapes ls rule number) (b : IsFirstBroken t shapes ls other line) → a.index ≡ b.index
  same_index ls rule other number line a b = elim (cases_lt a.index b.index) [
    | inl lt ↦ absurd (not_later ls rule other number line a b lt)
    | inr le ↦ elim (cases_lt b.index a.index) [ inl lt ↦ absurd (not_later ls other rule line number b a lt) | inr ge ↦ omega arith ]
  ]

  one_broken : (ls : List (List ℕ)) (rule other : InputRule) (number line : ℕ) → IsFirstBroken t shapes ls rule number → IsFirstBroken t shapes ls other line → At rule number ≡ At other line
  one_broken ls rule other number line a b =
      let e : a.index ≡ b.index = same_index ls rule other number line a b in
      let here : broken_at t shapes ls b.index ≡ Some other = b.broken in
      let some : broken_at t shapes ls b.index ≡ Some rule = subst (λ k. broken_at t shapes ls k ≡ Some rule) e a.broken in
      let same : number ≡ line = omega (arith, a.counted, b.counted, e) in
      cc

  one_read : (text : List ℕ) (v w : Values) → IsRead t shapes text v → IsRead t shapes text w → v ≡ w
  one_read text v w a b = ap (λ rows. record { rows = rows }) (a.rows ∙ sym b.rows)

  read_refused : (text : List ℕ) (v : Values) (e : InputErr) → IsRead t shapes text v → IsRefused t shapes text e → e ≢ Memory → ⊥
  read_refused text v InputLong a b other = (let short = a.short in omega (arith, b, short))
  read_refused text v (At rule number) a b other = broken_none (lines text) rule number b.1 a.kept
  read_refused text v (InputMissing which) a b other =
      let none : first_missing (given_by (lines text)) shapes ≡ None = a.all in
      let some : first_missing (given_by (lines text)) shapes ≡ Some which = b.2 in
      cc
  read_refused text v Memory a b other = other refl

  one_refusal : (text : List ℕ) (d e : InputErr) → IsRefused t shapes text d → IsRefused t shapes text e → d ≢ Memory → e ≢ Memory → d ≡ e
  one_refusal text Memory e a b real other = absurd (real refl)
  one_refusal text d Memory a b real other = absurd (other refl)
  one_refusal text InputLong InputLong a b real other = refl
  one_refusal text InputLong (At rule number) a b real other = absurd (let short = b.0 in omega (arith, a, short))
  one_refusal text InputLong (InputMissing which) a b real other = absurd (let short = b.0 in omega (arith, a, short))
  one_refusal text (At rule number) InputLong a b real other = absurd (let short = a.0 in omega (arith, b, short))
  one_refusal text (At rule number) (At last line) a b real other = one_broken (lines text) rule last number line a.1 b.1
  one_refusal text (At rule number) (InputMissing which) a b real other = absurd (broken_none (lines text) rule number a.1 b.1)
  one_refusal text (InputMissing which) InputLong a b real other = absurd (let short = a.0 in omega (arith, b, short))
  one_refusal text (InputMissing which) (At rule number) a b real other = absurd (broken_none (lines text) rule number b.1 a.1)
  one_refusal text (InputMissing which) (InputMissing last) a b real other =
      let first : first_missing (given_by (lines text)) shapes ≡ Some which = a.2 in
      let second : first_missing (given_by (lines text)) shapes ≡ Some last = b.2 in
      cc

  pub reads : (text : List ℕ) (result : Result Values InputErr) → IfOk result (IsRead t shapes text) → IfErr result (IsRefused t shapes text) → (v : Values) → IsRead t shapes text v → Gives result (Ok v)
  reads text (Ok w) read refused v is = inl (ap Ok (one_read text w v read is))
  reads text (Err Memory) read refused v is = inr refl
  reads text (Err InputLong) read refused v is = absurd (read_refused text v InputLong is refused (λ e. cc))
  reads text (Err (At rule number)) read refused v is = absurd (read_refused text v (At rule number) is refused (λ e. cc))
  reads text (Err (InputMissing which)) read refused v is = absurd (read_refused text v (InputMissing which) is refused (λ e. cc))

  pub refuses : (text : List ℕ) (result : Result Values InputErr) → IfOk result (IsRead t shapes text) → IfErr result (IsRefused t shapes text) → (e : InputErr) → e ≢ Memory → IsRefused t shapes text e → Gives result (Err e)
  refuses text (Ok w) read refused e other is = absurd (read_refused text w e read is other)
  refuses text (Err Memory) read refused e other is = inr refl
  refuses text (Err InputLong) read refused e other is = inl (ap Err (one_refusal text InputLong e refused is (λ h. cc) other))
  refuses text (Err (At rule number)) read refused e other is = inl (ap Err (one_refusal text (At rule number) e refused is (λ h. cc) other))
  refuses text (Err (InputMissing which)) read refused e other is = inl (ap Err (one_refusal text (InputMissing which) e refused is (λ h. cc) other))
