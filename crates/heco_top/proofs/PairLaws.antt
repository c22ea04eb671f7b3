-- The headline in two rows follows where `pair` is done.
use Rattle.std.proofs.Common.{◌≡◌, ℕ, Bool, true, false, List, [], ◌∷◌, Option, Some, None, inl, inr, refl, sym, ap, arith, length}
use Rattle.std.specs.Prelude.{if◌then◌else◌}
use Rattle.heco_exec.specs.Headline.{AreApart}
use Rattle.heco_jobs.specs.Agents.{Agents}
use Rattle.heco_jobs.specs.Outsides.{Outside}
use Rattle.heco_jobs.specs.Words.{are_distinct}
use Rattle.heco_jobs.specs.declared.outcome.Outcome.{Outcome}
use Rattle.heco_jobs.specs.declared.outcome.Outcome.TheVariants.{Ok as Fine, Refused, ReadFault, WriteFault, Memory}
use Rattle.heco_pair.proofs.Apart.{distinct_are_apart}
use Rattle.heco_pair.proofs.Paired.{done_is_paired}
use Rattle.heco_top.specs.Answers.{DoneFor, PairedFor}
use Rattle.heco_top.specs.Commands.{command_of, exec_of, pair_of}
use Rattle.heco_top.specs.declared.command.Command.{Command}
use Rattle.heco_top.specs.declared.command.Command.TheVariants.{Exec, Pair}
use Rattle.heco_top.proofs.RowLaws.{IsOfHeadlines, headline_row, not_where}

abbrev pub is_pair : Option Command → Bool
is_pair (Some Pair) = true
is_pair command = false

-- ---- only the row of `pair` asks for it, and its words differ

only_pair : IsOfHeadlines is_pair
only_pair = record { none = refl; plain = refl; compile = refl; show = refl; draw = λ seed. refl; keys = refl; encrypt = refl; run = refl; decrypt = refl; measure = refl; sample = λ seed. refl }

not_exec : (ws : List (List ℕ)) → is_pair (exec_of ws) ≡ false
not_exec (a1 ∷ a2 ∷ a3 ∷ a4 ∷ a5 ∷ a6 ∷ a7 ∷ a8 ∷ a9 ∷ []) = not_where is_pair only_pair (are_distinct (a1 ∷ a2 ∷ a3 ∷ a4 ∷ a5 ∷ a6 ∷ a7 ∷ a8 ∷ a9 ∷ [])) Exec refl
not_exec ws = refl

-- ten words that differ ask for it
pub pair_by : (ws : List (List ℕ)) → length ws ≡ 10 → are_distinct ws ≡ true → Some Pair ≡ pair_of ws
pair_by (a1 ∷ a2 ∷ a3 ∷ a4 ∷ a5 ∷ a6 ∷ a7 ∷ a8 ∷ a9 ∷ a10 ∷ []) long distinct = sym (ap (λ b. if b then Some Pair else None) distinct)
pair_by ws long distinct = absurd (let none : ⊥ = omega (arith, long) in none)

where_is : (b : Bool) → is_pair (if b then Some Pair else None) ≡ true → b ≡ true
where_is true e = refl
where_is false e = absurd (let no : ⊥ = cc in no)

row_apart : (command : List ℕ) (ws : List (List ℕ)) → is_pair (pair_of ws) ≡ true → AreApart (command ∷ ws) (6 ∷ 7 ∷ 8 ∷ 9 ∷ 10 ∷ [])
row_apart command (a1 ∷ a2 ∷ a3 ∷ a4 ∷ a5 ∷ a6 ∷ a7 ∷ a8 ∷ a9 ∷ a10 ∷ []) e =
    distinct_are_apart command a1 a2 a3 a4 a5 a6 a7 a8 a9 a10 (where_is (are_distinct (a1 ∷ a2 ∷ a3 ∷ a4 ∷ a5 ∷ a6 ∷ a7 ∷ a8 ∷ a9 ∷ a10 ∷ [])) e)
row_apart command ws e = absurd (let no : ⊥ = cc in no)

pub pair_words_apart : (words : List (List ℕ)) → is_pair (command_of words) ≡ true → AreApart words (6 ∷ 7 ∷ 8 ∷ 9 ∷ 10 ∷ [])
pair_words_apart [] e = absurd (let no : ⊥ = cc in no)
pair_words_apart (c ∷ ws) e = elim (headline_row is_pair only_pair c ws e) [
  | inl other ↦ absurd (let is = not_exec ws in let no : ⊥ = cc in no)
  | inr own ↦ row_apart c ws own
]

-- ---- the headline

module _ (words : List (List ℕ)) (agents left : Agents) (old new : Outside) where
  pub done_paired : (c : Option Command) (outcome : Outcome) → (is_pair c ≡ true → AreApart words (6 ∷ 7 ∷ 8 ∷ 9 ∷ 10 ∷ [])) → DoneFor words c agents left old new outcome → PairedFor words c agents.passes left.passes old new outcome
  done_paired (Some Pair) Fine apart d = done_is_paired words agents left old new (apart refl) d
  done_paired (Some Pair) (Refused r) apart d = tt
  done_paired (Some Pair) (ReadFault k) apart d = tt
  done_paired (Some Pair) (WriteFault k) apart d = tt
  done_paired (Some Pair) Memory apart d = tt
  done_paired (Some command) outcome apart d = tt
  done_paired None outcome apart d = tt
