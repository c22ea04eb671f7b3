-- The headline follows where `exec` is done, and after Ok nothing went to the error stream.
use Rattle.std.proofs.Common.{◌≡◌, ◌∙◌, ℕ, Bool, true, false, List, [], ◌∷◌, ◌++◌, Option, Some, None, inl, inr, refl, sym, ap, append-nil, arith, length}
use Rattle.std.specs.Prelude.{if◌then◌else◌}
use Rattle.heco_exec.proofs.Executed.{done_is_executed}
use Rattle.heco_exec.proofs.WrittenFiles.{distinct_are_apart}
use Rattle.heco_exec.specs.Headline.{AreApart}
use Rattle.heco_jobs.specs.Agents.{Agents}
use Rattle.heco_jobs.specs.Lines.{line_of, Reports}
use Rattle.heco_jobs.specs.Outsides.{Outside}
use Rattle.heco_jobs.specs.Words.{are_distinct}
use Rattle.heco_jobs.specs.declared.outcome.Outcome.{Outcome}
use Rattle.heco_jobs.specs.declared.outcome.Outcome.TheVariants.{Ok as Fine, Refused, ReadFault, WriteFault, Memory}
use Rattle.heco_top.specs.Answers.{DoneFor, ExecutedFor}
use Rattle.heco_top.specs.Commands.{command_of, exec_of, pair_of}
use Rattle.heco_top.specs.declared.command.Command.{Command}
use Rattle.heco_top.specs.declared.command.Command.TheVariants.{Exec, Pair}
use Rattle.heco_top.proofs.RowLaws.{IsOfHeadlines, headline_row, not_where}

abbrev pub is_exec : Option Command → Bool
is_exec (Some Exec) = true
is_exec command = false

-- ---- only the row of `exec` asks for it, and its words differ

only_exec : IsOfHeadlines is_exec
only_exec = record { none = refl; plain = refl; compile = refl; show = refl; draw = λ seed. refl; keys = refl; encrypt = refl; run = refl; decrypt = refl; measure = refl; sample = λ seed. refl }

not_pair : (ws : List (List ℕ)) → is_exec (pair_of ws) ≡ false
not_pair (a1 ∷ a2 ∷ a3 ∷ a4 ∷ a5 ∷ a6 ∷ a7 ∷ a8 ∷ a9 ∷ a10 ∷ []) = not_where is_exec only_exec (are_distinct (a1 ∷ a2 ∷ a3 ∷ a4 ∷ a5 ∷ a6 ∷ a7 ∷ a8 ∷ a9 ∷ a10 ∷ [])) Pair refl
not_pair ws = refl

-- nine words that differ ask for it
pub exec_by : (ws : List (List ℕ)) → length ws ≡ 9 → are_distinct ws ≡ true → Some Exec ≡ exec_of ws
exec_by (a1 ∷ a2 ∷ a3 ∷ a4 ∷ a5 ∷ a6 ∷ a7 ∷ a8 ∷ a9 ∷ []) long distinct = sym (ap (λ b. if b then Some Exec else None) distinct)
exec_by ws long distinct = absurd (let none : ⊥ = omega (arith, long) in none)

where_is : (b : Bool) → is_exec (if b then Some Exec else None) ≡ true → b ≡ true
where_is true e = refl
where_is false e = absurd (let no : ⊥ = cc in no)

row_apart : (command : List ℕ) (ws : List (List ℕ)) → is_exec (exec_of ws) ≡ true → AreApart (command ∷ ws) (5 ∷ 6 ∷ 7 ∷ 8 ∷ 9 ∷ [])
row_apart command (a1 ∷ a2 ∷ a3 ∷ a4 ∷ a5 ∷ a6 ∷ a7 ∷ a8 ∷ a9 ∷ []) e =
    distinct_are_apart command a1 a2 a3 a4 a5 a6 a7 a8 a9 (where_is (are_distinct (a1 ∷ a2 ∷ a3 ∷ a4 ∷ a5 ∷ a6 ∷ a7 ∷ a8 ∷ a9 ∷ [])) e)
row_apart command ws e = absurd (let no : ⊥ = cc in no)

pub words_apart : (words : List (List ℕ)) → is_exec (command_of words) ≡ true → AreApart words (5 ∷ 6 ∷ 7 ∷ 8 ∷ 9 ∷ [])
words_apart [] e = absurd (let no : ⊥ = cc in no)
words_apart (c ∷ ws) e = elim (headline_row is_exec only_exec c ws e) [
  | inl own ↦ row_apart c ws own
  | inr other ↦ absurd (let is = not_pair ws in let no : ⊥ = cc in no)
]

-- ---- the headline

module _ (words : List (List ℕ)) (agents left : Agents) (old new : Outside) where
  pub done_executed : (c : Option Command) (outcome : Outcome) → (is_exec c ≡ true → AreApart words (5 ∷ 6 ∷ 7 ∷ 8 ∷ 9 ∷ [])) → DoneFor words c agents left old new outcome → ExecutedFor words c agents.passes left.passes old new outcome
  done_executed (Some Exec) Fine apart d = done_is_executed words agents left old new (apart refl) d
  done_executed (Some Exec) (Refused r) apart d = tt
  done_executed (Some Exec) (ReadFault k) apart d = tt
  done_executed (Some Exec) (WriteFault k) apart d = tt
  done_executed (Some Exec) Memory apart d = tt
  done_executed (Some command) outcome apart d = tt
  done_executed None outcome apart d = tt

-- ---- silence

front_empty : (front left : List ℕ) → [] ≡ front ++ left → front ≡ []
front_empty [] left e = refl
front_empty (x ∷ front) left e = absurd (let no : ⊥ = cc in no)

pub ok_is_silent : (words : List (List ℕ)) (old new : List ℕ) (outcome : Outcome) (faults faults' short short' : ℕ) → Reports old new (line_of words outcome) faults faults' short short' → outcome ≡ Fine → new ≡ old
ok_is_silent words old new Fine faults faults' short short' r is = r.prefix.grew ∙ ap (λ f. old ++ f) (front_empty r.prefix.front r.prefix.left r.prefix.parts) ∙ append-nil old
ok_is_silent words old new (Refused refusal) faults faults' short short' r is = absurd (let no : ⊥ = cc in no)
ok_is_silent words old new (ReadFault k) faults faults' short short' r is = absurd (let no : ⊥ = cc in no)
ok_is_silent words old new (WriteFault k) faults faults' short short' r is = absurd (let no : ⊥ = cc in no)
ok_is_silent words old new Memory faults faults' short short' r is = absurd (let no : ⊥ = cc in no)
