-- A command with a headline is asked for by its own row alone.
use Rattle.std.proofs.Common.{◌≡◌, ℕ, Bool, true, false, List, [], ◌∷◌, Option, Some, None, inl, inr}
use Rattle.std.specs.Prelude.{◌⊎◌, if◌then◌else◌, codes}
use Rattle.std.specs.Option.{option_map}
use Rattle.std.specs.Str.{bytes_eq}
use Rattle.heco_jobs.specs.Words.{are_distinct}
use Rattle.heco_top.specs.Commands.{command_of, plain_of, compile_of, show_of, draw_of, keys_of, encrypt_of, run_of, decrypt_of, measure_of, exec_of, pair_of, sample_of}
use Rattle.heco_top.specs.declared.command.Command.{Command}
use Rattle.heco_top.specs.declared.command.Command.TheVariants.{Plain, Compile, Show, Draw, Keys, Encrypt, Run, Decrypt, Measure, Sample}
use Rattle.heco_top.specs.Seeds.{seed_of}

-- a test that no command passes but `exec` or `pair`
pub record IsOfHeadlines (test : Option Command → Bool) : Type 0 where
  pub none : test None ≡ false
  pub plain : test (Some Plain) ≡ false
  pub compile : test (Some Compile) ≡ false
  pub show : test (Some Show) ≡ false
  pub draw : (seed : ℕ) → test (Some (Draw seed)) ≡ false
  pub keys : test (Some Keys) ≡ false
  pub encrypt : test (Some Encrypt) ≡ false
  pub run : test (Some Run) ≡ false
  pub decrypt : test (Some Decrypt) ≡ false
  pub measure : test (Some Measure) ≡ false
  pub sample : (seed : ℕ) → test (Some (Sample seed)) ≡ false

module _ (test : Option Command → Bool) (only : IsOfHeadlines test) where
  pub not_where : (b : Bool) (c : Command) → test (Some c) ≡ false → test (if b then Some c else None) ≡ false
  not_where true c other = other
  not_where false c other = only.none

  not_drawn : (b : Bool) (seed : Option ℕ) → test (if b then option_map (λ n. Draw n) seed else None) ≡ false
  not_drawn true (Some n) = only.draw n
  not_drawn true None = only.none
  not_drawn false seed = only.none

  not_plain : (ws : List (List ℕ)) → test (plain_of ws) ≡ false
  not_plain (a ∷ b ∷ []) = not_where (are_distinct (a ∷ b ∷ [])) Plain only.plain
  not_plain ws = only.none

  not_compile : (ws : List (List ℕ)) → test (compile_of ws) ≡ false
  not_compile (a ∷ b ∷ []) = not_where (are_distinct (a ∷ b ∷ [])) Compile only.compile
  not_compile ws = only.none

  not_show : (ws : List (List ℕ)) → test (show_of ws) ≡ false
  not_show (a ∷ []) = only.show
  not_show ws = only.none

  not_draw : (ws : List (List ℕ)) → test (draw_of ws) ≡ false
  not_draw (a ∷ s ∷ b ∷ c ∷ []) = not_drawn (are_distinct (a ∷ b ∷ c ∷ [])) (seed_of s)
  not_draw ws = only.none

  not_keys : (ws : List (List ℕ)) → test (keys_of ws) ≡ false
  not_keys (a ∷ b ∷ c ∷ d ∷ []) = not_where (are_distinct (a ∷ b ∷ c ∷ d ∷ [])) Keys only.keys
  not_keys ws = only.none

  not_encrypt : (ws : List (List ℕ)) → test (encrypt_of ws) ≡ false
  not_encrypt (a ∷ b ∷ c ∷ d ∷ e ∷ []) = not_where (are_distinct (a ∷ b ∷ c ∷ d ∷ e ∷ [])) Encrypt only.encrypt
  not_encrypt ws = only.none

  not_run : (ws : List (List ℕ)) → test (run_of ws) ≡ false
  not_run (a ∷ b ∷ c ∷ d ∷ []) = not_where (are_distinct (a ∷ b ∷ c ∷ d ∷ [])) Run only.run
  not_run ws = only.none

  not_decrypt : (ws : List (List ℕ)) → test (decrypt_of ws) ≡ false
  not_decrypt (a ∷ b ∷ c ∷ []) = not_where (are_distinct (a ∷ b ∷ c ∷ [])) Decrypt only.decrypt
  not_decrypt ws = only.none

  not_measure : (ws : List (List ℕ)) → test (measure_of ws) ≡ false
  not_measure (a ∷ b ∷ c ∷ d ∷ []) = not_where (are_distinct (a ∷ b ∷ c ∷ d ∷ [])) Measure only.measure
  not_measure ws = only.none

  seed_alone : (seed : Option ℕ) → test (option_map (λ n. Sample n) seed) ≡ false
  seed_alone (Some n) = only.sample n
  seed_alone None = only.none

  not_sample : (b : Bool) (ws : List (List ℕ)) → test (if b then sample_of ws else None) ≡ false
  not_sample true (s ∷ []) = seed_alone (seed_of s)
  not_sample true ws = only.none
  not_sample false ws = only.none

  -- a row that does not pass is passed over
  passed : (b : Bool) (row more : Option Command) → test row ≡ false → test (if b then row else more) ≡ true → test more ≡ true
  passed true row more other e = absurd (let no : ⊥ = cc in no)
  passed false row more other e = e

  either : (b d : Bool) (row other more : Option Command) → test more ≡ false → test (if b then row else if d then other else more) ≡ true → (test row ≡ true) ⊎ (test other ≡ true)
  either true d row other more neither e = inl e
  either false true row other more neither e = inr e
  either false false row other more neither e = absurd (let none : ⊥ = cc in none)

  -- words that pass are those of the row of `exec` or of `pair`
  pub headline_row : (c : List ℕ) (ws : List (List ℕ)) → test (command_of (c ∷ ws)) ≡ true → (test (exec_of ws) ≡ true) ⊎ (test (pair_of ws) ≡ true)
  headline_row c ws e =
      let word = λ (name : List ℕ). bytes_eq c name in
      let from12 : Option Command = if word (codes "sample") then sample_of ws else None in
      let from11 : Option Command = if word (codes "pair") then pair_of ws else from12 in
      let from10 : Option Command = if word (codes "exec") then exec_of ws else from11 in
      let from9 : Option Command = if word (codes "measure") then measure_of ws else from10 in
      let from8 : Option Command = if word (codes "decrypt") then decrypt_of ws else from9 in
      let from7 : Option Command = if word (codes "run") then run_of ws else from8 in
      let from6 : Option Command = if word (codes "encrypt") then encrypt_of ws else from7 in
      let from5 : Option Command = if word (codes "keys") then keys_of ws else from6 in
      let from4 : Option Command = if word (codes "draw") then draw_of ws else from5 in
      let from3 : Option Command = if word (codes "show") then show_of ws else from4 in
      let from2 : Option Command = if word (codes "compile") then compile_of ws else from3 in
      let e2 = passed (word (codes "plain")) (plain_of ws) from2 (not_plain ws) e in
      let e3 = passed (word (codes "compile")) (compile_of ws) from3 (not_compile ws) e2 in
      let e4 = passed (word (codes "show")) (show_of ws) from4 (not_show ws) e3 in
      let e5 = passed (word (codes "draw")) (draw_of ws) from5 (not_draw ws) e4 in
      let e6 = passed (word (codes "keys")) (keys_of ws) from6 (not_keys ws) e5 in
      let e7 = passed (word (codes "encrypt")) (encrypt_of ws) from7 (not_encrypt ws) e6 in
      let e8 = passed (word (codes "run")) (run_of ws) from8 (not_run ws) e7 in
      let e9 = passed (word (codes "decrypt")) (decrypt_of ws) from9 (not_decrypt ws) e8 in
      let e10 = passed (word (codes "measure")) (measure_of ws) from10 (not_measure ws) e9 in
      either (word (codes "exec")) (word (codes "pair")) (exec_of ws) (pair_of ws) from12 (not_sample (word (codes "sample")) ws) e10
