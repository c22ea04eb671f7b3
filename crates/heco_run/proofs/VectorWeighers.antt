-- The polynomials that plain vectors weigh by: one for each vector, of n places.
use Rattle.std.proofs.Common.{◌≡◌, ◌∙◌, ℕ, ◌<◌, List, [], ◌∷◌, length, get_or, sym, ap, subst, arith}
use Rattle.std.specs.Prelude.{All}
use Rattle.std.proofs.lemmas.List.{get_or-map, get_or_default, length-map}
use Rattle.std.proofs.lemmas.List.Elements.{All-nil, All-cons}
use Rattle.heco_nums.specs.declared.preset.Preset.{Preset}
use Rattle.heco_bfv.proofs.Weighers.{weigher_long}
use Rattle.heco_circuit.specs.declared.gate.Gate.{Gate}
use Rattle.heco_scheme.specs.Gates.{weigher_words}
use Rattle.heco_run.specs.Making.{HasVector, weighers_of}

each_long : (p : Preset) (vectors : List (List ℕ)) → All (λ m. length m ≡ p.n) (weighers_of p vectors)
each_long p [] = All-nil (λ (m : List ℕ). length m ≡ p.n)
each_long p (v ∷ vectors) = All-cons (λ (m : List ℕ). length m ≡ p.n) (weigher_words p v) (weighers_of p vectors) (weigher_long p v) (each_long p vectors)

module _ (p : Preset) (weighers vectors : List (List ℕ)) (same : weighers ≡ weighers_of p vectors) where
  pub weighers_long : All (λ m. length m ≡ p.n) weighers
  weighers_long = subst (λ ws. All (λ (m : List ℕ). length m ≡ p.n) ws) (sym same) (each_long p vectors)

  as_many : length weighers ≡ length vectors
  as_many = ap length same ∙ length-map vectors (weigher_words p)

  pub vector_there : (g : Gate) → HasVector (length vectors) g → HasVector (length weighers) g
  vector_there g h = subst (λ n. HasVector n g) (sym as_many) h

  -- what stands at the number of a vector is its polynomial
  pub weigher_at : (v : ℕ) (m : List ℕ) → v < length weighers → m ≡ get_or weighers v m → m ≡ weigher_words p (get_or vectors v [])
  weigher_at v m h read =
      let inside : v < length vectors = omega (arith, as_many, h) in
      read ∙ get_or_default weighers v m [] h ∙ ap (λ (ws : List (List ℕ)). get_or ws v []) same ∙ get_or-map (weigher_words p) vectors v [] [] inside
