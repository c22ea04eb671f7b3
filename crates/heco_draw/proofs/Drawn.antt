-- Words drawn one after the other, as a loop draws them.
use Rattle.std.proofs.Common.{◌≡◌, ℕ, ◌+◌, ◌*◌, List, [], ◌∷◌, ◌++◌, sym, ap, subst, ◌∙◌, arith}
use Rattle.std.specs.List.{All}
use Rattle.std.proofs.lemmas.List.Elements.{All-nil, All-push}
use Rattle.heco_nums.specs.Listed.{listed}
use Rattle.heco_nums.proofs.ListedLaws.{listed_none, listed_push}
use Rattle.rand_chacha.specs.ChaCha.{ChaCha, word_at}
use Rattle.heco_draw.specs.Words.{ahead, word}

-- a word of the generator so many words on
pub word_ahead : (g : ChaCha) (k i : ℕ) → word (ahead g k) i ≡ word g (k + i)
unfolding word
word_ahead g k i = let e : g.word_pos + k + i ≡ g.word_pos + (k + i) = omega arith in ap (word_at 10 g.key g.stream) e

pub ahead_none : (g : ChaCha) → g ≡ ahead g 0
ahead_none g = let e : g.word_pos ≡ g.word_pos + 0 = omega arith in ap (λ (n : ℕ). let made : ChaCha = record { key = g.key; stream = g.stream; word_pos = n } in made) e

pub ahead_twice : (g : ChaCha) (j k : ℕ) → ahead (ahead g j) k ≡ ahead g (j + k)
ahead_twice g j k = let e : g.word_pos + j + k ≡ g.word_pos + (j + k) = omega arith in ap (λ (n : ℕ). let made : ChaCha = record { key = g.key; stream = g.stream; word_pos = n } in made) e

-- so many items so far, each within bounds, and the generator behind the words of each
pub record Drawing {A : Type 0} (f : ℕ → A) (P : A → Type 0) (g0 : ChaCha) (step i : ℕ) (out : List A) (g : ChaCha) : Type 0 where
  pub so_far : out ≡ listed i f
  pub place : g ≡ ahead g0 (step * i)
  pub within : All P out

pub drawing_starts : {A : Type 0} (f : ℕ → A) (P : A → Type 0) (g : ChaCha) (step : ℕ) (out : List A) → out ≡ [] → Drawing f P g step 0 out g
drawing_starts f P g step out e =
    let z : 0 ≡ step * 0 = omega arith in
    record { so_far = e ∙ sym (listed_none f); place = ahead_none g ∙ ap (ahead g) z; within = subst (All P) (sym e) (All-nil P) }

pub drawing_goes_on : {A : Type 0} (f : ℕ → A) (P : A → Type 0) (g0 : ChaCha) (step i : ℕ) (out : List A) (g : ChaCha) (x : A) (out2 : List A) (g2 : ChaCha)
    → Drawing f P g0 step i out g → x ≡ f i → P x → g2 ≡ ahead g step → out2 ≡ out ++ x ∷ [] → Drawing f P g0 step (i + 1) out2 g2
drawing_goes_on f P g0 step i out g x out2 g2 d is good moved grown =
    let e : step * i + step ≡ step * (i + 1) = omega arith in
    record {
      so_far = listed_push f i out out2 x d.so_far is grown;
      place = moved ∙ ap (λ (h : ChaCha). ahead h step) d.place ∙ ahead_twice g0 (step * i) step ∙ ap (ahead g0) e;
      within = subst (All P) (sym grown) (All-push P out x d.within good);
    }

-- the words there
pub word_there : (g0 g : ChaCha) (k i : ℕ) → g ≡ ahead g0 k → word g i ≡ word g0 (k + i)
word_there g0 g k i e = ap (λ (h : ChaCha). word h i) e ∙ word_ahead g0 k i

pub place_is : (g0 g : ChaCha) (k : ℕ) → g ≡ ahead g0 k → g.word_pos ≡ g0.word_pos + k
place_is g0 g k e = ap (λ (h : ChaCha). h.word_pos) e
