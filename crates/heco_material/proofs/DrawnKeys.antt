-- Parts that are drawn one after the other.
use Rattle.std.proofs.Common.{◌≡◌, ℕ, ◌+◌, ◌*◌, List, refl, ap, ◌∙◌, arith}
use Rattle.std.specs.Prelude.{ℤ}
use Rattle.rand_chacha.specs.ChaCha.{ChaCha}
use Rattle.heco_draw.specs.Words.{ahead, start, sparse, long_words, errors}
use Rattle.heco_draw.proofs.Drawn.{ahead_twice}
use Rattle.heco_material.specs.declared.words.SwitchWords.{SwitchWords}
use Rattle.heco_material.specs.KeyLists.{key_lists}
use Rattle.heco_material.specs.Drawn.{drawn_keys, drawn_switches}

pub begins : (seed stream : ℕ) (g : ChaCha) → g ≡ start seed stream → g.word_pos ≡ 0
unfolding start
begins seed stream g e = ap (λ (h : ChaCha). h.word_pos) e

pub lists_drawn : (g0 g1 g2 g3 : ChaCha) (n h b count : ℕ) (s : List ℤ) (a : List ℕ) (e : List ℤ) (ws : List SwitchWords) → s ≡ sparse g0 n h → g1 ≡ ahead g0 h → a ≡ long_words g1 n → g2 ≡ ahead g1 (2 * n) → e ≡ errors g2 n b → g3 ≡ ahead g2 n
    → ws ≡ drawn_switches g3 n b count → key_lists s a e ws ≡ drawn_keys g0 n h b count
unfolding drawn_keys
lists_drawn g0 g1 g2 g3 n h b count s a e ws s_is one a_is two e_is three ws_is =
    let second : g2 ≡ ahead g0 (h + 2 * n) = two ∙ ap (λ (g : ChaCha). ahead g (2 * n)) one ∙ ahead_twice g0 h (2 * n) in
    let sum : h + 2 * n + n ≡ h + 3 * n = omega arith in
    let third : g3 ≡ ahead g0 (h + 3 * n) = three ∙ ap (λ (g : ChaCha). ahead g n) second ∙ ahead_twice g0 (h + 2 * n) n ∙ ap (ahead g0) sum in
    let a2 : a ≡ long_words (ahead g0 h) n = a_is ∙ ap (λ (g : ChaCha). long_words g n) one in
    let e2 : e ≡ errors (ahead g0 (h + 2 * n)) n b = e_is ∙ ap (λ (g : ChaCha). errors g n b) second in
    let w2 : ws ≡ drawn_switches (ahead g0 (h + 3 * n)) n b count = ws_is ∙ ap (λ (g : ChaCha). drawn_switches g n b count) third in
    rw (s_is, a2, e2, w2) refl
