-- Decryption after encryption.
use Prim.Native.Nat.{ℕ, ◌+◌, ◌-◌, ◌*◌, ◌/◌, ◌^◌, ◌<◌, ◌≤◌}
use native.Mathlib.Omega.{arith}
use native.Mathlib.Nat.{mul-le-mul}
use mathlib.Core.Path.{◌≡◌, refl, ap, ◌∙◌}
use mathlib.Core.List.{List}
use lib.IntN.{ℤ}
use lib.ListN.{length}
use Rattle.std.specs.Prelude.{All}
use Rattle.heco_nums.specs.declared.preset.Preset.{Preset}
use Rattle.heco_nums.proofs.PresetFacts.{facts}
use Rattle.heco_noise.specs.Rows as row
use Rattle.heco_slots.specs.Slots.{decoded, encoded}
use Rattle.heco_slots.proofs.PresetSlots.{decoded_encoded}
use Rattle.heco_nums.specs.MaterialBounds.{AreErrors, IsSparse}
use Rattle.heco_scheme.specs.Encryption.{decrypted, encrypted}
use Rattle.heco_scheme.specs.Keys.{key_part, IsPublicKey}
use Rattle.heco_scheme.proofs.FreshNoise.{encrypted_noise, decrypted_is}
use Rattle.heco_keys.proofs.MadeRows.{made_public}
use Rattle.heco_bfv.proofs.PhaseSteps.{decoded_reduced}

small_enough : (t b h x y : ℕ) → t ≤ 65537 → x ≡ t * b → y ≡ x * (2 * h + 1) → x ≤ 65537 * 4 → y ≤ 65537 * 4 * 17 → 2 * ((t - 1) / 2 + y) < 2 ^ 58
small_enough t b h x y tb ex ey a c = omega arith

-- the bound of a fresh encryption doesn't pass
quiet : (t b h : ℕ) → t ≤ 65537 → b ≤ 4 → h ≤ 8 → row.IsQuiet (row.fresh t h b)
quiet t b h tb bb hb =
    let a : t * b ≤ 65537 * 4 = mul-le-mul tb bb in
    let w : 2 * h + 1 ≤ 17 = omega arith in
    let c : t * b * (2 * h + 1) ≤ 65537 * 4 * 17 = mul-le-mul a w in
    small_enough t b h (t * b) (t * b * (2 * h + 1)) tb refl refl a c

pub fresh_quiet : (p : Preset) → row.IsQuiet (row.fresh p.t p.h p.b)
fresh_quiet p = quiet p.t p.b p.h (facts p).t_small (facts p).b_small (facts p).h_small

pub decrypted_encrypted : (p : Preset) (s : List ℤ) (p0 p1 : List ℕ) (u e1 e2 : List ℤ) (v : List ℕ) → IsSparse p.n p.h s → IsPublicKey p.n p.b s p0 p1 → IsSparse p.n p.h u → AreErrors p.n p.b e1 → AreErrors p.n p.b e2 → length v ≡ p.slots → All (λ x. x < p.t) v →
    decoded p (decrypted p s (encrypted p p0 p1 u e1 e2 (encoded p v))) ≡ v
decrypted_encrypted p s p0 p1 u e1 e2 v hs hp hu h1 h2 l b =
    ap (decoded p) (decrypted_is p s (encrypted p p0 p1 u e1 e2 (encoded p v)) (encoded p v) (row.fresh p.t p.h p.b) (fresh_quiet p) (encrypted_noise p s p0 p1 u e1 e2 (encoded p v) hs hp hu h1 h2))
    ∙ decoded_reduced p (encoded p v) ∙ decoded_encoded p v l b

-- with the keys that are made from material
pub decrypted_made_keys : (p ep sp : Preset) (s places e u e1 e2 : List ℤ) (a p0 p1 v : List ℕ) (c : List (List ℕ)) → ep ≡ p → sp ≡ p → places ≡ s → p0 ≡ key_part p.n s a e → p1 ≡ a → c ≡ encrypted ep p0 p1 u e1 e2 (encoded ep v) →
    IsSparse p.n p.h s → AreErrors p.n p.b e → IsSparse p.n p.h u → AreErrors p.n p.b e1 → AreErrors p.n p.b e2 → length v ≡ p.slots → All (λ x. x < p.t) v → decoded sp (decrypted sp places c) ≡ v
decrypted_made_keys p ep sp s places e u e1 e2 a p0 p1 v c ep_is sp_is s_is p0_is p1_is c_is hs he hu h1 h2 l b =
    rw (sp_is, s_is, c_is, ep_is, p0_is, p1_is) (decrypted_encrypted p s (key_part p.n s a e) a u e1 e2 v hs (made_public p.n p.b s e a he) hu h1 h2 l b)
