use Rattle.std.proofs.Common.{◌≡◌, ◌*◌, ◌%◌, ◌+◌, ◌^◌, ℕ, sym, ap, ◌∙◌, add-one}
use Rattle.std.proofs.Math.Nat.{pow-suc}
use Rattle.std.proofs.lemmas.Nat.{mul-mod_first}
use Rattle.heco_keys.proofs.sources.exponent.Goals as goal

next : (i m : ℕ) → 3 ^ i % m * 3 % m ≡ 3 ^ (i + 1) % m
next i m = mul-mod_first (3 ^ i) 3 m ∙ ap (λ x. x % m) (rw add-one (sym (pow-suc 3 i)))

pub loop-preserved : goal.loop-preserved
loop-preserved c = ap (λ x. x * 3 % (2 * c.args.p.now.n)) c.loop.invariant ∙ next c.loop.counter (2 * c.args.p.now.n)
