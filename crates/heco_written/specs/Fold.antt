-- The sum of consecutive slots of a vector.
use Rattle.std.specs.Prelude.{ℕ, zero, suc, ◌-◌, ◌^◌, cond, nat_eq, nat_lt}
use Rattle.heco_written.specs.VectorTerm.{VectorTerm, Added, Turned}

-- the sum of 2 ^ b consecutive slots, by doubling
unfoldable pub power : VectorTerm → ℕ → VectorTerm
power v zero = v
power v (suc b) = Added (power v b) (Turned (2 ^ b) (power v b))

-- the fold of a length below 2 ^ (b + 1): the power of its highest bit, and the fold of the rest beside it
unfoldable pub fold_within : VectorTerm → ℕ → ℕ → VectorTerm
fold_within v zero len = v
fold_within v (suc b) len =
    cond (nat_lt len (2 ^ suc b)) (fold_within v b len)
    (cond (nat_eq len (2 ^ suc b)) (power v (suc b))
    (Added (power v (suc b)) (Turned (2 ^ suc b) (fold_within v b (len - 2 ^ suc b)))))

-- the sum of len consecutive slots
unfoldable pub fold : VectorTerm → ℕ → VectorTerm
fold v len = fold_within v len len
