use Rattle.std.proofs.Common.{◌≡◌, ◌^◌, ◌∙◌, length}
use Rattle.heco_nums.proofs.PresetFacts.{facts}
use Rattle.heco_scheme.specs.Rounding.{centred}
use Rattle.heco_wide.proofs.Products.{some_limbs, Words, product_fits, sum_fits, rounded_product, rounded_sum}
use Rattle.heco_wide.proofs.multiplier.Multiplier.product.Goals as goal

pub round_all-requires-clause-small : goal.round_all-requires-clause-small
round_all-requires-clause-small c =
    let n = c.args.self.now.preset.n in
    let d : 2 ^ c.args.self.now.transform.depth ≡ n = c.args.self.now.degree in
    let w1 : Words n c.args.c0.now = record { long = c.requires.c0; below = c.as_slice.ensures.below } in
    let w3 : Words n c.args.d0.now = record { long = c.requires.d0; below = c.as_slice-3.ensures.below } in
    let h1 = rw (d, c.as_slice.ensures.value) at c.take.ensures.limbs in
    let h3 = rw (d, c.as_slice-3.ensures.value) at c.take-3.ensures.limbs in
    let v = rw d at (c.multiply.ensures.value _ _ h1 h3) in
    let x = c.multiply.new.room.wide.items in
    let e : length x ≡ n = c.multiply.ensures.room.wide ∙ d in
    rw (c.as_slice-5.ensures.value) (product_fits n c.args.c0.now c.args.d0.now x (facts c.args.self.now.preset).n_small w1 w3 e v)

pub round_all-requires-2-clause-small : goal.round_all-requires-2-clause-small
round_all-requires-2-clause-small c =
    let n = c.args.self.now.preset.n in
    let d : 2 ^ c.args.self.now.transform.depth ≡ n = c.args.self.now.degree in
    let w2 : Words n c.args.c1.now = record { long = c.requires.c1; below = c.as_slice-2.ensures.below } in
    let w4 : Words n c.args.d1.now = record { long = c.requires.d1; below = c.as_slice-4.ensures.below } in
    let h2 = rw (d, c.as_slice-2.ensures.value) at c.take-2.ensures.limbs in
    let h4 = rw (d, c.as_slice-4.ensures.value) at c.take-4.ensures.limbs in
    let v = rw d at (c.multiply-2.ensures.value _ _ h2 h4) in
    let x = c.multiply-2.new.room.wide.items in
    let e : length x ≡ n = c.multiply-2.ensures.room.wide ∙ d in
    rw (c.as_slice-6.ensures.value) (product_fits n c.args.c1.now c.args.d1.now x (facts c.args.self.now.preset).n_small w2 w4 e v)

pub round_all-requires-3-clause-small : goal.round_all-requires-3-clause-small
round_all-requires-3-clause-small c =
    let n = c.args.self.now.preset.n in
    let d : 2 ^ c.args.self.now.transform.depth ≡ n = c.args.self.now.degree in
    let w1 : Words n c.args.c0.now = record { long = c.requires.c0; below = c.as_slice.ensures.below } in
    let w4 : Words n c.args.d1.now = record { long = c.requires.d1; below = c.as_slice-4.ensures.below } in
    let w2 : Words n c.args.c1.now = record { long = c.requires.c1; below = c.as_slice-2.ensures.below } in
    let w3 : Words n c.args.d0.now = record { long = c.requires.d0; below = c.as_slice-3.ensures.below } in
    let h1 = rw (d, c.as_slice.ensures.value) at c.take.ensures.limbs in
    let h4 = rw (d, c.as_slice-4.ensures.value) at c.take-4.ensures.limbs in
    let h2 = rw (d, c.as_slice-2.ensures.value) at c.take-2.ensures.limbs in
    let h3 = rw (d, c.as_slice-3.ensures.value) at c.take-3.ensures.limbs in
    let v = rw d at (c.multiply_both.ensures.value _ _ _ _ h1 h4 h2 h3) in
    let x = c.multiply_both.new.room.wide.items in
    let e : length x ≡ n = c.multiply_both.ensures.room.wide ∙ d in
    rw (c.as_slice-7.ensures.value) (sum_fits n c.args.c0.now c.args.d1.now c.args.c1.now c.args.d0.now x (facts c.args.self.now.preset).n_small w1 w4 w2 w3 e v)

pub multiply-requires-2-clause-x : goal.multiply-requires-2-clause-x
multiply-requires-2-clause-x c = some_limbs _ _ c.take-2.new.self c.take-2.ensures.limbs

pub multiply_both-requires-clause-x : goal.multiply_both-requires-clause-x
multiply_both-requires-clause-x c = some_limbs _ _ c.take.new.self c.take.ensures.limbs

pub multiply_both-requires-clause-y : goal.multiply_both-requires-clause-y
multiply_both-requires-clause-y c = some_limbs _ _ c.take-2.new.self c.take-2.ensures.limbs

pub multiply_both-requires-clause-z : goal.multiply_both-requires-clause-z
multiply_both-requires-clause-z c = some_limbs _ _ c.take-3.new.self c.take-3.ensures.limbs

pub round_all-requires-2-clause-t_small : goal.round_all-requires-2-clause-t_small
round_all-requires-2-clause-t_small c = (facts c.args.self.now.preset).t_small

pub round_all-requires-3-clause-t_small : goal.round_all-requires-3-clause-t_small
round_all-requires-3-clause-t_small c = (facts c.args.self.now.preset).t_small

pub returns-clause-first : goal.returns-clause-first
returns-clause-first c =
    let n = c.args.self.now.preset.n in
    let d : 2 ^ c.args.self.now.transform.depth ≡ n = c.args.self.now.degree in
    let h1 = rw (d, c.as_slice.ensures.value) at c.take.ensures.limbs in
    let h3 = rw (d, c.as_slice-3.ensures.value) at c.take-3.ensures.limbs in
    let v = rw d at (c.multiply.ensures.value _ _ h1 h3) in
    let x = c.multiply.new.room.wide.items in
    let e : length x ≡ n = c.multiply.ensures.room.wide ∙ d in
    rounded_product n c.args.self.now.preset.t (centred n c.args.c0.now) (centred n c.args.d0.now) x c.round_all.new.out e (rw (c.as_slice-5.ensures.value) at c.round_all.ensures.value) v

pub returns-clause-second : goal.returns-clause-second
returns-clause-second c =
    let n = c.args.self.now.preset.n in
    let d : 2 ^ c.args.self.now.transform.depth ≡ n = c.args.self.now.degree in
    let h1 = rw (d, c.as_slice.ensures.value) at c.take.ensures.limbs in
    let h4 = rw (d, c.as_slice-4.ensures.value) at c.take-4.ensures.limbs in
    let h2 = rw (d, c.as_slice-2.ensures.value) at c.take-2.ensures.limbs in
    let h3 = rw (d, c.as_slice-3.ensures.value) at c.take-3.ensures.limbs in
    let v = rw d at (c.multiply_both.ensures.value _ _ _ _ h1 h4 h2 h3) in
    let x = c.multiply_both.new.room.wide.items in
    let e : length x ≡ n = c.multiply_both.ensures.room.wide ∙ d in
    rounded_sum n c.args.self.now.preset.t (centred n c.args.c0.now) (centred n c.args.d1.now) (centred n c.args.c1.now) (centred n c.args.d0.now) x c.round_all-3.new.out e (rw (c.as_slice-7.ensures.value) at c.round_all-3.ensures.value) v

pub returns-clause-third : goal.returns-clause-third
returns-clause-third c =
    let n = c.args.self.now.preset.n in
    let d : 2 ^ c.args.self.now.transform.depth ≡ n = c.args.self.now.degree in
    let h2 = rw (d, c.as_slice-2.ensures.value) at c.take-2.ensures.limbs in
    let h4 = rw (d, c.as_slice-4.ensures.value) at c.take-4.ensures.limbs in
    let v = rw d at (c.multiply-2.ensures.value _ _ h2 h4) in
    let x = c.multiply-2.new.room.wide.items in
    let e : length x ≡ n = c.multiply-2.ensures.room.wide ∙ d in
    rounded_product n c.args.self.now.preset.t (centred n c.args.c1.now) (centred n c.args.d1.now) x c.round_all-2.new.out e (rw (c.as_slice-6.ensures.value) at c.round_all-2.ensures.value) v
