use Rattle.std.proofs.Common.{◌≡◌, ◌^◌, length, arith}
use Rattle.heco_wide.proofs.Shifts.{limbs_of, field_limb, high_limb, limbs_add_up}
use Rattle.heco_wide.proofs.limbs.LimbImages.take.Goals as goal

pub returns-clause-limbs : goal.returns-clause-limbs
returns-clause-limbs c =
    let n = 2 ^ c.args.f.now.depth in
    let w = c.shift_all.new.out in
    let h = c.high_limbs.new.out in
    let long : length w ≡ n = omega (arith, c.shift_all.auto.out) in
    record {
      limbs = limbs_of w h;
      images = record {
        low = c.image_of_bits.ensures.image;
        middle = c.image_of_bits-2.ensures.image;
        high = c.image_of_integers.ensures.image;
        low_small = field_limb 0 n w long;
        middle_small = field_limb 19 n w long;
        high_small = high_limb n w h (λ k l. c.shift_all.ensures.below k (omega arith)) (λ k l. c.high_limbs.ensures k (omega arith));
      };
      add_up = limbs_add_up n c.args.c.now w h long (λ k l. c.shift_all.ensures.value k (omega arith)) (λ k l. c.high_limbs.ensures k (omega arith));
    }
