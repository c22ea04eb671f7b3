-- Fresh inputs decrypt to their messages, so what is measured keeps to its bounds.
use Rattle.std.proofs.Common.{◌≡◌, ◌∙◌, ℕ, ◌<◌, List, [], ◌∷◌, length, map, get_or, refl, sym, ap, ap₂, subst, arith, mod-eq_of_lt}
use Rattle.std.specs.Prelude.{All}
use Rattle.std.specs.List.{AllZip}
use Rattle.std.proofs.lemmas.List.Elements.{All-head, All-tail}
use Rattle.std.proofs.lemmas.List.FromFn.{get_or-map-range_with_len, length-map-range_with_len}
use lib.IntN.{ℤ}
use Rattle.heco_nums.specs.declared.preset.Preset.{Preset}
use Rattle.heco_nums.proofs.PresetFacts.{facts}
use Rattle.heco_noise.specs.Rows as row
use Rattle.heco_ring.specs.Remainders.{rem}
use Rattle.heco_ring.specs.Ring.{wholes}
use Rattle.heco_ring.specs.Slots.{encode, encode_at}
use Rattle.heco_ring.proofs.Reduced.{filled}
use Rattle.heco_ring.proofs.Remainders.{rem-lt, rem_nat}
use Rattle.heco_ring.proofs.Wrapping.{at-wholes}
use Rattle.heco_circuit.specs.Bounds.{weights_of, wire_bounds}
use Rattle.heco_circuit.specs.Plans.{wire_parts}
use Rattle.heco_slots.specs.Rows.{encoded_two, encoded_two_at}
use Rattle.heco_scheme.specs.Encryption.{decrypted}
use Rattle.heco_scheme.proofs.FreshNoise.{decrypted_is}
use Rattle.heco_slots.specs.Slots.{encoded}
use Rattle.heco_run_laws.specs.Runs.{Ciphertext, run_of}
use Rattle.heco_run_laws.specs.Messages.{messages_along}
use Rattle.heco_run_laws.specs.Carried.{AllKeep, IsFreshFor}
use Rattle.heco_run_laws.specs.Measured.{IsMessage, measured_messages, MeasuredNoisesKeepToTheirBounds, EncodingsAreMessages}
use Rattle.heco_run_laws.proofs.Wires.{circuit_keeps, fresh_quiet}

module _ (p : Preset) (s : List ℤ) where
  quiet : row.IsQuiet (row.fresh p.t p.h p.b)
  quiet = fresh_quiet p.t p.b p.h (facts p).t_small (facts p).b_small (facts p).h_small

  decrypted_back : (messages : List (List ℕ)) (inputs : List Ciphertext) → AllZip (IsFreshFor p s) messages inputs → All (IsMessage p) messages → map (decrypted p s) inputs ≡ messages
  decrypted_back [] [] h are = refl
  decrypted_back [] (c ∷ inputs) h are = absurd h
  decrypted_back (m ∷ messages) [] h are = absurd h
  decrypted_back (m ∷ messages) (c ∷ inputs) h are =
      ap₂ (λ x xs. x ∷ xs) (decrypted_is p s c m (row.fresh p.t p.h p.b) quiet h.0.noise ∙ All-head (IsMessage p) m messages are)
      (decrypted_back messages inputs h.1 (All-tail (IsMessage p) m messages are))

pub measured_keeps : MeasuredNoisesKeepToTheirBounds
unfolding measured_messages
measured_keeps p s keys c messages inputs id valid sparse have many fresh are =
    let back : map (decrypted p s) inputs ≡ messages = decrypted_back p s messages inputs fresh are in (
      back,
      subst (λ ms. AllKeep p s (wire_parts c) (wire_bounds c.preset (weights_of c.preset c.vectors) c.inputs c.gates) (messages_along p c ms) (run_of p keys c inputs)) (sym back)
          (circuit_keeps p s keys c messages inputs id valid sparse have many fresh),
    )

-- n numbers below t are their own remainders
own : (p : Preset) (m : List ℕ) → length m ≡ p.n → ((k : ℕ) → k < p.n → get_or m k 0 < p.t) → IsMessage p m
own p m long below = sym (filled p.t p.n (wholes m) m long (λ k h. sym (ap (rem p.t) (at-wholes m k) ∙ rem_nat p.t (get_or m k 0) ∙ mod-eq_of_lt (below k h))))

one_row : (p : Preset) (v : List ℕ) → IsMessage p (encoded p v)
unfolding encoded encode encode_at
one_row p v =
    let f : ℕ → ℕ = encode_at p.n p.t p.zeta p.ninv p.slots v in
    own p (encoded p v) (length-map-range_with_len f 0 p.n) (λ k h. rw (get_or-map-range_with_len f 0 p.n k k 0 h (omega arith)) (rem-lt p.t _ (facts p).t_pos))

two_rows : (p : Preset) (v w : List ℕ) → IsMessage p (encoded_two p v w)
unfolding encoded_two encoded_two_at
two_rows p v w =
    let f : ℕ → ℕ = encoded_two_at p v w in
    own p (encoded_two p v w) (length-map-range_with_len f 0 p.n) (λ k h. rw (get_or-map-range_with_len f 0 p.n k k 0 h (omega arith)) (rem-lt p.t _ (facts p).t_pos))

pub encodings : EncodingsAreMessages
encodings p v w = (one_row p v, two_rows p v w)
