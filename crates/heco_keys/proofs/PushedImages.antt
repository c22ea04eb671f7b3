-- One item more, where each item of a list has a property of its place.
use Rattle.std.proofs.Common.{◌≡◌, ℕ, ◌+◌, ◌<◌, List, [], ◌∷◌, ◌++◌, length, get_or, arith, sym, ap, ◌∙◌}
use mathlib.Core.Logic.{inl, inr}
use Rattle.std.proofs.lemmas.Bool.{cases_lt}
use Rattle.std.proofs.lemmas.List.{length-append, get_or_append_left}
use Rattle.std.proofs.Math.Seq.{get_or-append_seam}
use Rattle.std.proofs.lemmas.Option.{get_or_from_slice_get, slice_get_within, slice_get-get_or}
use Rattle.std.specs.Prelude.{Some, slice_get}

pub pushed_each : {A : Type 0} (P : ℕ → A → Type 0) (n : ℕ) (xs ys : List A) (y : A) → length xs ≡ n → ys ≡ xs ++ y ∷ [] → ((i : ℕ) (x : A) → slice_get xs i ≡ Some x → P i x) → P n y → (i : ℕ) (x : A) → slice_get ys i ≡ Some x → P i x
pushed_each P n xs ys y long grown each last i x e =
    let within : i < length ys = slice_get_within ys i x e in
    let more : length ys ≡ length xs + 1 = ap length grown ∙ length-append xs (y ∷ []) in
    let read : get_or (xs ++ y ∷ []) i x ≡ x = ap (λ zs. get_or zs i x) (sym grown) ∙ get_or_from_slice_get ys i x x e in
    elim (cases_lt i (length xs)) [
      | inl lt ↦ each i x (slice_get-get_or xs i x lt ∙ ap Some (sym (get_or_append_left xs (y ∷ []) x i lt) ∙ read))
      | inr ge ↦ (let here : i ≡ n = omega (arith, long) in
          let z : x ≡ y = sym read ∙ ap (λ j. get_or (xs ++ y ∷ []) j x) (here ∙ sym long) ∙ get_or-append_seam xs y [] x in
          rw (here, z) last)
    ]
