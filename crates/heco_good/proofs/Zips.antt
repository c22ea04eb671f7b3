-- Lists that agree place by place.
use Rattle.std.proofs.Common.{List, [], ◌∷◌}
use Rattle.std.specs.List.{AllZip}

-- what two relations of the same list give, place by place
pub zip_through : {X Y Z : Type 0} (P : X → Y → Type 0) (Q : X → Z → Type 0) (R : Y → Z → Type 0) → ((x : X) (y : Y) (z : Z) → P x y → Q x z → R y z)
    → (xs : List X) (ys : List Y) (zs : List Z) → AllZip P xs ys → AllZip Q xs zs → AllZip R ys zs
zip_through P Q R f [] [] [] p q = tt
zip_through P Q R f [] [] (z ∷ zs) p q = absurd q
zip_through P Q R f [] (y ∷ ys) zs p q = absurd p
zip_through P Q R f (x ∷ xs) [] zs p q = absurd p
zip_through P Q R f (x ∷ xs) (y ∷ ys) [] p q = absurd q
zip_through P Q R f (x ∷ xs) (y ∷ ys) (z ∷ zs) p q = (f x y z p.0 q.0, zip_through P Q R f xs ys zs p.1 q.1)
