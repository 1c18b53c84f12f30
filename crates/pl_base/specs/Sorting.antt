-- Lists that are put in order.
use Rattle.std.specs.Prelude.{Bool, List, [], ◌∷◌, if◌then◌else◌}

-- a member put into its place: before the first one that it comes before
abbrev pub put_in_place : {A : Type 0} → (A → A → Bool) → A → List A → List A
put_in_place before x [] = x ∷ []
put_in_place before x (y ∷ ys) =
    if before x y then x ∷ y ∷ ys else y ∷ put_in_place before x ys

-- the members in the order in which each comes before those behind it
abbrev pub sorted_by : {A : Type 0} → (A → A → Bool) → List A → List A
sorted_by before [] = []
sorted_by before (x ∷ xs) = put_in_place before x (sorted_by before xs)
