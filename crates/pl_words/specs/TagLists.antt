-- Lists in which each member stands once, as the tags of a page or of a query do.
use Rattle.std.specs.Prelude.{ℕ, ◌&&◌, not, Bool, true, List, [], ◌∷◌, bytes_eq}
use Rattle.std.specs.List.{filter, list_any}
use Rattle.pl_base.specs.Fold.{folded}

-- two tags have the same name: their folds are equal
abbrev pub is_same_tag : List ℕ → List ℕ → Bool
is_same_tag a b = bytes_eq (folded a) (folded b)

-- no member is the same as one behind it
abbrev pub each_once : {A : Type 0} → (A → A → Bool) → List A → Bool
each_once same [] = true
each_once same (x ∷ xs) = not (list_any (same x) xs) && each_once same xs

-- members in their order, each one once: where it stands first
abbrev pub firsts : {A : Type 0} → (A → A → Bool) → List A → List A
firsts same [] = []
firsts same (x ∷ xs) = x ∷ filter (λ y. not (same x y)) (firsts same xs)
