-- Two lists of which each pair is related, where one of the first has no other.
use Rattle.std.proofs.Common.{◌≡◌, ◌∙◌, ◌+◌, ◌<◌, ◌∷◌, ◌++◌, [], ℕ, zero, suc, List, Option, Some, None, ap, arith}
use Rattle.std.proofs.Common.{get_or, length, map, refl, subst, sym, take}
use Rattle.std.proofs.lemmas.List.{map-append, take_more}
use Rattle.std.specs.List.{AllZip, zip}

-- nothing is related to one of the first list
pub zip_none : {X Y : Type 0} (R : X → Y → Type 0) (xs : List X) (ys : List Y) (k : ℕ) (x : X) → k < length xs
    → x ≡ get_or xs k x → ((y : Y) → R x y → ⊥) → AllZip R xs ys → ⊥
zip_none R [] ys k x within at none zip = omega arith
zip_none R (v ∷ xs) [] k x within at none zip = absurd zip
zip_none {X} R (v ∷ xs) (w ∷ ys) zero x within at none zip = none w (subst (λ (z : X). R z w) (sym at) zip.0)
zip_none R (v ∷ xs) (w ∷ ys) (suc k) x within at none zip =
    zip_none R xs ys k x (omega arith) at none zip.1

-- ---- answers, of which each is some

pub some_more : {X Y : Type 0} (f : X → Option Y) (xs : List X) (ys : List Y) (k : ℕ) (x : X) (y : Y) → k < length xs
    → x ≡ get_or xs k x → map f (take k xs) ≡ map Some ys → f x ≡ Some y
    → map f (take (k + 1) xs) ≡ map Some (ys ++ y ∷ [])
some_more f xs ys k x y within at so_far here =
    ap (map f) (take_more xs k x within ∙ ap (λ z. take k xs ++ z ∷ []) (sym at))
    ∙ map-append f (take k xs) (x ∷ [])
    ∙ (λ i. so_far i ++ here i ∷ [])
    ∙ sym (map-append Some ys (y ∷ []))

pub some_none : {X Y : Type 0} (f : X → Option Y) (xs : List X) (ys : List Y) (k : ℕ) (x : X) → k < length xs
    → x ≡ get_or xs k x → f x ≡ None → map f xs ≡ map Some ys → ⊥
some_none f [] ys k x within at none same = omega arith
some_none f (v ∷ xs) [] k x within at none same = absurd (cc)
some_none f (v ∷ xs) (w ∷ ys) zero x within at none same =
    let head : f v ≡ Some w = cc in
    let here : f v ≡ None = ap f (sym at) ∙ none in
    absurd (cc)
some_none f (v ∷ xs) (w ∷ ys) (suc k) x within at none same =
    let tail : map f xs ≡ map Some ys = cc in
    some_none f xs ys k x (omega arith) at none tail

-- ---- pairs by place

pub paired_at : {X Y Z : Type 0} (f : Y → Z) (xs : List X) (ys : List Y) (k : ℕ) (x : X) (y : Y) → k < length xs
    → length xs ≡ length ys → x ≡ get_or xs k x → y ≡ get_or ys k y
    → (x, f y) ≡ get_or (zip xs (map f ys)) k (x, f y)
paired_at f [] ys k x y within long at_x at_y = absurd (omega arith)
paired_at f (v ∷ xs) [] k x y within long at_x at_y = absurd (omega arith)
paired_at f (v ∷ xs) (w ∷ ys) zero x y within long at_x at_y = λ i. (at_x i, f (at_y i))
paired_at f (v ∷ xs) (w ∷ ys) (suc k) x y within long at_x at_y =
    paired_at f xs ys k x y (omega arith) (omega (arith, long)) at_x at_y

pub paired_long : {X Y Z : Type 0} (f : Y → Z) (xs : List X) (ys : List Y) → length xs ≡ length ys
    → length (zip xs (map f ys)) ≡ length xs
paired_long f [] ys long = refl
paired_long f (v ∷ xs) [] long = absurd (omega (arith, long))
paired_long f (v ∷ xs) (w ∷ ys) long = ap suc (paired_long f xs ys (omega (arith, long)))
