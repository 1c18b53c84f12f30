-- A part of a list turned by one: one element stands at another place.
use Rattle.std.proofs.Common.{◌≡◌, ◌+◌, ◌-◌, ◌<◌, ◌≤◌, ◌∙◌, ◌++◌, ℕ, List, [], ◌∷◌, ap, append_assoc, arith, drop}
use Rattle.std.proofs.Common.{get_or, length, refl, set, suc, take, zero, nat_lt, subst, true, false}
use Rattle.std.specs.List.{insert, remove}
use Rattle.pl_items.specs.Nodes.{place_then}
use Rattle.std.proofs.lemmas.Bool.{le-ltb, lt-ltb}
use Rattle.std.proofs.lemmas.List.{take-append-le, take_all}
use borrow.Rule.Slice.PartMut.{mid_of, put_mid}

last_of : {X : Type 0} (j : ℕ) (xs : List X) (d : X) → j < length xs → drop j (take (suc j) xs) ≡ get_or xs j d ∷ []
last_of zero [] d within = absurd (omega arith)
last_of zero (x ∷ xs) d within = refl
last_of (suc j) [] d within = absurd (omega arith)
last_of (suc j) (x ∷ xs) d within = last_of j xs d (omega arith)

front_of : {X : Type 0} (j : ℕ) (xs : List X) → take j (take (suc j) xs) ≡ take j xs
front_of zero xs = refl
front_of (suc j) [] = refl
front_of (suc j) (x ∷ xs) = ap (λ ys. x ∷ ys) (front_of j xs)

length_front : {X : Type 0} (j : ℕ) (xs : List X) → j < length xs → length (take (suc j) xs) - 1 ≡ j
length_front zero [] within = absurd (omega arith)
length_front zero (x ∷ xs) within = refl
length_front (suc j) [] within = absurd (omega arith)
length_front (suc j) (x ∷ xs) within = omega (arith, length_of j xs (omega arith))
  where
    length_of : {X : Type 0} (j : ℕ) (xs : List X) → j < length xs → length (take (suc j) xs) ≡ suc j
    length_of zero [] within = absurd (omega arith)
    length_of zero (x ∷ xs) within = refl
    length_of (suc j) [] within = absurd (omega arith)
    length_of (suc j) (x ∷ xs) within = ap suc (length_of j xs (omega arith))

-- the element at `from` goes behind the j elements that follow
pub turned_left : {X : Type 0} (from j : ℕ) (xs ys : List X) (d : X) → from + j < length xs
    → ys ≡ drop 1 (mid_of from (suc j) xs) ++ take 1 (mid_of from (suc j) xs)
    → put_mid from (suc j) xs ys ≡ insert (remove xs from) (from + j) (get_or xs from d)
turned_left from j [] ys d within is = absurd (omega arith)
turned_left zero j (x ∷ xs) ys d within is =
    let first : 0 + j ≡ j = omega arith in
    rw (is, first) (append_assoc (take j xs) (x ∷ []) (drop j xs))
turned_left (suc from) j (x ∷ xs) ys d within is =
    let next : suc from + j ≡ suc (from + j) = omega arith in
    rw next (ap (λ zs. x ∷ zs) (turned_left from j xs ys d (omega arith) is))

-- the element that stands j behind `to` goes to `to`
pub turned_right : {X : Type 0} (to j : ℕ) (xs ys : List X) (d : X) → to + j < length xs
    → ys ≡ drop (length (mid_of to (suc j) xs) - 1) (mid_of to (suc j) xs)
    ++ take (length (mid_of to (suc j) xs) - 1) (mid_of to (suc j) xs)
    → put_mid to (suc j) xs ys ≡ insert (remove xs (to + j)) to (get_or xs (to + j) d)
turned_right to j [] ys d within is = absurd (omega arith)
turned_right zero j (x ∷ xs) ys d within is =
    let first : 0 + j ≡ j = omega arith in
    let inside : j < length (x ∷ xs) = omega arith in
    rw (is, length_front j (x ∷ xs) inside, first, last_of j (x ∷ xs) d inside, front_of j (x ∷ xs)) refl
turned_right (suc to) j (x ∷ xs) ys d within is =
    let next : suc to + j ≡ suc (to + j) = omega arith in
    rw next (ap (λ zs. x ∷ zs) (turned_right to j xs ys d (omega arith) is))

pub remove-set : {X : Type 0} (xs : List X) (k : ℕ) (x : X) → remove (set xs k x) k ≡ remove xs k
remove-set [] k x = refl
remove-set (y ∷ ys) zero x = refl
remove-set (y ∷ ys) (suc k) x = ap (λ zs. y ∷ zs) (remove-set ys k x)

-- ---- the same by the two places

pub turned_on : {X : Type 0} (from before : ℕ) (xs ys : List X) (d : X) → from < before → before ≤ length xs
    → ys ≡ drop 1 (take (before - from) (drop from xs)) ++ take 1 (take (before - from) (drop from xs))
    → put_mid from (before - from) xs ys ≡ insert (remove xs from) (place_then from before) (get_or xs from d)
turned_on from before xs ys d less within is =
    let j : ℕ = before - from - 1 in
    let size : before - from ≡ suc j = omega arith in
    let less_is : nat_lt from before ≡ true = lt-ltb from before less in
    let place : before - 1 ≡ from + j = omega arith in
    rw (less_is, size, place)
    (turned_left from j xs ys d (omega arith)
    (subst (λ k. ys ≡ drop 1 (take k (drop from xs)) ++ take 1 (take k (drop from xs))) size is))

pub turned_back : {X : Type 0} (from before : ℕ) (xs ys : List X) (d : X) → before ≤ from → from < length xs
    → ys ≡ drop (length (take (from + 1 - before) (drop before xs)) - 1) (take (from + 1 - before) (drop before xs))
    ++ take (length (take (from + 1 - before) (drop before xs)) - 1) (take (from + 1 - before) (drop before xs))
    → put_mid before (from + 1 - before) xs ys ≡ insert (remove xs from) (place_then from before) (get_or xs from d)
turned_back from before xs ys d le within is =
    let j : ℕ = from - before in
    let size : from + 1 - before ≡ suc j = omega arith in
    let less_is : nat_lt from before ≡ false = le-ltb from before le in
    let place : before + j ≡ from = omega arith in
    let turned : put_mid before (suc j) xs ys ≡ insert (remove xs (before + j)) before (get_or xs (before + j) d) =
    turned_right before j xs ys d (omega arith)
    (subst (λ k. ys ≡ drop (length (take k (drop before xs)) - 1) (take k (drop before xs))
    ++ take (length (take k (drop before xs)) - 1) (take k (drop before xs))) size is) in
    rw (less_is, size)
    (subst (λ i. put_mid before (suc j) xs ys ≡ insert (remove xs i) before (get_or xs i d)) place turned)

-- a list that was written over whole
pub written_over : {X : Type 0} (len : ℕ) (xs ys : List X) → length ys ≡ len → length xs ≡ len
    → take len (ys ++ drop (length ys) xs) ≡ ys
written_over len xs ys is all =
    take-append-le len ys (drop (length ys) xs) (omega arith) ∙ take_all len ys (omega arith)
