-- Parts of lists that are the same in another list.
use Rattle.std.proofs.Common.{◌≡◌, ℕ, ◌+◌, ◌-◌, ◌≤◌, List, take, drop, slice_index, slice_range, sym, ◌∙◌, ap, arith}
use Rattle.std.proofs.lemmas.List.{take-take, drop-drop, drop-take, get_or-take}

-- a part that lies in a front
pub range_of_front : (xs : List ℕ) (a b m : ℕ) → a ≤ b → b ≤ m → slice_range (take m xs) a b ≡ slice_range xs a b
range_of_front xs a b m ab bm =
    let whole : a + (m - a) ≡ m = omega (arith, ab, bm) in
    ap (λ (n : ℕ). take (b - a) (drop a (take n xs))) (sym whole)
    ∙ ap (take (b - a)) (drop-take a (m - a) xs)
    ∙ take-take (b - a) (m - a) (drop a xs) (omega (arith, ab, bm))

pub same_in_front : (xs ys : List ℕ) (a b m : ℕ) → a ≤ b → b ≤ m → take m ys ≡ take m xs
    → slice_range ys a b ≡ slice_range xs a b
same_in_front xs ys a b m ab bm same =
    sym (range_of_front ys a b m ab bm) ∙ ap (λ (l : List ℕ). slice_range l a b) same ∙ range_of_front xs a b m ab bm

-- a part that lies in a back
pub drop_further : (xs ys : List ℕ) (n a : ℕ) → n ≤ a → drop n ys ≡ drop n xs → drop a ys ≡ drop a xs
drop_further xs ys n a le same =
    let more : n + (a - n) ≡ a = omega (arith, le) in
    ap (λ (k : ℕ). drop k ys) (sym more) ∙ sym (drop-drop (a - n) n ys) ∙ ap (drop (a - n)) same
    ∙ drop-drop (a - n) n xs ∙ ap (λ (k : ℕ). drop k xs) more

pub same_in_back : (xs ys : List ℕ) (a b n : ℕ) → n ≤ a → drop n ys ≡ drop n xs
    → slice_range ys a b ≡ slice_range xs a b
same_in_back xs ys a b n le same = ap (take (b - a)) (drop_further xs ys n a le same)

pub take_shorter : (xs ys : List ℕ) (m n : ℕ) → m ≤ n → take n ys ≡ take n xs → take m ys ≡ take m xs
take_shorter xs ys m n le same = sym (take-take m n ys le) ∙ ap (take m) same ∙ take-take m n xs le

pub first_same : (xs ys : List ℕ) (m : ℕ) → 1 ≤ m → take m ys ≡ take m xs → slice_index ys 0 ≡ slice_index xs 0
first_same xs ys m le same =
    sym (get_or-take m ys 0 0 le) ∙ ap (λ (l : List ℕ). slice_index l 0) same ∙ get_or-take m xs 0 0 le

-- what lies behind the first bytes, up to a length
pub inside_same : (xs ys : List ℕ) (a n m : ℕ) → a + n ≤ m → take m ys ≡ take m xs
    → take n (drop a ys) ≡ take n (drop a xs)
inside_same xs ys a n m le same =
    sym (drop-take a n ys) ∙ ap (drop a) (take_shorter xs ys (a + n) m le same) ∙ drop-take a n xs
