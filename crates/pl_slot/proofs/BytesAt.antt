-- Parts of bytes of which some were overwritten.
use Rattle.std.proofs.Common.{◌≡◌, ◌∙◌, ◌+◌, ◌-◌, ◌≤◌, ◌++◌, ℕ, List, ap, append_assoc, arith, drop, length, sym, take}
use Rattle.std.proofs.Math.Seq.{drop-append_seam, take-append-add, take-append_seam}
use Rattle.std.proofs.lemmas.List.{drop-append-le, drop-drop, drop-take, length-append, length-drop, length-take-le}
use Rattle.std.proofs.lemmas.List.{take-take}
use Rattle.pl_sheets.specs.Sheets.{bytes_at, overwritten}

-- a part of a part
pub part_of_part : (p c q n : ℕ) (bytes : List ℕ) → p + c ≤ n
    → bytes_at p c (bytes_at q n bytes) ≡ bytes_at (q + p) c bytes
part_of_part p c q n bytes within =
    let whole : p + (n - p) ≡ n = omega arith in
    ap (λ k. take c (drop p (take k (drop q bytes)))) (sym whole)
    ∙ ap (take c) (drop-take p (n - p) (drop q bytes))
    ∙ take-take c (n - p) (drop p (drop q bytes)) (omega arith)
    ∙ ap (take c) (drop-drop p q bytes)

-- ---- where bytes were overwritten

pub from_place : (place : ℕ) (new bytes : List ℕ) → place ≤ length bytes
    → drop place (overwritten place new bytes) ≡ new ++ drop (place + length new) bytes
from_place place new bytes there =
    let front : List ℕ = take place bytes in
    let rest : List ℕ = drop (place + length new) bytes in
    let long : length front ≡ place = length-take-le place bytes there in
    ap (drop place) (append_assoc front new rest)
    ∙ ap (λ n. drop n (front ++ (new ++ rest))) (sym long)
    ∙ drop-append_seam front (new ++ rest)

pub in_front : (place : ℕ) (new bytes : List ℕ) → place ≤ length bytes
    → take place (overwritten place new bytes) ≡ take place bytes
in_front place new bytes there =
    let front : List ℕ = take place bytes in
    let rest : List ℕ = drop (place + length new) bytes in
    let long : length front ≡ place = length-take-le place bytes there in
    ap (take place) (append_assoc front new rest)
    ∙ ap (λ n. take n (front ++ (new ++ rest))) (sym long)
    ∙ take-append_seam front (new ++ rest)

pub in_back : (place : ℕ) (new bytes : List ℕ) → place ≤ length bytes
    → drop (place + length new) (overwritten place new bytes) ≡ drop (place + length new) bytes
in_back place new bytes there =
    sym (drop-drop (length new) place (overwritten place new bytes))
    ∙ ap (drop (length new)) (from_place place new bytes there)
    ∙ drop-append_seam new (drop (place + length new) bytes)

-- ---- parts of them

pub at_place : (place : ℕ) (new bytes : List ℕ) → place ≤ length bytes
    → bytes_at place (length new) (overwritten place new bytes) ≡ new
at_place place new bytes there =
    ap (take (length new)) (from_place place new bytes there)
    ∙ take-append_seam new (drop (place + length new) bytes)

pub before_place : (p c place : ℕ) (new bytes : List ℕ) → p + c ≤ place → place ≤ length bytes
    → bytes_at p c (overwritten place new bytes) ≡ bytes_at p c bytes
before_place p c place new bytes before there =
    let same : take (p + c) (overwritten place new bytes) ≡ take (p + c) bytes =
    sym (take-take (p + c) place (overwritten place new bytes) before)
    ∙ ap (take (p + c)) (in_front place new bytes there)
    ∙ take-take (p + c) place bytes before in
    sym (drop-take p c (overwritten place new bytes)) ∙ ap (drop p) same ∙ drop-take p c bytes

pub drop_behind : (p place : ℕ) (new bytes : List ℕ) → place + length new ≤ p → place ≤ length bytes
    → drop p (overwritten place new bytes) ≡ drop p bytes
drop_behind p place new bytes behind there =
    let end : ℕ = place + length new in
    let more : end + (p - end) ≡ p = omega arith in
    ap (λ k. drop k (overwritten place new bytes)) (sym more)
    ∙ sym (drop-drop (p - end) end (overwritten place new bytes))
    ∙ ap (drop (p - end)) (in_back place new bytes there)
    ∙ drop-drop (p - end) end bytes
    ∙ ap (λ k. drop k bytes) more

pub behind_place : (p c place : ℕ) (new bytes : List ℕ) → place + length new ≤ p → place ≤ length bytes
    → bytes_at p c (overwritten place new bytes) ≡ bytes_at p c bytes
behind_place p c place new bytes behind there = ap (take c) (drop_behind p place new bytes behind there)

-- the part in which they were overwritten
pub around_place : (q n p : ℕ) (new bytes : List ℕ) → p + length new ≤ n → q + n ≤ length bytes
    → bytes_at q n (overwritten (q + p) new bytes) ≡ overwritten p new (bytes_at q n bytes)
around_place q n p new bytes within there =
    let front : List ℕ = take (q + p) bytes in
    let middle : List ℕ = take p (drop q bytes) in
    let far : ℕ = q + p + length new in
    let left : ℕ = n - p - length new in
    let long : length front ≡ q + p = length-take-le (q + p) bytes (omega arith) in
    let rest : length middle ≡ p =
    length-take-le p (drop q bytes) (omega (arith, length-drop q bytes)) in
    let split : drop q (overwritten (q + p) new bytes) ≡ middle ++ (new ++ drop far bytes) =
    ap (drop q) (append_assoc front new (drop far bytes))
    ∙ drop-append-le q front (new ++ drop far bytes) (omega (arith, long))
    ∙ ap (λ l. l ++ (new ++ drop far bytes)) (drop-take q p bytes) in
    let size : n ≡ length middle + (length new + left) = omega (arith, rest) in
    let ends : p + length new + left ≡ n = omega arith in
    let place : q + (p + length new) ≡ far = omega arith in
    let behind : drop (p + length new) (take n (drop q bytes)) ≡ take left (drop far bytes) =
    ap (λ k. drop (p + length new) (take k (drop q bytes))) (sym ends)
    ∙ drop-take (p + length new) left (drop q bytes)
    ∙ ap (take left) (drop-drop (p + length new) q bytes ∙ ap (λ k. drop k bytes) place) in
    ap (take n) split
    ∙ ap (λ k. take k (middle ++ (new ++ drop far bytes))) size
    ∙ take-append-add middle (new ++ drop far bytes) (length new + left)
    ∙ ap (λ l. middle ++ l) (take-append-add new (drop far bytes) left)
    ∙ sym (append_assoc middle new (take left (drop far bytes)))
    ∙ ap (λ l. middle ++ new ++ l) (sym behind)
    ∙ ap (λ l. l ++ new ++ drop (p + length new) (take n (drop q bytes)))
    (sym (take-take p n (drop q bytes) (omega arith)))

pub length-overwritten : (place : ℕ) (new bytes : List ℕ) → place + length new ≤ length bytes
    → length (overwritten place new bytes) ≡ length bytes
length-overwritten place new bytes within =
    omega (
      arith,
      length-append (take place bytes ++ new) (drop (place + length new) bytes),
      length-append (take place bytes) new,
      length-take-le place bytes (omega arith),
      length-drop (place + length new) bytes,
    )
