-- The sketch of the front of a text with one byte more.
use Rattle.std.proofs.Common.{◌≡◌, ◌∙◌, ◌<◌, ◌≤◌, ◌+◌, ◌-◌, ℕ, List, [], ◌∷◌, ap, arith, get_or, length}
use Rattle.std.proofs.Common.{add-one, map, refl, subst, suc, sym, take, zero}
use Rattle.std.specs.Char.{to_ascii_lowercase}
use Rattle.std.proofs.lemmas.List.{length-map, take_all}
use Rattle.pl_sketch.specs.declared.sketch.Sketch.{Sketch}
use Rattle.pl_sketch.specs.Pairs.{at_place, nothing, place_of, sketch_of, union}
use Rattle.pl_sketch.proofs.CoverLaws.{covers_nothing, union_assoc}

-- of one byte at most
pub no_pair : (bytes : List ℕ) → sketch_of (take 1 bytes) ≡ nothing
no_pair [] = refl
no_pair (b ∷ bytes) = refl

-- the bytes are read from the front on, and the last of the front is at place k
pair_more : (bytes : List ℕ) (k : ℕ) → suc k < length bytes
    → union (sketch_of (take (suc k) bytes)) (at_place (place_of (get_or bytes k 0) (get_or bytes (suc k) 0)))
    ≡ sketch_of (take (suc (suc k)) bytes)
pair_more [] k within = absurd (omega (arith, within))
pair_more (a ∷ []) k within = absurd (omega (arith, within))
pair_more (a ∷ b ∷ bytes) zero within = sym (covers_nothing (at_place (place_of a b)))
pair_more (a ∷ b ∷ bytes) (suc k) within =
    union_assoc (at_place (place_of a b)) (sketch_of (take (suc k) (b ∷ bytes)))
    (at_place (place_of (get_or (b ∷ bytes) k 0) (get_or (b ∷ bytes) (suc k) 0)))
    ∙ ap (union (at_place (place_of a b))) (pair_more (b ∷ bytes) k (omega (arith, within)))

one_more : (bytes : List ℕ) (place : ℕ) → 1 ≤ place → place < length bytes
    → union (sketch_of (take place bytes))
    (at_place (place_of (get_or bytes (place - 1) 0) (get_or bytes place 0)))
    ≡ sketch_of (take (place + 1) bytes)
one_more bytes zero behind within = absurd (omega (arith, behind))
one_more bytes (suc k) behind within =
    let before : suc k - 1 ≡ k = omega arith in
    rw (add-one, before) (pair_more bytes k within)

pub goes_on : (bytes : List ℕ) (place first second : ℕ) (old new : Sketch) → 1 ≤ place
    → place < length bytes → first ≡ get_or bytes (place - 1) 0 → second ≡ get_or bytes place 0
    → old ≡ sketch_of (take place bytes) → new ≡ union old (at_place (place_of first second))
    → new ≡ sketch_of (take (place + 1) bytes)
goes_on bytes place first second old new behind within is_first is_second stood is =
    is
    ∙ (λ i. union (stood i) (at_place (place_of (is_first i) (is_second i))))
    ∙ one_more bytes place behind within

pub whole : (bytes : List ℕ) (place : ℕ) → length bytes ≤ place
    → sketch_of (take place bytes) ≡ sketch_of bytes
whole bytes place all = ap sketch_of (take_all place bytes all)

-- ---- ASCII letters made lowercase

lowered_at : (bytes : List ℕ) (k : ℕ)
    → to_ascii_lowercase (get_or bytes k 0) ≡ get_or (map to_ascii_lowercase bytes) k 0
lowered_at [] k = refl
lowered_at (b ∷ bytes) zero = refl
lowered_at (b ∷ bytes) (suc k) = lowered_at bytes k

pub goes_on_lowered : (bytes : List ℕ) (place first second : ℕ) (old new : Sketch) → 1 ≤ place
    → place < length bytes → first ≡ to_ascii_lowercase (get_or bytes (place - 1) 0)
    → second ≡ to_ascii_lowercase (get_or bytes place 0)
    → old ≡ sketch_of (take place (map to_ascii_lowercase bytes))
    → new ≡ union old (at_place (place_of first second))
    → new ≡ sketch_of (take (place + 1) (map to_ascii_lowercase bytes))
goes_on_lowered bytes place first second old new behind within is_first is_second stood is =
    goes_on (map to_ascii_lowercase bytes) place first second old new behind
    (subst (λ n. place < n) (sym (length-map bytes to_ascii_lowercase)) within)
    (is_first ∙ lowered_at bytes (place - 1)) (is_second ∙ lowered_at bytes place) stood is

pub whole_lowered : (bytes : List ℕ) (place : ℕ) → length bytes ≤ place
    → sketch_of (take place (map to_ascii_lowercase bytes)) ≡ sketch_of (map to_ascii_lowercase bytes)
whole_lowered bytes place all =
    whole (map to_ascii_lowercase bytes) place
    (subst (λ n. n ≤ place) (sym (length-map bytes to_ascii_lowercase)) all)
