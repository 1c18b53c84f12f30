-- The parts of a text, by place.
use Rattle.std.proofs.Common.{◌≡◌, ◌∙◌, ◌+◌, ◌-◌, ◌*◌, ◌/◌, ◌%◌, ◌<◌, ◌≤◌, ◌∷◌, ◌++◌, [], ℕ, List, ap, arith, drop, inl, inr}
use Rattle.std.proofs.Common.{length, length-drop, min, suc, sym, take, zero}
use Rattle.std.proofs.lemmas.Bool.{cases_lt}
use Rattle.std.proofs.lemmas.List.{append-nil, take-append-drop}
use Rattle.std.proofs.Math.ListN.{drop_of_length-le}
use Rattle.std.proofs.Math.Seq.{take-length}
use Rattle.pl_slot.specs.Slot.{payload_size}

take_all : (n : ℕ) (xs : List ℕ) → length xs ≤ n → take n xs ≡ xs
take_all n xs few =
    sym (append-nil (take n xs)) ∙ ap (λ l. take n xs ++ l) (sym (drop_of_length-le xs few)) ∙ take-append-drop n xs

take_min : (n : ℕ) (xs : List ℕ) → take (min (length xs) n) xs ≡ take n xs
take_min n xs = elim (cases_lt (length xs) n) [
  | inl less ↦
      ap (λ (k : ℕ). take k xs) (omega arith) ∙ take-length xs ∙ sym (take_all n xs (omega arith))
  | inr more ↦ ap (λ (k : ℕ). take k xs) (omega arith)
]

pub first_part : (text : List ℕ) (place n : ℕ)
    → n ≡ min (length (take (length text - place) (drop place text))) payload_size
    → take n (take (length text - place) (drop place text)) ≡ take payload_size (drop place text)
first_part text place n is =
    let whole : take (length text - place) (drop place text) ≡ drop place text =
    ap (λ (k : ℕ). take k (drop place text)) (sym (length-drop place text)) ∙ take-length (drop place text) in
    let count : n ≡ min (length (drop place text)) payload_size =
    is ∙ ap (λ (l : List ℕ). min (length l) payload_size) whole in
    ap (λ (l : List ℕ). take n l) whole ∙ ap (λ (k : ℕ). take k (drop place text)) count
    ∙ take_min payload_size (drop place text)

pub drop_more : (n m : ℕ) (xs : List ℕ) → drop m (drop n xs) ≡ drop (n + m) xs
drop_more zero m xs = ap (λ (k : ℕ). drop k xs) (from_none m)
  where
    from_none : (m : ℕ) → m ≡ 0 + m
    from_none m = omega arith
drop_more (suc n) m [] = drop_none m ∙ sym (drop_none (suc n + m))
  where
    drop_none : (m : ℕ) → drop {A = ℕ} m [] ≡ []
    drop_none m = drop_of_length-le {A = ℕ} [] (omega arith)
drop_more (suc n) m (x ∷ xs) = drop_more n m xs ∙ ap (λ (k : ℕ). drop k (x ∷ xs)) (further n m)
  where
    further : (n m : ℕ) → suc (n + m) ≡ suc n + m
    further n m = omega arith

pub next_part : (place : ℕ) (text : List ℕ) → 0 < place
    → drop payload_size (drop (payload_size * (place - 1)) text) ≡ drop (payload_size * place) text
next_part place text some =
    drop_more (payload_size * (place - 1)) payload_size text ∙ ap (λ (k : ℕ). drop k text) (one_on place some)
  where
    one_on : (place : ℕ) → 0 < place → payload_size * (place - 1) + payload_size ≡ payload_size * place
    one_on place some = omega arith

-- behind the last part there is nothing
pub none_behind : (text : List ℕ) (places : ℕ) → places ≡ length text / 120 + min 1 (length text % 120)
    → drop (payload_size * places) text ≡ []
none_behind text places is = drop_of_length-le text (omega (arith, is))

pub some_there : (text : List ℕ) (places place : ℕ) → places ≡ length text / 120 + min 1 (length text % 120)
    → place ≤ places → 0 < place → 1 ≤ length (drop (payload_size * (place - 1)) text)
some_there text places place is within some = omega (arith, is, length-drop (payload_size * (place - 1)) text)
