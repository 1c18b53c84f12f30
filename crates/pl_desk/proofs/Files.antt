-- Files that are made longer and written over.
use Rattle.std.proofs.Common.{◌≡◌, ℕ, ◌+◌, ◌-◌, List, ◌++◌, length, take, drop, replicate, inl, inr, sym, ◌∙◌, ap}
use Rattle.std.proofs.Common.{arith, length-append, append-nil}
use Rattle.std.proofs.lemmas.Bool.{cases_lt}
use Rattle.std.proofs.lemmas.List.{take_all, drop_all, drop-append-le, take-append-le, take-replicate, length-replicate}
use Rattle.std.proofs.Math.Seq.{take-append-add}
use Rattle.pl_desk.specs.Desk.{overwritten}

-- what is before the bytes, once the file is long enough
front : (file : List ℕ) (pad at n : ℕ)
    → take at (file ++ replicate (at + n - length file) pad) ≡ take at file ++ replicate (at - length file) pad
front file pad at n = elim (cases_lt (length file) at) [
  | inl past ↦
      let is : at ≡ length file + (at - length file) = omega (arith, past) in
      ap (λ (k : ℕ). take k (file ++ replicate (at + n - length file) pad)) is
      ∙ take-append-add file (replicate (at + n - length file) pad) (at - length file)
      ∙ ap (λ (l : List ℕ). file ++ l)
      (take-replicate (at - length file) (at + n - length file) pad (omega (arith, past)))
      ∙ ap (λ (l : List ℕ). l ++ replicate (at - length file) pad) (sym (take_all at file (omega (arith, past))))
  | inr within ↦
      let none : at - length file ≡ 0 = omega (arith, within) in
      take-append-le at file (replicate (at + n - length file) pad) within
      ∙ sym (ap (λ (k : ℕ). take at file ++ replicate k pad) none ∙ append-nil (take at file))
]

-- what is behind them
back : (file : List ℕ) (pad end : ℕ) → drop end (file ++ replicate (end - length file) pad) ≡ drop end file
back file pad end = elim (cases_lt (length file) end) [
  | inl past ↦
      let size : length (file ++ replicate (end - length file) pad) ≡ end =
      omega (
        arith,
        past,
        length-append file (replicate (end - length file) pad),
        length-replicate (end - length file) pad,
      ) in
      drop_all end _ (omega (arith, size)) ∙ sym (drop_all end file (omega (arith, past)))
  | inr within ↦
      let none : end - length file ≡ 0 = omega (arith, within) in
      drop-append-le end file (replicate (end - length file) pad) within
      ∙ ap (λ (k : ℕ). drop end file ++ replicate k pad) none
      ∙ append-nil (drop end file)
]

-- a file that is made long enough and then written over
pub overwritten_is : (file bytes long pasted : List ℕ) (pad at : ℕ)
    → long ≡ file ++ replicate (at + length bytes - length file) pad
    → pasted ≡ take at long ++ bytes ++ drop (at + length bytes) long → pasted ≡ overwritten pad at bytes file
overwritten_is file bytes long pasted pad at lengthened is =
    is
    ∙ ap (λ (l : List ℕ). take at l ++ bytes ++ drop (at + length bytes) l) lengthened
    ∙ ap (λ (l : List ℕ). l ++ bytes
    ++ drop (at + length bytes) (file ++ replicate (at + length bytes - length file) pad))
    (front file pad at (length bytes))
    ∙ ap (λ (l : List ℕ). take at file ++ replicate (at - length file) pad ++ bytes ++ l)
    (back file pad (at + length bytes))

-- what is written back to a vector whose length stays
pub written_back : (old new : List ℕ) (n : ℕ) → n ≡ length old → length new ≡ length old
    → take n (new ++ drop (length new) old) ≡ new
written_back old new n count same =
    ap (λ (l : List ℕ). take n (new ++ l)) (drop_all (length new) old (omega (arith, same)))
    ∙ ap (λ (l : List ℕ). take n l) (append-nil new)
    ∙ take_all n new (omega (arith, count, same))
