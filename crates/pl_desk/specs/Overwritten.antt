-- Files after a write.
use Rattle.std.specs.Prelude.{min, ◌≡◌, ℕ, ◌+◌, ◌-◌, ◌≤◌, List, ◌++◌, length, take, drop, replicate}
use Rattle.std.proofs.Common.{refl, append_assoc, length-append, ◌∙◌, ap, arith, append-nil}
use Rattle.std.proofs.lemmas.List.{take_at, drop_at, take_min, length-take, length-drop}
use Rattle.std.proofs.lemmas.List.{length-replicate}
use Rattle.pl_desk.specs.Desk.{overwritten, Torn}

-- a write that begins within the file leaves no gap
pub overwritten_within : (pad at : ℕ) (bytes file : List ℕ) → at ≤ length file
    → overwritten pad at bytes file ≡ take at file ++ bytes ++ drop (at + length bytes) file
overwritten_within pad at bytes file within =
    let none : at - length file ≡ 0 = omega arith in
    ap (λ (n : ℕ). take at file ++ replicate n pad ++ bytes ++ drop (at + length bytes) file) none
    ∙ ap (λ (l : List ℕ). l ++ bytes ++ drop (at + length bytes) file) (append-nil (take at file))

-- a file after a write is one that a stop within the write may leave
pub torn_overwritten : (pad at : ℕ) (bytes file : List ℕ)
    → Torn at (length bytes) file (overwritten pad at bytes file)
torn_overwritten pad at bytes file =
    let gap = replicate (at - length file) pad in
    let front = take at file ++ gap ++ bytes in
    let back = drop (at + length bytes) file in
    let size : length front ≡ at + length bytes =
    omega (
      arith,
      length-append (take at file ++ gap) bytes,
      length-append (take at file) gap,
      length-take at file,
      length-replicate (at - length file) pad,
    ) in
    let whole : length (overwritten pad at bytes file) ≡ at + length bytes
    + (length file - (at + length bytes)) =
    omega (arith, size, length-append front back, length-drop (at + length bytes) file) in
    let split : overwritten pad at bytes file ≡ take at file ++ (gap ++ bytes ++ back) =
    simp append_assoc in
    record {
      before =
          ap (λ (l : List ℕ). take (min at (length file)) l) split
          ∙ take_at (take at file) (gap ++ bytes ++ back) (min at (length file))
          (length-take at file);
      after = drop_at front back (at + length bytes) size;
      no_shorter = omega (arith, whole);
      no_longer = omega (arith, whole);
    }

-- nor does a stop within it have to change anything
pub torn_same : (at n : ℕ) (file : List ℕ) → Torn at n file file
torn_same at n file =
    record {
      before = take_min at file;
      after = refl;
      no_shorter = omega arith;
      no_longer =
          omega arith;
    }
