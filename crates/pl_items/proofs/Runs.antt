-- The run of those with one key, in a list that goes by the key.
use Rattle.std.proofs.Common.{◌≡◌, ◌+◌, ◌≤◌, ◌++◌, ◌∙◌, ℕ, Bool, true, false, List, [], ◌∷◌}
use Rattle.std.proofs.Common.{ap, sym, arith, length, take, drop, get_or, leb, ltb, eqb, refl}
use Rattle.std.specs.List.{All, filter}
use Rattle.std.specs.List.Sorted.{IsPartitionPoint}
use Rattle.std.proofs.lemmas.Bool.{leb-false, leb-true, ltb-true, ltb-false, eq-eqb, ne_eqb}
use Rattle.std.proofs.lemmas.List.{get_or-take, get_or-drop, length-take, length-drop, take-append-drop, append-nil}
use Rattle.std.proofs.lemmas.List.Elements.{All-head, All-tail, filter-append}

module _ {X : Type 0} where
  pub filter_none : (p : X → Bool) (xs : List X) → All (λ x. p x ≡ false) xs → filter p xs ≡ []
  filter_none p [] none = refl
  filter_none p (x ∷ xs) none =
      let here = All-head (λ y. p y ≡ false) x xs none in
      let rest = filter_none p xs (All-tail (λ y. p y ≡ false) x xs none) in
      rw (here, rest)

  filter_whole : (p : X → Bool) (xs : List X) → All (λ x. p x ≡ true) xs → filter p xs ≡ xs
  filter_whole p [] all = refl
  filter_whole p (x ∷ xs) all =
      let here = All-head (λ y. p y ≡ true) x xs all in
      let rest = filter_whole p xs (All-tail (λ y. p y ≡ true) x xs all) in
      rw (here, rest)

module _ {X : Type 0} (n : X → ℕ) (t : ℕ) where
  abbrev pub StartsAt : List X → ℕ → Type 0
  StartsAt xs i = IsPartitionPoint (λ y. ltb (n y) t ≡ true) (λ y. ltb (n y) t ≡ false) xs i

  abbrev pub EndsAt : List X → ℕ → Type 0
  EndsAt xs j = IsPartitionPoint (λ y. leb (n y) t ≡ true) (λ y. leb (n y) t ≡ false) xs j

  apart : (x : X) → (n x ≡ t → ⊥) → eqb (n x) t ≡ false
  apart x = ne_eqb (n x) t

  -- what stands from its start on, up to its end
  pub run : (xs rest : List X) (i j : ℕ) → rest ≡ drop i xs → i ≤ length xs → j ≤ length rest → StartsAt xs i
      → EndsAt rest j → take j rest ≡ filter (λ x. eqb (n x) t) xs
  run xs rest i j is within short start end =
      let p : X → Bool = λ x. eqb (n x) t in
      let front = take i xs in
      let mid = take j rest in
      let back = drop j rest in
      let long_front = length-take i xs in
      let long_rest = ap length is ∙ length-drop i xs in
      let long_mid = length-take j rest in
      let long_back = length-drop j rest in
      let no_front : filter p front ≡ [] =
      filter_none p front (λ k d lt.
      let same = get_or-take i xs k d (omega arith) in
      let test = ltb-true (n (get_or xs k d)) t (start.0 k d (omega arith) (omega arith)) in
      rw same (apart (get_or xs k d) (λ e. omega arith)))
      in
      let all_mid : filter p mid ≡ mid =
      filter_whole p mid (λ k d lt.
      let same : get_or mid k d ≡ get_or rest k d = get_or-take j rest k d (omega arith) in
      let place : get_or rest k d ≡ get_or xs (i + k) d =
      ap (λ l. get_or l k d) is ∙ get_or-drop i xs k d
      in
      let least = ltb-false (n (get_or xs (i + k) d)) t (start.1 (i + k) d (omega arith) (omega arith)) in
      let most = leb-true (n (get_or rest k d)) t (end.0 k d (omega arith) (omega arith)) in
      let alike = ap n place in
      rw same (eq-eqb (n (get_or rest k d)) t (omega arith)))
      in
      let no_back : filter p back ≡ [] =
      filter_none p back (λ k d lt.
      let same : get_or back k d ≡ get_or rest (j + k) d = get_or-drop j rest k d in
      let more = leb-false (n (get_or rest (j + k) d)) t (end.1 (j + k) d (omega arith) (omega arith)) in
      rw same (apart (get_or rest (j + k) d) (λ e. omega arith)))
      in
      let first_cut : filter p xs ≡ filter p front ++ filter p rest =
      ap (filter p) (sym (take-append-drop i xs)) ∙ filter-append p front (drop i xs)
      ∙ ap (λ l. filter p front ++ filter p l) (sym is)
      in
      let second_cut : filter p rest ≡ filter p mid ++ filter p back =
      ap (filter p) (sym (take-append-drop j rest)) ∙ filter-append p mid back
      in
      sym (first_cut ∙ rw (no_front, second_cut, all_mid, no_back) (append-nil mid))
