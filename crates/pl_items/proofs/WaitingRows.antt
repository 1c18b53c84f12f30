-- The places in which items wait, by ascending id.
use Rattle.std.proofs.Common.{◌≡◌, ◌≢◌, ◌==◌, ◌+◌, ◌<◌, ◌≤◌, ℕ, Bool, true, false, List, [], ◌∷◌, ap, arith}
use Rattle.std.proofs.Common.{Option, None, if◌then◌else◌, inl, inr, subst, get_or, length, set, refl, suc, zero}
use Rattle.std.proofs.Common.{eqb, ltb, count_by}
use Rattle.std.specs.List.{AllByRecursion}
use Rattle.std.specs.List.Sorted.{IsNonDecreasingBy, IsPartitionPoint, IsSortedBy, IsStrictlyIncreasing}
use Rattle.std.specs.Option.{is_some}
use Rattle.std.specs.Ordering.{is_lt, nat_cmp, ordering_index}
use Rattle.std.specs.declared.cmp.Ordering.TheVariants.{Less, Equal, Greater}
use Rattle.std.proofs.lemmas.Bool.{both_ways, cases_Bool, cases_lt, cases_order, lt-ltb, le-ltb, eq-eqb, ne_eqb}
use Rattle.std.proofs.lemmas.Cmp.{nat_cmp_total}
use Rattle.std.proofs.lemmas.List.{get_or-map, length-map}
use Rattle.std.proofs.lemmas.List.Elements.{recursion_from_All}
use Rattle.std.proofs.lemmas.List.Kept.{AllPairs-from_increasing}
use Rattle.std.proofs.lemmas.List.Sorted.{searchable_from_sorted}
use Rattle.std.proofs.lemmas.List.Sums.{sum_by-cons}
use Rattle.pl_base.specs.declared.id.ItemId.{ItemId}
use Rattle.pl_base.specs.Store.{Item}
use Rattle.pl_base.proofs.KeyCounts.{Ascends, ascends_from_pairs, tick}
use Rattle.pl_base.proofs.ListLaws.{AllPairs-from_map}
use Rattle.pl_base.proofs.Among.{at_in}
use Rattle.pl_items.specs.TakenOut.{item_waiting, taken_out, waiting_ids}
use Rattle.pl_items.specs.declared.plant.Waiting.{Waiting}
use Rattle.pl_items.proofs.Members.{in_place}

abbrev pub waiting_key : Waiting → ℕ
waiting_key w = w.id.0

pub rows_ascend : (rows : List Waiting) → IsStrictlyIncreasing (waiting_ids rows) → Ascends waiting_key rows
rows_ascend rows up =
    ascends_from_pairs waiting_key rows
    (AllPairs-from_map (λ k m. k < m) waiting_key rows (AllPairs-from_increasing (waiting_ids rows) up))

-- ---- what a binary search finds

pub is_equal : (a b : ℕ) → nat_cmp a b ≡ Equal → a ≡ b
is_equal a b e =
    elim (cases_order a b) as (λ _. a ≡ b) [
      | inl same ↦ same
      | inr (inl below) ↦ let p = lt-ltb a b below in absurd (cc)
      | inr (inr above) ↦
          let p = le-ltb a b (omega arith) in
          let q = ne_eqb a b (λ f. omega arith) in
          absurd (cc)
    ]

pub searchable : (rows : List Waiting) (k : ℕ) → IsStrictlyIncreasing (waiting_ids rows)
    → IsNonDecreasingBy (λ (w : Waiting). ordering_index (nat_cmp w.id.0 k)) rows
searchable rows k up = searchable_from_sorted nat_cmp_total waiting_key rows k sorted
  where
    sorted : IsSortedBy (λ (w v : Waiting). is_lt (nat_cmp w.id.0 v.id.0)) rows
    sorted j d low within =
        let less = up j (rw (length-map rows waiting_key) within) in
        let here = get_or-map waiting_key rows j d 0 (omega arith) in
        let next = get_or-map waiting_key rows (j + 1) d 0 within in
        let a = waiting_key (get_or rows (j + 1) d) in
        let b = waiting_key (get_or rows j d) in
        let p : ltb a b ≡ false = le-ltb a b (omega arith) in
        let q : eqb a b ≡ false = ne_eqb a b (λ e. omega arith) in
        rw (p, q)

equal-refl : (a b : ℕ) → a ≡ b → nat_cmp a b ≡ Equal
equal-refl a b e =
    let p = le-ltb a b (omega arith) in
    let q = eq-eqb a b e in
    rw (p, q)

-- where a binary search ends in vain no item has the id
pub all_apart : (rows : List Waiting) (k i : ℕ)
    → IsPartitionPoint (λ (w : Waiting). nat_cmp w.id.0 k ≡ Less) (λ (w : Waiting). nat_cmp w.id.0 k ≡ Greater) rows i
    → AllByRecursion (λ w. waiting_key w ≢ k) rows
all_apart rows k i cut =
    recursion_from_All (λ w. waiting_key w ≢ k) rows (λ j d within e.
    let same = equal-refl (waiting_key (get_or rows j d)) k e in
    elim (cases_lt j i) as (λ _. ⊥) [
      | inl before ↦ let less = cut.0 j d (omega arith) before in cc
      | inr behind ↦ let more = cut.1 j d behind within in cc
    ])

-- ---- taking out

apart_behind : (k : ℕ) (rows : List Waiting) → AllByRecursion (λ w. k < waiting_key w) rows
    → AllByRecursion (λ w. waiting_key w ≢ k) rows
apart_behind k [] above = tt
apart_behind k (w ∷ ws) above =
    let here : k < waiting_key w = above.0 in
    ((λ e. omega arith), apart_behind k ws above.1)

-- no item with this id waits or waited
abbrev pub NoneWaits : List Waiting → ItemId → Type 0
NoneWaits rows id = (item_waiting rows id ≡ None) × (taken_out id rows ≡ rows)

-- the item with this id waits or waited at this place
abbrev pub WaitsAt : List Waiting → ItemId → ℕ → Waiting → Type 0
WaitsAt rows id k d =
    (item_waiting rows id ≡ (get_or rows k d).item)
    × (taken_out id rows ≡ set rows k (record (get_or rows k d) { item = None }))

pub none_waits : (rows : List Waiting) (id : ItemId) → AllByRecursion (λ w. waiting_key w ≢ id.0) rows
    → NoneWaits rows id
none_waits [] id apart = (refl, refl)
none_waits (w ∷ ws) id apart =
    let test : (w.id.0 == id.0) ≡ false = ne_eqb w.id.0 id.0 apart.0 in
    let rest = none_waits ws id apart.1 in
    (rw test rest.0, rw (test, rest.1))

pub one_waits : (rows : List Waiting) (id : ItemId) (k : ℕ) (d : Waiting) → Ascends waiting_key rows → k < length rows
    → waiting_key (get_or rows k d) ≡ id.0 → WaitsAt rows id k d
one_waits [] id k d up within is = absurd (omega arith)
one_waits (w ∷ ws) id zero d up within is =
    let test : (w.id.0 == id.0) ≡ true = eq-eqb w.id.0 id.0 is in
    let others : AllByRecursion (λ v. waiting_key v ≢ id.0) ws =
    apart_behind id.0 ws (subst (λ m. AllByRecursion (λ v. m < waiting_key v) ws) is up.0)
    in
    let rest = none_waits ws id others in
    (rw test, rw (test, rest.1))
one_waits (w ∷ ws) id (suc k) d up within is =
    let further = at_in (λ v. waiting_key w < waiting_key v) ws (get_or ws k d) up.0 (in_place ws k d (omega arith)) in
    let below : w.id.0 < id.0 = omega arith in
    let test : (w.id.0 == id.0) ≡ false = ne_eqb w.id.0 id.0 (λ e. omega arith) in
    let rest = one_waits ws id k d up.1 (omega arith) is in
    (rw test rest.0, rw (test, rest.1))

-- the ids stay, and a place is emptied
pub ids_stay : (id : ItemId) (rows : List Waiting) → waiting_ids (taken_out id rows) ≡ waiting_ids rows
ids_stay id [] = refl
ids_stay id (w ∷ ws) = at_test (w.id.0 == id.0) (ids_stay id ws)
  where
    at_test : (b : Bool) → waiting_ids (taken_out id ws) ≡ waiting_ids ws
        → waiting_ids ((if b then record w { item = None } else w) ∷ taken_out id ws) ≡ waiting_ids (w ∷ ws)
    at_test true rest = ap (λ ks. w.id.0 ∷ ks) rest
    at_test false rest = ap (λ ks. w.id.0 ∷ ks) rest

-- how many items wait
abbrev pub still : List Waiting → ℕ
still rows = count_by (λ (w : Waiting). is_some w.item) rows

abbrev one : Option Item → ℕ
one o = tick (is_some o)

still-cons : (w : Waiting) (ws : List Waiting) → still (w ∷ ws) ≡ one w.item + still ws
still-cons w ws = sum_by-cons (λ (v : Waiting). one v.item) w ws

no_more : (id : ItemId) (rows : List Waiting) → still (taken_out id rows) ≤ still rows
no_more id [] = omega arith
no_more id (w ∷ ws) = at_test (w.id.0 == id.0) (no_more id ws)
  where
    at_test : (b : Bool) → still (taken_out id ws) ≤ still ws
        → still ((if b then record w { item = None } else w) ∷ taken_out id ws) ≤ still (w ∷ ws)
    at_test true rest = omega (arith, still-cons (record w { item = None }) (taken_out id ws), still-cons w ws)
    at_test false rest = omega (arith, still-cons w (taken_out id ws), still-cons w ws)

pub fewer : (id : ItemId) (rows : List Waiting) → is_some (item_waiting rows id) ≡ true
    → still (taken_out id rows) < still rows
fewer id [] some = absurd (both_ways false refl some)
fewer id (w ∷ ws) some =
    elim (cases_Bool (w.id.0 == id.0)) as (λ _. still (taken_out id (w ∷ ws)) < still (w ∷ ws)) [
      | inl test ↦
          let has : is_some w.item ≡ true = rw test at some in
          let was : one w.item ≡ 1 = ap tick has in
          rw test
          (omega (arith, was, no_more id ws, still-cons (record w { item = None }) (taken_out id ws), still-cons w ws))
      | inr test ↦
          let rest = fewer id ws (rw test at some) in
          rw test (omega (arith, rest, still-cons w (taken_out id ws), still-cons w ws))
    ]
