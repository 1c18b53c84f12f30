-- `latest_first` sorts: no visit stands behind one that it is later than, and the visits are the same. What holds
-- of each visit holds of the sorted ones.
use Rattle.std.proofs.Common.{◌≡◌, ◌≢◌, ◌+◌, ◌<◌, ℕ, Bool, true, false, cond, List, [], ◌∷◌, ◌&&◌, ◌||◌}
use Rattle.std.proofs.Common.{eqb, ltb, refl, arith, count_by, filter, if◌then◌else◌, length, map, suc}
use Rattle.std.specs.List.{AllByRecursion, AllPairs}
use Rattle.std.proofs.lemmas.Bool.Decides.{nat_tests}
use Rattle.std.proofs.lemmas.List.Elements.{recursion_from_All}
use Rattle.std.proofs.lemmas.List.Sums.{sum_by-cons}
use Rattle.pl_base.specs.Store.{Visit}
use Rattle.pl_base.specs.Visits.{in_place, is_later, latest_first}
use Rattle.pl_base.proofs.ListLaws.{all-filter, from_map, weaker}

-- the first of the visits is not later than this one
abbrev IsBefore : Visit → List Visit → Type 0
IsBefore v [] = Unit {0}
IsBefore v (w ∷ ws) = is_later w v ≡ false

abbrev IsLatestFirst : List Visit → Type 0
IsLatestFirst [] = Unit {0}
IsLatestFirst (v ∷ vs) = IsBefore v vs × IsLatestFirst vs

earlier : (date other id than : ℕ) → ltb other date || (eqb other date && ltb than id) ≡ true
    → ltb date other || (eqb date other && ltb id than) ≡ false
earlier date other id than later = grind (arith, nat_tests)

pub is_later-once : (v w : Visit) → is_later v w ≡ true → is_later w v ≡ false
is_later-once v w later = earlier v.date.0 w.date.0 v.id.0 w.id.0 later

stays_before : (w v : Visit) (ws : List Visit) → is_later v w ≡ false → IsBefore w ws → IsBefore w (in_place v ws)
stays_before w v [] not_later before = not_later
stays_before w v (x ∷ ws) not_later before = choose (is_later v x)
  where
    choose : (b : Bool) → IsBefore w (cond b (v ∷ x ∷ ws) (x ∷ in_place v ws))
    choose true = not_later
    choose false = before

in_order : (v : Visit) (ws : List Visit) → IsLatestFirst ws → IsLatestFirst (in_place v ws)
in_order v [] sorted = (tt, tt)
in_order v (w ∷ ws) sorted = choose (in_order v ws sorted.1) (is_later v w) refl
  where
    choose : IsLatestFirst (in_place v ws) → (b : Bool) → is_later v w ≡ b
        → IsLatestFirst (cond b (v ∷ w ∷ ws) (w ∷ in_place v ws))
    choose rest true later = (is_later-once v w later, sorted)
    choose rest false not_later = (stays_before w v ws not_later sorted.0, rest)

pub latest_first-sorted : (vs : List Visit) → IsLatestFirst (latest_first vs)
latest_first-sorted [] = tt
latest_first-sorted (v ∷ vs) = in_order v (latest_first vs) (latest_first-sorted vs)

counts_one : (p : Visit → Bool) (v : Visit) (ws : List Visit) → count_by p (in_place v ws) ≡ count_by p (v ∷ ws)
counts_one p v [] = refl
counts_one p v (w ∷ ws) = choose (counts_one p v ws) (is_later v w)
  where
    choose : count_by p (in_place v ws) ≡ count_by p (v ∷ ws) → (b : Bool)
        → count_by p (cond b (v ∷ w ∷ ws) (w ∷ in_place v ws)) ≡ count_by p (v ∷ w ∷ ws)
    choose rest true = refl
    choose rest false = omega (
      arith,
      rest,
      sum_by-cons (λ x. if p x then 1 else 0) w (in_place v ws),
      sum_by-cons (λ x. if p x then 1 else 0) v (w ∷ ws),
      sum_by-cons (λ x. if p x then 1 else 0) w ws,
      sum_by-cons (λ x. if p x then 1 else 0) v ws,
    )

pub latest_first-same : (p : Visit → Bool) (vs : List Visit) → count_by p (latest_first vs) ≡ count_by p vs
latest_first-same p [] = refl
latest_first-same p (v ∷ vs) = omega (
  arith,
  counts_one p v (latest_first vs),
  latest_first-same p vs,
  sum_by-cons (λ x. if p x then 1 else 0) v (latest_first vs),
  sum_by-cons (λ x. if p x then 1 else 0) v vs,
)

-- ---- how many there are

length-in_place : (v : Visit) (ws : List Visit) → length (in_place v ws) ≡ length ws + 1
length-in_place v [] = refl
length-in_place v (w ∷ ws) = choose (is_later v w) (length-in_place v ws)
  where
    choose : (b : Bool) → length (in_place v ws) ≡ length ws + 1
        → length (cond b (v ∷ w ∷ ws) (w ∷ in_place v ws)) ≡ length (w ∷ ws) + 1
    choose true rest = omega arith
    choose false rest = omega (arith, rest)

pub length-latest_first : (vs : List Visit) → length (latest_first vs) ≡ length vs
length-latest_first [] = refl
length-latest_first (v ∷ vs) = omega (arith, length-in_place v (latest_first vs), length-latest_first vs)

-- ---- what holds of each visit

pub all-in_place : (P : Visit → Type 0) (v : Visit) (ws : List Visit) → P v → AllByRecursion P ws
    → AllByRecursion P (in_place v ws)
all-in_place P v [] here all = (here, tt)
all-in_place P v (w ∷ ws) here all = choose (is_later v w) (all-in_place P v ws here all.1)
  where
    choose : (b : Bool) → AllByRecursion P (in_place v ws) → AllByRecursion P (cond b (v ∷ w ∷ ws) (w ∷ in_place v ws))
    choose true rest = (here, all)
    choose false rest = (all.0, rest)

pub all-latest_first : (P : Visit → Type 0) (vs : List Visit) → AllByRecursion P vs → AllByRecursion P (latest_first vs)
all-latest_first P [] all = tt
all-latest_first P (v ∷ vs) all = all-in_place P v (latest_first vs) all.0 (all-latest_first P vs all.1)

-- ---- no two visits have the same id

abbrev pub Differ : List Visit → Type 0
Differ [] = Unit {0}
Differ (v ∷ vs) = AllByRecursion (λ (w : Visit). w.id.0 ≢ v.id.0) vs × Differ vs

pub Differ-filter : (q : Visit → Bool) (vs : List Visit) → Differ vs → Differ (filter q vs)
Differ-filter q [] differ = tt
Differ-filter q (v ∷ vs) differ = choose (q v) (Differ-filter q vs differ.1)
  where
    choose : (b : Bool) → Differ (filter q vs) → Differ (cond b (v ∷ filter q vs) (filter q vs))
    choose true rest = (all-filter (λ (w : Visit). w.id.0 ≢ v.id.0) q vs differ.0, rest)
    choose false rest = rest

pub Differ-ascending : (vs : List Visit) → AllPairs (λ m n. m < n) (map (λ (v : Visit). v.id.0) vs) → Differ vs
Differ-ascending [] pairs = tt
Differ-ascending (v ∷ vs) pairs = (
  weaker (λ (w : Visit). v.id.0 < w.id.0) (λ (w : Visit). w.id.0 ≢ v.id.0) vs (λ w above same. omega arith)
      (from_map (λ n. v.id.0 < n) (λ (w : Visit). w.id.0) vs
      (recursion_from_All (λ n. v.id.0 < n) (map (λ (w : Visit). w.id.0) vs)
      (λ k d within. pairs 0 (suc k) d (omega arith) (omega arith)))),
  Differ-ascending vs (λ i j d before within. pairs (suc i) (suc j) d (omega arith) (omega arith)),
)
