-- The totals of origins, by their names.
use Rattle.std.proofs.Common.{◌≡◌, ◌≢◌, ◌+◌, ◌-◌, ◌<◌, ◌≤◌, ◌==◌, ◌++◌, ◌∙◌, ℕ, Bool, true, false, List, [], ◌∷◌}
use Rattle.std.proofs.Common.{Some, ap, arith, eq-eqb, find, get_or, if◌then◌else◌, length, map, refl}
use Rattle.std.proofs.Common.{replicate, set, suc, sym}
use Rattle.std.specs.List.{enumerate_from, list_any, swap_remove}
use Rattle.std.specs.Option.{option_map}
use Rattle.std.proofs.lemmas.Bool.{eqb-true, true≢false}
use Rattle.std.proofs.lemmas.List.{get_or-map, get_or-set_other, get_or-set_same, get_or-take}
use Rattle.std.proofs.lemmas.List.{length-append, length-map, length-replicate, length-set, length-take, same_lists}
use Rattle.std.proofs.lemmas.List.Folds.{Any-from_list_any}
use Rattle.pl_base.specs.declared.id.Slot.{Slot}
use Rattle.pl_base.specs.Rows.{Kept, KeptOrigin, total_at, totaled}
use Rattle.pl_plain.specs.FlatLaws.{length-origins_from, named_at}
use Rattle.pl_plain.specs.FlatRows.{origin_with, origins_from}
use Rattle.pl_plain.specs.Place.{grown}

-- ---- an origin by its name

found_from : (start : ℕ) (totals : List ℕ) (n : ℕ) → start ≤ n → n < start + length totals
    → find (λ (a : KeptOrigin). a.origin.0 == n) (map origin_with (enumerate_from start totals))
    ≡ Some (origin_with (n, get_or totals (n - start) 0))
found_from start [] n first last = absurd (omega (arith, first, last))
found_from start (t ∷ ts) n first last =
    choose (start == n) refl (λ more. found_from (start + 1) ts n more (omega (arith, last)))
  where
    choose : (b : Bool) → (start == n) ≡ b
        → (start + 1 ≤ n → find (λ (a : KeptOrigin). a.origin.0 == n) (map origin_with (enumerate_from (start + 1) ts))
        ≡ Some (origin_with (n, get_or ts (n - (start + 1)) 0)))
        → (if b then Some (origin_with (start, t))
        else find (λ (a : KeptOrigin). a.origin.0 == n) (map origin_with (enumerate_from (start + 1) ts)))
        ≡ Some (origin_with (n, get_or (t ∷ ts) (n - start) 0))
    choose true is rest =
        let same : start ≡ n = eqb-true start n is in
        let none : n - start ≡ 0 = omega (arith, same) in
        ap (λ i. Some (origin_with (start, get_or (t ∷ ts) i 0))) (sym none)
        ∙ ap (λ m. Some (origin_with (m, get_or (t ∷ ts) (n - start) 0))) same
    choose false is rest =
        let apart : start ≢ n = λ same. absurd (true≢false (sym (eq-eqb start n same) ∙ is)) in
        let more : n - start ≡ suc (n - (start + 1)) = omega (arith, first, apart) in
        rest (omega (arith, first, apart))
        ∙ ap (λ i. Some (origin_with (n, get_or (t ∷ ts) i 0))) (sym more)

-- the total by a name that is in use
pub total_named : (totals : List ℕ) (kept : Kept) (origin : Slot) → kept.origins ≡ origins_from totals → 0 < origin.0
    → origin.0 ≤ length totals → total_at kept origin ≡ Some (get_or totals (origin.0 - 1) 0)
total_named totals kept origin is some last =
    ap (λ (os : List KeptOrigin). option_map (λ (a : KeptOrigin). a.total)
    (find (λ (a : KeptOrigin). a.origin.0 == origin.0) os)) is
    ∙ ap (option_map (λ (a : KeptOrigin). a.total)) (found_from 1 totals origin.0 (omega arith) (omega (arith, last)))

-- a name that is there is 1 or more, and no more than there are origins
pub name_within : (totals : List ℕ) (n : ℕ)
    → list_any (λ (a : KeptOrigin). a.origin.0 == n) (origins_from totals) ≡ true → (0 < n) × (n ≤ length totals)
name_within totals n there =
    let at = Any-from_list_any (λ (a : KeptOrigin). a.origin.0 == n) (origins_from totals) there in
    let inside : at.0 < length totals = rw (length-origins_from totals) at at.2 in
    let name : 1 + at.0 ≡ n =
    ap (λ (a : KeptOrigin). a.origin.0) (sym (named_at totals at.0 at.1 inside) ∙ at.3)
    ∙ eqb-true at.1.origin.0 n at.4 in
    (omega (arith, name), omega (arith, name, inside))

-- ---- another total

pub origins_set : (totals : List ℕ) (origin : Slot) (total : ℕ) → 0 < origin.0 → origin.0 ≤ length totals
    → origins_from (set totals (origin.0 - 1) total) ≡ map (totaled origin total) (origins_from totals)
origins_set totals origin total some last =
    same_lists (origins_from new) (map (totaled origin total) (origins_from totals)) lengths each
  where
    new : List ℕ
    new = set totals (origin.0 - 1) total

    lengths : length (origins_from new) ≡ length (map (totaled origin total) (origins_from totals))
    lengths =
        length-origins_from new ∙ length-set totals (origin.0 - 1) total ∙ sym (length-origins_from totals)
        ∙ sym (length-map (origins_from totals) (totaled origin total))

    choose : (k : ℕ) → k < length totals → (b : Bool) → ((1 + k) == origin.0) ≡ b
        → origin_with (1 + k, get_or new k 0)
        ≡ (if b then record (origin_with (1 + k, get_or totals k 0)) { total = total }
        else origin_with (1 + k, get_or totals k 0))
    choose k inside true is =
        let here : k ≡ origin.0 - 1 = omega (arith, eqb-true (1 + k) origin.0 is) in
        ap (λ t. origin_with (1 + k, t))
        (ap (λ i. get_or new i 0) here ∙ get_or-set_same totals (origin.0 - 1) total 0 (omega (arith, some, last)))
    choose k inside false is =
        let other : k ≢ origin.0 - 1 =
        λ same. true≢false (sym (eq-eqb (1 + k) origin.0 (omega (arith, same, some))) ∙ is) in
        ap (λ t. origin_with (1 + k, t)) (get_or-set_other totals (origin.0 - 1) k total 0 other)

    each : (k : ℕ) (d : KeptOrigin) → k < length (origins_from new)
        → get_or (origins_from new) k d ≡ get_or (map (totaled origin total) (origins_from totals)) k d
    each k d within =
        let inside : k < length totals =
        omega (arith, within, length-origins_from new, length-set totals (origin.0 - 1) total) in
        named_at new k d (omega (arith, inside, length-set totals (origin.0 - 1) total))
        ∙ choose k inside ((1 + k) == origin.0) refl
        ∙ ap (totaled origin total) (sym (named_at totals k d inside))
        ∙ sym (get_or-map (totaled origin total) (origins_from totals) k d d
        (omega (arith, inside, length-origins_from totals)))

-- ---- an origin more

pushed_from : (start : ℕ) (totals : List ℕ) (t : ℕ) → map origin_with (enumerate_from start (totals ++ t ∷ []))
    ≡ map origin_with (enumerate_from start totals) ++ origin_with (start + length totals, t) ∷ []
pushed_from start [] t = ap (λ n. origin_with (n, t) ∷ []) (omega arith)
pushed_from start (x ∷ xs) t =
    ap (λ (os : List KeptOrigin). origin_with (start, x) ∷ os)
    (pushed_from (start + 1) xs t
    ∙ ap (λ n. map origin_with (enumerate_from (start + 1) xs) ++ origin_with (n, t) ∷ []) (omega arith))

pub origins_pushed : (totals : List ℕ) → origins_from (grown totals (length totals + 1))
    ≡ origins_from totals ++ origin_with (length totals + 1, 0) ∷ []
origins_pushed totals =
    let one : length totals + 1 - length totals ≡ 1 = omega arith in
    ap (λ n. origins_from (totals ++ replicate n 0)) one ∙ pushed_from 1 totals 0
    ∙ ap (λ n. origins_from totals ++ origin_with (n, 0) ∷ []) (omega arith)

pub length-grown : (totals : List ℕ) (origins : ℕ) → length totals ≤ origins
    → length (grown totals origins) ≡ origins
length-grown totals origins few =
    omega (
      arith,
      length-append totals (replicate (origins - length totals) 0),
      length-replicate {A = ℕ} (origins - length totals) 0,
      few,
    )

-- ---- an origin that goes

-- the last one takes its place
pub length-swap_remove : (totals : List ℕ) (i : ℕ) → length (swap_remove totals i 0) ≡ length totals - 1
length-swap_remove totals i =
    let new : List ℕ = set totals i (get_or totals (length totals - 1) 0) in
    omega (
      arith,
      length-take (length totals - 1) new,
      length-set totals i (get_or totals (length totals - 1) 0),
    )

pub swapped_here : (totals : List ℕ) (i : ℕ) → i < length totals - 1
    → get_or (swap_remove totals i 0) i 0 ≡ get_or totals (length totals - 1) 0
swapped_here totals i inside =
    let last : ℕ = get_or totals (length totals - 1) 0 in
    get_or-take (length totals - 1) (set totals i last) i 0 inside
    ∙ get_or-set_same totals i last 0 (omega (arith, inside))

pub swapped_other : (totals : List ℕ) (i k : ℕ) → k < length totals - 1 → k ≢ i
    → get_or (swap_remove totals i 0) k 0 ≡ get_or totals k 0
swapped_other totals i k inside other =
    let last : ℕ = get_or totals (length totals - 1) 0 in
    get_or-take (length totals - 1) (set totals i last) k 0 inside
    ∙ get_or-set_other totals i k last 0 other
