-- What one page more makes of the totals.
use Rattle.std.proofs.Common.{◌≡◌, ◌+◌, ◌≤◌, ◌++◌, ◌||◌, ◌∙◌, ℕ, Bool, true, false, List, [], ◌∷◌, ap}
use Rattle.std.proofs.Common.{append_assoc, arith, bytes_eq, filter, if◌then◌else◌, length, map, nat_lt, not, zero}
use Rattle.std.proofs.Common.{refl, sym}
use Rattle.std.specs.List.{list_any, sum_by}
use Rattle.std.proofs.lemmas.Bool.{and_from, and_parts, false_from_ne_true, or_parts}
use Rattle.std.proofs.lemmas.List.{append-nil, length-map, map-append}
use Rattle.std.proofs.lemmas.List.Sums.{count_by-le-length, length-filter, sum_by-append, sum_by-cons, sum_by_push}
use Rattle.std.proofs.lemmas.Slice.Eq.{bytes_eq-Decides}
use Rattle.std.proofs.lemmas.Bool.Decides.{nat_tests}
use Rattle.pl_base.specs.Totals.{Origin, Scored, distinct, group_total, is_in_group, is_origin, origins_of}
use Rattle.pl_base.specs.Totals.{origins_with_total, share, sum_of_totals, total_of}
use Rattle.pl_base.proofs.ListLaws.{sum_by-le}

-- ---- sums

sum_by-filter : {X : Type 0} (p : X → Bool) (f : X → ℕ) (xs : List X)
    → sum_by f (filter p xs) ≡ sum_by (λ x. if p x then f x else 0) xs
sum_by-filter p f [] = refl
sum_by-filter {X} p f (x ∷ xs) =
    choose (p x) (sum_by-filter p f xs) ∙ sym (sum_by-cons (λ y. if p y then f y else 0) x xs)
  where
    choose : (b : Bool) → sum_by f (filter p xs) ≡ sum_by (λ y. if p y then f y else 0) xs
        → sum_by f (if b then x ∷ filter p xs else filter p xs)
        ≡ (if b then f x else 0) + sum_by (λ y. if p y then f y else 0) xs
    choose true rest = sum_by-cons f x (filter p xs) ∙ ap (λ n. f x + n) rest
    choose false rest = omega (arith, rest)

-- ---- origins

pub equal : (a b : Origin) → is_origin a b ≡ true → a ≡ b
equal a b is =
    let parts = and_parts (bytes_eq a.0 b.0) (bytes_eq a.1 b.1) is in
    let first : a.0 ≡ b.0 = (bytes_eq-Decides a.0 b.0).0 parts.0 in
    let second : a.1 ≡ b.1 = (bytes_eq-Decides a.1 b.1).0 parts.1 in
    ap (λ (x : List ℕ). (x, a.1)) first ∙ ap (λ (y : List ℕ). (b.0, y)) second

pub itself : (a : Origin) → is_origin a a ≡ true
itself a =
    and_from (bytes_eq a.0 a.0) (bytes_eq a.1 a.1) ((bytes_eq-Decides a.0 a.0).1 refl)
    ((bytes_eq-Decides a.1 a.1).1 refl)

pub flipped : (a b : Origin) → is_origin a b ≡ false → is_origin b a ≡ false
flipped a b apart =
    false_from_ne_true (is_origin b a) (λ is. let same : b ≡ a = equal b a is in
    let one : is_origin a a ≡ false = ap (is_origin a) (sym same) ∙ apart in
    let two : is_origin a a ≡ true = itself a in
    cc)

-- ---- the sum of anything over distinct origins, with one more

-- h at the origins other than x
abbrev but : Origin → (Origin → ℕ) → Origin → ℕ
but x h y = if not (is_origin y x) then h y else 0

but_same : (x : Origin) (h : Origin → ℕ) (y : Origin) → is_origin y x ≡ true → but x h y ≡ 0
but_same x h y same = ap (λ b. if not b then h y else 0) same

but_other : (x : Origin) (h : Origin → ℕ) (y : Origin) → is_origin y x ≡ false → but x h y ≡ h y
but_other x h y apart = ap (λ b. if not b then h y else 0) apart

distinct-cons : (h : Origin → ℕ) (x : Origin) (os : List Origin)
    → sum_by h (distinct (x ∷ os)) ≡ h x + sum_by (but x h) (distinct os)
distinct-cons h x os =
    sum_by-cons h x (filter (λ other. not (is_origin other x)) (distinct os))
    ∙ ap (λ n. h x + n) (sum_by-filter (λ other. not (is_origin other x)) h (distinct os))

pub distinct-push : (h k : Origin → ℕ) (o : Origin) (os : List Origin)
    → ((x : Origin) → is_origin x o ≡ false → k x ≡ h x)
    → (list_any (λ x. is_origin x o) os ≡ false → h o ≡ 0)
    → sum_by k (distinct (os ++ o ∷ [])) + h o ≡ sum_by h (distinct os) + k o
distinct-push h k o [] agree absent = let none : h o ≡ 0 = absent refl in omega arith
distinct-push h k o (x ∷ xs) agree absent =
    choose (is_origin x o) refl
    (distinct-push (but x h) (but x k) o xs
    (λ y apart. ap (λ n. if not (is_origin y x) then n else 0) (agree y apart)))
  where
    choose : (b : Bool) → is_origin x o ≡ b
        → ((list_any (λ y. is_origin y o) xs ≡ false → but x h o ≡ 0)
        → sum_by (but x k) (distinct (xs ++ o ∷ [])) + but x h o ≡ sum_by (but x h) (distinct xs) + but x k o)
        → sum_by k (distinct (x ∷ (xs ++ o ∷ []))) + h o ≡ sum_by h (distinct (x ∷ xs)) + k o
    choose true is rest =
        let same : x ≡ o = equal x o is in
        let back : is_origin o x ≡ true = ap (is_origin o) same ∙ itself o in
        let old : but x h o ≡ 0 = but_same x h o back in
        let new : but x k o ≡ 0 = but_same x k o back in
        omega (
          arith,
          ap h same,
          ap k same,
          old,
          new,
          distinct-cons k x (xs ++ o ∷ []),
          distinct-cons h x xs,
          rest (λ _. old),
        )
    choose false apart rest =
        let back : is_origin o x ≡ false = flipped x o apart in
        let old : but x h o ≡ h o = but_other x h o back in
        let new : but x k o ≡ k o = but_other x k o back in
        omega (
          arith,
          agree x apart,
          old,
          new,
          distinct-cons k x (xs ++ o ∷ []),
          distinct-cons h x xs,
          rest
              (λ none. old ∙ absent (ap (λ b. b || list_any (λ y. is_origin y o) xs) apart ∙ none)),
        )

-- ---- the total of an origin

abbrev part : Origin → Scored → ℕ
part o s = if is_origin s.0 o then share s.1 else 0

total-sum : (pages : List Scored) (o : Origin) → total_of pages o ≡ sum_by (part o) pages
total-sum pages o = sum_by-filter (λ (s : Scored). is_origin s.0 o) (λ (s : Scored). share s.1) pages

pub total-push : (pages : List Scored) (s : Scored) (o : Origin)
    → total_of (pages ++ s ∷ []) o ≡ total_of pages o + (if is_origin s.0 o then share s.1 else 0)
total-push pages s o =
    omega (arith, total-sum (pages ++ s ∷ []) o, total-sum pages o, sum_by_push (part o) pages s)

total-absent : (pages : List Scored) (o : Origin)
    → list_any (λ x. is_origin x o) (map (λ (s : Scored). s.0) pages) ≡ false → sum_by (part o) pages ≡ 0
total-absent [] o none = refl
total-absent (s ∷ pages) o none =
    let apart = or_parts (is_origin s.0 o) (list_any (λ x. is_origin x o) (map (λ (t : Scored). t.0) pages)) none in
    let nothing : part o s ≡ 0 = ap (λ b. if b then share s.1 else 0) apart.0 in
    omega (arith, sum_by-cons (part o) s pages, nothing, total-absent pages o apart.1)

part-le : (o : Origin) (s : Scored) → part o s ≤ share s.1
part-le o s = choose (is_origin s.0 o)
  where
    choose : (b : Bool) → (if b then share s.1 else 0) ≤ share s.1
    choose true = omega arith
    choose false = omega arith

-- the sum of all shares
abbrev pub shares : List Scored → ℕ
shares pages = sum_by (λ (s : Scored). share s.1) pages

pub total-le : (pages : List Scored) (o : Origin) → total_of pages o ≤ shares pages
total-le pages o =
    omega (arith, total-sum pages o, sum_by-le (part o) (λ (s : Scored). share s.1) pages (part-le o))

-- ---- the sum of what is counted of each total

pushed : (count : Origin → ℕ → ℕ) (pages : List Scored) (s : Scored) → count s.0 0 ≡ 0
    → sum_by (λ x. count x (total_of (pages ++ s ∷ []) x)) (origins_of (pages ++ s ∷ []))
    + count s.0 (total_of pages s.0)
    ≡ sum_by (λ x. count x (total_of pages x)) (origins_of pages) + count s.0 (total_of pages s.0 + share s.1)
pushed count pages s of_zero =
    let origins : map (λ (t : Scored). t.0) (pages ++ s ∷ []) ≡ map (λ (t : Scored). t.0) pages ++ s.0 ∷ []
    = map-append (λ (t : Scored). t.0) pages (s ∷ []) in
    let here : total_of (pages ++ s ∷ []) s.0 ≡ total_of pages s.0 + share s.1
    = total-push pages s s.0 ∙ ap (λ b. total_of pages s.0 + (if b then share s.1 else 0)) (itself s.0) in
    let law = distinct-push (λ x. count x (total_of pages x)) (λ x. count x (total_of (pages ++ s ∷ []) x)) s.0
    (map (λ (t : Scored). t.0) pages)
    (λ x apart. ap (count x) (total-push pages s x
    ∙ ap (λ b. total_of pages x + (if b then share s.1 else 0)) (flipped x s.0 apart)
    ∙ nothing-more (total_of pages x)))
    (λ none. ap (count s.0) (total-sum pages s.0 ∙ total-absent pages s.0 none) ∙ of_zero) in
    omega (
      arith,
      ap (λ (os : List Origin). sum_by (λ x. count x (total_of (pages ++ s ∷ []) x)) (distinct os)) origins,
      ap (count s.0) here,
      law,
    )
  where
    nothing-more : (n : ℕ) → n + 0 ≡ n
    nothing-more n = omega arith

-- ---- the sum of the totals

abbrev positive : Origin → ℕ → ℕ
positive o n = if nat_lt 0 n then n else 0

positive-is : (o : Origin) (n : ℕ) → positive o n ≡ n
positive-is o n = grind (arith, nat_tests)

sums-sum : (pages : List Scored)
    → sum_of_totals pages ≡ sum_by (λ x. positive x (total_of pages x)) (origins_of pages)
sums-sum pages = sum_by-filter (λ o. nat_lt 0 (total_of pages o)) (total_of pages) (origins_of pages)

pub sum-push : (pages : List Scored) (s : Scored)
    → sum_of_totals (pages ++ s ∷ []) ≡ sum_of_totals pages + share s.1
sum-push pages s =
    omega (
      arith,
      sums-sum pages,
      sums-sum (pages ++ s ∷ []),
      pushed positive pages s refl,
      positive-is s.0 (total_of pages s.0),
      positive-is s.0 (total_of pages s.0 + share s.1),
    )

sum-grown : (pages more : List Scored) → sum_of_totals (pages ++ more) ≡ sum_of_totals pages + shares more
sum-grown pages [] = omega (arith, ap sum_of_totals (append-nil pages))
sum-grown pages (s ∷ more) =
    omega (
      arith,
      ap sum_of_totals (sym (append_assoc pages (s ∷ []) more)),
      sum-grown (pages ++ s ∷ []) more,
      sum-push pages s,
      sum_by-cons (λ (t : Scored). share t.1) s more,
    )

pub sum-shares : (pages : List Scored) → sum_of_totals pages ≡ shares pages
sum-shares pages = omega (arith, sum-grown [] pages)

-- ---- how many origins have a total

abbrev one-if : Origin → ℕ → ℕ
one-if o n = if nat_lt 0 n then 1 else 0

count-sum : (pages : List Scored)
    → origins_with_total pages ≡ sum_by (λ x. one-if x (total_of pages x)) (origins_of pages)
count-sum pages = length-filter (λ o. nat_lt 0 (total_of pages o)) (origins_of pages)

pub count-push : (pages : List Scored) (s : Scored)
    → origins_with_total (pages ++ s ∷ []) + (if nat_lt 0 (total_of pages s.0) then 1 else 0)
    ≡ origins_with_total pages + (if nat_lt 0 (total_of pages s.0 + share s.1) then 1 else 0)
count-push pages s =
    omega (arith, count-sum pages, count-sum (pages ++ s ∷ []), pushed one-if pages s refl)

distinct-le : (os : List Origin) → length (distinct os) ≤ length os
distinct-le [] = omega arith
distinct-le (o ∷ os) =
    omega (
      arith,
      length-filter (λ other. not (is_origin other o)) (distinct os),
      count_by-le-length (λ other. not (is_origin other o)) (distinct os),
      distinct-le os,
    )

pub count-le : (pages : List Scored) → origins_with_total pages ≤ length pages
count-le pages =
    omega (
      arith,
      length-filter (λ o. nat_lt 0 (total_of pages o)) (origins_of pages),
      count_by-le-length (λ o. nat_lt 0 (total_of pages o)) (origins_of pages),
      distinct-le (map (λ (s : Scored). s.0) pages),
      length-map pages (λ (s : Scored). s.0),
    )

-- ---- the total of a group

abbrev grouped : List ℕ → Origin → ℕ → ℕ
grouped group o n = if is_in_group group o then n else 0

group-sum : (pages : List Scored) (group : List ℕ)
    → group_total pages group ≡ sum_by (λ x. grouped group x (total_of pages x)) (origins_of pages)
group-sum pages group = sum_by-filter (is_in_group group) (total_of pages) (origins_of pages)

pub group-push : (pages : List Scored) (s : Scored) (group : List ℕ)
    → group_total (pages ++ s ∷ []) group
    ≡ group_total pages group + (if is_in_group group s.0 then share s.1 else 0)
group-push pages s group =
    split (is_in_group group s.0) (group-sum pages group) (group-sum (pages ++ s ∷ []) group)
    (pushed (grouped group) pages s (nothing (is_in_group group s.0)))
  where
    nothing : (b : Bool) → (if b then zero else zero) ≡ zero
    nothing true = refl
    nothing false = refl

    split : (b : Bool) {old new before after : ℕ} → old ≡ before → new ≡ after
        → after + (if b then total_of pages s.0 else 0) ≡ before + (if b then total_of pages s.0 + share s.1 else 0)
        → new ≡ old + (if b then share s.1 else 0)
    split true first second law = omega arith
    split false first second law = omega arith

grouped-le : (pages : List Scored) (group : List ℕ) (o : Origin)
    → grouped group o (total_of pages o) ≤ positive o (total_of pages o)
grouped-le pages group o = choose (is_in_group group o)
  where
    choose : (b : Bool) → (if b then total_of pages o else 0) ≤ positive o (total_of pages o)
    choose true = omega (arith, positive-is o (total_of pages o))
    choose false = omega arith

pub group-le : (pages : List Scored) (group : List ℕ) → group_total pages group ≤ shares pages
group-le pages group =
    omega (
      arith,
      group-sum pages group,
      sums-sum pages,
      sum-shares pages,
      sum_by-le (λ x. grouped group x (total_of pages x)) (λ x. positive x (total_of pages x)) (origins_of pages)
          (grouped-le pages group),
    )

-- ---- a page that stands last in place of among the others

sum-alike : {X : Type 0} (f g : X → ℕ) (xs : List X) → ((x : X) → f x ≡ g x) → sum_by f xs ≡ sum_by g xs
sum-alike f g [] same = refl
sum-alike f g (x ∷ xs) same =
    omega (arith, sum_by-cons f x xs, sum_by-cons g x xs, same x, sum-alike f g xs same)

distinct-moved : (h : Origin → ℕ) (front : List Origin) (o : Origin) (back : List Origin)
    → sum_by h (distinct (front ++ o ∷ back)) ≡ sum_by h (distinct ((front ++ back) ++ o ∷ []))
distinct-moved h [] o back =
    let none : but o h o ≡ 0 = but_same o h o (itself o) in
    let law = distinct-push (but o h) h o back (λ x apart. sym (but_other o h x apart)) (λ _. none) in
    omega (arith, distinct-cons h o back, law, none)
distinct-moved h (x ∷ front) o back =
    omega (
      arith,
      distinct-cons h x (front ++ o ∷ back),
      distinct-cons h x ((front ++ back) ++ o ∷ []),
      distinct-moved (but x h) front o back,
    )

pub total-moved : (front back : List Scored) (s : Scored) (o : Origin)
    → total_of (front ++ s ∷ back) o ≡ total_of ((front ++ back) ++ s ∷ []) o
total-moved front back s o =
    omega (
      arith,
      total-sum (front ++ s ∷ back) o,
      total-sum ((front ++ back) ++ s ∷ []) o,
      sum_by-append (part o) front (s ∷ back),
      sum_by-cons (part o) s back,
      sum_by_push (part o) (front ++ back) s,
      sum_by-append (part o) front back,
    )

moved : (count : Origin → ℕ → ℕ) (front back : List Scored) (s : Scored)
    → sum_by (λ x. count x (total_of (front ++ s ∷ back) x)) (origins_of (front ++ s ∷ back))
    ≡ sum_by (λ x. count x (total_of ((front ++ back) ++ s ∷ []) x)) (origins_of ((front ++ back) ++ s ∷ []))
moved count front back s =
    let name : Scored → Origin = λ (t : Scored). t.0 in
    let h : Origin → ℕ = λ x. count x (total_of ((front ++ back) ++ s ∷ []) x) in
    sum-alike (λ x. count x (total_of (front ++ s ∷ back) x)) h (origins_of (front ++ s ∷ back))
    (λ x. ap (count x) (total-moved front back s x))
    ∙ ap (λ (os : List Origin). sum_by h (distinct os)) (map-append name front (s ∷ back))
    ∙ distinct-moved h (map name front) s.0 (map name back)
    ∙ sym (ap (λ (os : List Origin). sum_by h (distinct os))
    (map-append name (front ++ back) (s ∷ []) ∙ ap (λ (os : List Origin). os ++ s.0 ∷ []) (map-append name front back)))

pub sum-moved : (front back : List Scored) (s : Scored)
    → sum_of_totals (front ++ s ∷ back) ≡ sum_of_totals ((front ++ back) ++ s ∷ [])
sum-moved front back s =
    omega (arith, sums-sum (front ++ s ∷ back), sums-sum ((front ++ back) ++ s ∷ []), moved positive front back s)

pub count-moved : (front back : List Scored) (s : Scored)
    → origins_with_total (front ++ s ∷ back) ≡ origins_with_total ((front ++ back) ++ s ∷ [])
count-moved front back s =
    omega (arith, count-sum (front ++ s ∷ back), count-sum ((front ++ back) ++ s ∷ []), moved one-if front back s)

pub group-moved : (front back : List Scored) (s : Scored) (group : List ℕ)
    → group_total (front ++ s ∷ back) group ≡ group_total ((front ++ back) ++ s ∷ []) group
group-moved front back s group =
    omega (
      arith,
      group-sum (front ++ s ∷ back) group,
      group-sum ((front ++ back) ++ s ∷ []) group,
      moved (grouped group) front back s,
    )

pub shares-push : (pages : List Scored) (s : Scored) → shares (pages ++ s ∷ []) ≡ shares pages + share s.1
shares-push pages s = sum_by_push (λ (t : Scored). share t.1) pages s
