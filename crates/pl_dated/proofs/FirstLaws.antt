-- What is kept of the first visits, as visits are added.
use Rattle.std.proofs.Common.{◌≡◌, ◌∙◌, ◌≤◌, ◌<◌, ◌-◌, ◌++◌, IfSome, ℕ, true, false, List, [], ◌∷◌, Option, Some}
use Rattle.std.proofs.Common.{None, ap, append_assoc, arith, length, map, nat_lt, refl, subst, sym}
use Rattle.std.specs.List.{AllByRecursion, slice_get}
use Rattle.std.specs.Option.{option_map}
use Rattle.std.proofs.lemmas.Bool.{false≢true}
use Rattle.std.proofs.lemmas.Bool.Decides.{nat_tests}
use Rattle.std.proofs.lemmas.List.{append-nil, length-append, length-take-le, map-append}
use Rattle.std.proofs.lemmas.List.Elements.{All-from_recursion, recursion_from_All}
use Rattle.std.proofs.lemmas.List.Sorted.{length_permutation}
use Rattle.pl_base.specs.declared.date.Micros.{Micros}
use Rattle.pl_base.specs.Sorting.{sorted_by}
use Rattle.pl_base.proofs.ListLaws.{all_push, weaker}
use Rattle.pl_base.proofs.SortLaws.{Ascends, ascends_sorted_by, for_all, order_of_all, sorted_moves}
use Rattle.pl_indexed.proofs.SortedParts.{ascends_front}
use Rattle.pl_query.proofs.PartLists.{to_front}
use Rattle.pl_dated.specs.declared.first.First.{First}
use Rattle.pl_dated.specs.declared.first.FoundVisit.{FoundVisit}
use Rattle.pl_dated.specs.Latest.{AreApart, IsFloor, Keeps, Seen, first_seen, is_past_floor, last_date, seen}
use Rattle.pl_dated.specs.Latest.{seen_before}
use Rattle.pl_dated.proofs.SeenOrder.{before_later, later_before, seen_ranks}
use Rattle.pl_dated.proofs.SkipLaws.{apart_behind, apart_cut, apart_front, apart_moved, cut, left_out}
use Rattle.std.proofs.lemmas.List.{take-append-drop}
use Rattle.std.proofs.Common.{drop}

-- ---- none yet

pub keeps_none : (most : ℕ) (first : First) → first.most ≡ most → first.found.items ≡ [] → first.floor ≡ None
    → Keeps most first []
keeps_none most first is none no_floor =
    record {
      most_is = is;
      alike = λ others apart. ap (λ (fs : List FoundVisit). first_seen most (map seen fs ++ others)) none;
      apart = λ others apart. subst (λ (fs : List FoundVisit). AreApart (map seen fs ++ others)) (sym none) apart;
      floor =
          λ apart.
          subst (λ (o : Option Micros). IfSome o (IsFloor most (map seen first.found.items))) (sym no_floor) tt;
    }

-- ---- one more

module _ (most : ℕ) (old new : First) (f : FoundVisit) (visits : List Seen) (k : Keeps most old visits)
    (late : is_past_floor old.floor f.date ≡ false) (more : new.found.items ≡ old.found.items ++ f ∷ [])
    (most_stays : new.most ≡ old.most) (floor_stays : new.floor ≡ old.floor) where
  found_more : (others : List Seen)
      → map seen new.found.items ++ others ≡ map seen old.found.items ++ (seen f ∷ others)
  found_more others =
      ap (λ (fs : List FoundVisit). map seen fs ++ others) more
      ∙ ap (λ (ss : List Seen). ss ++ others) (map-append seen old.found.items (f ∷ []))
      ∙ append_assoc (map seen old.found.items) (seen f ∷ []) others

  visits_more : (others : List Seen) → (visits ++ seen f ∷ []) ++ others ≡ visits ++ (seen f ∷ others)
  visits_more others = append_assoc visits (seen f ∷ []) others

  floor_more : (o : Option Micros) → is_past_floor o f.date ≡ false → IfSome o (IsFloor most (map seen old.found.items))
      → IfSome o (IsFloor most (map seen old.found.items ++ seen f ∷ []))
  floor_more None late floor = tt
  floor_more (Some date) late floor =
      let long = length-append (map seen old.found.items) (seen f ∷ []) in
      let many = floor.0 in (
        omega (arith, long, many),
        All-from_recursion (λ (s : Seen). is_past_floor (Some date) s.date ≡ false)
            (map seen old.found.items ++ seen f ∷ [])
            (all_push (λ (s : Seen). is_past_floor (Some date) s.date ≡ false) (map seen old.found.items) (seen f)
            (recursion_from_All (λ (s : Seen). is_past_floor (Some date) s.date ≡ false) (map seen old.found.items)
            floor.1)
            late),
      )

  pub keeps_more : Keeps most new (visits ++ seen f ∷ [])
  keeps_more =
      record {
        most_is = most_stays ∙ k.most_is;
        alike =
            λ others apart.
            ap (first_seen most) (found_more others)
            ∙ k.alike (seen f ∷ others) (subst AreApart (visits_more others) apart)
            ∙ ap (first_seen most) (sym (visits_more others));
        apart =
            λ others apart.
            subst AreApart (sym (found_more others))
            (k.apart (seen f ∷ others) (subst AreApart (visits_more others) apart));
        floor =
            λ apart.
            subst (λ (o : Option Micros). IfSome o (IsFloor most (map seen new.found.items))) (sym floor_stays)
            (subst (λ (ss : List Seen). IfSome old.floor (IsFloor most ss))
            (sym (ap (map seen) more ∙ map-append seen old.found.items (f ∷ [])))
            (floor_more old.floor late (k.floor (apart_front seen_before seen_ranks visits (seen f ∷ []) apart))));
      }

-- ---- those beyond the first go

not_earlier : (a b : ℕ) → a ≤ b → nat_lt b a ≡ false
not_earlier a b le = grind (arith, nat_tests, le)

-- the last of some visits
abbrev last_of : Seen → List Seen → Seen
last_of s [] = s
last_of s (t ∷ visits) = last_of t visits

last_there : (s : Seen) (visits : List Seen) → slice_get (s ∷ visits) (length visits) ≡ Some (last_of s visits)
last_there s [] = refl
last_there s (t ∷ visits) = last_there t visits

last_date_is : (s : Seen) (visits : List Seen) → last_date (s ∷ visits) ≡ Some (last_of s visits).date
last_date_is s visits =
    let index : length (s ∷ visits) - 1 ≡ length visits = omega arith in
    ap (λ (n : ℕ). option_map (λ (x : Seen). x.date) (slice_get (s ∷ visits) n)) index
    ∙ ap (option_map (λ (x : Seen). x.date)) (last_there s visits)

none_before_last : (s : Seen) (visits : List Seen) → Ascends seen_before (s ∷ visits)
    → AllByRecursion (λ (x : Seen). is_past_floor (Some (last_of s visits).date) x.date ≡ false) (s ∷ visits)
none_before_last s [] up = (not_earlier s.date.0 s.date.0 (omega arith), tt)
none_before_last s (t ∷ visits) up = choose (none_before_last t visits up.1)
  where
    back : (a b c : ℕ) → nat_lt b a ≡ false → b ≤ c → nat_lt c a ≡ false
    back a b c late le = grind (arith, nat_tests, late, le)

    choose : AllByRecursion (λ (x : Seen). is_past_floor (Some (last_of t visits).date) x.date ≡ false) (t ∷ visits)
        → AllByRecursion (λ (x : Seen). is_past_floor (Some (last_of t visits).date) x.date ≡ false) (s ∷ t ∷ visits)
    choose rest =
        (back (last_of t visits).date.0 t.date.0 s.date.0 rest.0 (before_later s t up.0.0), rest)

none_earlier : (visits : List Seen) → Ascends seen_before visits
    → IfSome (last_date visits) (λ (date : Micros). AllByRecursion (λ (s : Seen). is_past_floor (Some date) s.date ≡ false) visits)
none_earlier [] up = tt
none_earlier (s ∷ visits) up =
    subst
    (λ (o : Option Micros).
    IfSome o (λ (date : Micros). AllByRecursion (λ (x : Seen). is_past_floor (Some date) x.date ≡ false) (s ∷ visits)))
    (sym (last_date_is s visits)) (none_before_last s visits up)

module _ (most : ℕ) (old new : First) (visits : List Seen) (k : Keeps most old visits)
    (many : most ≤ length (map seen old.found.items))
    (first_are : AreApart (map seen old.found.items)
    → map seen new.found.items ≡ first_seen most (map seen old.found.items))
    (most_stays : new.most ≡ old.most) (floor_is : new.floor ≡ last_date (map seen new.found.items)) where
  abbrev was : List Seen
  was = map seen old.found.items

  apart_was : (others : List Seen) → AreApart (visits ++ others) → AreApart was
  apart_was others apart = apart_front seen_before seen_ranks was others (k.apart others apart)

  floor_cut : AreApart was → IfSome (last_date (first_seen most was)) (IsFloor most (first_seen most was))
  floor_cut apart =
      choose (last_date (first_seen most was))
      (none_earlier (first_seen most was)
      (ascends_front seen_before (first_seen most was) (drop most (sorted_by seen_before was))
      (subst (Ascends seen_before) (sym (take-append-drop most (sorted_by seen_before was)))
      (ascends_sorted_by (order_of_all seen_before seen_ranks) was (for_all was) apart))))
    where
      full : length (first_seen most was) ≡ most
      full =
          length-take-le most (sorted_by seen_before was)
          (subst (λ (n : ℕ). most ≤ n)
          (sym (length_permutation was (sorted_by seen_before was) (sorted_moves seen_before was))) many)

      choose : (o : Option Micros)
          → IfSome o (λ (date : Micros).
          AllByRecursion (λ (s : Seen). is_past_floor (Some date) s.date ≡ false) (first_seen most was))
          → IfSome o (IsFloor most (first_seen most was))
      choose None all = tt
      choose (Some date) all = (
        subst (λ (n : ℕ). most ≤ n) (sym full) (omega arith),
        All-from_recursion (λ (s : Seen). is_past_floor (Some date) s.date ≡ false) (first_seen most was) all,
      )

  pub keeps_cut : Keeps most new visits
  keeps_cut =
      record {
        most_is = most_stays ∙ k.most_is;
        alike =
            λ others apart.
            ap (λ (ss : List Seen). first_seen most (ss ++ others)) (first_are (apart_was others apart))
            ∙ cut seen_before seen_ranks most was others (k.apart others apart) many
            ∙ k.alike others apart;
        apart =
            λ others apart.
            subst (λ (ss : List Seen). AreApart (ss ++ others)) (sym (first_are (apart_was others apart)))
            (apart_cut seen_before seen_ranks most was others (k.apart others apart));
        floor =
            λ apart.
            let own : AreApart was = apart_was [] (subst AreApart (sym (append-nil visits)) apart) in
            subst (λ (o : Option Micros). IfSome o (IsFloor most (map seen new.found.items))) (sym floor_is)
            (subst (λ (ss : List Seen). IfSome (last_date ss) (IsFloor most ss)) (sym (first_are own)) (floor_cut own));
      }

-- ---- visits that are past over

module _ (most : ℕ) (first : First) (visits past : List Seen) (k : Keeps most first visits)
    (over : AllByRecursion (λ (s : Seen). is_past_floor first.floor s.date ≡ true) past)
    (all_apart : AreApart (visits ++ past)) where
  abbrev found : List Seen
  found = map seen first.found.items

  before_past : (date : ℕ) (s t : Seen) → nat_lt s.date.0 date ≡ false → nat_lt t.date.0 date ≡ true
      → seen_before s t ≡ true
  before_past date s t late early = later_before s t (less date s.date.0 t.date.0 late early)
    where
      less : (a b c : ℕ) → nat_lt b a ≡ false → nat_lt c a ≡ true → c < b
      less a b c late early = grind (arith, nat_tests, late, early)

  apart_past : (others : List Seen) → AreApart ((visits ++ past) ++ others) → AreApart (found ++ (past ++ others))
  apart_past others apart = k.apart (past ++ others) (subst AreApart (append_assoc visits past others) apart)

  left : (others : List Seen) → AreApart (found ++ (past ++ others)) → (o : Option Micros)
      → IfSome o (IsFloor most found)
      → (ts : List Seen) → AllByRecursion (λ (s : Seen). is_past_floor o s.date ≡ true) ts → ts ≡ past
      → first_seen most (found ++ (past ++ others)) ≡ first_seen most (found ++ others)
  left others apart None floor [] none same =
      ap (λ (ss : List Seen). first_seen most (found ++ (ss ++ others))) (sym same)
  left others apart None floor (t ∷ ts) none same = absurd (false≢true none.0)
  left others apart (Some date) floor ts early same =
      left_out seen_before seen_ranks most found past others apart floor.0
      (weaker (λ (t : Seen). is_past_floor (Some date) t.date ≡ true)
      (λ (t : Seen). AllByRecursion (λ (s : Seen). seen_before s t ≡ true) found) past
      (λ t is.
      weaker (λ (s : Seen). is_past_floor (Some date) s.date ≡ false) (λ (s : Seen). seen_before s t ≡ true) found
      (λ s late. before_past date.0 s t late is)
      (recursion_from_All (λ (s : Seen). is_past_floor (Some date) s.date ≡ false) found floor.1))
      (subst (AllByRecursion (λ (t : Seen). is_past_floor (Some date) t.date ≡ true)) same early))

  pub keeps_past : Keeps most first (visits ++ past)
  keeps_past =
      record {
        most_is = k.most_is;
        alike =
            λ others apart.
            sym (left others (apart_past others apart) first.floor
            (k.floor (apart_front seen_before seen_ranks visits past all_apart)) past over refl)
            ∙ k.alike (past ++ others) (subst AreApart (append_assoc visits past others) apart)
            ∙ ap (first_seen most) (sym (append_assoc visits past others));
        apart =
            λ others apart.
            apart_behind seen_before seen_ranks past (found ++ others)
            (apart_moved seen_before seen_ranks (found ++ (past ++ others)) (past ++ (found ++ others))
            (to_front found past others) (apart_past others apart));
        floor = λ apart. k.floor (apart_front seen_before seen_ranks visits past apart);
      }

-- ---- in the end

pub first_kept : (most : ℕ) (first : First) (visits : List Seen) → Keeps most first visits → AreApart visits
    → (told : List Seen)
    → (AreApart (map seen first.found.items) → told ≡ first_seen first.most (map seen first.found.items))
    → told ≡ first_seen most visits
first_kept most first visits k apart told are =
    let all : AreApart (visits ++ []) = subst AreApart (sym (append-nil visits)) apart in
    are
    (subst AreApart (append-nil (map seen first.found.items)) (k.apart [] all))
    ∙ ap (λ (n : ℕ). first_seen n (map seen first.found.items)) k.most_is
    ∙ ap (first_seen most) (sym (append-nil (map seen first.found.items)))
    ∙ k.alike [] all
    ∙ ap (first_seen most) (append-nil visits)
