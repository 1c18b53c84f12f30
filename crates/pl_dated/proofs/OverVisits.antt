-- Visits from a date on back that are over, and those to one page, gone along from the latest on.
use Rattle.std.proofs.Common.{◌≡◌, ◌∙◌, ◌≤◌, ◌++◌, ◌||◌, ℕ, Bool, true, false, List, [], ◌∷◌, Option}
use Rattle.std.proofs.Common.{Some, None, ap, append_assoc, arith, filter, if◌then◌else◌, map, nat_lt, not, refl}
use Rattle.std.proofs.Common.{subst, sym}
use Rattle.std.specs.List.{AllByRecursion}
use Rattle.std.proofs.lemmas.Bool.{and_parts, false≢true}
use Rattle.std.proofs.lemmas.Bool.Decides.{nat_tests}
use Rattle.std.proofs.lemmas.List.{append-nil, map-append}
use Rattle.std.proofs.lemmas.List.Elements.{filter-append}
use Rattle.pl_base.specs.declared.date.Micros.{Micros}
use Rattle.pl_base.specs.declared.view.View.{View}
use Rattle.pl_base.specs.Rows.{Kept, page_visits, store_of}
use Rattle.pl_base.specs.Store.{Store, Visit}
use Rattle.pl_base.proofs.ListLaws.{all-filter, everyone, to_map, weaker}
use Rattle.pl_base.proofs.LookUps.{where_passes}
use Rattle.pl_conditions.specs.Conditions.{in_times, is_not_after, is_not_before}
use Rattle.pl_place.specs.declared.query.Query.{Query}
use Rattle.pl_dated.specs.declared.first.First.{First}
use Rattle.pl_dated.specs.Latest.{AreApart, Keeps, Seen, is_past_floor}
use Rattle.pl_dated.specs.Listed.{is_over, seen_of, seen_visits}
use Rattle.pl_dated.proofs.DatedPages.{not_before_on}
use Rattle.pl_dated.proofs.FirstLaws.{keeps_past}

-- ---- dates

past_back : (floor : Option Micros) (a b : Micros) → a.0 ≤ b.0 → is_past_floor floor b ≡ true
    → is_past_floor floor a ≡ true
past_back None a b le past = absurd (false≢true past)
past_back (Some floor) a b le past = back floor.0 a.0 b.0 le past
  where
    back : (f a b : ℕ) → a ≤ b → nat_lt b f ≡ true → nat_lt a f ≡ true
    back f a b le past = grind (arith, nat_tests, le, past)

-- ---- visits that are over

-- visits of this date or an earlier one
abbrev pub AreUpTo : Micros → List Seen → Type 0
AreUpTo date ss = AllByRecursion (λ (s : Seen). s.date.0 ≤ date.0) ss

-- visits within the times
abbrev pub AreTimed : Store → Query → List Seen → Type 0
AreTimed store q ss = AllByRecursion (λ (s : Seen). in_times store q s.date ≡ true) ss

module _ (store : Store) (q : Query) (most : ℕ) (first : First) (visits : List Seen) (k : Keeps most first visits)
    (date : Micros) (over : is_over store q first.floor date ≡ true) where
  pub keeps_over : (ss : List Seen) → AreUpTo date ss → AreTimed store q ss → AreApart (visits ++ ss)
      → Keeps most first (visits ++ ss)
  keeps_over [] up_to timed apart = subst (Keeps most first) (sym (append-nil visits)) k
  keeps_over (s ∷ ss) up_to timed apart =
      keeps_past most first visits (s ∷ ss) k
      (weaker (λ (t : Seen). t.date.0 ≤ date.0) (λ (t : Seen). is_past_floor first.floor t.date ≡ true) (s ∷ ss)
      (λ t le. past_back first.floor t.date date le past) up_to)
      apart
    where
      late : is_not_before store q.begin_time q.begin_ref date ≡ true
      late =
          not_before_on store q.begin_time q.begin_ref s.date date up_to.0
          (and_parts (is_not_before store q.begin_time q.begin_ref s.date)
          (is_not_after store q.end_time q.end_ref s.date) timed.0).0

      past : is_past_floor first.floor date ≡ true
      past = subst (λ (b : Bool). (not b || is_past_floor first.floor date) ≡ true) late over

-- ---- the visits to a page

module _ (kept : Kept) (q : Query) (view : View) where
  abbrev among : Visit → Bool
  among v = in_times (store_of kept) q v.date

  pub seen_append : (vs ws : List Visit)
      → seen_visits kept q view (vs ++ ws) ≡ seen_visits kept q view vs ++ seen_visits kept q view ws
  seen_append vs ws =
      ap (map (seen_of view)) (filter-append among vs ws)
      ∙ map-append (seen_of view) (filter among vs) (filter among ws)

  pub seen_timed : (vs : List Visit) → AreTimed (store_of kept) q (seen_visits kept q view vs)
  seen_timed vs =
      to_map (λ (s : Seen). in_times (store_of kept) q s.date ≡ true) (seen_of view) (filter among vs)
      (where_passes (λ (v : Visit). among v ≡ true) among vs
      (everyone (λ (v : Visit). among v ≡ true → among v ≡ true) vs (λ v is. is)))

  pub seen_up_to : (date : Micros) (vs : List Visit) → AllByRecursion (λ (v : Visit). v.date.0 ≤ date.0) vs
      → AreUpTo date (seen_visits kept q view vs)
  seen_up_to date vs all =
      to_map (λ (s : Seen). s.date.0 ≤ date.0) (seen_of view) (filter among vs)
      (all-filter (λ (v : Visit). v.date.0 ≤ date.0) among vs all)

  -- what joins as the visits in front are gone along
  abbrev pub Joins : First → First → List Visit → Type 0
  Joins old new front =
      (most : ℕ) (visits : List Seen) → Keeps most old visits
      → AreApart (visits ++ seen_visits kept q view (page_visits kept view.id))
      → Keeps most new (visits ++ seen_visits kept q view front)

  pub none_joined : (first : First) → Joins first first []
  none_joined first most visits k apart = subst (Keeps most first) (sym (append-nil visits)) k

  -- one more visit
  pub one_joined : (old now new : First) (front : List Visit) (v : Visit) (s : Seen) → s ≡ seen_of view v
      → Joins old now front
      → ((most : ℕ) (visits : List Seen) → Keeps most now visits
      → Keeps most new (visits ++ filter (λ (t : Seen). in_times (store_of kept) q t.date) (s ∷ [])))
      → Joins old new (front ++ v ∷ [])
  one_joined old now new front v s same so_far adds most visits k apart =
      subst (Keeps most new)
      (append_assoc visits (seen_visits kept q view front)
      (filter (λ (t : Seen). in_times (store_of kept) q t.date) (s ∷ []))
      ∙ ap (λ (ss : List Seen). visits ++ ss)
      (ap (λ (ss : List Seen). seen_visits kept q view front ++ ss) (one (among v) refl)
      ∙ sym (seen_append front (v ∷ []))))
      (adds most (visits ++ seen_visits kept q view front) (so_far most visits k apart))
    where
      one : (b : Bool) → among v ≡ b
          → filter (λ (t : Seen). in_times (store_of kept) q t.date) (s ∷ []) ≡ seen_visits kept q view (v ∷ [])
      one b is =
          ap (λ (t : Seen). filter (λ (u : Seen). in_times (store_of kept) q u.date) (t ∷ [])) same
          ∙ choose (among v)
        where
          choose : (c : Bool) → (if c then seen_of view v ∷ [] else []) ≡ map (seen_of view) (if c then v ∷ [] else [])
          choose true = refl
          choose false = refl

  -- the visits from one on back are over
  pub over_joined : (old now : First) (front : List Visit) (v : Visit) (rest : List Visit)
      → page_visits kept view.id ≡ front ++ v ∷ rest → AllByRecursion (λ (w : Visit). w.date.0 ≤ v.date.0) rest
      → is_over (store_of kept) q now.floor v.date ≡ true → Joins old now front
      → Joins old now (page_visits kept view.id)
  over_joined old now front v rest whole back over so_far most visits k apart =
      subst (Keeps most now) (sym parts)
      (keeps_over (store_of kept) q most now (visits ++ seen_visits kept q view front) (so_far most visits k apart)
      v.date over (seen_visits kept q view (v ∷ rest))
      (seen_up_to v.date (v ∷ rest) (omega arith, back)) (seen_timed (v ∷ rest))
      (subst AreApart parts apart))
    where
      parts : visits ++ seen_visits kept q view (page_visits kept view.id)
          ≡ (visits ++ seen_visits kept q view front) ++ seen_visits kept q view (v ∷ rest)
      parts =
          ap (λ (ss : List Seen). visits ++ ss)
          (ap (seen_visits kept q view) whole ∙ seen_append front (v ∷ rest))
          ∙ sym (append_assoc visits (seen_visits kept q view front) (seen_visits kept q view (v ∷ rest)))
