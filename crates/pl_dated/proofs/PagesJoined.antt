-- The visits to the pages of views, as the pages are gone along from the latest visit on.
use Rattle.std.proofs.Common.{◌≡◌, ◌≢◌, ◌∙◌, ◌≤◌, ◌++◌, ℕ, Bool, true, false, List, [], ◌∷◌, Option, Some, None, Ordering}
use Rattle.std.proofs.Common.{ap, append_assoc, arith, if◌then◌else◌, is_some, nat_cmp, refl, subst, sym}
use Rattle.std.specs.declared.cmp.Ordering.TheVariants.{Less, Equal, Greater}
use Rattle.std.specs.List.{AllByRecursion}
use Rattle.std.specs.List.Sorted.{IsPermutation}
use Rattle.std.specs.Option.{option_map_or}
use Rattle.std.proofs.lemmas.Bool.{false≢true}
use Rattle.std.proofs.lemmas.Bool.Decides.{nat_tests}
use Rattle.std.proofs.lemmas.Grind.{flat_map-append}
use Rattle.std.proofs.lemmas.List.{append-nil}
use Rattle.pl_base.specs.declared.date.Micros.{Micros}
use Rattle.pl_base.specs.declared.view.View.{View}
use Rattle.pl_base.specs.Rows.{IsWellKept, Kept, page_visits, store_of}
use Rattle.pl_base.specs.Store.{Store, Visit}
use Rattle.pl_base.proofs.ListLaws.{all_append, weaker}
use Rattle.pl_base.proofs.LookUps.{both, rest_of, where_passes}
use Rattle.pl_base.proofs.SortLaws.{Ascends, all_sorted}
use Rattle.pl_marks.proofs.DatedVisits.{visits_in_order}
use Rattle.pl_conditions.specs.Conditions.{in_times}
use Rattle.pl_place.specs.declared.query.Query.{Query}
use Rattle.pl_query.specs.Decides.{decides}
use Rattle.pl_query.specs.Order.{date_cmp}
use Rattle.pl_query.proofs.PartLists.{flat_sorted}
use Rattle.pl_indexed.specs.declared.walk.KeptOrder.TheVariants.{LatestFirst}
use Rattle.pl_indexed.specs.Walk.{goes_ahead, keys_cmp, stands_in}
use Rattle.pl_indexed.proofs.SortedParts.{stands_among}
use Rattle.pl_indexed.proofs.WalkOrder.{not_behind, standing, walked}
use Rattle.pl_dated.specs.declared.first.First.{First}
use Rattle.pl_dated.specs.Latest.{AreApart, Keeps, Seen, seen_before}
use Rattle.pl_dated.specs.Listed.{is_over, part_of, parts_of, seen_visits}
use Rattle.pl_dated.proofs.DatedPages.{IsOfPage, no_visits, up_to_first}
use Rattle.pl_dated.proofs.OverVisits.{AreTimed, AreUpTo, keeps_over, seen_timed, seen_up_to}
use Rattle.pl_dated.proofs.SeenOrder.{seen_ranks}
use Rattle.pl_dated.proofs.SkipLaws.{apart_front}

-- the pages in front in the order of visits were gone along
abbrev pub PagesJoin : Kept → Query → List View → First → List View → Type 0
PagesJoin kept q views first front =
    AreApart (parts_of kept q (walked LatestFirst views)) → Keeps q.max_results first (parts_of kept q front)

module _ (kept : Kept) (q : Query) (h : IsWellKept kept) where
  abbrev store : Store
  store = store_of kept

  part_up_to : (v : View) → IsOfPage store v → (last date : Micros) → v.last ≡ Some last → last.0 ≤ date.0
      → AreUpTo date (part_of kept q v)
  part_up_to v of last date is le = choose (decides q v)
    where
      choose : (b : Bool) → AreUpTo date (if b then seen_visits kept q v (page_visits kept v.id) else [])
      choose true =
          seen_up_to kept q v date (page_visits kept v.id)
          (weaker (λ (w : Visit). w.date.0 ≤ last.0) (λ (w : Visit). w.date.0 ≤ date.0) (page_visits kept v.id)
          (λ w early. omega (arith, early, le))
          (up_to_first (page_visits kept v.id) (visits_in_order kept v.id h) last (sym of ∙ is)))
      choose false = tt

  part_timed : (v : View) → AreTimed store q (part_of kept q v)
  part_timed v = choose (decides q v)
    where
      choose : (b : Bool) → AreTimed store q (if b then seen_visits kept q v (page_visits kept v.id) else [])
      choose true = seen_timed kept q v (page_visits kept v.id)
      choose false = tt

  part_none : (v : View) → IsOfPage store v → stands_in LatestFirst v ≡ false → part_of kept q v ≡ []
  part_none v of out = choose (decides q v)
    where
      none : (o : Option Micros) → is_some o ≡ false → o ≡ None
      none None is = refl
      none (Some date) is = absurd (cc)

      choose : (b : Bool) → (if b then seen_visits kept q v (page_visits kept v.id) else []) ≡ []
      choose true =
          ap (seen_visits kept q v) (no_visits (page_visits kept v.id) (sym of ∙ none v.last out))
      choose false = refl

  -- ---- all of them

  parts_timed : (views : List View) → AreTimed store q (parts_of kept q views)
  parts_timed [] = tt
  parts_timed (v ∷ vs) =
      all_append (λ (s : Seen). in_times store q s.date ≡ true) (part_of kept q v) (parts_of kept q vs) (part_timed v)
      (parts_timed vs)

  -- views that stand in the order of visits, each of a page
  record IsDated (date : Micros) (v : View) : Type 0 where
    of : IsOfPage store v
    last : Micros
    is : v.last ≡ Some last
    back : last.0 ≤ date.0

  parts_up_to : (date : Micros) (views : List View) → AllByRecursion (IsDated date) views
      → AreUpTo date (parts_of kept q views)
  parts_up_to date [] all = tt
  parts_up_to date (v ∷ vs) all =
      all_append (λ (s : Seen). s.date.0 ≤ date.0) (part_of kept q v) (parts_of kept q vs)
      (part_up_to v all.0.of all.0.last date all.0.is all.0.back) (parts_up_to date vs all.1)

  pub parts_append : (vs ws : List View) → parts_of kept q (vs ++ ws) ≡ parts_of kept q vs ++ parts_of kept q ws
  parts_append vs ws = flat_map-append (part_of kept q) vs ws

  -- ---- the walk

  module _ (views : List View) (of : AllByRecursion (IsOfPage store) views) where
    abbrev in_order : List View
    in_order = walked LatestFirst views

    pub page_joined : (now new : First) (front : List View) (v : View) (rest : List View) → in_order ≡ front ++ v ∷ rest
        → PagesJoin kept q views now front
        → ((most : ℕ) (visits : List Seen) → Keeps most now visits → AreApart (visits ++ part_of kept q v)
        → Keeps most new (visits ++ part_of kept q v))
        → PagesJoin kept q views new (front ++ v ∷ [])
    page_joined now new front v rest whole so_far adds apart =
        subst (Keeps q.max_results new)
        (ap (λ (ss : List Seen). parts_of kept q front ++ ss) (sym (append-nil (part_of kept q v)))
        ∙ sym (parts_append front (v ∷ [])))
        (adds q.max_results (parts_of kept q front) (so_far apart)
        (apart_front seen_before seen_ranks (parts_of kept q front ++ part_of kept q v) (parts_of kept q rest)
        (subst AreApart
        (ap (parts_of kept q) whole ∙ parts_append front (v ∷ rest)
        ∙ sym (append_assoc (parts_of kept q front) (part_of kept q v) (parts_of kept q rest)))
        apart)))

    stand : AllByRecursion (λ (v : View). IsOfPage store v × (stands_in LatestFirst v ≡ true)) in_order
    stand =
        all_sorted (goes_ahead LatestFirst) (λ (v : View). IsOfPage store v × (stands_in LatestFirst v ≡ true))
        (standing LatestFirst views)
        (where_passes (λ (v : View). IsOfPage store v × (stands_in LatestFirst v ≡ true)) (stands_in LatestFirst) views
        (weaker (IsOfPage store)
        (λ (v : View). stands_in LatestFirst v ≡ true → IsOfPage store v × (stands_in LatestFirst v ≡ true)) views
        (λ v is out. (is, out)) of))

    dated : (date : Micros) (v : View) → v.last ≡ Some date → (w : View)
        → IsOfPage store w × (stands_in LatestFirst w ≡ true) → keys_cmp LatestFirst v w ≢ Greater → IsDated date w
    dated date v is w stands most = choose w.last refl stands.1
      where
        choose : (o : Option Micros) → w.last ≡ o → is_some o ≡ true → IsDated date w
        choose None none some = absurd (cc)
        choose (Some last) is_last some =
            record {
              of = stands.0;
              last = last;
              is = is_last;
              back =
                  below last.0 date.0
                  (subst (λ (p : Option Micros × Option Micros). date_cmp p.0 p.1 ≢ Greater) (λ i. (is_last i, is i)) most);
            }
          where
            below : (a b : ℕ) → nat_cmp a b ≢ Greater → a ≤ b
            below a b most = le (nat_cmp a b) refl most
              where
                le : (o : Ordering) → nat_cmp a b ≡ o → o ≢ Greater → a ≤ b
                le Less is most = grind (arith, nat_tests, is)
                le Equal is most = grind (arith, nat_tests, is)
                le Greater is most = absurd (most refl)

    -- the pages from one on are over
    pub pages_over : (first : First) (front : List View) (v : View) (rest : List View) → in_order ≡ front ++ v ∷ rest
        → Ascends (goes_ahead LatestFirst) in_order
        → option_map_or (is_over store q first.floor) v.last false ≡ true → PagesJoin kept q views first front
        → PagesJoin kept q views first in_order
    pages_over first front v rest whole up over so_far apart = choose v.last refl over
      where
        parts : parts_of kept q in_order ≡ parts_of kept q front ++ parts_of kept q (v ∷ rest)
        parts = ap (parts_of kept q) whole ∙ parts_append front (v ∷ rest)

        behind : AllByRecursion (λ (w : View). IsOfPage store w × (stands_in LatestFirst w ≡ true)) (v ∷ rest)
        behind =
            rest_of (λ (w : View). IsOfPage store w × (stands_in LatestFirst w ≡ true)) front (v ∷ rest)
            (subst (AllByRecursion (λ (w : View). IsOfPage store w × (stands_in LatestFirst w ≡ true))) whole stand)

        lower : AllByRecursion (λ (w : View). keys_cmp LatestFirst v w ≢ Greater) rest
        lower =
            weaker (λ (w : View). goes_ahead LatestFirst v w ≡ true) (λ (w : View). keys_cmp LatestFirst v w ≢ Greater) rest
            (λ w ahead. not_behind LatestFirst v w ahead)
            (stands_among (goes_ahead LatestFirst) front v rest (subst (Ascends (goes_ahead LatestFirst)) whole up)).ahead_of_all

        itself : (date : Micros) → v.last ≡ Some date → IsDated date v
        itself date is = record { of = behind.0.0; last = date; is = is; back = omega arith }

        choose : (o : Option Micros) → v.last ≡ o → option_map_or (is_over store q first.floor) o false ≡ true
            → Keeps q.max_results first (parts_of kept q in_order)
        choose None is over = absurd (false≢true over)
        choose (Some date) is over =
            subst (Keeps q.max_results first) (sym parts)
            (keeps_over store q q.max_results first (parts_of kept q front) (so_far apart) date over
            (parts_of kept q (v ∷ rest))
            (parts_up_to date (v ∷ rest) (
              itself date is,
              both (λ (w : View). IsOfPage store w × (stands_in LatestFirst w ≡ true))
                  (λ (w : View). keys_cmp LatestFirst v w ≢ Greater) (IsDated date) rest (λ w s l. dated date v is w s l)
                  behind.1 lower,
            ))
            (parts_timed (v ∷ rest)) (subst AreApart parts apart))

    -- the visits to the pages in this order are those to all pages
    pub parts_moved : IsPermutation (parts_of kept q views) (parts_of kept q in_order)
    parts_moved =
        subst (λ (ss : List Seen). IsPermutation ss (parts_of kept q in_order))
        (standing_parts views of)
        (flat_sorted (part_of kept q) (goes_ahead LatestFirst) (standing LatestFirst views))
      where
        standing_parts : (vs : List View) → AllByRecursion (IsOfPage store) vs
            → parts_of kept q (standing LatestFirst vs) ≡ parts_of kept q vs
        standing_parts [] all = refl
        standing_parts (v ∷ vs) all = choose (stands_in LatestFirst v) refl (standing_parts vs all.1)
          where
            choose : (b : Bool) → stands_in LatestFirst v ≡ b
                → parts_of kept q (standing LatestFirst vs) ≡ parts_of kept q vs
                → parts_of kept q (if b then v ∷ standing LatestFirst vs else standing LatestFirst vs)
                ≡ part_of kept q v ++ parts_of kept q vs
            choose true is rest = ap (λ (ss : List Seen). part_of kept q v ++ ss) rest
            choose false is rest =
                rest ∙ ap (λ (ss : List Seen). ss ++ parts_of kept q vs) (sym (part_none v all.0 is))
