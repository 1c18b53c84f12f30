-- The walk along the pages by their latest visits, with the visits that are added on it.
use Rattle.std.proofs.Common.{◌≡◌, ◌∙◌, ◌+◌, ◌<◌, ◌++◌, true, false, ℕ, List, [], ◌∷◌, Option, Some, None, ap, drop, get_or}
use Rattle.std.proofs.Common.{length, subst, sym, take}
use Rattle.std.specs.List.{AllByRecursion}
use Rattle.std.specs.Option.{option_copied, option_map_or}
use Rattle.std.proofs.lemmas.List.{append-nil, take-append-drop, take_more}
use Rattle.std.proofs.lemmas.List.Sorted.{IsPermutation-refl}
use denote.Ref.{Bor}
use Rattle.pl_base.specs.declared.view.View.{View}
use Rattle.pl_base.specs.Rows.{IsWellKept, Kept, store_of}
use Rattle.pl_base.proofs.ListLaws.{all-filter, everyone}
use Rattle.pl_base.proofs.LookUps.{where_passes}
use Rattle.pl_base.proofs.SortLaws.{all_sorted}
use Rattle.pl_base.proofs.Walk.{StandsAt, goes_on, holds_here, stands, starts, Walk}
use Rattle.pl_follow.specs.Changes.{AreInOrder}
use Rattle.pl_known.specs.Known.{view_of}
use Rattle.pl_place.specs.declared.query.Query.{Query}
use Rattle.pl_indexed.specs.declared.walk.KeptOrder.TheVariants.{LatestFirst}
use Rattle.pl_indexed.specs.Walk.{goes_ahead, next_in, stands_in}
use Rattle.pl_indexed.proofs.TakenViews.{known_views}
use Rattle.pl_indexed.proofs.WalkOrder.{first_of_all, standing, view_names, views_run, walked, walked_ascends}
use Rattle.pl_dated.specs.declared.first.First.{First}
use Rattle.pl_dated.specs.Latest.{AreApart, Keeps, Seen, seen_before}
use Rattle.pl_dated.specs.Listed.{FirstOf, is_over, part_of, parts_of}
use Rattle.pl_dated.proofs.DatedPages.{IsOfPage}
use Rattle.pl_dated.proofs.PagesJoined.{PagesJoin, page_joined, pages_over, parts_append, parts_moved}
use Rattle.pl_dated.proofs.SeenOrder.{seen_ranks}
use Rattle.pl_dated.proofs.SkipLaws.{apart_front}

-- the pages in front were gone along
abbrev pub OnPages : Kept → Query → List View → First → Option View → Type 0
OnPages kept q views first next =
    Walk (view_names LatestFirst) (walked LatestFirst views) (PagesJoin kept q views first) next

-- what a page adds
abbrev pub Adds : Kept → Query → View → First → First → Type 0
Adds kept q view now new =
    (most : ℕ) (visits : List Seen) → Keeps most now visits → AreApart (visits ++ part_of kept q view)
    → Keeps most new (visits ++ part_of kept q view)

module _ (kept : Kept) (q : Query) (h : IsWellKept kept) (views : List View) (ordered : AreInOrder views)
    (of : AllByRecursion (IsOfPage (store_of kept)) views) where
  pub begins : (first : First) (next : Option View) → Keeps q.max_results first [] → next ≡ next_in LatestFirst None views
      → OnPages kept q views first next
  begins first next none is =
      starts (view_names LatestFirst) (walked LatestFirst views) (PagesJoin kept q views first) next
      (is ∙ first_of_all LatestFirst views ordered) (λ apart. none)

  -- all pages were gone along
  pub all_walked : (first : First) → PagesJoin kept q views first (walked LatestFirst views) → FirstOf kept q views first
  all_walked first join =
      record { visits = parts_of kept q (walked LatestFirst views); moves = parts_moved kept q h views of; keeps = join }

  module _ (first : First) (next : Option (Bor View)) (view : Bor View)
      (w : OnPages kept q views first (option_copied next)) (at : next ≡ Some view) where
    here : StandsAt (view_names LatestFirst) (walked LatestFirst views) (PagesJoin kept q views first) view.now
    here =
        stands (view_names LatestFirst) (walked LatestFirst views) (PagesJoin kept q views first) (option_copied next)
        view.now w (ap option_copied at)

    pub known_here : view_of view.now.id views ≡ Some view.now
    known_here =
        subst (λ (v : View). view_of v.id views ≡ Some v) here.is
        (holds_here (view_names LatestFirst) (walked LatestFirst views) (PagesJoin kept q views first)
        (λ (v : View). view_of v.id views ≡ Some v) view.now
        (all_sorted (goes_ahead LatestFirst) (λ (v : View). view_of v.id views ≡ Some v) (standing LatestFirst views)
        (all-filter (λ (v : View). view_of v.id views ≡ Some v) (stands_in LatestFirst) views
        (known_views views ordered)))
        here)

    pub stands_here : stands_in LatestFirst view.now ≡ true
    stands_here =
        subst (λ (v : View). stands_in LatestFirst v ≡ true) here.is
        (holds_here (view_names LatestFirst) (walked LatestFirst views) (PagesJoin kept q views first)
        (λ (v : View). stands_in LatestFirst v ≡ true) view.now
        (all_sorted (goes_ahead LatestFirst) (λ (v : View). stands_in LatestFirst v ≡ true) (standing LatestFirst views)
        (where_passes (λ (v : View). stands_in LatestFirst v ≡ true) (stands_in LatestFirst) views
        (everyone (λ (v : View). stands_in LatestFirst v ≡ true → stands_in LatestFirst v ≡ true) views (λ v is. is))))
        here)

    pub over_here : option_map_or (is_over (store_of kept) q first.floor) view.now.last false ≡ true
        → FirstOf kept q views first
    over_here over =
        all_walked first
        (pages_over kept q h views of first here.front here.element here.rest here.whole
        (walked_ascends LatestFirst views ordered)
        (subst (λ (v : View). option_map_or (is_over (store_of kept) q first.floor) v.last false ≡ true) (sym here.is)
        over)
        here.so_far)

    pub goes_further : (new : First) (further : Option View) → Adds kept q view.now first new
        → further ≡ next_in LatestFirst (Some view.now) views → OnPages kept q views new further
    goes_further new further adds is =
        goes_on (view_names LatestFirst) (λ (v : View). next_in LatestFirst (Some v) views) (walked LatestFirst views)
        (PagesJoin kept q views first) (PagesJoin kept q views new) view.now further
        (views_run LatestFirst views ordered) here is
        (page_joined kept q h views of first new here.front here.element here.rest here.whole here.so_far
        (subst (λ (v : View). Adds kept q v first new) (sym here.is) adds))

-- ---- all pages by their ids

module _ (kept : Kept) (q : Query) (h : IsWellKept kept) (views : List View) where
  abbrev pub FrontJoins : First → List View → Type 0
  FrontJoins first front = AreApart (parts_of kept q views) → Keeps q.max_results first (parts_of kept q front)

  pub one_more : (now new : First) (gone_over : List View) (k : ℕ) (v : View) → gone_over ≡ views
      → k < length gone_over → v ≡ get_or gone_over k v → FrontJoins now (take k views) → Adds kept q v now new
      → FrontJoins new (take (k + 1) views)
  one_more now new gone_over k v same within is so_far adds apart =
      let here : k < length views = subst (λ (vs : List View). k < length vs) same within in
      let one : take (k + 1) views ≡ take k views ++ v ∷ [] =
      take_more views k v here
      ∙ ap (λ (w : View). take k views ++ w ∷ []) (sym (is ∙ ap (λ (vs : List View). get_or vs k v) same)) in
      let parts : parts_of kept q (take (k + 1) views) ≡ parts_of kept q (take k views) ++ part_of kept q v =
      ap (parts_of kept q) one ∙ parts_append kept q h (take k views) (v ∷ [])
      ∙ ap (λ (ss : List Seen). parts_of kept q (take k views) ++ ss) (append-nil (part_of kept q v)) in
      let whole : parts_of kept q views ≡ parts_of kept q (take (k + 1) views) ++ parts_of kept q (drop (k + 1) views) =
      ap (parts_of kept q) (sym (take-append-drop (k + 1) views))
      ∙ parts_append kept q h (take (k + 1) views) (drop (k + 1) views) in
      subst (Keeps q.max_results new) (sym parts)
      (adds q.max_results (parts_of kept q (take k views)) (so_far apart)
      (subst AreApart parts
      (apart_front seen_before seen_ranks (parts_of kept q (take (k + 1) views)) (parts_of kept q (drop (k + 1) views))
      (subst AreApart whole apart))))

  pub all_gone_over : (first : First) → FrontJoins first views → FirstOf kept q views first
  all_gone_over first join =
      record { visits = parts_of kept q views; moves = IsPermutation-refl (parts_of kept q views); keeps = join }
