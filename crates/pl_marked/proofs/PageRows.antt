-- The rows of the bookmarks of pages, one page behind the other, and of the page with a URL.
use Rattle.std.proofs.Common.{◌≡◌, ◌≢◌, ◌∙◌, ◌++◌, ◌+◌, ◌<◌, ◌||◌, ℕ, Bool, true, false, List, [], ◌∷◌}
use Rattle.std.proofs.Common.{Option, Some, ap, bytes_eq, find, get_or, if◌then◌else◌, length, map, not, refl}
use Rattle.std.proofs.Common.{subst, sym, take}
use Rattle.std.specs.List.{AllByRecursion, AllPairs, flat_map}
use Rattle.std.specs.List.Sorted.{IsPermutation}
use Rattle.std.specs.Option.{option_to_list}
use Rattle.std.proofs.lemmas.Bool.{and_parts, false≢true, false_from_ne_true}
use Rattle.std.proofs.lemmas.List.{append-nil, flat_map_more, take_more}
use Rattle.std.proofs.lemmas.Slice.Eq.{bytes_eq-Decides}
use Rattle.pl_base.specs.declared.view.View.{View}
use Rattle.pl_base.specs.Address.{is_place_url}
use Rattle.pl_base.specs.Rows.{IsWellKept, Kept, KeptPage, page_at, store_of}
use Rattle.pl_base.specs.Store.{Page}
use Rattle.pl_base.specs.Tags.{is_bookmarked}
use Rattle.pl_base.specs.View.{AreViews, AreViewsOf, IsViewOf}
use Rattle.pl_base.proofs.ListLaws.{weaker}
use Rattle.pl_base.proofs.LookUps.{found_self}
use Rattle.pl_base.proofs.PageLaws.{pages_apart}
use Rattle.pl_base.proofs.ReferencesRun.{having}
use Rattle.pl_conditions.specs.Conditions.{has_tags_asked, is_uri, page_holds}
use Rattle.pl_follow.specs.Changes.{AreInOrder}
use Rattle.pl_follow.proofs.ChangedLists.{Pairs, pairs}
use Rattle.pl_indexed.proofs.TakenViews.{known_views}
use Rattle.pl_known.specs.Known.{view_of}
use Rattle.pl_place.specs.declared.kinds.QueryType.TheVariants.{Bookmarks}
use Rattle.pl_place.specs.declared.kinds.ResultType.TheVariants.{Pages}
use Rattle.pl_place.specs.declared.query.Query.{Query}
use Rattle.pl_query.specs.Candidates.{mark_subject, marks_part, wanted_marks}
use Rattle.pl_query.specs.Order.{Row}
use Rattle.pl_query.specs.QueryAnswer.{bookmark_rows}
use Rattle.pl_query.proofs.AllParts.{rows_moved}
use Rattle.pl_query.proofs.PageParts.{added_more, added_none, marks_if, marks_unwanted}
use Rattle.pl_marked.specs.declared.found.Found.{Found}
use Rattle.pl_marked.specs.Found.{AreAdded, AreFound, HaveViews, found_candidate}
use Rattle.pl_marked.specs.Listed.{Lists, view_rows}
use Rattle.pl_marked.proofs.MarksAdded.{none_wanted}
use Rattle.pl_marked.proofs.OwnViews.{page_found}

-- ---- one more

pub next_taken : {X : Type 0} (xs gone_over : List X) (k : ℕ) (x d : X) → gone_over ≡ xs → k < length gone_over
    → x ≡ get_or gone_over k d → take (k + 1) xs ≡ take k xs ++ x ∷ []
next_taken xs gone_over k x d same within is =
    take_more xs k d (subst (λ ys. k < length ys) same within)
    ∙ ap (λ y. take k xs ++ y ∷ []) (sym (is ∙ ap (λ ys. get_or ys k d) same))

-- the rows of one more joined the others
pub rows_more : {X : Type 0} (kept : Kept) (q : Query) (rows : X → List Row) (old now new : List Found)
    (front : List X) (x : X) → AreAdded kept q old now (flat_map rows front) → AreAdded kept q now new (rows x)
    → AreAdded kept q old new (flat_map rows (front ++ x ∷ []))
rows_more kept q rows old now new front x so_far more =
    added_more mark_subject (store_of kept) q.sort (map found_candidate old) (map found_candidate now)
    (map found_candidate new) (flat_map rows front) (rows x) (flat_map rows (front ++ x ∷ [])) so_far more
    (sym (flat_map_more rows [] front x))

pub none_more : (kept : Kept) (q : Query) (old : List Found) (rows : List Row) → rows ≡ []
    → AreAdded kept q old old rows
none_more kept q old rows none = added_none mark_subject (store_of kept) q.sort (map found_candidate old) rows none

-- ---- a page

module _ (kept : Kept) (q : Query) where
  page_rows : (view : View) (p : KeptPage) → page_at kept view.id ≡ Some p
      → view_rows kept q view ≡ marks_part kept q p
  page_rows view p at =
      ap (λ (o : Option KeptPage). flat_map (marks_part kept q) (option_to_list o)) at ∙ append-nil (marks_part kept q p)

  module _ (view : View) (p : KeptPage) (at : page_at kept view.id ≡ Some p) where
    pub not_bookmarked : IsViewOf (store_of kept) p.page view → view.bookmarked ≡ false → view_rows kept q view ≡ []
    not_bookmarked of none =
        page_rows view p at
        ∙ marks_unwanted kept q view.id p at
        (none_wanted kept q view.id
        (ap (is_bookmarked (store_of kept)) of.id ∙ sym of.bookmarked ∙ none))

    pub not_held : false ≡ page_holds (store_of kept) q p.page → view_rows kept q view ≡ []
    not_held is = page_rows view p at ∙ marks_if kept q view.id p false at is

    pub held : true ≡ page_holds (store_of kept) q p.page
        → view_rows kept q view ≡ wanted_marks kept q p (having kept.items view.id)
    held is = page_rows view p at ∙ marks_if kept q view.id p true at is

  -- ---- all pages

  views_rows : (pages : List KeptPage) (vs : List View) → AreViews (store_of kept) (map (λ (p : KeptPage). p.page) pages) vs
      → AllByRecursion (λ (p : KeptPage). page_at kept p.page.id ≡ Some p) pages
      → flat_map (view_rows kept q) vs ≡ flat_map (marks_part kept q) pages
  views_rows [] [] of all = refl
  views_rows [] (v ∷ vs) of all = absurd of
  views_rows (p ∷ ps) [] of all = absurd of
  views_rows (p ∷ ps) (v ∷ vs) of all =
      ap (λ (rows : List Row). rows ++ flat_map (view_rows kept q) vs)
      (page_rows v p (ap (page_at kept) of.0.id ∙ all.0))
      ∙ ap (λ (rows : List Row). marks_part kept q p ++ rows) (views_rows ps vs of.1 all.1)

  module _ (h : IsWellKept kept) (views : List View) (of : AreViewsOf (store_of kept) views) where
    views_moved : IsPermutation (bookmark_rows (store_of kept) q) (flat_map (view_rows kept q) views)
    views_moved =
        subst (IsPermutation (bookmark_rows (store_of kept) q))
        (sym (views_rows kept.pages views of
        (found_self (λ (p : KeptPage). p.page.id.0) kept.pages (pages_apart kept h))))
        (rows_moved Bookmarks Pages kept q h)

    pub all_listed : (found : List Found) → AreFound kept q (flat_map (view_rows kept q) views) found
        → HaveViews kept found → Lists kept q found
    all_listed found are own =
        record { rows = flat_map (view_rows kept q) views; moves = views_moved; are = are; views = own }

    -- ---- the page with a URL

    module _ (url : List ℕ) (asked : q.uri ≡ Some url) where
      uri_holds : (p : Page) → page_holds (store_of kept) q p ≡ true → is_uri q.uri p.url ≡ true
      uri_holds p all =
          let kind = and_parts _ (not q.exclude_queries || not (is_place_url p.url)) all in
          let tags = and_parts _ (has_tags_asked (store_of kept) q.tags q.not_tags p.id) kind.0 in
          (and_parts _ (is_uri q.uri p.url) tags.0).1

      other_rows : (v : View) → view_of v.id views ≡ Some v → v.url ≢ url → view_rows kept q v ≡ []
      other_rows v seen other =
          let found = page_found kept views of v.id v seen in
          not_held v found.0 found.1
          (sym (false_from_ne_true (page_holds (store_of kept) q found.0.page)
          (λ holds.
          other (found.2.url
          ∙ (bytes_eq-Decides found.0.page.url url).0
          (ap (λ (uri : Option (List ℕ)). is_uri uri found.0.page.url) (sym asked)
          ∙ uri_holds found.0.page holds)))))

      none_with_url : (vs : List View) → AllByRecursion (λ (v : View). view_of v.id views ≡ Some v) vs
          → AllByRecursion (λ (v : View). v.url ≢ url) vs → flat_map (view_rows kept q) vs ≡ []
      none_with_url [] seen others = refl
      none_with_url (v ∷ vs) seen others =
          ap (λ (rows : List Row). rows ++ flat_map (view_rows kept q) vs) (other_rows v seen.0 others.0)
          ∙ none_with_url vs seen.1 others.1

      one_with_url : (vs : List View) → AllByRecursion (λ (v : View). view_of v.id views ≡ Some v) vs
          → Pairs (λ (v w : View). v.url ≢ w.url) vs
          → flat_map (view_rows kept q) vs
          ≡ flat_map (view_rows kept q) (option_to_list (find (λ (v : View). bytes_eq v.url url) vs))
      one_with_url [] seen apart = refl
      one_with_url (v ∷ vs) seen apart = choose (bytes_eq v.url url) refl (one_with_url vs seen.1 apart.1)
        where
          choose : (b : Bool) → bytes_eq v.url url ≡ b
              → flat_map (view_rows kept q) vs
              ≡ flat_map (view_rows kept q) (option_to_list (find (λ (w : View). bytes_eq w.url url) vs))
              → view_rows kept q v ++ flat_map (view_rows kept q) vs
              ≡ flat_map (view_rows kept q)
              (option_to_list (if b then Some v else find (λ (w : View). bytes_eq w.url url) vs))
          choose true is rest =
              ap (λ (rows : List Row). view_rows kept q v ++ rows)
              (none_with_url vs seen.1
              (weaker (λ (w : View). v.url ≢ w.url) (λ (w : View). w.url ≢ url) vs
              (λ w other same. other ((bytes_eq-Decides v.url url).0 is ∙ sym same)) apart.0))
          choose false is rest =
              ap (λ (rows : List Row). rows ++ flat_map (view_rows kept q) vs)
              (other_rows v seen.0
              (λ same. false≢true (sym is ∙ (bytes_eq-Decides v.url url).1 same)))
              ∙ rest

      -- what is found by the URL is all that the query lists
      pub url_listed : AreInOrder views → AllPairs (λ (v w : View). v.url ≢ w.url) views → (view : Option View)
          → view ≡ find (λ (v : View). bytes_eq v.url url) views → (found : List Found)
          → AreFound kept q (flat_map (view_rows kept q) (option_to_list view)) found → HaveViews kept found
          → Lists kept q found
      url_listed ordered apart view told found are own =
          record {
            rows = flat_map (view_rows kept q) (option_to_list view);
            moves =
                subst (IsPermutation (bookmark_rows (store_of kept) q))
                (one_with_url views (known_views views ordered) (pairs (λ (v w : View). v.url ≢ w.url) views apart)
                ∙ ap (λ (o : Option View). flat_map (view_rows kept q) (option_to_list o)) (sym told))
                views_moved;
            are = are;
            views = own;
          }
