-- What a title makes of the views, and what it leads to.
use Rattle.std.proofs.Common.{◌≡◌, ◌≢◌, ◌∙◌, ◌<◌, ◌^◌, ◌==◌, inl, inr, if◌then◌else◌, ℕ, Bool, true, false}
use Rattle.std.proofs.Common.{List, [], ◌∷◌, Some, ap, arith, eq-eqb, get_or, length, map, nat_eq, refl, set}
use Rattle.std.proofs.Common.{subst, suc, sym, zero}
use Rattle.std.specs.List.{AllByRecursion, Contains, starts_with}
use Rattle.std.specs.Option.{option_map}
use Rattle.std.proofs.lemmas.Bool.{ne_eqb}
use Rattle.std.proofs.lemmas.List.{length-map}
use Rattle.std.proofs.lemmas.List.Elements.{All-contains, All-from_recursion, All-map, at_from_Contains}
use Rattle.std.proofs.lemmas.List.Sums.{sum_by-cons}
use Rattle.std.proofs.lemmas.Option.{same_Some}
use Rattle.pl_base.specs.declared.change.Change.{Change}
use Rattle.pl_base.specs.declared.id.PageId.{PageId}
use Rattle.pl_base.specs.declared.view.View.{View}
use Rattle.pl_base.specs.Live.{slot_limit}
use Rattle.pl_base.specs.Rows.{IsWellKept, Kept, KeptPage, has_page, page_at, store_of, title_of, titled, with_title}
use Rattle.pl_base.specs.Store.{Page, Store}
use Rattle.pl_base.specs.Totals.{share}
use Rattle.pl_base.specs.View.{AreViews, AreViewsOf, IsViewOf}
use Rattle.pl_base.proofs.Among.{In, all_from_in, at_in}
use Rattle.pl_base.proofs.ListLaws.{AllPairs-map}
use Rattle.pl_base.proofs.LookUps.{found_self, found_some}
use Rattle.pl_base.proofs.PageLaws.{pages_apart}
use Rattle.pl_follow.specs.Changes.{AreInOrder, FitStore, changed}
use Rattle.pl_follow.proofs.Parted.{Ascend, ascend}
use Rattle.pl_known.specs.declared.known.Known.{Known}
use Rattle.pl_known.specs.Changes.{IsOfOnePage, LeadTo}
use Rattle.pl_known.specs.Known.{Knows, shares}
use Rattle.pl_known.proofs.PutViews.{put_over}
use Rattle.pl_follow.proofs.RanksChange.{none_left}
use Rattle.pl_visiting.specs.Titled.{titling}

-- ---- the page of a view

-- the row of the page
pub record IsSeen (kept : Kept) (view : View) : Type 0 where
  pub row : KeptPage
  pub at : page_at kept view.id ≡ Some row
  pub seen : IsViewOf (store_of kept) row.page view

row_of : (store : Store) (rows : List KeptPage) (views : List View) (view : View)
    → AreViews store (map (λ (p : KeptPage). p.page) rows) views → In view views
    → (p : KeptPage) × In p rows × IsViewOf store p.page view
row_of store [] [] view are here = absurd here
row_of store [] (v ∷ vs) view are here = absurd are
row_of store (p ∷ ps) [] view are here = absurd are
row_of store (p ∷ ps) (v ∷ vs) view are (inl is) = (p, inl refl, subst (IsViewOf store p.page) (sym is) are.0)
row_of store (p ∷ ps) (v ∷ vs) view are (inr rest) =
    let r = row_of store ps vs view are.1 rest in (r.0, inr r.1, r.2)

among : {X : Type 0} (xs : List X) (x : X) → Contains xs x → In x xs
among {X} xs x there =
    All-contains (λ y. In y xs) xs x (All-from_recursion (λ y. In y xs) xs (all_from_in (λ y. In y xs) xs (λ y h. h)))
    there

pub seen : (kept : Kept) (views : List View) (view : View) → IsWellKept kept → AreViewsOf (store_of kept) views
    → Contains views view → IsSeen kept view
seen kept views view h are there =
    let r = row_of (store_of kept) kept.pages views view are (among views view there) in
    let itself : page_at kept r.0.page.id ≡ Some r.0 =
    at_in (λ (p : KeptPage). page_at kept p.page.id ≡ Some p) kept.pages r.0
    (found_self (λ (p : KeptPage). p.page.id.0) kept.pages (pages_apart kept h)) r.1 in
    record { row = r.0; at = ap (page_at kept) r.2.id ∙ itself; seen = r.2 }

pub page_there : (kept : Kept) (view : View) → IsSeen kept view → has_page kept view.id ≡ true
page_there kept view s = found_some (λ (p : KeptPage). p.page.id.0 == view.id.0) kept.pages s.row s.at

pub title_there : (kept : Kept) (view : View) → IsSeen kept view → title_of kept view.id ≡ Some view.title
title_there kept view s =
    ap (option_map (λ (p : KeptPage). p.page.title)) s.at ∙ ap (λ (t : List ℕ). Some t) (sym s.seen.title)

-- ---- the views with another title

-- the view, with the title where it has the id
abbrev retitled : PageId → List ℕ → View → View
retitled id title v = if v.id.0 == id.0 then record v { title = title } else v

-- the fields of both are the same, but for the title
same_field : {X : Type 0} (field : View → X) (id : PageId) (title : List ℕ) (v : View)
    → field (record v { title = title }) ≡ field v → field (retitled id title v) ≡ field v
same_field {X} field id title v same = choose (v.id.0 == id.0)
  where
    choose : (b : Bool) → field (if b then record v { title = title } else v) ≡ field v
    choose true = same
    choose false = refl

module _ (title : List ℕ) (view : View) where
  above_stay : (views : List View) → AllByRecursion (λ (w : View). view.id.0 < w.id.0) views
      → map (retitled view.id title) views ≡ views
  above_stay [] above = refl
  above_stay (v ∷ vs) above =
      rw (ne_eqb v.id.0 view.id.0 (λ same. absurd (omega (arith, above.0, same))))
      (ap (λ (ws : List View). v ∷ ws) (above_stay vs above.1))

  set_retitled : (views : List View) (place : ℕ) → Ascend views → place < length views
      → get_or views place view ≡ view
      → set views place (record view { title = title }) ≡ map (retitled view.id title) views
  set_retitled [] place up within here = absurd (omega (arith, within))
  set_retitled (v ∷ vs) zero up within here =
      rw (eq-eqb v.id.0 view.id.0 (ap (λ (w : View). w.id.0) here))
      (ap (λ (w : View). record w { title = title } ∷ vs) (sym here)
      ∙ ap (λ (ws : List View). record v { title = title } ∷ ws)
      (sym (above_stay vs
      (subst (λ (w : View). AllByRecursion (λ (x : View). w.id.0 < x.id.0) vs) here up.0))))
  set_retitled (v ∷ vs) (suc k) up within here =
      let later : v.id.0 < (get_or vs k view).id.0 =
      All-from_recursion (λ (w : View). v.id.0 < w.id.0) vs up.0 k view (omega (arith, within)) in
      rw (ne_eqb v.id.0 view.id.0 (λ same. absurd (omega (arith, later, ap (λ (w : View). w.id.0) here, same))))
      (ap (λ (ws : List View). v ∷ ws) (set_retitled vs k up.1 (omega (arith, within)) here))

  changed_titled : (views : List View) → AreInOrder views → Contains views view
      → changed (Some view) (Some (record view { title = title })) views ≡ map (retitled view.id title) views
  changed_titled views ordered there =
      let at = at_from_Contains views view there in
      put_over (record view { title = title }) views at.0 (ascend views ordered) at.1
      (λ d. ap (λ (w : View). w.id.0) (at.2 d))
      ∙ set_retitled views at.0 (ascend views ordered) at.1 (at.2 view)

-- ---- what they are, and that they fit a store

views_titled : (store : Store) (after : List Page) (id : PageId) (title : List ℕ) (rows : List KeptPage)
    (views : List View) → AreViews store (map (λ (p : KeptPage). p.page) rows) views
    → AreViews (record store { pages = after })
    (map (λ (p : KeptPage). p.page) (map (λ (p : KeptPage). if p.page.id.0 == id.0 then titled title p else p) rows))
    (map (retitled id title) views)
views_titled store after id title [] [] are = tt
views_titled store after id title [] (v ∷ vs) are = absurd are
views_titled store after id title (p ∷ ps) [] are = absurd are
views_titled store after id title (p ∷ ps) (v ∷ vs) are = (
  subst (λ (n : PageId). IsViewOf (record store { pages = after })
      (if p.page.id.0 == id.0 then titled title p else p).page
      (if n.0 == id.0 then record v { title = title } else v))
      (sym are.0.id) (choose (p.page.id.0 == id.0)),
  views_titled store after id title ps vs are.1,
)
  where
    choose : (b : Bool)
        → IsViewOf (record store { pages = after }) (if b then titled title p else p).page
        (if b then record v { title = title } else v)
    choose true =
        record {
          id = are.0.id;
          url = are.0.url;
          title = refl;
          mark_title = are.0.mark_title;
          tags = are.0.tags;
          origin = are.0.origin;
          frecency = are.0.frecency;
          count = are.0.count;
          last = are.0.last;
          due = are.0.due;
          typed = are.0.typed;
          hidden = are.0.hidden;
          bookmarked = are.0.bookmarked;
          referenced = are.0.referenced;
        }
    choose false =
        record {
          id = are.0.id;
          url = are.0.url;
          title = are.0.title;
          mark_title = are.0.mark_title;
          tags = are.0.tags;
          origin = are.0.origin;
          frecency = are.0.frecency;
          count = are.0.count;
          last = are.0.last;
          due = are.0.due;
          typed = are.0.typed;
          hidden = are.0.hidden;
          bookmarked = are.0.bookmarked;
          referenced = are.0.referenced;
        }

shares_titled : (id : PageId) (title : List ℕ) (views : List View)
    → shares (map (retitled id title) views) ≡ shares views
shares_titled id title [] = refl
shares_titled id title (v ∷ vs) =
    let scored : View → ℕ = λ (w : View). share w.frecency in
    omega (
      arith,
      sum_by-cons scored (retitled id title v) (map (retitled id title) vs),
      sum_by-cons scored v vs,
      same_field scored id title v refl,
      shares_titled id title vs,
    )

fit_titled : (id : PageId) (title : List ℕ) (views : List View) → FitStore views
    → FitStore (map (retitled id title) views)
fit_titled id title views fit =
    let url : (v : View) → (retitled id title v).url ≡ v.url =
    λ v. same_field (λ (w : View). w.url) id title v refl in
    record {
      urls =
          AllPairs-map (λ (v w : View). v.url ≢ w.url) (retitled id title) views
          (λ i j d before within same.
          fit.urls i j d before within (sym (url (get_or views i d)) ∙ same ∙ url (get_or views j d)));
      prefixes =
          All-map (λ (v : View). starts_with nat_eq v.url v.prefix ≡ true) (retitled id title) views
          (λ k d within.
          same_field (λ (w : View). starts_with nat_eq w.url w.prefix) id title (get_or views k d) refl
          ∙ fit.prefixes k d within);
      few = subst (λ n. n < slot_limit) (sym (length-map views (retitled id title))) fit.few;
      sum = subst (λ n. n < 2 ^ 36) (sym (shares_titled id title views)) fit.sum;
    }

-- ---- the change

pub title_leads : (kept new : Kept) (known : Known) (view : View) (title : List ℕ) → Knows (store_of kept) known
    → Contains known.views.items view → view.title ≢ title → new ≡ with_title view.id title kept
    → LeadTo (store_of new) known.views.items (titling title view ∷ [])
title_leads kept new known view title knows there differ is =
    let views : List View = known.views.items in
    let made : changed (Some view) (Some (record view { title = title })) views ≡ map (retitled view.id title) views =
    changed_titled title view views knows.followed.order there in
    record {
      each_once =
          record {
            pages = All-from_recursion IsOfOnePage (titling title view ∷ []) (refl, tt);
            ascending = λ i j d before within. absurd (omega (arith, before, within));
            differ =
                All-from_recursion (λ (c : Change). c.old ≢ c.new) (titling title view ∷ []) (
                  λ same. differ (ap (λ (v : View). v.title) (same_Some view (record view { title = title }) same)),
                  tt,
                );
          };
      suit = (
        record {
          some = refl;
          goes = there;
          comes = none_left view.id views;
          becomes = subst FitStore (sym made) (fit_titled view.id title views knows.followed.fit);
        },
        tt,
      );
      become =
          subst (λ (k : Kept).
          AreViewsOf (store_of k) (changed (Some view) (Some (record view { title = title })) views))
          (sym is)
          (subst (AreViewsOf (store_of (with_title view.id title kept))) (sym made)
          (views_titled (store_of kept) (store_of (with_title view.id title kept)).pages view.id title kept.pages views
          knows.views));
      small =
          subst (λ (vs : List View). shares vs < 2 ^ 35) (sym made)
          (subst (λ n. n < 2 ^ 35) (sym (shares_titled view.id title views)) knows.small);
    }

-- nothing changes
pub stays : (store : Store) (known : Known) → Knows store known → LeadTo store known.views.items []
stays store known knows =
    record {
      each_once =
          record {
            pages = λ k d within. absurd (omega (arith, within));
            ascending = λ i j d before within. absurd (omega (arith, within));
            differ = λ k d within. absurd (omega (arith, within));
          };
      suit = tt;
      become = knows.views;
      small = knows.small;
    }
