-- That the changes of all pages lead from what was known to what the store tells.
use Rattle.std.proofs.Common.{◌≡◌, ◌≢◌, ◌∙◌, ◌<◌, ◌^◌, ◌==◌, ◌⊎◌, inl, inr, ℕ, Bool, true, false}
use Rattle.std.proofs.Common.{List, [], ◌∷◌, Option, Some, None, ap, arith, map, refl, subst, sym}
use Rattle.std.specs.List.{Contains, list_any}
use Rattle.std.specs.List.Sorted.{IsStrictlyIncreasing}
use Rattle.std.proofs.lemmas.Bool.{eqb-true, false≢true, or_cases}
use Rattle.std.proofs.lemmas.Option.{none-some}
use Rattle.pl_base.specs.declared.change.Change.{Change}
use Rattle.pl_base.specs.declared.id.PageId.{PageId}
use Rattle.pl_base.specs.declared.view.View.{View}
use Rattle.pl_base.specs.Good.{IsGood, has_page_at}
use Rattle.pl_base.specs.Rows.{IsWellKept, Kept, store_of}
use Rattle.pl_base.specs.Store.{Page, Store}
use Rattle.pl_base.specs.View.{AreViewsOf, IsViewOf}
use Rattle.pl_base.proofs.Among.{In, at_in, contains_from_in, in_from_contains}
use Rattle.pl_base.proofs.LookUps.{Apart, apart_increasing, found_some}
use Rattle.pl_base.proofs.Truths.{no_test}
use Rattle.pl_follow.specs.Changes.{AreInOrder, FitStore, has_view}
use Rattle.pl_follow.proofs.Parted.{ascend}
use Rattle.pl_marks.specs.Alike.{is_one_of}
use Rattle.pl_known.specs.declared.known.Known.{Known}
use Rattle.pl_known.specs.Changes.{AllSuit, LeadTo, after}
use Rattle.pl_known.specs.Known.{shares}
use Rattle.pl_known.proofs.ViewLookUps.{same_views}
use Rattle.pl_changes.specs.Brings.{IsViewAt}
use Rattle.pl_changes.specs.CameFrom.{CameByItems, CameFrom}
use Rattle.pl_changes.proofs.Brought.{Brought, climbs, is_among, view_there, walk}
use Rattle.pl_changes.proofs.Mixed.{Follow, mixed, mixed_above, mixed_fits, mixed_in_order}
use Rattle.pl_changes.proofs.NewViews.{built, no_page, page_of, told, view_of_page}
use Rattle.pl_changes.proofs.Seen.{in_seen, seen, seen_in}
use Rattle.pl_changes.proofs.SmallShares.{small}
use Rattle.pl_changes.proofs.Steps.{Walk, each_once, go}
use Rattle.pl_changes.proofs.StoreViews.{fits, in_order}

-- ---- pages by their ids

-- one of these ids has the number
any_in : (n : ℕ) (pages : List PageId) → is_among n pages ≡ true → (page : PageId) × In page pages × (n ≡ page.0)
any_in n [] some = absurd (false≢true some)
any_in n (p ∷ ps) some = choose (or_cases (n == p.0) (is_among n ps) some) (any_in n ps)
  where
    choose : (((n == p.0) ≡ true) ⊎ (is_among n ps ≡ true))
        → (is_among n ps ≡ true → (page : PageId) × In page ps × (n ≡ page.0))
        → (page : PageId) × In page (p ∷ ps) × (n ≡ page.0)
    choose (inl here) rest = (p, inl refl, eqb-true n p.0 here)
    choose (inr later) rest = let found = rest later in (found.0, inr found.1, found.2)

same_element : (ps : List Page) → Apart (λ (p : Page). p.id.0) ps → (p q : Page) → In p ps → In q ps
    → p.id.0 ≡ q.id.0 → p ≡ q
same_element [] apart p q g h same = absurd g
same_element (x ∷ ps) apart p q (inl e) (inl f) same = e ∙ sym f
same_element (x ∷ ps) apart p q (inl e) (inr h) same =
    absurd (at_in (λ (y : Page). y.id.0 ≢ x.id.0) ps q apart.0 h
    (sym same ∙ ap (λ (y : Page). y.id.0) e))
same_element (x ∷ ps) apart p q (inr g) (inl f) same =
    absurd (at_in (λ (y : Page). y.id.0 ≢ x.id.0) ps p apart.0 g (same ∙ ap (λ (y : Page). y.id.0) f))
same_element (x ∷ ps) apart p q (inr g) (inr h) same = same_element ps apart.1 p q g h same

-- a page of a good store is the only one with its id
one_page : (store : Store) → IsGood store → (p q : Page) → In p store.pages → In q store.pages → p.id ≡ q.id → p ≡ q
one_page store good p q g h same =
    same_element store.pages
    (apart_increasing (λ (x : Page). x.id.0) store.pages good.page_ids.ascending) p q g h
    (ap (λ (id : PageId). id.0) same)

-- a page with an id is found
some_page : (store : Store) (page : PageId) → has_page_at store page ≡ true
    → (p : Page) × In p store.pages × (p.id.0 ≡ page.0)
some_page store page some = among store.pages some
  where
    among : (ps : List Page) → list_any (λ (p : Page). p.id.0 == page.0) ps ≡ true
        → (p : Page) × In p ps × (p.id.0 ≡ page.0)
    among [] none = absurd (false≢true none)
    among (q ∷ ps) there = choose (or_cases (q.id.0 == page.0) (list_any (λ (p : Page). p.id.0 == page.0) ps) there)
        (among ps)
      where
        choose : (((q.id.0 == page.0) ≡ true) ⊎ (list_any (λ (p : Page). p.id.0 == page.0) ps ≡ true))
            → (list_any (λ (p : Page). p.id.0 == page.0) ps ≡ true → (p : Page) × In p ps × (p.id.0 ≡ page.0))
            → (p : Page) × In p (q ∷ ps) × (p.id.0 ≡ page.0)
        choose (inl here) rest = (q, inl refl, eqb-true q.id.0 page.0 here)
        choose (inr later) rest = let found = rest later in (found.0, inr found.1, found.2)

-- ---- the whole

-- a change that left all items is one that may have changed some
pub by_items : (pages : List PageId) (known : Known) (store : Store) → CameFrom pages known store
    → CameByItems pages known store
by_items pages known store came =
    record {
      old = came.old;
      knows = came.knows;
      differ = record { others = came.others; pages = came.texts.pages; behind = came.behind };
    }

module _ (kept : Kept) (well : IsWellKept kept) (good : IsGood (store_of kept)) (pages : List PageId)
    (ascending : IsStrictlyIncreasing (map (λ (page : PageId). page.0) pages)) (known : Known)
    (came : CameByItems pages known (store_of kept)) (changes : List Change)
    (brought : Brought (store_of kept) known.views.items pages changes) where
  -- each page of the store has a view
  view_at : (p : Page) → In p (store_of kept).pages → (v : View) × IsViewOf (store_of kept) p v
  view_at p h = choose (is_one_of pages p.id) refl
    where
      from_there : (page : PageId) → p.id.0 ≡ page.0 → (o : Option View) → IsViewAt (store_of kept) page o
          → (v : View) × IsViewOf (store_of kept) p v
      from_there page named None none = absurd (no_page (store_of kept) page none p h named)
      from_there page named (Some v) has =
          let same : has.element ≡ p =
          one_page (store_of kept) good has.element p
          (in_from_contains (store_of kept).pages has.element has.there) h
          (has.named ∙ sym (ap (λ (n : ℕ). record { 0 = n }) named)) in
          (v, subst (λ (q : Page). IsViewOf (store_of kept) q v) same has.seen)

      choose : (b : Bool) → is_one_of pages p.id ≡ b → (v : View) × IsViewOf (store_of kept) p v
      choose true is =
          let one = any_in p.id.0 pages is in
          let there = view_there (store_of kept) known.views.items pages changes brought one.0 one.1 in
          from_there one.0 one.2 there.0 there.1
      choose false is =
          let before : Contains came.old.pages p =
          came.differ.others.stood p (contains_from_in (store_of kept).pages p h) is in
          let w =
          view_of_page came.old came.old.pages known.views.items came.knows.views p
          (in_from_contains came.old.pages p before) in
          (w.0, came.differ.others.views p before is w.0 w.2)

  all_views : (vs : List View) × AreViewsOf (store_of kept) vs
  all_views = built (store_of kept) (store_of kept).pages view_at

  module _ (new : List View) (are : AreViewsOf (store_of kept) new) where
    ordered : AreInOrder new
    ordered = in_order (store_of kept) new good are

    tells : (page : PageId) (o : Option View) → IsViewAt (store_of kept) page o → o ≡ seen page.0 new
    tells = told (store_of kept) new are ordered

    -- of a page that is none of these
    as_before : (n : ℕ) → is_among n pages ≡ false → seen n known.views.items ≡ seen n new
    as_before n none = choose (seen n known.views.items) refl
      where
        other : (p : Page) → p.id.0 ≡ n → is_one_of pages p.id ≡ false
        other p named = ap (λ (m : ℕ). is_among m pages) named ∙ none

        stays : (v : View) (q : Page) → In q came.old.pages → IsViewOf came.old q v → v.id.0 ≡ n → Some v ≡ seen n new
        stays v q h sees is =
            let named : q.id.0 ≡ n = ap (λ (id : PageId). id.0) (sym sees.id) ∙ is in
            let before : Contains came.old.pages q = contains_from_in came.old.pages q h in
            tells (record { 0 = n }) (Some v)
            (record {
              element = q;
              there = came.differ.others.stay q before (other q named);
              named = ap (λ (m : ℕ). record { 0 = m }) named;
              seen = came.differ.others.views q before (other q named) v sees;
            })

        never : (p : Page) → In p (store_of kept).pages → p.id.0 ≡ n → seen n known.views.items ≡ None → ⊥
        never p h named unseen =
            let before : Contains came.old.pages p =
            came.differ.others.stood p (contains_from_in (store_of kept).pages p h) (other p named) in
            let w =
            view_of_page came.old came.old.pages known.views.items came.knows.views p
            (in_from_contains came.old.pages p before) in
            let is : w.0.id.0 ≡ n = ap (λ (id : PageId). id.0) w.2.id ∙ named in
            let found : None ≡ Some w.0 =
            sym unseen ∙ ap (λ (m : ℕ). seen m known.views.items) (sym is)
            ∙ in_seen known.views.items (ascend known.views.items came.knows.followed.order) w.0 w.1 in
            none-some w.0 found

        choose : (o : Option View) → seen n known.views.items ≡ o → seen n known.views.items ≡ seen n new
        choose (Some v) is =
            let here : In v known.views.items × (v.id.0 ≡ n) = seen_in n known.views.items v is in
            let q = page_of came.old came.old.pages known.views.items came.knows.views v here.0 in
            is ∙ stays v q.0 q.1 q.2 here.1
        choose None is =
            is ∙ tells (record { 0 = n }) None
            (no_test (has_page_at (store_of kept) (record { 0 = n })) (λ some.
            let p = some_page (store_of kept) (record { 0 = n }) some in
            never p.0 p.1 p.2 is))

    follow : Follow known.views.items new
    follow =
        record {
          urls = λ v w g h same.
              let q = page_of (store_of kept) (store_of kept).pages new are v g in
              let p = page_of came.old came.old.pages known.views.items came.knows.views w h in
              same_url v w q.0 p.0 q.1 p.1 q.2 p.2 same;
          behind = λ v w g none h.
              let q = page_of (store_of kept) (store_of kept).pages new are v g in
              let r = page_of came.old came.old.pages known.views.items came.knows.views w h in
              is_behind v w q.0 r.0 q.1 r.1 q.2 r.2 none;
        }
      where
        same_url : (v w : View) (q p : Page) → In q (store_of kept).pages → In p came.old.pages
            → IsViewOf (store_of kept) q v → IsViewOf came.old p w → v.id.0 ≡ w.id.0 → v.url ≡ w.url
        same_url v w q p g h one two same =
            let named : q.id ≡ p.id = sym one.id ∙ ap (λ (n : ℕ). record { 0 = n }) same ∙ two.id in
            let texts : (q.url ≡ p.url) × (q.title ≡ p.title) =
            came.differ.pages p q (contains_from_in came.old.pages p h)
            (contains_from_in (store_of kept).pages q g) named in
            one.url ∙ texts.0 ∙ sym two.url

        seen_there : (v : View) (q : Page) → IsViewOf (store_of kept) q v → has_page_at came.old q.id ≡ true
            → has_view v.id known.views.items ≡ true
        seen_there v q one some =
            let p = some_page came.old q.id some in
            let x = view_of_page came.old came.old.pages known.views.items came.knows.views p.0 p.1 in
            let same : x.0.id.0 ≡ v.id.0 =
            ap (λ (id : PageId). id.0) x.2.id ∙ p.2 ∙ ap (λ (id : PageId). id.0) (sym one.id) in
            found_some (λ (y : View). y.id.0 == v.id.0) known.views.items x.0
            (ap (λ (m : ℕ). seen m known.views.items) (sym same)
            ∙ in_seen known.views.items (ascend known.views.items came.knows.followed.order) x.0 x.1)

        is_behind : (v w : View) (q r : Page) → In q (store_of kept).pages → In r came.old.pages
            → IsViewOf (store_of kept) q v → IsViewOf came.old r w → has_view v.id known.views.items ≡ false
            → w.id.0 < v.id.0
        is_behind v w q r g h one two none =
            let later : r.id.0 < q.id.0 =
            came.differ.behind q r (contains_from_in (store_of kept).pages q g)
            (no_test (has_page_at came.old q.id) (λ some. false≢true (sym none ∙ seen_there v q one some)))
            (contains_from_in came.old.pages r h) in
            omega (
              arith,
              later,
              ap (λ (id : PageId). id.0) one.id,
              ap (λ (id : PageId). id.0) two.id,
            )

    walked : Walk known.views.items new 0 changes
    walked =
        walk (store_of kept) known.views.items new tells 0 pages changes brought (climbs pages ascending)
        (λ n from none. as_before n none)

    fit : (k : ℕ) → FitStore (mixed known.views.items new k)
    fit k =
        mixed_fits known.views.items new k came.knows.followed.order ordered follow came.knows.followed.fit
        (fits kept new well good are) (omega (arith, came.knows.small, small kept new well are))

    -- before the first change they are the old ones
    start : mixed known.views.items new 0 ≡ known.views.items
    start =
        same_views (mixed known.views.items new 0) known.views.items
        (mixed_in_order known.views.items new 0 came.knows.followed.order ordered) came.knows.followed.order
        (λ id. mixed_above known.views.items new 0 id.0 (omega arith))

    leads : LeadTo (store_of kept) known.views.items changes
    leads =
        let all : AllSuit changes known.views.items × (after changes known.views.items ≡ new) =
        subst (λ (views : List View). AllSuit changes views × (after changes views ≡ new)) start
        (go known.views.items new came.knows.followed.order ordered fit 0 changes walked) in
        record {
          each_once = each_once known.views.items new 0 changes walked;
          suit = all.0;
          become = subst (AreViewsOf (store_of kept)) (sym all.1) are;
          small = subst (λ (views : List View). shares views < 2 ^ 35) (sym all.1) (small kept new well are);
        }

  pub lead : LeadTo (store_of kept) known.views.items changes
  lead = leads all_views.0 all_views.1
