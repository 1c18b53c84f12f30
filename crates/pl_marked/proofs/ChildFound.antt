-- What is found of a child of a folder.
use Rattle.std.proofs.Common.{◌≡◌, ◌≢◌, ◌∙◌, ◌==◌, Bool, true, false, List, [], ◌∷◌, Option, Some, None, ap, refl, subst, sym}
use Rattle.std.specs.Option.{option_copied}
use denote.Ref.{Bor}
use Rattle.pl_base.specs.declared.id.ItemId.{ItemId}
use Rattle.pl_base.specs.declared.id.PageId.{PageId}
use Rattle.pl_base.specs.declared.item.ItemRow.{ItemRow}
use Rattle.pl_base.specs.declared.view.View.{View}
use Rattle.pl_base.specs.Rows.{Kept, KeptPage, page_at, store_of}
use Rattle.pl_base.specs.Store.{Item}
use Rattle.pl_base.specs.Tree.{has_item, item_at}
use Rattle.pl_base.specs.Tree as tree
use Rattle.pl_base.specs.View.{AreViewsOf, IsViewOf}
use Rattle.pl_base.proofs.LookUps.{found_passes}
use Rattle.pl_base.proofs.IdsLaws.{same_page}
use Rattle.pl_base.proofs.ItemLookUps.{item_found}
use Rattle.pl_conditions.specs.Conditions.{page_holds}
use Rattle.pl_known.specs.Known.{view_of}
use Rattle.pl_place.specs.declared.query.Query.{Query}
use Rattle.pl_query.specs.Candidates.{wanted_marks}
use Rattle.pl_marked.specs.declared.found.Found.{Found}
use Rattle.pl_marked.specs.Found.{AreAdded}
use Rattle.pl_marked.specs.Listed.{child_rows}
use Rattle.pl_marked.proofs.FolderRows.{child_if, without_page, without_view}
use Rattle.pl_marked.proofs.OwnViews as views
use Rattle.pl_marked.proofs.PageRows.{none_more}

-- the item that is there
no_value : {X : Type 0} (o : Option X) → ((x : X) → o ≢ Some x) → o ≡ None
no_value None no_one = refl
no_value (Some x) no_one = absurd (no_one x refl)

none_copied : (o : Option (Bor View)) → ((v : Bor View) → o ≢ Some v) → option_copied o ≡ None
none_copied o no_one = ap option_copied (no_value o no_one)

module _ (kept : Kept) (q : Query) (item : ItemId) (has : has_item kept.items item ≡ true) (row : ItemRow)
    (told : (i : Item) → item_at kept.items item ≡ Some i → row ≡ tree.item_row kept.items i) (found : List Found) where
  there : (i : Item) × (item_at kept.items item ≡ Some i)
  there = item_found kept.items item has

  page_of : there.0.page ≡ row.page
  page_of = sym (ap (λ (r : ItemRow). r.page) (told there.0 there.1))

  pub no_page : ((id : PageId) → row.page ≢ Some id) → AreAdded kept q found found (child_rows kept q item)
  no_page none =
      none_more kept q found (child_rows kept q item)
      (without_page kept q item there.0 there.1 (page_of ∙ no_value row.page none))

  module _ (page : PageId) (is : row.page ≡ Some page) (known : List View) (of : AreViewsOf (store_of kept) known)
      (result : Option (Bor View)) (seen : option_copied result ≡ view_of page known) where
    pub no_view : ((v : Bor View) → result ≢ Some v) → AreAdded kept q found found (child_rows kept q item)
    no_view none =
        none_more kept q found (child_rows kept q item)
        (without_view kept q item there.0 there.1 page (page_of ∙ is)
        (views.no_page kept known of page (sym seen ∙ none_copied result none)))

    module _ (view : Bor View) (at : result ≡ Some view) where
      found_view : view_of page known ≡ Some view.now
      found_view = sym seen ∙ ap option_copied at

      own_id : view.now.id ≡ page
      own_id =
          same_page view.now.id page (found_passes (λ (v : View). v.id.0 == page.0) known view.now found_view)

      pub known_view : view_of view.now.id known ≡ Some view.now
      known_view = subst (λ (id : PageId). view_of id known ≡ Some view.now) (sym own_id) found_view

      kept_page : (p : KeptPage) × (page_at kept page ≡ Some p) × IsViewOf (store_of kept) p.page view.now
      kept_page = views.page_found kept known of page view.now found_view

      module _ (holds : Bool)
          (decided : (p : KeptPage) → page_at kept view.now.id ≡ Some p → holds ≡ page_holds (store_of kept) q p.page) where
        held : holds ≡ page_holds (store_of kept) q kept_page.0.page
        held = decided kept_page.0 (subst (λ (id : PageId). page_at kept id ≡ Some kept_page.0) (sym own_id) kept_page.1)

        pub not_held : holds ≡ false → AreAdded kept q found found (child_rows kept q item)
        not_held fails =
            none_more kept q found (child_rows kept q item)
            (child_if kept q item there.0 there.1 page (page_of ∙ is) kept_page.0 false kept_page.1 (sym fails ∙ held))

        pub added : holds ≡ true → (new : List Found)
            → ((p : KeptPage) (i : Item) → page_at kept view.now.id ≡ Some p → item_at kept.items item ≡ Some i
            → AreAdded kept q found new (wanted_marks kept q p (i ∷ [])))
            → AreAdded kept q found new (child_rows kept q item)
        added passes new adds =
            subst (AreAdded kept q found new)
            (sym (child_if kept q item there.0 there.1 page (page_of ∙ is) kept_page.0 true kept_page.1 (sym passes ∙ held)))
            (adds kept_page.0 there.0
            (subst (λ (id : PageId). page_at kept id ≡ Some kept_page.0) (sym own_id) kept_page.1) there.1)
