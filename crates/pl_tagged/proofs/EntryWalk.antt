-- The walk over the entries in a tag folder, with the pages that are found on it.
use Rattle.std.proofs.Common.{◌≡◌, ◌∙◌, ◌++◌, ◌<◌, List, [], ◌∷◌, Option, Some, None, ap, length, map, refl, sym}
use Rattle.std.specs.List.{filter_map}
use Rattle.std.specs.Option.{option_and_then, option_copied, option_map, option_to_list}
use Rattle.std.proofs.lemmas.List.{map-append}
use Rattle.std.proofs.lemmas.List.Elements.{filter-append, filter_map-append}
use denote.Ref.{Bor}
use Rattle.pl_base.specs.declared.id.ItemId.{ItemId}
use Rattle.pl_base.specs.declared.item.ItemRow.{ItemRow}
use Rattle.pl_base.specs.declared.view.View.{View}
use Rattle.pl_base.specs.Good.{IsTree}
use Rattle.pl_base.specs.Store.{Item}
use Rattle.pl_base.specs.Tree.{children_of, item_row, sibling_behind}
use Rattle.pl_base.proofs.ChildrenRun.{child_goes_on, child_names, children_run}
use Rattle.pl_base.proofs.Walk.{StandsAt, Walk, left, nears, stands}
use Rattle.pl_indexed.specs.declared.found.Found.{Found}
use Rattle.pl_indexed.specs.declared.found.Key.{Key}
use Rattle.pl_indexed.specs.Answer.{taken}
use Rattle.pl_indexed.specs.Found.{AreFound, seen, seen_of}
use Rattle.pl_place.specs.declared.query.Query.{Query}
use Rattle.pl_query.specs.Decides.{decides}
use Rattle.pl_tagged.specs.Entered.{entry_view}

-- ---- the page of an entry

pub no_page : (items : List Item) (item : Option Item) (told : Option ItemRow)
    → told ≡ option_map (item_row items) item → told ≡ None → None ≡ option_and_then (λ (i : Item). i.page) item
no_page items None told is none = refl
no_page items (Some i) told is none = absurd (cc)

pub page_told : (items : List Item) (item : Option Item) (told : Option ItemRow)
    → told ≡ option_map (item_row items) item → (row : ItemRow) → told ≡ Some row
    → row.page ≡ option_and_then (λ (i : Item). i.page) item
page_told items None told is row some = absurd (cc)
page_told items (Some i) told is row some =
    let same : row ≡ item_row items i = cc in
    ap (λ (r : ItemRow). r.page) same

-- the view that was found is that of the entry's page
pub shown : (items : List Item) (views : List View) (entry : ItemId) (told : Option (Bor View)) (view : Bor View)
    → option_copied told ≡ entry_view items views entry → told ≡ Some view
    → Some view.now ≡ entry_view items views entry
shown items views entry told view is at = sym (ap option_copied at) ∙ is

-- ---- the walk

-- of the pages of the entries in front those are found that the query takes
abbrev pub Finds : List Item → List View → Query → List Found → List ItemId → Type 0
Finds items views q found front = AreFound q.sort (taken q (filter_map (entry_view items views) front)) found

module _ (items : List Item) (views : List View) (q : Query) (folder : ItemId) (tree : IsTree items)
    (found : List Found) (next : Option ItemId) (entry : ItemId)
    (w : Walk child_names (children_of items folder) (Finds items views q found) next) (at : next ≡ Some entry) where
  here : StandsAt child_names (children_of items folder) (Finds items views q found) entry
  here = stands child_names (children_of items folder) (Finds items views q found) next entry w at

  one_view : (ids : List ItemId) → filter_map (entry_view items views) (ids ++ entry ∷ [])
      ≡ filter_map (entry_view items views) ids ++ option_to_list (entry_view items views entry)
  one_view ids =
      filter_map-append (entry_view items views) ids (entry ∷ [])
      ∙ ap (λ (vs : List View). filter_map (entry_view items views) ids ++ vs) (choose (entry_view items views entry) refl)
    where
      choose : (o : Option View) → entry_view items views entry ≡ o
          → filter_map (entry_view items views) (entry ∷ []) ≡ option_to_list o
      choose None is = rw is refl
      choose (Some v) is = rw is refl

  pub goes_further : (new : List Found) (further : Option ItemId)
      → map seen new ≡ map seen found ++ map (seen_of q.sort) (taken q (option_to_list (entry_view items views entry)))
      → further ≡ sibling_behind items entry
      → Walk child_names (children_of items folder) (Finds items views q new) further
  goes_further new further more is =
      child_goes_on items folder (Finds items views q found) entry here (Finds items views q new) further tree is
      (more
      ∙ ap (λ (ss : List (View × Key)). ss ++ map (seen_of q.sort) (taken q one)) here.so_far
      ∙ sym (map-append (seen_of q.sort) (taken q (filter_map (entry_view items views) here.front)) (taken q one))
      ∙ ap (map (seen_of q.sort))
      (sym (filter-append (decides q) (filter_map (entry_view items views) here.front) one)
      ∙ ap (taken q) (sym (one_view here.front))))
    where
      one : List View
      one = option_to_list (entry_view items views entry)

  pub nearer : (further : Option ItemId) → further ≡ sibling_behind items entry
      → left (sibling_behind items) (length (children_of items folder)) further
      < left (sibling_behind items) (length (children_of items folder)) next
  nearer further is =
      nears child_names (sibling_behind items) (children_of items folder) (Finds items views q found) next further entry
      (children_run items folder tree) here at is
