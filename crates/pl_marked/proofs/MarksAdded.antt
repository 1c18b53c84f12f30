-- Bookmarks that join those that are found.
use Rattle.std.proofs.Common.{◌≡◌, ◌∙◌, ◌++◌, ◌&&◌, ◌||◌, Bool, true, false, List, [], ◌∷◌, Some, ap, filter}
use Rattle.std.proofs.Common.{if◌then◌else◌, map, not, refl, subst, sym}
use Rattle.std.specs.List.{list_any}
use Rattle.std.proofs.lemmas.List.{map-append}
use Rattle.std.proofs.lemmas.List.Elements.{All-push}
use denote.Ref.{Bor}
use Rattle.pl_base.specs.declared.id.ItemId.{ItemId}
use Rattle.pl_base.specs.declared.id.PageId.{PageId}
use Rattle.pl_base.specs.declared.view.View.{View}
use Rattle.pl_base.specs.Rows.{Kept, KeptPage, page_at, store_of}
use Rattle.pl_base.specs.Store.{Item}
use Rattle.pl_base.specs.Tags.{is_bookmarked, is_tag_entry}
use Rattle.pl_base.specs.Tree.{is_page, item_at}
use Rattle.pl_base.specs.View.{IsViewOf}
use Rattle.pl_conditions.specs.Conditions.{in_times, is_in_parents}
use Rattle.pl_place.specs.declared.query.Query.{Query}
use Rattle.pl_query.specs.declared.ordering.SortValue.{SortValue}
use Rattle.pl_query.specs.declared.shown.Subject.TheVariants.{Bookmark}
use Rattle.pl_query.specs.Candidates.{is_wanted, mark_subject, wanted_marks}
use Rattle.pl_query.specs.Subjects.{row_of_mark}
use Rattle.pl_query.proofs.PageParts.{added_none, added_one, mark_subject_is, one_mark}
use Rattle.pl_marked.specs.declared.found.Found.{Found}
use Rattle.pl_marked.specs.declared.found.Key.{Key}
use Rattle.pl_marked.specs.Found.{AreAdded, HaveViews, IsOwnView, found_candidate, key_of, value_of}
use Rattle.pl_marked.proofs.MarkKeys.{key_told}

module _ (kept : Kept) (q : Query) (old : List Found) where
  -- ---- one item

  pub unwanted : (p : KeptPage) (i : Item) → false ≡ is_wanted (store_of kept) q i
      → AreAdded kept q old old (wanted_marks kept q p (i ∷ []))
  unwanted p i none =
      added_none mark_subject (store_of kept) q.sort (map found_candidate old) (wanted_marks kept q p (i ∷ []))
      (one_mark kept q p i false none)

  pub wanted : (p : KeptPage) (i : Item) (view : Bor View) (item : ItemId) (key : Key) (new : List Found)
      → page_at kept view.now.id ≡ Some p → item_at kept.items item ≡ Some i
      → IsViewOf (store_of kept) p.page view.now → true ≡ is_wanted (store_of kept) q i
      → key ≡ key_of q.sort view.now i
      → new ≡ old ++ record { view = view; item = item; key = key } ∷ []
      → AreAdded kept q old new (wanted_marks kept q p (i ∷ []))
  wanted p i view item key new at_page at_item of is key_is pushed =
      added_one mark_subject (store_of kept) q.sort (map found_candidate old) (map found_candidate new)
      (wanted_marks kept q p (i ∷ [])) (row_of_mark kept i p) (Bookmark item view.now.id) (one_mark kept q p i true is)
      (mark_subject_is kept item view.now.id i p at_item at_page)
      (ap (map found_candidate) pushed
      ∙ map-append found_candidate old (record { view = view; item = item; key = key } ∷ [])
      ∙ ap (λ (value : SortValue).
      map found_candidate old ++ record { subject = Bookmark item view.now.id; value = value } ∷ [])
      (ap value_of key_is ∙ key_told kept p view.now of i q.sort))

  pub one_view : (view : Bor View) (item : ItemId) (key : Key) (new : List Found) → IsOwnView kept view.now
      → new ≡ old ++ record { view = view; item = item; key = key } ∷ [] → HaveViews kept old → HaveViews kept new
  one_view view item key new own pushed all =
      subst (HaveViews kept) (sym pushed)
      (All-push (λ (f : Found). IsOwnView kept f.view.now) old (record { view = view; item = item; key = key }) all own)

-- ---- a page

-- a page that is not bookmarked has no item that is wanted
pub none_wanted : (kept : Kept) (q : Query) (page : PageId) → is_bookmarked (store_of kept) page ≡ false
    → list_any (is_wanted (store_of kept) q) (filter (λ (i : Item). is_page page i.page) kept.items) ≡ false
none_wanted kept q page none = go kept.items none
  where
    go : (items : List Item)
        → list_any (λ (i : Item). is_page page i.page && not (is_tag_entry (store_of kept) i.id)) items ≡ false
        → list_any (is_wanted (store_of kept) q) (filter (λ (i : Item). is_page page i.page) items) ≡ false
    go [] none = refl
    go (i ∷ items) none = choose (is_page page i.page) (is_tag_entry (store_of kept) i.id) refl none (go items)
      where
        rest : Bool
        rest = list_any (λ (j : Item). is_page page j.page && not (is_tag_entry (store_of kept) j.id)) items

        found : Bool
        found = list_any (is_wanted (store_of kept) q) (filter (λ (j : Item). is_page page j.page) items)

        choose : (a e : Bool) → is_tag_entry (store_of kept) i.id ≡ e → ((a && not e) || rest) ≡ false
            → (rest ≡ false → found ≡ false)
            → list_any (is_wanted (store_of kept) q)
            (if a then i ∷ filter (λ (j : Item). is_page page j.page) items
            else filter (λ (j : Item). is_page page j.page) items) ≡ false
        choose true true is none more =
            ap (λ (b : Bool).
            (not b && in_times (store_of kept) q i.added && is_in_parents (store_of kept) q.parents i) || found) is
            ∙ more none
        choose true false is none more = absurd (cc)
        choose false e is none more = more none
