-- The view of a page of which the items tell what they told before.
use Rattle.std.proofs.Common.{◌≡◌, ◌∙◌, ◌<◌, ℕ, List, [], ◌∷◌, ap, arith, get_or, refl, suc, sym, zero}
use Rattle.std.specs.List.{list_any}
use Rattle.std.specs.Map.{values_of}
use Rattle.pl_base.specs.declared.id.Ids.{Ids}
use Rattle.pl_base.specs.declared.id.PageId.{PageId}
use Rattle.pl_base.specs.declared.view.View.{View}
use Rattle.pl_base.specs.Frecency.{frecency_of}
use Rattle.pl_base.specs.Good.{IsGood}
use Rattle.pl_base.specs.Marks.{is_hidden, is_referenced, visit_count}
use Rattle.pl_base.specs.Rows.{Kept, KeptPage, store_of}
use Rattle.pl_base.specs.Store.{Item, Page, Store}
use Rattle.pl_base.specs.Tags.{comma_joined}
use Rattle.pl_base.specs.View.{IsViewOf}
use Rattle.pl_marks.specs.Refreshed.{AreRightBut, IsRightPage}
use Rattle.pl_history.proofs.ItemMarks.{has_reference, right_alike, with_tree}
use Rattle.pl_bearing.specs.References.{Reference, references_of}
use Rattle.pl_bearing.proofs.ItemParts.{bookmarked_is, is_any, is_untagged, mark_title_is, referenced_is, title_from}
use Rattle.pl_bearing.proofs.TagParts.{tags_are, tags_from}

-- the store with other items, next ids and pages
abbrev pub with_rows : Ids → List Item → List Page → Store → Store
with_rows next items pages store = record store { ids = next; items = items; pages = pages }

pub referenced_alike : (old new : Store) (page : PageId)
    → references_of new.items page ≡ references_of old.items page → is_referenced new page ≡ is_referenced old page
referenced_alike old new page same = referenced_is new page ∙ ap is_any same ∙ sym (referenced_is old page)

-- ---- the frecency

-- the page with what the store tells of it
abbrev kept_page : Store → Page → KeptPage
kept_page store p =
    record {
      page = p;
      origin = record { 0 = 0 };
      frecency = frecency_of store p;
      count = visit_count store p.id;
      hidden = is_hidden store p;
    }

-- that page alone, with the store's visits and items
abbrev kept_alone : Store → Page → Kept
kept_alone store p =
    record {
      day = store.day;
      ids = store.ids;
      pages = kept_page store p ∷ [];
      origins = [];
      visits = store.visits;
      items = store.items;
    }

frecency_alike : (old : Store) (next : Ids) (items : List Item) (p : Page)
    → has_reference items p.id ≡ is_referenced old p.id
    → frecency_of old p ≡ frecency_of (record old { ids = next; items = items }) p
frecency_alike old next items p same =
    let kept : Kept = kept_alone old p in
    let right : AreRightBut [] (with_tree next items kept) =
    right_alike kept next items [] (λ k d within other. one k d within) (λ k d within other. now k d within) in
    (right 0 (kept_page old p) (omega arith) refl).0
  where
    one : (k : ℕ) (d : KeptPage) → k < 1
        → has_reference items (get_or (kept_page old p ∷ []) k d).page.id
        ≡ has_reference old.items (get_or (kept_page old p ∷ []) k d).page.id
    one zero d within = same
    one (suc k) d within = absurd (omega arith)

    now : (k : ℕ) (d : KeptPage) → k < 1
        → IsRightPage (store_of (kept_alone old p)) (get_or (kept_page old p ∷ []) k d)
    now zero d within = (refl, refl, refl)
    now (suc k) d within = absurd (omega arith)

-- ---- the view

pub view_alike : (old : Store) (next : Ids) (items : List Item) (pages : List Page) (p : Page) (view : View)
    → IsGood old → IsGood (with_rows next items pages old)
    → references_of items p.id ≡ references_of old.items p.id → IsViewOf old p view
    → IsViewOf (with_rows next items pages old) p view
view_alike old next items pages p view good still same v =
    let new : Store = with_rows next items pages old in
    let referenced : is_referenced new p.id ≡ is_referenced old p.id = referenced_alike old new p.id same in
    record {
      id = v.id;
      url = v.url;
      title = v.title;
      mark_title =
          v.mark_title ∙ mark_title_is old p.id good ∙ ap title_from (sym same) ∙ sym (mark_title_is new p.id still);
      tags =
          v.tags ∙ ap comma_joined (tags_are old p.id good
          ∙ ap (λ (rs : List Reference). values_of (tags_from rs)) (sym same) ∙ sym (tags_are new p.id still));
      origin = v.origin;
      frecency = v.frecency ∙ frecency_alike old next items p referenced;
      count = v.count;
      last = v.last;
      due = v.due;
      typed = v.typed;
      hidden = v.hidden;
      bookmarked =
          v.bookmarked ∙ bookmarked_is old p.id good
          ∙ ap (list_any is_untagged) (sym same) ∙ sym (bookmarked_is new p.id still);
      referenced = v.referenced ∙ sym referenced;
    }
