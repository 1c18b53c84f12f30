-- What is known of the pages that stay: their addresses and titles, and their other texts where no
-- item changed.
use Rattle.std.proofs.Common.{◌≡◌, ◌∙◌, List, ap, sym}
use Rattle.std.specs.List.{All}
use Rattle.std.proofs.lemmas.List.Elements.{All-from_recursion}
use Rattle.pl_base.specs.declared.view.View.{View}
use Rattle.pl_base.specs.Address.{origin_of_url}
use Rattle.pl_base.specs.Marks.{is_referenced}
use Rattle.pl_base.specs.Store.{Item, Page, Store}
use Rattle.pl_base.specs.Tags.{is_bookmarked, tag_text}
use Rattle.pl_base.specs.View.{AreViewsOf, IsViewOf, mark_title}
use Rattle.pl_base.proofs.Among.{In, all_from_in, contains_from_in}
use Rattle.pl_marks.specs.Alike.{HaveSamePages, HaveSameTexts}
use Rattle.pl_changes.specs.Brings.{HasAddress, HasTexts, IfStays, KeepAddresses, KeepTexts}
use Rattle.pl_changes.proofs.NewViews.{page_of}

-- what holds of each page that stays and its view before, of the views of all
module _ (old new : Store) (Such : Page → View → Type 0)
    (stays : (p q : Page) (view : View) → In p old.pages → In q new.pages → q.id ≡ p.id → IsViewOf old p view
    → Such q view) where
  all_stay : (views : List View) → AreViewsOf old views → All (IfStays Such new) views
  all_stay views are =
      All-from_recursion (IfStays Such new) views (all_from_in (IfStays Such new) views (λ v h.
      let p = page_of old old.pages views are v h in
      one v p.0 p.1 p.2))
    where
      one : (v : View) (p : Page) → In p old.pages → IsViewOf old p v → IfStays Such new v
      one v p h is =
          All-from_recursion (λ (q : Page). q.id ≡ v.id → Such q v) new.pages
          (all_from_in (λ (q : Page). q.id ≡ v.id → Such q v) new.pages (λ q g named.
          stays p q v h g (named ∙ is.id) is))

module _ (old new : Store) (p q : Page) (view : View) (before : In p old.pages) (after : In q new.pages)
    (named : q.id ≡ p.id) (is : IsViewOf old p view) where
  address_stays : HaveSamePages old new → HasAddress q view
  address_stays same =
      let texts : (q.url ≡ p.url) × (q.title ≡ p.title) =
      same p q (contains_from_in old.pages p before) (contains_from_in new.pages q after) named in
      record {
        id = is.id ∙ sym named;
        url = is.url ∙ sym texts.0;
        title = is.title ∙ sym texts.1;
        origin = ap origin_of_url texts.0 ∙ is.origin;
      }

  texts_stay : HaveSameTexts old new → HasTexts new q view
  texts_stay same =
      let with_items : List Item → Store = λ items. record old { items = items } in
      record {
        address = address_stays same.pages;
        mark_title =
            is.mark_title ∙ ap (mark_title old) (sym named)
            ∙ ap (λ (items : List Item). mark_title (with_items items) q.id) (sym same.items);
        tags =
            is.tags ∙ ap (tag_text old) (sym named)
            ∙ ap (λ (items : List Item). tag_text (with_items items) q.id) (sym same.items);
        bookmarked =
            is.bookmarked ∙ ap (is_bookmarked old) (sym named)
            ∙ ap (λ (items : List Item). is_bookmarked (with_items items) q.id) (sym same.items);
        referenced =
            is.referenced ∙ ap (is_referenced old) (sym named)
            ∙ ap (λ (items : List Item). is_referenced (with_items items) q.id) (sym same.items);
      }

pub keep_addresses : (old new : Store) (views : List View) → HaveSamePages old new → AreViewsOf old views
    → KeepAddresses new views
keep_addresses old new views same are =
    all_stay old new HasAddress (λ p q v h g named is. address_stays old new p q v h g named is same) views are

pub keep_texts : (old new : Store) (views : List View) → HaveSameTexts old new → AreViewsOf old views
    → KeepTexts new views
keep_texts old new views same are =
    all_stay old new (HasTexts new) (λ p q v h g named is. texts_stay old new p q v h g named is same) views are
