-- What a page has of items where none has it: no title, no tags, no bookmark.
use Rattle.std.proofs.Common.{◌≡◌, ◌∙◌, ◌&&◌, false, not, List, [], None, ap, refl, sym, unwrap_or}
use Rattle.std.specs.List.{AllByRecursion}
use Rattle.std.specs.List.Sorted.{IsStrictlySortedBy}
use Rattle.std.specs.Option.{option_map}
use Rattle.std.proofs.lemmas.Bool.{and_left}
use Rattle.pl_base.specs.declared.id.PageId.{PageId}
use Rattle.pl_base.specs.Good.{IsGood}
use Rattle.pl_base.specs.Marks.{is_referenced}
use Rattle.pl_base.specs.Rows.{IsWellKept, Kept, store_of}
use Rattle.pl_base.specs.Store.{Item, Store}
use Rattle.pl_base.specs.Tags.{comma_joined, is_tag_entry, tag_text}
use Rattle.pl_base.specs.Tree.{is_page}
use Rattle.pl_base.specs.View.{freshest}
use Rattle.pl_base.proofs.ListLaws.{weaker}
use Rattle.pl_base.proofs.LookUps.{any_none, none_kept, none_pass}
use Rattle.pl_base.proofs.ReferencesRun.{having, item_names}
use Rattle.pl_base.proofs.Walk.{no_more, starts}
use Rattle.pl_marks.specs.declared.items.ItemFigures.{ItemFigures}
use Rattle.pl_marks.specs.Figures.{AreItemFiguresOf}
use Rattle.pl_marks.proofs.PageTags.{tags_told}
use Rattle.pl_marks.proofs.TagEntries.{Ascending}
use Rattle.pl_marks.proofs.TagTree.{HaveTags}

-- no item is a bookmark of the page
none_marks : (store : Store) (page : PageId) → is_referenced store page ≡ false
    → AllByRecursion (λ (i : Item). (is_page page i.page && not (is_tag_entry store i.id)) ≡ false) store.items
none_marks store page none =
    weaker (λ (i : Item). is_page page i.page ≡ false)
    (λ (i : Item). (is_page page i.page && not (is_tag_entry store i.id)) ≡ false) store.items
    (λ i other. and_left (is_page page i.page) (not (is_tag_entry store i.id)) other)
    (none_pass (λ (i : Item). is_page page i.page) store.items none)

no_entries : Ascending []
unfolding IsStrictlySortedBy
no_entries = tt

no_tags : (kept : Kept) (page : PageId) → IsWellKept kept → IsGood (store_of kept)
    → is_referenced (store_of kept) page ≡ false → [] ≡ tag_text (store_of kept) page
no_tags kept page h good none =
    let items : having kept.items page ≡ [] =
    none_kept (λ (i : Item). is_page page i.page) kept.items
    (none_pass (λ (i : Item). is_page page i.page) kept.items none) in
    ap comma_joined (tags_told kept page None [] h good no_entries (λ q. tt)
    (starts item_names (having kept.items page) (HaveTags kept.items []) None (sym (ap item_names.first items)) tt)
    (no_more None refl))

pub of_no_item : (kept : Kept) (page : PageId) → IsWellKept kept → IsGood (store_of kept)
    → false ≡ is_referenced (store_of kept) page → (figures : ItemFigures)
    → figures ≡ record { mark_title = []; tags = []; bookmarked = false; referenced = false }
    → AreItemFiguresOf (store_of kept) page figures
of_no_item kept page h good none figures is =
    let store : Store = store_of kept in
    let marks = none_marks store page (sym none) in
    let test = λ (i : Item). is_page page i.page && not (is_tag_entry store i.id) in
    record {
      mark_title =
          ap (λ (f : ItemFigures). f.mark_title) is
          ∙ sym (ap (λ (is : List Item). unwrap_or (option_map (λ (i : Item). i.title) (freshest is)) [])
          (none_kept test store.items marks));
      tags = ap (λ (f : ItemFigures). f.tags) is ∙ no_tags kept page h good (sym none);
      bookmarked = ap (λ (f : ItemFigures). f.bookmarked) is ∙ sym (any_none test store.items marks);
      referenced = ap (λ (f : ItemFigures). f.referenced) is ∙ none;
    }
