-- The tags of a page are names of tags.
use Rattle.std.proofs.Common.{filter}
use Rattle.std.specs.List.{All}
use Rattle.std.proofs.lemmas.List.Elements.{All-from_recursion, All-map, recursion_from_All}
use Rattle.pl_base.specs.declared.id.PageId.{PageId}
use Rattle.pl_base.specs.Good.{HasTags, IsTagFolder, IsTagName}
use Rattle.pl_base.specs.Store.{Item, Store}
use Rattle.pl_base.specs.Tags.{by_fold, has_tag, is_before, page_tags, tags_of}
use Rattle.pl_base.proofs.ListLaws.{all-filter, weaker}
use Rattle.pl_base.proofs.SortLaws.{all_sorted}

pub names_of_tags : (store : Store) (page : PageId) → HasTags store → All IsTagName (page_tags store page)
names_of_tags store page tags =
    All-map IsTagName (λ (t : Item). t.title) (by_fold (filter (has_tag store page) (tags_of store)))
    (All-from_recursion (λ (t : Item). IsTagName t.title) (by_fold (filter (has_tag store page) (tags_of store)))
    (all_sorted is_before (λ (t : Item). IsTagName t.title) (filter (has_tag store page) (tags_of store))
    (all-filter (λ (t : Item). IsTagName t.title) (has_tag store page) (tags_of store)
    (weaker (IsTagFolder store) (λ (t : Item). IsTagName t.title) (tags_of store) (λ t is. is.name)
    (recursion_from_All (IsTagFolder store) (tags_of store) tags.folders)))))
