-- What the tags that are known of pages stand for.
use Rattle.std.specs.Prelude.{◌≡◌, IfSome}
use Rattle.std.specs.BTreeMap.{get}
use Rattle.std.specs.Ordering.{nat_cmp}
use Rattle.pl_base.specs.declared.id.PageId.{PageId}
use Rattle.pl_base.specs.Store.{Store}
use Rattle.pl_base.specs.Tags.{page_tags}
use Rattle.pl_outline.specs.declared.tags.KnownTags.{KnownTags}

-- the tags of each page that was asked for are those of the store
abbrev pub KnowsTags : Store → KnownTags → Type 0
KnowsTags store known =
    (page : PageId) → IfSome (get nat_cmp known.by_page page.0)
    (λ tags. tags ≡ page_tags store page)
