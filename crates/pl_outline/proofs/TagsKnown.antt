-- The tags that are known of pages, with those of one page more.
use Rattle.std.proofs.Common.{◌≡◌, ◌∙◌, ℕ, Bool, true, false, List, Option, Some, IfSome, ap, cond, refl, subst, sym}
use Rattle.std.specs.BTreeMap.{Updates, get, is_at}
use Rattle.std.specs.Cmp.{Equal-is}
use Rattle.std.specs.Ordering.{nat_cmp}
use Rattle.std.proofs.lemmas.Map.Lookups.{exact_unsigned}
use Rattle.pl_base.specs.declared.id.PageId.{PageId}
use Rattle.pl_base.specs.Store.{Store}
use Rattle.pl_base.specs.Tags.{page_tags}
use Rattle.pl_outline.specs.declared.tags.KnownTags.{KnownTags}
use Rattle.pl_outline.specs.KnownTags.{KnowsTags}

pub known_more : (store : Store) (old new : KnownTags) (page : PageId) (tags : List (List ℕ)) → KnowsTags store old
    → Updates nat_cmp old.by_page new.by_page page.0 (Some tags) → tags ≡ page_tags store page → KnowsTags store new
known_more store old new page tags knows updates same other = choose (is_at (nat_cmp page.0) other.0) refl
  where
    is_told : Option (List (List ℕ)) → Type 0
    is_told found = IfSome found (λ names. names ≡ page_tags store other)

    found : (b : Bool) → is_at (nat_cmp page.0) other.0 ≡ b
        → get nat_cmp new.by_page other.0 ≡ cond b (Some tags) (get nat_cmp old.by_page other.0)
    found b at =
        updates.0 other.0 ∙ ap (λ (c : Bool). cond c (Some tags) (get nat_cmp old.by_page other.0)) at

    choose : (b : Bool) → is_at (nat_cmp page.0) other.0 ≡ b → is_told (get nat_cmp new.by_page other.0)
    choose true at =
        let one : page.0 ≡ other.0 = exact_unsigned page.0 other.0 ((Equal-is (nat_cmp page.0 other.0)).0 at) in
        subst is_told (sym (found true at))
        (same ∙ ap (λ (id : ℕ). page_tags store (record { 0 = id })) one)
    choose false at = subst is_told (sym (found false at)) (knows other)
