-- What is told of the origins of pages.
use Rattle.std.specs.Prelude.{◌≡◌, ◌==◌, Some}
use Rattle.std.specs.HashMap.{get_by}
use Rattle.pl_base.specs.declared.id.PageId.{PageId}
use Rattle.pl_base.specs.declared.id.Slot.{Slot}
use Rattle.pl_base.specs.Address.{origin_of_url}
use Rattle.pl_base.specs.Rows.{Kept, KeptPage, page_at}
use Rattle.pl_link.specs.declared.parts.Parts.{Parts}
use Rattle.pl_changes.specs.declared.origins.Origins.{Origins}

-- the parts by the name of an origin have the prefix and the host of each page in it
abbrev pub AreTold : Kept → Origins → Type 0
AreTold kept origins =
    (slot : Slot) (parts : Parts) → get_by (λ (k : Slot). slot.0 == k.0) origins.parts ≡ Some parts
    → (page : PageId) (p : KeptPage) → page_at kept page ≡ Some p → p.origin ≡ slot
    → origin_of_url p.page.url ≡ Some (parts.prefix, parts.host)
