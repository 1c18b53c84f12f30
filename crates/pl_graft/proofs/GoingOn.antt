-- Rows go on from step to step of an import.
use Rattle.std.proofs.Common.{◌≡◌, ◌∙◌, ◌+◌, ◌++◌, ◌==◌, ℕ, List, [], ap, arith}
use Rattle.std.proofs.Common.{refl, sym}
use Rattle.std.specs.List.{list_any}
use Rattle.std.proofs.lemmas.List.{append-nil}
use Rattle.std.proofs.lemmas.List.Elements.{All-append, All-nil}
use Rattle.pl_base.specs.declared.id.PageId.{PageId}
use Rattle.pl_base.specs.Rows.{Kept, KeptOrigin}
use Rattle.pl_base.specs.Store.{Item}
use Rattle.pl_base.proofs.ListLaws.{append_twice}
use Rattle.pl_base.proofs.OriginSums.{sums_still}
use Rattle.pl_graft.specs.declared.grafting.Grafting.{Grafting}
use Rattle.pl_graft.specs.Gained.{Grows, IsBlank, has_new_item}
use Rattle.pl_graft.specs.Import.{entry_count}
use Rattle.pl_graft.specs.Standing.{GoesOn, HasGained}

-- ---- pages and origins

-- no page and no origin is added
pub grows_same : (old new : Kept) → new.day ≡ old.day → new.visits ≡ old.visits → new.ids.visit ≡ old.ids.visit
    → new.pages ≡ old.pages → new.origins ≡ old.origins → Grows old new
grows_same old new day visits ids pages origins =
    record {
      day = day;
      visits = visits;
      visit_ids = ids;
      added = [];
      pages = pages ∙ sym (append-nil old.pages);
      blank = All-nil IsBlank;
      opened = [];
      origins = origins ∙ sym (append-nil old.origins);
      no_totals = All-nil (λ (a : KeptOrigin). a.total ≡ 0);
      sums = sums_still old new pages origins;
    }

pub grows_then : (a b c : Kept) → Grows a b → Grows b c → Grows a c
grows_then a b c first next =
    record {
      day = next.day ∙ first.day;
      visits = next.visits ∙ first.visits;
      visit_ids = next.visit_ids ∙ first.visit_ids;
      added = first.added ++ next.added;
      pages = append_twice a.pages b.pages c.pages first.added next.added first.pages next.pages;
      blank = All-append IsBlank first.added next.added first.blank next.blank;
      opened = first.opened ++ next.opened;
      origins =
          append_twice a.origins b.origins c.origins first.opened next.opened first.origins next.origins;
      no_totals =
          All-append (λ (a : KeptOrigin). a.total ≡ 0) first.opened next.opened first.no_totals next.no_totals;
      sums = λ had. next.sums (first.sums had);
    }

-- ---- the whole

-- the same pages were gained
pub gained_as : (first : ℕ) (old new : List Item) (before after : Grafting) → after.gained ≡ before.gained
    → ((page : PageId) → has_new_item first new page ≡ has_new_item first old page)
    → HasGained first old before → HasGained first new after
gained_as first old new before after same alike had page =
    ap (λ gained. list_any (λ (p : PageId). p.0 == page.0) gained.keys) same ∙ had page ∙ sym (alike page)

-- nothing happened
pub goes_nowhere : (kept : Kept) (before after : Grafting) → after.made ≡ before.made → after.gained ≡ before.gained
    → GoesOn kept kept before after
goes_nowhere kept before after made gained =
    record {
      grows = grows_same kept kept refl refl refl refl refl;
      later = omega arith;
      tags = ap (λ (n : ℕ). entry_count kept.items + n) made;
      pages = λ first least. gained_as first kept.items kept.items before after gained (λ page. refl);
    }

-- the items are the same
pub goes_by_pages : (old new : Kept) (before after : Grafting) → Grows old new → new.items ≡ old.items
    → new.ids.item ≡ old.ids.item → after.made ≡ before.made → after.gained ≡ before.gained
    → GoesOn old new before after
goes_by_pages old new before after grows items ids made gained =
    record {
      grows = grows;
      later = omega arith;
      tags = omega (arith, ap entry_count items);
      pages =
          λ first least. gained_as first old.items new.items before after gained
          (λ page. ap (λ (is : List Item). has_new_item first is page) items);
    }

pub goes_then : (a b c : Kept) (x y z : Grafting) → GoesOn a b x y → GoesOn b c y z → GoesOn a c x z
goes_then a b c x y z first next =
    record {
      grows = grows_then a b c first.grows next.grows;
      later = omega (arith, first.later, next.later);
      tags = omega (arith, first.tags, next.tags);
      pages =
          λ from least had. next.pages from (omega (arith, first.later)) (first.pages from least had);
    }
