use Rattle.std.proofs.Common.{◌≡◌, ◌∙◌, ◌≤◌, ◌++◌, ◌==◌, ℕ, All, List, ap, append-nil, refl, rules, subst, sym}
use Rattle.std.specs.List.{list_any}
use Rattle.std.specs.List.Sorted.{IsNonDecreasingBy}
use Rattle.pl_base.specs.declared.id.Ids.{Ids}
use Rattle.pl_base.specs.declared.id.PageId.{PageId}
use Rattle.pl_base.specs.declared.view.View.{View}
use Rattle.pl_base.specs.Good.{HasGoodItems}
use Rattle.pl_base.specs.Removal.{without_idle_pages}
use Rattle.pl_base.specs.Rows.{Kept, store_of}
use Rattle.pl_base.specs.Store.{Store, roots}
use Rattle.pl_history.specs.Addresses.{HaveAddresses}
use Rattle.pl_history.specs.Settled.{AreSettledBut}
use Rattle.pl_graft.specs.Restored.{restored}
use Rattle.pl_changes.specs.CameFrom.{CameByItems}
use Rattle.pl_done.proofs.KnownAddresses.{addresses_with_items}
use Rattle.pl_editing.specs.NewPage.{IsNew}
use Rattle.pl_editing.proofs.ImportedPages.{imported_new, imported_rise}
use Rattle.pl_editing.proofs.LostItems.{cleared_settled}
use Rattle.pl_editing.proofs.RestoreChanges.{restored_addresses, restored_came}
use Rattle.pl_editing.proofs.RestoreSettled.{restored_settled, restored_stays}
use Rattle.pl_editing.proofs.RestoreSteps.{gained_is, restore_done, under_way}
use Rattle.pl_editing.proofs.restores.restore.Goals as goal

pub settle_spared-requires-clause-settled : goal.settle_spared-requires-clause-settled
settle_spared-requires-clause-settled g c =
    subst (λ (ids : List PageId). AreSettledBut ids (g.R.Rows.kept c.clear.new.rows)) (sym c.deref-2.ensures.value)
    (cleared_settled (g.R.Rows.kept c.args.rows.now) (g.R.Rows.kept c.clear.new.rows) c.in_ok-pages.pages.items
    (g.met.R.Rows.well_kept c.args.rows.now) c.requires.sound c.in_ok-pages.ensures.kept
    c.in_ok-pages.ensures.ascending c.in_ok-pages.ensures.pages c.in_ok-pages.ensures.good)

pub settle_spared-requires-clause-views : goal.settle_spared-requires-clause-views
settle_spared-requires-clause-views g c =
    subst (λ (views : List View). HaveAddresses views (g.R.Rows.kept c.clear.new.rows)) (sym c.deref.ensures.value)
    (addresses_with_items (g.R.Rows.kept c.args.rows.now) (g.R.Rows.kept c.clear.new.rows) roots c.args.known.now
    c.requires.knows (g.met.R.Rows.well_kept c.args.rows.now) c.in_ok-pages.ensures.kept)

pub graft-requires-clause-good : goal.graft-requires-clause-good
graft-requires-clause-good g c = c.in_ok-settle_spared.ensures.settled.settled.items

pub graft-requires-clause-few : goal.graft-requires-clause-few
graft-requires-clause-few g c =
    (under_way c.args.limit c.args.tree.now (g.R.Rows.kept c.args.rows.now) (g.R.Rows.kept c.clear.new.rows)
    (g.R.Rows.kept c.settle_spared.new.rows) c.in_ok-refusal.field-0 (g.met.R.Rows.well_kept c.args.rows.now)
    c.requires.most c.in_ok-refusal.ensures.refusal c.in_default.is c.in_ok-refusal.ensures.order c.in_ok-pages.ensures.kept
    c.in_ok-settle_spared.ensures.store).few

pub graft-requires-clause-page_ids : goal.graft-requires-clause-page_ids
graft-requires-clause-page_ids g c =
    (under_way c.args.limit c.args.tree.now (g.R.Rows.kept c.args.rows.now) (g.R.Rows.kept c.clear.new.rows)
    (g.R.Rows.kept c.settle_spared.new.rows) c.in_ok-refusal.field-0 (g.met.R.Rows.well_kept c.args.rows.now)
    c.requires.most c.in_ok-refusal.ensures.refusal c.in_default.is c.in_ok-refusal.ensures.order c.in_ok-pages.ensures.kept
    c.in_ok-settle_spared.ensures.store).pages

pub graft-requires-clause-item_ids : goal.graft-requires-clause-item_ids
graft-requires-clause-item_ids g c =
    (under_way c.args.limit c.args.tree.now (g.R.Rows.kept c.args.rows.now) (g.R.Rows.kept c.clear.new.rows)
    (g.R.Rows.kept c.settle_spared.new.rows) c.in_ok-refusal.field-0 (g.met.R.Rows.well_kept c.args.rows.now)
    c.requires.most c.in_ok-refusal.ensures.refusal c.in_default.is c.in_ok-refusal.ensures.order c.in_ok-pages.ensures.kept
    c.in_ok-settle_spared.ensures.store).items

pub graft-requires-clause-live : goal.graft-requires-clause-live
graft-requires-clause-live g c =
    (under_way c.args.limit c.args.tree.now (g.R.Rows.kept c.args.rows.now) (g.R.Rows.kept c.clear.new.rows)
    (g.R.Rows.kept c.settle_spared.new.rows) c.in_ok-refusal.field-0 (g.met.R.Rows.well_kept c.args.rows.now)
    c.requires.most c.in_ok-refusal.ensures.refusal c.in_default.is c.in_ok-refusal.ensures.order c.in_ok-pages.ensures.kept
    c.in_ok-settle_spared.ensures.store).live

pub settle_gained-requires-clause-ascending : goal.settle_gained-requires-clause-ascending
settle_gained-requires-clause-ascending g c =
    subst (IsNonDecreasingBy (λ (page : PageId). page.0)) (sym (c.as_slice-gained.ensures ∙ c.in_ok-grafted.ensures.pages))
    (imported_rise (store_of (g.R.Rows.kept c.settle_spared.new.rows)) (g.R.Rows.kept c.graft.new.rows)
    (g.met.R.Rows.well_kept c.graft.new.rows))

pub settle_gained-requires-clause-made : goal.settle_gained-requires-clause-made
settle_gained-requires-clause-made g c =
    let old : Kept = g.R.Rows.kept c.settle_spared.new.rows in
    let new : Kept = g.R.Rows.kept c.graft.new.rows in
    subst (λ (first : ℕ). All (λ (page : PageId). first ≤ page.0 → IsNew (store_of new) page) c.as_slice-gained.result.now)
    (sym (ap (λ (ids : Ids). ids.page) c.ids-first.ensures.ids))
    (subst (All (λ (page : PageId). old.ids.page ≤ page.0 → IsNew (store_of new) page))
    (sym (c.as_slice-gained.ensures ∙ c.in_ok-grafted.ensures.pages))
    (imported_new c.args.tree.now old new (g.met.R.Rows.well_kept c.settle_spared.new.rows)
    c.in_ok-grafted.ensures.store c.in_ok-grafted.ensures.grows))

pub settle_gained-requires-clause-settled : goal.settle_gained-requires-clause-settled
settle_gained-requires-clause-settled g c =
    let old : Kept = g.R.Rows.kept c.settle_spared.new.rows in
    let new : Kept = g.R.Rows.kept c.graft.new.rows in
    let u =
    under_way c.args.limit c.args.tree.now (g.R.Rows.kept c.args.rows.now) (g.R.Rows.kept c.clear.new.rows) old
    c.in_ok-refusal.field-0 (g.met.R.Rows.well_kept c.args.rows.now) c.requires.most
    c.in_ok-refusal.ensures.refusal c.in_default.is c.in_ok-refusal.ensures.order c.in_ok-pages.ensures.kept c.in_ok-settle_spared.ensures.store in
    let waiting = c.in_ok-settle_spared.ensures.settled in
    subst (λ (ids : List PageId). AreSettledBut ids new) (sym (c.as_slice-gained.ensures ∙ c.in_ok-grafted.ensures.pages))
    (restored_settled c.args.tree.now (store_of (g.R.Rows.kept c.args.rows.now)) old new waiting.waiting
    (g.met.R.Rows.well_kept c.settle_spared.new.rows) (g.met.R.Rows.well_kept c.graft.new.rows)
    (subst (λ (ids : List PageId). AreSettledBut ids old) (append-nil waiting.waiting) waiting.settled) waiting.wait
    u.spared (c.in_ok-grafted.ensures.store ∙ u.makes) c.in_ok-grafted.ensures.store c.in_ok-grafted.ensures.grows
    c.in_ok-grafted.ensures.good)

pub settle_gained-requires-clause-views : goal.settle_gained-requires-clause-views
settle_gained-requires-clause-views g c =
    let u =
    under_way c.args.limit c.args.tree.now (g.R.Rows.kept c.args.rows.now) (g.R.Rows.kept c.clear.new.rows)
    (g.R.Rows.kept c.settle_spared.new.rows) c.in_ok-refusal.field-0 (g.met.R.Rows.well_kept c.args.rows.now)
    c.requires.most c.in_ok-refusal.ensures.refusal c.in_default.is c.in_ok-refusal.ensures.order c.in_ok-pages.ensures.kept
    c.in_ok-settle_spared.ensures.store in
    subst (λ (views : List View). HaveAddresses views (g.R.Rows.kept c.graft.new.rows)) (sym c.deref-3.ensures.value)
    (restored_addresses c.args.tree.now (g.R.Rows.kept c.args.rows.now) (g.R.Rows.kept c.graft.new.rows) c.args.known.now
    c.requires.sound.good c.requires.knows (c.in_ok-grafted.ensures.store ∙ u.makes))

pub item_changes-requires-clause-came : goal.item_changes-requires-clause-came
item_changes-requires-clause-came g c =
    let old : Kept = g.R.Rows.kept c.args.rows.now in
    let mid : Kept = g.R.Rows.kept c.settle_spared.new.rows in
    let grafted : Store = store_of (g.R.Rows.kept c.graft.new.rows) in
    let new : Store = store_of (g.R.Rows.kept c.settle_gained.new.rows) in
    let tree = c.args.tree.now in
    let u =
    under_way c.args.limit tree old (g.R.Rows.kept c.clear.new.rows) mid c.in_ok-refusal.field-0
    (g.met.R.Rows.well_kept c.args.rows.now) c.requires.most c.in_ok-refusal.ensures.refusal c.in_default.is
    c.in_ok-refusal.ensures.order
    c.in_ok-pages.ensures.kept c.in_ok-settle_spared.ensures.store in
    let is : grafted ≡ restored tree (store_of old) = c.in_ok-grafted.ensures.store ∙ u.makes in
    subst (λ (ids : List PageId). CameByItems ids c.args.known.now new) (sym c.deref-4.ensures.value)
    (restored_came tree (store_of old) new c.args.known.now c.in_ok-pages.pages.items c.put_together.new.pages.items
    c.requires.sound.good c.in_ok-settle_gained.ensures.sound.good (subst HasGoodItems is c.in_ok-grafted.ensures.good)
    c.requires.knows
    (c.in_ok-settle_gained.ensures.store ∙ ap without_idle_pages is ∙ restored_stays tree (store_of old))
    c.in_ok-pages.ensures.pages
    (λ page.
    c.in_ok-put_together.ensures.same page
    ∙ ap (λ (won : List PageId). list_any (λ (id : PageId). page.0 == id.0) (c.in_ok-pages.pages.items ++ won))
    ((c.as_slice-gained.ensures ∙ c.in_ok-grafted.ensures.pages ∙ gained_is tree old mid grafted u c.in_ok-grafted.ensures.store))))

pub returns : goal.returns
returns g c =
    let old : Kept = g.R.Rows.kept c.args.rows.now in
    let mid : Kept = g.R.Rows.kept c.settle_spared.new.rows in
    let grafted : Store = store_of (g.R.Rows.kept c.graft.new.rows) in
    let tree = c.args.tree.now in
    let u =
    under_way c.args.limit tree old (g.R.Rows.kept c.clear.new.rows) mid c.in_ok-refusal.field-0
    (g.met.R.Rows.well_kept c.args.rows.now) c.requires.most c.in_ok-refusal.ensures.refusal c.in_default.is
    c.in_ok-refusal.ensures.order
    c.in_ok-pages.ensures.kept c.in_ok-settle_spared.ensures.store in
    let is : grafted ≡ restored tree (store_of old) = c.in_ok-grafted.ensures.store ∙ u.makes in
    record {
      performs =
          record {
            step =
                restore_done c.args.limit tree old mid (g.R.Rows.kept c.settle_gained.new.rows) grafted
                c.in_ok-refusal.field-0 c.in_ok-grafted.grafted.items c.in_ok-grafted.grafted.tags c.in_ok-refusal.ensures.refusal
                c.in_default.is u c.in_ok-grafted.ensures.items c.in_ok-grafted.ensures.tags
                (c.in_ok-settle_gained.ensures.store ∙ ap without_idle_pages is ∙ restored_stays tree (store_of old)
                ∙ sym is)
                is;
            accepted = refl;
            sound = c.in_ok-settle_gained.ensures.sound;
            base = search rules;
            leads = c.in_ok-changes.ensures;
          };
    }
