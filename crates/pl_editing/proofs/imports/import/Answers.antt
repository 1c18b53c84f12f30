use Rattle.std.proofs.Common.{◌≡◌, ◌∙◌, ◌≤◌, ℕ, All, List, Option, None, ap, map, refl, rules, subst, sym}
use Rattle.std.specs.List.Sorted.{IsNonDecreasingBy, IsStrictlyIncreasing}
use Rattle.pl_base.specs.declared.id.Ids.{Ids}
use Rattle.pl_base.specs.declared.id.PageId.{PageId}
use Rattle.pl_base.specs.declared.refusal.Refusal.{Refusal}
use Rattle.pl_base.specs.declared.view.View.{View}
use Rattle.pl_base.specs.Good.{HasGoodItems}
use Rattle.pl_base.specs.Rows.{Kept, store_of}
use Rattle.pl_base.specs.Store.{Store}
use Rattle.pl_history.specs.Addresses.{HaveAddresses}
use Rattle.pl_history.specs.Settled.{AreSettledBut}
use Rattle.pl_nbread.specs.declared.tree.Tree.{Tree}
use Rattle.pl_graft.specs.Gained.{gained}
use Rattle.pl_graft.specs.Import.{imported, row_count, tags_made}
use Rattle.pl_changes.specs.CameFrom.{CameByItems}
use Rattle.pl_step.specs.declared.command.Command.TheVariants.{Import}
use Rattle.pl_step.specs.declared.reply.Reply.{Reply}
use Rattle.pl_step.specs.declared.reply.Reply.TheVariants.{Imported}
use Rattle.pl_step.specs.Step.{import_refusal, import_reply, perform, unless_refused}
use Rattle.pl_editing.specs.NewPage.{IsNew}
use Rattle.pl_editing.proofs.ImportChanges.{imported_came}
use Rattle.pl_editing.proofs.ImportedPages.{imported_new, imported_once, imported_rise}
use Rattle.pl_editing.proofs.ImportSettled.{imported_settled, imported_stands}
use Rattle.pl_done.proofs.KnownAddresses.{addresses_grown}
use Rattle.pl_editing.proofs.imports.import.Goals as goal

pub settle_gained-requires-clause-ascending : goal.settle_gained-requires-clause-ascending
settle_gained-requires-clause-ascending g c =
    subst (IsNonDecreasingBy (λ (page : PageId). page.0)) (sym (c.as_slice-pages.ensures ∙ c.in_ok-grafted.ensures.pages))
    (imported_rise (store_of (g.R.Rows.kept c.args.rows.now)) (g.R.Rows.kept c.graft.new.rows)
    (g.met.R.Rows.well_kept c.graft.new.rows))

pub settle_gained-requires-clause-made : goal.settle_gained-requires-clause-made
settle_gained-requires-clause-made g c =
    let old : Kept = g.R.Rows.kept c.args.rows.now in
    let new : Kept = g.R.Rows.kept c.graft.new.rows in
    subst (λ (first : ℕ). All (λ (page : PageId). first ≤ page.0 → IsNew (store_of new) page) c.as_slice-pages.result.now)
    (sym (ap (λ (ids : Ids). ids.page) c.ids-first.ensures.ids))
    (subst (All (λ (page : PageId). old.ids.page ≤ page.0 → IsNew (store_of new) page))
    (sym (c.as_slice-pages.ensures ∙ c.in_ok-grafted.ensures.pages))
    (imported_new c.args.tree.now old new (g.met.R.Rows.well_kept c.args.rows.now) c.in_ok-grafted.ensures.store
    c.in_ok-grafted.ensures.grows))

pub settle_gained-requires-clause-settled : goal.settle_gained-requires-clause-settled
settle_gained-requires-clause-settled g c =
    let old : Kept = g.R.Rows.kept c.args.rows.now in
    let new : Kept = g.R.Rows.kept c.graft.new.rows in
    subst (λ (ids : List PageId). AreSettledBut ids new) (sym (c.as_slice-pages.ensures ∙ c.in_ok-grafted.ensures.pages))
    (imported_settled c.args.tree.now old new (g.met.R.Rows.well_kept c.args.rows.now)
    (g.met.R.Rows.well_kept c.graft.new.rows) c.requires.sound c.in_ok-grafted.ensures.store
    c.in_ok-grafted.ensures.grows c.in_ok-grafted.ensures.good)

pub settle_gained-requires-clause-views : goal.settle_gained-requires-clause-views
settle_gained-requires-clause-views g c =
    subst (λ (views : List View). HaveAddresses views (g.R.Rows.kept c.graft.new.rows)) (sym c.deref.ensures.value)
    (addresses_grown (g.R.Rows.kept c.args.rows.now) (g.R.Rows.kept c.graft.new.rows)
    c.in_ok-grafted.ensures.grows.added c.args.known.now c.requires.knows (g.met.R.Rows.well_kept c.graft.new.rows)
    c.in_ok-grafted.ensures.grows.pages)

-- what an import that is not refused answers and leaves
done : (limit : ℕ) (old new : Store) (tree : Tree) (refused : Option Refusal) (items tags : ℕ)
    → refused ≡ import_refusal limit old tree (imported tree old) → refused ≡ None → items ≡ row_count tree
    → tags ≡ tags_made tree old → new ≡ imported tree old
    → ◌≡◌ {A = Reply × Store} (Imported items tags tree.skipped, new) (perform limit old (Import tree))
done limit old new tree refused items tags refused_is none items_is tags_is new_is =
    ap (λ (n : ℕ). (Imported n tags tree.skipped, new)) items_is
    ∙ ap (λ (n : ℕ). (Imported (row_count tree) n tree.skipped, new)) tags_is
    ∙ ap (λ (s : Store). (import_reply old tree, s)) new_is
    ∙ ap (λ (o : Option Refusal). unless_refused o old (import_reply old tree, imported tree old))
    (sym none ∙ refused_is)

pub item_changes-requires-clause-ascending : goal.item_changes-requires-clause-ascending
item_changes-requires-clause-ascending g c =
    subst (λ (pages : List PageId). IsStrictlyIncreasing (map (λ (page : PageId). page.0) pages))
    (sym (c.as_slice-pages.ensures ∙ c.in_ok-grafted.ensures.pages))
    (imported_once (store_of (g.R.Rows.kept c.args.rows.now)) (g.R.Rows.kept c.graft.new.rows)
    (g.met.R.Rows.well_kept c.graft.new.rows))

pub item_changes-requires-clause-came : goal.item_changes-requires-clause-came
item_changes-requires-clause-came g c =
    let old : Kept = g.R.Rows.kept c.args.rows.now in
    let new : Store = store_of (g.R.Rows.kept c.settle_gained.new.rows) in
    subst (λ (pages : List PageId). CameByItems pages c.args.known.now new)
    (sym
    (c.as_slice-pages.ensures ∙ c.in_ok-grafted.ensures.pages
    ∙ ap (gained (store_of old)) c.in_ok-grafted.ensures.store))
    (imported_came c.args.tree.now old new c.args.known.now (g.met.R.Rows.well_kept c.args.rows.now) c.requires.sound
    c.in_ok-settle_gained.ensures.sound.good (subst HasGoodItems c.in_ok-grafted.ensures.store c.in_ok-grafted.ensures.good)
    c.requires.knows
    (c.in_ok-settle_gained.ensures.store
    ∙ imported_stands c.args.tree.now (g.R.Rows.kept c.args.rows.now) (g.R.Rows.kept c.graft.new.rows)
    (g.met.R.Rows.well_kept c.args.rows.now) c.requires.sound
    c.in_ok-grafted.ensures.store c.in_ok-grafted.ensures.grows
    ∙ c.in_ok-grafted.ensures.store))

pub returns : goal.returns
returns g c =
    record {
      performs =
          record {
            step =
                done c.args.limit (store_of (g.R.Rows.kept c.args.rows.now))
                (store_of (g.R.Rows.kept c.settle_gained.new.rows)) c.args.tree.now c.in_ok-refusal.field-0
                c.in_ok-grafted.grafted.items c.in_ok-grafted.grafted.tags c.in_ok-refusal.ensures c.in_default.is
                c.in_ok-grafted.ensures.items c.in_ok-grafted.ensures.tags
                (c.in_ok-settle_gained.ensures.store
                ∙ imported_stands c.args.tree.now (g.R.Rows.kept c.args.rows.now) (g.R.Rows.kept c.graft.new.rows)
                (g.met.R.Rows.well_kept c.args.rows.now) c.requires.sound
                c.in_ok-grafted.ensures.store c.in_ok-grafted.ensures.grows
                ∙ c.in_ok-grafted.ensures.store);
            accepted = refl;
            sound = c.in_ok-settle_gained.ensures.sound;
            base = search rules;
            leads = c.in_ok-changes.ensures;
          };
    }
