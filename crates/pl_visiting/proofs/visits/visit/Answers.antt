use Rattle.std.proofs.Common.{◌≡◌, ◌∙◌, ◌∷◌, ℤ, List, None, option_to_list, refl, rules, subst, sym, w64}
use Rattle.std.proofs.lemmas.Int.{to_z-of_z}
use Rattle.pl_base.specs.declared.row.VisitRow.{VisitRow}
use Rattle.pl_base.specs.declared.view.View.{View}
use Rattle.pl_base.specs.Rows.{store_of}
use Rattle.pl_base.specs.Store.{Store}
use Rattle.pl_step.specs.declared.reply.Reply.{Reply}
use Rattle.pl_step.specs.declared.reply.Reply.TheVariants.{Visit as VisitReply}
use Rattle.pl_step.specs.declared.command.Command.TheVariants.{Visit as VisitCommand}
use Rattle.pl_step.specs.Step.{perform, visit_refusal}
use Rattle.pl_history.specs.Addresses.{HaveAddresses}
use Rattle.pl_history.proofs.KeptAddresses.{addresses_known}
use Rattle.pl_history.proofs.ReadyPage.{ready}
use Rattle.pl_history.proofs.VisitBears.{then_visited}
use Rattle.pl_done.specs.Performed.{IsPerformed}
use Rattle.pl_done.proofs.ByChanges.{by_changes}
use Rattle.pl_visiting.proofs.FewPages.{few_pages}
use Rattle.pl_visiting.proofs.VisitAllowed.{has_id, has_room, has_slot, has_source}
use Rattle.pl_done.proofs.CameFrom.{came_from}
use Rattle.pl_link.proofs.PlaceUrls.{place_told}
use Rattle.pl_visiting.proofs.VisitStep.{step_after}
use Rattle.pl_visiting.proofs.visits.visit.Goals as goal

pub page_for-requires-clause-room : goal.page_for-requires-clause-room
page_for-requires-clause-room g c =
    has_room c.args.limit (g.R.Rows.kept c.args.rows.now) c.args.url.now c.in_ok-target.target c.args.transition
    c.args.date c.args.source (g.met.R.Rows.well_kept c.args.rows.now) c.in_ok-target.ensures
    (sym (c.refusal.ensures c.args.transition c.args.date) ∙ c.in_default.is) c.requires.most

pub add_visit-requires-clause-ready : goal.add_visit-requires-clause-ready
add_visit-requires-clause-ready g c =
    ready (g.R.Rows.kept c.args.rows.now) (g.R.Rows.kept c.page_for.new.rows) c.args.url.now c.in_ok-target.target
    c.in_ok-page.page c.is_place.result (g.met.R.Rows.well_kept c.args.rows.now)
    (g.met.R.Rows.well_kept c.page_for.new.rows) c.requires.sound
    c.in_ok-target.ensures c.in_ok-page.ensures.page
    (place_told c.args.url.now c.is_place.result c.is_place.ensures)

pub add_visit-requires-clause-source : goal.add_visit-requires-clause-source
add_visit-requires-clause-source g c =
    has_source c.args.limit (g.R.Rows.kept c.args.rows.now) (g.R.Rows.kept c.page_for.new.rows) c.args.url.now
    c.in_ok-target.target c.in_ok-page.page c.args.transition c.args.date c.args.source c.in_ok-page.ensures.page
    (sym (c.refusal.ensures c.args.transition c.args.date) ∙ c.in_default.is)

pub add_visit-requires-clause-id : goal.add_visit-requires-clause-id
add_visit-requires-clause-id g c =
    has_id c.args.limit (g.R.Rows.kept c.args.rows.now) (g.R.Rows.kept c.page_for.new.rows) c.args.url.now
    c.in_ok-target.target c.in_ok-page.page c.args.transition c.args.date c.args.source
    (g.met.R.Rows.well_kept c.args.rows.now) c.in_ok-page.ensures.page
    (sym (c.refusal.ensures c.args.transition c.args.date) ∙ c.in_default.is)

pub add_visit-requires-clause-live : goal.add_visit-requires-clause-live
add_visit-requires-clause-live g c =
    has_slot c.args.limit (g.R.Rows.kept c.args.rows.now) (g.R.Rows.kept c.page_for.new.rows) c.args.url.now
    c.in_ok-target.target c.in_ok-page.page c.args.transition c.args.date c.args.source c.in_ok-target.ensures
    c.in_ok-page.ensures.page (sym (c.refusal.ensures c.args.transition c.args.date) ∙ c.in_default.is)
    c.requires.most

pub add_visit-requires-clause-views : goal.add_visit-requires-clause-views
add_visit-requires-clause-views g c =
    subst (λ (views : List View). HaveAddresses views (g.R.Rows.kept c.page_for.new.rows)) (sym c.deref.ensures.value)
    (addresses_known c.args.known.now.views.items (store_of (g.R.Rows.kept c.args.rows.now))
    (g.R.Rows.kept c.page_for.new.rows) c.requires.knows.views c.in_ok-page.ensures.borne.texts)

pub visit_changes-requires-clause-came : goal.visit_changes-requires-clause-came
visit_changes-requires-clause-came g c =
    let row : VisitRow =
    record {
      page = c.in_ok-page.page;
      date = c.args.date;
      transition = c.args.transition;
      source = c.args.source;
    } in
    came_from (c.in_ok-added.added.page ∷ option_to_list c.in_ok-added.added.source)
    (store_of (g.R.Rows.kept c.args.rows.now)) (store_of (g.R.Rows.kept c.add_visit.new.rows)) c.args.known.now
    c.requires.knows
    (then_visited (store_of (g.R.Rows.kept c.args.rows.now)) (store_of (g.R.Rows.kept c.page_for.new.rows))
    (store_of (g.R.Rows.kept c.add_visit.new.rows)) row c.in_ok-added.added c.in_ok-page.ensures.borne
    c.in_ok-added.ensures.added c.in_ok-added.ensures.borne)

pub returns-clause-performs : goal.returns-clause-performs
returns-clause-performs g c =
    let allowed : visit_refusal c.args.limit (store_of (g.R.Rows.kept c.args.rows.now)) c.args.url.now
    c.args.transition c.args.date c.args.source ≡ None =
    sym (c.refusal.ensures c.args.transition c.args.date) ∙ c.in_default.is in
    let row : VisitRow =
    record {
      page = c.in_ok-page.page;
      date = c.args.date;
      transition = c.args.transition;
      source = c.args.source;
    } in
    let outcome : Reply × Store =
    perform c.args.limit (store_of (g.R.Rows.kept c.args.rows.now))
    (VisitCommand c.args.url.now c.args.transition c.args.date c.args.source) in
    subst (λ (z : ℤ). IsPerformed g.R.Rows.kept g.R.Rows.base outcome c.args.rows.now c.add_visit.new.rows
    c.args.known.now
    (record {
      reply = VisitReply c.in_ok-added.added.visit c.in_ok-added.added.page z;
      changes = c.in_ok-changes.changes;
    }))
    (sym (to_z-of_z w64 c.in_ok-added.added.frecency (search rules)))
    (by_changes g.R.Rows.kept g.R.Rows.base outcome c.args.rows.now c.add_visit.new.rows c.args.known.now
    (VisitReply c.in_ok-added.added.visit c.in_ok-added.added.page c.in_ok-added.added.frecency)
    c.in_ok-changes.changes refl
    (step_after c.args.limit (g.R.Rows.kept c.args.rows.now) (g.R.Rows.kept c.page_for.new.rows)
    (g.R.Rows.kept c.add_visit.new.rows) c.args.url.now c.in_ok-target.target row c.in_ok-added.added
    c.in_ok-target.ensures c.in_ok-page.ensures.page allowed c.in_ok-added.ensures.added)
    c.in_ok-added.ensures.sound
    (λ bytes stands. c.in_ok-added.ensures.base bytes (c.in_ok-page.ensures.base bytes stands))
    c.in_ok-changes.ensures)

pub returns-clause-pages : goal.returns-clause-pages
returns-clause-pages g c =
    few_pages (g.R.Rows.kept c.args.rows.now) c.args.url.now c.in_ok-target.target (g.R.Rows.pending c.args.rows.now)
    (g.R.Rows.pending c.page_for.new.rows) (g.R.Rows.pending c.add_visit.new.rows) c.in_ok-target.ensures
    c.in_ok-page.ensures.pages c.in_ok-added.ensures.pages
