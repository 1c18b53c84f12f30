use Rattle.std.proofs.Common.{◌∙◌, rules, sym}
use Rattle.pl_base.specs.Rows.{store_of}
use Rattle.pl_history.proofs.GoodRows.{items_of}
use Rattle.pl_history.proofs.ReadyPage.{ready}
use Rattle.pl_link.proofs.PlaceUrls.{place_told}
use Rattle.pl_editing.proofs.ItemChanges.{tag_came}
use Rattle.pl_editing.proofs.TagAllowed.{tag_allowed, tag_done, tag_live, tag_page}
use Rattle.pl_editing.proofs.tags.tag.Goals as goal

pub page_for-requires-clause-room : goal.page_for-requires-clause-room
page_for-requires-clause-room g c =
    tag_page c.args.limit (g.R.Rows.kept c.args.rows.now) c.args.url.now c.args.name.now c.args.date
    c.in_ok-target.target (g.met.R.Rows.well_kept c.args.rows.now) c.in_ok-target.ensures
    (sym (c.in_ok-refusal.ensures c.args.date) ∙ c.in_default.is) c.requires.most

pub add_tag-requires-clause-ready : goal.add_tag-requires-clause-ready
add_tag-requires-clause-ready g c =
    ready (g.R.Rows.kept c.args.rows.now) (g.R.Rows.kept c.page_for.new.rows) c.args.url.now c.in_ok-target.target
    c.in_ok-page.page c.is_place.result (g.met.R.Rows.well_kept c.args.rows.now)
    (g.met.R.Rows.well_kept c.page_for.new.rows) c.requires.sound
    c.in_ok-target.ensures c.in_ok-page.ensures.page
    (place_told c.args.url.now c.is_place.result c.is_place.ensures)

pub add_tag-requires-clause-live : goal.add_tag-requires-clause-live
add_tag-requires-clause-live g c =
    tag_live c.args.limit (g.R.Rows.kept c.args.rows.now) c.args.url.now c.args.name.now c.args.date
    c.in_ok-target.target (g.met.R.Rows.well_kept c.args.rows.now) c.in_ok-target.ensures
    (sym (c.in_ok-refusal.ensures c.args.date) ∙ c.in_default.is) (g.R.Rows.kept c.page_for.new.rows)
    c.in_ok-page.page c.in_ok-page.ensures.page c.requires.most

pub add_tag-requires-clause-allowed : goal.add_tag-requires-clause-allowed
add_tag-requires-clause-allowed g c =
    tag_allowed c.args.limit (g.R.Rows.kept c.args.rows.now) c.args.url.now c.args.name.now c.args.date
    c.in_ok-target.target (g.met.R.Rows.well_kept c.args.rows.now) c.in_ok-target.ensures
    (sym (c.in_ok-refusal.ensures c.args.date) ∙ c.in_default.is) (g.R.Rows.kept c.page_for.new.rows)
    c.in_ok-page.page c.in_ok-page.ensures.page
    (items_of (store_of (g.R.Rows.kept c.args.rows.now)) c.requires.sound.good)

pub item_changes-requires-clause-came : goal.item_changes-requires-clause-came
item_changes-requires-clause-came g c =
    tag_came c.args.url.now c.in_ok-target.target (g.R.Rows.kept c.args.rows.now) (g.R.Rows.kept c.page_for.new.rows)
    (g.R.Rows.kept c.add_tag.new.rows) c.in_ok-page.page c.args.known.now c.args.name.now c.args.date
    c.in_ok-page.ensures.page (g.met.R.Rows.well_kept c.page_for.new.rows) c.requires.sound
    c.in_ok-add_tag.ensures.sound c.requires.knows c.in_ok-add_tag.ensures.store

pub returns : goal.returns
returns g c =
    record {
      performs =
          record {
            step =
                tag_done c.args.limit (g.R.Rows.kept c.args.rows.now) c.args.url.now c.args.name.now c.args.date
                c.in_ok-target.target (g.met.R.Rows.well_kept c.args.rows.now) c.in_ok-target.ensures
                (sym (c.in_ok-refusal.ensures c.args.date) ∙ c.in_default.is) (g.R.Rows.kept c.page_for.new.rows)
                c.in_ok-page.page c.in_ok-page.ensures.page (store_of (g.R.Rows.kept c.add_tag.new.rows))
                c.in_ok-add_tag.ensures.store;
            accepted = search rules;
            sound = c.in_ok-add_tag.ensures.sound;
            base = search rules;
            leads = c.in_ok-changes.ensures;
          };
    }
