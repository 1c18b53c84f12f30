use Rattle.std.proofs.Common.{◌+◌, ◌∙◌, ap, arith, Bool, length, refl, rules, sym}
use Rattle.pl_base.specs.Live.{chunks}
use Rattle.pl_base.specs.Rows.{Kept, store_of}
use Rattle.pl_base.specs.Title.{cut_title}
use Rattle.pl_base.proofs.TitleCuts.{cut_title-le}
use Rattle.pl_history.specs.Target.{is_new}
use Rattle.pl_history.proofs.ReadyPage.{ready}
use Rattle.pl_editing.specs.Room.{item_room}
use Rattle.pl_editing.proofs.BookmarkAllowed.{bookmark_done, bookmark_refused, item_room_of, none_refused}
use Rattle.pl_editing.proofs.BookmarkAllowed.{room_item, room_page}
use Rattle.pl_editing.proofs.ItemChanges.{bookmark_came}
use Rattle.pl_editing.proofs.PageSlots.{are_slots}
use Rattle.pl_link.proofs.PlaceUrls.{place_told}
use Rattle.pl_editing.proofs.bookmarks.bookmark.Goals as goal

pub returns-in-Some-room_refusal : goal.returns-in-Some-room_refusal
returns-in-Some-room_refusal g c =
    let kept : Kept = g.R.Rows.kept c.args.rows.now in
    record {
      performs = (
        refl,
        bookmark_refused c.args.limit kept c.args.parent c.args.place c.args.url.now c.cut_title-text.result.now
            c.args.title.now c.args.date c.in_ok-target.target (c.slots_after.result + c.chunks.result)
            c.room_refusal.result c.in-Some-room_refusal.refusal c.in_ok-target.ensures
            (sym c.refused.ensures ∙ c.in_default.is) (c.cut_title-text.ensures ∙ ap cut_title c.as_str.ensures)
            (are_slots kept c.args.url.now (chunks c.cut_title-text.result.now) c.slots_after.result c.chunks.result
            c.slots_after.ensures.after c.slots_after.ensures.grows c.chunks.ensures)
            (c.room_refusal.ensures
            ∙ ap (λ (b : Bool). item_room c.args.limit (store_of kept) b (c.slots_after.result + c.chunks.result))
            c.is_new.ensures)
            c.in-Some-room_refusal.is,
      );
    }

pub page_for-requires-clause-room : goal.page_for-requires-clause-room
page_for-requires-clause-room g c =
    let kept : Kept = g.R.Rows.kept c.args.rows.now in
    room_page c.args.limit kept c.args.url.now c.cut_title-text.result.now c.in_ok-target.target
    (c.slots_after.result + c.chunks.result) (g.met.R.Rows.well_kept c.args.rows.now) c.in_ok-target.ensures
    (are_slots kept c.args.url.now (chunks c.cut_title-text.result.now) c.slots_after.result c.chunks.result
    c.slots_after.ensures.after c.slots_after.ensures.grows c.chunks.ensures)
    (item_room_of c.args.limit (store_of kept) (is_new c.in_ok-target.target)
    (c.slots_after.result + c.chunks.result) c.room_refusal.result
    (c.room_refusal.ensures
    ∙ ap (λ (b : Bool). item_room c.args.limit (store_of kept) b (c.slots_after.result + c.chunks.result))
    c.is_new.ensures)
    c.in_default-room_refusal.is)
    c.requires.most

pub add_bookmark-requires-clause-ready : goal.add_bookmark-requires-clause-ready
add_bookmark-requires-clause-ready g c =
    ready (g.R.Rows.kept c.args.rows.now) (g.R.Rows.kept c.page_for.new.rows) c.args.url.now c.in_ok-target.target
    c.in_ok-page.page c.is_place.result (g.met.R.Rows.well_kept c.args.rows.now)
    (g.met.R.Rows.well_kept c.page_for.new.rows) c.requires.sound
    c.in_ok-target.ensures c.in_ok-page.ensures.page
    (place_told c.args.url.now c.is_place.result c.is_place.ensures)

pub add_bookmark-requires-clause-allowed : goal.add_bookmark-requires-clause-allowed
add_bookmark-requires-clause-allowed g c =
    none_refused c.args.limit (g.R.Rows.kept c.args.rows.now) (g.R.Rows.kept c.page_for.new.rows) c.args.url.now
    c.in_ok-target.target c.in_ok-page.page c.args.parent c.args.place c.is_new.result
    (c.slots_after.result + c.chunks.result) c.in_ok-page.ensures.page (sym c.refused.ensures ∙ c.in_default.is)
    (item_room_of c.args.limit (store_of (g.R.Rows.kept c.args.rows.now)) c.is_new.result
    (c.slots_after.result + c.chunks.result) c.room_refusal.result c.room_refusal.ensures
    c.in_default-room_refusal.is)

pub add_bookmark-requires-clause-title : goal.add_bookmark-requires-clause-title
add_bookmark-requires-clause-title g c =
    omega (arith, ap length c.cut_title-text.ensures, cut_title-le c.as_str.result.now)

pub add_bookmark-requires-clause-live : goal.add_bookmark-requires-clause-live
add_bookmark-requires-clause-live g c =
    let kept : Kept = g.R.Rows.kept c.args.rows.now in
    room_item c.args.limit kept (g.R.Rows.kept c.page_for.new.rows) c.args.url.now c.cut_title-text.result.now
    c.in_ok-target.target c.in_ok-page.page c.is_new.result (c.slots_after.result + c.chunks.result)
    c.in_ok-target.ensures c.in_ok-page.ensures.page
    (are_slots kept c.args.url.now (chunks c.cut_title-text.result.now) c.slots_after.result c.chunks.result
    c.slots_after.ensures.after c.slots_after.ensures.grows c.chunks.ensures)
    (item_room_of c.args.limit (store_of kept) c.is_new.result (c.slots_after.result + c.chunks.result)
    c.room_refusal.result c.room_refusal.ensures c.in_default-room_refusal.is)
    c.requires.most

pub item_changes-requires-clause-came : goal.item_changes-requires-clause-came
item_changes-requires-clause-came g c =
    bookmark_came c.args.url.now c.in_ok-target.target (g.R.Rows.kept c.args.rows.now)
    (g.R.Rows.kept c.page_for.new.rows) (g.R.Rows.kept c.add_bookmark.new.rows) c.in_ok-page.page c.args.known.now
    c.args.parent c.args.place c.cut_title-text.result.now c.args.date c.in_ok-page.ensures.page
    (g.met.R.Rows.well_kept c.page_for.new.rows) c.requires.sound c.in_ok-id.ensures.sound c.requires.knows
    c.in_ok-id.ensures.store

pub returns : goal.returns
returns g c =
    let kept : Kept = g.R.Rows.kept c.args.rows.now in
    record {
      performs =
          record {
            step =
                bookmark_done c.args.limit kept (g.R.Rows.kept c.page_for.new.rows)
                (store_of (g.R.Rows.kept c.add_bookmark.new.rows)) c.args.parent c.args.place c.args.url.now
                c.cut_title-text.result.now c.args.title.now c.args.date c.in_ok-target.target c.in_ok-page.page
                (c.slots_after.result + c.chunks.result) c.room_refusal.result c.in_ok-id.id c.in_ok-target.ensures
                c.in_ok-page.ensures.page (sym c.refused.ensures ∙ c.in_default.is)
                (c.cut_title-text.ensures ∙ ap cut_title c.as_str.ensures)
                (are_slots kept c.args.url.now (chunks c.cut_title-text.result.now) c.slots_after.result
                c.chunks.result
                c.slots_after.ensures.after c.slots_after.ensures.grows c.chunks.ensures)
                (c.room_refusal.ensures
                ∙ ap (λ (b : Bool). item_room c.args.limit (store_of kept) b
                (c.slots_after.result + c.chunks.result))
                c.is_new.ensures)
                c.in_default-room_refusal.is c.in_ok-id.ensures.item c.in_ok-id.ensures.store;
            accepted = search rules;
            sound = c.in_ok-id.ensures.sound;
            base = search rules;
            leads = c.in_ok-changes.ensures;
          };
    }
