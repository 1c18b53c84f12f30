use Rattle.std.proofs.Common.{◌+◌, ◌∙◌, ap, arith, false, List, refl, rules, sym, ℕ}
use Rattle.pl_base.specs.Rows.{store_of}
use Rattle.pl_base.specs.Store.{Store}
use Rattle.pl_tree.specs.declared.new_item.NewItem.{NewItem}
use Rattle.pl_step.specs.Step.{after_insert}
use Rattle.pl_editing.specs.Room.{plain_item}
use Rattle.pl_editing.proofs.ItemChanges.{plain_came}
use Rattle.pl_editing.proofs.ItemStep.{insert_done, insert_refused, live_inserted}
use Rattle.pl_history.proofs.ItemPages.{sound_inserted}
use Rattle.pl_editing.proofs.insert.insert_plain.Goals as goal

pub returns-in-Some-room_refusal : goal.returns-in-Some-room_refusal
returns-in-Some-room_refusal g c =
    let store : Store = store_of (g.R.Rows.kept c.args.rows.now) in
    let new : NewItem = plain_item c.args.kind c.args.title.now c.args.date in
    record {
      performs = (
        refl,
        insert_refused c.args.limit store c.args.parent c.args.place false
            (after_insert c.args.parent c.args.place new store) (c.live.result + 1 + c.chunks.result)
            c.room_refusal.result c.in-Some-room_refusal.refusal (sym c.refused.ensures ∙ c.in_default.is)
            (omega (
              arith,
              c.live.ensures.live,
              c.chunks.ensures,
              live_inserted c.args.parent c.args.place new store,
            ))
            c.room_refusal.ensures c.in-Some-room_refusal.is,
      );
    }

pub item_changes-requires-clause-sound : goal.item_changes-requires-clause-sound
item_changes-requires-clause-sound g c =
    sound_inserted (g.R.Rows.kept c.args.rows.now) (g.R.Rows.kept c.insert_allowed.new.rows) c.args.parent c.args.place
    (plain_item c.args.kind c.in_ok-copied.field-0 c.args.date) refl c.in_ok-id.ensures.kept
    (g.met.R.Rows.well_kept c.args.rows.now) (g.met.R.Rows.well_kept c.insert_allowed.new.rows)
    c.in_ok-id.ensures.good c.requires.sound

pub item_changes-requires-clause-came : goal.item_changes-requires-clause-came
item_changes-requires-clause-came g c =
    plain_came (g.R.Rows.kept c.args.rows.now) (g.R.Rows.kept c.insert_allowed.new.rows) c.args.known.now c.args.parent
    c.args.place c.args.kind c.in_ok-copied.field-0 c.args.date (g.met.R.Rows.well_kept c.args.rows.now)
    c.requires.sound
    (sound_inserted (g.R.Rows.kept c.args.rows.now) (g.R.Rows.kept c.insert_allowed.new.rows) c.args.parent c.args.place
    (plain_item c.args.kind c.in_ok-copied.field-0 c.args.date) refl c.in_ok-id.ensures.kept
    (g.met.R.Rows.well_kept c.args.rows.now) (g.met.R.Rows.well_kept c.insert_allowed.new.rows)
    c.in_ok-id.ensures.good c.requires.sound)
    c.requires.knows c.in_ok-id.ensures.kept

pub returns : goal.returns
returns g c =
    let store : Store = store_of (g.R.Rows.kept c.args.rows.now) in
    let new : NewItem = plain_item c.args.kind c.args.title.now c.args.date in
    record {
      performs =
          record {
            step =
                insert_done c.args.limit store c.args.parent c.args.place false
                (after_insert c.args.parent c.args.place new store)
                (store_of (g.R.Rows.kept c.insert_allowed.new.rows)) (c.live.result + 1 + c.chunks.result)
                c.room_refusal.result c.in_ok-id.id (sym c.refused.ensures ∙ c.in_default.is)
                (omega (
                  arith,
                  c.live.ensures.live,
                  c.chunks.ensures,
                  live_inserted c.args.parent c.args.place new store,
                ))
                c.room_refusal.ensures c.in_default-room_refusal.is c.in_ok-id.ensures.item
                (ap store_of c.in_ok-id.ensures.kept
                ∙ ap (λ (title : List ℕ). after_insert c.args.parent c.args.place
                (plain_item c.args.kind title c.args.date) store)
                c.in_ok-copied.ensures);
            accepted = refl;
            sound =
                sound_inserted (g.R.Rows.kept c.args.rows.now) (g.R.Rows.kept c.insert_allowed.new.rows) c.args.parent c.args.place
                (plain_item c.args.kind c.in_ok-copied.field-0 c.args.date) refl c.in_ok-id.ensures.kept
                (g.met.R.Rows.well_kept c.args.rows.now) (g.met.R.Rows.well_kept c.insert_allowed.new.rows)
                c.in_ok-id.ensures.good c.requires.sound;
            base = search rules;
            leads = c.in_ok-changes.ensures;
          };
    }
