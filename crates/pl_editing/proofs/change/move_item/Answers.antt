use Rattle.std.proofs.Common.{refl, rules}
use Rattle.pl_base.specs.Rows.{Kept, store_of}
use Rattle.pl_editing.proofs.ItemChanges.{moved_came, moved_sound}
use Rattle.pl_editing.proofs.OwnPages.{moved_own}
use Rattle.pl_editing.proofs.change.move_item.Goals as goal

pub own_changes-requires-clause-sound : goal.own_changes-requires-clause-sound
own_changes-requires-clause-sound g c =
    moved_sound (g.R.Rows.kept c.args.rows.now) (g.R.Rows.kept c.move_to.new.rows) c.args.item c.args.parent c.args.place
    c.args.date (g.met.R.Rows.well_kept c.args.rows.now) (g.met.R.Rows.well_kept c.move_to.new.rows)
    c.in_ok-move_to.ensures.good c.requires.sound c.in_ok-move_to.ensures.kept

pub own_changes-requires-clause-came : goal.own_changes-requires-clause-came
own_changes-requires-clause-came g c =
    let old : Kept = g.R.Rows.kept c.args.rows.now in
    let new : Kept = g.R.Rows.kept c.move_to.new.rows in
    moved_own old new c.args.known.now (store_of new) c.args.item c.args.parent c.args.place c.args.date
    c.in_ok-move_to.ensures.kept
    (moved_came old new c.args.known.now c.args.item c.args.parent c.args.place c.args.date
    (g.met.R.Rows.well_kept c.args.rows.now) c.requires.sound
    (moved_sound old new c.args.item c.args.parent c.args.place c.args.date (g.met.R.Rows.well_kept c.args.rows.now)
    (g.met.R.Rows.well_kept c.move_to.new.rows) c.in_ok-move_to.ensures.good c.requires.sound
    c.in_ok-move_to.ensures.kept)
    c.requires.knows c.in_ok-move_to.ensures.allowed c.in_ok-move_to.ensures.kept)

pub returns-clause-performs : goal.returns-clause-performs
returns-clause-performs g c limit =
    record {
      step = search rules;
      accepted = refl;
      sound =
          moved_sound (g.R.Rows.kept c.args.rows.now) (g.R.Rows.kept c.move_to.new.rows) c.args.item c.args.parent c.args.place
          c.args.date (g.met.R.Rows.well_kept c.args.rows.now) (g.met.R.Rows.well_kept c.move_to.new.rows)
          c.in_ok-move_to.ensures.good c.requires.sound c.in_ok-move_to.ensures.kept;
      base = search rules;
      leads = c.in_ok-changes.ensures;
    }
