use Rattle.std.proofs.Common.{◌∙◌, arith, is_some, take}
use Rattle.std.proofs.Common.{ap, sym}
use Rattle.pl_slot.proofs.ArenaLaws.{live_slot}
use Rattle.pl_slot.proofs.SlotPlaces.{slot_bounds}
use Rattle.pl_text.proofs.RowParts.{row_read, used_fits}
use Rattle.pl_text.proofs.searching.behind.Goals as goal
use Rattle.pl_text.proofs.searching.behind.Goals.{then-slot-eq0-via-else-slot-eq0+then-slot-slot_count}
use Rattle.pl_text.proofs.searching.behind.Goals.{then-slot-eq0-via-then-slot-eq0}

pub returns-then-slot-eq0-clause-none : goal.returns-then-slot-eq0-clause-none
returns-then-slot-eq0-clause-none g c none next holds =
    let bounds =
    slot_bounds c.args.slot.0 c.args.arena.now (live_slot c.args.slot.0 c.args.arena.now (ap is_some holds.1)) in
    elim c.then-slot-eq0.branch [
      | then-slot-eq0-via-then-slot-eq0 w ↦ omega (arith, bounds.0, w.if-slot-eq0.true)
      | then-slot-eq0-via-else-slot-eq0+then-slot-slot_count w ↦
          omega (arith, bounds.1, w.if-slot-slot_count.true, w.slot_count.ensures)
    ]

pub returns-in-Text-clause-some : goal.returns-in-Text-clause-some
returns-in-Text-clause-some g c = (
  take c.in-Text.used c.in-Text.payload,
  row_read c.args.slot.0 c.in-Text.used c.in-Text.next c.in-Text.payload c.args.arena.now c.in-Text.ensures.row
      c.in-Text.ensures.fits,
  (used_fits c.in-Text.used c.in-Text.next c.in-Text.payload c.in-Text.ensures.fits).1 ∙ sym c.from.ensures
      ∙ c.if-from-size.true,
)
