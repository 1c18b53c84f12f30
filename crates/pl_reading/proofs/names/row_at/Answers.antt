use Rattle.std.proofs.Common.{◌∙◌, ap, arith, refl, sym}
use Rattle.pl_slot.specs.Arena.{row_at}
use Rattle.pl_slot.proofs.SlotPlaces.{no_slot, slot_bounds}
use Rattle.pl_base.proofs.Truths.{no_test}
use Rattle.pl_reading.proofs.names.row_at.Goals as goal

pub returns-then-slot-eq0 : goal.returns-then-slot-eq0
returns-then-slot-eq0 g c =
    sym (ap (λ n. row_at n c.args.arena.now) c.if-slot-eq0.true ∙ no_slot 0 c.args.arena.now refl)

pub returns-then-slot-pages : goal.returns-then-slot-pages
returns-then-slot-pages g c =
    sym
    (no_slot c.args.slot.0 c.args.arena.now
    (no_test _
    (λ there.
    omega (
      arith,
      (slot_bounds c.args.slot.0 c.args.arena.now there).1,
      c.if-slot-pages.true,
      c.pages.ensures.count,
      c.pages.ensures.arena.some_page,
    ))))
