use Rattle.std.proofs.Common.{◌≡◌, subst, sym}
use Rattle.pl_sheets.specs.Sheets.{Pages, page_count}
use Rattle.pl_slot.specs.Arena.{KeepsSlots, header_of}
use Rattle.pl_record.proofs.OpeningRows.{opening_slots, opening_told}
use Rattle.pl_record.proofs.opening.opening_arena.Goals as goal

pub over-requires-clause-told : goal.over-requires-clause-told
over-requires-clause-told c =
    subst (λ (p : Pages). (header_of p).pages ≡ page_count p) (sym c.in_ok-opening_sheets.ensures) opening_told

pub unreachable-requires : goal.unreachable-requires
unreachable-requires c = c.in-Err.ensures.err (subst KeepsSlots (sym c.in_ok-opening_sheets.ensures) opening_slots)
