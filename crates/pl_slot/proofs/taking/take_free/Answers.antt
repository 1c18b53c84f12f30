use Rattle.std.proofs.Common.{◌≡◌, ap, arith, sym, true, ◌∙◌}
use Rattle.pl_base.specs.declared.id.Slot.{Slot}
use Rattle.pl_slot.specs.Arena.{is_free}
use Rattle.pl_slot.proofs.ArenaLaws.{free_slot}
use Rattle.pl_slot.proofs.HeaderLaws.{first_free_told}
use Rattle.pl_slot.proofs.SlotPlaces.{count_put}
use Rattle.pl_slot.proofs.TakingLaws.{TakenFirst, first_is_free, taken_first}
use Rattle.pl_slot.proofs.taking.take_free.Goals as goal
use Rattle.pl_slot.proofs.taking.take_free.Goals.{After-four_at, After-put_four}

free : (c : After-four_at) → is_free c.four_at.result c.args.sheets.now ≡ true
free c =
    ap (λ (s : Slot). is_free s.0 c.args.sheets.now)
    (sym (first_free_told c.four_at.result c.args.sheets.now c.four_at.ensures))
    ∙ first_is_free c.args.sheets.now c.requires.arena c.requires.free

taken : (c : After-put_four) → TakenFirst c.four_at.result c.args.row.now c.args.sheets.now c.put_four.new.sheets
taken c =
    taken_first c.four_at.result c.next_free-next.result c.args.row.now c.args.sheets.now c.put_row.new.sheets
    c.put_four.new.sheets c.requires.arena (first_free_told c.four_at.result c.args.sheets.now c.four_at.ensures)
    c.next_free-next.ensures c.requires.row (omega arith) c.put_row.ensures c.put_four.ensures

pub next_free-next-requires : goal.next_free-next-requires
next_free-next-requires c = record { there = free c }

pub put_row-requires : goal.put_row-requires
put_row-requires c = record { there = free_slot c.four_at.result c.args.sheets.now (free c.before.before) }

pub put_four-requires-clause-there : goal.put_four-requires-clause-there
put_four-requires-clause-there c = rw (c.put_row.ensures, count_put) c.requires.arena.some_page

pub returns-clause-arena : goal.returns-clause-arena
returns-clause-arena c = (taken c).arena

pub returns-clause-first : goal.returns-clause-first
returns-clause-first c = sym (first_free_told c.four_at.result c.args.sheets.now c.four_at.ensures)

pub returns-clause-rows : goal.returns-clause-rows
returns-clause-rows c = (taken c).rows

pub returns-clause-header : goal.returns-clause-header
returns-clause-header c = (taken c).header

pub returns-clause-count : goal.returns-clause-count
returns-clause-count c = (taken c).count

pub returns-clause-pages : goal.returns-clause-pages
returns-clause-pages c = (taken c).pages

pub returns-clause-as_many : goal.returns-clause-as_many
returns-clause-as_many c = rw (c.put_four.ensures, count_put, c.put_row.ensures, count_put)
