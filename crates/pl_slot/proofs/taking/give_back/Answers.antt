use Rattle.std.proofs.Common.{arith}
use Rattle.pl_slot.proofs.ArenaLaws.{live_slot}
use Rattle.pl_slot.proofs.HeaderLaws.{first_free_told}
use Rattle.pl_slot.proofs.SlotPlaces.{count_put}
use Rattle.pl_slot.proofs.TakingLaws.{GivenBack, given_back}
use Rattle.pl_slot.proofs.taking.give_back.Goals as goal
use Rattle.pl_slot.proofs.taking.give_back.Goals.{After-put_four}

given : (c : After-put_four) → GivenBack c.args.slot.0 c.args.sheets.now c.put_four.new.sheets
given c =
    given_back c.args.slot.0 c.four_at.result c.args.sheets.now c.put_row.new.sheets c.put_four.new.sheets
    c.requires.arena c.requires.live (first_free_told c.four_at.result c.args.sheets.now c.four_at.ensures)
    (omega arith) (omega arith) c.put_row.ensures c.put_four.ensures

pub put_row-requires : goal.put_row-requires
put_row-requires c = record { there = live_slot c.args.slot.0 c.args.sheets.now c.requires.live }

pub put_four-requires-clause-there : goal.put_four-requires-clause-there
put_four-requires-clause-there c = rw (c.put_row.ensures, count_put) c.requires.arena.some_page

pub returns-clause-arena : goal.returns-clause-arena
returns-clause-arena c = (given c).arena

pub returns-clause-rows : goal.returns-clause-rows
returns-clause-rows c = (given c).rows

pub returns-clause-header : goal.returns-clause-header
returns-clause-header c = (given c).header

pub returns-clause-count : goal.returns-clause-count
returns-clause-count c = (given c).count

pub returns-clause-pages : goal.returns-clause-pages
returns-clause-pages c = (given c).pages

pub returns-clause-as_many : goal.returns-clause-as_many
returns-clause-as_many c = rw (c.put_four.ensures, count_put, c.put_row.ensures, count_put)
