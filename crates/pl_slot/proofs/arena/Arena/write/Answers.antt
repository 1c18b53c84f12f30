use Rattle.std.proofs.Common.{◌≡◌, ◌∙◌, ap, sym, true}
use Rattle.pl_slot.specs.Arena.{is_live}
use Rattle.pl_slot.proofs.ArenaLaws.{arena_written, live_slot, PutRow, row_put, same_written}
use Rattle.pl_slot.proofs.arena.Arena.write.Goals as goal
use Rattle.pl_slot.proofs.arena.Arena.write.Goals.{After-put_row}

put_there : (c : After-put_row) → PutRow c.args.slot.0 c.args.row.now c.self.inside.sheets c.put_row.new.sheets
put_there c =
    let live : is_live c.args.slot.0 c.self.inside.sheets ≡ true =
    ap (is_live c.args.slot.0) c.self.view_is ∙ c.requires.live in
    row_put c.args.slot.0 c.args.row.now c.self.inside.sheets c.put_row.new.sheets c.self.invariant.whole
    (live_slot c.args.slot.0 c.self.inside.sheets live) c.requires.row.1 c.put_row.ensures

pub put_row-requires : goal.put_row-requires
put_row-requires c =
    record {
      there =
          live_slot c.args.slot.0 c.self.inside.sheets (ap (is_live c.args.slot.0) c.self.view_is ∙ c.requires.live);
    }

pub invariant_of-self : goal.invariant_of-self
invariant_of-self c =
    arena_written c.args.slot.0 c.args.row.now c.self.inside.sheets c.put_row.new.sheets c.self.invariant
    (ap (is_live c.args.slot.0) c.self.view_is ∙ c.requires.live) c.requires.row (put_there c)

pub returns-clause-rows : goal.returns-clause-rows
returns-clause-rows c = rw (sym c.self.view_is) ((put_there c).rows)

pub returns-clause-header : goal.returns-clause-header
returns-clause-header c = rw (sym c.self.view_is) ((put_there c).header)

pub returns-clause-count : goal.returns-clause-count
returns-clause-count c =
    rw (sym c.self.view_is)
    (same_written c.args.slot.0 c.args.row.now c.self.inside.sheets c.put_row.new.sheets
    (ap (is_live c.args.slot.0) c.self.view_is ∙ c.requires.live) c.requires.row (put_there c))

pub returns-clause-pages : goal.returns-clause-pages
returns-clause-pages c = rw (sym c.self.view_is) ((put_there c).pages)

pub returns-clause-arena : goal.returns-clause-arena
returns-clause-arena c = invariant_of-self c
