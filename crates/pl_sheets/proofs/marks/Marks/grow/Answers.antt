use Rattle.std.proofs.Common.{◌∙◌, ◌+◌, ap, arith, Err, length, Ok, OnErr, Result}
use Rattle.pl_sheets.proofs.Flags.{grown_flags, length-marked, marked_kept}
use Rattle.pl_sheets.proofs.Levels.{levels_grown, levels_kept, no_room}
use Rattle.pl_sheets.proofs.marks.Marks.grow.Goals as goal

on_err : {T E : Type 0} (r : Result T E) (P : Type 0) → P → OnErr r P
on_err (Ok x) P holds = tt
on_err (Err e) P holds = holds

pub make_room-requires-clause-few : goal.make_room-requires-clause-few
make_room-requires-clause-few c =
    omega (arith, ap length c.self.view_is, length-marked c.self.inside.count c.self.inside.bits.words.items)

pub invariant_of-self : goal.invariant_of-self
invariant_of-self c =
    levels_kept c.self.inside.count
    c.self.inside.bits.words.items c.make_room.new.self.words.items
    c.self.inside.groups.words.items c.self.inside.groups.words.items
    c.self.inside.blocks.words.items c.self.inside.blocks.words.items
    c.self.inside.areas.words.items c.self.inside.areas.words.items
    c.self.invariant
    c.make_room.ensures.kept
    (no_room c.self.inside.groups.words.items)
    (no_room c.self.inside.blocks.words.items)
    (no_room c.self.inside.areas.words.items)

pub invariant_of-self-in_err-make_room-2 : goal.invariant_of-self-in_err-make_room-2
invariant_of-self-in_err-make_room-2 c =
    levels_kept c.self.inside.count
    c.self.inside.bits.words.items c.make_room.new.self.words.items
    c.self.inside.groups.words.items c.make_room-2.new.self.words.items
    c.self.inside.blocks.words.items c.self.inside.blocks.words.items
    c.self.inside.areas.words.items c.self.inside.areas.words.items
    c.self.invariant
    c.make_room.ensures.kept
    c.make_room-2.ensures.kept
    (no_room c.self.inside.blocks.words.items)
    (no_room c.self.inside.areas.words.items)

pub invariant_of-self-in_err-make_room-3 : goal.invariant_of-self-in_err-make_room-3
invariant_of-self-in_err-make_room-3 c =
    levels_kept c.self.inside.count
    c.self.inside.bits.words.items c.make_room.new.self.words.items
    c.self.inside.groups.words.items c.make_room-2.new.self.words.items
    c.self.inside.blocks.words.items c.make_room-3.new.self.words.items
    c.self.inside.areas.words.items c.self.inside.areas.words.items
    c.self.invariant
    c.make_room.ensures.kept
    c.make_room-2.ensures.kept
    c.make_room-3.ensures.kept
    (no_room c.self.inside.areas.words.items)

pub invariant_of-self-in_err-make_room-4 : goal.invariant_of-self-in_err-make_room-4
invariant_of-self-in_err-make_room-4 c =
    levels_kept c.self.inside.count
    c.self.inside.bits.words.items c.make_room.new.self.words.items
    c.self.inside.groups.words.items c.make_room-2.new.self.words.items
    c.self.inside.blocks.words.items c.make_room-3.new.self.words.items
    c.self.inside.areas.words.items c.make_room-4.new.self.words.items
    c.self.invariant
    c.make_room.ensures.kept
    c.make_room-2.ensures.kept
    c.make_room-3.ensures.kept
    c.make_room-4.ensures.kept

pub invariant_of-self-2 : goal.invariant_of-self-2
invariant_of-self-2 c =
    levels_grown c.self.inside.count
    c.make_room.new.self.words.items c.make_room-2.new.self.words.items
    c.make_room-3.new.self.words.items c.make_room-4.new.self.words.items
    (levels_kept c.self.inside.count
    c.self.inside.bits.words.items c.make_room.new.self.words.items
    c.self.inside.groups.words.items c.make_room-2.new.self.words.items
    c.self.inside.blocks.words.items c.make_room-3.new.self.words.items
    c.self.inside.areas.words.items c.make_room-4.new.self.words.items
    c.self.invariant
    c.make_room.ensures.kept c.make_room-2.ensures.kept c.make_room-3.ensures.kept c.make_room-4.ensures.kept)
    (omega (arith, ap length c.self.view_is, length-marked c.self.inside.count c.self.inside.bits.words.items))
    c.in_ok-make_room.ensures.room c.in_ok-make_room-2.ensures.room c.in_ok-make_room-3.ensures.room
    c.in_ok-make_room-4.ensures.room

pub insert-requires : goal.insert-requires
insert-requires c = omega (arith, length-marked (c.self.inside.count + 1) c.make_room.new.self.words.items)

pub returns-clause-ok : goal.returns-clause-ok
returns-clause-ok c =
    grown_flags c.self.inside.count c.self.inside.bits.words.items c.make_room.new.self.words.items
    c.args.self.now _ c.self.view_is c.make_room.ensures.kept
    (c.self.invariant.none_past c.self.inside.count (omega arith)) c.insert.ensures

pub returns-in_err-make_room-clause-err : goal.returns-in_err-make_room-clause-err
returns-in_err-make_room-clause-err c =
    on_err c.from_residual.result _
    (marked_kept c.self.inside.count c.self.inside.bits.words.items c.make_room.new.self.words.items
    c.make_room.ensures.kept ∙ c.self.view_is)

pub returns-in_err-make_room-2-clause-err : goal.returns-in_err-make_room-2-clause-err
returns-in_err-make_room-2-clause-err c =
    on_err c.from_residual-in_err-make_room-2.result _
    (marked_kept c.self.inside.count c.self.inside.bits.words.items c.make_room.new.self.words.items
    c.make_room.ensures.kept ∙ c.self.view_is)

pub returns-in_err-make_room-3-clause-err : goal.returns-in_err-make_room-3-clause-err
returns-in_err-make_room-3-clause-err c =
    on_err c.from_residual-in_err-make_room-3.result _
    (marked_kept c.self.inside.count c.self.inside.bits.words.items c.make_room.new.self.words.items
    c.make_room.ensures.kept ∙ c.self.view_is)

pub returns-in_err-make_room-4-clause-err : goal.returns-in_err-make_room-4-clause-err
returns-in_err-make_room-4-clause-err c =
    on_err c.from_residual-in_err-make_room-4.result _
    (marked_kept c.self.inside.count c.self.inside.bits.words.items c.make_room.new.self.words.items
    c.make_room.ensures.kept ∙ c.self.view_is)
