use Rattle.std.proofs.Common.{◌∙◌, ◌/◌, ap, set, true}
use Rattle.pl_sheets.specs.Marks.{word_count}
use Rattle.pl_sheets.proofs.Flags.{below_marked, marked_with}
use Rattle.pl_sheets.proofs.Levels.{levels_set, room_at, word_within}
use Rattle.pl_sheets.proofs.marks.Marks.insert.Goals as goal

pub set-requires : goal.set-requires
set-requires c =
    let count = c.self.inside.count in
    let below = below_marked count c.args.n c.self.inside.bits.words.items c.args.self.now c.self.view_is c.requires in
    room_at c.args.n count c.self.inside.bits.words.items c.self.invariant.bits_room below

pub set-requires-2 : goal.set-requires-2
set-requires-2 c =
    let count = c.self.inside.count in
    let below = below_marked count c.args.n c.self.inside.bits.words.items c.args.self.now c.self.view_is c.requires in
    let above = word_within c.args.n count below in
    room_at (c.args.n / 64) (word_count count) c.self.inside.groups.words.items c.self.invariant.groups_room above

pub set-requires-3 : goal.set-requires-3
set-requires-3 c =
    let count = c.self.inside.count in
    let below = below_marked count c.args.n c.self.inside.bits.words.items c.args.self.now c.self.view_is c.requires in
    let above = word_within c.args.n count below in
    let higher = word_within (c.args.n / 64) (word_count count) above in
    room_at (c.args.n / 64 / 64) (word_count (word_count count)) c.self.inside.blocks.words.items
    c.self.invariant.blocks_room higher

pub set-requires-4 : goal.set-requires-4
set-requires-4 c =
    let count = c.self.inside.count in
    let below = below_marked count c.args.n c.self.inside.bits.words.items c.args.self.now c.self.view_is c.requires in
    let above = word_within c.args.n count below in
    let higher = word_within (c.args.n / 64) (word_count count) above in
    let highest = word_within (c.args.n / 64 / 64) (word_count (word_count count)) higher in
    room_at (c.args.n / 64 / 64 / 64) (word_count (word_count (word_count count))) c.self.inside.areas.words.items
    c.self.invariant.areas_room highest

pub invariant_of-self : goal.invariant_of-self
invariant_of-self c =
    let count = c.self.inside.count in
    let below = below_marked count c.args.n c.self.inside.bits.words.items c.args.self.now c.self.view_is c.requires in
    levels_set count c.args.n
    c.self.inside.bits.words.items c.set.new.self.words.items
    c.self.inside.groups.words.items c.set-2.new.self.words.items
    c.self.inside.blocks.words.items c.set-3.new.self.words.items
    c.self.inside.areas.words.items c.set-4.new.self.words.items
    c.self.invariant below c.set.ensures c.set-2.ensures c.set-3.ensures c.set-4.ensures

pub returns : goal.returns
returns c =
    let count = c.self.inside.count in
    let below = below_marked count c.args.n c.self.inside.bits.words.items c.args.self.now c.self.view_is c.requires in
    marked_with true count c.args.n c.self.inside.bits.words.items c.set.new.self.words.items below c.set.ensures
    ∙ ap (λ flags. set flags c.args.n true) c.self.view_is
