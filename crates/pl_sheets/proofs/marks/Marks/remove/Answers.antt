use Rattle.std.proofs.Common.{◌≡◌, ◌∙◌, ◌/◌, ap, false, refl, set, sym, true}
use Rattle.pl_sheets.specs.Marks.{has_bit}
use Rattle.pl_sheets.proofs.Bits.{bit_within}
use Rattle.pl_sheets.proofs.Flags.{bit_marked, marked_with}
use Rattle.pl_sheets.proofs.Levels.{below_count, bit_above, levels_cleared, sums_cleared, sums_left}
use Rattle.pl_sheets.proofs.marks.Marks.remove.Goals as goal

pub clear-requires : goal.clear-requires
clear-requires c =
    let levels = c.self.invariant in
    let count = c.self.inside.count in
    let bits = c.self.inside.bits.words.items in
    let has : has_bit c.args.n bits ≡ true =
    sym (bit_marked count c.args.n bits c.args.self.now c.self.view_is levels.none_past) ∙ c.requires in
    bit_within c.args.n bits has

pub clear-requires-2 : goal.clear-requires-2
clear-requires-2 c =
    let levels = c.self.invariant in
    let count = c.self.inside.count in
    let bits = c.self.inside.bits.words.items in
    let groups = c.self.inside.groups.words.items in
    let has : has_bit c.args.n bits ≡ true =
    sym (bit_marked count c.args.n bits c.args.self.now c.self.view_is levels.none_past) ∙ c.requires in
    let above = bit_above c.args.n bits groups levels.groups_sum has in
    bit_within (c.args.n / 64) groups above

pub clear-requires-3 : goal.clear-requires-3
clear-requires-3 c =
    let levels = c.self.invariant in
    let count = c.self.inside.count in
    let bits = c.self.inside.bits.words.items in
    let groups = c.self.inside.groups.words.items in
    let blocks = c.self.inside.blocks.words.items in
    let has : has_bit c.args.n bits ≡ true =
    sym (bit_marked count c.args.n bits c.args.self.now c.self.view_is levels.none_past) ∙ c.requires in
    let above = bit_above c.args.n bits groups levels.groups_sum has in
    let higher = bit_above (c.args.n / 64) groups blocks levels.blocks_sum above in
    bit_within (c.args.n / 64 / 64) blocks higher

pub clear-requires-4 : goal.clear-requires-4
clear-requires-4 c =
    let levels = c.self.invariant in
    let count = c.self.inside.count in
    let bits = c.self.inside.bits.words.items in
    let groups = c.self.inside.groups.words.items in
    let blocks = c.self.inside.blocks.words.items in
    let areas = c.self.inside.areas.words.items in
    let has : has_bit c.args.n bits ≡ true =
    sym (bit_marked count c.args.n bits c.args.self.now c.self.view_is levels.none_past) ∙ c.requires in
    let above = bit_above c.args.n bits groups levels.groups_sum has in
    let higher = bit_above (c.args.n / 64) groups blocks levels.blocks_sum above in
    let highest = bit_above (c.args.n / 64 / 64) blocks areas levels.areas_sum higher in
    bit_within (c.args.n / 64 / 64 / 64) areas highest

pub invariant_of-self : goal.invariant_of-self
invariant_of-self c =
    let levels = c.self.invariant in
    let count = c.self.inside.count in
    let bits = c.self.inside.bits.words.items in
    let groups = c.self.inside.groups.words.items in
    let blocks = c.self.inside.blocks.words.items in
    let areas = c.self.inside.areas.words.items in
    let has : has_bit c.args.n bits ≡ true =
    sym (bit_marked count c.args.n bits c.args.self.now c.self.view_is levels.none_past) ∙ c.requires in
    let bits' = c.clear.new.self.words.items in
    levels_cleared count c.args.n bits bits' groups groups blocks blocks areas areas levels has
    c.clear.ensures.cleared refl refl refl
    (sums_left c.args.n bits bits' groups levels.groups_sum has
    c.clear.ensures.cleared (sym c.clear.ensures.empty ∙ c.if-not-clear.true))
    levels.blocks_sum
    levels.areas_sum

pub returns-then-not-clear : goal.returns-then-not-clear
returns-then-not-clear c =
    let levels = c.self.invariant in
    let count = c.self.inside.count in
    let bits = c.self.inside.bits.words.items in
    let groups = c.self.inside.groups.words.items in
    let blocks = c.self.inside.blocks.words.items in
    let areas = c.self.inside.areas.words.items in
    let has : has_bit c.args.n bits ≡ true =
    sym (bit_marked count c.args.n bits c.args.self.now c.self.view_is levels.none_past) ∙ c.requires in
    marked_with false count c.args.n bits c.clear.new.self.words.items
    (below_count count c.args.n bits groups blocks areas levels has) c.clear.ensures.cleared
    ∙ ap (λ flags. set flags c.args.n false) c.self.view_is

pub invariant_of-self-then-not-clear-2 : goal.invariant_of-self-then-not-clear-2
invariant_of-self-then-not-clear-2 c =
    let levels = c.self.invariant in
    let count = c.self.inside.count in
    let bits = c.self.inside.bits.words.items in
    let groups = c.self.inside.groups.words.items in
    let blocks = c.self.inside.blocks.words.items in
    let areas = c.self.inside.areas.words.items in
    let has : has_bit c.args.n bits ≡ true =
    sym (bit_marked count c.args.n bits c.args.self.now c.self.view_is levels.none_past) ∙ c.requires in
    let above = bit_above c.args.n bits groups levels.groups_sum has in
    let bits' = c.clear.new.self.words.items in
    let groups' = c.clear-2.new.self.words.items in
    levels_cleared count c.args.n bits bits' groups groups' blocks blocks areas areas levels has
    c.clear.ensures.cleared c.clear-2.ensures.cleared.as_long refl refl
    (sums_cleared c.args.n bits bits' groups groups' levels.groups_sum
    c.clear.ensures.cleared (sym c.clear.ensures.empty ∙ c.if-not-clear.false)
    c.clear-2.ensures.cleared)
    (sums_left (c.args.n / 64) groups groups' blocks levels.blocks_sum above
    c.clear-2.ensures.cleared (sym c.clear-2.ensures.empty ∙ c.if-not-clear-2.true))
    levels.areas_sum

pub returns-then-not-clear-2 : goal.returns-then-not-clear-2
returns-then-not-clear-2 c =
    let levels = c.self.invariant in
    let count = c.self.inside.count in
    let bits = c.self.inside.bits.words.items in
    let groups = c.self.inside.groups.words.items in
    let blocks = c.self.inside.blocks.words.items in
    let areas = c.self.inside.areas.words.items in
    let has : has_bit c.args.n bits ≡ true =
    sym (bit_marked count c.args.n bits c.args.self.now c.self.view_is levels.none_past) ∙ c.requires in
    marked_with false count c.args.n bits c.clear.new.self.words.items
    (below_count count c.args.n bits groups blocks areas levels has) c.clear.ensures.cleared
    ∙ ap (λ flags. set flags c.args.n false) c.self.view_is

pub invariant_of-self-then-not-clear-3 : goal.invariant_of-self-then-not-clear-3
invariant_of-self-then-not-clear-3 c =
    let levels = c.self.invariant in
    let count = c.self.inside.count in
    let bits = c.self.inside.bits.words.items in
    let groups = c.self.inside.groups.words.items in
    let blocks = c.self.inside.blocks.words.items in
    let areas = c.self.inside.areas.words.items in
    let has : has_bit c.args.n bits ≡ true =
    sym (bit_marked count c.args.n bits c.args.self.now c.self.view_is levels.none_past) ∙ c.requires in
    let above = bit_above c.args.n bits groups levels.groups_sum has in
    let higher = bit_above (c.args.n / 64) groups blocks levels.blocks_sum above in
    let bits' = c.clear.new.self.words.items in
    let groups' = c.clear-2.new.self.words.items in
    let blocks' = c.clear-3.new.self.words.items in
    levels_cleared count c.args.n bits bits' groups groups' blocks blocks' areas areas levels has
    c.clear.ensures.cleared c.clear-2.ensures.cleared.as_long c.clear-3.ensures.cleared.as_long refl
    (sums_cleared c.args.n bits bits' groups groups' levels.groups_sum
    c.clear.ensures.cleared (sym c.clear.ensures.empty ∙ c.if-not-clear.false)
    c.clear-2.ensures.cleared)
    (sums_cleared (c.args.n / 64) groups groups' blocks blocks' levels.blocks_sum
    c.clear-2.ensures.cleared (sym c.clear-2.ensures.empty ∙ c.if-not-clear-2.false)
    c.clear-3.ensures.cleared)
    (sums_left (c.args.n / 64 / 64) blocks blocks' areas levels.areas_sum higher
    c.clear-3.ensures.cleared (sym c.clear-3.ensures.empty ∙ c.if-not-clear-3.true))

pub returns-then-not-clear-3 : goal.returns-then-not-clear-3
returns-then-not-clear-3 c =
    let levels = c.self.invariant in
    let count = c.self.inside.count in
    let bits = c.self.inside.bits.words.items in
    let groups = c.self.inside.groups.words.items in
    let blocks = c.self.inside.blocks.words.items in
    let areas = c.self.inside.areas.words.items in
    let has : has_bit c.args.n bits ≡ true =
    sym (bit_marked count c.args.n bits c.args.self.now c.self.view_is levels.none_past) ∙ c.requires in
    marked_with false count c.args.n bits c.clear.new.self.words.items
    (below_count count c.args.n bits groups blocks areas levels has) c.clear.ensures.cleared
    ∙ ap (λ flags. set flags c.args.n false) c.self.view_is

pub invariant_of-self-2 : goal.invariant_of-self-2
invariant_of-self-2 c =
    let levels = c.self.invariant in
    let count = c.self.inside.count in
    let bits = c.self.inside.bits.words.items in
    let groups = c.self.inside.groups.words.items in
    let blocks = c.self.inside.blocks.words.items in
    let areas = c.self.inside.areas.words.items in
    let has : has_bit c.args.n bits ≡ true =
    sym (bit_marked count c.args.n bits c.args.self.now c.self.view_is levels.none_past) ∙ c.requires in
    let above = bit_above c.args.n bits groups levels.groups_sum has in
    let higher = bit_above (c.args.n / 64) groups blocks levels.blocks_sum above in
    let bits' = c.clear.new.self.words.items in
    let groups' = c.clear-2.new.self.words.items in
    let blocks' = c.clear-3.new.self.words.items in
    let areas' = c.clear-4.new.self.words.items in
    levels_cleared count c.args.n bits bits' groups groups' blocks blocks' areas areas' levels has
    c.clear.ensures.cleared c.clear-2.ensures.cleared.as_long c.clear-3.ensures.cleared.as_long
    c.clear-4.ensures.cleared.as_long
    (sums_cleared c.args.n bits bits' groups groups' levels.groups_sum
    c.clear.ensures.cleared (sym c.clear.ensures.empty ∙ c.if-not-clear.false)
    c.clear-2.ensures.cleared)
    (sums_cleared (c.args.n / 64) groups groups' blocks blocks' levels.blocks_sum
    c.clear-2.ensures.cleared (sym c.clear-2.ensures.empty ∙ c.if-not-clear-2.false)
    c.clear-3.ensures.cleared)
    (sums_cleared (c.args.n / 64 / 64) blocks blocks' areas areas' levels.areas_sum
    c.clear-3.ensures.cleared (sym c.clear-3.ensures.empty ∙ c.if-not-clear-3.false)
    c.clear-4.ensures.cleared)

pub returns : goal.returns
returns c =
    let levels = c.self.invariant in
    let count = c.self.inside.count in
    let bits = c.self.inside.bits.words.items in
    let groups = c.self.inside.groups.words.items in
    let blocks = c.self.inside.blocks.words.items in
    let areas = c.self.inside.areas.words.items in
    let has : has_bit c.args.n bits ≡ true =
    sym (bit_marked count c.args.n bits c.args.self.now c.self.view_is levels.none_past) ∙ c.requires in
    marked_with false count c.args.n bits c.clear.new.self.words.items
    (below_count count c.args.n bits groups blocks areas levels has) c.clear.ensures.cleared
    ∙ ap (λ flags. set flags c.args.n false) c.self.view_is
