use Rattle.std.proofs.Common.{false, get_or, sym}
use Rattle.pl_sheets.specs.Marks.{has_bit}
use Rattle.pl_sheets.proofs.Flags.{bit_marked, next_same}
use Rattle.pl_sheets.proofs.Levels.{next_below}
use Rattle.pl_sheets.proofs.marks.Marks.next.Goals as goal

pub returns-clause-first : goal.returns-clause-first
returns-clause-first c =
    next_same (λ k. has_bit k c.self.inside.bits.words.items) (λ k. get_or c.args.self.now k false) c.args.from
    c.next.result
    (λ k. sym (bit_marked c.self.inside.count k c.self.inside.bits.words.items c.args.self.now c.self.view_is
    c.self.invariant.none_past)) c.next.ensures

pub returns-clause-few : goal.returns-clause-few
returns-clause-few c =
    next_below c.self.inside.count c.args.from c.self.inside.bits.words.items c.self.inside.groups.words.items
    c.self.inside.blocks.words.items c.self.inside.areas.words.items c.next.result c.self.invariant c.next.ensures
