use Rattle.std.proofs.Common.{arith}
use Rattle.pl_sheets.proofs.Bits.{next_left, none_left}
use Rattle.pl_sheets.proofs.level.Level.next_in_word.Goals as goal

pub returns-then-left-eq0 : goal.returns-then-left-eq0
returns-then-left-eq0 c =
    none_left c.args.from c.index.result.now c.args.self.now.words.items (omega arith) c.index.ensures
    c.if-left-eq0.true

pub returns : goal.returns
returns c =
    next_left c.args.from c.index.result.now c.args.self.now.words.items (omega arith) c.index.ensures (omega arith)
