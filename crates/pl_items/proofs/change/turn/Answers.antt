use Rattle.pl_items.proofs.Turns.{turned_back, turned_on}
use Rattle.pl_items.proofs.change.turn.Goals as goal

pub returns-then-from-before : goal.returns-then-from-before
returns-then-from-before c d =
    turned_on c.args.from c.args.before c.args.nodes.now c.rotate_left.new.self d c.if-from-before.true
    c.requires.before c.rotate_left.ensures.after

pub returns-else-from-before : goal.returns-else-from-before
returns-else-from-before c d =
    turned_back c.args.from c.args.before c.args.nodes.now c.rotate_right.new.self d c.if-from-before.false
    c.requires.from c.rotate_right.ensures.after
