use Rattle.std.proofs.Common.{refl}
use Rattle.pl_dated.proofs.FirstLaws.{keeps_more}
use Rattle.pl_dated.proofs.first.First.add.Goals as goal

pub returns-then-len-self : goal.returns-then-len-self
returns-then-len-self c most visits k =
    keeps_more most c.args.self.now
    (record { found = c.push.new.self; most = c.args.self.now.most; floor = c.args.self.now.floor }) c.args.found visits
    k c.requires c.in_ok-push.ensures.items refl refl

pub returns : goal.returns
returns c most visits k =
    c.cut_off.ensures most _
    (keeps_more most c.args.self.now
    (record { found = c.push.new.self; most = c.args.self.now.most; floor = c.args.self.now.floor }) c.args.found visits
    k c.requires c.in_ok-push.ensures.items refl refl)
