use Rattle.std.specs.Vec.{vec_items}
use Rattle.pl_owned.proofs.OwnedSteps.{one_added}
use Rattle.pl_owned.proofs.owned.Owned.add.Goals as goal

pub returns : goal.returns
returns c =
    one_added vec_items c.args.self.now.lists.items c.args.member.owner.0 c.index_mut.result.now c.push.new.self
    c.args.member.slot c.requires c.index_mut.ensures.value c.in_ok-push.ensures.items
