use Rattle.pl_follow.proofs.TextsFollow.{taken_out}
use Rattle.pl_follow.proofs.texts.FoldedTexts.take_out.Goals as goal

pub returns : goal.returns
returns c views =
    taken_out c.args.self.now (record { pages = c.remove.new.self }) c.args.old.now views c.remove.ensures.updates
