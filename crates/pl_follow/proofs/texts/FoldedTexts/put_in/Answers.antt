use Rattle.pl_follow.proofs.TextsFollow.{put_in}
use Rattle.pl_follow.proofs.texts.FoldedTexts.put_in.Goals as goal

pub returns : goal.returns
returns c views =
    put_in c.args.self.now (record { pages = c.insert.new.self }) c.args.new.now c.args.texts views c.requires.texts
    c.in_ok-insert.ensures.updates
