use Rattle.std.proofs.Common.{rules}
use Rattle.pl_base.proofs.Truths.{is_none_at}
use Rattle.pl_follow.proofs.UrlsFollow.{taken_out_hashed, taken_out_other}
use Rattle.pl_follow.proofs.urls.UrlIndex.take_out.Goals as goal

pub returns-then-is_some : goal.returns-then-is_some
returns-then-is_some c views =
    taken_out_hashed c.args.self.now c.remove.new.self c.args.old.now views (search rules) (search rules)

pub returns-else-is_some : goal.returns-else-is_some
returns-else-is_some c views =
    taken_out_other c.args.self.now c.remove-else-is_some.new.self c.args.old.now views (search rules)
    (is_none_at _ (search rules))
