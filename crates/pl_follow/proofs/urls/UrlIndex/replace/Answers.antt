use Rattle.std.proofs.Common.{◌∙◌, sym}
use Rattle.std.proofs.lemmas.Result.{on_ok_weaker}
use Rattle.std.proofs.lemmas.Slice.Eq.{bytes_eq-Decides}
use Rattle.pl_follow.specs.Changes.{without_id}
use Rattle.pl_base.proofs.IdsLaws.{same_page}
use Rattle.pl_follow.proofs.UrlsFollow.{left_alone}
use Rattle.pl_follow.proofs.urls.UrlIndex.replace.Goals as goal

pub returns-then-eq-2 : goal.returns-then-eq-2
returns-then-eq-2 c views stands suits =
    left_alone c.args.self.now c.args.old.now c.args.new.now views stands suits
    (same_page c.args.old.now.id c.args.new.now.id (sym c.eq.ensures ∙ c.if-eq.true))
    ((bytes_eq-Decides c.args.old.now.url c.args.new.now.url).0 (sym c.eq-then-eq.ensures ∙ c.if-eq-2.true))

pub returns : goal.returns
returns c =
    on_ok_weaker c.put_in.result (λ puts views stands suits.
    puts (without_id c.args.old.now.id views) (c.take_out.ensures views stands suits.goes) suits.comes
    suits.becomes.urls) c.put_in.ensures
