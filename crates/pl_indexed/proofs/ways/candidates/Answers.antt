use Rattle.std.proofs.lemmas.Result.{IfOk-weaker}
use Rattle.pl_indexed.proofs.AnswerOfViews.{taken_suffice}
use Rattle.pl_indexed.proofs.ways.candidates.Goals as goal

pub returns-in-Some : goal.returns-in-Some
returns-in-Some c =
    IfOk-weaker c.page_with_url.result _ _
    (λ found are. taken_suffice c.args.asked.now.query.now c.args.known.now.views.items found.items
    c.requires.followed.order are)
    c.page_with_url.ensures

pub returns-2 : goal.returns-2
returns-2 c =
    IfOk-weaker c.pages_taken.result _ _
    (λ found are. taken_suffice c.args.asked.now.query.now c.args.known.now.views.items found.items
    c.requires.followed.order are)
    c.pages_taken.ensures
