use Rattle.std.proofs.Common.{◌+◌, arith, ◌≡◌}
use Rattle.std.proofs.lemmas.Result.{on_ok_weaker}
use Rattle.pl_nbread.specs.Building.{Closes}
use Rattle.pl_nbread.specs.Parts as parts
use Rattle.pl_nbread.proofs.BuildingSeen.{is_list_end, is_words}
use Rattle.pl_nbread.proofs.BuildingSteps.{within_more, within_stays}
use Rattle.pl_nbread.proofs.builder.Builder.take.Goals as goal

pub returns-in-ListEnd-clause-tree : goal.returns-in-ListEnd-clause-tree
returns-in-ListEnd-clause-tree c this more sees =
    let is : this ≡ parts.ListEnd = is_list_end this (rw c.in-ListEnd.is at sees) in
    rw is (c.end_list.ensures.tree more)

pub returns-in-TitleEnd-clause-within : goal.returns-in-TitleEnd-clause-within
returns-in-TitleEnd-clause-within c n within =
    on_ok_weaker c.close.result
    (λ (closes : Closes c.args.self.now c.close.new.self).
    within_stays n c.args.self.now c.close.new.self closes.stays within) c.close.ensures

pub returns-in-Text-clause-tree : goal.returns-in-Text-clause-tree
returns-in-Text-clause-tree c this more sees =
    let is : this ≡ parts.Words c.in-Text.text.now = is_words c.in-Text.text this (rw c.in-Text.is at sees) in
    rw is (c.text.ensures.tree more)

pub returns-in-Other-clause-within : goal.returns-in-Other-clause-within
returns-in-Other-clause-within c n within = within_more n (n + 1) c.args.self.now (omega arith) within
