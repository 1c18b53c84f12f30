-- A tag, from its name on.
use Rattle.std.proofs.Common.{◌∙◌}
use Rattle.pl_nbread.specs.Tokens.{Open, ends_tag_name}
use Rattle.pl_nbread.proofs.ScanParts.{tag_found}
use Rattle.pl_nbread.proofs.ScanSteps.{same_behind, same_front, tag_name_ends}
use Rattle.pl_nbread.proofs.part.start_tag.Goals as goal

pub returns-in-Some : goal.returns-in-Some
returns-in-Some c =
    tag_found Open c.args.text.now c.cut.result.0.now c.cut.result.1.now c.in-Some.attributes c.in-Some.behind _
    (c.cut.ensures.front ∙ same_front _ ends_tag_name tag_name_ends c.args.text.now)
    (c.cut.ensures.behind ∙ same_behind _ ends_tag_name tag_name_ends c.args.text.now)
    c.in-Some.ensures c.opened.ensures
