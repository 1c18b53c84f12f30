-- A title that is cut has at most 4,096 bytes, and is text.
use Rattle.std.proofs.Common.{◌≡◌, ◌≤◌, ◌∙◌, IsUtf8, ap, arith, length, subst}
use Rattle.pl_base.specs.Good.{longest_title}
use Rattle.pl_base.specs.Title.{cut_title}
use Rattle.pl_base.proofs.TitleCuts.{cut_title-le}
use Rattle.pl_graft.proofs.cost.title_slots.Goals as goal

pub returns-clause-few : goal.returns-clause-few
returns-clause-few c =
    let cut : c.cut_title.result.now ≡ cut_title c.as_str.result.now = c.cut_title.ensures in
    let few : length (cut_title c.as_str.result.now) ≤ longest_title = cut_title-le c.as_str.result.now in
    omega (arith, c.chunks.ensures, ap length cut, few)

pub returns-clause-title : goal.returns-clause-title
returns-clause-title c =
    let cut : c.cut_title.result.now ≡ cut_title c.args.node.now.title =
    c.cut_title.ensures ∙ ap cut_title c.as_str.ensures in
    (subst IsUtf8 cut c.cut_title.utf8, cut_title-le c.args.node.now.title)
