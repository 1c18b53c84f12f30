use Rattle.std.proofs.Common.{◌∙◌, arith}
use Rattle.pl_base.proofs.TitleCuts.{cut_at, greatest}
use Rattle.pl_base.proofs.txt.cut_title.Goals as goal

pub returns : goal.returns
returns c =
    c.range.ensures.value
    ∙ cut_at c.args.text.now c.floor_char_boundary.result (omega arith)
    (greatest c.args.text.now 4096 c.floor_char_boundary.result c.floor_char_boundary.ensures.bound (omega arith)
    c.floor_char_boundary.ensures.boundary c.floor_char_boundary.ensures.nearest)
