use Rattle.std.proofs.Common.{ap, arith, length}
use Rattle.pl_base.proofs.TitleCuts.{cut_title-le}
use Rattle.pl_editing.proofs.insert.folder.Goals as goal

pub insert_plain-requires-clause-title : goal.insert_plain-requires-clause-title
insert_plain-requires-clause-title g c =
    omega (arith, ap length c.cut_title-text.ensures, cut_title-le c.as_str.result.now)
