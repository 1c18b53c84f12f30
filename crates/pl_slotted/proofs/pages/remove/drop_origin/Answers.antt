use Rattle.std.proofs.Common.{◌∙◌, sym}
use Rattle.pl_record.proofs.PageRemoved.{emptied}
use Rattle.pl_slotted.proofs.pages.remove.drop_origin.Goals as goal

pub remove_origin-requires-clause-empty : goal.remove_origin-requires-clause-empty
remove_origin-requires-clause-empty g c =
    emptied c.args.origin c.args.arena.now c.requires.asked c.requires.chained c.first.result
    c.first.ensures.first (sym c.is_some.ensures ∙ c.if-is_some.false)
