use Rattle.pl_slot.proofs.HeaderLaws.{first_told}
use Rattle.pl_slot.proofs.arena.Arena.first_of.Goals as goal

pub returns : goal.returns
returns c =
    first_told c.args.kind c.ends_at.result c.four_at.result c.self.inside.sheets c.args.self.now c.ends_at.ensures
    c.four_at.ensures c.self.view_is
