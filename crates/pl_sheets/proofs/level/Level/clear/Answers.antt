use Rattle.pl_sheets.proofs.Bits.{clear_is}
use Rattle.pl_sheets.proofs.level.Level.clear.Goals as goal

pub returns-clause-cleared : goal.returns-clause-cleared
returns-clause-cleared c =
    clear_is c.args.n c.index_mut.result.now c.args.self.now.words.items c.requires c.index_mut.ensures.value
