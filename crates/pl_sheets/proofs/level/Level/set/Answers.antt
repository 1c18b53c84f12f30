use Rattle.pl_sheets.proofs.Bits.{set_is}
use Rattle.pl_sheets.proofs.level.Level.set.Goals as goal

pub returns : goal.returns
returns c = set_is c.args.n c.index_mut.result.now c.args.self.now.words.items c.requires c.index_mut.ensures.value
