-- A desk that tells nothing: a write may leave any file as it was.
use Rattle.std.proofs.Common.{length}
use Rattle.pl_desk.specs.Overwritten.{torn_same}
use Rattle.trials_stored.proofs.cuts.OneByteDesk.write_at.Goals as goal

pub returns-clause-leaves : goal.returns-clause-leaves
returns-clause-leaves c file left = (file, tt, torn_same c.args._at (length c.args._bytes.now) file)
