use Rattle.pl_dated.proofs.FirstLaws.{first_kept}
use Rattle.pl_dated.specs.Latest.{seen}
use Rattle.std.proofs.Common.{map}
use Rattle.pl_dated.proofs.first.First.into_found.Goals as goal

pub returns : goal.returns
returns c most visits k apart =
    first_kept most c.args.self visits k apart (map seen c.cut.new.found.items) c.cut.ensures
