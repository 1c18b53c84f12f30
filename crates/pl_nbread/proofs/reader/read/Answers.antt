use Rattle.std.proofs.Common.{◌<◌, arith, length, subst, sym}
use Rattle.pl_nbread.specs.BookmarkFile.{file_limit}
use Rattle.pl_nbread.specs.WellFormed.{AreWellFormed}
use Rattle.pl_nbread.proofs.WellFormedTree.{well_formed}
use Rattle.pl_nbread.proofs.reader.read.Goals as goal

pub returns-clause-formed : goal.returns-clause-formed
returns-clause-formed c =
    let short : length c.in_ok-body.body.now < file_limit =
    omega (arith, c.in_ok-body.ensures.shorter, c.requires.short) in
    subst AreWellFormed (sym c.in_ok-tree_in.ensures) (well_formed c.in_ok-body.body.now short)
