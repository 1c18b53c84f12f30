use Rattle.std.proofs.Common.{length, take}
use Rattle.pl_origins.specs.Names.{named}
use Rattle.pl_origins.proofs.Standing.{Stands}
use Rattle.pl_origins.proofs.names.named_origins.Given as goal

abbrev pub invariant-loop-page : goal.invariant-loop-page
invariant-loop-page l = Stands l.origins.keys l.known.keys (take (length l.yielded) (named l.pages l.names))
