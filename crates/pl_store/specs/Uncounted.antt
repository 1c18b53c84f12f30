-- A ledger that nobody reads.
use Rattle.std.specs.Prelude.{◌≡◌, ◌<◌}
use Rattle.std.specs.declared.sync.ledger.Blank.{Blank}
use Rattle.std.specs.declared.sync.ledger.Ledger.{Ghosts}

-- the blank is the ledger's, which has a part at least
pub record IsBlankOf {L : Type 0} (ledger : Ghosts L) (blank : Blank) : Type 0 where
  pub name : blank.name ≡ ledger.name
  pub parts : blank.parts ≡ ledger.parts
  pub some : 0 < blank.parts
