-- What went of a store.
use Rattle.std.specs.Prelude.{◌-◌, length}
use Rattle.pl_base.specs.Store.{Store}
use Rattle.pl_history.specs.declared.removal.Removed.{Removed}

-- how many visits and pages the one store has more than the other
abbrev pub went : Store → Store → Removed
went old new =
    record {
      visits = length old.visits - length new.visits;
      pages = length old.pages - length new.pages;
    }
