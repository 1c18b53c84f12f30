use Rattle.std.proofs.Common.{subst, sym}
use Rattle.pl_nbread.specs.WellFormed.{AreWellFormed}
use Rattle.pl_backup.proofs.RootSteps.{backup_formed, items_short}
use Rattle.pl_backup.proofs.reader.read.Goals as goal
use Rattle.serde_json.specs.View.{items_view, view}

pub tree_of-requires : goal.tree_of-requires
tree_of-requires c =
    record {
      room =
          items_short c.args.bytes.now (view c.in_ok-value.value) (items_view c.in-Some.values.now)
          c.in_ok-value.ensures.read (sym c.in-Some.ensures) c.requires.short;
    }

pub returns-in-Some-clause-formed : goal.returns-in-Some-clause-formed
returns-in-Some-clause-formed c =
    subst AreWellFormed (sym c.in_ok-tree_of-in-Some.ensures)
    (backup_formed c.args.bytes.now (view c.in_ok-value.value) (items_view c.in-Some.values.now)
    c.in_ok-value.ensures.read (sym c.in-Some.ensures) c.requires.short)
