use Rattle.std.proofs.Common.{◌≡◌, ℕ, List, [], drop, length}
use Rattle.pl_base.specs.Rows.{store_of}
use Rattle.pl_graft.specs.Import.{with_nodes}
use Rattle.pl_graft.specs.OpenFolders.{AreOpen, MayGoOn, inner_of, root_of}
use Rattle.pl_graft.specs.Standing.{GoesOn, IsStanding}
use Rattle.pl_graft.proofs.grafting.Grafting.list.Given as goal

abbrev pub invariant-loop-node : goal.invariant-loop-node
invariant-loop-node g l =
    record {
      left : with_nodes l.fn.root (drop l.node-index l.nodes) (inner_of l.folders.items)
          (store_of (g.R.Rows.kept l.rows))
          ≡ with_nodes l.fn.root l.nodes [] (store_of (g.R.Rows.kept l.initial.rows));
      root : root_of l.folders.items ≡ l.fn.root;
      are_open : AreOpen (store_of (g.R.Rows.kept l.rows)) l.folders.items;
      fits : MayGoOn (length l.folders.items) (drop l.node-index l.nodes);
      standing : IsStanding (store_of (g.R.Rows.kept l.rows)) l.self;
      goes_on : GoesOn (g.R.Rows.kept l.initial.rows) (g.R.Rows.kept l.rows) l.initial.self l.self;
      base : (bytes : List ℕ) → g.R.Rows.base l.initial.rows bytes → g.R.Rows.base l.rows bytes;
    }
