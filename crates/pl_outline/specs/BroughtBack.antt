-- What a restore of a tree brings back.
use Rattle.std.specs.Prelude.{◌≡◌}
use Rattle.pl_base.specs.Store.{Store}
use Rattle.pl_nbread.specs.declared.tree.Tree.{Tree}
use Rattle.pl_graft.specs.Restored.{restored}
use Rattle.pl_outline.specs.Outline.{whole}

-- where the tree takes the place of all bookmarks and tags of a store, it is its whole tree; day and
-- visits stay, and the next id of a visit
pub record IsBroughtBack (tree : Tree) (first : Store) : Type 0 where
  pub again : whole (restored tree first) ≡ tree
  pub day : (restored tree first).day ≡ first.day
  pub visits : (restored tree first).visits ≡ first.visits
  pub visit_ids : (restored tree first).ids.visit ≡ first.ids.visit
