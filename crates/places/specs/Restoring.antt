-- Which backups a restore brings back whole.
use Rattle.std.specs.Prelude.{◌≡◌, ℕ, true, List}
use Rattle.std.specs.List.{list_all}
use Rattle.pl_backup.specs.ReadsBack.{is_shallow}
use Rattle.pl_base.specs.Good.{IsGood}
use Rattle.pl_base.specs.Store.{Store}
use Rattle.pl_intake.specs.declared.intake.Intake.TheVariants.{Restore}
use Rattle.pl_nbread.specs.declared.tree.Tree.{Tree}
use Rattle.pl_outline.specs.Outline.{whole}
use Rattle.places.specs.Reporting.{stored_backup}
use Rattle.places.specs.TakingIn.{after_intake}

-- no node of the tree stands deeper than a backup is read back
pub record IsShallow (tree : Tree) : Type 0 where
  pub menu : list_all is_shallow tree.menu ≡ true
  pub toolbar : list_all is_shallow tree.toolbar ≡ true
  pub unfiled : list_all is_shallow tree.unfiled ≡ true
  pub mobile : list_all is_shallow tree.mobile ≡ true

-- where the bytes are the backup of a good store with such a tree, the store after their restore
-- has that whole tree
abbrev pub BringsBack : Store → List ℕ → Type 0
BringsBack start bytes =
    (kept : Store) → IsGood kept → IsShallow (whole kept) → bytes ≡ stored_backup kept
    → whole (after_intake Restore start bytes) ≡ whole kept
