-- Which files a stop may leave beside a keeper.
use Rattle.std.proofs.Common.{◌≡◌, ℕ, Bool, true, false, List}
use Rattle.pl_base.specs.Store.{Store}
use Rattle.pl_desk.proofs.AnyMoment.{rests_less, still_rests}
use Rattle.pl_desk.specs.Calls.{LeavesNoMore}
use Rattle.pl_desk.specs.declared.desk.Desk.{Ghosts}
use Rattle.pl_store.proofs.StandsLaws.{settled_stands, stands_by}
use Rattle.pl_store.specs.declared.keeper.Keeper.{Keeper}
use Rattle.pl_store.specs.declared.keeper.Keeper.TheVariants.{Memory, File}
use Rattle.pl_store.specs.Keeper.{IsKept, Keeps, Leaves, is_file, keeper_store}
use Rattle.pl_store.specs.Session.{Stands}

module _ {D : Type 0} (desk : Ghosts D) where
  -- the file that a stop leaves is one of the keeper's
  pub kept_leaves : (keeper : Keeper) (first now : D) → IsKept desk keeper first now
      → (file : List ℕ) → desk.may_leave now file
      → Leaves desk (is_file keeper) first (keeper_store keeper) file
  kept_leaves (Memory memory) first now kept file left = kept file left
  kept_leaves (File session) first now kept file left =
      settled_stands desk session now kept file left

  -- a keeper's file holds its store
  pub kept_keeps : (keeper : Keeper) (first now : D) → IsKept desk keeper first now
      → Keeps desk (is_file keeper) first (keeper_store keeper) now
  kept_keeps (Memory memory) first now kept = kept
  kept_keeps (File session) first now kept =
      rests_less desk now _ (λ file. Stands file (keeper_store (File session))) kept.rests
      (λ file closed. stands_by _ file (keeper_store (File session)) kept.stands closed.holds)

  -- calls that leave the file as it was leave it kept
  pub still_kept : (keeper : Keeper) (first old new : D) → desk.held new ≡ desk.held old
      → LeavesNoMore desk old new
      → IsKept desk keeper first old → IsKept desk keeper first new
  still_kept (Memory memory) first old new same left kept = λ file may. kept file (left file may)
  still_kept (File session) first old new same left kept =
      record { rests = still_rests desk old new _ same left kept.rests; stands = kept.stands }

  -- and the same store in it
  pub still_keeps : (kind : Bool) (first : D) (store : Store) (old new : D)
      → desk.held new ≡ desk.held old
      → LeavesNoMore desk old new → Keeps desk kind first store old
      → Keeps desk kind first store new
  still_keeps true first store old new same left keeps =
      still_rests desk old new (λ file. Stands file store) same left keeps
  still_keeps false first store old new same left keeps = λ file may. keeps file (left file may)
