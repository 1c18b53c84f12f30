-- What keeps a store, and what the desk's file is to it.
use Rattle.std.specs.Prelude.{◌≡◌, ◌⊎◌, ⊤, ℕ, Bool, true, false, List, Result, Some, IfOk, OnErr}
use Rattle.pl_base.specs.Store.{Store}
use Rattle.pl_desk.specs.Calls.{LeavesNoMore}
use Rattle.pl_desk.specs.Shown.{AtAnyMoment, Rests}
use Rattle.pl_desk.specs.declared.desk.Desk.{Ghosts}
use Rattle.pl_store.specs.Session.{IsPreparedFrom, IsSettled, Stands, bytes_to_write, memory_limit}
use Rattle.pl_store.specs.Session.{memory_store, next_limit, next_store, session_limit}
use Rattle.pl_store.specs.Session.{session_store}
use Rattle.pl_store.specs.declared.keeper.Keeper.{Keeper}
use Rattle.pl_store.specs.declared.keeper.Keeper.TheVariants.{Memory, File}
use Rattle.pl_store.specs.declared.keeper.Ready.{Ready}
use Rattle.pl_store.specs.declared.keeper.Ready.TheVariants as ready

-- the store that is kept
abbrev pub keeper_store : Keeper → Store
keeper_store (Memory memory) = memory_store memory
keeper_store (File s) = session_store s

-- how many slots it may take
abbrev pub keeper_limit : Keeper → ℕ
keeper_limit (Memory memory) = memory_limit memory
keeper_limit (File s) = session_limit s

-- whether the store is in a file
abbrev pub is_file : Keeper → Bool
is_file (Memory memory) = false
is_file (File s) = true

-- the store after the command
abbrev pub ready_store : Ready → Store
ready_store (ready.Memory memory) = memory_store memory
ready_store (ready.File prepared) = next_store prepared

-- how many slots it may take
abbrev pub ready_limit : Ready → ℕ
ready_limit (ready.Memory memory) = memory_limit memory
ready_limit (ready.File prepared) = next_limit prepared

-- how many bytes its commit writes
abbrev pub ready_bytes : Ready → ℕ
ready_bytes (ready.Memory memory) = 0
ready_bytes (ready.File prepared) = bytes_to_write prepared

-- the command was prepared by the keeper
abbrev pub IsReadyFrom : Keeper → Ready → Type 0
IsReadyFrom (Memory memory) (ready.Memory next) = ⊤
IsReadyFrom (Memory memory) (ready.File prepared) = ⊥
IsReadyFrom (File s) (ready.Memory next) = ⊥
IsReadyFrom (File s) (ready.File prepared) = IsPreparedFrom s prepared

-- Which files a stop may leave: where the store is in a file those that stand for it, and else
-- those that a stop might have left at first.
abbrev pub Leaves : {D : Type 0} (desk : Ghosts D) → Bool → D → Store → List ℕ → Type 0
Leaves desk true first store file = Stands file store
Leaves desk false first store file = desk.may_leave first file

-- the same of one store or another
abbrev pub LeavesEither : {D : Type 0} (desk : Ghosts D) → Bool → D → Store → Store → List ℕ
    → Type 0
LeavesEither desk is_file first before after file =
    Leaves desk is_file first before file ⊎ Leaves desk is_file first after file

-- the file holds the keeper's store, or is left alone by a keeper that has none
abbrev pub IsKept : {D : Type 0} (desk : Ghosts D) → Keeper → D → D → Type 0
IsKept desk (Memory memory) first now = LeavesNoMore desk first now
IsKept desk (File s) first now = IsSettled desk s now

-- the file holds this store: it is at rest and stands for it; without a file a stop leaves a file
-- that it might have left at first
abbrev pub Keeps : {D : Type 0} (desk : Ghosts D) → Bool → D → Store → D → Type 0
Keeps desk true first store now = Rests desk now (λ file. Stands file store)
Keeps desk false first store now = LeavesNoMore desk first now

-- What a commit of a step leaves of the keeper that prepared it, and of its file.
pub record TakesStep {D E : Type 0} (desk : Ghosts D) (before : Keeper) (next : Store)
    (result : Result Keeper E) (old new : D) : Type 0 where
  -- a store in a file stays in it, and one in memory stays there
  pub kind : IfOk result (λ keeper. is_file keeper ≡ is_file before)
  -- the file holds the next store as it held the one before
  pub kept : IfOk result
      (λ keeper. (first : D) → IsKept desk before first old → IsKept desk keeper first new)
  -- a stop at any moment leaves one of the two stores
  pub any_moment : (first : D) (line : List ℕ) → IsKept desk before first old
      → desk.said old ≡ Some line → AtAnyMoment desk old new
      (LeavesEither desk (is_file before) first (keeper_store before) next)
  -- and so does a failed call
  pub left : OnErr result ((first : D) (file : List ℕ) → IsKept desk before first old
      → desk.may_leave new file
      → LeavesEither desk (is_file before) first (keeper_store before) next file)
  -- a store in memory calls nothing, and none of its calls fails
  pub alone : is_file before ≡ false → new ≡ old
  pub in_file : OnErr result (is_file before ≡ true)
