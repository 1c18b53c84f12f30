-- A commit in a file, for the keeper that prepared its command.
use Rattle.std.proofs.Common.{true, false, ℕ, List, IsSome, Ok, Err, inl, refl, subst, sym}
use Rattle.std.proofs.lemmas.Bool.{both_ways}
use Rattle.pl_desk.proofs.AnyMoment.{OnlyNow, begun}
use Rattle.pl_desk.specs.Shown.{AtAnyMoment}
use Rattle.pl_desk.specs.declared.desk.Desk.{Ghosts}
use Rattle.pl_store.specs.declared.memory.Memory.{Memory as MemoryStore}
use Rattle.pl_store.specs.declared.session.Prepared.{Prepared}
use Rattle.pl_store.specs.declared.session.Session.{Session}
use Rattle.pl_store.specs.Session.{IsPreparedFrom, IsSettled, StandsForEither, memory_store, next_store, session_store}
use Rattle.pl_store.specs.declared.keeper.Keeper.{Keeper}
use Rattle.pl_store.specs.declared.keeper.Keeper.TheVariants.{Memory, File}
use Rattle.pl_store.specs.declared.keeper.Ready.TheVariants as ready
use Rattle.pl_store.specs.Keeper.{IsReadyFrom, LeavesEither, TakesStep}

module _ {D E : Type 0} (desk : Ghosts D) (old new : D) (prepared : Prepared)
    (shows : (s : Session) → IsPreparedFrom s prepared → IsSettled desk s old
    → AtAnyMoment desk old new (StandsForEither (session_store s) (next_store prepared))) where
  -- the file took the step
  pub taken_in_file : (before : Keeper) → IsReadyFrom before (ready.File prepared) → (after : Session)
      → ((s : Session) → IsPreparedFrom s prepared → IsSettled desk s old → IsSettled desk after new)
      → TakesStep {E = E} desk before (next_store prepared) (Ok (File after)) old new
  taken_in_file (Memory memory) from after settles = absurd from
  taken_in_file (File s) from after settles = record {
    kind = refl;
    kept = λ first settled. settles s from settled;
    any_moment = λ first line settled told. shows s from settled;
    left = tt;
    alone = λ memory. absurd (both_ways true memory refl);
    in_file = tt;
  }

  -- a call of it failed
  pub fails_in_file : (before : Keeper) → IsReadyFrom before (ready.File prepared) → (error : E)
      → ((s : Session) → IsPreparedFrom s prepared → IsSettled desk s old → (file : List ℕ) → desk.may_leave new file
      → StandsForEither (session_store s) (next_store prepared) file)
      → TakesStep desk before (next_store prepared) (Err error) old new
  fails_in_file (Memory memory) from error leaves = absurd from
  fails_in_file (File s) from error leaves = record {
    kind = tt;
    kept = tt;
    any_moment = λ first line settled told. shows s from settled;
    left = λ first file settled left. leaves s from settled file left;
    alone = λ memory. absurd (both_ways true memory refl);
    in_file = refl;
  }

-- a step in memory leaves the file alone
pub taken_in_memory : {D E : Type 0} (desk : Ghosts D) (now : D) (memory : MemoryStore) → OnlyNow desk
    → (before : Keeper) → IsReadyFrom before (ready.Memory memory)
    → TakesStep {E = E} desk before (memory_store memory) (Ok (Memory memory)) now now
taken_in_memory desk now memory only_now (Memory old) from = record {
  kind = refl;
  kept = λ first kept. kept;
  any_moment = λ first line kept told.
      begun desk only_now now (LeavesEither desk false first (memory_store old) (memory_store memory))
      (subst IsSome (sym told) refl) (λ file left. inl (kept file left));
  left = tt;
  alone = λ in_memory. refl;
  in_file = tt;
}
taken_in_memory desk now memory only_now (File s) from = absurd from
