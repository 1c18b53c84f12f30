-- A piece of the input that is taken byte by byte.
use Rattle.std.proofs.Common.{◌≡◌, ◌<◌, ◌+◌, ◌++◌, ◌∷◌, ℕ, List, [], Option, Some, Ok, Err, false, get_or}
use Rattle.std.proofs.Common.{length, subst, take, ◌∙◌}
use Rattle.pl_base.specs.Store.{Store}
use Rattle.pl_base.specs.Live.{slot_limit}
use Rattle.pl_desk.specs.declared.desk.Desk.{Ghosts}
use Rattle.pl_desk.specs.Shown.{ShowsOnly}
use Rattle.pl_desk.specs.Calls.{LeavesFile}
use Rattle.pl_desk.proofs.AnyMoment.{OnlyNow, alone_on}
use Rattle.pl_desk.proofs.Moments.{shows_less}
use Rattle.pl_store.specs.Keeper.{IsKept, is_file}
use Rattle.places.specs.declared.answer_error.AnswerError.{AnswerError}
use Rattle.places.specs.declared.answer_error.AnswerError.TheVariants.{NoMemory}
use Rattle.places.specs.declared.script_run.ScriptRun.{ScriptRun}
use Rattle.places.specs.Bounded.{WritesFew}
use Rattle.places.specs.Progress.{IsAt, StaysKept, Takes, ended_entries}
use Rattle.places.specs.Stops.{ShowsAnswered}
use Rattle.places.proofs.BoundLemmas.{writes_later, writes_within}
use Rattle.places.proofs.EntryLemmas.{leaves_here, leaves_later, leaves_within}
use Rattle.places.proofs.ProgressLemmas.{taken_further}
use Rattle.places.proofs.StopLemmas.{shows_here, shows_later, shows_taken}

module _ {D : Type 0} (desk : Ghosts D) where
  -- the run stands behind the bytes taken so far, a stop since the start shows some of the whole
  -- piece's answers, and no more was written than the answers so far may write
  pub record Taken (begun_run : ScriptRun) (piece : List ℕ) (i : ℕ) (run : ScriptRun) (old now : D) : Type 0 where
    pub at : (start : Store) (bytes : List ℕ) (begun : Option (List ℕ))
        → IsAt start bytes begun begun_run (desk.said old)
        → IsAt start (bytes ++ take i piece) begun run (desk.said now)
    pub kind : is_file run.keeper ≡ is_file begun_run.keeper
    pub kept : (first : D) → IsKept desk begun_run.keeper first old → IsKept desk run.keeper first now
    pub shows : (start : Store) (bytes begun : List ℕ) (first : D)
        → IsAt start bytes (Some begun) begun_run (desk.said old) → IsKept desk begun_run.keeper first old
        → ShowsOnly desk old now
        (ShowsAnswered desk (is_file begun_run.keeper) first slot_limit start (ended_entries (bytes ++ piece)) begun)
    pub writes : (start : Store) (bytes : List ℕ) (begun : Option (List ℕ)) (before : ℕ)
        → IsAt start bytes begun begun_run (desk.said old)
        → WritesFew slot_limit start (ended_entries bytes) before (desk.written old)
        → WritesFew slot_limit start (ended_entries (bytes ++ take i piece)) before (desk.written now)
    pub alone : is_file begun_run.keeper ≡ false → LeavesFile desk old now

  -- the next byte is taken
  pub further : (begun_run run next : ScriptRun) (piece : List ℕ) (i : ℕ) (old mid new : D) → i < length piece
      → Taken begun_run piece i run old mid → Takes desk run (get_or piece i 0 ∷ []) (Ok next) mid new
      → is_file next.keeper ≡ is_file run.keeper → StaysKept desk run.keeper mid next.keeper new
      → (is_file run.keeper ≡ false → LeavesFile desk mid new) → Taken begun_run piece (i + 1) next old new
  further begun_run run next piece i old mid new within is takes kind kept alone = record {
    at = λ start bytes begun at. subst
        (λ (l : List ℕ). IsAt start l begun next (desk.said new)) (taken_further bytes piece i within)
        (takes.goes_on start (bytes ++ take i piece) begun (is.at start bytes begun at));
    kind = kind ∙ is.kind;
    kept = λ first before. kept first (is.kept first before);
    shows = λ start bytes begun first at before.
        shows_taken desk first start bytes piece i begun (is_file begun_run.keeper) run old mid new within is.kind
        (is.shows start bytes begun first at before)
        (takes.shows start (bytes ++ take i piece) begun first (is.at start bytes (Some begun) at)
        (is.kept first before));
    writes = λ start bytes begun before at few. subst
        (λ (l : List ℕ). WritesFew slot_limit start (ended_entries l) before (desk.written new))
        (taken_further bytes piece i within)
        (takes.writes start (bytes ++ take i piece) begun before (is.at start bytes begun at)
        (is.writes start bytes begun before at few));
    alone = λ memory. alone_on desk old mid new (is.alone memory) (alone (is.kind ∙ memory));
  }

  -- the run stops at the next byte
  pub stops : (begun_run run : ScriptRun) (error : AnswerError) (piece : List ℕ) (i : ℕ) (old mid new : D)
      → i < length piece → Taken begun_run piece i run old mid
      → Takes desk run (get_or piece i 0 ∷ []) (Err error) mid new → Takes desk begun_run piece (Err error) old new
  stops begun_run run error piece i old mid new within is takes = record {
    goes_on = tt;
    ends = λ start bytes begun first at kept.
        leaves_within desk error (is_file begun_run.keeper) first start begun new bytes piece i within
        (rw is.kind at (takes.ends start (bytes ++ take i piece) begun first (is.at start bytes (Some begun) at)
        (is.kept first kept)));
    shows = λ start bytes begun first at kept.
        shows_taken desk first start bytes piece i begun (is_file begun_run.keeper) run old mid new within is.kind
        (is.shows start bytes begun first at kept)
        (takes.shows start (bytes ++ take i piece) begun first (is.at start bytes (Some begun) at)
        (is.kept first kept));
    writes = λ start bytes begun before at few.
        writes_within start before bytes piece i (desk.written new) within
        (takes.writes start (bytes ++ take i piece) begun before (is.at start bytes begun at)
        (is.writes start bytes begun before at few));
  }

  -- a byte is kept, and the desk is asked for nothing
  pub keeps : OnlyNow desk → (run next : ScriptRun) (byte : ℕ) (now : D)
      → ((start : Store) (bytes : List ℕ) (begun said : Option (List ℕ)) → IsAt start bytes begun run said
      → IsAt start (bytes ++ byte ∷ []) begun next said)
      → Takes desk run (byte ∷ []) (Ok next) now now
  keeps only_now run next byte now kept = record {
    goes_on = λ start bytes begun at. kept start bytes begun (desk.said now) at;
    ends = tt;
    shows = λ start bytes begun first at before. shows_less desk now now
        (ShowsAnswered desk (is_file run.keeper) first slot_limit start (ended_entries bytes) begun)
        (ShowsAnswered desk (is_file run.keeper) first slot_limit start (ended_entries (bytes ++ byte ∷ [])) begun)
        (shows_here desk only_now first start bytes begun run now at before)
        (shows_later desk (is_file run.keeper) first start bytes (byte ∷ []) begun);
    writes = λ start bytes begun before at few. writes_later start before bytes (byte ∷ []) (desk.written now) few;
  }

  -- or there is no memory for it
  pub lacks : OnlyNow desk → (run : ScriptRun) (byte : ℕ) (now : D)
      → Takes desk run (byte ∷ []) (Err NoMemory) now now
  lacks only_now run byte now = record {
    goes_on = tt;
    ends = λ start bytes begun first at kept.
        leaves_later desk NoMemory (is_file run.keeper) first start begun now bytes (byte ∷ [])
        (leaves_here desk first start bytes begun run now at kept);
    shows = λ start bytes begun first at before. shows_less desk now now
        (ShowsAnswered desk (is_file run.keeper) first slot_limit start (ended_entries bytes) begun)
        (ShowsAnswered desk (is_file run.keeper) first slot_limit start (ended_entries (bytes ++ byte ∷ [])) begun)
        (shows_here desk only_now first start bytes begun run now at before)
        (shows_later desk (is_file run.keeper) first start bytes (byte ∷ []) begun);
    writes = λ start bytes begun before at few. writes_later start before bytes (byte ∷ []) (desk.written now) few;
  }
