-- What a stop shows of a line is what it shows of a run with more lines.
use Rattle.std.specs.Str.Lines.{strip_carriage_return}
use Rattle.std.proofs.Common.{◌≡◌, ◌<◌, ◌+◌, Bool, ℕ, List, [], ◌∷◌, ◌++◌, length, take, drop, get_or, Some, Option}
use Rattle.std.proofs.Common.{option_to_list, ap, sym, subst, ◌∙◌, append_assoc, append-nil, arith, inl}
use Rattle.pl_base.specs.Store.{Store}
use Rattle.pl_base.specs.Live.{slot_limit}
use Rattle.pl_desk.proofs.Moments.{and_on, started}
use Rattle.pl_desk.specs.declared.desk.Desk.{Ghosts}
use Rattle.pl_desk.specs.Shown.{ShowsOnly}
use Rattle.pl_desk.proofs.AnyMoment.{OnlyNow}
use Rattle.pl_step.specs.declared.command.Command.{Command}
use Rattle.pl_step.specs.Parsed.{Parsed}
use Rattle.pl_step.specs.Run.{replies, after}
use Rattle.pl_store.specs.Keeper.{IsKept, Leaves, is_file, keeper_limit, keeper_store}
use Rattle.pl_store.proofs.KeeperLaws.{kept_leaves}
use Rattle.pl_script.specs.Script.{entry, script}
use Rattle.places.specs.declared.script_run.ScriptRun.{ScriptRun}
use Rattle.places.specs.Lines.{entries_in, open_line}
use Rattle.places.specs.Progress.{IsAt, ended_entries}
use Rattle.places.specs.Said.{texts}
use Rattle.places.specs.Stops.{ShowsAnswer, ShowsAnswered}
use Rattle.places.proofs.LineLemmas.{script-is}
use Rattle.places.proofs.ProgressLemmas.{around, ended_further, ended_lf, kept_open, kept_stripped}
use Rattle.places.proofs.EntryLemmas.{one_entry}

module _ {D : Type 0} (desk : Ghosts D) (kind : Bool) (first : D) (start : Store) where
  -- a run of more entries
  shows_further : (xs ys : List (Parsed Command)) (begun file line : List ℕ)
      → ShowsAnswered desk kind first slot_limit start xs begun file line
      → ShowsAnswered desk kind first slot_limit start (xs ++ ys) begun file line
  shows_further xs ys begun file line shows = record {
    answered = shows.answered;
    next = shows.next;
    more = shows.more ++ ys;
    order =
        ap (λ all. all ++ ys) shows.order ∙ append_assoc shows.answered (shows.next ++ shows.more) ys
        ∙ ap (λ rest. shows.answered ++ rest) (append_assoc shows.next shows.more ys);
    one = shows.one;
    shows = shows.shows;
  }

  -- no line is being answered
  shows_none : (xs : List (Parsed Command)) (begun file line : List ℕ)
      → Leaves desk kind first (after slot_limit start xs) file → line ≡ begun ++ texts (replies slot_limit start xs)
      → ShowsAnswered desk kind first slot_limit start xs begun file line
  shows_none xs begun file line leaves is = record {
    answered = xs;
    next = [];
    more = [];
    order = sym (append-nil xs);
    one = omega arith;
    shows = record {
      part = 0;
      said = is ∙ sym (append-nil (begun ++ texts (replies slot_limit start xs)));
      leaves = inl leaves;
    };
  }

  -- nothing was answered yet
  pub shows_nothing : (entries : List (Parsed Command)) (begun file : List ℕ) → Leaves desk kind first start file
      → ShowsAnswered desk kind first slot_limit start entries begun file begun
  shows_nothing entries begun file leaves =
      shows_further [] entries begun file begun (shows_none [] begun file begun leaves (sym (append-nil begun)))

  shows_line : (xs : List (Parsed Command)) (found : Option (Parsed Command)) (begun file line : List ℕ)
      → ShowsAnswer desk kind first slot_limit (after slot_limit start xs) (option_to_list found)
      (begun ++ texts (replies slot_limit start xs)) file line
      → ShowsAnswered desk kind first slot_limit start (xs ++ option_to_list found) begun file line
  shows_line xs found begun file line shows = record {
    answered = xs;
    next = option_to_list found;
    more = [];
    order = ap (λ rest. xs ++ rest) (sym (append-nil (option_to_list found)));
    one = one_entry found;
    shows = shows;
  }

  pub shows_later : (bytes piece begun file line : List ℕ)
      → ShowsAnswered desk kind first slot_limit start (ended_entries bytes) begun file line
      → ShowsAnswered desk kind first slot_limit start (ended_entries (bytes ++ piece)) begun file line
  shows_later bytes piece begun file line shows =
      let further = ended_further bytes piece in
      rw further.1 (shows_further (ended_entries bytes) further.0 begun file line shows)

  pub shows_within : (bytes piece : List ℕ) (i : ℕ) (begun file line : List ℕ) → i < length piece
      → ShowsAnswered desk kind first slot_limit start
      (ended_entries ((bytes ++ take i piece) ++ get_or piece i 0 ∷ [])) begun file line
      → ShowsAnswered desk kind first slot_limit start (ended_entries (bytes ++ piece)) begun file line
  shows_within bytes piece i begun file line within shows =
      rw (← around bytes piece i within)
      (shows_later ((bytes ++ take i piece) ++ get_or piece i 0 ∷ []) (drop (i + 1) piece) begun file line shows)

  -- of the script whose front was read
  pub shows_script : (bytes rest begun file line : List ℕ)
      → ShowsAnswered desk kind first slot_limit start (ended_entries bytes) begun file line
      → ShowsAnswered desk kind first slot_limit start (script (bytes ++ rest)) begun file line
  shows_script bytes rest begun file line shows =
      rw (script-is (bytes ++ rest))
      (shows_further (ended_entries (bytes ++ rest)) (entries_in (open_line (bytes ++ rest))) begun file line
      (shows_later bytes rest begun file line shows))

  -- a line that ends with LF, and the last one
  pub line_shows : (bytes line begun : List ℕ) (said : Option (List ℕ)) (run : ScriptRun)
      → IsAt start bytes (Some begun) run said → line ≡ strip_carriage_return run.line.items → (file shown : List ℕ)
      → ShowsAnswer desk kind first (keeper_limit run.keeper) (keeper_store run.keeper) (entries_in line)
      (begun ++ texts (replies slot_limit start (ended_entries bytes))) file shown
      → ShowsAnswered desk kind first slot_limit start (ended_entries (bytes ++ 10 ∷ [])) begun file shown
  line_shows bytes line begun said run at is file shown shows =
      rw (ended_lf bytes)
      (shows_line (ended_entries bytes) (entry (strip_carriage_return (open_line bytes))) begun file shown
      (rw (at.limit, at.store, kept_stripped bytes run.line.items line at.line is) at shows))

  pub last_shows : (bytes line begun : List ℕ) (said : Option (List ℕ)) (run : ScriptRun)
      → IsAt start bytes (Some begun) run said → line ≡ run.line.items → (file shown : List ℕ)
      → ShowsAnswer desk kind first (keeper_limit run.keeper) (keeper_store run.keeper) (entries_in line)
      (begun ++ texts (replies slot_limit start (ended_entries bytes))) file shown
      → ShowsAnswered desk kind first slot_limit start (script bytes) begun file shown
  last_shows bytes line begun said run at is file shown shows =
      rw (script-is bytes)
      (shows_line (ended_entries bytes) (entry (open_line bytes)) begun file shown
      (rw (at.limit, at.store, ap entries_in is ∙ kept_open bytes run.line.items at.line) at shows))

-- nothing happens on the desk
module _ {D : Type 0} (desk : Ghosts D) where
  pub shows_here : OnlyNow desk
      → (first : D) (start : Store) (bytes begun : List ℕ) (run : ScriptRun) (now : D)
      → IsAt start bytes (Some begun) run (desk.said now) → IsKept desk run.keeper first now
      → ShowsOnly desk now now (ShowsAnswered desk (is_file run.keeper) first slot_limit start (ended_entries bytes)
      begun)
  shows_here only_now first start bytes begun run now at kept =
      started desk now (ShowsAnswered desk (is_file run.keeper) first slot_limit start (ended_entries bytes) begun)
      (λ file line shown.
      let shows =
      only_now now (begun ++ texts (replies slot_limit start (ended_entries bytes))) file line at.text shown in
      shows_none desk (is_file run.keeper) first start (ended_entries bytes) begun file line
      (subst (λ (store : Store). Leaves desk (is_file run.keeper) first store file) at.store
      (kept_leaves desk run.keeper first now kept file shows.0)) shows.1)

  -- a byte more was taken of a piece
  pub shows_taken : (first : D) (start : Store) (bytes piece : List ℕ) (i : ℕ) (begun : List ℕ) (kind : Bool)
      (run : ScriptRun) (old mid new : D) → i < length piece → is_file run.keeper ≡ kind
      → ShowsOnly desk old mid (ShowsAnswered desk kind first slot_limit start (ended_entries (bytes ++ piece)) begun)
      → ShowsOnly desk mid new (ShowsAnswered desk (is_file run.keeper) first slot_limit start
      (ended_entries ((bytes ++ take i piece) ++ get_or piece i 0 ∷ [])) begun)
      → ShowsOnly desk old new (ShowsAnswered desk kind first slot_limit start (ended_entries (bytes ++ piece)) begun)
  shows_taken first start bytes piece i begun kind run old mid new within is so_far more =
      and_on desk old mid new
      (ShowsAnswered desk kind first slot_limit start (ended_entries (bytes ++ piece)) begun)
      (ShowsAnswered desk (is_file run.keeper) first slot_limit start
      (ended_entries ((bytes ++ take i piece) ++ get_or piece i 0 ∷ [])) begun)
      so_far more
      (λ file line shows. shows_within desk kind first start bytes piece i begun file line within (rw is at shows))
