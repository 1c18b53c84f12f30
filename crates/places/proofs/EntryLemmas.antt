-- What a run leaves that stops at one of its lines is what it leaves of a run with more lines.
use Rattle.std.specs.Prelude.{IfErr}
use Rattle.std.specs.Str.Lines.{strip_carriage_return}
use Rattle.std.proofs.Common.{◌≡◌, ◌≤◌, ◌<◌, ◌+◌, Bool, ℕ, List, [], ◌∷◌, ◌++◌, length, take, drop, get_or, Some, None}
use Rattle.std.proofs.Common.{Option, Result, Ok, Err, option_to_list, ap, sym, subst, ◌∙◌, append_assoc, append-nil}
use Rattle.std.proofs.Common.{arith}
use Rattle.pl_base.specs.Store.{Store}
use Rattle.pl_base.specs.Live.{slot_limit}
use Rattle.pl_desk.specs.declared.desk.Desk.{Ghosts}
use Rattle.pl_step.specs.declared.command.Command.{Command}
use Rattle.pl_step.specs.Parsed.{Parsed}
use Rattle.pl_step.specs.Run.{replies, after}
use Rattle.pl_store.specs.Keeper.{IsKept, Keeps, is_file, keeper_limit, keeper_store}
use Rattle.pl_store.proofs.KeeperLaws.{kept_keeps}
use Rattle.pl_script.specs.Script.{entry, script}
use Rattle.places.specs.declared.answer_error.AnswerError.{AnswerError}
use Rattle.places.specs.declared.answer_error.AnswerError.TheVariants.{NoMemory}
use Rattle.places.specs.declared.script_run.ScriptRun.{ScriptRun}
use Rattle.places.specs.Lines.{entries_in, open_line}
use Rattle.places.specs.Progress.{IsAt, ended_entries}
use Rattle.places.specs.Said.{SaysOfAnswer, texts}
use Rattle.places.specs.Stops.{LeavesAtEntry, LeavesOfAnswer}
use Rattle.places.proofs.LineLemmas.{script-is}
use Rattle.places.proofs.ProgressLemmas.{around, ended_further, ended_lf, kept_open, kept_stripped}

-- two facts of an error
pub if_err_both : {X E : Type 0} (result : Result X E) (P Q R : E → Type 0) → IfErr result P → IfErr result Q
    → ((error : E) → P error → Q error → R error) → IfErr result R
if_err_both (Ok x) P Q R first second both = tt
if_err_both (Err error) P Q R first second both = both error first second

pub one_entry : (found : Option (Parsed Command)) → length (option_to_list found) ≤ 1
one_entry None = omega arith
one_entry (Some e) = omega arith

module _ {D : Type 0} (desk : Ghosts D) (error : AnswerError) (kind : Bool) (first : D) (start : Store) (begun : List ℕ)
    (now : D) where
  abbrev pub Leaves : List (Parsed Command) → Type 0
  Leaves entries = LeavesAtEntry desk error kind first slot_limit start entries begun now

  -- a run of more entries
  leaves_further : (xs ys : List (Parsed Command)) → Leaves xs → Leaves (xs ++ ys)
  leaves_further xs ys left = record {
    answered = left.answered;
    next = left.next;
    more = left.more ++ ys;
    order =
        ap (λ all. all ++ ys) left.order ∙ append_assoc left.answered (left.next ++ left.more) ys
        ∙ ap (λ rest. left.answered ++ rest) (append_assoc left.next left.more ys);
    one = left.one;
    text = left.text;
    file = left.file;
  }

  pub leaves_later : (bytes piece : List ℕ) → Leaves (ended_entries bytes) → Leaves (ended_entries (bytes ++ piece))
  leaves_later bytes piece left =
      let further = ended_further bytes piece in
      rw further.1 (leaves_further (ended_entries bytes) further.0 left)

  pub leaves_within : (bytes piece : List ℕ) (i : ℕ) → i < length piece
      → Leaves (ended_entries ((bytes ++ take i piece) ++ get_or piece i 0 ∷ []))
      → Leaves (ended_entries (bytes ++ piece))
  leaves_within bytes piece i within left =
      rw (← around bytes piece i within)
      (leaves_later ((bytes ++ take i piece) ++ get_or piece i 0 ∷ []) (drop (i + 1) piece) left)

  -- the script whose front was read
  pub leaves_script : (bytes rest : List ℕ) → Leaves (ended_entries bytes) → Leaves (script (bytes ++ rest))
  leaves_script bytes rest left =
      rw (script-is (bytes ++ rest))
      (leaves_further (ended_entries (bytes ++ rest)) (entries_in (open_line (bytes ++ rest)))
      (leaves_later bytes rest left))

  -- an answer that failed behind what was answered
  leaves_entry : (xs : List (Parsed Command)) (found : Option (Parsed Command))
      → SaysOfAnswer error (replies slot_limit (after slot_limit start xs) (option_to_list found))
      (Some (begun ++ texts (replies slot_limit start xs))) (desk.said now)
      → LeavesOfAnswer desk error kind first (after slot_limit start xs)
      (after slot_limit (after slot_limit start xs) (option_to_list found)) now
      → Leaves (xs ++ option_to_list found)
  leaves_entry xs found says file = record {
    answered = xs;
    next = option_to_list found;
    more = [];
    order = ap (λ rest. xs ++ rest) (sym (append-nil (option_to_list found)));
    one = one_entry found;
    text = says;
    file = file;
  }

  module _ (bytes line : List ℕ) (before : Option (List ℕ)) (run : ScriptRun)
      (at : IsAt start bytes (Some begun) run before)
      (says : SaysOfAnswer error (replies (keeper_limit run.keeper) (keeper_store run.keeper) (entries_in line)) before
      (desk.said now))
      (file : LeavesOfAnswer desk error kind first (keeper_store run.keeper)
      (after (keeper_limit run.keeper) (keeper_store run.keeper) (entries_in line)) now) where
    -- a line that ends with LF, and the last one
    pub line_leaves : line ≡ strip_carriage_return run.line.items → Leaves (ended_entries (bytes ++ 10 ∷ []))
    line_leaves is =
        rw (ended_lf bytes)
        (leaves_entry (ended_entries bytes) (entry (strip_carriage_return (open_line bytes)))
        (rw (at.limit, at.store, at.text, kept_stripped bytes run.line.items line at.line is) at says)
        (rw (at.limit, at.store, kept_stripped bytes run.line.items line at.line is) at file))

    pub last_leaves : line ≡ run.line.items → Leaves (script bytes)
    last_leaves is =
        rw (script-is bytes)
        (leaves_entry (ended_entries bytes) (entry (open_line bytes))
        (rw (at.limit, at.store, at.text, ap entries_in is ∙ kept_open bytes run.line.items at.line) at says)
        (rw (at.limit, at.store, ap entries_in is ∙ kept_open bytes run.line.items at.line) at file))

-- the keeper's file after the lines that ended
pub keeps_here : {D : Type 0} (desk : Ghosts D) (first : D) (start : Store) (bytes : List ℕ) (begun : Option (List ℕ))
    (run : ScriptRun) (now : D) → IsAt start bytes begun run (desk.said now) → IsKept desk run.keeper first now
    → Keeps desk (is_file run.keeper) first (after slot_limit start (ended_entries bytes)) now
keeps_here desk first start bytes begun run now at kept =
    subst (λ (store : Store). Keeps desk (is_file run.keeper) first store now) at.store
    (kept_keeps desk run.keeper first now kept)

-- want of memory with nothing of a line done
pub leaves_here : {D : Type 0} (desk : Ghosts D) (first : D) (start : Store) (bytes begun : List ℕ) (run : ScriptRun)
    (now : D) → IsAt start bytes (Some begun) run (desk.said now) → IsKept desk run.keeper first now
    → LeavesAtEntry desk NoMemory (is_file run.keeper) first slot_limit start (ended_entries bytes) begun now
leaves_here desk first start bytes begun run now at kept = record {
  answered = ended_entries bytes;
  next = [];
  more = [];
  order = sym (append-nil (ended_entries bytes));
  one = omega arith;
  text = at.text;
  file = keeps_here desk first start bytes (Some begun) run now at kept;
}
