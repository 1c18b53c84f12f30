-- A drill from the opening of its store to the summary that is said of it.
use Rattle.std.specs.Prelude.{⊤, IsSome, if◌then◌else◌, ◌==◌, ◌&&◌, nat_le, bytes_eq, codes, decimal}
use Rattle.std.specs.List.{count_by}
use Rattle.std.specs.Option.{option_map}
use Rattle.std.proofs.Common.{◌≡◌, ◌≤◌, ◌<◌, ◌+◌, ℕ, zero, suc, Bool, true, false, List, [], ◌∷◌, ◌++◌, length}
use Rattle.std.proofs.Common.{take, Option, Some, None, Result, Ok, Err, option_to_list, refl, ap, sym, subst, ◌∙◌}
use Rattle.std.proofs.Common.{arith, inl, inr, ⊎_elim}
use Rattle.std.proofs.lemmas.Bool.{leb-true}
use Rattle.std.proofs.lemmas.Option.{MatchOption-at_some, same_Some}
use Rattle.pl_base.specs.Live.{slot_limit}
use Rattle.pl_base.specs.Store.{Store}
use Rattle.pl_base.specs.NumberText.{number_32_of, number_of}
use Rattle.pl_desk.proofs.AnyMoment.{CountsNow, OnlyNow, and_more, begun, rests_less, weaker}
use Rattle.pl_desk.specs.Calls.{KeepsFile}
use Rattle.pl_desk.proofs.Moments.{and_on, shows_less}
use Rattle.pl_desk.proofs.SettlingLaws.{left_settled, shows_then_less}
use Rattle.pl_desk.specs.Settling.{Settles, ShowsThen}
use Rattle.pl_desk.specs.Shown.{AtAnyMoment, ShowsOnly, Unsaid}
use Rattle.pl_desk.specs.declared.desk.Desk.{Ghosts}
use Rattle.pl_drill.specs.Drill.{behind, draws, line_of, most_lines, tabbed}
use Rattle.pl_drill.specs.declared.drill.Drill.{Drill}
use Rattle.pl_script.specs.Reply.{reply_text}
use Rattle.pl_script.specs.Script.{entry}
use Rattle.pl_step.specs.declared.command.Command.{Command}
use Rattle.pl_step.specs.declared.command.Command.TheVariants.{Stats}
use Rattle.pl_step.specs.declared.reply.Reply.{Reply}
use Rattle.pl_step.specs.declared.reply.Reply.TheVariants as reply_of
use Rattle.pl_step.specs.Parsed.{Parsed}
use Rattle.pl_step.specs.Refused.{is_refused}
use Rattle.pl_step.specs.Run.{after, replies}
use Rattle.pl_step.specs.Step.{perform, step}
use Rattle.pl_store.specs.declared.ended.Ended.{Ended}
use Rattle.pl_store.specs.declared.ended.Ended.TheVariants as ended
use Rattle.pl_store.specs.declared.keeper.Keeper.{Keeper}
use Rattle.pl_store.specs.Ending.{Opens}
use Rattle.pl_store.specs.Keeper.{IsKept, Keeps, LeavesEither, is_file, keeper_limit, keeper_store}
use Rattle.pl_store.proofs.KeeperLaws.{kept_keeps, kept_leaves, still_keeps}
use Rattle.pl_store.specs.Session.{Stands, StandsAlike, StandsForEither}
use Rattle.places.specs.declared.answer_error.AnswerError.{AnswerError}
use Rattle.places.specs.declared.answer_error.AnswerError.TheVariants as answer
use Rattle.places.specs.declared.drill.Drilling.{Drilling}
use Rattle.places.specs.declared.status.Status.{Status}
use Rattle.places.specs.declared.status.Status.TheVariants as status
use Rattle.pl_task.specs.declared.task.Task.{Task}
use Rattle.pl_task.specs.declared.task.Task.TheVariants as tasks
use Rattle.places.specs.Drilling.{Drilled, EndsDrill, IsSmall, LeavesLines, ShowsDrill}
use Rattle.places.specs.Drilling.{StandsForSome, all_drilled, drill_status, drilled, line_done, so_far, summary}
use Rattle.places.specs.Drilling.{summary_of, told, told_all}
use Rattle.places.specs.Ending.{EndsTask}
use Rattle.places.specs.Lines.{entries_in}
use Rattle.places.specs.Said.{Says}
use Rattle.places.specs.Status.{answer_status, without_session}
use Rattle.pl_task.specs.Task.{drill_task, task_of}
use Rattle.places.specs.Stops.{LeavesOfAnswer, ShowsFront, ShowsUnopened}

-- ---- replies

-- no reply changes the day
told_day : (reply : Reply) (drill : Drill) → (told reply drill).day ≡ drill.day
told_day (reply_of.Visit visit page frecency) drill = refl
told_day (reply_of.Day day changed) drill = refl
told_day reply_of.Done drill = refl
told_day (reply_of.Page id frecency count last typed hidden bookmarked url title tags) drill = refl
told_day (reply_of.Origin prefix host reversed total pages passes) drill = refl
told_day (reply_of.Stats pages visits items origins sum slots) drill = refl
told_day (reply_of.Removed visits pages) drill = refl
told_day (reply_of.Item id) drill = refl
told_day (reply_of.List rows) drill = refl
told_day (reply_of.Rows rows) drill = refl
told_day (reply_of.Place text) drill = refl
told_day (reply_of.Bar rows) drill = refl
told_day (reply_of.Fill group total) drill = refl
told_day reply_of.NoFill drill = refl
told_day (reply_of.Imported items tags skipped) drill = refl
told_day (reply_of.Restored items tags skipped) drill = refl
told_day (reply_of.Refused refusal) drill = refl

told_all_day : (all : List Reply) (drill : Drill) → (told_all all drill).day ≡ drill.day
told_all_day [] drill = refl
told_all_day (reply ∷ more) drill = told_all_day more (told reply drill) ∙ told_day reply drill

-- one reply counts once at most
one_refused : (reply : Reply) (refused : Bool) → is_refused reply ≡ refused
    → count_by is_refused (reply ∷ []) ≤ 1
one_refused reply true is = rw is (omega arith)
one_refused reply false is = rw is (omega arith)

few_refused : (limit : ℕ) (store : Store) (found : Option (Parsed Command))
    → count_by is_refused (replies limit store (option_to_list found)) ≤ 1
few_refused limit store None = omega arith
few_refused limit store (Some one) = one_refused (step limit store one).0 (is_refused (step limit store one).0) refl

-- ---- how far a drill has come

-- by its parts
pub drilled_as : (a b : Drilled) → a.drill ≡ b.drill → a.refused ≡ b.refused → a.store ≡ b.store → a ≡ b
drilled_as a b drill refused store = λ i. record { drill = drill i; refused = refused i; store = store i }

-- the line that is behind the last
pub drilled_next : (start : Store) (seed n : ℕ) → drilled start seed (n + 1) ≡ line_done n (drilled start seed n)
drilled_next start seed n = ap (drilled start seed) (the_suc n)
  where
    the_suc : (n : ℕ) → n + 1 ≡ suc n
    the_suc n = omega arith

-- the store behind a line that asks for a command
pub line_stepped : (number : ℕ) (d : Drilled) (command : Command)
    → entries_in (line_of number d.drill) ≡ Ok command ∷ []
    → (perform slot_limit d.store command).1 ≡ (line_done number d).store
line_stepped number d command is =
    sym (ap (λ (entries : List (Parsed Command)). after slot_limit d.store entries) is)

-- ---- the numbers of a drill stay small

later : (is : Bool) (day : ℕ) → (day ≤ (if is then day + 1 else day)) × ((if is then day + 1 else day) ≤ day + 1)
later true day = (omega arith, omega arith)
later false day = (omega arith, omega arith)

pub behind_day : (number : ℕ) (drill : Drill)
    → (drill.day ≤ (behind number drill).day) × ((behind number drill).day ≤ drill.day + 1)
behind_day zero drill = (omega arith, omega arith)
behind_day (suc n) drill = later ((draws drill.random).kind == 12) drill.day

pub drilled_small : (start : Store) (seed n : ℕ) → IsSmall n (drilled start seed n)
drilled_small start seed zero = record { begun = omega arith; day = omega arith; refused = omega arith }
drilled_small start seed (suc n) =
    let d = drilled start seed n in
    let small = drilled_small start seed n in
    let day = behind_day n d.drill in
    let same =
    told_all_day (replies slot_limit d.store (entries_in (line_of n d.drill))) (behind n d.drill) in
    let few = few_refused slot_limit d.store (entry (line_of n d.drill)) in
    record {
      begun = omega (arith, small.begun, day.0, same);
      day = omega (arith, small.day, day.1, same);
      refused = omega (arith, small.refused, few);
    }

-- ---- what is said at the end

pub summary_is : (count : ℕ) (drilling : Drilling) (stats : List ℕ) → keeper_limit drilling.keeper ≡ slot_limit
    → stats ≡ reply_text (perform (keeper_limit drilling.keeper) (keeper_store drilling.keeper) Stats).0
    → tabbed (codes "drill" ∷ decimal count ∷ codes "refused" ∷ decimal drilling.refused ∷ []) ++ codes "\n" ++ stats
    ≡ summary_of count (so_far drilling)
summary_is count drilling stats limit is =
    ap (λ (text : List ℕ). tabbed
    (codes "drill" ∷ decimal count ∷ codes "refused" ∷ decimal drilling.refused ∷ []) ++ codes "\n" ++ text)
    (is ∙ ap (λ (most : ℕ). reply_text (perform most (keeper_store drilling.keeper) Stats).0) limit)

-- ---- one line after another

-- the store before the next line, or after it, is the one after some of the lines
either_some : (count seed n : ℕ) (start : Store) (file : List ℕ) → n ≤ count
    → StandsForEither (drilled start seed n).store (line_done n (drilled start seed n)).store file
    → StandsForSome count seed start file
either_some count seed n start file within (inl stands) = (n, omega (arith, within), stands)
either_some count seed n start file within (inr stands) = (
  n + 1,
  omega (arith, within),
  subst (λ (d : Drilled). Stands file d.store) (sym (drilled_next start seed n)) stands,
)

module _ {D : Type 0} (desk : Ghosts D) where
  -- before the first call
  pub at_first : OnlyNow desk → (keeper : Keeper) (first old : D) (before : List ℕ) (next : Store)
      → is_file keeper ≡ true → desk.said old ≡ Some before → IsKept desk keeper first old
      → AtAnyMoment desk old old (StandsForEither (keeper_store keeper) next)
  at_first only_now keeper first old before next file is kept =
      begun desk only_now old (StandsForEither (keeper_store keeper) next) (subst IsSome (sym is) refl)
      (λ shown left. inl (rw file at (kept_leaves desk keeper first old kept shown left)))

  pub at_begin : OnlyNow desk → (keeper : Keeper) (first old : D) (before : List ℕ) (count seed : ℕ)
      → is_file keeper ≡ true → desk.said old ≡ Some before → IsKept desk keeper first old
      → AtAnyMoment desk old old (StandsForSome count seed (keeper_store keeper))
  at_begin only_now keeper first old before count seed file is kept =
      begun desk only_now old (StandsForSome count seed (keeper_store keeper)) (subst IsSome (sym is) refl)
      (λ shown left. (0, omega arith, rw file at (kept_leaves desk keeper first old kept shown left)))

  -- while the file takes a command
  pub takes_either : (keeper : Keeper) (first : D) (command : Command) (reply : Reply) (next : Store) (file : List ℕ)
      → keeper_limit keeper ≡ slot_limit → is_file keeper ≡ true
      → (reply, next) ≡ perform (keeper_limit keeper) (keeper_store keeper) command
      → LeavesEither desk (is_file keeper) first (keeper_store keeper) next file
      → StandsForEither (keeper_store keeper) (perform slot_limit (keeper_store keeper) command).1 file
  takes_either keeper first command reply next file limit in_file step leaves =
      rw (in_file, ap (λ (d : Reply × Store). d.1) step, limit) at leaves

  pub at_command : (keeper : Keeper) (first old new : D) (command : Command) (reply : Reply) (next : Store)
      → keeper_limit keeper ≡ slot_limit → is_file keeper ≡ true
      → (reply, next) ≡ perform (keeper_limit keeper) (keeper_store keeper) command
      → AtAnyMoment desk old new (LeavesEither desk (is_file keeper) first (keeper_store keeper) next)
      → AtAnyMoment desk old new
      (StandsForEither (keeper_store keeper) (perform slot_limit (keeper_store keeper) command).1)
  at_command keeper first old new command reply next limit in_file step shows =
      weaker desk old new (LeavesEither desk (is_file keeper) first (keeper_store keeper) next)
      (StandsForEither (keeper_store keeper) (perform slot_limit (keeper_store keeper) command).1) shows
      (λ file leaves. takes_either keeper first command reply next file limit in_file step leaves)

  -- a line more
  pub at_next : (old mid new : D) (count seed n : ℕ) (start : Store) (d : Drilled) → n ≤ count
      → d ≡ drilled start seed n → desk.said mid ≡ desk.said old
      → AtAnyMoment desk old mid (StandsForSome count seed start)
      → AtAnyMoment desk mid new (StandsForEither d.store (line_done n d).store)
      → AtAnyMoment desk old new (StandsForSome count seed start)
  at_next old mid new count seed n start d within is unsaid first second =
      and_more desk old mid new (StandsForSome count seed start)
      (StandsForEither (drilled start seed n).store (line_done n (drilled start seed n)).store) unsaid first
      (subst (λ (d : Drilled). AtAnyMoment desk mid new (StandsForEither d.store (line_done n d).store)) is second)
      (λ file stands. either_some count seed n start file within stands)

  -- what a line leaves that was not run
  pub leaves_lines : (e : AnswerError) (count seed n : ℕ) (start : Store) (d : Drilled) (first now : D) → n ≤ count
      → d ≡ drilled start seed n → (e ≡ answer.SayFault → ⊥)
      → LeavesOfAnswer desk e true first d.store (line_done n d).store now
      → LeavesLines desk e count seed first start now
  leaves_lines e count seed n start d first now within is other leaves =
      at e other
      (subst (λ (d : Drilled). LeavesOfAnswer desk e true first d.store (line_done n d).store now) is leaves)
    where
      at : (e : AnswerError) → (e ≡ answer.SayFault → ⊥)
          → LeavesOfAnswer desk e true first (drilled start seed n).store (line_done n (drilled start seed n)).store now
          → LeavesLines desk e count seed first start now
      at answer.SayFault other leaves = absurd (other refl)
      at answer.DeviceFault other leaves =
          λ file left. either_some count seed n start file within (leaves file left)
      at answer.NoMemory other leaves = (n, omega (arith, within), leaves)

  -- ---- the summary

  -- lines that were not all run
  pub ends_lines : (e : AnswerError) (count seed : ℕ) (start : Store) (before : List ℕ) (first now : D)
      → desk.said now ≡ Some before → LeavesLines desk e count seed first start now
      → EndsDrill desk (answer_status e) count seed first start before now
  ends_lines answer.SayFault count seed start before first now unsaid leaves = absurd leaves
  ends_lines answer.DeviceFault count seed start before first now unsaid leaves = (unsaid, inr leaves)
  ends_lines answer.NoMemory count seed start before first now unsaid leaves = (unsaid, leaves)

  -- while lines are run
  pub shows_lines : (count seed : ℕ) (start : Store) (before : List ℕ) (old new : D) → desk.said old ≡ Some before
      → AtAnyMoment desk old new (StandsForSome count seed start)
      → ShowsOnly desk old new (ShowsDrill desk count seed start before)
  shows_lines count seed start before old new is shows =
      shows_less desk old new (Unsaid desk old (StandsForSome count seed start))
      (ShowsDrill desk count seed start before) shows
      (λ file line has. inl (
        has.0.0,
        has.0.1,
        has.0.2,
        sym (same_Some before line (sym is ∙ has.1)),
      ))

  -- all lines were run, and this text is the summary
  module _ (drilling : Drilling) (first mid : D) (count seed : ℕ) (start : Store) (before text : List ℕ)
      (done : so_far drilling ≡ all_drilled start seed count) (in_file : is_file drilling.keeper ≡ true)
      (kept : IsKept desk drilling.keeper first mid) (unsaid : desk.said mid ≡ Some before)
      (written : text ≡ summary_of count (so_far drilling)) where
    is_kept : keeper_store drilling.keeper ≡ (all_drilled start seed count).store
    is_kept = ap (λ (d : Drilled). d.store) done

    is_text : text ≡ summary start seed count
    is_text = written ∙ ap (summary_of count) done

    keeps_all : Keeps desk true first (all_drilled start seed count).store mid
    keeps_all = rw (in_file, is_kept) at (kept_keeps desk drilling.keeper first mid kept)

    -- it was said
    pub ends_said : (new : D) → KeepsFile desk mid new → Says (desk.said mid) text (desk.said new)
        → EndsDrill desk status.Done count seed first start before new
    ends_said new same says = (
      says ∙ ap (option_map (λ said. said ++ text)) unsaid ∙ ap (λ (t : List ℕ). Some (before ++ t)) is_text,
      still_keeps desk true first (all_drilled start seed count).store mid new same.held same.left keeps_all,
    )

    -- a front of it was said
    pub ends_front : (new : D) → KeepsFile desk mid new
        → (n : ℕ) × (n < length text) × Says (desk.said mid) (take n text) (desk.said new)
        → EndsDrill desk status.SayFault count seed first start before new
    ends_front new same front = (
      (
        front.0,
        subst (λ (t : List ℕ). front.0 < length t) is_text front.1,
        front.2 ∙ ap (option_map (λ said. said ++ take front.0 text)) unsaid
            ∙ ap (λ (t : List ℕ). Some (before ++ take front.0 t)) is_text,
      ),
      still_keeps desk true first (all_drilled start seed count).store mid new same.held same.left keeps_all,
    )

    -- while it is said
    pub shows_summary : (old new : D) → ShowsOnly desk old mid (ShowsDrill desk count seed start before)
        → ShowsOnly desk mid new (ShowsFront desk mid before text)
        → ShowsOnly desk old new (ShowsDrill desk count seed start before)
    shows_summary old new lines saying =
        and_on desk old mid new (ShowsDrill desk count seed start before) (ShowsFront desk mid before text) lines
        saying
        (λ shown line shows. inr (
          rw (in_file, is_kept) at (kept_leaves desk drilling.keeper first mid kept shown shows.0),
          (shows.1.0, shows.1.1 ∙ ap (λ (t : List ℕ). before ++ take shows.1.0 t) is_text),
        ))

  -- there was no memory for it
  pub ends_untold : (drilling : Drilling) (first mid : D) (count seed : ℕ) (start : Store) (before : List ℕ)
      → so_far drilling ≡ all_drilled start seed count → is_file drilling.keeper ≡ true
      → IsKept desk drilling.keeper first mid → desk.said mid ≡ Some before
      → EndsDrill desk status.NoMemory count seed first start before mid
  ends_untold drilling first mid count seed start before done in_file kept unsaid = (
    unsaid,
    (
      count + 1,
      omega arith,
      keeps_all drilling first mid count seed start before (summary_of count (so_far drilling)) done in_file kept
          unsaid refl,
    ),
  )

  -- ---- the opening

  -- until the file is settled no line is run, and from then on none yet
  pub shows_opened : {Fault Fault' : Type 0} (file : List ℕ) (start : Store) (count seed : ℕ) (before : List ℕ)
      (old new : D)
      → Stands file start → desk.said old ≡ Some before → Settles desk Fault old new (StandsAlike file)
      → (Fault → Fault')
      → ShowsThen desk Fault' old new (ShowsUnopened desk old before) (ShowsDrill desk count seed start before)
  shows_opened file start count seed before old new stands is settles fault =
      shows_then_less desk old new (Unsaid desk old (desk.may_leave old)) (Unsaid desk old (StandsAlike file))
      (ShowsUnopened desk old before) (ShowsDrill desk count seed start before) settles fault
      (λ later line shows. (shows.0, sym (same_Some before line (sym is ∙ shows.1))))
      (λ later line shows. inl (
        0,
        omega arith,
        (shows.0 start).0 stands,
        sym (same_Some before line (sym is ∙ shows.1)),
      ))

  -- what an opening leaves that ends with no store
  pub ends_unopened : {Fault : Type 0} (e : Ended) (s : Status) (file : List ℕ) (start : Store) (count seed : ℕ)
      (before : List ℕ) (old new : D)
      → CountsNow desk → s ≡ without_session e → desk.held old ≡ Some file → Opens desk slot_limit (Err e) old new
      → Stands file start → desk.said new ≡ desk.said old → desk.said old ≡ Some before
      → Settles desk Fault old new (StandsAlike file) → EndsDrill desk s count seed old start before new
  ends_unopened ended.DeviceFault s file start count seed before old new counts_now is held opens stands kept begun
      settles =
      subst (λ (t : Status). EndsDrill desk t count seed old start before new) (sym is) (
        kept ∙ begun,
        ⊎_elim (λ open_. inl open_)
            (λ settled. inr (λ later left. (0, omega arith, (settled later left start).0 stands)))
            (left_settled desk counts_now old new (StandsAlike file) before (kept ∙ begun) settles),
      )
  ends_unopened ended.NoMemory s file start count seed before old new counts_now is held opens stands kept begun
      settles =
      subst (λ (t : Status). EndsDrill desk t count seed old start before new) (sym is) (
        kept ∙ begun,
        (
          0,
          omega arith,
          rests_less desk new (StandsAlike file) (λ later. Stands later start) (opens file held)
              (λ later alike. (alike start).0 stands),
        ),
      )
  ends_unopened ended.NotAStore s file start count seed before old new counts_now is held opens stands kept begun
      settles =
      absurd (MatchOption-at_some _ _ file held opens.was_none start stands)
  ends_unopened (ended.NotEmpty n) s file start count seed before old new counts_now is held opens stands kept begun
      settles =
      absurd opens

-- ---- statuses

-- a drill on an open store may end so, and never as a file that is no store
pub drill_may_end : (count seed : ℕ) (end : Result ⊤ AnswerError)
    → EndsTask (tasks.Drill count seed) (drill_status end)
drill_may_end count seed (Ok done) = tt
drill_may_end count seed (Err answer.SayFault) = tt
drill_may_end count seed (Err answer.DeviceFault) = λ same. absurd (cc)
drill_may_end count seed (Err answer.NoMemory) = tt

pub drill_opened : (end : Result ⊤ AnswerError) → drill_status end ≡ status.NotAStore → ⊥
drill_opened (Ok done) is = absurd (cc)
drill_opened (Err answer.SayFault) is = absurd (cc)
drill_opened (Err answer.DeviceFault) is = absurd (cc)
drill_opened (Err answer.NoMemory) is = absurd (cc)

-- ---- the words

no_drill : (a b c d e f : Bool) (count seed : ℕ)
    → (if a then Some tasks.New else if b then Some tasks.Run else if c then Some tasks.Import else
    if d then Some tasks.Export else if e then Some tasks.Backup else if f then Some tasks.Restore else None)
    ≡ Some (tasks.Drill count seed) → ⊥
no_drill true b c d e f count seed is = absurd (cc)
no_drill false true c d e f count seed is = absurd (cc)
no_drill false false true d e f count seed is = absurd (cc)
no_drill false false false true e f count seed is = absurd (cc)
no_drill false false false false true f count seed is = absurd (cc)
no_drill false false false false false true count seed is = absurd (cc)
no_drill false false false false false false count seed is = absurd (cc)

not_alone : (a : Bool) (count seed : ℕ)
    → (if a then Some tasks.Try else None) ≡ Some (tasks.Drill count seed) → ⊥
not_alone true count seed is = absurd (cc)
not_alone false count seed is = absurd (cc)

few_of : (some few : Bool) (n given count seed : ℕ) → nat_le n most_lines ≡ few
    → (if some && few then Some (tasks.Drill n given) else None) ≡ Some (tasks.Drill count seed)
    → count ≤ most_lines
few_of true true n given count seed few is =
    let same : n ≡ count = cc in omega (arith, same, leb-true n most_lines few)
few_of true false n given count seed few is = absurd (cc)
few_of false few n given count seed is_few is = absurd (cc)

few_drill : (n given : Option ℕ) (count seed : ℕ) → drill_task n given ≡ Some (tasks.Drill count seed)
    → count ≤ most_lines
few_drill None given count seed is = absurd (cc)
few_drill (Some n) None count seed is = absurd (cc)
few_drill (Some n) (Some given) count seed is = few_of (nat_le 1 n) (nat_le n most_lines) n given count seed refl is

few_named : (named : Bool) (n given : Option ℕ) (count seed : ℕ)
    → (if named then drill_task n given else None) ≡ Some (tasks.Drill count seed) → count ≤ most_lines
few_named true n given count seed is = few_drill n given count seed is
few_named false n given count seed is = absurd (cc)

-- the words ask for no drill of more lines than there may be
pub few_lines : (words : List (List ℕ)) (count seed : ℕ) → task_of words ≡ Some (tasks.Drill count seed)
    → count ≤ most_lines
few_lines [] count seed is = absurd (cc)
few_lines (word ∷ []) count seed is = absurd (not_alone (bytes_eq word (codes "try")) count seed is)
few_lines (word ∷ path ∷ []) count seed is =
    absurd (no_drill (bytes_eq word (codes "new")) (bytes_eq word (codes "run")) (bytes_eq word (codes "import"))
    (bytes_eq word (codes "export")) (bytes_eq word (codes "backup")) (bytes_eq word (codes "restore")) count seed is)
few_lines (word ∷ path ∷ n ∷ []) count seed is = absurd (cc)
few_lines (word ∷ path ∷ n ∷ given ∷ []) count seed is =
    few_named (bytes_eq word (codes "drill")) (number_32_of n) (number_of given) count seed is
few_lines (word ∷ path ∷ n ∷ given ∷ next ∷ words) count seed is = absurd (cc)

-- drills of the same words have the same numbers
pub same_drill : (a b count seed : ℕ) → ◌≡◌ {A = Option Task} (Some (tasks.Drill a b)) (Some (tasks.Drill count seed))
    → (a ≡ count) × (b ≡ seed)
same_drill a b count seed is = (cc, cc)
