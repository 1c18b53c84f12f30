-- An intake from the reading of its input to the reply that is said of it.
use Rattle.std.specs.Prelude.{⊤, ◌≢◌, ◌⊎◌, IfErr, IsSome}
use Rattle.std.specs.Option.{option_map}
use Rattle.std.proofs.Common.{◌≡◌, ◌<◌, ◌+◌, true, false, ℕ, List, [], ◌∷◌, ◌++◌, length, take}
use Rattle.std.proofs.Common.{Some, None, Option, Result, Ok, Err, refl, ap, sym, subst, ◌∙◌, append_assoc, append-nil}
use Rattle.std.proofs.Common.{arith, inl, inr, length-append, ⊎_elim}
use Rattle.std.proofs.lemmas.Option.{MatchOption-at_some, same_Some}
use Rattle.pl_base.specs.Live.{slot_limit}
use Rattle.pl_base.specs.Store.{Store}
use Rattle.pl_base.specs.declared.refusal.Refusal.{Refusal}
use Rattle.pl_desk.proofs.AnyMoment.{CountsNow, OnlyNow, rests_less}
use Rattle.pl_desk.specs.Counts.{CountsAt}
use Rattle.pl_desk.proofs.Moments.{shows_less, started}
use Rattle.pl_desk.proofs.SettlingLaws.{left_settled, shows_then_less}
use Rattle.pl_desk.specs.Settling.{Settles, ShowsThen}
use Rattle.pl_desk.specs.Shown.{ShowsOnly, Unsaid}
use Rattle.pl_desk.specs.declared.desk.Desk.{Ghosts}
use Rattle.pl_intake.specs.Intake.{HoldsNone, HoldsTree, intake_of}
use Rattle.pl_intake.specs.declared.error.IntakeError.{IntakeError}
use Rattle.pl_intake.specs.declared.error.IntakeError.TheVariants as errors
use Rattle.pl_intake.specs.declared.intake.Intake.{Intake}
use Rattle.pl_intake.specs.declared.intake.Intake.TheVariants.{Import, Restore}
use Rattle.pl_nbread.specs.BookmarkFile.{file_limit}
use Rattle.pl_script.specs.Reply.{reply_text}
use Rattle.pl_step.specs.declared.command.Command.{Command}
use Rattle.pl_step.specs.declared.reply.Reply.{Reply}
use Rattle.pl_step.specs.declared.reply.Reply.TheVariants as reply_of
use Rattle.pl_step.specs.Refused.{is_refused}
use Rattle.pl_step.specs.Step.{perform}
use Rattle.pl_store.specs.declared.keeper.Keeper.{Keeper}
use Rattle.pl_store.specs.Keeper.{IsKept, Keeps, is_file, keeper_limit, keeper_store}
use Rattle.pl_store.proofs.KeeperLaws.{kept_keeps, kept_leaves}
use Rattle.pl_store.specs.declared.ended.Ended.{Ended}
use Rattle.pl_store.specs.declared.ended.Ended.TheVariants as ended
use Rattle.pl_store.specs.Ending.{Opens}
use Rattle.pl_store.specs.Session.{Stands, StandsAlike}
use Rattle.places.proofs.AnswerCounts.{rose_at, stood}
use Rattle.places.specs.declared.answer_error.AnswerError.{AnswerError}
use Rattle.places.specs.declared.answer_error.AnswerError.TheVariants as answer
use Rattle.places.specs.declared.status.Status.{Status}
use Rattle.places.specs.declared.status.Status.TheVariants as status
use Rattle.pl_task.specs.declared.task.Task.TheVariants as tasks
use Rattle.pl_task.specs.Task.{input_limit, opens_store}
use Rattle.places.specs.Ending.{EndsTask}
use Rattle.places.specs.Said.{Says, SaysOfAnswer}
use Rattle.places.specs.Serving.{CountsFaults}
use Rattle.places.specs.Status.{answer_status, done_or, intake_status, without_session}
use Rattle.places.specs.Stops.{LeavesOfAnswer, ShowsTaking, ShowsUnopened}
use Rattle.places.specs.TakingIn.{BringsIn, EndsIntake, IsTaken, LeavesRead, LeavesStart, ReadsFront, ShowsIntake}
use Rattle.places.specs.TakingIn.{StopsCommit, StopsIntake, StopsParsing, StopsReading, after_intake, intake_task}
use Rattle.places.specs.TakingIn.{intake_text}

-- ---- reading

-- a piece more was read
pub read_on : (items piece : List ℕ) (first left left' : Option (List ℕ))
    → first ≡ option_map (λ rest. items ++ rest) left → left ≡ option_map (λ rest. piece ++ rest) left'
    → first ≡ option_map (λ rest. (items ++ piece) ++ rest) left'
read_on items piece first left None so_far taken = rw taken at so_far
read_on items piece first left (Some rest) so_far taken =
    rw taken at so_far ∙ ap Some (sym (append_assoc items piece rest))

-- what was read is a front of the input
pub read_front : (HasLength : ℕ → Type 0) (items bytes : List ℕ) (first left : Option (List ℕ))
    → first ≡ option_map (λ rest. items ++ rest) left → first ≡ Some bytes → HasLength (length items)
    → ReadsFront HasLength bytes left
read_front HasLength items bytes first None so_far told long = absurd (cc)
read_front HasLength items bytes first (Some rest) so_far told long =
    record { read = items; rest = rest; order = cc; rest_left = refl; length = long }

-- and so it is with the next piece
pub read_more : (HasLength : ℕ → Type 0) (items piece bytes : List ℕ) (first left left' : Option (List ℕ))
    → first ≡ option_map (λ rest. items ++ rest) left → left ≡ option_map (λ rest. piece ++ rest) left'
    → first ≡ Some bytes → HasLength (length items + length piece) → ReadsFront HasLength bytes left'
read_more HasLength items piece bytes first left left' so_far taken told long =
    read_front HasLength (items ++ piece) bytes first left' (read_on items piece first left left' so_far taken) told
    (subst HasLength (sym (length-append items piece)) long)

-- an end by its status
ends_as : {D : Type 0} (desk : Ghosts D) (intake : Intake) (first : D) (start : Store) (bytes before : List ℕ)
    (left : Option (List ℕ)) (now : D) {t s : Status} → t ≡ s
    → EndsIntake desk intake t first start bytes before left now
    → EndsIntake desk intake s first start bytes before left now
ends_as desk intake first start bytes before left now is ends =
    subst (λ (u : Status). EndsIntake desk intake u first start bytes before left now) is ends

-- a reading that stopped, beside a file that holds the store before
pub ends_read : {D : Type 0} (desk : Ghosts D) (intake : Intake) (s : Status) (first : D) (start : Store)
    (bytes before : List ℕ) (left : Option (List ℕ)) (now : D) → LeavesRead s bytes left
    → LeavesStart desk first start before now → EndsIntake desk intake s first start bytes before left now
ends_read desk intake s first start bytes before left now leaves stays =
    ⊎_elim (λ below. ⊎_elim
    (λ fault. ends_as desk intake first start bytes before left now (sym fault) (below.1, stays))
    (λ memory. ends_as desk intake first start bytes before left now (sym memory) (below.1, stays)) below.0)
    (λ full. ends_as desk intake first start bytes before left now (sym full.0) (refl, full.1, stays)) leaves

-- bytes that were read whole, and hold no tree, or one that there was no memory for
pub ends_parsing : {D : Type 0} (desk : Ghosts D) (intake : Intake) (s : Status) (first : D) (start : Store)
    (items bytes before : List ℕ) (left : Option (List ℕ)) (now : D) → StopsParsing intake items s
    → (items ≡ bytes) × (left ≡ Some []) → length items < file_limit → LeavesStart desk first start before now
    → EndsIntake desk intake s first start bytes before left now
ends_parsing {D} desk intake s first start items bytes before left now stops whole short stays =
    ends_as desk intake first start bytes before left now (sym stops.1) (by_error stops.0 stops.2)
  where
    by_error : (error : IntakeError) → HoldsNone intake items error
        → EndsIntake desk intake (intake_status error) first start bytes before left now
    by_error (errors.NotBookmarks at) none =
        (none.0, rw whole.0 at none.1, (whole.1, rw whole.0 at short, stays))
    by_error (errors.NotBackup fault) none =
        (none.0, rw whole.0 at none.1, (whole.1, rw whole.0 at short, stays))
    by_error errors.NoMemory none = (
      record {
        read = bytes;
        rest = [];
        order = sym (append-nil bytes);
        rest_left = whole.1;
        length = rw whole.0 at short;
      },
      stays,
    )

-- the command of what they hold
pub brings_in : (intake : Intake) (command : Command) (items bytes : List ℕ) → items ≡ bytes
    → command ≡ intake_of intake items → HoldsTree intake items → length items < file_limit
    → BringsIn intake command bytes
brings_in intake command items bytes whole is holds short = record {
  is = is ∙ ap (λ (b : List ℕ). intake_of intake b) whole;
  short = rw whole at short;
  holds = subst (HoldsTree intake) whole holds;
}

-- ---- a reply that is no refusal

pub not_refused : (reply : Reply) → ((refusal : Refusal) → reply ≡ reply_of.Refused refusal → ⊥)
    → is_refused reply ≡ false
not_refused (reply_of.Day day changed) none = refl
not_refused (reply_of.Visit visit page frecency) none = refl
not_refused reply_of.Done none = refl
not_refused (reply_of.Page id frecency count last typed hidden bookmarked url title tags) none = refl
not_refused (reply_of.Origin prefix host reversed total pages passes) none = refl
not_refused (reply_of.Stats pages visits items origins sum slots) none = refl
not_refused (reply_of.Removed visits pages) none = refl
not_refused (reply_of.Item id) none = refl
not_refused (reply_of.List rows) none = refl
not_refused (reply_of.Rows rows) none = refl
not_refused (reply_of.Place text) none = refl
not_refused (reply_of.Bar rows) none = refl
not_refused (reply_of.Fill group total) none = refl
not_refused reply_of.NoFill none = refl
not_refused (reply_of.Imported items tags skipped) none = refl
not_refused (reply_of.Restored items tags skipped) none = refl
not_refused (reply_of.Refused refusal) none = absurd (none refusal refl)

-- ---- the commit

module _ {D : Type 0} (desk : Ghosts D) where
  -- nothing was said, and the file holds the store before
  pub stays : (keeper : Keeper) (first now : D) (before : List ℕ) → is_file keeper ≡ true
      → desk.said now ≡ Some before → IsKept desk keeper first now
      → LeavesStart desk first (keeper_store keeper) before now
  stays keeper first now before file unsaid kept =
      (unsaid, rw file at (kept_keeps desk keeper first now kept))

module _ {D : Type 0} (desk : Ghosts D) (intake : Intake) where
  -- before the first call
  pub shows_begun : OnlyNow desk → (keeper : Keeper) (first now : D) (bytes before : List ℕ) → is_file keeper ≡ true
      → desk.said now ≡ Some before → IsKept desk keeper first now
      → ShowsOnly desk now now (ShowsIntake desk intake (keeper_store keeper) bytes before)
  shows_begun only_now keeper first now bytes before file unsaid kept =
      started desk now (ShowsIntake desk intake (keeper_store keeper) bytes before)
      (λ shown line is_shown. let here = only_now now before shown line unsaid is_shown in
      inl (here.1, rw file at (kept_leaves desk keeper first now kept shown here.0)))

  -- nothing was done, for want of memory
  pub ends_unprepared : (keeper : Keeper) (command : Command) (bytes before : List ℕ) (first now : D)
      → is_file keeper ≡ true → BringsIn intake command bytes → desk.said now ≡ Some before → IsKept desk keeper first now
      → EndsIntake desk intake status.NoMemory first (keeper_store keeper) bytes before (Some []) now
  ends_unprepared keeper command bytes before first now file brings unsaid kept = (
    record {
      read = bytes;
      rest = [];
      order = sym (append-nil bytes);
      rest_left = refl;
      length = brings.short;
    },
    stays desk keeper first now before file unsaid kept,
  )

  module _ (keeper : Keeper) (command : Command) (bytes before : List ℕ) (first old new : D) (reply : Reply)
      (next : Store) (limit : keeper_limit keeper ≡ slot_limit) (file : is_file keeper ≡ true)
      (brings : BringsIn intake command bytes) (unsaid : desk.said old ≡ Some before)
      (step : (reply, next) ≡ perform (keeper_limit keeper) (keeper_store keeper) command) where
    is_step : (reply, next) ≡ perform slot_limit (keeper_store keeper) (intake_of intake bytes)
    is_step = step ∙ ap (λ (l : ℕ). perform l (keeper_store keeper) command) limit
        ∙ ap (λ (c : Command). perform slot_limit (keeper_store keeper) c) brings.is

    is_reply : reply ≡ (perform slot_limit (keeper_store keeper) (intake_of intake bytes)).0
    is_reply = ap (λ (d : Reply × Store). d.0) is_step

    is_next : next ≡ after_intake intake (keeper_store keeper) bytes
    is_next = ap (λ (d : Reply × Store). d.1) is_step

    is_taken : is_refused reply ≡ false → IsTaken intake (keeper_store keeper) bytes
    is_taken allowed = record {
      short = brings.short;
      holds = brings.holds;
      allowed = sym (ap (λ (r : Reply). is_refused r) is_reply) ∙ allowed;
    }

    -- it is refused
    pub ends_refused : (refusal : Refusal) → reply ≡ reply_of.Refused refusal → IsKept desk keeper first old
        → EndsIntake desk intake (status.ImportRefused refusal) first (keeper_store keeper) bytes before (Some []) old
    ends_refused refusal is kept =
        (brings.holds, sym is_reply ∙ is, (refl, brings.short, stays desk keeper first old before file unsaid kept))

    -- the reply was said
    pub ends_said : is_refused reply ≡ false → Says (desk.said old) (reply_text reply) (desk.said new)
        → Keeps desk true first next new
        → EndsIntake desk intake status.Done first (keeper_store keeper) bytes before (Some []) new
    ends_said allowed says keeps = (
      (is_taken allowed, refl),
      rw (unsaid, is_reply) at says,
      subst (λ (s : Store). Keeps desk true first s new) is_next keeps,
    )

    -- what the reply says is what is said of the command
    is_text : reply_text reply ≡ intake_text intake (keeper_store keeper) bytes
    is_text = ap (λ (r : Reply). reply_text r) is_reply

    -- the reply was not said whole, or the file failed, or there was no memory for it
    pub ends_failed : (e : AnswerError) → is_refused reply ≡ false
        → SaysOfAnswer e (reply ∷ []) (desk.said old) (desk.said new)
        → LeavesOfAnswer desk e (is_file keeper) first (keeper_store keeper) next new
        → EndsIntake desk intake (answer_status e) first (keeper_store keeper) bytes before (Some []) new
    ends_failed answer.SayFault allowed says leaves =
        let whole = append-nil (reply_text reply) ∙ is_text in (
          (is_taken allowed, refl),
          (says.0, rw whole at says.1, rw (unsaid, whole) at says.2),
          rw (file, is_next) at leaves,
        )
    ends_failed answer.DeviceFault allowed says leaves =
        inr (inr ((is_taken allowed, refl), says ∙ unsaid, rw (file, is_next) at leaves))
    ends_failed answer.NoMemory allowed says leaves = (
      record {
        read = bytes;
        rest = [];
        order = sym (append-nil bytes);
        rest_left = refl;
        length = brings.short;
      },
      (says ∙ unsaid, rw file at leaves),
    )

    -- what a stop shows while it is taken
    pub shows_taking : is_refused reply ≡ false
        → ShowsOnly desk old new (ShowsTaking desk (is_file keeper) first (keeper_store keeper) next (reply_text reply)
        before)
        → ShowsOnly desk old new (ShowsIntake desk intake (keeper_store keeper) bytes before)
    shows_taking allowed shows =
        shows_less desk old new
        (ShowsTaking desk (is_file keeper) first (keeper_store keeper) next (reply_text reply) before)
        (ShowsIntake desk intake (keeper_store keeper) bytes before) shows
        (λ shown line has.
        ⊎_elim (λ taken. inr (
          is_taken allowed,
          rw (file, is_next) at taken,
          (has.part, has.said ∙ ap (λ (t : List ℕ). before ++ take has.part t) is_text),
        ))
        (λ stands. inl (
          has.said ∙ ap (λ (n : ℕ). before ++ take n (reply_text reply)) stands.0 ∙ append-nil before,
          rw file at stands.1,
        )) has.leaves)

-- ---- the opening

module _ {D : Type 0} (desk : Ghosts D) (intake : Intake) where
  -- until the file is settled nothing is brought in, and from then on nothing yet
  pub shows_opened : {Fault Fault' : Type 0} (file : List ℕ) (start : Store) (bytes before : List ℕ) (old new : D)
      → Stands file start → desk.said old ≡ Some before → Settles desk Fault old new (StandsAlike file)
      → (Fault → Fault')
      → ShowsThen desk Fault' old new (ShowsUnopened desk old before) (ShowsIntake desk intake start bytes before)
  shows_opened file start bytes before old new stands is settles fault =
      shows_then_less desk old new (Unsaid desk old (desk.may_leave old)) (Unsaid desk old (StandsAlike file))
      (ShowsUnopened desk old before) (ShowsIntake desk intake start bytes before) settles fault
      (λ later line shows. (shows.0, sym (same_Some before line (sym is ∙ shows.1))))
      (λ later line shows. inl (sym (same_Some before line (sym is ∙ shows.1)), (shows.0 start).0 stands))

  -- what an opening leaves that ends with no store
  pub ends_unopened : {Fault : Type 0} (e : Ended) (s : Status) (file : List ℕ) (start : Store) (bytes before : List ℕ)
      (left : Option (List ℕ)) (old new : D)
      → CountsNow desk → s ≡ without_session e → desk.held old ≡ Some file → Opens desk slot_limit (Err e) old new
      → Stands file start → left ≡ Some bytes → desk.said new ≡ desk.said old → desk.said old ≡ Some before
      → Settles desk Fault old new (StandsAlike file) → EndsIntake desk intake s old start bytes before left new
  ends_unopened ended.DeviceFault s file start bytes before left old new counts_now is held opens stands told kept begun
      settles =
      subst (λ (t : Status). EndsIntake desk intake t old start bytes before left new) (sym is)
      (⊎_elim (λ open_. inl (record { unread = told; unsaid = kept ∙ begun; as_before = open_ }))
      (λ settled. inr (inl (record {
        unread = told;
        unsaid = kept ∙ begun;
        stands = λ later is_left. (settled later is_left start).0 stands;
      }))) (left_settled desk counts_now old new (StandsAlike file) before (kept ∙ begun) settles))
  ends_unopened ended.NoMemory s file start bytes before left old new counts_now is held opens stands told kept begun
      settles =
      subst (λ (t : Status). EndsIntake desk intake t old start bytes before left new) (sym is) (
        record { read = []; rest = bytes; order = refl; rest_left = told; length = omega arith },
        (
          kept ∙ begun,
          rests_less desk new (StandsAlike file) (λ later. Stands later start) (opens file held)
              (λ later alike. (alike start).0 stands),
        ),
      )
  ends_unopened ended.NotAStore s file start bytes before left old new counts_now is held opens stands told kept begun
      settles =
      absurd (MatchOption-at_some _ _ file held opens.was_none start stands)
  ends_unopened (ended.NotEmpty n) s file start bytes before left old new counts_now is held opens stands told kept
      begun settles =
      absurd opens

-- ---- statuses

-- an answer that failed ends the commit, and is the fault that it was
pub answer_stops : (e : AnswerError) → StopsCommit (answer_status e)
answer_stops answer.SayFault = inr (inl refl)
answer_stops answer.DeviceFault = inr (inr (inl refl))
answer_stops answer.NoMemory = inl refl

-- the commit reads nothing
pub reads_none : (end : Result ⊤ Status) → IfErr end StopsCommit → end ≡ Err status.ReadFault → ⊥
reads_none (Ok done) stops is = absurd (cc)
reads_none (Err s) stops is =
    let at_read : s ≡ status.ReadFault = cc in
    ⊎_elim (λ memory. absurd (cc)) (⊎_elim (λ said. absurd (cc)) (⊎_elim (λ device. absurd (cc))
    (λ refused. absurd (cc)))) (subst StopsCommit at_read stops)

-- an answer's fault is counted as the commit's
pub says_as : {X Y : Type 0} (e : AnswerError) (before after : ℕ)
    → CountsAt (◌≡◌ {A = Result X AnswerError} (Err e) (Err answer.SayFault)) before after
    → CountsAt (◌≡◌ {A = Result Y Status} (Err (answer_status e)) (Err status.SayFault)) before after
says_as answer.SayFault before after counted = rose_at before after refl counted.no_less (counted.rose refl)
says_as answer.DeviceFault before after counted =
    stood before after (λ same. absurd (cc)) (counted.stands (λ same. absurd (cc)))
says_as answer.NoMemory before after counted =
    stood before after (λ same. absurd (cc)) (counted.stands (λ same. absurd (cc)))

pub device_as : {X Y : Type 0} (e : AnswerError) (before after : ℕ)
    → CountsAt (◌≡◌ {A = Result X AnswerError} (Err e) (Err answer.DeviceFault)) before after
    → CountsAt (◌≡◌ {A = Result Y Status} (Err (answer_status e)) (Err status.DeviceFault)) before after
device_as answer.SayFault before after counted =
    stood before after (λ same. absurd (cc)) (counted.stands (λ same. absurd (cc)))
device_as answer.DeviceFault before after counted = rose_at before after refl counted.no_less (counted.rose refl)
device_as answer.NoMemory before after counted =
    stood before after (λ same. absurd (cc)) (counted.stands (λ same. absurd (cc)))

-- bytes that hold no tree are no fault of the outside
pub no_read : {X : Type 0} (error : IntakeError)
    → ◌≡◌ {A = Result X Status} (Err (intake_status error)) (Err status.ReadFault) → ⊥
no_read (errors.NotBookmarks at) same = absurd (cc)
no_read (errors.NotBackup fault) same = absurd (cc)
no_read errors.NoMemory same = absurd (cc)

no_say : {X : Type 0} (error : IntakeError)
    → ◌≡◌ {A = Result X Status} (Err (intake_status error)) (Err status.SayFault) → ⊥
no_say (errors.NotBookmarks at) same = absurd (cc)
no_say (errors.NotBackup fault) same = absurd (cc)
no_say errors.NoMemory same = absurd (cc)

no_call : {X : Type 0} (error : IntakeError)
    → ◌≡◌ {A = Result X Status} (Err (intake_status error)) (Err status.DeviceFault) → ⊥
no_call (errors.NotBookmarks at) same = absurd (cc)
no_call (errors.NotBackup fault) same = absurd (cc)
no_call errors.NoMemory same = absurd (cc)

pub none_counted : {D X : Type 0} (desk : Ghosts D) (error : IntakeError) (now : D)
    → CountsFaults desk (◌≡◌ {A = Result X Status} (Err (intake_status error)) (Err status.SayFault))
    (◌≡◌ {A = Result X Status} (Err (intake_status error)) (Err status.DeviceFault)) now now
none_counted desk error now = record {
  says = stood (desk.line_faults now) (desk.line_faults now) (no_say error) refl;
  device = stood (desk.device_faults now) (desk.device_faults now) (no_call error) refl;
}

-- what a task of either kind may do
pub opens : (intake : Intake) → opens_store (intake_task intake) ≡ true
opens Import = refl
opens Restore = refl

limited : (intake : Intake) → input_limit (intake_task intake) ≡ Some file_limit
limited Import = refl
limited Restore = refl

reads : (intake : Intake) → IsSome (input_limit (intake_task intake))
reads Import = refl
reads Restore = refl

has_file : (intake : Intake) → intake_task intake ≢ tasks.Try
has_file Import same = absurd (cc)
has_file Restore same = absurd (cc)

of_two : (intake : Intake) → (intake_task intake ≡ tasks.Import) ⊎ (intake_task intake ≡ tasks.Restore)
of_two Import = inl refl
of_two Restore = inr refl

-- the task may end so, and not as a file that is no store
abbrev MayStop : Intake → Status → Type 0
MayStop intake s = EndsTask (intake_task intake) s × (s ≡ status.NotAStore → ⊥)

-- how an intake may stop
some_intake : (intake : Intake) (s : Status) → StopsIntake intake s → MayStop intake s
some_intake intake s stops = ⊎_elim reading (⊎_elim parsing commit) stops
  where
    turned : {t : Status} → t ≡ s → MayStop intake t → MayStop intake s
    turned {t} is may = subst (MayStop intake) is may

    reading : StopsReading s → MayStop intake s
    reading =
        ⊎_elim (λ is. turned (sym is) (reads intake, λ same. absurd (cc)))
        (⊎_elim (λ is. turned (sym is) (tt, λ same. absurd (cc)))
        (λ is. turned (sym is) (limited intake, λ same. absurd (cc))))

    by_error : (error : IntakeError) (bytes : List ℕ) → HoldsNone intake bytes error
        → MayStop intake (intake_status error)
    by_error (errors.NotBookmarks at) bytes none = (ap intake_task none.0, λ same. absurd (cc))
    by_error (errors.NotBackup fault) bytes none = (ap intake_task none.0, λ same. absurd (cc))
    by_error errors.NoMemory bytes none = (tt, λ same. absurd (cc))

    parsing : (bytes : List ℕ) × StopsParsing intake bytes s → MayStop intake s
    parsing none = turned (sym none.1.1) (by_error none.1.0 none.0 none.1.2)

    commit : StopsCommit s → MayStop intake s
    commit =
        ⊎_elim (λ is. turned (sym is) (tt, λ same. absurd (cc)))
        (⊎_elim (λ is. turned (sym is) (tt, λ same. absurd (cc)))
        (⊎_elim (λ is. turned (sym is) (has_file intake, λ same. absurd (cc)))
        (λ refused. turned (sym refused.1) ((of_two intake, refused.2), λ same. absurd (cc)))))

-- the run of an intake may end so, and never as a file that is no store
pub intake_may_end : (intake : Intake) (end : Result ⊤ Status) → IfErr end (StopsIntake intake)
    → EndsTask (intake_task intake) (done_or end)
intake_may_end intake (Ok done) stops = tt
intake_may_end intake (Err s) stops = (some_intake intake s stops).0

pub intake_opened : (intake : Intake) (end : Result ⊤ Status) → IfErr end (StopsIntake intake)
    → done_or end ≡ status.NotAStore → ⊥
intake_opened intake (Ok done) stops is = absurd (cc)
intake_opened intake (Err s) stops is = (some_intake intake s stops).1 is
