-- The ends of a run by its status, and the runs that have no store to begin with.
use Rattle.std.specs.Prelude.{⊤, IsSome, IsTrue}
use Rattle.std.proofs.Common.{◌≡◌, ◌≢◌, ◌≤◌, ◌<◌, Bool, true, false, ℕ, List, [], ◌∷◌, ◌++◌, append_assoc, take}
use Rattle.std.proofs.Common.{length, arith, Some, Option, Result, Ok, Err, refl, ap, sym}
use Rattle.std.proofs.Common.{subst, ◌∙◌, append-nil, inl, inr, ⊎_elim}
use Rattle.std.proofs.lemmas.Bool.{true≢false}
use Rattle.std.proofs.lemmas.Option.{MatchOption-at_some, same_Some}
use Rattle.pl_base.specs.Store.{Store, opening}
use Rattle.pl_base.specs.Live.{slot_limit}
use Rattle.pl_desk.proofs.Moments.{started}
use Rattle.pl_desk.specs.Settling.{Settles, ShowsThen}
use Rattle.pl_desk.specs.declared.desk.Desk.{Ghosts}
use Rattle.pl_desk.specs.Shown.{ShowsOnly, Unsaid}
use Rattle.pl_desk.proofs.AnyMoment.{CountsNow, OnlyNow, rests_less}
use Rattle.pl_desk.proofs.SettlingLaws.{left_settled, shows_then_less}
use Rattle.pl_step.specs.declared.command.Command.{Command}
use Rattle.pl_step.specs.Parsed.{Parsed}
use Rattle.pl_step.specs.Run.{replies, after}
use Rattle.pl_step.specs.Step.{step}
use Rattle.pl_store.specs.declared.ended.Ended.{Ended}
use Rattle.pl_store.specs.declared.ended.Ended.TheVariants as ended
use Rattle.pl_store.specs.Session.{Stands, StandsAlike}
use Rattle.pl_store.specs.Keeper.{Keeps}
use Rattle.pl_store.specs.Ending.{Opens}
use Rattle.pl_script.specs.Reply.{reply_text}
use Rattle.places.specs.declared.answer_error.AnswerError.{AnswerError}
use Rattle.places.specs.declared.answer_error.AnswerError.TheVariants as answer
use Rattle.places.specs.declared.status.Status.{Status}
use Rattle.places.specs.declared.status.Status.TheVariants as status
use Rattle.places.specs.declared.stop.Stop.{Stop}
use Rattle.places.specs.declared.stop.Stop.TheVariants as stop
use Rattle.pl_task.specs.declared.task.Task.{Task}
use Rattle.pl_task.specs.declared.task.Task.TheVariants as tasks
use Rattle.places.specs.Ending.{BeginsWith, EndsScript, EndsTask, IsHeld, LeavesAtEnd, LeavesWithin, SaysFront}
use Rattle.pl_task.specs.Task.{script_limit}
use Rattle.places.specs.Progress.{HasRead, entries_read}
use Rattle.places.specs.Said.{Says, SaysOfAnswer, SaysPart, SaysUntil, SaysWhole, texts}
use Rattle.places.specs.Status.{EndsAs, without_session}
use Rattle.places.specs.Stops.{LeavesAtEntry, LeavesOfAnswer, ShowsAnswered, ShowsUnopened}
use Rattle.pl_task.specs.Task.{input_limit, opens_store}
use Rattle.places.proofs.ProgressLemmas.{replies-append}
use Rattle.places.proofs.StopLemmas.{shows_nothing}

-- ---- a script that was run

says_part : (start : Store) (answered next more entries : List (Parsed Command)) (before : List ℕ)
    (said : Option (List ℕ)) (n : ℕ) → entries ≡ answered ++ (next ++ more) → length next ≤ 1
    → n < length (texts (replies slot_limit (after slot_limit start answered) next))
    → Says (Some (before ++ texts (replies slot_limit start answered)))
    (take n (texts (replies slot_limit (after slot_limit start answered) next))) said
    → (piece : List ℕ) × (said ≡ Some (before ++ piece)) × SaysPart (replies slot_limit start entries) piece
says_part start answered [] more entries before said n order one below text = absurd (omega arith)
says_part start answered (e ∷ []) more entries before said n order one below text =
    let reply = (step slot_limit (after slot_limit start answered) e).0 in
    let whole : texts (reply ∷ []) ≡ reply_text reply = append-nil (reply_text reply) in (
      texts (replies slot_limit start answered) ++ take n (reply_text reply),
      rw whole at text ∙ ap Some
          (append_assoc before (texts (replies slot_limit start answered)) (take n (reply_text reply))),
      record {
        answered = replies slot_limit start answered;
        next = reply;
        more = replies slot_limit (step slot_limit (after slot_limit start answered) e).1 more;
        part = n;
        order = ap (replies slot_limit start) order ∙ replies-append start answered (e ∷ more);
        proper = rw whole at below;
        text = refl;
      },
    )
says_part start answered (e ∷ f ∷ next) more entries before said n order one below text = absurd (omega (arith, one))

says_whole : (start : Store) (answered more entries : List (Parsed Command)) → entries ≡ answered ++ more
    → SaysWhole (replies slot_limit start entries) (texts (replies slot_limit start answered))
says_whole start answered more entries order = record {
  answered = replies slot_limit start answered;
  more = replies slot_limit (after slot_limit start answered) more;
  order = ap (replies slot_limit start) order ∙ replies-append start answered more;
  text = refl;
}

-- a run that stopped within what was read, and what it had said
front_of : {D : Type 0} (desk : Ghosts D) (error : AnswerError) (kind : Bool) (first : D) (start : Store)
    (bytes before : List ℕ) (left : Option (List ℕ)) (now : D)
    (within : LeavesWithin desk error kind first start bytes before left now) (piece : List ℕ)
    → desk.said now ≡ Some (before ++ piece)
    → SaysUntil error (replies slot_limit start (entries_read within.read within.rest)) piece
    → SaysFront error start bytes before left (desk.said now)
front_of desk error kind first start bytes before left now within piece said until = record {
  read = within.read;
  rest = within.rest;
  has_read = within.has_read;
  piece = piece;
  front_said = said;
  until = until;
}

says_front : {D : Type 0} (desk : Ghosts D) (error : AnswerError) (kind : Bool) (first : D) (start : Store)
    (bytes before : List ℕ) (left : Option (List ℕ)) (now : D)
    → LeavesWithin desk error kind first start bytes before left now
    → SaysFront error start bytes before left (desk.said now)
says_front desk error kind first start bytes before left now within = at error within
  where
    at : (e : AnswerError) → LeavesWithin desk e kind first start bytes before left now
        → SaysFront e start bytes before left (desk.said now)
    at answer.SayFault within' =
        let leaves = within'.leaves in
        let part =
        says_part start leaves.answered leaves.next leaves.more (entries_read within'.read within'.rest) before
        (desk.said now) leaves.text.0 leaves.order leaves.one leaves.text.1 leaves.text.2 in
        front_of desk answer.SayFault kind first start bytes before left now within' part.0 part.1 part.2
    at answer.DeviceFault within' = front_of desk answer.DeviceFault kind first start bytes before left now within'
        (texts (replies slot_limit start within'.leaves.answered)) within'.leaves.text
        (says_whole start within'.leaves.answered (within'.leaves.next ++ within'.leaves.more) _ within'.leaves.order)
    at answer.NoMemory within' = front_of desk answer.NoMemory kind first start bytes before left now within'
        (texts (replies slot_limit start within'.leaves.answered)) within'.leaves.text
        (says_whole start within'.leaves.answered (within'.leaves.next ++ within'.leaves.more) _ within'.leaves.order)

-- nothing was read yet
unread : (bytes : List ℕ) (left : Option (List ℕ)) → left ≡ Some bytes → HasRead bytes [] bytes left
unread bytes left told = record { order = refl; rest_left = told; in_limit = omega arith }

-- nothing was said yet
says_nothing : (error : AnswerError) (start : Store) (bytes before : List ℕ) (left said : Option (List ℕ))
    → left ≡ Some bytes → said ≡ Some before → SaysUntil error (replies slot_limit start (entries_read [] bytes)) []
    → SaysFront error start bytes before left said
says_nothing error start bytes before left said told unsaid until = record {
  read = [];
  rest = bytes;
  has_read = unread bytes left told;
  piece = [];
  front_said = unsaid ∙ ap Some (sym (append-nil before));
  until = until;
}

-- what was said at the end, of what is left then
pub says_at_end : {D : Type 0} (desk : Ghosts D) (s : Status) (kind : Bool) (first : D) (start : Store)
    (bytes before : List ℕ) (left : Option (List ℕ)) (now : D)
    → LeavesAtEnd desk s kind first start bytes before left now → EndsScript s start bytes before left (desk.said now)
says_at_end desk status.Done kind first start bytes before left now leaves = leaves.0
says_at_end desk status.Usage kind first start bytes before left now leaves = leaves
says_at_end desk status.ReadFault kind first start bytes before left now leaves = (leaves.says, leaves.read)
says_at_end desk status.SayFault kind first start bytes before left now leaves =
    says_front desk answer.SayFault kind first start bytes before left now leaves
says_at_end desk status.DeviceFault kind first start bytes before left now (inl leaves) =
    says_nothing answer.DeviceFault start bytes before left (desk.said now) leaves.unread leaves.unsaid
    (says_whole start [] (entries_read [] bytes) (entries_read [] bytes) refl)
says_at_end desk status.DeviceFault kind first start bytes before left now (inr leaves) =
    says_front desk answer.DeviceFault kind first start bytes before left now leaves
says_at_end desk status.NoMemory kind first start bytes before left now leaves =
    says_front desk answer.NoMemory kind first start bytes before left now leaves
says_at_end desk status.NotAStore kind first start bytes before left now leaves = leaves
says_at_end desk (status.NotEmpty len) kind first start bytes before left now leaves = leaves
says_at_end desk (status.NotBookmarks at) kind first start bytes before left now leaves = leaves
says_at_end desk (status.ImportRefused refusal) kind first start bytes before left now leaves = leaves
says_at_end desk (status.NotBackup fault) kind first start bytes before left now leaves = leaves
says_at_end desk (status.TooLong limit) kind first start bytes before left now leaves = (leaves.says, leaves.read)

-- a script's run, of a task that reads a script; where the file fails the task is not `try`
pub script_may_end : (task : Task) (end : Result ⊤ Stop) (s : Status) → input_limit task ≡ Some script_limit
    → (end ≡ Err stop.DeviceFault → task ≢ tasks.Try) → EndsAs end s → EndsTask task s
script_may_end task (Ok done) s reads in_file is = subst (EndsTask task) (sym is) tt
script_may_end task (Err stop.ReadFault) s reads in_file is =
    subst (EndsTask task) (sym is) (subst IsSome (sym reads) refl)
script_may_end task (Err stop.SayFault) s reads in_file is = subst (EndsTask task) (sym is) tt
script_may_end task (Err stop.DeviceFault) s reads in_file is = subst (EndsTask task) (sym is) (in_file refl)
script_may_end task (Err stop.NoMemory) s reads in_file is = subst (EndsTask task) (sym is) tt
script_may_end task (Err stop.TooLong) s reads in_file is = subst (EndsTask task) (sym is) reads

-- a store that was opened is no fault of the device, and such a fault is told by the status
pub no_fault : {T : Type 0} (opened : T) → ◌≡◌ {A = Result T Ended} (Ok opened) (Err ended.DeviceFault) → ⊥
no_fault opened is = absurd (cc)

pub fault_told : {T : Type 0} (e : Ended) (s : Status) → s ≡ without_session e
    → ◌≡◌ {A = Result T Ended} (Err e) (Err ended.DeviceFault) → s ≡ status.DeviceFault
fault_told e s is fault = let same : e ≡ ended.DeviceFault = cc in is ∙ ap without_session same

pub no_refusal : (end : Result ⊤ Stop) (s : Status) → EndsAs end s → s ≡ status.NotAStore → ⊥
no_refusal (Ok done) s is at = absurd (cc)
no_refusal (Err stop.ReadFault) s is at = absurd (cc)
no_refusal (Err stop.SayFault) s is at = absurd (cc)
no_refusal (Err stop.DeviceFault) s is at = absurd (cc)
no_refusal (Err stop.NoMemory) s is at = absurd (cc)
no_refusal (Err stop.TooLong) s is at = absurd (cc)

-- an opening that ends without a store, of a task that opens one
pub opening_may_end : (task : Task) → IsTrue (opens_store task)
    → {D : Type 0} (desk : Ghosts D) (limit : ℕ) (e : Ended) (s : Status) (old new : D) → s ≡ without_session e
    → Opens desk limit (Err e) old new → EndsTask task s
opening_may_end task asked desk limit ended.DeviceFault s old new is opens =
    subst (EndsTask task) (sym is) (λ memory. true≢false (sym asked ∙ ap opens_store memory))
opening_may_end task asked desk limit ended.NoMemory s old new is opens = subst (EndsTask task) (sym is) tt
opening_may_end task asked desk limit ended.NotAStore s old new is opens = subst (EndsTask task) (sym is) asked
opening_may_end task asked desk limit (ended.NotEmpty n) s old new is opens = absurd opens

-- ---- no store to begin with

-- no entry was answered
nothing_done : {D : Type 0} (desk : Ghosts D) (error : AnswerError) (kind : Bool) (first : D) (start : Store)
    (entries : List (Parsed Command)) (before : List ℕ) (now : D)
    → SaysOfAnswer error [] (Some (before ++ [])) (desk.said now) → LeavesOfAnswer desk error kind first start start now
    → LeavesAtEntry desk error kind first slot_limit start entries before now
nothing_done desk error kind first start entries before now says leaves = record {
  answered = [];
  next = [];
  more = entries;
  order = refl;
  one = omega arith;
  text = says;
  file = leaves;
}

-- nothing was read or said, for want of memory
pub ends_unread : {D : Type 0} (desk : Ghosts D) (kind : Bool) (first : D) (start : Store) (bytes before : List ℕ)
    (left : Option (List ℕ)) (now : D) → left ≡ Some bytes → desk.said now ≡ Some before
    → Keeps desk kind first start now
    → LeavesAtEnd desk status.NoMemory kind first start bytes before left now
ends_unread desk kind first start bytes before left now told unsaid keeps = record {
  read = [];
  rest = bytes;
  has_read = unread bytes left told;
  leaves =
      nothing_done desk answer.NoMemory kind first start (entries_read [] bytes) before now
      (unsaid ∙ ap Some (sym (append-nil before))) keeps;
}

-- ---- what a stop shows of an opening, and what is left of it

module _ {D : Type 0} (desk : Ghosts D) where
  -- in memory, before any call
  pub shows_unrun : OnlyNow desk → (now : D) (start : Store) (entries : List (Parsed Command)) (before : List ℕ)
      → desk.said now ≡ Some before
      → ShowsOnly desk now now (ShowsAnswered desk false now slot_limit start entries before)
  shows_unrun only_now now start entries before is =
      started desk now (ShowsAnswered desk false now slot_limit start entries before) (λ file line shown.
      let here = only_now now before file line is shown in
      subst (λ (l : List ℕ). ShowsAnswered desk false now slot_limit start entries before file l) (sym here.1)
      (shows_nothing desk false now start entries before file here.0))

  -- until the file is settled nothing is answered, and from then on nothing yet
  pub shows_opening : {Fault Fault' : Type 0} (first : D) (file : List ℕ) (start : Store)
      (entries : List (Parsed Command)) (before : List ℕ) (old new : D)
      → Stands file start → desk.said old ≡ Some before → Settles desk Fault old new (StandsAlike file)
      → (Fault → Fault')
      → ShowsThen desk Fault' old new (ShowsUnopened desk old before)
      (ShowsAnswered desk true first slot_limit start entries before)
  shows_opening first file start entries before old new stands is settles fault =
      shows_then_less desk old new (Unsaid desk old (desk.may_leave old)) (Unsaid desk old (StandsAlike file))
      (ShowsUnopened desk old before) (ShowsAnswered desk true first slot_limit start entries before) settles fault
      (λ later line shows. (shows.0, sym (same_Some before line (sym is ∙ shows.1))))
      (λ later line shows. subst (λ (l : List ℕ). ShowsAnswered desk true first slot_limit start entries before later l)
      (same_Some before line (sym is ∙ shows.1))
      (shows_nothing desk true first start entries before later ((shows.0 start).0 stands)))

  -- what an opening leaves that ends with no store
  pub ends_without : {Fault : Type 0} (e : Ended) (s : Status) (file : List ℕ) (start : Store) (bytes before : List ℕ)
      (left : Option (List ℕ)) (old new : D)
      → CountsNow desk → s ≡ without_session e → desk.held old ≡ Some file → Opens desk slot_limit (Err e) old new
      → Stands file start → left ≡ Some bytes → desk.said new ≡ desk.said old → desk.said old ≡ Some before
      → Settles desk Fault old new (StandsAlike file) → LeavesAtEnd desk s true old start bytes before left new
  ends_without ended.DeviceFault s file start bytes before left old new counts_now is held opens stands told kept begun
      settles =
      subst (λ (t : Status). LeavesAtEnd desk t true old start bytes before left new) (sym is)
      (⊎_elim (λ open_. inl (record { unread = told; unsaid = kept ∙ begun; as_before = open_ }))
      (λ settled. inr (record {
        read = [];
        rest = bytes;
        has_read = unread bytes left told;
        leaves = nothing_done desk answer.DeviceFault true old start (entries_read [] bytes) before new
            (kept ∙ begun ∙ ap Some (sym (append-nil before)))
            (λ later is_left. inl ((settled later is_left start).0 stands));
      })) (left_settled desk counts_now old new (StandsAlike file) before (kept ∙ begun) settles))
  ends_without ended.NoMemory s file start bytes before left old new counts_now is held opens stands told kept begun
      settles =
      subst (λ (t : Status). LeavesAtEnd desk t true old start bytes before left new) (sym is)
      (ends_unread desk true old start bytes before left new told (kept ∙ begun)
      (rests_less desk new (StandsAlike file) (λ later. Stands later start) (opens file held)
      (λ later alike. (alike start).0 stands)))
  ends_without ended.NotAStore s file start bytes before left old new counts_now is held opens stands told kept begun
      settles =
      absurd (MatchOption-at_some _ _ file held opens.was_none start stands)
  ends_without (ended.NotEmpty n) s file start bytes before left old new counts_now is held opens stands told kept begun
      settles =
      absurd opens

-- ---- the store that a script begins with

pub begins_in_memory : (held : Option (List ℕ)) (kind : Bool) (start : Store)
    → BeginsWith (Some tasks.Try) held kind start → (kind ≡ false) × (start ≡ opening)
begins_in_memory held kind start (inl begins) = (begins.1, begins.2)
begins_in_memory held kind start (inr begins) = absurd (cc)

pub begins_on_file : (held : Option (List ℕ)) (kind : Bool) (start : Store)
    → BeginsWith (Some tasks.Run) held kind start → (kind ≡ true) × IsHeld held start
begins_on_file held kind start (inl begins) = absurd (cc)
begins_on_file held kind start (inr begins) = (begins.1, begins.2)
