-- The ends of a run, from how far it has come.
use Rattle.std.specs.Prelude.{IfSome}
use Rattle.std.specs.Option.{option_map}
use Rattle.std.proofs.Common.{◌≡◌, ◌⊎◌, Bool, eqb, true, ◌<◌, ◌≤◌, ◌+◌, ℕ, List, [], ◌∷◌, ◌++◌, append-nil, length}
use Rattle.std.proofs.Common.{take, drop, Some, None, Option, refl, ap, sym, subst, ◌∙◌, arith, inl, inr, length-append}
use Rattle.std.proofs.Common.{length-drop}
use Rattle.std.proofs.lemmas.List.{drop_at, length-take-le, take-append-drop, take_all, take_at}
use Rattle.std.proofs.Math.Seq.{take-add}
use Rattle.std.proofs.lemmas.List.{drop-drop}
use Rattle.std.proofs.lemmas.Bool.{eqb-true}
use Rattle.pl_base.specs.Store.{Store}
use Rattle.pl_base.specs.Live.{slot_limit}
use Rattle.pl_desk.proofs.Moments.{and_on, shows_less}
use Rattle.pl_desk.specs.declared.desk.Desk.{Ghosts}
use Rattle.pl_desk.specs.Shown.{ShowsOnly}
use Rattle.pl_desk.proofs.AnyMoment.{OnlyNow}
use Rattle.pl_step.specs.Run.{replies, after}
use Rattle.pl_store.specs.Keeper.{IsKept, Keeps, is_file}
use Rattle.pl_script.specs.Script.{script}
use Rattle.places.specs.declared.answer_error.AnswerError.{AnswerError}
use Rattle.places.specs.declared.answer_error.AnswerError.TheVariants as answer
use Rattle.places.specs.declared.script_run.ScriptRun.{ScriptRun}
use Rattle.places.specs.declared.status.Status.{Status}
use Rattle.places.specs.declared.status.Status.TheVariants as status
use Rattle.places.specs.declared.stop.Stop.{Stop}
use Rattle.places.specs.declared.stop.Stop.TheVariants as stop
use Rattle.places.specs.Ending.{Becomes, LeavesAtEnd, LeavesWithin, SaysAll, SaysEnded}
use Rattle.places.specs.Status.{EndsIn}
use Rattle.places.specs.Progress.{HasRead, IsAt, ended_entries, entries_read}
use Rattle.places.specs.Said.{Says, texts}
use Rattle.places.specs.Stops.{LeavesAtEntry, ShowsAnswered}
use Rattle.pl_task.specs.Task.{script_limit}
use Rattle.places.proofs.EntryLemmas.{keeps_here, leaves_here, leaves_script}
use Rattle.places.proofs.StopLemmas.{shows_here, shows_script}

-- the bytes read are a front of the input, and the run stands behind them
pub record IsBehind (start : Store) (read : ℕ) (bytes before : List ℕ) (left : Option (List ℕ)) (run : ScriptRun)
    (said : Option (List ℕ)) : Type 0 where
  pub rest_left : left ≡ Some (drop read bytes)
  pub in_input : read ≤ length bytes
  pub at : IsAt start (take read bytes) (Some before) run said

pub starts_behind : (start : Store) (bytes before : List ℕ) (left said : Option (List ℕ)) (run : ScriptRun)
    → ((begun : Option (List ℕ)) → IsAt start [] begun run begun) → left ≡ Some bytes → said ≡ Some before
    → IsBehind start 0 bytes before left run said
starts_behind start bytes before left said run opens all begun = record {
  rest_left = all;
  in_input = omega arith;
  at = subst (λ s. IsAt start [] (Some before) run s) (sym begun) (opens (Some before));
}

-- what a piece is of the input
pub record IsPiece (read : ℕ) (bytes piece : List ℕ) (left : Option (List ℕ)) : Type 0 where
  pub rest_left : left ≡ Some (drop (read + length piece) bytes)
  pub in_input : read + length piece ≤ length bytes
  pub front : take (read + length piece) bytes ≡ take read bytes ++ piece

pub piece_of : (read : ℕ) (bytes piece : List ℕ) (left : Option (List ℕ)) → read ≤ length bytes
    → Some (drop read bytes) ≡ option_map (λ rest. piece ++ rest) left → IsPiece read bytes piece left
piece_of read bytes piece None within taken = absurd (cc)
piece_of read bytes piece (Some rest) within taken =
    let rest_is : drop read bytes ≡ piece ++ rest = cc in
    let shorter = length-drop read bytes in
    let longer = ap length rest_is in
    let both = length-append piece rest in
    record {
      rest_left =
          ap Some
          (sym (sym (drop-drop (length piece) read bytes) ∙ ap (drop (length piece)) rest_is
          ∙ drop_at piece rest (length piece) refl));
      in_input = omega arith;
      front =
          take-add read (length piece) bytes ∙ ap (λ tail. take read bytes ++ take (length piece) tail) rest_is
          ∙ ap (λ tail. take read bytes ++ tail) (take_at piece rest (length piece) refl);
    }

pub goes_on_behind : (start : Store) (read : ℕ) (bytes before piece : List ℕ) (left left' said said' : Option (List ℕ))
    (run run' : ScriptRun) → IsBehind start read bytes before left run said
    → left ≡ option_map (λ rest. piece ++ rest) left'
    → ((b : List ℕ) (begun : Option (List ℕ)) → IsAt start b begun run said → IsAt start (b ++ piece) begun run' said')
    → IsBehind start (read + length piece) bytes before left' run' said'
goes_on_behind start read bytes before piece left left' said said' run run' behind taken answered =
    let is = piece_of read bytes piece left' behind.in_input (sym behind.rest_left ∙ taken) in
    record {
      rest_left = is.rest_left;
      in_input = is.in_input;
      at = rw is.front (answered (take read bytes) (Some before) behind.at);
    }

all_read : (read : ℕ) (bytes : List ℕ) → read ≤ length bytes → drop read bytes ≡ []
    → (take read bytes ≡ bytes) × (length bytes ≡ read)
all_read read bytes within none =
    let shorter = length-drop read bytes in
    let nothing = ap length none in
    let whole : length bytes ≡ read = omega arith in
    (take_all read bytes (omega arith), whole)

-- an empty piece comes at the end of the input alone
pub at_end : (start : Store) (read : ℕ) (bytes before piece : List ℕ) (left said : Option (List ℕ)) (run : ScriptRun)
    → IsBehind start read bytes before left run said → IfSome left (λ rest. rest ≡ [])
    → (take read bytes ≡ bytes) × (length bytes ≡ read)
at_end start read bytes before piece left said run behind ended =
    all_read read bytes behind.in_input (subst (λ l. IfSome l (λ rest. rest ≡ [])) behind.rest_left ended)

-- nothing is left behind the last piece, which is empty
pub none_left : (start : Store) (read : ℕ) (bytes before piece : List ℕ) (left left' said : Option (List ℕ))
    (run : ScriptRun) → IsBehind start read bytes before left run said → length piece ≡ 0
    → left ≡ option_map (λ rest. piece ++ rest) left' → IfSome left (λ rest. rest ≡ []) → left' ≡ Some []
none_left start read bytes before piece left left' said run behind empty taken ended =
    let is = piece_of read bytes piece left' behind.in_input (sym behind.rest_left ∙ taken) in
    let none : drop read bytes ≡ [] = subst (λ l. IfSome l (λ rest. rest ≡ [])) behind.rest_left ended in
    is.rest_left ∙ ap (λ n. Some (drop n bytes)) (omega arith) ∙ ap Some none

says_all : (start : Store) (read : ℕ) (bytes before piece : List ℕ) (left left' said said' : Option (List ℕ))
    (run : ScriptRun) → IsBehind start read bytes before left run said → read < script_limit → length piece ≡ 0
    → left ≡ option_map (λ rest. piece ++ rest) left' → IfSome left (λ rest. rest ≡ [])
    → ((b : List ℕ) (begun : Option (List ℕ)) → IsAt start b begun run said
    → Says begun (texts (replies slot_limit start (script b))) said') → SaysAll start bytes before left' said'
says_all start read bytes before piece left left' said said' run behind short empty taken ended answered =
    let whole = at_end start read bytes before piece left said run behind ended in
    record {
      nothing_left = none_left start read bytes before piece left left' said run behind empty taken ended;
      all_said = rw whole.0 at (answered (take read bytes) (Some before) behind.at);
      in_limit = omega (arith, whole.1);
    }

-- a front of the bytes, and the rest
pub halves : (read : ℕ) (bytes : List ℕ) → take read bytes ++ drop read bytes ≡ bytes
halves read bytes = take-append-drop read bytes

-- what was read so far
pub read_so_far : (start : Store) (read : ℕ) (bytes before : List ℕ) (left left' said : Option (List ℕ)) (run : ScriptRun)
    → IsBehind start read bytes before left run said → left' ≡ left → read ≤ script_limit
    → HasRead bytes (take read bytes) (drop read bytes) left'
read_so_far start read bytes before left left' said run behind kept few = record {
  order = sym (halves read bytes);
  rest_left = kept ∙ behind.rest_left;
  in_limit = omega (arith, length-take-le read bytes behind.in_input, few);
}

ended_so_far : (start : Store) (read : ℕ) (bytes before : List ℕ) (left left' said : Option (List ℕ)) (run : ScriptRun)
    → IsBehind start read bytes before left run said → left' ≡ left → read ≤ script_limit
    → SaysEnded start bytes before left' said
ended_so_far start read bytes before left left' said run behind kept few = record {
  read = take read bytes;
  rest = drop read bytes;
  has_read = read_so_far start read bytes before left left' said run behind kept few;
  ended_said = behind.at.text;
}

-- the length of a piece as a vector tells it
pub empty_piece : {len : ℕ} (items : List ℕ) → len ≡ length items → eqb len 0 ≡ true → length items ≡ 0
empty_piece {len} items is empty = sym is ∙ eqb-true len 0 empty

-- ---- what a stop shows

module _ {D : Type 0} (desk : Ghosts D) (kind : Bool) (first : D) (start : Store) where
  -- while a piece is taken, and when the input has ended
  pub shows_in_piece : (read : ℕ) (bytes before piece : List ℕ) (left left' said : Option (List ℕ)) (run : ScriptRun)
      → IsBehind start read bytes before left run said → left ≡ option_map (λ rest. piece ++ rest) left'
      → (file line : List ℕ)
      → ShowsAnswered desk kind first slot_limit start (ended_entries (take read bytes ++ piece)) before file line
      → ShowsAnswered desk kind first slot_limit start (script bytes) before file line
  shows_in_piece read bytes before piece left left' said run behind taken file line shows =
      let part = piece_of read bytes piece left' behind.in_input (sym behind.rest_left ∙ taken) in
      let order : (take read bytes ++ piece) ++ drop (read + length piece) bytes ≡ bytes =
      ap (λ front. front ++ drop (read + length piece) bytes) (sym part.front)
      ∙ halves (read + length piece) bytes in
      rw order at (shows_script desk kind first start (take read bytes ++ piece) (drop (read + length piece) bytes)
      before file line shows)

  pub shows_at_end : (read : ℕ) (bytes before piece : List ℕ) (left said : Option (List ℕ)) (run : ScriptRun)
      → IsBehind start read bytes before left run said → IfSome left (λ rest. rest ≡ []) → (file line : List ℕ)
      → ShowsAnswered desk kind first slot_limit start (script (take read bytes)) before file line
      → ShowsAnswered desk kind first slot_limit start (script bytes) before file line
  shows_at_end read bytes before piece left said run behind ended file line shows =
      rw (at_end start read bytes before piece left said run behind ended).0 at shows

module _ {D : Type 0} (desk : Ghosts D) where
  -- before anything happens on the desk
  pub shows_begun : OnlyNow desk
      → (first : D) (start : Store) (read : ℕ) (bytes before : List ℕ) (left : Option (List ℕ)) (run : ScriptRun)
      (now : D) → IsBehind start read bytes before left run (desk.said now) → IsKept desk run.keeper first now
      → ShowsOnly desk now now (ShowsAnswered desk (is_file run.keeper) first slot_limit start (script bytes) before)
  shows_begun only_now first start read bytes before left run now behind kept =
      shows_less desk now now
      (ShowsAnswered desk (is_file run.keeper) first slot_limit start (ended_entries (take read bytes)) before)
      (ShowsAnswered desk (is_file run.keeper) first slot_limit start (script bytes) before)
      (shows_here desk only_now first start (take read bytes) before run now behind.at kept)
      (λ file line shows. rw (halves read bytes)
      at (shows_script desk (is_file run.keeper) first start (take read bytes) (drop read bytes) before file line
      shows))

  -- a piece more was taken, or the last line answered
  pub shows_piece : (first : D) (start : Store) (read : ℕ) (bytes before piece : List ℕ) (left left' : Option (List ℕ))
      (kind : Bool) (run : ScriptRun) (old mid new : D) → IsBehind start read bytes before left run (desk.said mid)
      → is_file run.keeper ≡ kind → left ≡ option_map (λ rest. piece ++ rest) left'
      → ShowsOnly desk old mid (ShowsAnswered desk kind first slot_limit start (script bytes) before)
      → ShowsOnly desk mid new (ShowsAnswered desk (is_file run.keeper) first slot_limit start
      (ended_entries (take read bytes ++ piece)) before)
      → ShowsOnly desk old new (ShowsAnswered desk kind first slot_limit start (script bytes) before)
  shows_piece first start read bytes before piece left left' kind run old mid new behind is taken so_far more =
      and_on desk old mid new
      (ShowsAnswered desk kind first slot_limit start (script bytes) before)
      (ShowsAnswered desk (is_file run.keeper) first slot_limit start (ended_entries (take read bytes ++ piece)) before)
      so_far more
      (λ file line shows. shows_in_piece desk kind first start read bytes before piece left left' (desk.said mid) run
      behind taken file line (rw is at shows))

  pub shows_last : (first : D) (start : Store) (read : ℕ) (bytes before piece : List ℕ) (left : Option (List ℕ))
      (kind : Bool) (run : ScriptRun) (old mid new : D) → IsBehind start read bytes before left run (desk.said mid)
      → is_file run.keeper ≡ kind → IfSome left (λ rest. rest ≡ [])
      → ShowsOnly desk old mid (ShowsAnswered desk kind first slot_limit start (script bytes) before)
      → ShowsOnly desk mid new (ShowsAnswered desk (is_file run.keeper) first slot_limit start
      (script (take read bytes)) before)
      → ShowsOnly desk old new (ShowsAnswered desk kind first slot_limit start (script bytes) before)
  shows_last first start read bytes before piece left kind run old mid new behind is ended so_far more =
      and_on desk old mid new
      (ShowsAnswered desk kind first slot_limit start (script bytes) before)
      (ShowsAnswered desk (is_file run.keeper) first slot_limit start (script (take read bytes)) before)
      so_far more
      (λ file line shows. shows_at_end desk kind first start read bytes before piece left (desk.said mid) run behind
      ended file line (rw is at shows))

-- ---- what a run leaves at its end

-- by the status that comes of the error
ends_at : {D : Type 0} (desk : Ghosts D) (error : AnswerError) (e : Stop) (s : Status) (kind : Bool) (first : D)
    (start : Store) (bytes before : List ℕ) (left : Option (List ℕ)) (now : D) → Becomes error e → EndsIn e s
    → LeavesWithin desk error kind first start bytes before left now
    → LeavesAtEnd desk s kind first start bytes before left now
ends_at desk answer.SayFault e s kind first start bytes before left now is ends leaves =
    subst (λ (t : Status). LeavesAtEnd desk t kind first start bytes before left now) (sym (rw is at ends)) leaves
ends_at desk answer.DeviceFault e s kind first start bytes before left now is ends leaves =
    subst (λ (t : Status). LeavesAtEnd desk t kind first start bytes before left now) (sym (rw is at ends)) (inr leaves)
ends_at desk answer.NoMemory e s kind first start bytes before left now is ends leaves =
    subst (λ (t : Status). LeavesAtEnd desk t kind first start bytes before left now) (sym (rw is at ends)) leaves

-- the lines that ended are among those that were read
leaves_read : {D : Type 0} (desk : Ghosts D) (error : AnswerError) (kind : Bool) (first : D) (start : Store)
    (before : List ℕ) (now : D) (read rest : List ℕ)
    → LeavesAtEntry desk error kind first slot_limit start (ended_entries read) before now
    → LeavesAtEntry desk error kind first slot_limit start (entries_read read rest) before now
leaves_read desk error kind first start before now read [] leaves =
    rw append-nil at (leaves_script desk error kind first start before now read [] leaves)
leaves_read desk error kind first start before now read (b ∷ rest) leaves = leaves

module _ {D : Type 0} (desk : Ghosts D) (kind : Bool) (first : D) (start : Store) (read : ℕ)
    (bytes before piece : List ℕ) (left left_now : Option (List ℕ)) (run : ScriptRun) (was : Option (List ℕ)) (now : D)
  where
    -- at the end of the input
    pub ends_done : (s : Status) (store : Store) → s ≡ status.Done → IsBehind start read bytes before left run was
        → read < script_limit → length piece ≡ 0 → left ≡ option_map (λ rest. piece ++ rest) left_now
        → IfSome left (λ rest. rest ≡ [])
        → ((b : List ℕ) (begun : Option (List ℕ)) → IsAt start b begun run was
        → Says begun (texts (replies slot_limit start (script b))) (desk.said now))
        → ((b : List ℕ) (begun : Option (List ℕ)) → IsAt start b begun run was
        → store ≡ after slot_limit start (script b)) → Keeps desk kind first store now
        → LeavesAtEnd desk s kind first start bytes before left_now now
    ends_done s store is behind below none taken ended answered stepped keeps =
        subst (λ (t : Status). LeavesAtEnd desk t kind first start bytes before left_now now) (sym is) (
          says_all start read bytes before piece left left_now was (desk.said now) run behind below none taken ended
              answered,
          rw (at_end start read bytes before piece left was run behind ended).0
              at (rw (stepped (take read bytes) (Some before) behind.at) at keeps),
        )

    pub ends_last : (error : AnswerError) (e : Stop) (s : Status) → Becomes error e → EndsIn e s
        → IsBehind start read bytes before left run was → is_file run.keeper ≡ kind → read < script_limit
        → length piece ≡ 0 → left ≡ option_map (λ rest. piece ++ rest) left_now → IfSome left (λ rest. rest ≡ [])
        → LeavesAtEntry desk error (is_file run.keeper) first slot_limit start (script (take read bytes)) before now
        → LeavesAtEnd desk s kind first start bytes before left_now now
    ends_last error e s becomes ends behind is below none taken ended leaves =
        let whole = at_end start read bytes before piece left was run behind ended in
        ends_at desk error e s kind first start bytes before left_now now becomes ends (record {
          read = bytes;
          rest = [];
          has_read = record {
            order = sym (append-nil bytes);
            rest_left = none_left start read bytes before piece left left_now was run behind none taken ended;
            in_limit = omega (arith, whole.1, below);
          };
          leaves = rw whole.0 at (rw is at leaves);
        })

    -- in a piece
    pub ends_piece : (error : AnswerError) (e : Stop) (s : Status) → Becomes error e → EndsIn e s
        → IsBehind start read bytes before left run was → is_file run.keeper ≡ kind → read + length piece ≤ script_limit
        → left ≡ option_map (λ rest. piece ++ rest) left_now
        → LeavesAtEntry desk error (is_file run.keeper) first slot_limit start
        (ended_entries (take read bytes ++ piece))
        before now → LeavesAtEnd desk s kind first start bytes before left_now now
    ends_piece error e s becomes ends behind is few taken leaves =
        let part = piece_of read bytes piece left_now behind.in_input (sym behind.rest_left ∙ taken) in
        let order : (take read bytes ++ piece) ++ drop (read + length piece) bytes ≡ bytes =
        ap (λ front. front ++ drop (read + length piece) bytes) (sym part.front)
        ∙ halves (read + length piece) bytes in
        ends_at desk error e s kind first start bytes before left_now now becomes ends (record {
          read = take read bytes ++ piece;
          rest = drop (read + length piece) bytes;
          has_read = record {
            order = sym order;
            rest_left = part.rest_left;
            in_limit =
                omega (arith, length-append (take read bytes) piece, length-take-le read bytes behind.in_input, few);
          };
          leaves =
              leaves_read desk error kind first start before now (take read bytes ++ piece)
              (drop (read + length piece) bytes) (rw is at leaves);
        })

    -- between two pieces
    keeps_behind : IsBehind start read bytes before left run (desk.said now) → is_file run.keeper ≡ kind
        → IsKept desk run.keeper first now
        → Keeps desk kind first (after slot_limit start (ended_entries (take read bytes))) now
    keeps_behind behind is kept =
        rw is at (keeps_here desk first start (take read bytes) (Some before) run now behind.at kept)

    pub ends_reading : (e : Stop) (s : Status) → (e ≡ stop.ReadFault) ⊎ (e ≡ stop.NoMemory) → EndsIn e s
        → IsBehind start read bytes before left run (desk.said now) → is_file run.keeper ≡ kind
        → IsKept desk run.keeper first now → read < script_limit → left_now ≡ left
        → LeavesAtEnd desk s kind first start bytes before left_now now
    unfolding ended_so_far
    ends_reading e s (inl fault) ends behind is kept below same =
        subst (λ (t : Status). LeavesAtEnd desk t kind first start bytes before left_now now) (sym (rw fault at ends))
        (record {
          says =
              ended_so_far start read bytes before left left_now (desk.said now) run behind same (omega (arith, below));
          read = omega (arith, length-take-le read bytes behind.in_input, below);
          keeps = keeps_behind behind is kept;
        })
    ends_reading e s (inr memory) ends behind is kept below same =
        let here = leaves_here desk first start (take read bytes) before run now behind.at kept in
        ends_at desk answer.NoMemory e s kind first start bytes before left_now now memory ends (record {
          read = take read bytes;
          rest = drop read bytes;
          has_read =
              read_so_far start read bytes before left left_now (desk.said now) run behind same (omega (arith, below));
          leaves =
              leaves_read desk answer.NoMemory kind first start before now (take read bytes) (drop read bytes)
              (rw is at here);
        })

    pub ends_too_long : (s : Status) → s ≡ status.TooLong script_limit
        → IsBehind start read bytes before left run (desk.said now) → is_file run.keeper ≡ kind
        → IsKept desk run.keeper first now → read ≡ script_limit
        → LeavesAtEnd desk s kind first start bytes before left now
    unfolding ended_so_far
    ends_too_long s ends behind is kept limit =
        subst (λ (t : Status). LeavesAtEnd desk t kind first start bytes before left now) (sym ends)
        (record {
          says = ended_so_far start read bytes before left left (desk.said now) run behind refl (omega (arith, limit));
          read = length-take-le read bytes behind.in_input ∙ limit;
          keeps = keeps_behind behind is kept;
        })
