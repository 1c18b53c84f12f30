-- What a stop shows while one line is answered.
use Rattle.std.proofs.Common.{◌≡◌, ℕ, Bool, List, [], ◌∷◌, Some, Ok, Err, inl, inr, ⊎_elim, refl, sym, ap}
use Rattle.std.proofs.Common.{◌∙◌, subst, append-nil}
use Rattle.std.proofs.lemmas.Option.{same_Some}
use Rattle.pl_base.specs.declared.refusal.Refusal.{Refusal}
use Rattle.pl_base.specs.Store.{Store}
use Rattle.pl_desk.proofs.Moments.{started, and_on, shows_less}
use Rattle.pl_desk.specs.declared.desk.Desk.{Ghosts}
use Rattle.pl_desk.specs.Shown.{AtAnyMoment, ShowsOnly}
use Rattle.pl_desk.specs.Calls.{KeepsFile}
use Rattle.pl_desk.proofs.AnyMoment.{OnlyNow}
use Rattle.pl_step.specs.declared.command.Command.{Command}
use Rattle.pl_step.specs.declared.reply.Reply.{Reply}
use Rattle.pl_step.specs.declared.reply.Reply.TheVariants.{Refused}
use Rattle.pl_step.specs.Parsed.{Parsed}
use Rattle.pl_step.specs.Run.{replies, after}
use Rattle.pl_step.specs.Step.{perform}
use Rattle.pl_store.specs.declared.keeper.Keeper.{Keeper}
use Rattle.pl_store.specs.Keeper.{IsKept, Keeps, Leaves, LeavesEither, is_file, keeper_store}
use Rattle.pl_store.proofs.KeeperLaws.{kept_keeps, kept_leaves, still_keeps}
use Rattle.pl_script.specs.Reply.{reply_text}
use Rattle.places.specs.declared.answer_error.AnswerError.{AnswerError}
use Rattle.places.specs.declared.answer_error.AnswerError.TheVariants as answer
use Rattle.places.specs.Said.{texts}
use Rattle.places.specs.Stops.{LeavesOfAnswer, ShowsAnswer, ShowsFront, ShowsTaking}

-- the text of a command's reply
pub text_of_command : (limit : ℕ) (store next : Store) (command : Command) (reply : Reply)
    → (reply, next) ≡ perform limit store command → texts (replies limit store (Ok command ∷ [])) ≡ reply_text reply
text_of_command limit store next command reply step =
    append-nil (reply_text (perform limit store command).0) ∙ ap (λ (d : Reply × Store). reply_text d.0) (sym step)

pub replies_of_command : (limit : ℕ) (store next : Store) (command : Command) (reply : Reply)
    → (reply, next) ≡ perform limit store command → reply ∷ [] ≡ replies limit store (Ok command ∷ [])
replies_of_command limit store next command reply step = ap (λ (d : Reply × Store). d.0 ∷ []) step

-- the store after it
pub after_command : (limit : ℕ) (store next : Store) (command : Command) (reply : Reply)
    → (reply, next) ≡ perform limit store command → next ≡ after limit store (Ok command ∷ [])
after_command limit store next command reply step = ap (λ (d : Reply × Store). d.1) step

-- the store's file after a refused line
pub keeps_refused : {D : Type 0} (desk : Ghosts D) (keeper : Keeper) (limit : ℕ) (entries : List (Parsed Command))
    (refusal : Refusal) (first old new : D) (error : AnswerError)
    → entries ≡ Err refusal ∷ [] → KeepsFile desk old new → (error ≡ answer.DeviceFault → ⊥)
    → IsKept desk keeper first old
    → LeavesOfAnswer desk error (is_file keeper) first (keeper_store keeper) (after limit (keeper_store keeper) entries)
    new
keeps_refused {D} desk keeper limit entries refusal first old new error one same no_fault kept =
    at error no_fault (still_keeps desk (is_file keeper) first (keeper_store keeper) old new same.held same.left
    (kept_keeps desk keeper first old kept))
  where
    at : (e : AnswerError) → (e ≡ answer.DeviceFault → ⊥) → Keeps desk (is_file keeper) first (keeper_store keeper) new
        → LeavesOfAnswer desk e (is_file keeper) first (keeper_store keeper) (after limit (keeper_store keeper) entries)
        new
    at answer.SayFault other keeps = rw one keeps
    at answer.DeviceFault other keeps = absurd (other refl)
    at answer.NoMemory other keeps = keeps

leaves_as : {D : Type 0} (desk : Ghosts D) (first : D) (file : List ℕ) (kind kind_now : Bool) (store store_now : Store)
    → kind ≡ kind_now → store ≡ store_now → Leaves desk kind first store file
    → Leaves desk kind_now first store_now file
leaves_as desk first file kind kind_now store store_now same_kind same_store leaves =
    subst (λ (k : Bool). Leaves desk k first store_now file) same_kind
    (subst (λ (s : Store). Leaves desk kind first s file) same_store leaves)

pub keeps_as : {D : Type 0} (desk : Ghosts D) (kind kind_now : Bool) (first : D) (store store_now : Store) (now : D)
    → kind ≡ kind_now → store ≡ store_now → Keeps desk kind first store now → Keeps desk kind_now first store_now now
keeps_as desk kind kind_now first store store_now now same_kind same_store keeps = rw (← same_kind, ← same_store) keeps

module _ {D : Type 0} (desk : Ghosts D) where
  -- before the first call
  pub untaken : OnlyNow desk
      → (old first : D) (keeper : Keeper) (next : Store) (text before : List ℕ) → desk.said old ≡ Some before
      → IsKept desk keeper first old
      → ShowsOnly desk old old (ShowsTaking desk (is_file keeper) first (keeper_store keeper) next text before)
  untaken only_now old first keeper next text before is kept =
      started desk old (ShowsTaking desk (is_file keeper) first (keeper_store keeper) next text before)
      (λ file line shown. let now = only_now old before file line is shown in record {
        part = 0;
        said = now.1 ∙ sym (append-nil before);
        leaves = inr (refl, kept_leaves desk keeper first old kept file now.0);
      })

  pub unanswered : OnlyNow desk
      → (old first : D) (keeper : Keeper) (limit : ℕ) (entries : List (Parsed Command)) (before : List ℕ)
      → desk.said old ≡ Some before
      → IsKept desk keeper first old
      → ShowsOnly desk old old (ShowsAnswer desk (is_file keeper) first limit (keeper_store keeper) entries before)
  unanswered only_now old first keeper limit entries before is kept =
      untaken only_now old first keeper (after limit (keeper_store keeper) entries)
      (texts (replies limit (keeper_store keeper) entries)) before is kept

  -- while the file takes the step, nothing is said
  pub committing : (old new first : D) (keeper : Keeper) (next : Store) (text before : List ℕ)
      → desk.said old ≡ Some before
      → AtAnyMoment desk old new (LeavesEither desk (is_file keeper) first (keeper_store keeper) next)
      → ShowsOnly desk old new (ShowsTaking desk (is_file keeper) first (keeper_store keeper) next text before)
  committing old new first keeper next text before is shows =
      shows_less desk old new (λ file line. LeavesEither desk (is_file keeper) first (keeper_store keeper) next file
      × (desk.said old ≡ Some line))
      (ShowsTaking desk (is_file keeper) first (keeper_store keeper) next text before) shows
      (λ file line has. record {
        part = 0;
        said = same_Some line before (sym has.1 ∙ is) ∙ sym (append-nil before);
        leaves = ⊎_elim (λ as_before. inr (refl, as_before)) (λ left. inl left) has.0;
      })

  -- the text is said, beside a keeper of the next store
  pub answering : (old mid new first : D) (keeper later : Keeper) (next : Store) (text before : List ℕ)
      → is_file later ≡ is_file keeper → keeper_store later ≡ next → IsKept desk later first mid
      → ShowsOnly desk old mid (ShowsTaking desk (is_file keeper) first (keeper_store keeper) next text before)
      → ShowsOnly desk mid new (ShowsFront desk mid before text)
      → ShowsOnly desk old new (ShowsTaking desk (is_file keeper) first (keeper_store keeper) next text before)
  answering old mid new first keeper later next text before same_kind stepped kept so_far saying =
      and_on desk old mid new (ShowsTaking desk (is_file keeper) first (keeper_store keeper) next text before)
      (ShowsFront desk mid before text) so_far saying
      (λ file line shows. record {
        part = shows.1.0;
        said = shows.1.1;
        leaves =
            inl (leaves_as desk first file _ _ _ _ same_kind stepped
            (kept_leaves desk later first mid kept file shows.0));
      })

  -- the step is taken by the file, and then the text is said
  pub taking : (old mid new first : D) (keeper later : Keeper) (next : Store) (text reply before : List ℕ)
      → desk.said old ≡ Some before → desk.said mid ≡ desk.said old → text ≡ reply
      → is_file later ≡ is_file keeper → keeper_store later ≡ next → IsKept desk later first mid
      → AtAnyMoment desk old mid (LeavesEither desk (is_file keeper) first (keeper_store keeper) next)
      → ((line : List ℕ) → desk.said mid ≡ Some line → ShowsOnly desk mid new (ShowsFront desk mid line text))
      → ShowsOnly desk old new (ShowsTaking desk (is_file keeper) first (keeper_store keeper) next reply before)
  taking old mid new first keeper later next text reply before is unsaid written same_kind stepped kept shows saying =
      answering old mid new first keeper later next reply before same_kind stepped kept
      (committing old mid first keeper next reply before is shows)
      (subst (λ (t : List ℕ). ShowsOnly desk mid new (ShowsFront desk mid before t)) written
      (saying before (unsaid ∙ is)))

  -- a refusal is said, and the store stays
  pub refusing : OnlyNow desk
      → (old new first : D) (keeper : Keeper) (limit : ℕ) (entries : List (Parsed Command)) (refusal : Refusal)
      (before : List ℕ) → desk.said old ≡ Some before → entries ≡ Err refusal ∷ []
      → IsKept desk keeper first old
      → ShowsOnly desk old new (ShowsFront desk old before (reply_text (Refused refusal)))
      → ShowsOnly desk old new (ShowsAnswer desk (is_file keeper) first limit (keeper_store keeper) entries before)
  refusing only_now old new first keeper limit entries refusal before is one kept saying =
      answering old old new first keeper keeper (after limit (keeper_store keeper) entries)
      (texts (replies limit (keeper_store keeper) entries)) before refl
      (sym (ap (after limit (keeper_store keeper)) one)) kept
      (unanswered only_now old first keeper limit entries before is kept)
      (subst (λ (text : List ℕ). ShowsOnly desk old new (ShowsFront desk old before text))
      (sym (ap (λ (es : List (Parsed Command)). texts (replies limit (keeper_store keeper) es)) one
      ∙ append-nil (reply_text (Refused refusal)))) saying)
