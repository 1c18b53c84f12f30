use Rattle.std.proofs.Common.{◌≡◌, Err, refl, subst, sym}
use Rattle.std.proofs.lemmas.Option.{MatchOption-at_some}
use Rattle.pl_base.specs.Store.{opening}
use Rattle.pl_desk.proofs.AnyMoment.{rests_less, still_rests}
use Rattle.pl_desk.specs.Calls.{KeepsFile}
use Rattle.pl_desk.specs.declared.desk.Desk.{Ghosts}
use Rattle.pl_store.specs.declared.ended.Ended.{Ended}
use Rattle.pl_store.specs.declared.ended.Ended.TheVariants as ended
use Rattle.pl_store.specs.declared.session.Session.{Session}
use Rattle.pl_store.specs.Ending.{IsFinished, Makes, MakesStore}
use Rattle.pl_store.specs.Session.{Stands, session_bytes, session_store}
use Rattle.pl_store.proofs.StandsLaws.{stands_by}
use Rattle.places.specs.Ending.{EndsNew, EndsTask, MadeOfEmpty}
use Rattle.places.specs.declared.status.Status.{Status}
use Rattle.pl_task.specs.declared.task.Task.TheVariants as tasks
use Rattle.places.specs.Status.{without_session}
use Rattle.places.proofs.make_store.make_store.Goals as goal

-- calls that leave the file as it was leave it made
made : {D : Type 0} (desk : Ghosts D) (session : Session) (old mid new : D) → MakesStore desk session old mid
    → KeepsFile desk mid new → MadeOfEmpty desk old new
made desk session old mid new makes kept file is =
    let settled = makes.settled file is in (
      MatchOption-at_some _ _ file is makes.was_empty,
      still_rests desk mid new (λ f. IsFinished f × Stands f opening) kept.held kept.left
          (rests_less desk mid _ (λ f. IsFinished f × Stands f opening) settled.rests (λ f closed. (
            closed.closed,
            subst (Stands f) makes.store
                (stands_by (session_bytes session) f (session_store session) settled.stands closed.holds),
          ))),
    )

-- how a making ends that gives no session
not_made : {D : Type 0} (desk : Ghosts D) (e : Ended) (s : Status) (old new : D) → s ≡ without_session e
    → Makes desk (Err e) old new
    → desk.said new ≡ desk.said old → EndsNew desk s old new × EndsTask tasks.New s
not_made desk ended.DeviceFault s old new is makes unsaid =
    subst (λ (t : Status). EndsNew desk t old new × EndsTask tasks.New t) (sym is)
    ((unsaid, makes), λ same. absurd (cc))
not_made desk ended.NoMemory s old new is makes unsaid =
    subst (λ (t : Status). EndsNew desk t old new × EndsTask tasks.New t) (sym is) ((unsaid, makes), tt)
not_made desk ended.NotAStore s old new is makes unsaid = absurd makes
not_made desk (ended.NotEmpty n) s old new is makes unsaid =
    subst (λ (t : Status). EndsNew desk t old new × EndsTask tasks.New t) (sym is) ((unsaid, makes), refl)

pub returns-in-Err-clause-ends : goal.returns-in-Err-clause-ends
returns-in-Err-clause-ends g c =
    (not_made g.D.Desk c.in-Err.ended c.from.result c.args.desk.now c.create.new.desk c.from.ensures
    c.in-Err.ensures.ends c.create.ensures.calls.line.said).0

pub returns-in-Err-clause-status : goal.returns-in-Err-clause-status
returns-in-Err-clause-status g c =
    (not_made g.D.Desk c.in-Err.ended c.from.result c.args.desk.now c.create.new.desk c.from.ensures
    c.in-Err.ensures.ends c.create.ensures.calls.line.said).1

pub returns-in-Ok-clause-ends : goal.returns-in-Ok-clause-ends
returns-in-Ok-clause-ends g c = (
  rw (sym c.create.ensures.calls.line.said) c.in-Ok.ensures.whole,
  made g.D.Desk c.in_default.field-0 c.args.desk.now c.create.new.desk c.say_all.new.desk c.in_default.ensures.ends
      c.say_all.ensures.file.kept,
)

pub returns-in-Err-say_all-clause-ends : goal.returns-in-Err-say_all-clause-ends
returns-in-Err-say_all-clause-ends g c = (
  rw (sym c.create.ensures.calls.line.said) c.in-Err-say_all.ensures.front,
  made g.D.Desk c.in_default.field-0 c.args.desk.now c.create.new.desk c.say_all.new.desk c.in_default.ensures.ends
      c.say_all.ensures.file.kept,
)
