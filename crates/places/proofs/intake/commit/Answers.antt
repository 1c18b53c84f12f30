use Rattle.std.proofs.Common.{◌∙◌, ℕ, List, append-nil, inr, refl, subst, true}
use Rattle.std.proofs.lemmas.Result.{err_from_is_err_and}
use Rattle.pl_store.specs.Keeper.{is_file, keeper_limit, keeper_store, ready_store}
use Rattle.pl_store.proofs.KeeperLaws.{kept_keeps}
use Rattle.pl_script.specs.Reply.{reply_text}
use Rattle.places.specs.Said.{Says}
use Rattle.places.proofs.AnswerLemmas.{keeps_as}
use Rattle.places.proofs.IntakeLemmas.{answer_stops, device_as, ends_failed, ends_refused, ends_said, ends_unprepared}
use Rattle.places.proofs.IntakeLemmas.{not_refused, says_as, shows_begun, shows_taking}
use Rattle.places.proofs.RefusalLemmas.{intake_refused}
use Rattle.places.proofs.intake.commit.Goals as goal

-- want of memory for the step
pub returns-in_err-ready-clause-ends : goal.returns-in_err-ready-clause-ends
returns-in_err-ready-clause-ends g c =
    let p = err_from_is_err_and c.from_residual.result c.from_residual.ensures.1 in
    rw (p.1, p.2) (λ intake bytes before first brings begun kept.
    ends_unprepared g.D.Desk intake c.args.keeper c.args.command.now bytes before first c.args.desk.now c.requires.file brings
    begun kept)

pub returns-in_err-ready-clause-shows : goal.returns-in_err-ready-clause-shows
returns-in_err-ready-clause-shows g c intake bytes before first brings begun kept =
    shows_begun g.D.Desk intake g.met.D.Desk.only_now c.args.keeper first c.args.desk.now bytes before c.requires.file begun
    kept

-- it is refused
pub returns-in-Refused-clause-ends : goal.returns-in-Refused-clause-ends
returns-in-Refused-clause-ends g c intake bytes before first brings begun kept =
    ends_refused g.D.Desk intake c.args.keeper c.args.command.now bytes before first c.args.desk.now c.args.desk.now
    c.in_ok-ready.reply (ready_store c.in_ok-ready.ready) c.requires.limit c.requires.file brings begun
    c.in_ok-ready.ensures.step c.in-Refused.refusal c.in-Refused.is kept

pub returns-in-Refused-clause-stops : goal.returns-in-Refused-clause-stops
returns-in-Refused-clause-stops g c = inr (inr (inr (
  c.in-Refused.refusal,
  refl,
  intake_refused (keeper_limit c.args.keeper) (keeper_store c.args.keeper) (ready_store c.in_ok-ready.ready)
      c.args.command.now c.in_ok-ready.reply c.in-Refused.refusal c.requires.limit c.requires.intake
      c.in_ok-ready.ensures.step c.in-Refused.is,
)))

pub returns-in-Refused-clause-shows : goal.returns-in-Refused-clause-shows
returns-in-Refused-clause-shows g c intake bytes before first brings begun kept =
    shows_begun g.D.Desk intake g.met.D.Desk.only_now c.args.keeper first c.args.desk.now bytes before c.requires.file begun
    kept

-- the answer failed
pub returns-in_err-concluded-clause-ends : goal.returns-in_err-concluded-clause-ends
returns-in_err-concluded-clause-ends g c =
    let p = err_from_is_err_and c.from_residual-in_err-concluded.result c.from_residual-in_err-concluded.ensures.1 in
    rw (p.1, p.2) (λ intake bytes before first brings begun kept.
    ends_failed g.D.Desk intake c.args.keeper c.args.command.now bytes before first c.args.desk.now
    c.conclude-concluded.new.desk
    c.in_ok-ready.reply (ready_store c.in_ok-ready.ready) c.requires.limit c.requires.file brings begun
    c.in_ok-ready.ensures.step c.in_err-concluded.field-0.0 (not_refused c.in_ok-ready.reply c.in_default.not-Refused)
    c.in_err-concluded.ensures.answers.stopped
    ((c.in_err-concluded.ensures.taking c.args.keeper c.in_ok-ready.ensures.from).left first kept))

pub returns-in_err-concluded-clause-shows : goal.returns-in_err-concluded-clause-shows
returns-in_err-concluded-clause-shows g c intake bytes before first brings begun kept =
    shows_taking g.D.Desk intake c.args.keeper c.args.command.now bytes before first c.args.desk.now
    c.conclude-concluded.new.desk
    c.in_ok-ready.reply (ready_store c.in_ok-ready.ready) c.requires.limit c.requires.file brings begun
    c.in_ok-ready.ensures.step (not_refused c.in_ok-ready.reply c.in_default.not-Refused)
    ((c.conclude-concluded.ensures.taking c.args.keeper c.in_ok-ready.ensures.from).shows first before begun kept)

pub returns-in_err-concluded-clause-stops : goal.returns-in_err-concluded-clause-stops
returns-in_err-concluded-clause-stops g c =
    let p = err_from_is_err_and c.from_residual-in_err-concluded.result c.from_residual-in_err-concluded.ensures.1 in
    rw (p.1, p.2) (answer_stops c.in_err-concluded.field-0.0)

pub returns-in_err-concluded-clause-counted : goal.returns-in_err-concluded-clause-counted
returns-in_err-concluded-clause-counted g c = let desk = g.D.Desk in
    let p = err_from_is_err_and c.from_residual-in_err-concluded.result c.from_residual-in_err-concluded.ensures.1 in
    let error = c.in_err-concluded.field-0.0 in let counted = c.in_err-concluded.ensures.counted in
    rw (p.1, p.2) (record {
      says =
          says_as error (desk.line_faults c.args.desk.now) (desk.line_faults c.conclude-concluded.new.desk)
          counted.says;
      device =
          device_as error (desk.device_faults c.args.desk.now) (desk.device_faults c.conclude-concluded.new.desk)
          counted.device;
    })

-- the reply was said
pub returns-clause-ends : goal.returns-clause-ends
returns-clause-ends g c intake bytes before first brings begun kept = let desk = g.D.Desk in
    let next = c.in_ok-concluded.field-0 in let answers = c.in_ok-concluded.ensures.answers in
    let serves = c.in_ok-concluded.ensures.serves c.args.keeper c.in_ok-ready.ensures.from in
    let text = reply_text c.in_ok-ready.reply in
    ends_said desk intake c.args.keeper c.args.command.now bytes before first c.args.desk.now c.conclude-concluded.new.desk
    c.in_ok-ready.reply (ready_store c.in_ok-ready.ready) c.requires.limit c.requires.file brings begun
    c.in_ok-ready.ensures.step (not_refused c.in_ok-ready.reply c.in_default.not-Refused)
    (subst (λ (t : List ℕ). Says (desk.said c.args.desk.now) t (desk.said c.conclude-concluded.new.desk))
    (append-nil text) answers.said)
    (keeps_as desk (is_file next) true first (keeper_store next) (ready_store c.in_ok-ready.ready)
    c.conclude-concluded.new.desk
    (serves.kind ∙ c.requires.file) answers.store
    (kept_keeps desk next first c.conclude-concluded.new.desk (serves.kept first kept)))

pub returns-clause-shows : goal.returns-clause-shows
returns-clause-shows g c intake bytes before first brings begun kept =
    shows_taking g.D.Desk intake c.args.keeper c.args.command.now bytes before first c.args.desk.now
    c.conclude-concluded.new.desk
    c.in_ok-ready.reply (ready_store c.in_ok-ready.ready) c.requires.limit c.requires.file brings begun
    c.in_ok-ready.ensures.step (not_refused c.in_ok-ready.reply c.in_default.not-Refused)
    ((c.conclude-concluded.ensures.taking c.args.keeper c.in_ok-ready.ensures.from).shows first before begun kept)
