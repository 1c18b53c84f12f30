use Rattle.std.proofs.Common.{arith, ℕ, List, Ok, ◌∷◌, [], subst, sym}
use Rattle.std.proofs.lemmas.Result.{err_from_is_err_and}
use Rattle.pl_base.specs.Store.{Store}
use Rattle.pl_step.specs.declared.command.Command.{Command}
use Rattle.pl_step.specs.declared.reply.Reply.{Reply}
use Rattle.pl_step.specs.Parsed.{Parsed}
use Rattle.pl_step.specs.Run.{after}
use Rattle.pl_script.specs.Reply.{reply_text}
use Rattle.pl_store.specs.Keeper.{keeper_limit, keeper_store, ready_bytes, ready_store}
use Rattle.pl_store.proofs.KeeperLaws.{kept_keeps}
use Rattle.places.specs.Serving.{Answers, Taking}
use Rattle.places.proofs.AnswerLemmas.{after_command, replies_of_command, text_of_command, unanswered}
use Rattle.places.proofs.BoundLemmas.{writes_command, writes_none}
use Rattle.places.proofs.answer.perform.Goals as goal

-- want of memory for the step
pub returns-in_err-ready-clause-taking : goal.returns-in_err-ready-clause-taking
returns-in_err-ready-clause-taking g c =
    let p = err_from_is_err_and c.from_residual.result c.from_residual.ensures.1 in
    record {
      left = rw (p.1, p.2) (λ first kept. kept_keeps g.D.Desk c.args.keeper first c.args.desk.now kept);
      shows = λ first before is kept. unanswered g.D.Desk g.met.D.Desk.only_now c.args.desk.now first c.args.keeper
          (keeper_limit c.args.keeper) (Ok c.args.command.now ∷ []) before is kept;
    }

-- the step that was taken is the command's
pub returns-clause-answers : goal.returns-clause-answers
returns-clause-answers g c = let limit = keeper_limit c.args.keeper in let store = keeper_store c.args.keeper in
    let ready = c.in_ok-ready in let next = ready_store ready.ready in
    let entries : List (Parsed Command) = Ok c.args.command.now ∷ [] in
    subst (λ (said : List Reply). Answers g.D.Desk (after limit store entries) said c.conclude-concluded.result
    c.args.desk.now c.conclude-concluded.new.desk)
    (replies_of_command limit store next c.args.command.now ready.reply ready.ensures.step)
    (subst (λ (s : Store). Answers g.D.Desk s (ready.reply ∷ []) c.conclude-concluded.result c.args.desk.now
    c.conclude-concluded.new.desk) (after_command limit store next c.args.command.now ready.reply ready.ensures.step)
    c.conclude-concluded.ensures.answers)

pub returns-clause-serves : goal.returns-clause-serves
returns-clause-serves g c = c.conclude-concluded.ensures.serves c.args.keeper c.in_ok-ready.ensures.from

pub returns-clause-taking : goal.returns-clause-taking
returns-clause-taking g c = let limit = keeper_limit c.args.keeper in let store = keeper_store c.args.keeper in
    let ready = c.in_ok-ready in let next = ready_store ready.ready in
    let entries : List (Parsed Command) = Ok c.args.command.now ∷ [] in
    subst (λ (text : List ℕ). Taking g.D.Desk c.args.keeper (after limit store entries) text
    c.conclude-concluded.result c.args.desk.now c.conclude-concluded.new.desk)
    (sym (text_of_command limit store next c.args.command.now ready.reply ready.ensures.step))
    (subst (λ (s : Store). Taking g.D.Desk c.args.keeper s (reply_text ready.reply) c.conclude-concluded.result
    c.args.desk.now c.conclude-concluded.new.desk)
    (after_command limit store next c.args.command.now ready.reply ready.ensures.step)
    (c.conclude-concluded.ensures.taking c.args.keeper ready.ensures.from))

-- what is written
pub returns-in_err-ready-clause-bounded : goal.returns-in_err-ready-clause-bounded
returns-in_err-ready-clause-bounded g c =
    writes_none (keeper_limit c.args.keeper) (keeper_store c.args.keeper) (Ok c.args.command.now ∷ [])
    (g.D.Desk.written c.args.desk.now) (g.D.Desk.written c.args.desk.now) (omega arith)

pub returns-clause-bounded : goal.returns-clause-bounded
returns-clause-bounded g c = let ready = c.in_ok-ready in
    writes_command (keeper_limit c.args.keeper) (keeper_store c.args.keeper) (ready_store ready.ready)
    c.args.command.now ready.reply (ready_bytes ready.ready) (g.D.Desk.written c.args.desk.now)
    (g.D.Desk.written c.conclude-concluded.new.desk) ready.ensures.step ready.ensures.few
    c.conclude-concluded.ensures.bounded
