use Rattle.std.proofs.Common.{Err, List, Ok, ap, append-nil, arith, option_to_list, refl, subst, sym, ℕ, ◌∙◌}
use Rattle.std.proofs.lemmas.Result.{err_from_is_err_and}
use Rattle.pl_script.specs.Reply.{reply_text}
use Rattle.pl_step.specs.declared.command.Command.{Command}
use Rattle.pl_step.specs.declared.reply.Reply.TheVariants.{Refused}
use Rattle.pl_step.specs.Parsed.{Parsed}
use Rattle.pl_step.specs.Run.{after, replies}
use Rattle.pl_store.specs.Keeper.{keeper_limit, keeper_store}
use Rattle.pl_store.proofs.KeeperLaws.{kept_keeps, still_kept}
use Rattle.places.specs.Bounded.{WritesFew}
use Rattle.places.specs.Lines.{entries_in}
use Rattle.places.specs.Said.{Says, texts}
use Rattle.places.specs.Serving.{Answers, Taking}
use Rattle.places.proofs.AnswerLemmas.{keeps_refused, refusing, unanswered}
use Rattle.places.proofs.BoundLemmas.{writes_none}
use Rattle.places.proofs.answer.answer.Goals as goal

-- nothing happens on the desk
pub returns-in-Ok-None-clause-taking : goal.returns-in-Ok-None-clause-taking
returns-in-Ok-None-clause-taking g c = record {
  left = tt;
  shows = λ first before is kept. unanswered g.D.Desk g.met.D.Desk.only_now c.args.desk.now first c.args.keeper
      (keeper_limit c.args.keeper) (entries_in c.args.bytes.now) before is kept;
}

pub returns-in-Err-NoMemory-clause-taking : goal.returns-in-Err-NoMemory-clause-taking
returns-in-Err-NoMemory-clause-taking g c = record {
  left = λ first kept. kept_keeps g.D.Desk c.args.keeper first c.args.desk.now kept;
  shows = λ first before is kept. unanswered g.D.Desk g.met.D.Desk.only_now c.args.desk.now first c.args.keeper
      (keeper_limit c.args.keeper) (entries_in c.args.bytes.now) before is kept;
}

-- a refusal
pub returns-in-Err-Refused-clause-serves : goal.returns-in-Err-Refused-clause-serves
returns-in-Err-Refused-clause-serves g c = let file = c.refuse.ensures.file in record {
  kind = refl;
  kept = λ first kept. still_kept g.D.Desk c.args.keeper first c.args.desk.now c.refuse.new.desk file.kept.held
      file.kept.left kept;
  alone = λ memory. file;
  in_file = λ same. absurd (cc);
}

pub returns-in-Err-Refused-clause-taking : goal.returns-in-Err-Refused-clause-taking
returns-in-Err-Refused-clause-taking g c = let read = rw c.in-Err-Refused.field-0-is at c.in-Err-Refused.ensures in
    record {
      left = tt;
      shows = λ first before is kept. refusing g.D.Desk g.met.D.Desk.only_now c.args.desk.now c.refuse.new.desk first
          c.args.keeper (keeper_limit c.args.keeper) (entries_in c.args.bytes.now) c.in-Err-Refused.refusal before is
          (ap option_to_list read.entry) kept (c.refuse.ensures.shows before is);
    }

pub returns-in_err-refuse-in-Err-Refused-clause-taking : goal.returns-in_err-refuse-in-Err-Refused-clause-taking
returns-in_err-refuse-in-Err-Refused-clause-taking g c =
    let read = rw c.in-Err-Refused.field-0-is at c.in-Err-Refused.ensures in
    let limit = keeper_limit c.args.keeper in let entries = entries_in c.args.bytes.now in
    let p = err_from_is_err_and c.from_residual.result c.from_residual.ensures.1 in
    record {
      left = rw (p.1, p.2) (λ first kept. keeps_refused g.D.Desk c.args.keeper limit entries c.in-Err-Refused.refusal
          first c.args.desk.now c.refuse.new.desk c.in_err-refuse-in-Err-Refused.field-0.0
          (ap option_to_list read.entry) c.refuse.ensures.file.kept
          (λ fault. c.refuse.ensures.no_fault (c.in_err-refuse-in-Err-Refused.was ∙ ap Err fault)) kept);
      shows = λ first before is kept. refusing g.D.Desk g.met.D.Desk.only_now c.args.desk.now c.refuse.new.desk first
          c.args.keeper limit entries c.in-Err-Refused.refusal before is (ap option_to_list read.entry) kept
          (c.refuse.ensures.shows before is);
    }

-- a command
pub returns-clause-answers : goal.returns-clause-answers
returns-clause-answers g c = let limit = keeper_limit c.args.keeper in let store = keeper_store c.args.keeper in
    let read = rw c.in-Ok-Some.field-0-is at c.in-Ok-Some.ensures in
    subst (λ (entries : List (Parsed Command)). Answers g.D.Desk (after limit store entries)
    (replies limit store entries) c.perform-answered.result c.args.desk.now c.perform-answered.new.desk)
    (sym (ap option_to_list read.entry)) c.perform-answered.ensures.answers

pub returns-clause-taking : goal.returns-clause-taking
returns-clause-taking g c = let limit = keeper_limit c.args.keeper in let store = keeper_store c.args.keeper in
    let read = rw c.in-Ok-Some.field-0-is at c.in-Ok-Some.ensures in
    subst (λ (entries : List (Parsed Command)). Taking g.D.Desk c.args.keeper (after limit store entries)
    (texts (replies limit store entries)) c.perform-answered.result c.args.desk.now c.perform-answered.new.desk)
    (sym (ap option_to_list read.entry)) c.perform-answered.ensures.taking

pub returns-in-Err-Refused-clause-answers : goal.returns-in-Err-Refused-clause-answers
returns-in-Err-Refused-clause-answers g c = let desk = g.D.Desk in
    let read = rw c.in-Err-Refused.field-0-is at c.in-Err-Refused.ensures in
    let limit = keeper_limit c.args.keeper in let store = keeper_store c.args.keeper in
    let Said : List ℕ → Type 0 = λ t. Says (desk.said c.args.desk.now) t (desk.said c.refuse.new.desk) in
    subst (λ (entries : List (Parsed Command)). Answers desk (after limit store entries) (replies limit store entries)
    (Ok c.args.keeper) c.args.desk.now c.refuse.new.desk)
    (sym (ap option_to_list read.entry)) (record {
      store = refl;
      said =
          subst Said (sym (append-nil (reply_text (Refused c.in-Err-Refused.refusal))))
          c.in_ok-refuse-in-Err-Refused.ensures.said;
      stopped = tt;
      no_memory = λ same. absurd (cc);
    })

-- what is written
pub returns-in-Ok-None-clause-bounded : goal.returns-in-Ok-None-clause-bounded
returns-in-Ok-None-clause-bounded g c =
    writes_none (keeper_limit c.args.keeper) (keeper_store c.args.keeper) (entries_in c.args.bytes.now)
    (g.D.Desk.written c.args.desk.now) (g.D.Desk.written c.args.desk.now) (omega arith)

pub returns-in-Err-NoMemory-clause-bounded : goal.returns-in-Err-NoMemory-clause-bounded
returns-in-Err-NoMemory-clause-bounded g c =
    writes_none (keeper_limit c.args.keeper) (keeper_store c.args.keeper) (entries_in c.args.bytes.now)
    (g.D.Desk.written c.args.desk.now) (g.D.Desk.written c.args.desk.now) (omega arith)

pub returns-in-Err-Refused-clause-bounded : goal.returns-in-Err-Refused-clause-bounded
returns-in-Err-Refused-clause-bounded g c =
    writes_none (keeper_limit c.args.keeper) (keeper_store c.args.keeper) (entries_in c.args.bytes.now)
    (g.D.Desk.written c.args.desk.now) (g.D.Desk.written c.refuse.new.desk)
    (omega (arith, c.refuse.ensures.file.kept.written))

pub returns-in_err-refuse-in-Err-Refused-clause-bounded : goal.returns-in_err-refuse-in-Err-Refused-clause-bounded
returns-in_err-refuse-in-Err-Refused-clause-bounded g c =
    writes_none (keeper_limit c.args.keeper) (keeper_store c.args.keeper) (entries_in c.args.bytes.now)
    (g.D.Desk.written c.args.desk.now) (g.D.Desk.written c.refuse.new.desk)
    (omega (arith, c.refuse.ensures.file.kept.written))

pub returns-clause-bounded : goal.returns-clause-bounded
returns-clause-bounded g c = let limit = keeper_limit c.args.keeper in let store = keeper_store c.args.keeper in
    let read = rw c.in-Ok-Some.field-0-is at c.in-Ok-Some.ensures in
    subst (λ (entries : List (Parsed Command)). WritesFew limit store entries (g.D.Desk.written c.args.desk.now)
    (g.D.Desk.written c.perform-answered.new.desk))
    (sym (ap option_to_list read.entry)) c.perform-answered.ensures.bounded
