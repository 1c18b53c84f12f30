use Rattle.std.proofs.Common.{ℕ, List, append-nil, arith, length, refl, subst, sym, take, ◌∙◌, ◌<◌}
use Rattle.std.proofs.lemmas.Result.{err_from_is_err_and}
use Rattle.pl_desk.specs.Calls.{LeavesFile}
use Rattle.pl_store.specs.Keeper.{is_file, keeper_store, ready_store}
use Rattle.pl_store.proofs.KeeperLaws.{kept_keeps, still_keeps, still_kept}
use Rattle.pl_script.specs.Reply.{reply_text}
use Rattle.places.specs.Said.{Says}
use Rattle.places.proofs.AnswerCounts.{leaves_self, rose_at, rose_from, stood}
use Rattle.places.proofs.AnswerLemmas.{committing, keeps_as, taking, untaken}
use Rattle.places.proofs.answer.conclude.Goals as goal

-- before the commit
pub returns-in_err-text-clause-taking : goal.returns-in_err-text-clause-taking
returns-in_err-text-clause-taking g c before ready = let desk = g.D.Desk in
    let p = err_from_is_err_and c.from_residual.result c.from_residual.ensures.1 in
    record {
      left = rw (p.1, p.2) (λ first kept. kept_keeps desk before first c.args.desk.now kept);
      shows = λ first line is kept. untaken desk g.met.D.Desk.only_now c.args.desk.now first before
          (ready_store c.args.ready) (reply_text c.args.reply.now) line is kept;
    }

pub returns-in_err-text-clause-serves : goal.returns-in_err-text-clause-serves
returns-in_err-text-clause-serves g c =
    let p = err_from_is_err_and c.from_residual.result c.from_residual.ensures.1 in
    rw (p.1, p.2) (λ before ready. record {
      kind = tt;
      kept = tt;
      alone = λ memory. leaves_self g.D.Desk c.args.desk.now;
      in_file = λ same. absurd (cc);
    })

-- the commit
pub returns-in_err-next-clause-taking : goal.returns-in_err-next-clause-taking
returns-in_err-next-clause-taking g c before ready = let desk = g.D.Desk in
    let p = err_from_is_err_and c.from_residual-in_err-next.result c.from_residual-in_err-next.ensures.1 in
    record {
      left = rw (p.1, p.2) (λ first kept file left. (c.in_err-next.ensures.taken before ready).left first file kept
          left);
      shows = λ first line is kept. committing desk c.args.desk.now c.commit.new.desk first before
          (ready_store c.args.ready) (reply_text c.args.reply.now) line is
          ((c.commit.ensures.taken before ready).any_moment first line kept is);
    }

-- the reply
pub returns-in-Ok-clause-answers : goal.returns-in-Ok-clause-answers
returns-in-Ok-clause-answers g c = let desk = g.D.Desk in let text = reply_text c.args.reply.now in
    let Said : List ℕ → Type 0 = λ t. Says (desk.said c.args.desk.now) t (desk.said c.say_all.new.desk) in
    let said : Said text =
    rw (← c.as_bytes.ensures.value ∙ c.as_str.ensures ∙ c.in_ok-text.ensures.exact, ← c.commit.ensures.calls.line.said)
    c.in-Ok.ensures.whole in
    record {
      store = c.in_ok-next.ensures.store;
      said = subst Said (sym (append-nil text)) said;
      stopped = tt;
      no_memory = λ same. absurd (cc);
    }

pub returns-in-Ok-clause-taking : goal.returns-in-Ok-clause-taking
returns-in-Ok-clause-taking g c before ready = let taken = c.in_ok-next.ensures.taken before ready in
    record {
      left = tt;
      shows = λ first line is kept. taking g.D.Desk c.args.desk.now c.commit.new.desk c.say_all.new.desk first before
          c.in_ok-next.next (ready_store c.args.ready) c.as_bytes.result.now (reply_text c.args.reply.now) line is
          c.commit.ensures.calls.line.said
          (c.as_bytes.ensures.value ∙ c.as_str.ensures ∙ c.in_ok-text.ensures.exact) taken.kind
          c.in_ok-next.ensures.store (taken.kept first kept) (taken.any_moment first line kept is)
          c.say_all.ensures.shows;
    }

-- a reply that was not said whole
pub returns-clause-taking : goal.returns-clause-taking
returns-clause-taking g c before ready = let desk = g.D.Desk in let next = c.in_ok-next.next in
    let taken = c.in_ok-next.ensures.taken before ready in let file = c.say_all.ensures.file.kept in
    record {
      left = λ first kept. keeps_as desk (is_file next) (is_file before) first (keeper_store next)
          (ready_store c.args.ready) c.say_all.new.desk taken.kind c.in_ok-next.ensures.store
          (still_keeps desk (is_file next) first (keeper_store next) c.commit.new.desk c.say_all.new.desk file.held
          file.left (kept_keeps desk next first c.commit.new.desk (taken.kept first kept)));
      shows = λ first line is kept. taking desk c.args.desk.now c.commit.new.desk c.say_all.new.desk first before next
          (ready_store c.args.ready) c.as_bytes.result.now (reply_text c.args.reply.now) line is
          c.commit.ensures.calls.line.said
          (c.as_bytes.ensures.value ∙ c.as_str.ensures ∙ c.in_ok-text.ensures.exact) taken.kind
          c.in_ok-next.ensures.store (taken.kept first kept) (taken.any_moment first line kept is)
          c.say_all.ensures.shows;
    }

-- what keeper and file were left as
pub returns-in_err-next-clause-serves : goal.returns-in_err-next-clause-serves
returns-in_err-next-clause-serves g c = let desk = g.D.Desk in
    let p = err_from_is_err_and c.from_residual-in_err-next.result c.from_residual-in_err-next.ensures.1 in
    rw p.1 (λ before ready. record {
      kind = tt;
      kept = tt;
      alone = λ memory. subst (λ (d : g.row.D.Denot). LeavesFile desk d c.commit.new.desk)
          ((c.commit.ensures.taken before ready).alone memory) (leaves_self desk c.commit.new.desk);
      in_file = λ fault. (c.in_err-next.ensures.taken before ready).in_file;
    })

pub returns-in-Ok-clause-serves : goal.returns-in-Ok-clause-serves
returns-in-Ok-clause-serves g c before ready = let desk = g.D.Desk in
    let file = c.say_all.ensures.file in let taken = c.in_ok-next.ensures.taken before ready in record {
      kind = taken.kind;
      kept = λ first kept. still_kept desk c.in_ok-next.next first c.commit.new.desk c.say_all.new.desk file.kept.held
          file.kept.left (taken.kept first kept);
      alone = λ memory. subst (λ (d : g.row.D.Denot). LeavesFile desk d c.say_all.new.desk) (taken.alone memory) file;
      in_file = λ same. absurd (cc);
    }

pub returns-clause-serves : goal.returns-clause-serves
returns-clause-serves g c before ready = let desk = g.D.Desk in record {
  kind = tt;
  kept = tt;
  alone = λ memory. subst (λ (d : g.row.D.Denot). LeavesFile desk d c.say_all.new.desk)
      ((c.commit.ensures.taken before ready).alone memory) c.say_all.ensures.file;
  in_file = λ same. absurd (cc);
}

-- the counts of faults
pub returns-in_err-next-clause-counted : goal.returns-in_err-next-clause-counted
returns-in_err-next-clause-counted g c = let desk = g.D.Desk in
    let p = err_from_is_err_and c.from_residual-in_err-next.result c.from_residual-in_err-next.ensures.1 in
    let rose = c.in_err-next.ensures.calls.counted in
    rw (p.1, p.2) (record {
      says =
          stood (desk.line_faults c.args.desk.now) (desk.line_faults c.commit.new.desk) (λ same. absurd (cc))
          c.commit.ensures.calls.line.faults;
      device =
          rose_at (desk.device_faults c.args.desk.now) (desk.device_faults c.commit.new.desk) refl rose.0 rose.1;
    })

pub returns-in-Ok-clause-counted : goal.returns-in-Ok-clause-counted
returns-in-Ok-clause-counted g c = let desk = g.D.Desk in record {
  says =
      stood (desk.line_faults c.args.desk.now) (desk.line_faults c.say_all.new.desk) (λ same. absurd (cc))
      (c.in-Ok.ensures.counted ∙ c.commit.ensures.calls.line.faults);
  device =
      stood (desk.device_faults c.args.desk.now) (desk.device_faults c.say_all.new.desk) (λ same. absurd (cc))
      (c.say_all.ensures.file.faults ∙ c.in_ok-next.ensures.calls.counted);
}

pub returns-clause-counted : goal.returns-clause-counted
returns-clause-counted g c = let desk = g.D.Desk in record {
  says =
      rose_from (desk.line_faults c.args.desk.now) (desk.line_faults c.commit.new.desk)
      (desk.line_faults c.say_all.new.desk) refl c.commit.ensures.calls.line.faults c.in-Err.ensures.counted.0
      c.in-Err.ensures.counted.1;
  device =
      stood (desk.device_faults c.args.desk.now) (desk.device_faults c.say_all.new.desk) (λ same. absurd (cc))
      (c.say_all.ensures.file.faults ∙ c.in_ok-next.ensures.calls.counted);
}

pub returns-clause-answers : goal.returns-clause-answers
returns-clause-answers g c = let desk = g.D.Desk in let text = reply_text c.args.reply.now in
    let Stopped : List ℕ → Type 0 =
    λ t. (n : ℕ) × (n < length t) × Says (desk.said c.args.desk.now) (take n t) (desk.said c.say_all.new.desk) in
    let stopped : Stopped text =
    rw (← c.as_bytes.ensures.value ∙ c.as_str.ensures ∙ c.in_ok-text.ensures.exact, ← c.commit.ensures.calls.line.said)
    c.in-Err.ensures.front in
    record {
      store = tt;
      said = tt;
      stopped = subst Stopped (sym (append-nil text)) stopped;
      no_memory = λ same. absurd (cc);
    }

-- what was written
pub returns-in_err-text-clause-bounded : goal.returns-in_err-text-clause-bounded
returns-in_err-text-clause-bounded g c = omega arith

pub returns-in_err-next-clause-bounded : goal.returns-in_err-next-clause-bounded
returns-in_err-next-clause-bounded g c = c.in_err-next.ensures.written.1

pub returns-in-Ok-clause-bounded : goal.returns-in-Ok-clause-bounded
returns-in-Ok-clause-bounded g c = omega (arith, c.say_all.ensures.file.kept.written, c.in_ok-next.ensures.written)

pub returns-clause-bounded : goal.returns-clause-bounded
returns-clause-bounded g c = omega (arith, c.say_all.ensures.file.kept.written, c.in_ok-next.ensures.written)
