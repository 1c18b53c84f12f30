use Rattle.std.specs.Result.{result_err}
use Rattle.std.proofs.Common.{◌∙◌, ◌++◌, append-nil, ap, get_or, refl}
use Rattle.std.proofs.lemmas.Option.{none-some}
use Rattle.std.proofs.lemmas.Result.{err_from_is_err_and}
use Rattle.pl_base.specs.Live.{slot_limit}
use Rattle.pl_desk.proofs.Moments.{shows_less}
use Rattle.pl_desk.proofs.AnyMoment.{left_alone}
use Rattle.pl_store.specs.Keeper.{is_file}
use Rattle.places.specs.Progress.{ended_entries}
use Rattle.places.specs.Stops.{ShowsAnswered}
use Rattle.places.proofs.PieceLemmas.{further, keeps, lacks, stops}
use Rattle.places.proofs.StopLemmas.{shows_here, shows_later}
use Rattle.places.proofs.script_run.ScriptRun.take_all.Goals as goal
use Rattle.places.proofs.script_run.ScriptRun.take_all.Goals.{else-byte-eq10+in_ok-keep, then-byte-eq10+in_ok-run}

pub loop-byte-init : goal.loop-byte-init
loop-byte-init g c = let desk = g.D.Desk in record {
  taken = record {
    at = λ start bytes begun at. rw append-nil at;
    kind = refl;
    kept = λ first kept. kept;
    shows = λ start bytes begun first at kept.
        shows_less desk c.args.desk.now c.args.desk.now
        (ShowsAnswered desk (is_file c.args.self.keeper) first slot_limit start (ended_entries bytes) begun)
        (ShowsAnswered desk (is_file c.args.self.keeper) first slot_limit start
        (ended_entries (bytes ++ c.args.piece.now)) begun)
        (shows_here desk g.met.D.Desk.only_now first start bytes begun c.args.self c.args.desk.now at kept)
        (shows_later desk (is_file c.args.self.keeper) first start bytes c.args.piece.now begun);
    writes = λ start bytes begun before at few. rw append-nil few;
    alone = λ memory. left_alone desk c.args.desk.now;
  };
  no_say_fault = refl;
  no_device_fault = refl;
}

-- the line ends with the byte, or goes on with it
pub loop-byte-preserved : goal.loop-byte-preserved
loop-byte-preserved g c = let desk = g.D.Desk in let is = c.loop-byte.invariant in
    let i = c.loop-byte.byte-index in let run = c.loop-byte.run in let now = c.loop-byte.desk in
    elim c.if-byte-eq10.branch [
      | then-byte-eq10+in_ok-run w ↦
          let did = w.in_ok-run.ensures in
          rw (w.run-is, w.desk-is) (record {
            taken =
                further desk c.args.self run w.in_ok-run.run' c.args.piece.now i c.args.desk.now now w.end_line.new.desk
                c.loop-byte-test.true is.taken (rw w.if-byte-eq10.true did.takes) did.serves.kind did.serves.kept
                did.serves.alone;
            no_say_fault = did.counted.says.stands (λ e. none-some _ (ap result_err e)) ∙ is.no_say_fault;
            no_device_fault = did.counted.device.stands (λ e. none-some _ (ap result_err e)) ∙ is.no_device_fault;
          })
      | else-byte-eq10+in_ok-keep w ↦
          let did = w.in_ok-keep.ensures in
          rw (w.run-is, w.desk-is) (record {
            taken =
                further desk c.args.self run w.keep.new.self c.args.piece.now i c.args.desk.now now now
                c.loop-byte-test.true is.taken
                (keeps desk g.met.D.Desk.only_now run w.keep.new.self (get_or c.args.piece.now i 0) now did.ok)
                (ap is_file did.keeper) (λ first kept. rw did.keeper kept) (λ memory. left_alone desk now);
            no_say_fault = is.no_say_fault;
            no_device_fault = is.no_device_fault;
          })
    ]

pub returns-in_err-run-clause-takes : goal.returns-in_err-run-clause-takes
returns-in_err-run-clause-takes g c = let is = c.loop-byte.invariant in
    let p = err_from_is_err_and c.from_residual.result c.from_residual.ensures.1 in
    rw (p.1, p.2)
    (stops g.D.Desk c.args.self c.loop-byte.run _ c.args.piece.now c.loop-byte.byte-index c.args.desk.now
    c.loop-byte.desk c.end_line.new.desk c.loop-byte-test.true is.taken
    (rw c.if-byte-eq10.true c.in_err-run.ensures.takes))

pub returns-in_err-keep-clause-takes : goal.returns-in_err-keep-clause-takes
returns-in_err-keep-clause-takes g c = let is = c.loop-byte.invariant in
    let p = err_from_is_err_and c.from_residual-in_err-keep.result c.from_residual-in_err-keep.ensures.1 in
    rw (p.1, p.2)
    (stops g.D.Desk c.args.self c.loop-byte.run _ c.args.piece.now c.loop-byte.byte-index c.args.desk.now
    c.loop-byte.desk c.loop-byte.desk c.loop-byte-test.true is.taken
    (lacks g.D.Desk g.met.D.Desk.only_now c.loop-byte.run (get_or c.args.piece.now c.loop-byte.byte-index 0)
    c.loop-byte.desk))
