use Rattle.std.specs.Result.{result_err}
use Rattle.std.proofs.Common.{◌∙◌, [], ap, sym, length, arith, refl, subst, take, ℕ, List, Option, Some}
use Rattle.pl_base.specs.Live.{slot_limit}
use Rattle.std.proofs.lemmas.Option.{none-some}
use Rattle.std.proofs.lemmas.Result.{err_from_is_err_and}
use Rattle.pl_desk.proofs.AnyMoment.{alone_on, left_alone}
use Rattle.pl_store.specs.declared.keeper.Keeper.{Keeper}
use Rattle.pl_store.specs.Keeper.{is_file, keeper_store}
use Rattle.pl_store.proofs.KeeperLaws.{kept_keeps}
use Rattle.places.specs.Progress.{IsAt, ended_entries}
use Rattle.places.proofs.BoundLemmas.{writes_at_end, writes_in_piece, writes_none, writes_piece, writes_so_far}
use Rattle.places.proofs.EndingLemmas.{empty_piece, ends_done, ends_last, ends_piece, ends_reading, ends_too_long}
use Rattle.places.proofs.EndingLemmas.{goes_on_behind, shows_begun, shows_last, shows_piece, starts_behind}
use Rattle.places.proofs.run_script.run_script.Goals as goal

pub loop-read-init : goal.loop-read-init
loop-read-init g c = let desk = g.D.Desk in let run = c.new-run.result in let start = keeper_store run.keeper in
    let all_left = g.S.Source.left c.args.input.now in
    let opens : (begun : Option (List ℕ)) → IsAt start [] begun run begun =
    subst (λ (keeper : Keeper). (begun : Option (List ℕ)) → IsAt (keeper_store keeper) [] begun run begun)
    (sym c.new-run.ensures.keeper) (c.new-run.ensures.at c.requires.limit) in
    record {
      told =
          λ bytes before all begun. starts_behind start bytes before all_left (desk.said c.args.desk.now) run opens all
          begun;
      shows = λ bytes before all begun first kept.
          shows_begun desk g.met.D.Desk.only_now first start 0 bytes before all_left run c.args.desk.now
          (starts_behind start bytes before all_left (desk.said c.args.desk.now) run opens all begun) kept;
      writes = λ bytes before all begun. writes_none slot_limit start (ended_entries (take 0 bytes))
          (desk.written c.args.desk.now) (desk.written c.args.desk.now) (omega arith);
      kind = refl;
      kept = λ first kept. kept;
      in_limit = omega arith;
      no_read_fault = refl;
      no_say_fault = refl;
      no_device_fault = refl;
      alone = λ memory. left_alone desk c.args.desk.now;
    }

pub returns-in_err-piece-clause-shows : goal.returns-in_err-piece-clause-shows
returns-in_err-piece-clause-shows g c = rw (← c.new-run.ensures.keeper) c.loop-read.invariant.shows

pub returns-in_err-finish-clause-shows : goal.returns-in_err-finish-clause-shows
returns-in_err-finish-clause-shows g c = rw (← c.new-run.ensures.keeper) (λ bytes before all begun first kept.
    let desk = g.D.Desk in let is = c.loop-read.invariant in let start = keeper_store c.new-run.result.keeper in
    let behind = is.told bytes before all begun in
    shows_last desk first start c.loop-read.read bytes before c.in_ok-piece.piece.items
    (g.S.Source.left c.loop-read.input) (is_file c.new-run.result.keeper) c.loop-read.run c.args.desk.now
    c.loop-read.desk c.finish.new.desk
    behind is.kind (c.in_ok-piece.ensures.ended (empty_piece _ c.in_ok-piece.piece.ok.0 (sym c.if-is_empty.ensures)))
    (is.shows bytes before all begun first kept)
    (c.finish.ensures.shows start (take c.loop-read.read bytes) before first behind.at (is.kept first kept)))

pub returns-then-is_empty-clause-shows : goal.returns-then-is_empty-clause-shows
returns-then-is_empty-clause-shows g c = rw (← c.new-run.ensures.keeper) (λ bytes before all begun first kept.
    let desk = g.D.Desk in let is = c.loop-read.invariant in let start = keeper_store c.new-run.result.keeper in
    let behind = is.told bytes before all begun in
    shows_last desk first start c.loop-read.read bytes before c.in_ok-piece.piece.items
    (g.S.Source.left c.loop-read.input) (is_file c.new-run.result.keeper) c.loop-read.run c.args.desk.now
    c.loop-read.desk c.finish.new.desk
    behind is.kind (c.in_ok-piece.ensures.ended (empty_piece _ c.in_ok-piece.piece.ok.0 (sym c.if-is_empty.ensures)))
    (is.shows bytes before all begun first kept)
    (c.finish.ensures.shows start (take c.loop-read.read bytes) before first behind.at (is.kept first kept)))

pub returns-in_err-run-clause-shows : goal.returns-in_err-run-clause-shows
returns-in_err-run-clause-shows g c = rw (← c.new-run.ensures.keeper) (λ bytes before all begun first kept.
    let desk = g.D.Desk in let is = c.loop-read.invariant in let start = keeper_store c.new-run.result.keeper in
    let behind = is.told bytes before all begun in
    shows_piece desk first start c.loop-read.read bytes before c.deref.result.now (g.S.Source.left c.loop-read.input)
    (g.S.Source.left c.next_piece.new.input) (is_file c.new-run.result.keeper) c.loop-read.run c.args.desk.now
    c.loop-read.desk c.take_all.new.desk
    behind is.kind (rw c.deref.ensures.value c.in_ok-piece.ensures.taken) (is.shows bytes before all begun first kept)
    (c.take_all.ensures.takes.shows start (take c.loop-read.read bytes) before first behind.at (is.kept first kept)))

pub loop-read-preserved : goal.loop-read-preserved
loop-read-preserved g c = let desk = g.D.Desk in let is = c.loop-read.invariant in
    let start = keeper_store c.new-run.result.keeper in let did = c.in_ok-run.ensures in record {
      told = λ bytes before all begun.
          rw (c.len-read.ensures ∙ sym c.deref.ensures.len)
          (goes_on_behind start c.loop-read.read bytes before c.deref.result.now (g.S.Source.left c.loop-read.input)
          (g.S.Source.left c.next_piece.new.input) (g.D.Desk.said c.loop-read.desk) (g.D.Desk.said c.take_all.new.desk)
          c.loop-read.run _ (is.told bytes before all begun)
          (rw c.deref.ensures.value c.in_ok-piece.ensures.taken) (did.takes.goes_on start));
      shows = λ bytes before all begun first kept. let behind = is.told bytes before all begun in
          shows_piece desk first start c.loop-read.read bytes before c.deref.result.now
          (g.S.Source.left c.loop-read.input)
          (g.S.Source.left c.next_piece.new.input) (is_file c.new-run.result.keeper) c.loop-read.run c.args.desk.now
          c.loop-read.desk c.take_all.new.desk
          behind is.kind (rw c.deref.ensures.value c.in_ok-piece.ensures.taken)
          (is.shows bytes before all begun first kept)
          (c.take_all.ensures.takes.shows start (take c.loop-read.read bytes) before first behind.at (is.kept first kept));
      writes = λ bytes before all begun. let behind = is.told bytes before all begun in
          rw (c.len-read.ensures ∙ sym c.deref.ensures.len)
          (writes_piece start (desk.written c.args.desk.now) c.loop-read.read bytes before c.deref.result.now (g.S.Source.left c.loop-read.input)
          (g.S.Source.left c.next_piece.new.input) (desk.said c.loop-read.desk) c.loop-read.run behind (desk.written c.take_all.new.desk)
          (rw c.deref.ensures.value c.in_ok-piece.ensures.taken)
          (did.takes.writes start (take c.loop-read.read bytes) (Some before) (desk.written c.args.desk.now) behind.at
          (is.writes bytes before all begun)));
      kind = did.serves.kind ∙ is.kind;
      kept = λ first kept. did.serves.kept first (is.kept first kept);
      in_limit = omega (arith, c.in_ok-piece.ensures.within, c.deref.ensures.len, ap length c.deref.ensures.value);
      no_read_fault = c.in_ok-piece.ensures.counted.stands (λ e. none-some _ (ap result_err e)) ∙ is.no_read_fault;
      no_say_fault = did.counted.says.stands (λ e. none-some _ (ap result_err e)) ∙ is.no_say_fault;
      no_device_fault = did.counted.device.stands (λ e. none-some _ (ap result_err e)) ∙ is.no_device_fault;
      alone =
          λ memory. alone_on desk c.args.desk.now c.loop-read.desk c.take_all.new.desk (is.alone memory)
          (did.serves.alone (is.kind ∙ memory));
    }

pub returns-clause-shows : goal.returns-clause-shows
returns-clause-shows g c = rw (← c.new-run.ensures.keeper) c.loop-read.invariant.shows

-- ---- what a run leaves at its end

pub returns-in_err-piece-clause-ends : goal.returns-in_err-piece-clause-ends
returns-in_err-piece-clause-ends g c =
    let p = err_from_is_err_and c.from_residual.result c.from_residual.ensures.1 in
    rw (p.1, p.2, ← c.new-run.ensures.keeper)
    (λ status ends bytes before all begun first kept. let desk = g.D.Desk in let is = c.loop-read.invariant in
    let start = keeper_store c.new-run.result.keeper in let kind = is_file c.new-run.result.keeper in
    let left = g.S.Source.left in let read = c.loop-read.read in
    let now = c.loop-read.desk in
    ends_reading desk kind first start read bytes before [] (left c.loop-read.input) (left c.next_piece.new.input)
    c.loop-read.run (desk.said now) now
    _ status c.in_err-piece.ensures.errors ends (is.told bytes before all begun) is.kind (is.kept first kept)
    c.loop-read-test.true c.in_err-piece.ensures.kept)

pub returns-in_err-finish-clause-ends : goal.returns-in_err-finish-clause-ends
returns-in_err-finish-clause-ends g c =
    let p = err_from_is_err_and c.from_residual-in_err-finish.result c.from_residual-in_err-finish.ensures.1 in
    rw (p.1, ← c.new-run.ensures.keeper)
    (λ status ends bytes before all begun first kept. let desk = g.D.Desk in let is = c.loop-read.invariant in
    let start = keeper_store c.new-run.result.keeper in let kind = is_file c.new-run.result.keeper in
    let left = g.S.Source.left in let read = c.loop-read.read in
    let now = c.loop-read.desk in let new = c.finish.new.desk in let behind = is.told bytes before all begun in
    ends_last desk kind first start read bytes before c.in_ok-piece.piece.items (left c.loop-read.input)
    (left c.next_piece.new.input) c.loop-read.run (desk.said now) new
    _ _ status p.2 ends behind is.kind c.loop-read-test.true
    (empty_piece _ c.in_ok-piece.piece.ok.0 (sym c.if-is_empty.ensures)) c.in_ok-piece.ensures.taken
    (c.in_ok-piece.ensures.ended (empty_piece _ c.in_ok-piece.piece.ok.0 (sym c.if-is_empty.ensures)))
    (c.in_err-finish.ensures.ends start (take read bytes) before first behind.at (is.kept first kept)))

pub returns-in_err-run-clause-ends : goal.returns-in_err-run-clause-ends
returns-in_err-run-clause-ends g c =
    let p = err_from_is_err_and c.from_residual-in_err-run.result c.from_residual-in_err-run.ensures.1 in
    rw (p.1, ← c.new-run.ensures.keeper)
    (λ status ends bytes before all begun first kept. let desk = g.D.Desk in let is = c.loop-read.invariant in
    let start = keeper_store c.new-run.result.keeper in let kind = is_file c.new-run.result.keeper in
    let left = g.S.Source.left in let read = c.loop-read.read in
    let now = c.loop-read.desk in let new = c.take_all.new.desk in let behind = is.told bytes before all begun in
    ends_piece desk kind first start read bytes before c.deref.result.now (left c.loop-read.input)
    (left c.next_piece.new.input) c.loop-read.run (desk.said now) new
    _ _ status p.2 ends behind is.kind
    (omega (arith, c.in_ok-piece.ensures.within, c.deref.ensures.len, ap length c.deref.ensures.value))
    (rw c.deref.ensures.value c.in_ok-piece.ensures.taken)
    (c.in_err-run.ensures.takes.ends start (take read bytes) before first behind.at (is.kept first kept)))

pub returns-then-is_empty-clause-ends : goal.returns-then-is_empty-clause-ends
returns-then-is_empty-clause-ends g c =
    rw (← c.new-run.ensures.keeper)
    (λ status ends bytes before all begun first kept. let desk = g.D.Desk in let is = c.loop-read.invariant in
    let start = keeper_store c.new-run.result.keeper in let kind = is_file c.new-run.result.keeper in
    let left = g.S.Source.left in let read = c.loop-read.read in
    let now = c.loop-read.desk in let new = c.finish.new.desk in let did = c.in_ok-finish.ensures in
    let keeper = c.in_ok-finish.field-0 in
    let nothing = empty_piece _ c.in_ok-piece.piece.ok.0 (sym c.if-is_empty.ensures) in
    ends_done desk kind first start read bytes before c.in_ok-piece.piece.items (left c.loop-read.input)
    (left c.next_piece.new.input) c.loop-read.run (desk.said now) new
    status (keeper_store keeper) ends (is.told bytes before all begun) c.loop-read-test.true nothing
    c.in_ok-piece.ensures.taken (c.in_ok-piece.ensures.ended nothing)
    (did.ok start) (did.store start)
    (rw (did.serves.kind, is.kind) at (kept_keeps desk keeper first new (did.serves.kept first (is.kept first kept)))))

pub returns-clause-ends : goal.returns-clause-ends
returns-clause-ends g c =
    rw (← c.new-run.ensures.keeper)
    (λ status ends bytes before all begun first kept. let desk = g.D.Desk in let is = c.loop-read.invariant in
    let start = keeper_store c.new-run.result.keeper in let kind = is_file c.new-run.result.keeper in
    let left = g.S.Source.left in let read = c.loop-read.read in
    let now = c.loop-read.desk in
    ends_too_long desk kind first start read bytes before [] (left c.loop-read.input) (left c.loop-read.input)
    c.loop-read.run (desk.said now) now
    status ends (is.told bytes before all begun) is.kind (is.kept first kept)
    (omega (arith, is.in_limit, c.loop-read-test.false)))

-- ---- what was written

pub returns-in_err-piece-clause-bounded : goal.returns-in_err-piece-clause-bounded
returns-in_err-piece-clause-bounded g c = rw (← c.new-run.ensures.keeper) (λ bytes before all begun.
    let desk = g.D.Desk in let is = c.loop-read.invariant in let start = keeper_store c.new-run.result.keeper in
    let left = g.S.Source.left in
    writes_so_far start (desk.written c.args.desk.now) c.loop-read.read bytes before [] (left c.loop-read.input) (left c.next_piece.new.input)
    (desk.said c.loop-read.desk) c.loop-read.run (is.told bytes before all begun) (desk.written c.loop-read.desk) c.in_err-piece.ensures.kept
    is.in_limit (is.writes bytes before all begun))

pub returns-in_err-finish-clause-bounded : goal.returns-in_err-finish-clause-bounded
returns-in_err-finish-clause-bounded g c = rw (← c.new-run.ensures.keeper) (λ bytes before all begun.
    let desk = g.D.Desk in let is = c.loop-read.invariant in let start = keeper_store c.new-run.result.keeper in
    let left = g.S.Source.left in let behind = is.told bytes before all begun in
    let nothing = empty_piece _ c.in_ok-piece.piece.ok.0 (sym c.if-is_empty.ensures) in
    writes_at_end start (desk.written c.args.desk.now) c.loop-read.read bytes before c.in_ok-piece.piece.items (left c.loop-read.input)
    (left c.next_piece.new.input) (desk.said c.loop-read.desk) c.loop-read.run behind (desk.written c.finish.new.desk) c.in_ok-piece.ensures.taken
    (c.in_ok-piece.ensures.ended nothing) nothing is.in_limit
    (c.finish.ensures.writes start (take c.loop-read.read bytes) (Some before) (desk.written c.args.desk.now) behind.at
    (is.writes bytes before all begun)))

pub returns-then-is_empty-clause-bounded : goal.returns-then-is_empty-clause-bounded
returns-then-is_empty-clause-bounded g c = rw (← c.new-run.ensures.keeper) (λ bytes before all begun.
    let desk = g.D.Desk in let is = c.loop-read.invariant in let start = keeper_store c.new-run.result.keeper in
    let left = g.S.Source.left in let behind = is.told bytes before all begun in
    let nothing = empty_piece _ c.in_ok-piece.piece.ok.0 (sym c.if-is_empty.ensures) in
    writes_at_end start (desk.written c.args.desk.now) c.loop-read.read bytes before c.in_ok-piece.piece.items (left c.loop-read.input)
    (left c.next_piece.new.input) (desk.said c.loop-read.desk) c.loop-read.run behind (desk.written c.finish.new.desk) c.in_ok-piece.ensures.taken
    (c.in_ok-piece.ensures.ended nothing) nothing is.in_limit
    (c.finish.ensures.writes start (take c.loop-read.read bytes) (Some before) (desk.written c.args.desk.now) behind.at
    (is.writes bytes before all begun)))

pub returns-in_err-run-clause-bounded : goal.returns-in_err-run-clause-bounded
returns-in_err-run-clause-bounded g c = rw (← c.new-run.ensures.keeper) (λ bytes before all begun.
    let desk = g.D.Desk in let is = c.loop-read.invariant in let start = keeper_store c.new-run.result.keeper in
    let left = g.S.Source.left in let behind = is.told bytes before all begun in
    writes_in_piece start (desk.written c.args.desk.now) c.loop-read.read bytes before c.deref.result.now (left c.loop-read.input)
    (left c.next_piece.new.input) (desk.said c.loop-read.desk) c.loop-read.run behind (desk.written c.take_all.new.desk)
    (rw c.deref.ensures.value c.in_ok-piece.ensures.taken)
    (omega (arith, c.in_ok-piece.ensures.within, c.deref.ensures.len, ap length c.deref.ensures.value))
    (c.take_all.ensures.takes.writes start (take c.loop-read.read bytes) (Some before) (desk.written c.args.desk.now) behind.at
    (is.writes bytes before all begun)))

pub returns-clause-bounded : goal.returns-clause-bounded
returns-clause-bounded g c = rw (← c.new-run.ensures.keeper) (λ bytes before all begun.
    let desk = g.D.Desk in let is = c.loop-read.invariant in let start = keeper_store c.new-run.result.keeper in
    let left = g.S.Source.left in
    writes_so_far start (desk.written c.args.desk.now) c.loop-read.read bytes before [] (left c.loop-read.input) (left c.loop-read.input)
    (desk.said c.loop-read.desk) c.loop-read.run (is.told bytes before all begun) (desk.written c.loop-read.desk) refl is.in_limit
    (is.writes bytes before all begun))
