use Rattle.std.proofs.Common.{◌≡◌, ◌++◌, IsSome, inr, refl, true, sym, subst}
use Rattle.pl_base.specs.Live.{slot_limit}
use Rattle.pl_base.proofs.Truths.{some_there}
use Rattle.pl_desk.proofs.AnyMoment.{held_left}
use Rattle.pl_step.specs.Run.{replies, after}
use Rattle.places.specs.Ending.{LeavesAtEnd}
use Rattle.places.specs.declared.status.Status.TheVariants as status
use Rattle.places.specs.Said.{texts}
use Rattle.trials_stored.proofs.AgainLemmas.{goes_on, left_by, said_by}
use Rattle.trials_stored.proofs.made.run_again.Goals as goal

pub returns-in-DeviceFault : goal.returns-in-DeviceFault
returns-in-DeviceFault g c = record {
  goes_on =
      λ done start stands one two before told told_too begun.
      let desk = g.D.Desk in let old = c.args.desk.now in let mid = c.run.new.desk in
      let new = c.run-in-DeviceFault.new.desk in
      let left = g.S.Source.left in
      let some : IsSome (desk.said old) = subst IsSome (sym begun) refl in
      let file = some_there (desk.held old) ((g.met.D.Desk.told_together old).1 some) in
      let in_first = held_left desk g.met.D.Desk.only_now g.met.D.Desk.shown_now old file.0 some file.1 in
      let ends : LeavesAtEnd desk status.DeviceFault true old start one before (left c.run.new.input) mid =
      rw c.in-DeviceFault.is at (c.run.ensures.ends true start
      (inr (refl, refl, (file.0, file.1, stands file.0 in_first))) one before told begun) in
      let some_mid = said_by desk old start one before (left c.run.new.input) mid ends in
      let later = some_there (desk.held mid) ((g.met.D.Desk.told_together mid).1 some_mid) in
      let in_mid = held_left desk g.met.D.Desk.only_now g.met.D.Desk.shown_now mid later.0 some_mid later.1 in
      let here = left_by desk old start one before (left c.run.new.input) mid stands ends later.0 in_mid in
      let line = before ++ texts (replies slot_limit start here.answered) in
      let is : c.run-in-DeviceFault.result ≡ status.Done = cc in
      let last : LeavesAtEnd desk status.Done true mid (after slot_limit start here.done) two line
      (left c.run-in-DeviceFault.new.input) new =
      rw is at (c.run-in-DeviceFault.ensures.ends true (after slot_limit start here.done)
      (inr (refl, refl, (later.0, later.1, here.stands))) two line told_too here.text) in
      goes_on desk mid start two before (desk.said mid) later.0 here (left c.run-in-DeviceFault.new.input) new last;
}
