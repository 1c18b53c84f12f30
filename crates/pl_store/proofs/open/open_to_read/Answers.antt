use Rattle.std.proofs.Common.{◌≡◌, ℕ, ◌+◌, ◌≤◌, List, Some, IsSome, inr, sym, ◌∙◌, subst}
use Rattle.pl_base.specs.Store.{Store}
use Rattle.pl_desk.proofs.AnyMoment.{some_said}
use Rattle.pl_desk.proofs.Moments.{shows_less}
use Rattle.pl_desk.proofs.SettlingLaws.{settles_less, settles_on}
use Rattle.pl_desk.specs.Settling.{Settles}
use Rattle.pl_desk.specs.Shown.{Unsaid}
use Rattle.pl_gate.specs.Recovery.{StandsAs}
use Rattle.pl_store.specs.Bounds.{reopening_bytes}
use Rattle.pl_store.specs.Ending.{StaysAmong}
use Rattle.pl_store.specs.Session.{LeavesOneOf, StandsAlike}
use Rattle.pl_store.proofs.OpenedAgain.{one_of, stays_among}
use Rattle.pl_store.proofs.OpenedFiles.{fault_ends, opens, stands_alike, writes_none}
use Rattle.pl_store.proofs.open.open_to_read.Given.{Over}
use Rattle.pl_store.proofs.open.open_to_read.Goals as goal

pub returns-clause-ends : goal.returns-clause-ends
returns-clause-ends g c =
    let settle = c.in_ok-settle.ensures in
    opens g.D.Desk g.met.D.Desk.told_together c.args.desk.now c.settle.new.desk c.read_store.new.desk
    settle.settles.settled settle.settles.good c.settle.ensures.calls.line c.read_store.ensures.reads c.read_store.result c.read_store.ensures.ends

-- what a stop within the settling shows
settle_shown : (g : Over) {Fault Fault' : Type 0} (old mid : g.row.D.Denot) (file : List ℕ)
    → Settles g.D.Desk Fault old mid (StandsAs file) → (Fault → Fault')
    → Settles g.D.Desk Fault' old mid (StandsAlike file)
settle_shown g old mid file settles fault =
    settles_less g.D.Desk old mid (StandsAs file) (StandsAlike file) settles fault
    (λ later as_file. stands_alike file later as_file)

pub returns-in_err-settle-clause-any_moment : goal.returns-in_err-settle-clause-any_moment
returns-in_err-settle-clause-any_moment g c file is =
    settle_shown g c.args.desk.now c.settle.new.desk file (c.in_err-settle.ensures.any_moment file is)
    (fault_ends c.in_err-settle.field-0.0 c.from_residual.result c.from_residual.ensures.1)

pub returns-clause-any_moment : goal.returns-clause-any_moment
returns-clause-any_moment g c file is =
    let desk = g.D.Desk in let old = c.args.desk.now in let mid = c.settle.new.desk in
    let new = c.read_store.new.desk in let line = c.settle.ensures.calls.line in
    let P = Unsaid desk old (desk.may_leave old) in let Q = Unsaid desk old (StandsAlike file) in
    let rests = c.in_ok-settle.ensures.settles.settled file is in
    let some = some_said desk old file (g.met.D.Desk.told_together old) is in
    let alike : (later : List ℕ) → desk.may_leave mid later → StandsAlike file later = λ later may.
    subst (StandsAlike file) (sym (rests.only later may)) (stands_alike file rests.file rests.has.stands) in
    inr (settles_on desk old mid new P Q (λ fault. fault)
    (settle_shown g old mid file (c.in_ok-settle.ensures.any_moment file is) (λ fault. absurd (cc)))
    (shows_less desk mid new (Unsaid desk mid (desk.may_leave mid)) Q
    (c.read_store.ensures.reads.shows (subst IsSome (sym line.said) some))
    (λ later shown shows. (alike later shows.0, sym line.said ∙ shows.1))))

pub returns-in_err-settle-clause-finished : goal.returns-in_err-settle-clause-finished
returns-in_err-settle-clause-finished g c file is unset = let settle = c.settle.ensures.settles in (
  settle.unset file is unset,
  writes_none file (g.D.Desk.written c.args.desk.now) (g.D.Desk.written c.settle.new.desk) unset settle.no_less
      (settle.no_more file is),
)

pub returns-clause-finished : goal.returns-clause-finished
returns-clause-finished g c file is unset =
    let settle = c.settle.ensures.settles in let read = c.read_store.ensures.reads.file in (
      read.held ∙ settle.unset file is unset,
      read.written ∙ writes_none file (g.D.Desk.written c.args.desk.now) (g.D.Desk.written c.settle.new.desk) unset
          settle.no_less (settle.no_more file is),
    )

pub returns-in_err-settle-clause-no_more : goal.returns-in_err-settle-clause-no_more
returns-in_err-settle-clause-no_more g c file is = c.settle.ensures.settles.no_more file is

pub returns-clause-no_more : goal.returns-clause-no_more
returns-clause-no_more g c file is =
    subst (λ (n : ℕ). n ≤ g.D.Desk.written c.args.desk.now + reopening_bytes file)
    (sym c.read_store.ensures.reads.file.written) (c.settle.ensures.settles.no_more file is)

-- ---- openings that are stopped

again : (g : Over) {Fault : Type 0} (old new : g.row.D.Denot) (file : List ℕ) (stores : List Store)
    → g.D.Desk.held old ≡ Some file → g.D.Desk.said new ≡ g.D.Desk.said old → LeavesOneOf g.D.Desk stores old
    → Settles g.D.Desk Fault old new (StandsAlike file) → StaysAmong g.D.Desk stores old new
again g old new file stores is line left settles =
    let laws = g.met.D.Desk in
    stays_among g.D.Desk laws.only_now laws.shown_now laws.counts_now old new stores file
    (some_said g.D.Desk old file (laws.told_together old) is) line is left settles

pub returns-in_err-settle-clause-again : goal.returns-in_err-settle-clause-again
returns-in_err-settle-clause-again g c file stores is left =
    again g c.args.desk.now c.settle.new.desk file stores is c.settle.ensures.calls.line.said left
    (returns-in_err-settle-clause-any_moment g c file is)

pub returns-clause-again : goal.returns-clause-again
returns-clause-again g c file stores is left =
    again g c.args.desk.now c.read_store.new.desk file stores is
    (c.read_store.ensures.reads.line.said ∙ c.settle.ensures.calls.line.said) left
    (returns-clause-any_moment g c file is)

pub returns-in_err-settle-clause-one : goal.returns-in_err-settle-clause-one
returns-in_err-settle-clause-one g c = one_of

pub returns-clause-one : goal.returns-clause-one
returns-clause-one g c = one_of
