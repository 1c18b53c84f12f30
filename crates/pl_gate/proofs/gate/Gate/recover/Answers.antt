use Rattle.std.proofs.Common.{◌≡◌, List, ℕ, Option, Some, IfSome, IsSome, inr, refl, ◌∙◌, subst, sym}
use Rattle.std.proofs.lemmas.Option.{MatchOption-at_some}
use Rattle.pl_desk.proofs.AnyMoment.{and_more, read_call, read_on, reads_none, some_said, weaker}
use Rattle.pl_desk.proofs.SettlingLaws.{settles_at}
use Rattle.pl_desk.specs.Calls.{OnlyReads}
use Rattle.pl_desk.specs.Desk.{Only}
use Rattle.pl_desk.specs.Settling.{IsFirstSync, TurnsTo}
use Rattle.pl_desk.specs.Shown.{AtAnyMoment, Unsaid}
use Rattle.pl_gate.specs.Recovery.{StandsAs}
use Rattle.pl_gate.proofs.gate.Gate.recover.Given.{Over}
use Rattle.pl_gate.proofs.gate.Gate.recover.Goals.{After-len, After-read_gate_page, After-check_journal, After-clear_gate}
use Rattle.pl_gate.proofs.gate.Gate.recover.Goals as goal

abbrev Held : (g : Over) → After-len g → List ℕ → Type 0
Held g c file = g.D.Desk.held c.args.self.now.desk.now ≡ Some file

some : (g : Over) (old : g.row.D.Denot) (file : List ℕ) → g.D.Desk.held old ≡ Some file → IsSome (g.D.Desk.said old)
some g old file is = some_said g.D.Desk old file (g.met.D.Desk.told_together old) is

-- ---- the first sync

-- it leaves the file, as a read does
sync_read : (g : Over) (c : After-len g) → OnlyReads g.D.Desk c.args.self.now.desk.now c.sync.new.self
sync_read g c = let desk = g.D.Desk in let old = c.args.self.now.desk.now in let sync = c.sync.ensures in
    read_call desk old old c.sync.new.self (reads_none desk g.met.D.Desk.only_now old) sync.held sync.said sync.written
    sync.line sync.leaves sync.time

is_first : (g : Over) (c : After-len g) → IsFirstSync g.D.Desk c.args.self.now.desk.now c.sync.new.self
is_first g c = let reads = sync_read g c in record {
  file = reads.file;
  line = reads.line;
  durable =
      subst (λ (held : Option (List ℕ)). IfSome held (λ f. Only f (g.D.Desk.may_leave c.sync.new.self)))
      (sym reads.file.held) c.in_ok-sync.ensures.durable;
}

-- what is shown turns at its end
turns : (g : Over) (c : After-len g) (new : g.row.D.Denot) (file : List ℕ) → Held g c file
    → AtAnyMoment g.D.Desk c.sync.new.self new (StandsAs file)
    → TurnsTo g.D.Desk c.args.self.now.desk.now new
    (Unsaid g.D.Desk c.args.self.now.desk.now (g.D.Desk.may_leave c.args.self.now.desk.now))
    (Unsaid g.D.Desk c.args.self.now.desk.now (StandsAs file))
turns g c new file is since =
    settles_at g.D.Desk c.args.self.now.desk.now c.sync.new.self new (StandsAs file) (is_first g c)
    ((sync_read g c).shows (some g c.args.self.now.desk.now file is)) since

-- ---- behind it

len_read : (g : Over) (c : After-len g) → OnlyReads g.D.Desk c.sync.new.self c.len.new.self
len_read g c = let desk = g.D.Desk in let turn = c.sync.new.self in let len = c.len.ensures in
    read_call desk turn turn c.len.new.self (reads_none desk g.met.D.Desk.only_now turn) len.held len.said len.written
    len.line len.leaves len.time

told_read : (g : Over) (c : After-read_gate_page g) → OnlyReads g.D.Desk c.sync.new.self c.read_gate_page.new.desk
told_read g c =
    read_on g.D.Desk c.sync.new.self c.len.new.self c.read_gate_page.new.desk
    (len_read g c.before.before.before.before.before) c.read_gate_page.ensures.reads

journal_read : (g : Over) (c : After-check_journal g) → OnlyReads g.D.Desk c.sync.new.self c.check_journal.new.desk
journal_read g c =
    read_on g.D.Desk c.sync.new.self c.read_gate_page.new.desk c.check_journal.new.desk
    (told_read g c.before.before.before.before.before.before) c.check_journal.ensures.reads

-- reads show the file that the sync left, and no other
reads_shown : (g : Over) (c : After-len g) (new : g.row.D.Denot) (file : List ℕ) → Held g c file
    → OnlyReads g.D.Desk c.sync.new.self new → AtAnyMoment g.D.Desk c.sync.new.self new (StandsAs file)
reads_shown g c new file is reads = let desk = g.D.Desk in let turn = c.sync.new.self in
    weaker desk turn new (desk.may_leave turn) (StandsAs file) (reads.shows (some g turn file (c.sync.ensures.held ∙ is)))
    (λ later may. subst (StandsAs file)
    (sym (MatchOption-at_some _ _ file is c.in_ok-sync.ensures.durable later may))
    (record { gate = refl; laid = refl }))

-- where it stands behind the writes
abbrev at_len : (g : Over) (c : After-clear_gate g) → After-len g
at_len g c =
    let checked = c.before.before.before.before.before in
    checked.before.before.before.before.before.before.before.before.before.before.before

-- the images are written and the gate is cleared
gate_shown : (g : Over) (c : After-clear_gate g) (file : List ℕ) → g.D.Desk.held c.args.self.now.desk.now ≡ Some file
    → TurnsTo g.D.Desk c.args.self.now.desk.now c.clear_gate.new.desk
    (Unsaid g.D.Desk c.args.self.now.desk.now (g.D.Desk.may_leave c.args.self.now.desk.now))
    (Unsaid g.D.Desk c.args.self.now.desk.now (StandsAs file))
gate_shown g c file is =
    let desk = g.D.Desk in let turn = c.sync.new.self in let mid = c.check_journal.new.desk in
    let checked = c.before.before.before.before.before in
    let first = at_len g c in
    let reads = journal_read g checked in
    turns g first c.clear_gate.new.desk file is
    (and_more desk turn mid c.clear_gate.new.desk (StandsAs file) (StandsAs file) reads.line.said
    (reads_shown g first mid file is reads)
    (c.clear_gate.ensures.any_moment file (reads.file.held ∙ c.sync.ensures.held ∙ is)) (λ later stands. stands))

pub returns-in_err-len-clause-any_moment : goal.returns-in_err-len-clause-any_moment
returns-in_err-len-clause-any_moment g c file is =
    let first = c.before.before.before in
    inr (turns g first _ file is (reads_shown g first _ file is (len_read g first)))

pub returns-then-len-clause-any_moment : goal.returns-then-len-clause-any_moment
returns-then-len-clause-any_moment g c file is =
    let first = c.before.before.before in
    inr (turns g first _ file is (reads_shown g first _ file is (len_read g first)))

pub returns-in_err-told-clause-any_moment : goal.returns-in_err-told-clause-any_moment
returns-in_err-told-clause-any_moment g c file is =
    let told = c.before.before.before in let first = told.before.before.before.before.before in
    inr (turns g first _ file is (reads_shown g first _ file is (told_read g told)))

pub returns-else-told-clause-any_moment : goal.returns-else-told-clause-any_moment
returns-else-told-clause-any_moment g c file is =
    let told = c.before.before.before in let first = told.before.before.before.before.before in
    inr (turns g first _ file is (reads_shown g first _ file is (told_read g told)))

pub returns-in_err-check_journal-clause-any_moment : goal.returns-in_err-check_journal-clause-any_moment
returns-in_err-check_journal-clause-any_moment g c file is =
    let checked = c.before.before.before in
    let first = checked.before.before.before.before.before.before.before.before.before.before.before in
    inr (turns g first _ file is (reads_shown g first _ file is (journal_read g checked)))

pub returns-in_err-clear_gate-clause-any_moment : goal.returns-in_err-clear_gate-clause-any_moment
returns-in_err-clear_gate-clause-any_moment g c file is = inr (gate_shown g c.before.before.before file is)

pub returns-in_ok-clear_gate-clause-any_moment : goal.returns-in_ok-clear_gate-clause-any_moment
returns-in_ok-clear_gate-clause-any_moment g c file is = inr (gate_shown g c.before.before file is)

pub returns-in_err-clear_gate-clause-synced : goal.returns-in_err-clear_gate-clause-synced
returns-in_err-clear_gate-clause-synced g c wrote = (c.sync.new.self, is_first g (at_len g c.before.before.before))

pub returns-in_ok-clear_gate-clause-synced : goal.returns-in_ok-clear_gate-clause-synced
returns-in_ok-clear_gate-clause-synced g c wrote = (c.sync.new.self, is_first g (at_len g c.before.before))
