use Rattle.std.proofs.Common.{◌≡◌, ◌*◌, ℕ, List, Some, length, ◌∙◌, subst, arith}
use Rattle.std.proofs.lemmas.Option.{MatchOption-at_some}
use Rattle.pl_base.specs.Touched.{page_size}
use Rattle.pl_desk.specs.Desk.{Follows, Torn}
use Rattle.pl_desk.specs.Overwritten.{torn_same}
use Rattle.pl_desk.specs.Shown.{ShowsStep}
use Rattle.pl_gate.specs.Gate.{entry_at}
use Rattle.pl_gate.proofs.Moments.{read_as, went}
use Rattle.pl_gate.proofs.journal.install_entry.Given.{Over}
use Rattle.pl_gate.proofs.journal.install_entry.Goals.{After-read_page, After-read_at, After-write_at}
use Rattle.pl_gate.proofs.journal.install_entry.Goals as goal

-- a write of the entry's page that a stop may cut short
abbrev Step : ℕ → List ℕ → List ℕ → List ℕ → Type 0
Step at file = Torn (page_size * (entry_at at file).page) page_size

number_shown : (g : Over) (c : After-read_page g) (file : List ℕ)
    → ShowsStep g.D.Desk c.args.desk.now c.read_page.new.desk (Step c.args.at file)
number_shown g c file =
    read_as g.D.Desk c.args.desk.now c.read_page.new.desk (Step c.args.at file)
    (torn_same (page_size * (entry_at c.args.at file).page) page_size) c.read_page.ensures.reads

read_left : (g : Over) (c : After-read_at g) (file : List ℕ)
    → Follows (Step c.args.at file) (g.D.Desk.may_leave c.args.desk.now) (g.D.Desk.may_leave c.read_at.new.self)
read_left g c file later left = (
  later,
  c.read_page.ensures.reads.file.left later (c.read_at.ensures.leaves later left),
  torn_same (page_size * (entry_at c.args.at file).page) page_size later,
)

image_shown : (g : Over) (c : After-read_at g) (file : List ℕ)
    → ShowsStep g.D.Desk c.args.desk.now c.read_at.new.self (Step c.args.at file)
image_shown g c file =
    let desk = g.D.Desk in
    went desk c.args.desk.now c.read_page.new.desk c.read_at.new.self (Step c.args.at file)
    (number_shown g c.before.before.before.before.before file) c.read_page.ensures.reads.line.said
    c.read_at.ensures.time (read_left g c file)

pub returns-in_err-page-clause-torn : goal.returns-in_err-page-clause-torn
returns-in_err-page-clause-torn g c file is = record {
  leaves = λ later left. (
    later,
    c.read_page.ensures.reads.file.left later left,
    torn_same (page_size * (entry_at c.args.at file).page) page_size later,
  );
  moments = number_shown g c.before.before.before file;
}

pub returns-in_err-read_at-clause-torn : goal.returns-in_err-read_at-clause-torn
returns-in_err-read_at-clause-torn g c file is = let read = c.before.before.before.before in
    record { leaves = read_left g read file; moments = image_shown g read file }

written_left : (g : Over) (c : After-write_at g) (file : List ℕ) → g.D.Desk.held c.args.desk.now ≡ Some file
    → Follows (Step c.args.at file) (g.D.Desk.may_leave c.args.desk.now) (g.D.Desk.may_leave c.write_at.new.self)
written_left g c file is later left =
    let number = MatchOption-at_some _ _ file is c.in_ok-page.ensures.page in
    let size : length c.read_at.new.out ≡ page_size = omega (arith, c.read_at.auto.out) in
    let whole =
    subst (λ (n : ℕ). Follows (Torn (page_size * c.in_ok-page.page) n) (g.D.Desk.may_leave c.read_at.new.self)
    (g.D.Desk.may_leave c.write_at.new.self)) size c.write_at.ensures.leaves in
    let torn =
    subst (λ (n : ℕ). Follows (Torn (page_size * n) page_size) (g.D.Desk.may_leave c.read_at.new.self)
    (g.D.Desk.may_leave c.write_at.new.self)) number whole in
    let from = torn later left in
    (from.0, c.read_page.ensures.reads.file.left from.0 (c.read_at.ensures.leaves from.0 from.1), from.2)

written_shown : (g : Over) (c : After-write_at g) (file : List ℕ) → g.D.Desk.held c.args.desk.now ≡ Some file
    → ShowsStep g.D.Desk c.args.desk.now c.write_at.new.self (Step c.args.at file)
written_shown g c file is =
    let desk = g.D.Desk in
    went desk c.args.desk.now c.read_at.new.self c.write_at.new.self (Step c.args.at file)
    (image_shown g c.before.before.before.before.before.before file)
    (c.read_at.ensures.said ∙ c.read_page.ensures.reads.line.said) c.write_at.ensures.time
    (written_left g c file is)

pub returns-in_err-write_at-clause-torn : goal.returns-in_err-write_at-clause-torn
returns-in_err-write_at-clause-torn g c file is = let wrote = c.before.before.before in
    record { leaves = written_left g wrote file is; moments = written_shown g wrote file is }

pub returns-clause-torn : goal.returns-clause-torn
returns-clause-torn g c file is = let wrote = c.before.before in
    record { leaves = written_left g wrote file is; moments = written_shown g wrote file is }
