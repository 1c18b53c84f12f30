use Rattle.std.proofs.Common.{◌≡◌, ℕ, List, [], length, inl, inr, sym, ◌∙◌, subst}
use Rattle.std.proofs.lemmas.Result.{on_ok_weaker}
use Rattle.pl_base.specs.Touched.{Change, changed, bytes_before}
use Rattle.pl_desk.proofs.AnyMoment.{and_more, weaker}
use Rattle.pl_desk.specs.Shown.{AtAnyMoment, Rests}
use Rattle.pl_gate.specs.Gate.{Holds}
use Rattle.pl_gate.specs.States.{HoldsEither, IsArmed, IsClosed, IsInstalled, IsStaged}
use Rattle.pl_gate.proofs.gate.Gate.commit.Given.{Over}
use Rattle.pl_gate.proofs.gate.Gate.commit.Goals.{After-arm, After-install, After-disarm}
use Rattle.pl_gate.proofs.gate.Gate.commit.Goals as goal

abbrev Before : (g : Over) → After-arm g → List ℕ → Type 0
Before g c pages =
    Rests g.D.Desk c.args.self.now.desk.now (IsClosed pages) × (length pages ≡ bytes_before c.args.touched.now.before)

is_staged : (g : Over) (c : After-arm g) (pages : List ℕ) → Before g c pages
    → Rests g.D.Desk c.stage.new.self.desk.now (IsStaged c.in_ok-staged.staged pages)
is_staged g c pages (rests, len) =
    subst (λ (change : Change). Rests g.D.Desk c.stage.new.self.desk.now (IsStaged change pages))
    (sym c.in_ok-staged.ensures.change) (c.in_ok-staged.ensures.staged pages rests len)

arm_shown : (g : Over) (c : After-arm g) (pages : List ℕ) → Before g c pages
    → AtAnyMoment g.D.Desk c.args.self.now.desk.now c.arm.new.self.desk.now (HoldsEither c.args.touched.now pages)
arm_shown g c pages (rests, len) =
    let desk = g.D.Desk in let old = c.args.self.now.desk.now in let change = c.args.touched.now in
    let mid = c.stage.new.self.desk.now in
    and_more desk old mid c.arm.new.self.desk.now (HoldsEither change pages) (HoldsEither c.in_ok-staged.staged pages)
    c.stage.ensures.calls.line.said
    (weaker desk old mid (Holds pages) (HoldsEither change pages) (c.stage.ensures.any_moment pages rests len)
    (λ file holds. inl holds))
    (c.arm.ensures.any_moment pages (is_staged g c pages (rests, len)))
    (λ file either. subst (λ (ch : Change). HoldsEither ch pages file) c.in_ok-staged.ensures.change either)

pub returns-in_err-armed-clause-any_moment : goal.returns-in_err-armed-clause-any_moment
returns-in_err-armed-clause-any_moment g c pages rests len = arm_shown g c.before.before.before pages (rests, len)

-- from one state to the next, over the same pages
is_armed : (g : Over) (c : After-install g) (pages : List ℕ)
    → Rests g.D.Desk c.stage.new.self.desk.now (IsStaged c.in_ok-staged.staged pages)
    → Rests g.D.Desk c.arm.new.self.desk.now (IsArmed c.in_ok-armed.armed (changed c.args.touched.now pages))
is_armed g c pages rests =
    let desk = g.D.Desk in let new = c.arm.new.self.desk.now in
    subst (λ (change : Change). Rests desk new (IsArmed c.in_ok-armed.armed (changed change pages)))
    c.in_ok-staged.ensures.change
    (subst (λ (change : Change). Rests desk new (IsArmed change (changed c.in_ok-staged.staged pages)))
    (sym c.in_ok-armed.ensures.change) (c.in_ok-armed.ensures.armed pages rests))

is_installed : (g : Over) (c : After-disarm g) (pages : List ℕ)
    → Rests g.D.Desk c.stage.new.self.desk.now (IsStaged c.in_ok-staged.staged pages)
    → Rests g.D.Desk c.install.new.self.desk.now
    (IsInstalled c.in_ok-installed.installed (changed c.args.touched.now pages))
is_installed g c pages rests =
    let desk = g.D.Desk in let new = c.install.new.self.desk.now in let after = changed c.args.touched.now pages in
    subst (λ (change : Change). Rests desk new (IsInstalled change after)) (sym c.in_ok-installed.ensures.change)
    (c.in_ok-installed.ensures.installed after (is_armed g c.before.before.before.before pages rests))

install_shown : (g : Over) (c : After-install g) (pages : List ℕ) → Before g c.before.before.before.before pages
    → AtAnyMoment g.D.Desk c.args.self.now.desk.now c.install.new.self.desk.now (HoldsEither c.args.touched.now pages)
install_shown g c pages before =
    let desk = g.D.Desk in let change = c.args.touched.now in let first = c.before.before.before.before in
    and_more desk c.args.self.now.desk.now c.arm.new.self.desk.now c.install.new.self.desk.now
    (HoldsEither change pages) (Holds (changed change pages)) (c.arm.ensures.calls.line.said ∙ c.stage.ensures.calls.line.said)
    (arm_shown g first pages before)
    (c.install.ensures.any_moment (changed change pages) (is_armed g c pages (is_staged g first pages before)))
    (λ file holds. inr holds)

disarm_shown : (g : Over) (c : After-disarm g) (pages : List ℕ)
    → Before g c.before.before.before.before.before.before.before.before pages
    → AtAnyMoment g.D.Desk c.args.self.now.desk.now c.disarm.new.self.desk.now (HoldsEither c.args.touched.now pages)
disarm_shown g c pages before =
    let desk = g.D.Desk in let change = c.args.touched.now in let second = c.before.before.before.before in
    and_more desk c.args.self.now.desk.now c.install.new.self.desk.now c.disarm.new.self.desk.now
    (HoldsEither change pages) (Holds (changed change pages))
    (c.install.ensures.calls.line.said ∙ c.arm.ensures.calls.line.said ∙ c.stage.ensures.calls.line.said)
    (install_shown g second pages before)
    (c.disarm.ensures.any_moment (changed change pages)
    (is_installed g c pages (is_staged g second.before.before.before.before pages before)))
    (λ file holds. inr holds)

pub returns-in_err-installed-clause-any_moment : goal.returns-in_err-installed-clause-any_moment
returns-in_err-installed-clause-any_moment g c pages rests len =
    install_shown g c.before.before.before pages (rests, len)

pub returns-clause-any_moment : goal.returns-clause-any_moment
returns-clause-any_moment g c pages rests len = disarm_shown g c pages (rests, len)

pub returns-clause-closed : goal.returns-clause-closed
returns-clause-closed g c =
    let desk = g.D.Desk in let mid = c.stage.new.self.desk.now in
    on_ok_weaker c.disarm.result (λ closed. record {
      closed = λ pages rests len. closed (changed c.args.touched.now pages) (is_installed g c pages
          (is_staged g c.before.before.before.before.before.before.before.before pages (rests, len)));
      closed_empty = λ empty one some. closed (changed c.args.touched.now []) (is_installed g c []
          (subst (λ (change : Change). Rests desk mid (IsStaged change [])) (sym c.in_ok-staged.ensures.change)
          (c.in_ok-staged.ensures.staged_empty empty one some)));
    }) c.disarm.ensures.closed
