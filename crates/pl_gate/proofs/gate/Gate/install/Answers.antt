use Rattle.std.specs.Option.{option_map}
use Rattle.std.proofs.Common.{◌≡◌, List, ℕ, sym, ◌∙◌, ap, subst}
use Rattle.pl_base.specs.Touched.{Change}
use Rattle.pl_desk.specs.Desk.{Follows}
use Rattle.pl_desk.proofs.AnyMoment.{and_call, rests_synced}
use Rattle.pl_desk.specs.Shown.{AtAnyMoment, Rests, ShowsStep}
use Rattle.pl_gate.specs.Device.{TornIn, image_ranges, with_images}
use Rattle.pl_gate.specs.Gate.{Holds}
use Rattle.pl_gate.specs.States.{IsArmed, IsInstalled}
use Rattle.pl_gate.proofs.Moments.{from_rest}
use Rattle.pl_gate.proofs.ArmedFiles.{armed_torn, installed}
use Rattle.pl_gate.proofs.gate.Gate.install.Given.{Over}
use Rattle.pl_gate.proofs.gate.Gate.install.Goals.{After-write_images, After-sync}
use Rattle.pl_gate.proofs.gate.Gate.install.Goals as goal

-- whatever the images' writes leave is armed
left : (g : Over) (c : After-write_images g) (pages : List ℕ)
    → Rests g.D.Desk c.args.self.now.desk.now (IsArmed c.args.armed pages)
    → (file : List ℕ) → g.D.Desk.may_leave c.args.self.now.desk.now file → (next : List ℕ)
    → TornIn (image_ranges c.args.armed.pages) file next → IsArmed c.args.armed pages next
left g c pages rests file may next torn = let change = c.args.armed in
    armed_torn change pages file (subst (IsArmed change pages) (sym (rests.only file may)) rests.has) next torn

written : (g : Over) (c : After-write_images g) (pages : List ℕ)
    → Rests g.D.Desk c.args.self.now.desk.now (IsArmed c.args.armed pages)
    → AtAnyMoment g.D.Desk c.args.self.now.desk.now c.write_images.new.desk (Holds pages)
written g c pages rests =
    let desk = g.D.Desk in let old = c.args.self.now.desk.now in let change = c.args.armed in
    from_rest desk old c.write_images.new.desk (IsArmed change pages) (Holds pages) (TornIn (image_ranges change.pages))
    (g.met.D.Desk.told_together old) rests
    (subst (λ (ch : Change). ShowsStep desk old c.write_images.new.desk (TornIn (image_ranges ch.pages)))
    c.armed.view_is c.write_images.ensures.torn.moments)
    (λ file may next torn. (left g c pages rests file may next torn).holds)

synced : (g : Over) (c : After-sync g) (pages : List ℕ)
    → Rests g.D.Desk c.args.self.now.desk.now (IsArmed c.args.armed pages)
    → AtAnyMoment g.D.Desk c.args.self.now.desk.now c.sync.new.self (Holds pages)
synced g c pages rests =
    let desk = g.D.Desk in let old = c.args.self.now.desk.now in let mid = c.write_images.new.desk in
    and_call desk old mid c.sync.new.self (Holds pages) c.write_images.ensures.calls.line.said
    (written g c.before.before.before.before pages rests) c.sync.ensures.time
    (λ file may.
    let leaves =
    subst (λ (ch : Change). Follows (TornIn (image_ranges ch.pages)) (desk.may_leave old) (desk.may_leave mid))
    c.armed.view_is c.write_images.ensures.torn.leaves in
    let from = leaves file (c.sync.ensures.leaves file may) in
    (left g c.before.before.before.before pages rests from.0 from.1 file from.2).holds)

pub returns-in_err-write_images-clause-any_moment : goal.returns-in_err-write_images-clause-any_moment
returns-in_err-write_images-clause-any_moment g c pages rests = written g c.before.before.before pages rests

pub returns-in_err-sync-clause-any_moment : goal.returns-in_err-sync-clause-any_moment
returns-in_err-sync-clause-any_moment g c pages rests = synced g c.before.before.before pages rests

pub returns-clause-any_moment : goal.returns-clause-any_moment
returns-clause-any_moment g c pages rests = synced g c.before.before pages rests

pub returns-clause-installed : goal.returns-clause-installed
returns-clause-installed g c pages rests =
    let desk = g.D.Desk in let new = c.sync.new.self in let change = c.args.armed in
    let held =
    subst (λ (ch : Change). desk.held c.write_images.new.desk
    ≡ option_map (with_images ch.pages) (desk.held c.args.self.now.desk.now)) c.armed.view_is
    c.in_ok-write_images.ensures.held in
    let written = held ∙ ap (option_map (with_images change.pages)) rests.is_held in
    rests_synced desk c.write_images.new.desk new (IsInstalled change pages) (with_images change.pages rests.file)
    c.sync.ensures.held written c.in_ok-sync.ensures.durable (installed change pages rests.file rests.has)
