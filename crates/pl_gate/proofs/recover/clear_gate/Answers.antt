use Rattle.std.specs.Option.{option_map}
use Rattle.std.proofs.Common.{◌≡◌, ℕ, List, Some, refl, ◌∙◌, ap, subst}
use Rattle.std.proofs.lemmas.Option.{MatchOption-at_some}
use Rattle.pl_desk.specs.Desk.{Torn}
use Rattle.pl_desk.proofs.AnyMoment.{and_call, rests_at, some_said}
use Rattle.pl_desk.specs.Shown.{AtAnyMoment, Rests}
use Rattle.pl_gate.specs.Device.{TornIn, image_ranges, with_gate, with_images}
use Rattle.pl_gate.specs.Gate.{journal}
use Rattle.pl_gate.specs.Recovery.{IsSettledAs, StandsAs}
use Rattle.pl_gate.proofs.Moments.{and_then, from_rest}
use Rattle.pl_gate.proofs.SettledFiles.{settled, torn_cleared, torn_stands}
use Rattle.pl_gate.proofs.recover.clear_gate.Given.{Over}
use Rattle.pl_gate.proofs.recover.clear_gate.Goals.{After-install_journal, After-sync, After-write_gate}
use Rattle.pl_gate.proofs.recover.clear_gate.Goals as goal

abbrev Held : (g : Over) → After-install_journal g → List ℕ → Type 0
Held g c file = g.D.Desk.held c.args.desk.now ≡ Some file

rests : (g : Over) (c : After-install_journal g) (file : List ℕ) → Held g c file
    → Rests g.D.Desk c.args.desk.now (λ f. f ≡ file)
rests g c file is =
    record { file = file; is_held = is; only = MatchOption-at_some _ _ file is c.requires.only; has = refl }

-- the images are written
stood : (g : Over) (c : After-install_journal g) (file : List ℕ) → Held g c file → (before : List ℕ)
    → g.D.Desk.may_leave c.args.desk.now before → (later : List ℕ) → TornIn (image_ranges (journal file)) before later
    → StandsAs file later
stood g c file is before may later torn =
    torn_stands file (MatchOption-at_some _ _ file is c.requires.set) (MatchOption-at_some _ _ file is c.requires.gate)
    later
    (subst (λ (l : List ℕ). TornIn (image_ranges (journal file)) l later)
    (MatchOption-at_some _ _ file is c.requires.only before may) torn)

images_left : (g : Over) (c : After-install_journal g) (file : List ℕ) → Held g c file → (later : List ℕ)
    → g.D.Desk.may_leave c.install_journal.new.desk later → StandsAs file later
images_left g c file is later may = let from = (c.install_journal.ensures.torn file is).leaves later may in
    stood g c file is from.0 from.1 later from.2

images_shown : (g : Over) (c : After-install_journal g) (file : List ℕ) → Held g c file
    → AtAnyMoment g.D.Desk c.args.desk.now c.install_journal.new.desk (StandsAs file)
images_shown g c file is =
    let desk = g.D.Desk in
    from_rest desk c.args.desk.now c.install_journal.new.desk (λ f. f ≡ file) (StandsAs file)
    (TornIn (image_ranges (journal file))) (g.met.D.Desk.told_together c.args.desk.now) (rests g c file is)
    (c.install_journal.ensures.torn file is).moments (stood g c file is)

-- and synced
sync_left : (g : Over) (c : After-sync g) (file : List ℕ) → Held g c.before.before.before.before file → (later : List ℕ)
    → g.D.Desk.may_leave c.sync.new.self later → StandsAs file later
sync_left g c file is later may =
    images_left g c.before.before.before.before file is later (c.sync.ensures.leaves later may)

sync_shown : (g : Over) (c : After-sync g) (file : List ℕ) → Held g c.before.before.before.before file
    → AtAnyMoment g.D.Desk c.args.desk.now c.sync.new.self (StandsAs file)
sync_shown g c file is =
    let desk = g.D.Desk in
    and_call desk c.args.desk.now c.install_journal.new.desk c.sync.new.self (StandsAs file)
    c.install_journal.ensures.calls.line.said (images_shown g c.before.before.before.before file is) c.sync.ensures.time
    (sync_left g c file is)

-- the file is then the one with all images in their places, and the gate is cleared
synced_held : (g : Over) (c : After-write_gate g) (file : List ℕ)
    → Held g c.before.before.before.before.before.before.before.before file
    → g.D.Desk.held c.sync.new.self ≡ Some (with_images (journal file) file)
synced_held g c file is =
    c.sync.ensures.held ∙ c.in_ok-install_journal.ensures.held ∙ ap (option_map (λ f. with_images (journal f) f)) is

cleared : (g : Over) (c : After-write_gate g) (file : List ℕ)
    → Held g c.before.before.before.before.before.before.before.before file → (mid : List ℕ)
    → g.D.Desk.may_leave c.sync.new.self mid → (later : List ℕ) → Torn 0 1 mid later → StandsAs file later
cleared g c file is mid may later torn =
    let held = c.in_ok-install_journal.ensures.held ∙ ap (option_map (λ f. with_images (journal f) f)) is in
    let only = MatchOption-at_some _ _ (with_images (journal file) file) held c.in_ok-sync.ensures.durable in
    torn_cleared file (MatchOption-at_some _ _ file is c.requires.set) (MatchOption-at_some _ _ file is c.requires.gate)
    later (subst (λ (l : List ℕ). Torn 0 1 l later) (only mid may) torn)

gate_left : (g : Over) (c : After-write_gate g) (file : List ℕ)
    → Held g c.before.before.before.before.before.before.before.before file → (later : List ℕ)
    → g.D.Desk.may_leave c.write_gate.new.desk later → StandsAs file later
gate_left g c file is later may = let from = c.write_gate.ensures.torn.leaves later may in
    cleared g c file is from.0 from.1 later from.2

gate_shown : (g : Over) (c : After-write_gate g) (file : List ℕ)
    → Held g c.before.before.before.before.before.before.before.before file
    → AtAnyMoment g.D.Desk c.args.desk.now c.write_gate.new.desk (StandsAs file)
gate_shown g c file is =
    let desk = g.D.Desk in let old = c.args.desk.now in
    and_then desk old c.sync.new.self c.write_gate.new.desk (StandsAs file) (Torn 0 1)
    (c.sync.ensures.said ∙ c.install_journal.ensures.calls.line.said)
    (some_said desk old file (g.met.D.Desk.told_together old) is)
    (sync_shown g c.before.before.before.before file is) c.write_gate.ensures.torn.moments (cleared g c file is)

pub returns-in_err-install_journal-clause-left : goal.returns-in_err-install_journal-clause-left
returns-in_err-install_journal-clause-left g c file is later may =
    images_left g c.before.before.before file is later may

pub returns-in_err-install_journal-clause-any_moment : goal.returns-in_err-install_journal-clause-any_moment
returns-in_err-install_journal-clause-any_moment g c file is = images_shown g c.before.before.before file is

pub returns-in_err-sync-clause-left : goal.returns-in_err-sync-clause-left
returns-in_err-sync-clause-left g c file is later may = sync_left g c.before.before.before file is later may

pub returns-in_err-sync-clause-any_moment : goal.returns-in_err-sync-clause-any_moment
returns-in_err-sync-clause-any_moment g c file is = sync_shown g c.before.before.before file is

pub returns-in_err-write_gate-clause-left : goal.returns-in_err-write_gate-clause-left
returns-in_err-write_gate-clause-left g c file is later may = gate_left g c.before.before.before file is later may

pub returns-in_err-write_gate-clause-any_moment : goal.returns-in_err-write_gate-clause-any_moment
returns-in_err-write_gate-clause-any_moment g c file is = gate_shown g c.before.before.before file is

pub returns-clause-left : goal.returns-clause-left
returns-clause-left g c file is later may = gate_left g c.before.before file is later may

pub returns-clause-any_moment : goal.returns-clause-any_moment
returns-clause-any_moment g c file is = gate_shown g c.before.before file is

pub returns-clause-settled : goal.returns-clause-settled
returns-clause-settled g c file is =
    let desk = g.D.Desk in let new = c.write_gate.new.desk in
    let held =
    c.in_ok-write_gate.ensures.held ∙ ap (option_map (with_gate 0)) (synced_held g c.before.before file is) in
    rests_at desk new (IsSettledAs file) (with_gate 0 (with_images (journal file) file)) held
    c.in_ok-write_gate.ensures.durable
    (settled file (MatchOption-at_some _ _ file is c.requires.set) (MatchOption-at_some _ _ file is c.requires.gate))
