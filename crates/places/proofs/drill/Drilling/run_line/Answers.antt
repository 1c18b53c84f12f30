use Rattle.std.proofs.Common.{◌≡◌, ◌∙◌, ◌∷◌, [], Ok, Option, ap, option_to_list, subst, sym, true}
use Rattle.std.proofs.lemmas.Result.{IfErr-weaker, err_from_is_err_and}
use Rattle.pl_base.specs.Live.{slot_limit}
use Rattle.pl_base.specs.Store.{Store}
use Rattle.pl_desk.specs.Shown.{AtAnyMoment}
use Rattle.pl_drill.specs.Drill.{line_of}
use Rattle.pl_step.specs.declared.command.Command.{Command}
use Rattle.pl_step.specs.Parsed.{Parsed}
use Rattle.pl_step.specs.Step.{perform}
use Rattle.pl_store.specs.Keeper.{keeper_store}
use Rattle.pl_store.proofs.KeeperLaws.{kept_keeps}
use Rattle.pl_store.specs.Session.{StandsForEither}
use Rattle.places.specs.Drilling.{line_done, so_far}
use Rattle.places.specs.Lines.{entries_in}
use Rattle.places.specs.Stops.{LeavesOfAnswer}
use Rattle.places.proofs.DrillLemmas.{at_first, line_stepped}
use Rattle.places.proofs.drill.Drilling.run_line.Goals as goal
use Rattle.places.proofs.drill.Drilling.run_line.Goals.{After-drop-text-2}
use Rattle.places.proofs.drill.Drilling.run_line.Given.{Over}

-- no line
pub returns-in_err-text-clause-left : goal.returns-in_err-text-clause-left
returns-in_err-text-clause-left g c =
    let p = err_from_is_err_and c.from_residual.result c.from_residual.ensures.1 in
    rw (p.1, p.2) (λ first kept.
    rw c.requires.file at (kept_keeps g.D.Desk c.args.self.keeper first c.args.desk.now kept))

pub returns-in_err-text-clause-any_moment : goal.returns-in_err-text-clause-any_moment
returns-in_err-text-clause-any_moment g c first before is kept = let keeper = c.args.self.keeper in
    at_first g.D.Desk g.met.D.Desk.only_now keeper first c.args.desk.now before
    (line_done c.args.number (so_far c.args.self)).store c.requires.file is kept

-- no command
pub returns-in-Ok-None-clause-any_moment : goal.returns-in-Ok-None-clause-any_moment
returns-in-Ok-None-clause-any_moment g c first before is kept = let keeper = c.args.self.keeper in
    at_first g.D.Desk g.met.D.Desk.only_now keeper first c.args.desk.now before
    (line_done c.args.number (so_far c.args.self)).store c.requires.file is kept

pub returns-in-Err-Refused-clause-any_moment : goal.returns-in-Err-Refused-clause-any_moment
returns-in-Err-Refused-clause-any_moment g c first before is kept = let keeper = c.args.self.keeper in
    at_first g.D.Desk g.met.D.Desk.only_now keeper first c.args.desk.now before
    (line_done c.args.number (so_far c.args.self)).store c.requires.file is kept

pub returns-in-Err-NoMemory-clause-left : goal.returns-in-Err-NoMemory-clause-left
returns-in-Err-NoMemory-clause-left g c first kept =
    rw c.requires.file at (kept_keeps g.D.Desk c.args.self.keeper first c.args.desk.now kept)

pub returns-in-Err-NoMemory-clause-any_moment : goal.returns-in-Err-NoMemory-clause-any_moment
returns-in-Err-NoMemory-clause-any_moment g c first before is kept = let keeper = c.args.self.keeper in
    at_first g.D.Desk g.met.D.Desk.only_now keeper first c.args.desk.now before
    (line_done c.args.number (so_far c.args.self)).store c.requires.file is kept

-- a command
module _ (g : Over) (c : After-drop-text-2 g) where
  is_line : c.as_bytes.result.now ≡ line_of c.args.number c.args.self.drill
  is_line = c.as_bytes.ensures.value ∙ c.in_ok-text.ensures.line

  asks : entries_in (line_of c.args.number c.args.self.drill) ≡ Ok c.in-Ok-Some.command ∷ []
  asks =
      sym (ap entries_in is_line)
      ∙ ap (λ (found : Option (Parsed Command)). option_to_list found)
      (rw c.in-Ok-Some.field-0-is at c.in-Ok-Some.ensures.entry)

  stepped : (perform slot_limit (keeper_store c.args.self.keeper) c.in-Ok-Some.command).1
      ≡ (line_done c.args.number (so_far c.args.self)).store
  stepped = line_stepped c.args.number (so_far c.args.self) c.in-Ok-Some.command asks

pub returns-clause-left : goal.returns-clause-left
returns-clause-left g c = let desk = g.D.Desk in let store = keeper_store c.args.self.keeper in
    IfErr-weaker c.perform-performed.result _ _ (λ error left first kept.
    subst (λ (next : Store). LeavesOfAnswer desk error true first store next c.perform-performed.new.desk)
    (stepped g c) (left first kept)) c.perform-performed.ensures.left

pub returns-clause-any_moment : goal.returns-clause-any_moment
returns-clause-any_moment g c first before is kept = let store = keeper_store c.args.self.keeper in
    subst (λ (next : Store).
    AtAnyMoment g.D.Desk c.args.desk.now c.perform-performed.new.desk (StandsForEither store next))
    (stepped g c) (c.perform-performed.ensures.any_moment first before is kept)
