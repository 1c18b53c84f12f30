use Rattle.std.proofs.Common.{◌≡◌, ◌∙◌, refl, rules}
use Rattle.pl_desk.specs.Calls.{LeavesFile, LeavesNoMore}
use Rattle.pl_desk.specs.declared.desk.Desk.{Ghosts}
use Rattle.places.proofs.SaidLemmas.{says_more, take_further}
use Rattle.places.proofs.SayingLemmas.{says_none, says_on}
use Rattle.places.proofs.say.say_all.Goals as goal

-- what a call of `say` leaves of the file behind what was left before
still_left : {D : Type 0} (desk : Ghosts D) (old mid new : D) → LeavesFile desk old mid → desk.held new ≡ desk.held mid
    → desk.written new ≡ desk.written mid → desk.device_faults new ≡ desk.device_faults mid → LeavesNoMore desk mid new
    → LeavesFile desk old new
still_left desk old mid new so_far held written faults left = record {
  kept = record {
    held = held ∙ so_far.kept.held;
    written = written ∙ so_far.kept.written;
    left = λ file may. so_far.kept.left file (left file may);
  };
  faults = faults ∙ so_far.faults;
}

pub loop-said-init : goal.loop-said-init
loop-said-init g c = record {
  within = search rules;
  front = search rules;
  shows = λ before is. says_none g.D.Desk g.met.D.Desk.only_now c.args.desk.now before c.args.bytes.now is;
  no_fault = search rules;
  file = record { kept = record { held = refl; written = refl; left = λ file left. left }; faults = refl };
}

pub loop-said-preserved : goal.loop-said-preserved
loop-said-preserved g c = let desk = g.D.Desk in let so_far = c.loop-said.invariant in record {
  within = search rules;
  front =
      rw (take_further c.args.bytes.now c.loop-said.said c.in_ok-said.field-0 so_far.within)
      (says_more _ _ _ _ _ so_far.front c.in_ok-said.ensures.said);
  shows =
      λ before is. says_on desk c.args.desk.now c.loop-said.desk c.say.new.self before c.args.bytes.now c.loop-said.said
      _
      so_far.within is so_far.front so_far.file.kept.left c.in_ok-said.ensures.leaves (so_far.shows before is)
      c.in_ok-said.ensures.time;
  no_fault = c.in_ok-said.ensures.counted ∙ so_far.no_fault;
  file =
      still_left g.D.Desk c.args.desk.now c.loop-said.desk c.say.new.self c.loop-said.invariant.file
      c.in_ok-said.ensures.held
      c.in_ok-said.ensures.written c.in_ok-said.ensures.device c.in_ok-said.ensures.leaves;
}

pub returns-in_err-said-clause-shows : goal.returns-in_err-said-clause-shows
returns-in_err-said-clause-shows g c before is = let desk = g.D.Desk in let so_far = c.loop-said.invariant in
    says_on desk c.args.desk.now c.loop-said.desk c.say.new.self before c.args.bytes.now c.loop-said.said _
    so_far.within is so_far.front so_far.file.kept.left c.in_err-said.ensures.leaves (so_far.shows before is)
    c.in_err-said.ensures.time

pub returns-in_err-said-clause-file : goal.returns-in_err-said-clause-file
returns-in_err-said-clause-file g c =
    still_left g.D.Desk c.args.desk.now c.loop-said.desk c.say.new.self c.loop-said.invariant.file
    c.in_err-said.ensures.held
    c.in_err-said.ensures.written c.in_err-said.ensures.device c.in_err-said.ensures.leaves

pub returns-clause-shows : goal.returns-clause-shows
returns-clause-shows g c = c.loop-said.invariant.shows

pub returns-clause-file : goal.returns-clause-file
returns-clause-file g c = c.loop-said.invariant.file
