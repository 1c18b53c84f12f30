use Rattle.pl_slot.specs.Arena.{header_of}
use Rattle.pl_slot.proofs.ChainCount.{IsFollowed}
use Rattle.pl_slot.proofs.checking.is_chain.Given as goal

abbrev pub invariant-loop-step : goal.invariant-loop-step
invariant-loop-step l = IsFollowed l.step (header_of l.sheets).first_free l.next l.sheets
