use Rattle.std.proofs.Common.{◌≡◌, ◌++◌, map, take}
use Rattle.pl_place.specs.declared.key.Key.TheVariants as keys
use Rattle.pl_place.specs.Canonical.{for_each, transition_text}
use Rattle.pl_place.proofs.writer.Pairs.push_transitions.Given as goal

abbrev pub invariant-loop-transition : goal.invariant-loop-transition
invariant-loop-transition l =
    l.self ≡ l.fn.self
    ++ for_each keys.Transition (map transition_text (take l.transition-index l.transitions))
