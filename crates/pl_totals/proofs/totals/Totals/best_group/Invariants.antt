use Rattle.std.specs.Option.{option_map}
use Rattle.std.specs.String.{string_bytes}
use Rattle.pl_totals.specs.Groups.{grouped}
use Rattle.pl_totals.proofs.Best.{IsBest, fills, shown}
use Rattle.pl_totals.proofs.totals.Totals.best_group.Given as goal

abbrev pub invariant-loop-name : goal.invariant-loop-name
invariant-loop-name l =
    IsBest (fills l.self (string_bytes l.text)) (shown l.yielded) (option_map grouped l.best)
