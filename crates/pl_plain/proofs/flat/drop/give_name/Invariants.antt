use Rattle.std.proofs.Common.{◌≡◌, ◌++◌, drop, false, map, take}
use Rattle.pl_plain.specs.FlatRows.{renamed_row}
use Rattle.pl_plain.proofs.flat.drop.give_name.Given as goal

abbrev pub invariant-loop-page : goal.invariant-loop-page
invariant-loop-page l =
    l.page-items
    ≡ map (renamed_row false l.last l.name) (take l.page-index l.initial.page-items)
    ++ drop l.page-index l.initial.page-items
