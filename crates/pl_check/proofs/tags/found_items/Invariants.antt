use Rattle.std.proofs.Common.{◌≡◌, take}
use Rattle.std.specs.List.{filter_map}
use Rattle.pl_base.specs.Tree as tree
use Rattle.pl_check.specs.Tags.{targets}
use Rattle.pl_check.proofs.tags.found_items.Given as goal

abbrev pub invariant-loop-id : goal.invariant-loop-id
invariant-loop-id l = targets l.found.items ≡ filter_map (tree.item_at l.items) (take l.id-index l.ids)
