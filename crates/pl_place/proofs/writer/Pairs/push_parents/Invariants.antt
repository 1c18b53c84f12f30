use Rattle.std.proofs.Common.{◌≡◌, ◌++◌, All, map, take}
use Rattle.pl_place.specs.declared.key.Key.TheVariants as keys
use Rattle.pl_place.specs.Canonical.{ReadsId, for_each, id_text}
use Rattle.pl_place.proofs.writer.Pairs.push_parents.Given as goal

abbrev pub invariant-loop-parent : goal.invariant-loop-parent
invariant-loop-parent l =
    record {
      pairs : l.self ≡ l.fn.self ++ for_each keys.Parent (map id_text (take l.parent-index l.parents));
      own : All ReadsId (take l.parent-index l.parents);
    }
