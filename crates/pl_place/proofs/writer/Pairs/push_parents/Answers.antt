use Rattle.std.proofs.lemmas.List.Elements.{All-more}
use Rattle.pl_base.specs.declared.id.ItemId.{ItemId}
use Rattle.pl_place.specs.declared.key.Key.TheVariants as keys
use Rattle.pl_place.specs.Canonical.{ReadsId, id_text}
use Rattle.pl_place.proofs.CutPairs.{one_more}
use Rattle.pl_place.proofs.writer.Pairs.push_parents.Goals as goal

pub loop-parent-preserved : goal.loop-parent-preserved
loop-parent-preserved c =
    let none : ItemId = record { 0 = 0 } in
    let i = c.loop-parent.parent-index in
    record {
      pairs =
          one_more keys.Parent id_text c.args.parents.now i none _ _ _ c.loop-parent-test.true
          c.loop-parent.invariant.pairs c.in_ok-push_number.ensures.pairs;
      own =
          All-more ReadsId c.args.parents.now i none c.loop-parent-test.true
          c.loop-parent.invariant.own c.in_ok-push_number.ensures.own;
    }
