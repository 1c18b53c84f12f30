use Rattle.std.proofs.Common.{◌≡◌, ◌∙◌, ap, arith, subst, sym}
use Rattle.std.proofs.lemmas.Result.{on_ok_weaker}
use Rattle.pl_backup.specs.BackupTree.{empty_tree, items_found, with_front}
use Rattle.pl_backup.specs.Reading.{before, children}
use Rattle.pl_backup.specs.Weights.{items_weight}
use Rattle.pl_backup.proofs.ReadingSteps.{children_weight}
use Rattle.pl_backup.proofs.RootSteps.{child_few, child_root}
use Rattle.pl_backup.proofs.roots.Roots.push_child.Goals as goal
use Rattle.serde_json.specs.Data.{Items}
use Rattle.serde_json.specs.View.{items_view, view}

pub push_list-requires : goal.push_list-requires
push_list-requires c =
    let below : items_weight (items_view c.below.result.now) ≡ items_weight (children (view c.args.value.now)) =
    ap items_weight c.below.ensures in
    record { room = omega (arith, below, c.requires.room, children_weight (view c.args.value.now)) }

pub returns-in-Some-clause-few : goal.returns-in-Some-clause-few
returns-in-Some-clause-few c =
    on_ok_weaker c.push_list.result
    (λ told.
    child_few c.args.self.now c.push_list.new.self c.in-Some.root (view c.args.value.now)
    (subst
    (λ (items : Items). before c.push_list.new.self empty_tree
    ≡ before c.args.self.now (with_front c.in-Some.root (items_found 0 items) empty_tree))
    c.below.ensures (told empty_tree)))
    c.push_list.ensures

pub returns-in-Some-clause-tree : goal.returns-in-Some-clause-tree
returns-in-Some-clause-tree c =
    on_ok_weaker c.push_list.result
    (λ told tree.
    told tree
    ∙ ap (λ (items : Items). before c.args.self.now (with_front c.in-Some.root (items_found 0 items) tree))
    c.below.ensures
    ∙ ap (before c.args.self.now)
    (sym (child_root (view c.args.value.now) c.in-Some.root (sym c.in-Some.ensures) tree)))
    c.push_list.ensures
