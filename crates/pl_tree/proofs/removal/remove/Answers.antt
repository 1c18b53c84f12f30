use Rattle.std.proofs.Common.{◌≡◌, ◌∙◌, List, Some, ap, is_some, subst, sym}
use Rattle.pl_base.specs.declared.id.PageId.{PageId}
use Rattle.pl_base.specs.Good.{HasGoodItems}
use Rattle.pl_base.specs.Rows.{IsWellKept, Kept, store_of}
use Rattle.pl_base.specs.Tree.{parent_of}
use Rattle.pl_base.proofs.KeyCounts.{Ascends}
use Rattle.pl_tree.proofs.Causes.{may_change}
use Rattle.pl_tree.proofs.GoodChanges.{good_removed}
use Rattle.pl_tree.proofs.LookedUp.{item_key}
use Rattle.pl_tree.proofs.RemovalSteps.{IsRemoved, IsRemoving, ends_at, goes_down, less_down, less_up, parent_some}
use Rattle.pl_tree.proofs.RemovalSteps.{removal_starts, removing_there, up_from}
use Rattle.pl_tree.proofs.TreeLaws.{ids_ascend}
use Rattle.pl_tree.proofs.TreeRows.{some_items}
use Rattle.pl_tree.proofs.removal.remove.Given.{Over}
use Rattle.pl_tree.proofs.removal.remove.Goals as goal
use Rattle.pl_tree.proofs.removal.remove.Goals.{After-put_in_order, After-unwrap-at, In-Some}

-- the ids of items ascend
ascend : (kept : Kept) → IsWellKept kept → Ascends item_key kept.items
ascend kept h = ids_ascend kept.items h.item_ids.ascending

pub loop-child-init : goal.loop-child-init
loop-child-init g c =
    let old : Kept = g.R.Rows.kept c.args.rows.now in
    record {
      removing =
          subst (λ (pages : List PageId). IsRemoving old c.args.item c.args.item pages old)
          (sym c.new-pages.ensures.items)
          (removal_starts old c.args.item (may_change old.items c.args.item (sym c.in_ok-may_change.ensures)).there);
      base = λ bytes is. is;
    }

down : (g : Over) (c : In-Some g)
    → IsRemoving (g.R.Rows.kept c.args.rows.now) c.args.item c.in-Some.child c.loop-child.pages.items
    (g.R.Rows.kept c.loop-child.rows)
    × (parent_of (g.R.Rows.kept c.args.rows.now).items c.in-Some.child ≡ Some c.loop-child.at)
down g c =
    let old : Kept = g.R.Rows.kept c.args.rows.now in
    goes_down old c.args.item (ascend old (g.met.R.Rows.well_kept c.args.rows.now)) c.requires.good.tree
    (some_items old c.requires.good) c.loop-child.at c.in-Some.child c.loop-child.pages.items
    (g.R.Rows.kept c.loop-child.rows) c.loop-child.invariant.removing
    (sym c.in-Some.is ∙ c.first_child.ensures.first)

pub loop-child-smaller-in-Some : goal.loop-child-smaller-in-Some
loop-child-smaller-in-Some g c =
    let old : Kept = g.R.Rows.kept c.args.rows.now in
    less_down old c.args.item (ascend old (g.met.R.Rows.well_kept c.args.rows.now)) c.requires.good.tree
    (some_items old c.requires.good) c.loop-child.at c.in-Some.child (g.R.Rows.kept c.loop-child.rows) (down g c).1

pub loop-child-preserved-in-Some : goal.loop-child-preserved-in-Some
loop-child-preserved-in-Some g c = record { removing = (down g c).0; base = c.loop-child.invariant.base }

pub remove_leaf-requires-clause-there : goal.remove_leaf-requires-clause-there
remove_leaf-requires-clause-there g c =
    let old : Kept = g.R.Rows.kept c.args.rows.now in
    removing_there old c.args.item (ascend old (g.met.R.Rows.well_kept c.args.rows.now)) c.requires.good.tree
    (some_items old c.requires.good) c.loop-child.at c.loop-child.pages.items (g.R.Rows.kept c.loop-child.rows)
    (may_change old.items c.args.item (sym c.in_ok-may_change.ensures)).there c.loop-child.invariant.removing

pub unwrap-at-requires : goal.unwrap-at-requires
unwrap-at-requires g c =
    let old : Kept = g.R.Rows.kept c.args.rows.now in
    ap is_some c.in_ok-parent.ensures.parent
    ∙ parent_some old c.args.item (ascend old (g.met.R.Rows.well_kept c.args.rows.now)) c.requires.good.tree
    (some_items old c.requires.good) c.loop-child.at c.loop-child.pages.items (g.R.Rows.kept c.loop-child.rows)
    c.loop-child.invariant.removing (sym c.eq.ensures ∙ c.if-eq.false)

up : (g : Over) (c : After-unwrap-at g)
    → IsRemoving (g.R.Rows.kept c.args.rows.now) c.args.item c.unwrap-at.result c.remove_leaf.new.pages.items
    (g.R.Rows.kept c.remove_leaf.new.rows)
    × (parent_of (g.R.Rows.kept c.args.rows.now).items c.loop-child.at ≡ Some c.unwrap-at.result)
up g c =
    let old : Kept = g.R.Rows.kept c.args.rows.now in
    up_from old c.args.item (ascend old (g.met.R.Rows.well_kept c.args.rows.now)) c.requires.good.tree
    (some_items old c.requires.good) c.loop-child.at c.unwrap-at.result c.loop-child.pages.items
    c.remove_leaf.new.pages.items (g.R.Rows.kept c.loop-child.rows) (g.R.Rows.kept c.remove_leaf.new.rows)
    (may_change old.items c.args.item (sym c.in_ok-may_change.ensures)).there c.loop-child.invariant.removing
    (sym c.in_default.is ∙ c.first_child.ensures.first) c.in_ok-parent.ensures.kept c.in_ok-parent.ensures.pages
    (sym c.eq.ensures ∙ c.if-eq.false) (sym c.in_ok-parent.ensures.parent ∙ c.unwrap-at.ensures)

pub loop-child-smaller : goal.loop-child-smaller
loop-child-smaller g c =
    let old : Kept = g.R.Rows.kept c.args.rows.now in
    less_up old c.args.item (ascend old (g.met.R.Rows.well_kept c.args.rows.now)) c.requires.good.tree
    (some_items old c.requires.good) c.loop-child.at c.unwrap-at.result (g.R.Rows.kept c.loop-child.rows)
    (g.R.Rows.kept c.remove_leaf.new.rows)
    (removing_there old c.args.item (ascend old (g.met.R.Rows.well_kept c.args.rows.now)) c.requires.good.tree
    (some_items old c.requires.good) c.loop-child.at c.loop-child.pages.items (g.R.Rows.kept c.loop-child.rows)
    (may_change old.items c.args.item (sym c.in_ok-may_change.ensures)).there c.loop-child.invariant.removing)
    c.in_ok-parent.ensures.kept (up g c).1

pub loop-child-preserved : goal.loop-child-preserved
loop-child-preserved g c =
    record {
      removing = (up g c).0;
      base = λ bytes is. c.in_ok-parent.ensures.base bytes (c.loop-child.invariant.base bytes is);
    }

end : (g : Over) (c : After-put_in_order g)
    → IsRemoved (g.R.Rows.kept c.args.rows.now) c.args.item c.remove_leaf.new.pages.items
    (g.R.Rows.kept c.remove_leaf.new.rows)
end g c =
    let old : Kept = g.R.Rows.kept c.args.rows.now in
    ends_at old c.args.item (ascend old (g.met.R.Rows.well_kept c.args.rows.now)) c.requires.good.tree
    (some_items old c.requires.good) c.loop-child.at c.loop-child.pages.items c.remove_leaf.new.pages.items
    (g.R.Rows.kept c.loop-child.rows) (g.R.Rows.kept c.remove_leaf.new.rows)
    (may_change old.items c.args.item (sym c.in_ok-may_change.ensures)).there c.loop-child.invariant.removing
    (sym c.in_default.is ∙ c.first_child.ensures.first) c.in_ok-parent.ensures.kept c.in_ok-parent.ensures.pages
    (sym c.eq.ensures ∙ c.if-eq.true)

pub returns-clause-kept : goal.returns-clause-kept
returns-clause-kept g c = (end g c).left

pub returns-clause-pages : goal.returns-clause-pages
returns-clause-pages g c page = c.put_in_order.ensures.same page ∙ (end g c).lost page

pub returns-clause-good : goal.returns-clause-good
returns-clause-good g c =
    let old : Kept = g.R.Rows.kept c.args.rows.now in
    subst (λ (k : Kept). HasGoodItems (store_of k)) (sym (end g c).left)
    (good_removed old c.args.item (g.met.R.Rows.well_kept c.args.rows.now) c.requires.good
    (sym c.in_ok-may_change.ensures))
