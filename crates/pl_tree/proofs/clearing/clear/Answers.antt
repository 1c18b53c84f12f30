use Rattle.std.proofs.Common.{◌∙◌, ◌<◌, ◌+◌, ◌==◌, List, ap, is_some, subst, sym}
use Rattle.std.proofs.lemmas.Bool.{eqb-false, not-true}
use Rattle.pl_base.specs.declared.id.PageId.{PageId}
use Rattle.pl_base.specs.Good.{HasGoodItems}
use Rattle.pl_base.specs.Rows.{IsWellKept, Kept, store_of}
use Rattle.pl_base.specs.Store.{item_id}
use Rattle.pl_base.proofs.ItemLookUps.{same_item}
use Rattle.pl_base.proofs.KeyCounts.{Ascends}
use Rattle.pl_base.proofs.Truths.{not_false}
use Rattle.pl_tree.proofs.ClearedItems.{HasCleared, clearing_ends, good_items, roots_good}
use Rattle.pl_tree.proofs.ClearingSteps.{IsClearing, clearing_down, clearing_on, clearing_parent, clearing_starts}
use Rattle.pl_tree.proofs.ClearingSteps.{clearing_there, clearing_up, left_to_clear}
use Rattle.pl_tree.proofs.LookedUp.{item_key}
use Rattle.pl_tree.proofs.TreeLaws.{ids_ascend}
use Rattle.pl_tree.proofs.clearing.clear.Given.{Over}
use Rattle.pl_tree.proofs.clearing.clear.Goals as goal
use Rattle.pl_tree.proofs.clearing.clear.Goals.{After-put_in_order, After-unwrap-at, Else-folder-eq6, In-Some}

-- the ids of items ascend
ascend : (kept : Kept) → IsWellKept kept → Ascends item_key kept.items
ascend kept h = ids_ascend kept.items h.item_ids.ascending

pub loop-child-init : goal.loop-child-init
loop-child-init g c =
    let old : Kept = g.R.Rows.kept c.args.rows.now in
    record {
      clearing =
          subst (λ (pages : List PageId). IsClearing old 2 (record { 0 = 2 }) pages old) (sym c.new-pages.ensures.items)
          (clearing_starts old (ascend old (g.met.R.Rows.well_kept c.args.rows.now)) (good_items old c.requires.good));
      base = λ bytes is. is;
    }

down : (g : Over) (c : In-Some g)
    → IsClearing (g.R.Rows.kept c.args.rows.now) c.loop-child.folder c.in-Some.child c.loop-child.pages.items
    (g.R.Rows.kept c.loop-child.rows)
    × (left_to_clear (g.R.Rows.kept c.args.rows.now) (g.R.Rows.kept c.loop-child.rows) c.loop-child.folder
    c.in-Some.child
    < left_to_clear (g.R.Rows.kept c.args.rows.now) (g.R.Rows.kept c.loop-child.rows) c.loop-child.folder
    c.loop-child.at)
down g c =
    let old : Kept = g.R.Rows.kept c.args.rows.now in
    clearing_down old (ascend old (g.met.R.Rows.well_kept c.args.rows.now)) (good_items old c.requires.good)
    c.loop-child.folder c.loop-child.at c.in-Some.child c.loop-child.pages.items (g.R.Rows.kept c.loop-child.rows)
    c.loop-child.invariant.clearing (sym c.in-Some.is ∙ c.first_child.ensures.first)

pub loop-child-smaller-in-Some : goal.loop-child-smaller-in-Some
loop-child-smaller-in-Some g c = (down g c).1

pub loop-child-preserved-in-Some : goal.loop-child-preserved-in-Some
loop-child-preserved-in-Some g c = record { clearing = (down g c).0; base = c.loop-child.invariant.base }

pub remove_leaf-requires-clause-there : goal.remove_leaf-requires-clause-there
remove_leaf-requires-clause-there g c =
    let old : Kept = g.R.Rows.kept c.args.rows.now in
    clearing_there old (ascend old (g.met.R.Rows.well_kept c.args.rows.now)) (good_items old c.requires.good)
    c.loop-child.folder c.loop-child.at c.loop-child.pages.items (g.R.Rows.kept c.loop-child.rows)
    c.loop-child.invariant.clearing

pub unwrap-at-requires : goal.unwrap-at-requires
unwrap-at-requires g c =
    let old : Kept = g.R.Rows.kept c.args.rows.now in
    ap is_some c.in_ok-remove_leaf.ensures.parent
    ∙ clearing_parent old (ascend old (g.met.R.Rows.well_kept c.args.rows.now)) (good_items old c.requires.good)
    c.loop-child.folder c.loop-child.at c.loop-child.pages.items (g.R.Rows.kept c.loop-child.rows)
    c.loop-child.invariant.clearing

up : (g : Over) (c : After-unwrap-at g)
    → IsClearing (g.R.Rows.kept c.args.rows.now) c.loop-child.folder c.unwrap-at.result c.remove_leaf.new.pages.items
    (g.R.Rows.kept c.remove_leaf.new.rows)
    × (left_to_clear (g.R.Rows.kept c.args.rows.now) (g.R.Rows.kept c.remove_leaf.new.rows) c.loop-child.folder
    c.unwrap-at.result
    < left_to_clear (g.R.Rows.kept c.args.rows.now) (g.R.Rows.kept c.loop-child.rows) c.loop-child.folder
    c.loop-child.at)
up g c =
    let old : Kept = g.R.Rows.kept c.args.rows.now in
    clearing_up old (ascend old (g.met.R.Rows.well_kept c.args.rows.now)) (good_items old c.requires.good)
    c.loop-child.folder c.loop-child.at c.unwrap-at.result c.loop-child.pages.items c.remove_leaf.new.pages.items
    (g.R.Rows.kept c.loop-child.rows) (g.R.Rows.kept c.remove_leaf.new.rows) c.loop-child.invariant.clearing
    (sym c.in_default.is ∙ c.first_child.ensures.first) c.in_ok-remove_leaf.ensures.kept
    c.in_ok-remove_leaf.ensures.pages (eqb-false c.loop-child.at.0 c.loop-child.folder
    (not-true (c.loop-child.at.0 == c.loop-child.folder) (sym c.ne.ensures ∙ c.if-ne.true)))
    (sym c.in_ok-remove_leaf.ensures.parent ∙ c.unwrap-at.ensures)

pub loop-child-smaller-then-ne : goal.loop-child-smaller-then-ne
loop-child-smaller-then-ne g c = (up g c).1

pub loop-child-preserved-then-ne : goal.loop-child-preserved-then-ne
loop-child-preserved-then-ne g c =
    record {
      clearing = (up g c).0;
      base = λ bytes is. c.in_ok-remove_leaf.ensures.base bytes (c.loop-child.invariant.base bytes is);
    }

on : (g : Over) (c : Else-folder-eq6 g)
    → IsClearing (g.R.Rows.kept c.args.rows.now) (c.loop-child.folder + 1) (item_id (c.loop-child.folder + 1))
    c.loop-child.pages.items (g.R.Rows.kept c.loop-child.rows)
    × (left_to_clear (g.R.Rows.kept c.args.rows.now) (g.R.Rows.kept c.loop-child.rows) (c.loop-child.folder + 1)
    (item_id (c.loop-child.folder + 1))
    < left_to_clear (g.R.Rows.kept c.args.rows.now) (g.R.Rows.kept c.loop-child.rows) c.loop-child.folder
    c.loop-child.at)
on g c =
    let old : Kept = g.R.Rows.kept c.args.rows.now in
    clearing_on old (ascend old (g.met.R.Rows.well_kept c.args.rows.now)) (good_items old c.requires.good)
    c.loop-child.folder c.loop-child.at c.loop-child.pages.items (g.R.Rows.kept c.loop-child.rows)
    c.loop-child.invariant.clearing (sym c.in_default.is ∙ c.first_child.ensures.first)
    (same_item c.loop-child.at (item_id c.loop-child.folder)
    (not_false (c.loop-child.at.0 == c.loop-child.folder) (sym c.ne.ensures ∙ c.if-ne.false)))
    c.if-folder-eq6.false

pub loop-child-smaller : goal.loop-child-smaller
loop-child-smaller g c = (on g c).1

pub loop-child-preserved : goal.loop-child-preserved
loop-child-preserved g c = record { clearing = (on g c).0; base = c.loop-child.invariant.base }

end : (g : Over) (c : After-put_in_order g)
    → HasCleared (g.R.Rows.kept c.args.rows.now) c.loop-child.pages.items (g.R.Rows.kept c.loop-child.rows)
end g c =
    let old : Kept = g.R.Rows.kept c.args.rows.now in
    let now : Kept = g.R.Rows.kept c.loop-child.rows in
    clearing_ends old now c.loop-child.folder c.loop-child.at c.loop-child.pages.items
    (ascend old (g.met.R.Rows.well_kept c.args.rows.now)) (good_items old c.requires.good)
    (ascend now (g.met.R.Rows.well_kept c.loop-child.rows)) c.loop-child.invariant.clearing
    (sym c.in_default.is ∙ c.first_child.ensures.first)
    (same_item c.loop-child.at (item_id c.loop-child.folder)
    (not_false (c.loop-child.at.0 == c.loop-child.folder) (sym c.ne.ensures ∙ c.if-ne.false)))
    c.if-folder-eq6.true

pub returns-clause-kept : goal.returns-clause-kept
returns-clause-kept g c = (end g c).left

pub returns-clause-pages : goal.returns-clause-pages
returns-clause-pages g c page = c.put_in_order.ensures.same page ∙ (end g c).lost page

pub returns-clause-good : goal.returns-clause-good
returns-clause-good g c =
    subst (λ (k : Kept). HasGoodItems (store_of k)) (sym (end g c).left)
    (roots_good (g.R.Rows.kept c.args.rows.now))
