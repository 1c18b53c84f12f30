use Rattle.std.proofs.Common.{◌≡◌, ◌∙◌, ap, is_some, refl, sym}
use Rattle.pl_base.specs.Rows.{with_items}
use Rattle.pl_tree.specs.Tagged.{untagged_items}
use Rattle.pl_tree.proofs.UntagSteps.{entry_leaf, entry_there, folder_left, still_used, untag_refused, untagged_good}
use Rattle.pl_tree.proofs.UntagSteps.{unused_gone}
use Rattle.pl_tree.proofs.tags.untag.Given.{Over}
use Rattle.pl_tree.proofs.tags.untag.Goals as goal
use Rattle.pl_tree.proofs.tags.untag.Goals.{After-remove_item-then-is_none, Else-is_none}

pub returns-in_default-entry_in-clause-refused : goal.returns-in_default-entry_in-clause-refused
returns-in_default-entry_in-clause-refused g c =
    λ refusal same. (
      untag_refused c.args.page c.args.name.now (g.R.Rows.kept c.args.rows.now).items c.in-Some.folder refusal
          (sym c.in-Some.is ∙ c.in_ok-folder.ensures) (sym c.in_default-entry_in.is ∙ c.entry_in.ensures) cc,
      refl,
    )

pub remove_item-requires-clause-item : goal.remove_item-requires-clause-item
remove_item-requires-clause-item g c =
    entry_there (g.R.Rows.kept c.args.rows.now) c.args.page c.args.name.now c.in-Some.folder c.in-Some-entry_in.entry
    (g.met.R.Rows.well_kept c.args.rows.now) c.requires.good (sym c.in-Some.is ∙ c.in_ok-folder.ensures)
    (sym c.in-Some-entry_in.is ∙ c.entry_in.ensures)

pub remove_item-requires-clause-leaf : goal.remove_item-requires-clause-leaf
remove_item-requires-clause-leaf g c =
    entry_leaf (g.R.Rows.kept c.args.rows.now) c.args.page c.args.name.now c.in-Some.folder c.in-Some-entry_in.entry
    (g.met.R.Rows.well_kept c.args.rows.now) c.requires.good (sym c.in-Some.is ∙ c.in_ok-folder.ensures)
    (sym c.in-Some-entry_in.is ∙ c.entry_in.ensures)

pub remove_item-requires-then-is_none-clause-item : goal.remove_item-requires-then-is_none-clause-item
remove_item-requires-then-is_none-clause-item g c =
    folder_left (g.R.Rows.kept c.args.rows.now) c.args.page c.args.name.now c.in-Some.folder c.in-Some-entry_in.entry
    (g.met.R.Rows.well_kept c.args.rows.now) c.requires.good (sym c.in-Some.is ∙ c.in_ok-folder.ensures)
    (sym c.in-Some-entry_in.is ∙ c.entry_in.ensures) (g.R.Rows.kept c.remove_item.new.self) c.remove_item.ensures.kept

gone : (g : Over) (c : After-remove_item-then-is_none g)
    → g.R.Rows.kept c.remove_item-then-is_none.new.self
    ≡ with_items (untagged_items c.args.page c.args.name.now (g.R.Rows.kept c.args.rows.now).items)
    (g.R.Rows.kept c.args.rows.now)
gone g c =
    unused_gone (g.R.Rows.kept c.args.rows.now) c.args.page c.args.name.now c.in-Some.folder c.in-Some-entry_in.entry
    (g.met.R.Rows.well_kept c.args.rows.now) c.requires.good (sym c.in-Some.is ∙ c.in_ok-folder.ensures)
    (sym c.in-Some-entry_in.is ∙ c.entry_in.ensures) (g.R.Rows.kept c.remove_item.new.self)
    (g.R.Rows.kept c.remove_item-then-is_none.new.self) c.remove_item.ensures.kept
    (ap is_some (sym c.first_child.ensures.first) ∙ c.if-is_none.ensures) c.remove_item-then-is_none.ensures.kept

pub returns-then-is_none-clause-kept : goal.returns-then-is_none-clause-kept
returns-then-is_none-clause-kept g c = gone g c

pub returns-then-is_none-clause-good : goal.returns-then-is_none-clause-good
returns-then-is_none-clause-good g c =
    untagged_good (g.R.Rows.kept c.args.rows.now) c.args.page c.args.name.now c.in-Some.folder
    c.in-Some-entry_in.entry (g.met.R.Rows.well_kept c.args.rows.now) c.requires.good
    (sym c.in-Some.is ∙ c.in_ok-folder.ensures) (sym c.in-Some-entry_in.is ∙ c.entry_in.ensures)
    (g.R.Rows.kept c.remove_item-then-is_none.new.self) (gone g c)

left : (g : Over) (c : Else-is_none g)
    → g.R.Rows.kept c.remove_item.new.self
    ≡ with_items (untagged_items c.args.page c.args.name.now (g.R.Rows.kept c.args.rows.now).items)
    (g.R.Rows.kept c.args.rows.now)
left g c =
    still_used (g.R.Rows.kept c.args.rows.now) c.args.page c.args.name.now c.in-Some.folder c.in-Some-entry_in.entry
    (g.met.R.Rows.well_kept c.args.rows.now) c.requires.good (sym c.in-Some.is ∙ c.in_ok-folder.ensures)
    (sym c.in-Some-entry_in.is ∙ c.entry_in.ensures) (g.R.Rows.kept c.remove_item.new.self) c.remove_item.ensures.kept
    (ap is_some (sym c.first_child.ensures.first) ∙ c.if-is_none.ensures)

pub returns-else-is_none-clause-kept : goal.returns-else-is_none-clause-kept
returns-else-is_none-clause-kept g c = left g c

pub returns-else-is_none-clause-good : goal.returns-else-is_none-clause-good
returns-else-is_none-clause-good g c =
    untagged_good (g.R.Rows.kept c.args.rows.now) c.args.page c.args.name.now c.in-Some.folder
    c.in-Some-entry_in.entry (g.met.R.Rows.well_kept c.args.rows.now) c.requires.good
    (sym c.in-Some.is ∙ c.in_ok-folder.ensures) (sym c.in-Some-entry_in.is ∙ c.entry_in.ensures)
    (g.R.Rows.kept c.remove_item.new.self) (left g c)
