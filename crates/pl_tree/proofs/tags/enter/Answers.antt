use Rattle.std.proofs.Common.{◌∙◌, subst, sym}
use Rattle.std.proofs.lemmas.Result.{on_ok_weaker}
use Rattle.pl_base.specs.Good.{HasGoodItems}
use Rattle.pl_base.specs.Rows.{Kept, store_of}
use Rattle.pl_tree.proofs.GoodTagged.{good_tagged}
use Rattle.pl_tree.proofs.TagSteps.{folder_there, id_left, ids_left, live_anew, live_there, made_anew, tagged_there}
use Rattle.pl_tree.proofs.tags.enter.Goals as goal

pub add_entry-requires-clause-folder : goal.add_entry-requires-clause-folder
add_entry-requires-clause-folder g c =
    folder_there (g.R.Rows.kept c.args.rows.now) c.args.name.now c.in-Some.folder c.requires.good.tags
    (sym c.in-Some.is ∙ c.requires.folder)

pub add_entry-requires-clause-id : goal.add_entry-requires-clause-id
add_entry-requires-clause-id g c =
    id_left (g.R.Rows.kept c.args.rows.now) c.args.page c.args.name.now c.requires.allowed

pub add_entry-requires-clause-live : goal.add_entry-requires-clause-live
add_entry-requires-clause-live g c =
    live_there (g.R.Rows.kept c.args.rows.now) c.args.page c.args.name.now c.args.date c.in-Some.folder
    (sym c.in-Some.is ∙ c.requires.folder) c.requires.live

pub add_folder-requires-clause-id : goal.add_folder-requires-clause-id
add_folder-requires-clause-id g c =
    ids_left (g.R.Rows.kept c.args.rows.now) c.args.page c.args.name.now (sym c.in-None.is ∙ c.requires.folder)
    c.requires.allowed

pub add_folder-requires-clause-live : goal.add_folder-requires-clause-live
add_folder-requires-clause-live g c =
    live_anew (g.R.Rows.kept c.args.rows.now) c.args.page c.args.name.now c.text-title.result.now c.args.date
    (sym c.in-None.is ∙ c.requires.folder) c.text-title.ensures.value c.requires.live

pub returns-in-Some-clause-kept : goal.returns-in-Some-clause-kept
returns-in-Some-clause-kept g c =
    on_ok_weaker c.add_entry.result (λ made.
    made
    ∙ tagged_there (g.R.Rows.kept c.args.rows.now) c.args.page c.args.name.now c.args.date c.in-Some.folder
    (sym c.in-Some.is ∙ c.requires.folder))
    c.add_entry.ensures.kept

pub returns-in-None-clause-kept : goal.returns-in-None-clause-kept
returns-in-None-clause-kept g c =
    on_ok_weaker c.add_folder.result (λ made.
    made_anew (g.R.Rows.kept c.args.rows.now) (g.R.Rows.kept c.add_folder.new.rows) c.args.page c.args.name.now
    c.text-title.result.now c.args.date made c.text-title.ensures.value (sym c.in-None.is ∙ c.requires.folder))
    c.add_folder.ensures.kept

pub returns-in-Some-clause-good : goal.returns-in-Some-clause-good
returns-in-Some-clause-good g c =
    on_ok_weaker c.add_entry.result (λ made.
    subst (λ (k : Kept). HasGoodItems (store_of k)) (sym made)
    (good_tagged (g.R.Rows.kept c.args.rows.now) c.args.page c.args.name.now c.args.date
    (g.met.R.Rows.well_kept c.args.rows.now) c.requires.good c.text-title.ensures.given c.requires.date
    c.requires.page c.requires.allowed))
    (returns-in-Some-clause-kept g c)

pub returns-in-None-clause-good : goal.returns-in-None-clause-good
returns-in-None-clause-good g c =
    on_ok_weaker c.add_folder.result (λ made.
    subst (λ (k : Kept). HasGoodItems (store_of k)) (sym made)
    (good_tagged (g.R.Rows.kept c.args.rows.now) c.args.page c.args.name.now c.args.date
    (g.met.R.Rows.well_kept c.args.rows.now) c.requires.good c.text-title.ensures.given c.requires.date
    c.requires.page c.requires.allowed))
    (returns-in-None-clause-kept g c)
