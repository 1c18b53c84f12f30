use Rattle.std.proofs.Common.{◌∙◌, rules, w64}
use Rattle.std.proofs.lemmas.Int.{to_z-of_z}
use Rattle.pl_query.proofs.RowsShown.{item_there}
use Rattle.pl_marked.proofs.RowsTold.{told_mark}
use Rattle.pl_marked.proofs.answered.result_row.Goals as goal

pub item_title-requires : goal.item_title-requires
item_title-requires g c =
    item_there (g.R.Rows.kept c.args.rows.now) c.args.found.now.item c.args.found.now.view.now.id c.requires.there

pub returns : goal.returns
returns g c row at =
    told_mark (g.R.Rows.kept c.args.rows.now) c.args.found.now.item c.args.found.now.view.now row at c.requires.view
    c.in_ok-url.url c.in_ok-title.title c.in_ok-tags.tags _ (c.in_ok-url.ensures ∙ c.as_str.ensures)
    c.in_ok-title.ensures.title (c.in_ok-tags.ensures ∙ c.as_str-2.ensures)
    (to_z-of_z w64 c.args.found.now.view.now.frecency (search rules))
