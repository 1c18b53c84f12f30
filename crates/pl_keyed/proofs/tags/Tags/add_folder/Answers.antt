use Rattle.std.proofs.Common.{◌∙◌, Some, ap}
use Rattle.pl_base.specs.Fold.{folded}
use Rattle.pl_base.proofs.ItemLookUps.{item_title_is}
use Rattle.pl_keyed.proofs.TagLookups.{text_put}
use Rattle.pl_keyed.proofs.TagsRead.{knows_folder}
use Rattle.pl_keyed.proofs.tags.Tags.add_folder.Goals as goal

pub returns : goal.returns
returns g c =
    λ before t k at other.
    knows_folder c.args.self.now _ (g.R.Rows.kept c.args.rows.now).items before c.args.folder t _ k at other
    (text_put c.args.self.now.folders c.insert.new.self c.in_ok-name.name (folded t.title) _
    (c.in_ok-name.ensures.ok ∙ c.as_str-2.ensures ∙ c.in_ok-folds.ensures
    ∙ ap folded (c.as_str.ensures
    ∙ item_title_is (g.R.Rows.kept c.args.rows.now).items c.args.folder t c.in_ok-title.title at
    c.in_ok-title.ensures.title)) c.in_ok-insert.ensures.updates)
    c.from-id.ensures c.in_ok-last.ensures.last (ap (λ n. Some n) c.from-id.ensures) c.in_ok-last.ensures.pairs
