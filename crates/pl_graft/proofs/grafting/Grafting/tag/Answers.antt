use Rattle.std.proofs.Common.{◌∙◌, ◌≡◌, ◌+◌, ap, refl, subst, sym}
use Rattle.std.specs.Option.{is_some}
use Rattle.pl_base.specs.declared.id.Ids.{Ids}
use Rattle.pl_base.specs.Fold.{folded}
use Rattle.pl_base.specs.Rows.{Kept, store_of}
use Rattle.pl_tree.specs.Tagged.{tag_entry}
use Rattle.pl_keyed.specs.KnownTags.{KnowsTags, IsEntering}
use Rattle.pl_keyed.specs.TagRows.{entered, tag_rows}
use Rattle.pl_graft.specs.declared.grafting.Grafting.{Grafting}
use Rattle.pl_graft.proofs.Ready.{IsReady, ready, below_rows}
use Rattle.pl_graft.proofs.TagsKept.{made_one, tag_folders, tag_goes_on, tag_standing}
use Rattle.pl_graft.proofs.grafting.Grafting.tag.Goals as goal

pub put_tag-requires-clause-entering : goal.put_tag-requires-clause-entering
put_tag-requires-clause-entering g c =
    let rows = tag_rows (g.R.Rows.kept c.args.rows.now).items in
    subst (λ folds. IsEntering c.args.page folds rows c.in_ok-entering.entering)
    (c.in_ok-folds.ensures ∙ ap folded c.text.ensures.value)
    (c.in_ok-entering.ensures.step rows c.args.page c.requires.standing.tags (sym c.from.ensures))

pub returns-clause-standing : goal.returns-clause-standing
returns-clause-standing g c =
    let old : Kept = g.R.Rows.kept c.args.rows.now in
    let rows = tag_rows old.items in
    let is : IsReady (store_of old) =
    ready old (g.met.R.Rows.well_kept c.args.rows.now) c.requires.standing.good in
    let next : c.from-next.result ≡ old.ids.item =
    c.from-next.ensures ∙ ap (λ (i : Ids). i.item) c.ids.ensures.ids in
    let after : Grafting = record c.args.self.now {
      tags = c.enter.new.self;
      made = c.args.self.now.made + c.from-2.result;
    } in
    tag_standing old (g.R.Rows.kept c.put_tag.new.rows) c.args.page c.args.date c.args.name.now c.args.self.now after is
    c.requires.standing c.in_ok-put_tag.ensures.good c.in_ok-put_tag.ensures.store
    (subst (λ n. KnowsTags c.enter.new.self (entered c.args.page c.args.name.now n rows)) next
    (c.in_ok-entering.ensures.tags rows c.args.page c.args.name.now c.requires.standing.tags
    (rw next (below_rows (store_of old) is)) (sym c.from.ensures)
    (sym (c.in_ok-folds.ensures ∙ ap folded c.text.ensures.value))))
    refl (made_one c.args.self.now.made (is_some (tag_entry c.args.page c.args.name.now old.items))
    c.in_ok-put_tag.field-0 c.from-2.result c.in_ok-put_tag.ensures.new c.from-2.ensures)

pub returns-clause-goes_on : goal.returns-clause-goes_on
returns-clause-goes_on g c =
    let old : Kept = g.R.Rows.kept c.args.rows.now in
    let new : Kept = g.R.Rows.kept c.put_tag.new.rows in
    let after : Grafting = record c.args.self.now {
      tags = c.enter.new.self;
      made = c.args.self.now.made + c.from-2.result;
    } in
    tag_goes_on old new c.args.page c.args.date c.args.name.now c.args.self.now after
    (ready old (g.met.R.Rows.well_kept c.args.rows.now) c.requires.standing.good)
    (ready new (g.met.R.Rows.well_kept c.put_tag.new.rows) c.in_ok-put_tag.ensures.good)
    c.requires.standing c.in_ok-put_tag.ensures.grows c.in_ok-put_tag.ensures.store
    (made_one c.args.self.now.made (is_some (tag_entry c.args.page c.args.name.now old.items))
    c.in_ok-put_tag.field-0 c.from-2.result c.in_ok-put_tag.ensures.new c.from-2.ensures) refl c.requires.gained

pub returns-clause-folders : goal.returns-clause-folders
returns-clause-folders g c =
    let old : Kept = g.R.Rows.kept c.args.rows.now in
    tag_folders old (g.R.Rows.kept c.put_tag.new.rows) c.args.page c.args.date c.args.name.now
    (ready old (g.met.R.Rows.well_kept c.args.rows.now) c.requires.standing.good) c.in_ok-put_tag.ensures.store
