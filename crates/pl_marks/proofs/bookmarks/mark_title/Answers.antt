use Rattle.std.proofs.Common.{◌≡◌, ◌∙◌, Some, sym}
use Rattle.std.proofs.lemmas.Result.{IfOk-weaker}
use Rattle.pl_base.specs.Rows.{Kept, store_of}
use Rattle.pl_base.specs.Tree.{item_title}
use Rattle.pl_base.specs.View.{mark_title}
use Rattle.pl_marks.proofs.FreshestItem.{IsFreshest, freshest_is}
use Rattle.pl_marks.proofs.bookmarks.mark_title.Goals as goal

pub item_title-requires : goal.item_title-requires
item_title-requires g c =
    let f : IsFreshest (g.R.Rows.kept c.args.rows.now) c.args.page c.in-Some.item =
    freshest_is (g.R.Rows.kept c.args.rows.now) c.args.page c.in-Some.item (g.met.R.Rows.well_kept c.args.rows.now)
    (sym c.in-Some.is ∙ c.freshest_bookmark.ensures) in
    f.there

pub returns-in-Some : goal.returns-in-Some
returns-in-Some g c =
    let kept : Kept = g.R.Rows.kept c.args.rows.now in
    let f : IsFreshest kept c.args.page c.in-Some.item =
    freshest_is kept c.args.page c.in-Some.item (g.met.R.Rows.well_kept c.args.rows.now)
    (sym c.in-Some.is ∙ c.freshest_bookmark.ensures) in
    IfOk-weaker c.item_title.result (λ title. Some title ≡ item_title kept.items c.in-Some.item)
    (λ title. title ≡ mark_title (store_of kept) c.args.page)
    (λ title is.
    let same : Some title ≡ Some (mark_title (store_of kept) c.args.page) = is ∙ f.title in
    cc)
    c.item_title.ensures.title
