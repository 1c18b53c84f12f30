use Rattle.std.proofs.Common.{◌≡◌, ◌∙◌, Some, ap, rules, sym, w64}
use Rattle.std.proofs.lemmas.Int.{to_z-of_z}
use Rattle.std.proofs.lemmas.Result.{IfOk-weaker}
use Rattle.pl_base.specs.declared.id.PageId.{PageId}
use Rattle.pl_base.specs.Fold.{folded}
use Rattle.pl_base.specs.Frecency.{frecency_of}
use Rattle.pl_base.specs.Rows.{Kept, page_at, store_of}
use Rattle.pl_base.specs.Tags.{tag_text}
use Rattle.pl_place.specs.declared.sort.SortKey.{SortKey}
use Rattle.pl_query.specs.declared.ordering.SortValue.TheVariants.{Score, Text}
use Rattle.pl_query.specs.Candidates.{key_value}
use Rattle.pl_query.specs.Order.{Row}
use Rattle.pl_query.specs.Subjects.{row_at}
use Rattle.pl_query.proofs.RowsShown.{ShowsPage, page_there, shown_id, shows_page}
use Rattle.pl_query.proofs.ordering.key_value.Goals as goal

pub url-requires : goal.url-requires
url-requires g c =
    rw c.page-page.ensures (page_there (g.R.Rows.kept c.args.rows.now) c.args.subject c.requires.there)

pub mark-requires-clause-page : goal.mark-requires-clause-page
mark-requires-clause-page g c =
    rw c.page-page.ensures (page_there (g.R.Rows.kept c.args.rows.now) c.args.subject c.requires.there)

pub mark-requires-in-Frecency-clause-page : goal.mark-requires-in-Frecency-clause-page
mark-requires-in-Frecency-clause-page g c =
    rw c.page-page.ensures (page_there (g.R.Rows.kept c.args.rows.now) c.args.subject c.requires.there)

pub returns-in-Tags : goal.returns-in-Tags
returns-in-Tags g c =
    let kept : Kept = g.R.Rows.kept c.args.rows.now in
    IfOk-weaker c.folded_tags.result (λ value. value ≡ Text (folded (tag_text (store_of kept) c.page-page.result)))
    (λ value. (row : Row) → row_at kept c.args.subject ≡ Some row → value ≡ key_value (store_of kept) c.args.key row)
    (λ value is row at.
    is ∙ ap (λ (id : PageId). Text (folded (tag_text (store_of kept) id)))
    (c.page-page.ensures ∙ shown_id kept c.args.subject row at)
    ∙ ap (λ (key : SortKey). key_value (store_of kept) key row) (sym c.in-Tags.is))
    c.folded_tags.ensures

pub returns-in-Frecency : goal.returns-in-Frecency
returns-in-Frecency g c row at =
    let kept : Kept = g.R.Rows.kept c.args.rows.now in
    let s : ShowsPage kept c.args.subject row = shows_page kept c.args.subject row at in
    ap Score
    (to_z-of_z w64 c.mark-in-Frecency.result.frecency (search rules)
    ∙ c.mark-in-Frecency.ensures.frecency s.p (ap (page_at kept) c.page-page.ensures ∙ s.page_is)
    ∙ ap (frecency_of (store_of kept)) (sym s.is))
    ∙ ap (λ (key : SortKey). key_value (store_of kept) key row) (sym c.in-Frecency.is)
