use Rattle.std.proofs.Common.{◌∙◌, ap, rules, sym, w64}
use Rattle.std.proofs.lemmas.Int.{to_z-of_z}
use Rattle.pl_base.specs.Frecency.{frecency_of}
use Rattle.pl_base.specs.Marks.{visit_count}
use Rattle.pl_base.specs.Rows.{Kept, page_at, store_of}
use Rattle.pl_base.specs.Store.{Page}
use Rattle.pl_base.specs.Tags.{tag_text}
use Rattle.pl_base.proofs.PageLaws.{url_at}
use Rattle.pl_query.proofs.AnsweredRows.{told_alike}
use Rattle.pl_query.proofs.RowsShown.{ShowsPage, page_there, shown_id, shown_row_id, shows_page}
use Rattle.pl_query.proofs.answered.result_row.Goals as goal

pub mark-mark-requires-clause-page : goal.mark-mark-requires-clause-page
mark-mark-requires-clause-page g c =
    rw c.page-page.ensures (page_there (g.R.Rows.kept c.args.rows.now) c.args.subject c.requires.there)

pub url-requires : goal.url-requires
url-requires g c =
    rw c.page-page.ensures (page_there (g.R.Rows.kept c.args.rows.now) c.args.subject c.requires.there)

pub returns : goal.returns
returns g c row at =
    let kept : Kept = g.R.Rows.kept c.args.rows.now in
    let s : ShowsPage kept c.args.subject row = shows_page kept c.args.subject row at in
    let here = ap (page_at kept) c.page-page.ensures ∙ s.page_is in
    told_alike (store_of kept) row c.id.result c.in_ok-url.url c.in_ok-title.title c.in_ok-tags.tags c.date.result
    c.mark-mark.result.count _ (c.id.ensures ∙ shown_row_id kept c.args.subject row at)
    (url_at kept c.page-page.result s.p c.in_ok-url.url here c.in_ok-url.ensures.url
    ∙ ap (λ (p : Page). p.url) (sym s.is))
    (c.in_ok-title.ensures row at) (c.date.ensures row at)
    (c.mark-mark.ensures.count s.p here ∙ ap (λ (p : Page). visit_count (store_of kept) p.id) (sym s.is))
    (to_z-of_z w64 c.mark-mark.result.frecency (search rules) ∙ c.mark-mark.ensures.frecency s.p here
    ∙ ap (frecency_of (store_of kept)) (sym s.is))
    (c.in_ok-tags.ensures
    ∙ ap (tag_text (store_of kept)) (c.page-page.ensures ∙ shown_id kept c.args.subject row at))
