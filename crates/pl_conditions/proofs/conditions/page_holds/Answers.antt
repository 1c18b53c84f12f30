use Rattle.std.proofs.Common.{◌≡◌, ◌∙◌, ◌&&◌, Some, refl, sym}
use Rattle.std.specs.List.{list_all}
use Rattle.std.proofs.lemmas.Result.{IfOk-weaker}
use Rattle.pl_base.specs.Rows.{Kept, KeptPage, page_at, store_of}
use Rattle.pl_base.proofs.PageLaws.{id_at}
use Rattle.pl_place.specs.declared.query.Query.{Query}
use Rattle.pl_conditions.specs.AskedParts.{is_url_asked}
use Rattle.pl_conditions.specs.Conditions.{has_word, is_uri, page_holds, words_asked}
use Rattle.pl_conditions.proofs.AskedLaws.{page_by}
use Rattle.pl_conditions.proofs.conditions.page_holds.Goals as goal

pub returns-then-not-has_count_asked : goal.returns-then-not-has_count_asked
returns-then-not-has_count_asked g c p at =
    page_by (store_of (g.R.Rows.kept c.args.rows.now)) c.args.asked.now.query.now p.page c.args.page
    (id_at (g.R.Rows.kept c.args.rows.now) c.args.page p at)
    (sym c.if-not-has_count_asked.true ∙ c.has_count_asked.ensures) refl refl refl

pub returns-then-not-has_mark_asked : goal.returns-then-not-has_mark_asked
returns-then-not-has_mark_asked g c p at =
    page_by (store_of (g.R.Rows.kept c.args.rows.now)) c.args.asked.now.query.now p.page c.args.page
    (id_at (g.R.Rows.kept c.args.rows.now) c.args.page p at)
    (sym c.if-not-has_count_asked.false ∙ c.has_count_asked.ensures)
    (sym c.if-not-has_mark_asked.true ∙ c.has_mark_asked.ensures) refl refl

pub returns-then-not-branch : goal.returns-then-not-branch
returns-then-not-branch g c p at =
    page_by (store_of (g.R.Rows.kept c.args.rows.now)) c.args.asked.now.query.now p.page c.args.page
    (id_at (g.R.Rows.kept c.args.rows.now) c.args.page p at)
    (sym c.if-not-has_count_asked.false ∙ c.has_count_asked.ensures)
    (sym c.if-not-has_mark_asked.false ∙ c.has_mark_asked.ensures)
    (sym c.if-not-branch.true ∙ c.in_ok-has_tags_asked.ensures) refl

pub returns : goal.returns
returns g c =
    let kept : Kept = g.R.Rows.kept c.args.rows.now in
    let q : Query = c.args.asked.now.query.now in
    IfOk-weaker c.texts_hold.result
    (λ holds. (p : KeptPage) → page_at kept c.args.page ≡ Some p
    → holds ≡ (is_uri q.uri p.page.url && is_url_asked q p.page.url
    && list_all (has_word (store_of kept) p.page) (words_asked q.terms)))
    (λ holds. (p : KeptPage) → page_at kept c.args.page ≡ Some p → holds ≡ page_holds (store_of kept) q p.page)
    (λ holds told p at.
    page_by (store_of kept) q p.page c.args.page (id_at kept c.args.page p at)
    (sym c.if-not-has_count_asked.false ∙ c.has_count_asked.ensures)
    (sym c.if-not-has_mark_asked.false ∙ c.has_mark_asked.ensures)
    (sym c.if-not-branch.false ∙ c.in_ok-has_tags_asked.ensures) (told p at))
    c.texts_hold.ensures
