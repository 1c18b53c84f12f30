-- A page of the rows that stays is counted, and no other.
use Rattle.std.proofs.Common.{◌≡◌, ◌∙◌, Bool, List, Some, ap, false, rules, subst, sym, true, ℕ}
use Rattle.std.proofs.lemmas.Result.{on_ok_weaker}
use Rattle.pl_base.specs.declared.id.PageId.{PageId}
use Rattle.pl_base.specs.Rows.{Kept, store_of}
use Rattle.pl_base.specs.Visiting.{find_page}
use Rattle.pl_marks.proofs.KeptUrls.{url-of_store}
use Rattle.pl_graft.specs.Restored.{emptied}
use Rattle.pl_graft.specs.Spared.{stays, with_last}
use Rattle.pl_graft.specs.Tally.{IsTallyOf}
use Rattle.pl_graft.proofs.SparedSteps.{id_told, last_passed, stays_told, title_fits, title_told, url_told}
use Rattle.pl_graft.proofs.cost.Tally.spare.Goals as goal

pub returns-then-not-branch-clause-tally : goal.returns-then-not-branch-clause-tally
returns-then-not-branch-clause-tally g c store p t at none =
    let kept : Kept = g.R.Rows.kept c.args.rows.now in
    let gone : c.in_ok-is_spared.field-0 ≡ false = search rules in
    last_passed c.args.self.now store p.page (stays c.args.named.now (emptied (store_of kept)) p.page)
    (stays_told kept c.args.page p at c.args.named.now c.as_str.result.now c.in_ok-is_spared.field-0
    (ap (λ (text : List ℕ). Some text) c.as_str.ensures ∙ c.in_ok-url.ensures.url) c.in_ok-is_spared.ensures.spared
    ∙ gone) t

pub add_page-requires-clause-url : goal.add_page-requires-clause-url
add_page-requires-clause-url g c =
    url-of_store (g.R.Rows.kept c.args.rows.now) c.args.page c.as_str-2.result.now
    (g.met.R.Rows.well_kept c.args.rows.now)
    (ap (λ (text : List ℕ). Some text) c.as_str-2.ensures ∙ c.in_ok-url.ensures.url)

pub add_page-requires-clause-title : goal.add_page-requires-clause-title
add_page-requires-clause-title g c =
    title_fits (g.R.Rows.kept c.args.rows.now) c.args.page c.as_str-3.result.now
    (g.met.R.Rows.well_kept c.args.rows.now)
    (ap (λ (text : List ℕ). Some text) c.as_str-3.ensures ∙ c.in_ok-title.ensures.title)

pub returns-clause-tally : goal.returns-clause-tally
returns-clause-tally g c =
    let kept : Kept = g.R.Rows.kept c.args.rows.now in
    let stay : c.in_ok-is_spared.field-0 ≡ true = search rules in
    on_ok_weaker c.add_page.result
    (λ counted store p t at none.
    let url : p.page.url ≡ c.as_str-2.result.now =
    url_told kept c.args.page p at c.as_str-2.result.now
    (ap (λ (text : List ℕ). Some text) c.as_str-2.ensures ∙ c.in_ok-url.ensures.url) in
    let title : p.page.title ≡ c.as_str-3.result.now =
    title_told kept c.args.page p at c.as_str-3.result.now
    (ap (λ (text : List ℕ). Some text) c.as_str-3.ensures ∙ c.in_ok-title.ensures.title) in
    let id : p.page.id.0 ≡ c.from.result =
    ap (λ (i : PageId). i.0) (id_told kept c.args.page p at) ∙ sym c.from.ensures in
    let is : stays c.args.named.now (emptied (store_of kept)) p.page ≡ true =
    stays_told kept c.args.page p at c.args.named.now c.as_str.result.now c.in_ok-is_spared.field-0
    (ap (λ (text : List ℕ). Some text) c.as_str.ensures ∙ c.in_ok-url.ensures.url) c.in_ok-is_spared.ensures.spared
    ∙ stay in
    subst (λ (b : Bool). IsTallyOf c.add_page.new.self (with_last b p.page store)) (sym is)
    (counted store p.page t (ap (λ (u : List ℕ). find_page u store.pages) (sym url) ∙ none) url title id))
    c.add_page.ensures.tally
