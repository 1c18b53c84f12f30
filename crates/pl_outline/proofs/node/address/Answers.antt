use Rattle.std.proofs.Common.{◌∙◌, ℕ, List, Some, ap, sym}
use Rattle.std.specs.Option.{option_and_then}
use Rattle.pl_base.specs.Rows.{Kept, store_of}
use Rattle.pl_base.specs.Store.{page_url}
use Rattle.pl_marks.proofs.KeptUrls.{url-of_store}
use Rattle.pl_history.proofs.PagesTold.{url_told}
use Rattle.pl_outline.proofs.node.address.Goals as goal

pub canon_of-requires : goal.canon_of-requires
canon_of-requires g c =
    url-of_store (g.R.Rows.kept c.args.rows.now) c.in-Some.page c.as_str.result.now
    (g.met.R.Rows.well_kept c.args.rows.now)
    (ap (λ (text : List ℕ). Some text) c.as_str.ensures ∙ c.in_ok-url.ensures.url)

pub returns : goal.returns
returns g c =
    let kept : Kept = g.R.Rows.kept c.args.rows.now in
    ap (λ (text : List ℕ). Some text) (c.in_ok-canon_of.ensures ∙ c.as_str.ensures)
    ∙ url_told kept c.in-Some.page c.in_ok-url.url c.in_ok-url.ensures.url
    ∙ ap (option_and_then (page_url (store_of kept))) (sym c.in-Some.is)
