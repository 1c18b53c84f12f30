use Rattle.std.proofs.Common.{Some, ap, ◌∙◌, ℕ, List}
use Rattle.pl_base.specs.Rows.{url_of}
use Rattle.pl_marks.proofs.KeptUrls.{url-of_store}
use Rattle.trials_trees.proofs.SameOrigin.{same_origin-by_parts}
use Rattle.trials_trees.proofs.target.has_origin.Goals as goal

pub parts_of-requires : goal.parts_of-requires
parts_of-requires g c =
    url-of_store (g.R.Rows.kept c.args.rows.now) c.args.page c.as_str.result.now
    (g.met.R.Rows.well_kept c.args.rows.now)
    (ap (λ (text : List ℕ). Some text) c.as_str.ensures ∙ c.in_ok-text.ensures.url)

pub returns : goal.returns
returns g c url has =
    same_origin-by_parts c.as_str.result.now url c.in_ok-own.own c.args.parts.now c.have_same_origin.result
    (url_of (g.R.Rows.kept c.args.rows.now) c.args.page)
    c.in_ok-own.ensures has c.have_same_origin.ensures
    (ap (λ (text : List ℕ). Some text) c.as_str.ensures ∙ c.in_ok-text.ensures.url)
