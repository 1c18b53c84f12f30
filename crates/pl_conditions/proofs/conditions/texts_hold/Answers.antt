use Rattle.std.proofs.Common.{◌∙◌, List, Some, ap, ℕ}
use Rattle.pl_marks.proofs.KeptUrls.{url-of_store}
use Rattle.pl_conditions.proofs.conditions.texts_hold.Goals as goal

pub canon_of-requires : goal.canon_of-requires
canon_of-requires g c =
    url-of_store (g.R.Rows.kept c.args.rows.now) c.args.page c.as_str-2.result.now
    (g.met.R.Rows.well_kept c.args.rows.now)
    (ap (λ (text : List ℕ). Some text) c.as_str-2.ensures ∙ c.in_ok-text.ensures.url)
