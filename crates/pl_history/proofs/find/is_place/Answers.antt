use Rattle.std.proofs.Common.{Some, ap, ◌∙◌, ℕ, Bool, List}
use Rattle.std.specs.Option.{option_map}
use Rattle.pl_base.specs.Address.{is_place_url}
use Rattle.pl_marks.proofs.KeptUrls.{url-of_store}
use Rattle.pl_history.proofs.OriginParts.{is_place-by_parts}
use Rattle.pl_history.proofs.find.is_place.Goals as goal

pub parts_of-requires : goal.parts_of-requires
parts_of-requires g c =
    url-of_store (g.R.Rows.kept c.args.rows.now) c.args.page c.as_str.result.now
    (g.met.R.Rows.well_kept c.args.rows.now)
    (ap (λ (text : List ℕ). Some text) c.as_str.ensures ∙ c.in_ok-text.ensures.url)

pub returns : goal.returns
returns g c =
    ap (λ (b : Bool). Some b)
    (is_place-by_parts c.as_str.result.now c.in_ok-parts.parts c.in_ok-parts.ensures)
    ∙ ap (option_map is_place_url)
    (ap (λ (text : List ℕ). Some text) c.as_str.ensures ∙ c.in_ok-text.ensures.url)
