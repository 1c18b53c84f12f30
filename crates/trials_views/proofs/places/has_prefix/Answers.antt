use Rattle.std.proofs.Common.{◌∙◌, ap, nat_eq}
use Rattle.std.specs.List.{starts_with}
use Rattle.std.proofs.lemmas.Str.Pattern.{starts_text}
use Rattle.trials_views.proofs.places.has_prefix.Goals as goal

pub returns : goal.returns
returns c =
    starts_text c.starts_with.result c.as_str-2.result.now c.as_str.result.now c.starts_with.ensures.cases
    ∙ ap (λ url. starts_with nat_eq url c.as_str-2.result.now) c.as_str.ensures
    ∙ ap (λ prefix. starts_with nat_eq c.args.view.now.url prefix) c.as_str-2.ensures
