use Rattle.std.proofs.Common.{◌∙◌, List, ap, ℕ}
use Rattle.pl_query.specs.Decides.{are_tags_in}
use Rattle.pl_query.specs.DecidedParts.{are_folds_in}
use Rattle.pl_query.proofs.FoldedTags.{folds_tell}
use Rattle.pl_query.proofs.decided.tags.has_tags_asked.Goals as goal

pub returns : goal.returns
returns c =
    c.has_tags_in.ensures
    ∙ ap (λ (folds : List (List ℕ)). are_folds_in folds c.args.query.now.not_tags
    c.as_str-2.result.now)
    (c.deref.ensures.value ∙ c.in_ok-folds.ensures)
    ∙ ap (are_folds_in _ c.args.query.now.not_tags) (c.as_str-2.ensures ∙ c.in_ok-text.ensures)
    ∙ folds_tell c.args.query.now.tags c.args.query.now.not_tags c.as_str.result.now c.as_str.utf8
    ∙ ap (are_tags_in c.args.query.now.tags c.args.query.now.not_tags) c.as_str.ensures
