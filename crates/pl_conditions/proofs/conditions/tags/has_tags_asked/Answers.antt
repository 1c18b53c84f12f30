use Rattle.std.proofs.Common.{◌∙◌, List, ap, ℕ}
use Rattle.pl_base.specs.Rows.{store_of}
use Rattle.pl_conditions.specs.AskedParts.{are_among}
use Rattle.pl_conditions.proofs.AskedLaws.{tags_among}
use Rattle.pl_conditions.proofs.conditions.tags.has_tags_asked.Goals as goal

pub returns : goal.returns
returns g c =
    c.are_among.ensures
    ∙ ap (λ (folds : List (List ℕ)). are_among folds c.deref-2.result.now c.args.asked.now.query.now.not_tags)
    c.deref.ensures.value
    ∙ ap (λ (tags : List (List ℕ)). are_among c.in_ok-folds.folds.items tags c.args.asked.now.query.now.not_tags)
    (c.deref-2.ensures.value ∙ c.requires.asked.tags)
    ∙ tags_among (store_of (g.R.Rows.kept c.args.rows.now)) c.args.page c.in_ok-folds.folds.items
    c.args.asked.now.query.now.tags c.args.asked.now.query.now.not_tags c.in_ok-folds.ensures
