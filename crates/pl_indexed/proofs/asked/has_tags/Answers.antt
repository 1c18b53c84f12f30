use Rattle.std.proofs.Common.{◌∙◌, ◌==◌, IsUtf8, List, ap, subst, sym, ℕ}
use Rattle.pl_base.proofs.Truths.{no_length}
use Rattle.pl_query.specs.DecidedParts.{are_folds_in}
use Rattle.pl_query.specs.Decides.{are_tags_in}
use Rattle.pl_query.proofs.FoldedTags.{folds_tell}
use Rattle.pl_indexed.proofs.AskedTexts.{none_has, some_tags}
use Rattle.pl_indexed.proofs.asked.has_tags.Goals as goal

pub returns-then-is_empty-2 : goal.returns-then-is_empty-2
returns-then-is_empty-2 c =
    let asked = c.args.asked.now in
    let q = asked.query.now in
    sym (ap (are_tags_in q.tags q.not_tags)
    (sym c.as_str.ensures ∙ no_length c.as_str.result.now (sym c.is_empty-2.ensures ∙ c.if-is_empty-2.true))
    ∙ none_has q.tags q.not_tags
    (some_tags q asked c.requires.asked
    (sym (ap (λ (n : ℕ). n == 0) asked.tags.ok.0) ∙ sym c.is_empty.ensures ∙ c.if-is_empty.false)))

pub returns : goal.returns
returns c =
    let q = c.args.asked.now.query.now in
    c.has_tags_in.ensures
    ∙ ap (λ (folds : List (List ℕ)). are_folds_in folds q.not_tags c.as_str-2.result.now)
    (c.deref.ensures.value ∙ c.requires.asked.tags)
    ∙ ap (are_folds_in _ q.not_tags) (c.as_str-2.ensures ∙ ap (λ t. t.tags) c.requires.texts)
    ∙ folds_tell q.tags q.not_tags c.args.view.now.tags (subst IsUtf8 c.as_str.ensures c.as_str.utf8)
