use Rattle.std.proofs.Common.{[], ◌∷◌, ◌++◌, ◌∙◌, ap, subst}
use Rattle.std.proofs.lemmas.List.Elements.{All-more}
use Rattle.pl_words.specs.TagName.{tag_named}
use Rattle.pl_place.specs.declared.key.Key.TheVariants as keys
use Rattle.pl_place.specs.Canonical.{ReadsBack, itself, pair}
use Rattle.pl_place.proofs.CutPairs.{one_more_text}
use Rattle.pl_place.proofs.ReadBack.{tag_back}
use Rattle.pl_place.proofs.writer.Pairs.push_tags.Goals as goal

pub loop-tag-preserved : goal.loop-tag-preserved
loop-tag-preserved c =
    let tags = c.args.tags.now in
    let i = c.loop-tag.tag-index in
    let tag = c.tag-item.result in
    let text = c.text.ensures.value ∙ c.tag-item.is in
    record {
      pairs =
          one_more_text keys.Tag tags i tag _ _ _ c.loop-tag-test.true c.loop-tag.invariant.pairs
          (c.in_ok-push.ensures ∙ ap (λ x. c.loop-tag.self ++ pair keys.Tag x ∷ []) text);
      own =
          All-more (ReadsBack tag_named itself) tags i tag c.loop-tag-test.true c.loop-tag.invariant.own
          (subst (ReadsBack tag_named itself) c.tag-item.is (tag_back tag c.text.ensures.given));
    }
