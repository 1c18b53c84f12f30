use Rattle.std.proofs.Common.{◌∙◌, ◌≡◌, ◌++◌, List, IfOk, ap, lit<, subst, ℕ}
use Rattle.std.specs.List.{filter_map}
use Rattle.std.specs.Option.{option_to_list}
use Rattle.std.specs.Str.Iter.{split_has_more, split_pattern, split_text}
use Rattle.std.proofs.lemmas.Iterator.Consumers.{YieldsList-end}
use Rattle.std.proofs.lemmas.Iterator.Splits.{YieldsList-from_str_split}
use Rattle.pl_words.specs.TagLists.{firsts, is_same_tag}
use Rattle.pl_words.specs.TagName.{tag_named}
use Rattle.pl_nbread.proofs.ValueSteps.{tags-more}
use Rattle.pl_backup.proofs.fields.tags_in.Goals as goal

pub loop-name-preserved : goal.loop-name-preserved
loop-name-preserved c =
    c.in_ok-push_tag.ensures ∙ ap (λ (tags : List (List ℕ)). tags ++ option_to_list (tag_named c.in-Some.name.now)) c.loop-name.invariant
    ∙ tags-more c.loop-name.yielded c.in-Some.name

pub returns : goal.returns
returns c =
    let gives = c.into_iter-name-iterator.ensures.into_iter_gives in
    let split = YieldsList-from_str_split {s = c.into_iter-name-iterator.result} 44 c.args.text.now
    (lit< tt)
    (ap split_text gives ∙ c.split-name-items.ensures.text)
    (ap split_has_more gives ∙ c.split-name-items.ensures.has_more)
    (ap split_pattern gives ∙ c.split-name-items.ensures.pattern) in
    let end = YieldsList-end split c.loop-name.yielded _ c.loop-name.yielded_by _ _ c.in-None.is
    c.next.ensures.steps in
    let told = c.loop-name.invariant ∙ ap (filter_map tag_named) end.0 in
    subst (λ (names : List (List ℕ)). IfOk c.first_tags.result (λ tags. tags ≡ firsts is_same_tag names)) told
    c.first_tags.ensures.value
