use Rattle.std.proofs.Common.{◌≡◌, ◌∙◌, ℕ, Bool, List, ap, false, sym, true}
use Rattle.std.specs.BTreeMap.{is_at}
use Rattle.std.specs.BTreeSet.{contains}
use Rattle.std.specs.Cmp.Lexicographic.{slice_cmp}
use Rattle.std.specs.List.{list_any}
use Rattle.std.specs.Ordering.{nat_cmp}
use Rattle.std.proofs.lemmas.Bool.{not-false, not-true, OnFalse_at}
use Rattle.pl_base.specs.Fold.{folded}
use Rattle.pl_words.specs.TagLists.{each_once, is_same_tag}
use Rattle.pl_words.proofs.TagListLaws.{has_fold, once-firsts, seen_new, tags_known, tags_new}
use Rattle.pl_words.proofs.tag_list.first_tags.Goals as goal

pub loop-tag-preserved-in_ok-push : goal.loop-tag-preserved-in_ok-push
loop-tag-preserved-in_ok-push c =
    let before : List ℕ → Bool = contains (slice_cmp nat_cmp) c.loop-tag.seen in
    let after : List ℕ → Bool = contains (slice_cmp nat_cmp) c.insert.new.self in
    let this = c.in_ok-fold.ensures ∙ ap folded c.text.ensures.value in
    let absent : before c.in_ok-fold.field-0 ≡ false = not-true _ (sym c.in_ok-insert.ensures.added ∙ c.if-branch.true) in
    record {
      tags = c.in_ok-push.ensures.items
          ∙ tags_new _ _ before c.in-Some.tag c.in_ok-fold.field-0 c.loop-tag.invariant.tags c.loop-tag.invariant.seen this absent;
      seen = λ f.
          seen_new _ _ before c.in-Some.tag c.in_ok-fold.field-0 c.loop-tag.invariant.tags c.loop-tag.invariant.seen this
          after c.in_ok-insert.ensures.updates.0 f
          ∙ ap (λ ts. has_fold ts f) (sym c.in_ok-push.ensures.items);
    }

pub loop-tag-preserved : goal.loop-tag-preserved
loop-tag-preserved c =
    let before : List ℕ → Bool = contains (slice_cmp nat_cmp) c.loop-tag.seen in
    let this = c.in_ok-fold.ensures ∙ ap folded c.text.ensures.value in
    let present : before c.in_ok-fold.field-0 ≡ true = not-false _ (sym c.in_ok-insert.ensures.added ∙ c.if-branch.false) in
    record {
      tags =
          tags_known _ _ before c.in-Some.tag c.in_ok-fold.field-0 c.loop-tag.invariant.tags c.loop-tag.invariant.seen this present;
      seen = λ f.
          ap (λ keys. list_any (is_at (slice_cmp nat_cmp f)) keys) (OnFalse_at c.if-branch.false c.in_ok-insert.ensures.unchanged)
          ∙ c.loop-tag.invariant.seen f;
    }

pub returns-clause-form : goal.returns-clause-form
returns-clause-form c =
    ap (each_once is_same_tag) (c.from.ensures ∙ c.loop-tag.invariant.tags) ∙ once-firsts is_same_tag _
