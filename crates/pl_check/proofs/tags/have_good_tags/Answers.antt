use Rattle.std.proofs.Common.{◌∙◌, ap}
use Rattle.pl_check.specs.Tags.{targets}
use Rattle.pl_check.proofs.TagWalks.{no_tags, one_id}
use Rattle.pl_check.proofs.tags.have_good_tags.Goals as goal

pub returns-then-not-are_distinct : goal.returns-then-not-are_distinct
returns-then-not-are_distinct c =
    one_id c.args.items.now c.deref.result.now c.in_ok-item_numbers.field-0.items c.are_distinct.result
    (ap targets c.deref.ensures.value ∙ c.in_ok-tags.ensures) c.in_ok-item_numbers.ensures c.are_distinct.ensures
    c.if-not-are_distinct.true

pub returns-then-not-branch : goal.returns-then-not-branch
returns-then-not-branch c =
    no_tags c.args.items.now c.deref-2.result.now c.in_ok-are_good_tags.field-0
    (ap targets c.deref-2.ensures.value ∙ c.in_ok-tags.ensures) c.in_ok-are_good_tags.ensures c.if-not-branch.true
