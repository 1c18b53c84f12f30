use Rattle.std.proofs.Common.{Bor}
use Rattle.pl_base.specs.Store.{Item}
use Rattle.pl_check.specs.Tags.{IsGoodTag}
use Rattle.pl_check.proofs.TagWalks.{all_end, all_more, bad_one}
use Rattle.pl_check.proofs.tags.are_good_tags.Goals as goal

pub returns-then-not-branch : goal.returns-then-not-branch
returns-then-not-branch c =
    bad_one (IsGoodTag c.args.items.now) c.args.tags.now c.loop-tag.tag-index c.tag-item.result
    c.in_ok-is_good_tag.field-0 c.loop-tag-test.true c.tag-item.is c.in_ok-is_good_tag.ensures c.if-not-branch.true

pub loop-tag-preserved : goal.loop-tag-preserved
loop-tag-preserved c =
    all_more (λ (r : Bor Item). IsGoodTag c.args.items.now r.now) c.args.tags.now c.loop-tag.tag-index c.tag-item.result
    c.in_ok-is_good_tag.field-0 c.loop-tag-test.true c.tag-item.is c.loop-tag.invariant c.in_ok-is_good_tag.ensures
    c.if-not-branch.false

pub returns : goal.returns
returns c =
    all_end (IsGoodTag c.args.items.now) c.args.tags.now c.loop-tag.tag-index c.loop-tag-test.false c.loop-tag.invariant
