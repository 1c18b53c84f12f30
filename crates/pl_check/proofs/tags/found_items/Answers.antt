use Rattle.std.proofs.Common.{◌∙◌, Some, None, ap, append-nil, sym}
use Rattle.std.specs.Option.{option_copied}
use Rattle.pl_check.proofs.TagWalks.{found_more}
use Rattle.pl_check.proofs.tags.found_items.Goals as goal
use Rattle.pl_check.proofs.tags.found_items.Goals.{in-Some+in_ok-push, in_default}

pub loop-id-preserved : goal.loop-id-preserved
loop-id-preserved c =
    elim c.match-find_item.branch [
      | in-Some+in_ok-push w ↦
          found_more c.args.items.now c.args.ids.now c.loop-id.id-index (record { 0 = 0 }) c.loop-id.found.items
          c.match-find_item.found.items (Some w.in-Some.item) c.loop-id-test.true c.loop-id.invariant
          (ap option_copied (sym w.in-Some.is) ∙ c.find_item.ensures)
          (ap (λ v. v.items) w.found-is ∙ w.in_ok-push.ensures.items)
      | in_default w ↦
          found_more c.args.items.now c.args.ids.now c.loop-id.id-index (record { 0 = 0 }) c.loop-id.found.items
          c.match-find_item.found.items None c.loop-id-test.true c.loop-id.invariant
          (ap option_copied (sym w.in_default.is) ∙ c.find_item.ensures)
          (ap (λ v. v.items) w.found-is ∙ sym (append-nil c.loop-id.found.items))
    ]
