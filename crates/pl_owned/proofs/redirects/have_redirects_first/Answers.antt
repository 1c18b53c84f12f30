use Rattle.std.proofs.Common.{◌≡◌, ◌∙◌, arith, get_or, sym, true}
use Rattle.std.proofs.lemmas.Bool.{true≢false}
use Rattle.pl_owned.specs.Redirects.{holds_redirect}
use Rattle.pl_owned.proofs.OwnersTold.{at_itself}
use Rattle.pl_owned.proofs.RedirectFronts.{past_split, split_on}
use Rattle.pl_rail.specs.Rails.{none}
use Rattle.pl_owned.proofs.redirects.have_redirects_first.Goals as goal
use Rattle.pl_owned.proofs.redirects.have_redirects_first.Goals.{else-is_redirect-via-else-is_redirect}
use Rattle.pl_owned.proofs.redirects.have_redirects_first.Goals.{else-is_redirect-via-then-is_redirect+else-not-all_so_far}

pub returns-then-not-all_so_far-clause-no : goal.returns-then-not-all_so_far-clause-no
returns-then-not-all_so_far-clause-no g c is first =
    past_split (holds_redirect c.args.arena.now) c.args.slots.now c.loop-slot.slot-index
    (get_or c.args.slots.now c.loop-slot.slot-index none) c.loop-slot.all_so_far (omega arith)
    (at_itself c.args.slots.now c.loop-slot.slot-index none (omega arith)) c.loop-slot.invariant.split
    (sym c.is_redirect-is_redirect.ensures.redirect ∙ c.if-is_redirect.true) c.if-not-all_so_far.true
    first.front first.back first.whole first.redirects first.others

pub loop-slot-preserved : goal.loop-slot-preserved
loop-slot-preserved g c =
    let only : c.is_redirect-is_redirect.result ≡ true → c.loop-slot.all_so_far ≡ true =
    λ passes. elim c.else-is_redirect.branch [
      | else-is_redirect-via-then-is_redirect+else-not-all_so_far w ↦ w.if-not-all_so_far.false
      | else-is_redirect-via-else-is_redirect w ↦ absurd (true≢false (sym passes ∙ w.if-is_redirect.false))
    ] in
    record {
      split =
          split_on (holds_redirect c.args.arena.now) c.args.slots.now c.loop-slot.slot-index
          (get_or c.args.slots.now c.loop-slot.slot-index none) c.loop-slot.all_so_far (omega arith)
          (at_itself c.args.slots.now c.loop-slot.slot-index none (omega arith)) c.loop-slot.invariant.split
          c.is_redirect-is_redirect.result c.is_redirect-is_redirect.ensures.redirect only;
      few = omega (arith, c.loop-slot.invariant.few, c.is_redirect-is_redirect.ensures.counted);
    }
