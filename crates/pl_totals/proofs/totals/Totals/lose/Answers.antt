use Rattle.std.proofs.Common.{rules, ◌≡◌, ◌∙◌, ap, w64}
use Rattle.std.proofs.lemmas.Int.{to_z-of_z}
use Rattle.std.proofs.lemmas.Result.{on_ok_weaker}
use Rattle.pl_base.specs.Totals.{share}
use Rattle.pl_totals.proofs.Followed.{can_lose, lost}
use Rattle.pl_totals.proofs.totals.Totals.lose.Goals as goal

pub apply-requires : goal.apply-requires
apply-requires c =
    let from : c.share.result ≡ share c.args.view.now.frecency =
    c.share.ensures.share ∙ ap share (to_z-of_z w64 c.args.view.now.frecency (search rules)) in
    let may = c.requires.may in
    rw (c.as_str.ensures, c.as_str-2.ensures, from)
    (record { room = can_lose c.args.self.now c.args.view.now may.views may.stands may.holds })

pub returns : goal.returns
returns c =
    let from : c.share.result ≡ share c.args.view.now.frecency =
    c.share.ensures.share ∙ ap share (to_z-of_z w64 c.args.view.now.frecency (search rules)) in
    record {
      stands =
          on_ok_weaker c.apply.result
          (λ steps views stands may. lost c.args.self.now c.apply.new.self c.args.view.now views stands may steps)
          (rw (c.as_str.ensures, c.as_str-2.ensures, from) at c.apply.ensures.steps);
    }
