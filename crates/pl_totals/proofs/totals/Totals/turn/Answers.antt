use Rattle.std.proofs.Common.{rules, ◌≡◌, ◌∙◌, ap, sym, w64}
use Rattle.std.proofs.lemmas.Int.{to_z-of_z}
use Rattle.std.proofs.lemmas.Result.{on_ok_weaker}
use Rattle.pl_base.specs.Totals.{share}
use Rattle.pl_totals.proofs.Followed.{can_turn, left, turned}
use Rattle.pl_totals.proofs.totals.Totals.turn.Goals as goal

pub returns-then-step : goal.returns-then-step
returns-then-step c =
    let from : c.share.result ≡ share c.args.old.now.frecency =
    c.share.ensures.share ∙ ap share (to_z-of_z w64 c.args.old.now.frecency (search rules)) in
    let to : c.share-2.result ≡ share c.args.new.now.frecency =
    c.share-2.ensures.share ∙ ap share (to_z-of_z w64 c.args.new.now.frecency (search rules)) in
    record {
      stands = λ views stands may. left c.args.self.now c.args.old.now c.args.new.now views stands may
          (sym from ∙ c.if-step.true ∙ to);
    }

pub apply-requires : goal.apply-requires
apply-requires c =
    let from : c.share.result ≡ share c.args.old.now.frecency =
    c.share.ensures.share ∙ ap share (to_z-of_z w64 c.args.old.now.frecency (search rules)) in
    let to : c.share-2.result ≡ share c.args.new.now.frecency =
    c.share-2.ensures.share ∙ ap share (to_z-of_z w64 c.args.new.now.frecency (search rules)) in
    let may = c.requires.may in
    rw (c.as_str.ensures, c.as_str-2.ensures, from, to)
    (record { room = can_turn c.args.self.now c.args.old.now c.args.new.now may.views may.stands may.holds })

pub returns : goal.returns
returns c =
    let from : c.share.result ≡ share c.args.old.now.frecency =
    c.share.ensures.share ∙ ap share (to_z-of_z w64 c.args.old.now.frecency (search rules)) in
    let to : c.share-2.result ≡ share c.args.new.now.frecency =
    c.share-2.ensures.share ∙ ap share (to_z-of_z w64 c.args.new.now.frecency (search rules)) in
    record {
      stands =
          on_ok_weaker c.apply.result
          (λ steps views stands may.
          turned c.args.self.now c.args.old.now c.args.new.now views stands may c.apply.new.self steps)
          (rw (c.as_str.ensures, c.as_str-2.ensures, from, to) at c.apply.ensures.steps);
    }
