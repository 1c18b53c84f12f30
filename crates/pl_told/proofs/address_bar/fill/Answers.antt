use Rattle.std.proofs.Common.{◌≡◌, ◌∙◌, ap, sym, List}
use Rattle.pl_bar.specs.Filled.{filled}
use Rattle.pl_base.specs.declared.view.View.{View}
use Rattle.pl_base.specs.Totals.{Scored, scored_pages}
use Rattle.pl_step.specs.Step.{group_reply}
use Rattle.pl_told.proofs.Views.{scored_same}
use Rattle.pl_told.proofs.address_bar.fill.Goals.{in-Some, in-None}
use Rattle.pl_told.proofs.address_bar.fill.Goals as goal

pub returns : goal.returns
returns g c = λ store knows.
    let views : List View = c.args.known.now.views.items in
    let told : group_reply c.in_ok-group.group ≡ group_reply (filled (scored_pages store) c.args.text.now) =
    ap group_reply (c.in_ok-group.ensures.filled views c.requires.followed.totals
    ∙ ap (λ (ss : List Scored). filled ss c.as_str.result.now) (scored_same store views knows.views)
    ∙ ap (filled (scored_pages store)) c.as_str.ensures) in
    elim c.match-group.branch [
      | in-Some w ↦ w.result-is ∙ ap group_reply (sym w.in-Some.is) ∙ told
      | in-None w ↦ w.result-is ∙ ap group_reply (sym w.in-None.is) ∙ told
    ]
