use Rattle.std.proofs.Common.{[], ◌∷◌, ◌++◌, ◌∙◌, ap, decimal}
use Rattle.pl_base.specs.declared.transition.Transition.TheVariants.{Link}
use Rattle.pl_place.specs.Canonical.{pair, transition_text}
use Rattle.pl_place.specs.declared.key.Key.TheVariants as keys
use Rattle.pl_place.proofs.CutPairs.{one_more}
use Rattle.pl_place.proofs.writer.Pairs.push_transitions.Goals as goal

pub loop-transition-preserved : goal.loop-transition-preserved
loop-transition-preserved c =
    let text = ap decimal (c.from.ensures ∙ c.number.ensures) in
    one_more keys.Transition transition_text c.args.transitions.now c.loop-transition.transition-index Link _ _ _
    c.loop-transition-test.true c.loop-transition.invariant
    (c.in_ok-push_number.ensures.pairs ∙ ap (λ x. c.loop-transition.self ++ pair keys.Transition x ∷ []) text)
