use Rattle.std.proofs.Common.{◌∙◌, subst, sym}
use Rattle.trials_rails.specs.Asked.{HasFront}
use Rattle.trials_rails.proofs.AskedLemmas.{front_to}
use Rattle.trials_rails.proofs.calls.has_front.Goals as goal

pub returns-in-Some : goal.returns-in-Some
returns-in-Some c told =
    subst (λ after. HasFront after c.args.slots.now) (sym c.in-Some.is)
    (front_to c.in-Some.slot c.args.slots.now (sym c.contains.ensures.value ∙ told))
