use Rattle.std.proofs.Common.{◌∙◌, ap}
use Rattle.pl_base.specs.Redirects.{is_redirect_source}
use Rattle.pl_sound.proofs.RedirectedVisits.{led}
use Rattle.pl_stored.specs.Stored.{Stored, stored_store, visit_of}
use Rattle.pl_sound.proofs.redirects.Redirects.led_from.Goals as goal

pub returns : goal.returns
returns c =
    let visit = c.args.visit.now in
    c.has.ensures ∙ c.self.invariant.sources visit.id.0 ∙ led visit.id c.self.inside.rows.now.visits
    ∙ ap (λ (s : Stored). is_redirect_source (stored_store s) (visit_of visit)) c.self.view_is
