use Rattle.std.proofs.Common.{◌∙◌, ◌==◌, ap}
use Rattle.std.specs.List.{list_any}
use Rattle.pl_sound.specs.Redirects.{redirect_sources}
use Rattle.pl_stored.specs.Stored.{Stored}
use Rattle.pl_sound.proofs.redirects.Redirects.of.Goals as goal

pub invariant_of-result : goal.invariant_of-result
invariant_of-result c =
    record {
      ascending = c.requires;
      sources =
          λ id. c.of-sources.ensures id
          ∙ ap (list_any (λ n. n == id))
          (c.in_ok-redirect_sources.ensures
          ∙ ap redirect_sources (c.deref.ensures.value ∙ ap (λ (s : Stored). s.visits) c.rows.view_is));
    }
