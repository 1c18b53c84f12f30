-- The look-ups and the numbers are those of the rows.
use Rattle.std.proofs.Common.{◌∙◌, ap}
use Rattle.pl_base.specs.declared.id.Ids.{Ids}
use Rattle.pl_graft.proofs.Ready.{ready}
use Rattle.pl_graft.proofs.cost.Tally.of.Goals as goal

pub returns-clause-tally : goal.returns-clause-tally
returns-clause-tally g c =
    record {
      pages = c.in_ok-of.ensures;
      tags = c.in_ok-of-2.ensures;
      live = c.live.ensures.live;
      page = c.from.ensures ∙ ap (λ (ids : Ids). ids.page) c.ids-ids.ensures.ids;
      item = c.from-2.ensures ∙ ap (λ (ids : Ids). ids.item) c.ids-ids.ensures.ids;
      ready = ready (g.R.Rows.kept c.args.rows.now) (g.met.R.Rows.well_kept c.args.rows.now) c.requires.good;
    }
