use Rattle.std.proofs.Common.{◌∙◌, ◌+◌, ap, ℕ}
use Rattle.pl_base.specs.declared.id.Ids.{Ids}
use Rattle.pl_graft.proofs.SparedSteps.{first_tally}
use Rattle.pl_graft.proofs.cost.Tally.without_pages.Goals as goal

pub returns-clause-tally : goal.returns-clause-tally
returns-clause-tally g c =
    first_tally (g.R.Rows.kept c.args.rows.now)
    (record {
      alloc = c.args.alloc;
      pages = c.none.result;
      tags = c.none-2.result;
      live = 6 + c.from.result;
      next_page = c.from-2.result;
      next_item = c.from-3.result;
    }) (g.met.R.Rows.well_kept c.args.rows.now) c.none.ensures c.none-2.ensures
    (ap (λ (n : ℕ). 6 + n) (c.from.ensures ∙ c.visits.ensures.visits))
    (c.from-2.ensures ∙ ap (λ (ids : Ids). ids.page) c.ids-ids.ensures.ids)
    (c.from-3.ensures ∙ ap (λ (ids : Ids). ids.item) c.ids-ids.ensures.ids)
