use Rattle.std.proofs.Common.{arith, subst}
use Rattle.pl_history.specs.Target.{IsTargetOf}
use Rattle.pl_history.proofs.Targets.{slots_known, slots_new}
use Rattle.pl_history.proofs.slots.slots_after.Goals as goal

pub overflow_add-result-in-New : goal.overflow_add-result-in-New
overflow_add-result-in-New g c =
    omega (arith, c.live-live.ensures.live, c.new_slots.ensures.most, (g.met.R.Rows.well_kept c.args.rows.now).live)

pub returns-in-Known-clause-after : goal.returns-in-Known-clause-after
returns-in-Known-clause-after g c transition date source =
    omega (
      arith,
      c.live-live.ensures.live,
      slots_known (g.R.Rows.kept c.args.rows.now) c.args.url.now c.in-Known.field-0 transition date source
          (subst (IsTargetOf (g.R.Rows.kept c.args.rows.now) c.args.url.now) c.in-Known.is c.requires),
    )

pub returns-in-New-clause-after : goal.returns-in-New-clause-after
returns-in-New-clause-after g c transition date source =
    omega (
      arith,
      c.live-live.ensures.live,
      c.new_slots.ensures.slots,
      slots_new (g.R.Rows.kept c.args.rows.now) c.args.url.now c.in-New.origin transition date source
          (subst (IsTargetOf (g.R.Rows.kept c.args.rows.now) c.args.url.now) c.in-New.is c.requires),
    )
