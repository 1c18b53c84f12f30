use Rattle.std.proofs.Common.{◌≡◌, ◌∙◌, ap, arith, sym}
use Rattle.std.specs.Option.{option_copied}
use Rattle.pl_calendar.specs.Days.{due_pages}
use Rattle.pl_visiting.proofs.DayChanges.{due_here, ends_counted, ends_leading, ends_sound, few, goes_on, had_here}
use Rattle.pl_visiting.proofs.DayChanges.{is_known, starts}
use Rattle.pl_visiting.proofs.days.set_day.Goals as goal

pub loop-page-init : goal.loop-page-init
loop-page-init g c =
    let due : c.deref-page-items.result.now ≡ due_pages c.args.day c.args.known.now.views.items =
    c.deref-page-items.ensures.value
    ∙ c.in_ok-due.ensures c.args.known.now.views.items c.requires.knows.followed.days in
    record {
      due = due;
      aged =
          starts c.args.day c.deref-page-items.result.now (g.R.Rows.kept c.args.rows.now) c.args.known.now
          (g.met.R.Rows.well_kept c.args.rows.now) c.requires.day c.requires.later c.requires.sound c.requires.knows
          due (g.R.Rows.kept c.set_day.new.self) c.new-changes.result.items c.set_day.ensures.kept
          c.new-changes.ensures.items;
      base = c.set_day.ensures.base;
      cost = omega (arith, c.set_day.ensures.cost);
    }

pub unwrap-old-requires : goal.unwrap-old-requires
unwrap-old-requires g c =
    is_known c.args.day c.deref-page-items.result.now (g.R.Rows.kept c.args.rows.now) c.args.known.now
    (g.met.R.Rows.well_kept c.args.rows.now) c.requires.day c.requires.later c.requires.sound c.requires.knows
    c.loop-page.invariant.due c.loop-page.page-index _ c.loop-page-test.true c.view.result c.view.ensures

pub aged-requires-clause-had : goal.aged-requires-clause-had
aged-requires-clause-had g c =
    had_here c.args.day c.deref-page-items.result.now (g.R.Rows.kept c.args.rows.now) c.args.known.now
    (g.met.R.Rows.well_kept c.args.rows.now) c.requires.day c.requires.later c.requires.sound c.requires.knows
    c.loop-page.invariant.due c.loop-page.page-index _ c.loop-page-test.true c.unwrap-old.result.now
    (sym (ap option_copied c.unwrap-old.ensures) ∙ c.view.ensures) (g.R.Rows.kept c.loop-page.rows)
    c.loop-page.changes.items c.loop-page.invariant.aged

pub aged-requires-clause-due : goal.aged-requires-clause-due
aged-requires-clause-due g c =
    due_here c.args.day c.deref-page-items.result.now (g.R.Rows.kept c.args.rows.now) c.args.known.now
    (g.met.R.Rows.well_kept c.args.rows.now) c.requires.day c.requires.later c.requires.sound c.requires.knows
    c.loop-page.invariant.due c.loop-page.page-index _ c.loop-page-test.true c.unwrap-old.result.now
    (sym (ap option_copied c.unwrap-old.ensures) ∙ c.view.ensures) (g.R.Rows.kept c.loop-page.rows)
    c.loop-page.changes.items c.loop-page.invariant.aged

pub aged-requires-clause-sums : goal.aged-requires-clause-sums
aged-requires-clause-sums g c = c.loop-page.invariant.aged.sums

pub loop-page-preserved : goal.loop-page-preserved
loop-page-preserved g c =
    record {
      due = c.loop-page.invariant.due;
      aged =
          goes_on c.args.day c.deref-page-items.result.now (g.R.Rows.kept c.args.rows.now) c.args.known.now
          (g.met.R.Rows.well_kept c.args.rows.now) c.requires.day c.requires.later c.requires.sound c.requires.knows
          c.loop-page.invariant.due c.loop-page.page-index _ c.loop-page-test.true c.unwrap-old.result.now
          (sym (ap option_copied c.unwrap-old.ensures) ∙ c.view.ensures) (g.R.Rows.kept c.loop-page.rows)
          c.loop-page.changes.items c.loop-page.invariant.aged (g.R.Rows.kept c.aged.new.rows)
          c.push.new.self.items c.in_ok-aged.field-0 c.in_ok-aged.ensures.store c.in_ok-aged.ensures.right
          c.in_ok-aged.ensures.sums c.in_ok-aged.ensures.change c.in_ok-push.ensures.items;
      base = λ bytes was. c.in_ok-aged.ensures.base bytes (c.loop-page.invariant.base bytes was);
      cost = omega (arith, c.loop-page.invariant.cost, c.in_ok-aged.ensures.cost);
    }

pub returns-in_err-aged-clause-cost : goal.returns-in_err-aged-clause-cost
returns-in_err-aged-clause-cost g c =
    omega (
      arith,
      few c.args.day c.deref-page-items.result.now (g.R.Rows.kept c.args.rows.now) c.args.known.now
          (g.met.R.Rows.well_kept c.args.rows.now) c.requires.day c.requires.later c.requires.sound c.requires.knows
          c.loop-page.invariant.due,
      c.loop-page-test.true,
      c.loop-page.invariant.cost,
      c.in_err-aged.ensures.cost,
    )

pub returns-in_err-push-clause-cost : goal.returns-in_err-push-clause-cost
returns-in_err-push-clause-cost g c =
    omega (
      arith,
      few c.args.day c.deref-page-items.result.now (g.R.Rows.kept c.args.rows.now) c.args.known.now
          (g.met.R.Rows.well_kept c.args.rows.now) c.requires.day c.requires.later c.requires.sound c.requires.knows
          c.loop-page.invariant.due,
      c.loop-page-test.true,
      c.loop-page.invariant.cost,
      c.in_ok-aged.ensures.cost,
    )

pub returns-clause-store : goal.returns-clause-store
returns-clause-store g c = c.loop-page.invariant.aged.store

pub returns-clause-sound : goal.returns-clause-sound
returns-clause-sound g c =
    ends_sound c.args.day c.deref-page-items.result.now (g.R.Rows.kept c.args.rows.now) c.args.known.now
    (g.met.R.Rows.well_kept c.args.rows.now) c.requires.day c.requires.later c.requires.sound c.requires.knows
    c.loop-page.invariant.due (g.R.Rows.kept c.loop-page.rows) c.loop-page.page-index c.loop-page.changes.items
    c.loop-page-test.false (g.met.R.Rows.well_kept c.loop-page.rows) c.loop-page.invariant.aged

pub returns-clause-leads : goal.returns-clause-leads
returns-clause-leads g c =
    ends_leading c.args.day c.deref-page-items.result.now (g.R.Rows.kept c.args.rows.now) c.args.known.now
    (g.met.R.Rows.well_kept c.args.rows.now) c.requires.day c.requires.later c.requires.sound c.requires.knows
    c.loop-page.invariant.due (g.R.Rows.kept c.loop-page.rows) c.loop-page.page-index c.loop-page.changes.items
    c.loop-page-test.false (g.met.R.Rows.well_kept c.loop-page.rows) c.loop-page.invariant.aged

pub returns-clause-moved : goal.returns-clause-moved
returns-clause-moved g c =
    ends_counted c.args.day c.deref-page-items.result.now (g.R.Rows.kept c.args.rows.now) c.args.known.now
    (g.met.R.Rows.well_kept c.args.rows.now) c.requires.day c.requires.later c.requires.sound c.requires.knows
    c.loop-page.invariant.due (g.R.Rows.kept c.loop-page.rows) c.loop-page.page-index c.loop-page.changes.items
    c.loop-page-test.false (g.met.R.Rows.well_kept c.loop-page.rows) c.loop-page.invariant.aged

pub returns-clause-base : goal.returns-clause-base
returns-clause-base g c = c.loop-page.invariant.base

pub returns-clause-cost : goal.returns-clause-cost
returns-clause-cost g c =
    omega (
      arith,
      few c.args.day c.deref-page-items.result.now (g.R.Rows.kept c.args.rows.now) c.args.known.now
          (g.met.R.Rows.well_kept c.args.rows.now) c.requires.day c.requires.later c.requires.sound c.requires.knows
          c.loop-page.invariant.due,
      c.loop-page.auto.page-index-end,
      c.loop-page.invariant.cost,
    )
