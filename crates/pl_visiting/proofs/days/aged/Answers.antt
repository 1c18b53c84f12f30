use Rattle.std.proofs.Common.{◌∙◌, ℤ, ap, of_z, rules, to_z, w64}
use Rattle.std.proofs.lemmas.Int.{to_z-of_z}
use Rattle.pl_base.specs.declared.view.View.{View}
use Rattle.pl_visiting.proofs.DayChanges.{is_change}
use Rattle.pl_visiting.proofs.days.aged.Goals as goal

pub returns-clause-change : goal.returns-clause-change
returns-clause-change g c =
    is_change (g.R.Rows.kept c.args.rows.now) c.args.old.now c.in_ok-copied.field-0 _ c.in_ok-aged.aged
    c.in_ok-aged.ensures.aged c.requires.due c.in_ok-copied.ensures
    (ap (λ (v : View). record v {
      frecency = to_z w64 (of_z w64 c.in_ok-aged.aged.frecency);
      due = c.in_ok-aged.aged.due;
    }) c.in_ok-copied-2.ensures
    ∙ ap (λ (z : ℤ). record c.args.old.now { frecency = z; due = c.in_ok-aged.aged.due })
    (to_z-of_z w64 c.in_ok-aged.aged.frecency (search rules)))
