use Rattle.std.proofs.Common.{◌∙◌, ap, arith, length, refl, rules, sym}
use Rattle.pl_base.specs.Rows.{Kept, store_of}
use Rattle.pl_base.specs.Title.{cut_title}
use Rattle.pl_base.proofs.TitleCuts.{cut_title-le}
use Rattle.pl_editing.proofs.ItemChanges.{retitled_came}
use Rattle.pl_editing.proofs.ItemTitled.{retitle_done, retitle_full, sound_retitled}
use Rattle.pl_editing.proofs.OwnPages.{retitled_own}
use Rattle.pl_editing.proofs.change.retitle.Goals as goal

pub slots_after-requires-clause-title : goal.slots_after-requires-clause-title
slots_after-requires-clause-title g c =
    omega (arith, ap length c.cut_title-text.ensures, cut_title-le c.as_str.result.now)

pub returns-then-is_full-clause-performs : goal.returns-then-is_full-clause-performs
returns-then-is_full-clause-performs g c = (
  refl,
  retitle_full c.args.limit (g.R.Rows.kept c.args.rows.now) c.args.item c.cut_title-text.result.now c.args.title.now
      c.args.date c.live.result c.in_ok-slots.slots c.is_full.result (sym c.refused.ensures ∙ c.in_default.is)
      (c.cut_title-text.ensures ∙ ap cut_title c.as_str.ensures) c.live.ensures.live
      (c.in_ok-slots.ensures c.args.date) c.is_full.ensures c.if-is_full.true,
)

pub retitle-requires-clause-title : goal.retitle-requires-clause-title
retitle-requires-clause-title g c =
    omega (arith, ap length c.cut_title-text.ensures, cut_title-le c.as_str.result.now)

pub own_changes-requires-clause-sound : goal.own_changes-requires-clause-sound
own_changes-requires-clause-sound g c =
    sound_retitled (g.R.Rows.kept c.args.rows.now) (g.R.Rows.kept c.retitle.new.rows) c.args.item
    c.cut_title-text.result.now c.args.date c.in_ok-retitle.ensures.kept (g.met.R.Rows.well_kept c.args.rows.now)
    (g.met.R.Rows.well_kept c.retitle.new.rows) c.in_ok-retitle.ensures.good c.requires.sound

pub own_changes-requires-clause-came : goal.own_changes-requires-clause-came
own_changes-requires-clause-came g c =
    let old : Kept = g.R.Rows.kept c.args.rows.now in
    let new : Kept = g.R.Rows.kept c.retitle.new.rows in
    retitled_own old new c.args.known.now (store_of new) c.args.item c.cut_title-text.result.now c.args.date
    c.in_ok-retitle.ensures.kept
    (retitled_came old new c.args.known.now c.args.item c.cut_title-text.result.now c.args.date
    (g.met.R.Rows.well_kept c.args.rows.now) c.requires.sound
    (sound_retitled (g.R.Rows.kept c.args.rows.now) (g.R.Rows.kept c.retitle.new.rows) c.args.item
    c.cut_title-text.result.now c.args.date c.in_ok-retitle.ensures.kept (g.met.R.Rows.well_kept c.args.rows.now)
    (g.met.R.Rows.well_kept c.retitle.new.rows) c.in_ok-retitle.ensures.good c.requires.sound)
    c.requires.knows
    c.in_ok-retitle.ensures.allowed c.in_ok-retitle.ensures.kept)

pub returns-clause-performs : goal.returns-clause-performs
returns-clause-performs g c =
    record {
      step =
          retitle_done c.args.limit (g.R.Rows.kept c.args.rows.now) (g.R.Rows.kept c.retitle.new.rows) c.args.item
          c.cut_title-text.result.now c.args.title.now c.args.date c.live.result c.in_ok-slots.slots c.is_full.result
          (sym c.refused.ensures ∙ c.in_default.is) (c.cut_title-text.ensures ∙ ap cut_title c.as_str.ensures)
          c.live.ensures.live (c.in_ok-slots.ensures c.args.date) c.is_full.ensures c.if-is_full.false
          c.in_ok-retitle.ensures.kept;
      accepted = refl;
      sound =
          sound_retitled (g.R.Rows.kept c.args.rows.now) (g.R.Rows.kept c.retitle.new.rows) c.args.item
          c.cut_title-text.result.now c.args.date c.in_ok-retitle.ensures.kept (g.met.R.Rows.well_kept c.args.rows.now)
          (g.met.R.Rows.well_kept c.retitle.new.rows) c.in_ok-retitle.ensures.good c.requires.sound;
      base = search rules;
      leads = c.in_ok-changes.ensures;
    }
