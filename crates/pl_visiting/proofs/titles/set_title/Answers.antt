use Rattle.std.proofs.Common.{◌≢◌, ◌+◌, ◌-◌, ◌∙◌, ap, arith, bytes_eq, refl, List, ℕ, Some, subst, sym}
use Rattle.std.proofs.lemmas.Bool.{both_ways}
use Rattle.std.proofs.lemmas.Slice.Eq.{bytes_eq-Decides}
use Rattle.pl_base.specs.Rows.{store_of, with_title}
use Rattle.pl_known.specs.Changes.{LeadTo}
use Rattle.pl_step.specs.declared.reply.Reply.TheVariants.{Done}
use Rattle.pl_visiting.specs.Titled.{within_slots}
use Rattle.pl_done.proofs.ByChanges.{by_changes}
use Rattle.pl_visiting.proofs.LiveTitled.{are_slots, ends_done, ends_full, ends_same, has_room, slots_old}
use Rattle.pl_visiting.proofs.LiveTitled.{title_changes}
use Rattle.pl_visiting.proofs.Titled.{sound_titled}
use Rattle.pl_visiting.proofs.TitledViews.{stays, title_leads}
use Rattle.pl_visiting.proofs.titles.set_title.Goals as goal

pub returns-then-eq-clause-performs : goal.returns-then-eq-clause-performs
returns-then-eq-clause-performs g c known knows there =
    by_changes g.R.Rows.kept g.R.Rows.base
    (within_slots c.args.limit (store_of (g.R.Rows.kept c.args.rows.now))
    (store_of (with_title c.args.view.now.id c.args.title.now (g.R.Rows.kept c.args.rows.now))))
    c.args.rows.now c.args.rows.now known Done c.new.result refl
    (ends_same c.args.limit (g.R.Rows.kept c.args.rows.now) c.args.view.now.id c.args.title.now
    (g.met.R.Rows.well_kept c.args.rows.now)
    (ap (λ (t : List ℕ). Some t)
    (sym ((bytes_eq-Decides c.as_str.result.now c.args.title.now).0 (sym c.eq.ensures ∙ c.if-eq.true))
    ∙ c.as_str.ensures)
    ∙ sym c.requires.old))
    c.requires.sound (λ bytes stands. stands)
    (subst (LeadTo (store_of (g.R.Rows.kept c.args.rows.now)) known.views.items) (sym c.new.ensures.items)
    (stays (store_of (g.R.Rows.kept c.args.rows.now)) known knows))

pub overflow_sub-after : goal.overflow_sub-after
overflow_sub-after g c =
    omega (
      arith,
      c.live-before.ensures.live,
      c.chunks.ensures,
      slots_old (g.R.Rows.kept c.args.rows.now) c.args.view.now.id c.as_str-2.result.now
          (g.met.R.Rows.well_kept c.args.rows.now)
          (ap (λ (t : List ℕ). Some t) c.as_str-2.ensures ∙ sym c.requires.old),
    )

pub returns-then-is_full-clause-performs : goal.returns-then-is_full-clause-performs
returns-then-is_full-clause-performs g c known knows there = (
  refl,
  ends_full c.args.limit (g.R.Rows.kept c.args.rows.now) c.args.view.now.id c.args.title.now c.live-before.result
      (c.live-before.result - c.chunks.result + c.chunks-2.result)
      (are_slots (g.R.Rows.kept c.args.rows.now) c.args.view.now.id c.args.title.now c.as_str-2.result.now
      c.live-before.result c.chunks.result c.chunks-2.result (g.met.R.Rows.well_kept c.args.rows.now)
      (ap (λ (t : List ℕ). Some t) c.as_str-2.ensures ∙ sym c.requires.old) c.live-before.ensures.live
      c.chunks.ensures c.chunks-2.ensures)
      (sym c.is_full.ensures ∙ c.if-is_full.true),
)

pub set_title-requires-clause-live : goal.set_title-requires-clause-live
set_title-requires-clause-live g c =
    has_room c.args.limit (g.R.Rows.kept c.args.rows.now) c.args.view.now.id c.args.title.now c.live-before.result
    (c.live-before.result - c.chunks.result + c.chunks-2.result) (g.met.R.Rows.well_kept c.args.rows.now)
    c.requires.most
    (are_slots (g.R.Rows.kept c.args.rows.now) c.args.view.now.id c.args.title.now c.as_str-2.result.now
    c.live-before.result c.chunks.result c.chunks-2.result (g.met.R.Rows.well_kept c.args.rows.now)
    (ap (λ (t : List ℕ). Some t) c.as_str-2.ensures ∙ sym c.requires.old) c.live-before.ensures.live
    c.chunks.ensures c.chunks-2.ensures)
    (sym c.is_full.ensures ∙ c.if-is_full.false)

pub returns-clause-performs : goal.returns-clause-performs
returns-clause-performs g c known knows there =
    let differ : c.args.view.now.title ≢ c.args.title.now =
    λ same. both_ways (bytes_eq c.as_str.result.now c.args.title.now) (sym c.eq.ensures ∙ c.if-eq.false)
    ((bytes_eq-Decides c.as_str.result.now c.args.title.now).1 (c.as_str.ensures ∙ same)) in
    by_changes g.R.Rows.kept g.R.Rows.base
    (within_slots c.args.limit (store_of (g.R.Rows.kept c.args.rows.now))
    (store_of (with_title c.args.view.now.id c.args.title.now (g.R.Rows.kept c.args.rows.now))))
    c.args.rows.now c.set_title.new.self known Done c.in_ok-changes.changes refl
    (ends_done c.args.limit (g.R.Rows.kept c.args.rows.now) (g.R.Rows.kept c.set_title.new.self) c.args.view.now.id
    c.args.title.now c.live-before.result (c.live-before.result - c.chunks.result + c.chunks-2.result)
    (are_slots (g.R.Rows.kept c.args.rows.now) c.args.view.now.id c.args.title.now c.as_str-2.result.now
    c.live-before.result c.chunks.result c.chunks-2.result (g.met.R.Rows.well_kept c.args.rows.now)
    (ap (λ (t : List ℕ). Some t) c.as_str-2.ensures ∙ sym c.requires.old) c.live-before.ensures.live
    c.chunks.ensures c.chunks-2.ensures)
    (sym c.is_full.ensures ∙ c.if-is_full.false) c.in_ok-set_title.ensures.kept)
    (sound_titled (g.R.Rows.kept c.args.rows.now) (g.R.Rows.kept c.set_title.new.self) c.args.view.now.id
    c.args.title.now c.in_ok-set_title.ensures.kept (g.met.R.Rows.well_kept c.args.rows.now)
    (g.met.R.Rows.well_kept c.set_title.new.self) c.requires.sound)
    c.in_ok-set_title.ensures.base
    (subst (LeadTo (store_of (g.R.Rows.kept c.set_title.new.self)) known.views.items) (sym c.in_ok-changes.ensures)
    (title_leads (g.R.Rows.kept c.args.rows.now) (g.R.Rows.kept c.set_title.new.self) known c.args.view.now
    c.args.title.now knows there differ c.in_ok-set_title.ensures.kept))

pub returns-clause-same : goal.returns-clause-same
returns-clause-same g c same =
    absurd (both_ways (bytes_eq c.as_str.result.now c.args.title.now) (sym c.eq.ensures ∙ c.if-eq.false)
    ((bytes_eq-Decides c.as_str.result.now c.args.title.now).1
    (c.as_str.ensures
    ∙ title_changes (g.R.Rows.kept c.args.rows.now) c.args.view.now.id c.args.title.now c.args.view.now.title
    (sym c.requires.old) same)))
