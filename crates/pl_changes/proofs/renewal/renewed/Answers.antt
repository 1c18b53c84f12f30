use Rattle.std.proofs.Common.{◌≡◌, ◌∙◌, Some, ap, subst, sym}
use Rattle.pl_base.specs.declared.view.View.{View}
use Rattle.pl_base.specs.Rows.{Kept, store_of}
use Rattle.pl_base.specs.View.{IsViewOf}
use Rattle.pl_marks.specs.declared.figures.Figures.{Figures}
use Rattle.pl_changes.specs.Brings.{HasTexts, HasView}
use Rattle.pl_changes.proofs.FoundPages.{has_view, is_gone, not_there, renewed_view, stays_at, there}
use Rattle.pl_changes.proofs.SameFigures.{are_figures, figures_decide, figures_of, other_view, with_figures}
use Rattle.pl_changes.proofs.renewal.renewed.Goals as goal

pub returns-then-is_none : goal.returns-then-is_none
returns-then-is_none g c =
    let kept : Kept = g.R.Rows.kept c.args.rows.now in
    is_gone (store_of kept) c.args.old.now c.in_ok-gone.field-0 c.in_ok-gone.ensures
    (not_there kept c.args.old.now.id c.page_at.result c.page_at.ensures.mark c.if-is_none.ensures)

pub page_figures-figures-requires-clause-page : goal.page_figures-figures-requires-clause-page
page_figures-figures-requires-clause-page g c =
    there (g.R.Rows.kept c.args.rows.now) c.args.old.now.id c.page_at.result c.page_at.ensures.mark
    c.if-is_none.ensures

pub returns-then-eq : goal.returns-then-eq
returns-then-eq g c =
    let kept : Kept = g.R.Rows.kept c.args.rows.now in
    let figures : Figures = c.page_figures-figures.result in
    let of : c.of.result ≡ figures_of c.args.old.now =
    are_figures c.args.old.now c.of.result c.of.ensures.frecency c.of.ensures.count c.of.ensures.last
    c.of.ensures.due c.of.ensures.typed c.of.ensures.hidden in
    let same : figures ≡ figures_of c.args.old.now =
    (figures_decide figures c.of.result).0 (sym c.if-eq.ensures) ∙ of in
    has_view kept c.args.old.now.id c.args.old.now
    (there kept c.args.old.now.id c.page_at.result c.page_at.ensures.mark c.if-is_none.ensures) (λ p at.
    subst (λ (f : Figures). IsViewOf (store_of kept) p.page (with_figures c.args.old.now f)) same
    (renewed_view (store_of kept) p.page c.args.old.now figures
    (stays_at kept (HasTexts (store_of kept)) c.args.old.now p c.requires.texts at)
    (c.page_figures-figures.ensures p at)))

pub returns : goal.returns
returns g c =
    let kept : Kept = g.R.Rows.kept c.args.rows.now in
    let figures : Figures = c.page_figures-figures.result in
    let is : c.in_ok-with_figures.field-0 ≡ with_figures c.args.old.now figures = c.in_ok-with_figures.ensures in
    let of : c.of.result ≡ figures_of c.args.old.now =
    are_figures c.args.old.now c.of.result c.of.ensures.frecency c.of.ensures.count c.of.ensures.last
    c.of.ensures.due c.of.ensures.typed c.of.ensures.hidden in
    record {
      old = ap (λ (v : View). Some v) c.in_ok-copied.ensures;
      new =
          subst (HasView (store_of kept) c.args.old.now.id) (sym is)
          (has_view kept c.args.old.now.id (with_figures c.args.old.now figures)
          (there kept c.args.old.now.id c.page_at.result c.page_at.ensures.mark c.if-is_none.ensures) (λ p at.
          renewed_view (store_of kept) p.page c.args.old.now figures
          (stays_at kept (HasTexts (store_of kept)) c.args.old.now p c.requires.texts at)
          (c.page_figures-figures.ensures p at)));
      differ =
          other_view c.args.old.now c.in_ok-copied.field-0 c.in_ok-with_figures.field-0 figures c.of.result
          c.in_ok-copied.ensures is of (sym c.eq.ensures ∙ c.if-eq.false);
    }
