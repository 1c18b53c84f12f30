use Rattle.std.proofs.Common.{◌∙◌, Some, ap, subst, sym}
use Rattle.std.proofs.lemmas.Bool.Decides.{not_from_Decides}
use Rattle.std.proofs.lemmas.Option.{same_Some}
use Rattle.pl_base.specs.declared.view.View.{View}
use Rattle.pl_base.specs.Rows.{Kept, store_of}
use Rattle.pl_changes.specs.Brings.{HasView}
use Rattle.pl_changes.proofs.FoundPages.{has_view, is_gone, not_there, there}
use Rattle.pl_changes.proofs.SameViews.{same_view, views_decide}
use Rattle.pl_changes.proofs.items.reviewed.Goals as goal

pub returns-then-is_none : goal.returns-then-is_none
returns-then-is_none g c =
    let kept : Kept = g.R.Rows.kept c.args.rows.now in
    is_gone (store_of kept) c.args.old.now c.in_ok-gone.field-0 c.in_ok-gone.ensures
    (not_there kept c.args.old.now.id c.page_at.result c.page_at.ensures.mark c.if-is_none.ensures)

pub view_now-requires-clause-page : goal.view_now-requires-clause-page
view_now-requires-clause-page g c =
    there (g.R.Rows.kept c.args.rows.now) c.args.old.now.id c.page_at.result c.page_at.ensures.mark
    c.if-is_none.ensures

pub returns-then-eq : goal.returns-then-eq
returns-then-eq g c =
    let kept : Kept = g.R.Rows.kept c.args.rows.now in
    subst (HasView (store_of kept) c.args.old.now.id)
    ((views_decide c.in_ok-new.new c.args.old.now).0 (sym c.if-eq.ensures))
    (has_view kept c.args.old.now.id c.in_ok-new.new
    (there kept c.args.old.now.id c.page_at.result c.page_at.ensures.mark c.if-is_none.ensures) c.in_ok-new.ensures)

pub returns : goal.returns
returns g c =
    let kept : Kept = g.R.Rows.kept c.args.rows.now in
    record {
      old = ap (λ (v : View). Some v) c.in_ok-copied.ensures;
      new =
          has_view kept c.args.old.now.id c.in_ok-new.new
          (there kept c.args.old.now.id c.page_at.result c.page_at.ensures.mark c.if-is_none.ensures)
          c.in_ok-new.ensures;
      differ = λ same.
          not_from_Decides (same_view c.in_ok-new.new c.args.old.now) (views_decide c.in_ok-new.new c.args.old.now)
          (sym c.eq.ensures ∙ c.if-eq.false)
          (sym (same_Some c.in_ok-copied.field-0 c.in_ok-new.new same) ∙ c.in_ok-copied.ensures);
    }
