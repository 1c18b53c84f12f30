use Rattle.std.proofs.Common.{◌≡◌, ◌==◌, ◌∙◌, ap, Some, rules, subst, sym, w64}
use Rattle.std.specs.Option.{option_map}
use Rattle.std.proofs.lemmas.Int.{to_z-of_z}
use Rattle.pl_base.specs.declared.id.PageId.{PageId}
use Rattle.pl_base.specs.declared.row.Mark.{Mark}
use Rattle.pl_base.specs.Due.{IsDue}
use Rattle.pl_base.specs.Marks.{last_date_of}
use Rattle.pl_base.specs.Rows.{Kept, KeptPage, mark_of, store_of}
use Rattle.pl_base.specs.Store.{Store}
use Rattle.pl_base.proofs.IdsLaws.{same_page}
use Rattle.pl_base.proofs.LookUps.{found_passes, found_where}
use Rattle.pl_marks.proofs.PageRows.{mark_in, right_mark}
use Rattle.pl_marks.proofs.figures.page_figures.Goals as goal

pub unwrap-mark-requires : goal.unwrap-mark-requires
unwrap-mark-requires g c =
    found_where (λ (p : KeptPage). p.page.id.0 == c.args.page.0) mark_of (g.R.Rows.kept c.args.rows.now).pages
    c.page_at.result c.requires.page c.page_at.ensures.mark

pub returns : goal.returns
returns g c p at =
    let kept : Kept = g.R.Rows.kept c.args.rows.now in
    let store : Store = store_of kept in
    let same : c.args.page ≡ p.page.id =
    sym (same_page p.page.id c.args.page
    (found_passes (λ (q : KeptPage). q.page.id.0 == c.args.page.0) kept.pages p at)) in
    let told : Some c.unwrap-mark.result ≡ Some (mark_of p) =
    sym c.unwrap-mark.ensures ∙ c.page_at.ensures.mark ∙ ap (option_map mark_of) at in
    let is : c.unwrap-mark.result ≡ mark_of p = cc in
    let marks : c.unwrap-mark.result ≡ mark_in store p.page = is ∙ right_mark kept c.args.page p c.requires.right at in
    record {
      frecency =
          to_z-of_z w64 c.unwrap-mark.result.frecency (search rules) ∙ ap (λ (m : Mark). m.frecency) marks;
      count = ap (λ (m : Mark). m.count) marks;
      last = c.page_dates-dates.ensures.last ∙ ap (last_date_of store) same;
      due = subst (λ (id : PageId). IsDue store id c.page_dates-dates.result.due) same c.page_dates-dates.ensures.due;
      typed = ap (λ (m : Mark). m.typed) marks;
      hidden = ap (λ (m : Mark). m.hidden) marks;
    }
