use Rattle.std.proofs.Common.{◌≡◌, ◌==◌, ◌∙◌, ap, Some, rules, subst, sym, w64}
use Rattle.std.specs.Option.{option_map}
use Rattle.std.proofs.lemmas.Int.{to_z-of_z}
use Rattle.pl_base.specs.declared.id.PageId.{PageId}
use Rattle.pl_base.specs.Address.{origin_of_url}
use Rattle.pl_base.specs.Rows.{Kept, KeptPage, store_of}
use Rattle.pl_base.specs.Store.{Store}
use Rattle.pl_base.proofs.IdsLaws.{same_page}
use Rattle.pl_base.proofs.LookUps.{found_passes}
use Rattle.pl_marks.specs.Figures.{AreFiguresOf, AreItemFiguresOf}
use Rattle.pl_changes.proofs.opening.view.Goals as goal

pub returns-clause-view : goal.returns-clause-view
returns-clause-view g c p at =
    let kept : Kept = g.R.Rows.kept c.args.rows.now in
    let store : Store = store_of kept in
    let same : c.args.page ≡ p.page.id =
    sym (same_page p.page.id c.args.page
    (found_passes (λ (q : KeptPage). q.page.id.0 == c.args.page.0) kept.pages p at)) in
    let some_url : Some c.in_ok-url.url ≡ Some p.page.url =
    c.in_ok-url.ensures.url ∙ ap (option_map (λ (q : KeptPage). q.page.url)) at in
    let some_title : Some c.in_ok-title.field-0 ≡ Some p.page.title =
    c.in_ok-title.ensures.title ∙ ap (option_map (λ (q : KeptPage). q.page.title)) at in
    let url_is : c.in_ok-url.url ≡ p.page.url = cc in
    let are : AreFiguresOf store p.page c.page_figures-figures.result = c.page_figures-figures.ensures p at in
    let have : AreItemFiguresOf store p.page.id c.in_ok-items.items =
    subst (λ (id : PageId). AreItemFiguresOf store id c.in_ok-items.items) same c.in_ok-items.ensures in
    record {
      id = same;
      url = c.url-2.view_is ∙ url_is;
      title = cc;
      mark_title = have.mark_title;
      tags = have.tags;
      origin = ap origin_of_url (sym url_is ∙ sym c.as_str.ensures) ∙ c.in_ok-origin.ensures.origin;
      frecency = to_z-of_z w64 c.page_figures-figures.result.frecency (search rules) ∙ are.frecency;
      count = are.count;
      last = are.last;
      due = are.due;
      typed = are.typed;
      hidden = are.hidden;
      bookmarked = have.bookmarked;
      referenced = have.referenced;
    }
