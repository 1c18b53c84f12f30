use Rattle.std.proofs.Common.{◌≡◌, ◌∙◌, List, Option, Some, rules, subst, sym, w64, ℕ}
use Rattle.std.proofs.lemmas.Int.{to_z-of_z}
use Rattle.pl_base.specs.declared.id.PageId.{PageId}
use Rattle.pl_base.specs.Rows.{Kept, store_of}
use Rattle.pl_base.specs.Store.{Store}
use Rattle.pl_marks.specs.Figures.{AreFiguresOf, AreItemFiguresOf}
use Rattle.pl_changes.specs.Brings.{HasAddress}
use Rattle.pl_changes.proofs.FoundPages.{stays_at}
use Rattle.pl_changes.proofs.items.view_now.Goals as goal

same_pair : (a b x y : List ℕ) → a ≡ b → x ≡ y → ◌≡◌ {A = Option (List ℕ × List ℕ)} (Some (a, x)) (Some (b, y))
same_pair a b x y one two i = Some (one i, two i)

pub returns : goal.returns
returns g c p at =
    let kept : Kept = g.R.Rows.kept c.args.rows.now in
    let store : Store = store_of kept in
    let address = stays_at kept HasAddress c.args.old.now p c.requires.address at in
    let are : AreFiguresOf store p.page c.page_figures-figures.result = c.page_figures-figures.ensures p at in
    let have : AreItemFiguresOf store p.page.id c.in_ok-items.items =
    subst (λ (id : PageId). AreItemFiguresOf store id c.in_ok-items.items) address.id c.in_ok-items.ensures in
    record {
      id = address.id;
      url = c.in_ok-copied.ensures ∙ c.as_str.ensures ∙ address.url;
      title = c.in_ok-copied-2.ensures ∙ c.as_str-2.ensures ∙ address.title;
      mark_title = have.mark_title;
      tags = have.tags;
      origin =
          address.origin
          ∙ same_pair c.args.old.now.prefix c.in_ok-copied-3.field-0 c.args.old.now.host c.in_ok-copied-4.field-0
          (sym (c.in_ok-copied-3.ensures ∙ c.as_str-3.ensures)) (sym (c.in_ok-copied-4.ensures ∙ c.as_str-4.ensures));
      frecency = to_z-of_z w64 c.page_figures-figures.result.frecency (search rules) ∙ are.frecency;
      count = are.count;
      last = are.last;
      due = are.due;
      typed = are.typed;
      hidden = are.hidden;
      bookmarked = have.bookmarked;
      referenced = have.referenced;
    }
