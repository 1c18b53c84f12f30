use Rattle.std.proofs.Common.{◌≡◌, ◌++◌, ◌∙◌, List, ap, false, is_some, not, sym, true}
use Rattle.std.proofs.lemmas.List.{append-nil}
use Rattle.pl_base.specs.Marks.{is_referenced}
use Rattle.pl_base.specs.Rows.{Kept, store_of}
use Rattle.pl_marks.proofs.PageScore.{referenced_by_first}
use Rattle.pl_history.specs.declared.trimming.StalePage.{StalePage}
use Rattle.pl_history.proofs.StalePages.{none_stale, one_stale}
use Rattle.pl_history.proofs.trimming.add_if_stale.Goals as goal

pub returns-in_ok-push : goal.returns-in_ok-push
returns-in_ok-push g c p same =
    let kept : Kept = g.R.Rows.kept c.args.rows.now in
    let free : is_referenced (store_of kept) c.args.page ≡ false =
    sym (referenced_by_first kept.items c.args.page) ∙ sym (ap is_some c.first_reference.ensures.first)
    ∙ c.is_none.ensures ∙ ap not c.if-is_none.true in
    c.in_ok-push.ensures.items
    ∙ ap (λ (found : List StalePage). c.args.pages.now.items ++ found)
    (sym (one_stale (store_of kept) p.page c.args.page c.last_date-last.result same free c.last_date-last.ensures))

pub returns-else-is_none : goal.returns-else-is_none
returns-else-is_none g c p same =
    let kept : Kept = g.R.Rows.kept c.args.rows.now in
    let held : is_referenced (store_of kept) c.args.page ≡ true =
    sym (referenced_by_first kept.items c.args.page) ∙ sym (ap is_some c.first_reference.ensures.first)
    ∙ c.is_none.ensures ∙ ap not c.if-is_none.false in
    sym (ap (λ (found : List StalePage). c.args.pages.now.items ++ found)
    (none_stale (store_of kept) p.page c.args.page same held)
    ∙ append-nil c.args.pages.now.items)
