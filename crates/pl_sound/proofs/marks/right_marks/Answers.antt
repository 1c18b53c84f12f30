use Rattle.std.proofs.Common.{◌≡◌, ◌≤◌, ◌+◌, ◌++◌, ◌∙◌, ◌∷◌, [], List, ap, arith, get_or, length, map, subst, sym, take}
use Rattle.std.specs.List.{All}
use Rattle.std.proofs.lemmas.List.{length-map, map_push, take_all, take_more}
use Rattle.std.proofs.lemmas.List.Elements.{All-map}
use Rattle.pl_base.specs.declared.row.Mark.{Mark}
use Rattle.pl_base.specs.Totals.{most_share, share}
use Rattle.pl_base.proofs.SmallFrecencies.{small_frecency}
use Rattle.pl_sound.specs.Marks.{right_mark}
use Rattle.pl_stored.specs.declared.stored.StoredPage.{StoredPage}
use Rattle.pl_stored.specs.Stored.{Stored, stored_page, stored_store, visit_of}
use Rattle.pl_sound.proofs.marks.right_marks.Goals as goal

pub loop-page-preserved : goal.loop-page-preserved
loop-page-preserved c =
    let pages : List StoredPage = c.args.rows.now.pages in
    let k = c.loop-page.page-index in
    let page : StoredPage = c.page-item.result in
    let told : c.deref-page-items.result.now ≡ pages =
    c.deref-page-items.ensures.value ∙ ap (λ (s : Stored). s.pages) c.rows.view_is in
    let more : take (k + 1) pages ≡ take k pages ++ page ∷ [] =
    ap (take (k + 1)) (sym told)
    ∙ take_more c.deref-page-items.result.now k page c.loop-page-test.true
    ∙ ap (λ (p : StoredPage). take k c.deref-page-items.result.now ++ p ∷ []) (sym c.page-item.is)
    ∙ ap (λ (ps : List StoredPage). take k ps ++ page ∷ []) told in
    c.in_ok-push.ensures.items
    ∙ ap (λ (ms : List Mark). ms ++ c.in_ok-mark.field-0 ∷ []) c.loop-page.invariant
    ∙ ap (λ (m : Mark). map (right_mark c.args.rows.now) (take k pages) ++ m ∷ []) c.in_ok-mark.ensures
    ∙ sym (map_push (right_mark c.args.rows.now) (take k pages) page)
    ∙ ap (map (right_mark c.args.rows.now)) (sym more)

pub returns-clause-small : goal.returns-clause-small
returns-clause-small c =
    let rows : Stored = c.args.rows.now in
    let told : c.deref-page-items.result.now ≡ rows.pages =
    c.deref-page-items.ensures.value ∙ ap (λ (s : Stored). s.pages) c.rows.view_is in
    let exact : c.loop-page.marks.items ≡ map (right_mark rows) rows.pages =
    c.loop-page.invariant
    ∙ ap (map (right_mark rows))
    (take_all c.loop-page.page-index rows.pages (omega (arith, c.loop-page-test.false, ap length told))) in
    subst (All (λ (m : Mark). share m.frecency ≤ most_share)) (sym exact)
    (All-map (λ (m : Mark). share m.frecency ≤ most_share) (right_mark rows) rows.pages
    (λ i d within.
    small_frecency (stored_store rows) (stored_page (get_or rows.pages i d))
    (omega (arith, c.requires.few, length-map rows.visits visit_of))))
