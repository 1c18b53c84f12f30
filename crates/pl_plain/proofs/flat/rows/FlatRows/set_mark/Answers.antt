use Rattle.std.proofs.Common.{◌≡◌, ◌∙◌, ◌++◌, List, ap, arith, drop, length, map, refl, subst, sym, take}
use Rattle.std.proofs.lemmas.List.{length-map}
use Rattle.pl_base.specs.Rows.{KeptPage, marked}
use Rattle.pl_plain.specs.declared.flat.row.FlatPage.{FlatPage}
use Rattle.pl_plain.specs.Flat.{kept_of}
use Rattle.pl_plain.specs.FlatRows.{IsFlat, kept_from, marked_row, page_of, with_mark_of}
use Rattle.pl_plain.proofs.FlatChanges.{IsFlat-with_mark}
use Rattle.pl_plain.proofs.RowChanges.{all_written, kept_changed}
use Rattle.pl_plain.proofs.Searches.{pages_ascend}
use Rattle.pl_plain.proofs.flat.rows.FlatRows.set_mark.Goals as goal

pub mark_page-requires : goal.mark_page-requires
mark_page-requires g c =
    pages_ascend c.args.self.now.pages.items c.deref_mut.result.now c.args.self.now.rows.page_ids.ascending
    c.deref_mut.ensures.value

pub invariant_of-self : goal.invariant_of-self
invariant_of-self g c =
    let f = c.args.self.now in
    let marks : List FlatPage = map (marked_row c.args.page c.args.mark) f.pages.items in
    let same : take f.pages.len (c.mark_page.new.pages ++ drop (length c.mark_page.new.pages) f.pages.items) ≡ marks =
    all_written f.pages.len f.pages.items marks c.mark_page.new.pages
    (c.mark_page.ensures ∙ ap (map (marked_row c.args.page c.args.mark)) c.deref_mut.ensures.value)
    (length-map f.pages.items (marked_row c.args.page c.args.mark)) (omega arith) in
    record {
      rows =
          subst (λ (pages : List FlatPage).
          IsFlat (kept_from f.day f.ids pages f.totals.items f.visits.items f.items) (length f.totals.items)
          f.live) (sym same)
          (subst (λ (pages : List KeptPage).
          IsFlat (record (kept_of f) { pages = pages }) (length f.totals.items) f.live)
          (sym (kept_changed c.args.page (with_mark_of c.args.mark) (marked c.args.mark) (λ x. refl) f.pages.items))
          (IsFlat-with_mark c.args.page c.args.mark (kept_of f) (length f.totals.items) f.live f.rows));
    }

pub returns-clause-kept : goal.returns-clause-kept
returns-clause-kept g c =
    let f = c.args.self.now in
    let marks : List FlatPage = map (marked_row c.args.page c.args.mark) f.pages.items in
    let same : take f.pages.len (c.mark_page.new.pages ++ drop (length c.mark_page.new.pages) f.pages.items) ≡ marks =
    all_written f.pages.len f.pages.items marks c.mark_page.new.pages
    (c.mark_page.ensures ∙ ap (map (marked_row c.args.page c.args.mark)) c.deref_mut.ensures.value)
    (length-map f.pages.items (marked_row c.args.page c.args.mark)) (omega arith) in
    ap (λ (pages : List KeptPage). record (kept_of f) { pages = pages })
    (ap (map page_of) same
    ∙ kept_changed c.args.page (with_mark_of c.args.mark) (marked c.args.mark) (λ x. refl) f.pages.items)
