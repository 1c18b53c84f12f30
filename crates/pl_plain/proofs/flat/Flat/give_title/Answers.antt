use Rattle.std.proofs.Common.{◌≡◌, ◌∙◌, ◌++◌, ◌==◌, ◌+◌, ◌-◌, [], List, ℕ, ap, arith, drop, length, map, refl}
use Rattle.std.proofs.Common.{subst, sym, take}
use Rattle.std.proofs.lemmas.List.{length-map}
use Rattle.pl_base.specs.Live.{chunks, live_slots}
use Rattle.pl_base.specs.Rows.{KeptPage, store_of, titled, with_title}
use Rattle.pl_plain.specs.declared.flat.row.FlatPage.{FlatPage}
use Rattle.pl_plain.specs.Flat.{kept_of}
use Rattle.pl_plain.specs.FlatRows.{IsFlat, kept_from, page_of, titled_row, with_title_of}
use Rattle.pl_plain.proofs.FlatChanges.{IsFlat-with_title, slots_with_title}
use Rattle.pl_plain.proofs.Lookups.{found-there, one-found}
use Rattle.pl_plain.proofs.RowChanges.{all_written, kept_changed}
use Rattle.pl_plain.proofs.Searches.{pages_ascend}
use Rattle.pl_plain.proofs.flat.Flat.give_title.Goals as goal

pub find_page-requires : goal.find_page-requires
find_page-requires c =
    pages_ascend c.args.self.now.pages.items c.deref.result.now c.args.self.now.rows.page_ids.ascending
    c.deref.ensures.value

pub unwrap-requires : goal.unwrap-requires
unwrap-requires c =
    found-there (λ (p : KeptPage). p.page.id.0 == c.args.id.0) page_of c.args.self.now.pages.items c.deref.result.now
    c.find_page.result c.find_page.ensures c.deref.ensures.value c.requires.page

pub title_page-requires : goal.title_page-requires
title_page-requires c =
    pages_ascend c.args.self.now.pages.items c.deref_mut.result.now c.args.self.now.rows.page_ids.ascending
    c.deref_mut.ensures.value

pub overflow_sub-self : goal.overflow_sub-self
overflow_sub-self c =
    let f = c.args.self.now in
    let found =
    one-found (λ (p : KeptPage). p.page.id.0 == c.args.id.0) page_of f.pages.items c.deref.result.now
    c.find_page.result c.unwrap.result c.unwrap.ensures c.find_page.ensures c.deref.ensures.value in
    omega (
      arith,
      f.rows.filled,
      c.chunks-old.ensures ∙ ap chunks c.as_str.ensures,
      slots_with_title c.args.id [] (kept_of f) (page_of c.unwrap.result.now) f.rows.page_ids.ascending (sym found),
    )

pub invariant_of-self : goal.invariant_of-self
invariant_of-self c =
    let f = c.args.self.now in
    let title : List ℕ = c.args.title.now in
    let titles : List FlatPage = map (titled_row c.args.id title) f.pages.items in
    let same : take f.pages.len (c.title_page.new.pages ++ drop (length c.title_page.new.pages) f.pages.items)
    ≡ titles =
    all_written f.pages.len f.pages.items titles c.title_page.new.pages
    (c.title_page.ensures
    ∙ ap (λ (t : List ℕ). map (titled_row c.args.id t) c.deref_mut.result.now) c.in_ok-text.ensures
    ∙ ap (map (titled_row c.args.id title)) c.deref_mut.ensures.value)
    (length-map f.pages.items (titled_row c.args.id title)) (omega arith) in
    let found =
    one-found (λ (p : KeptPage). p.page.id.0 == c.args.id.0) page_of f.pages.items c.deref.result.now
    c.find_page.result c.unwrap.result c.unwrap.ensures c.find_page.ensures c.deref.ensures.value in
    let slots =
    slots_with_title c.args.id title (kept_of f) (page_of c.unwrap.result.now) f.rows.page_ids.ascending (sym found) in
    let filled : f.live - c.chunks-old.result + c.chunks.result
    ≡ live_slots (store_of (with_title c.args.id title (kept_of f))) =
    omega (
      arith,
      slots,
      slots_with_title c.args.id [] (kept_of f) (page_of c.unwrap.result.now) f.rows.page_ids.ascending (sym found),
      f.rows.filled,
      c.chunks-old.ensures ∙ ap chunks c.as_str.ensures,
      c.chunks.ensures,
    ) in
    record {
      rows =
          subst (λ (pages : List FlatPage).
          IsFlat (kept_from f.day f.ids pages f.totals.items f.visits.items f.items) (length f.totals.items)
          (f.live - c.chunks-old.result + c.chunks.result)) (sym same)
          (subst (λ (pages : List KeptPage). IsFlat (record (kept_of f) { pages = pages }) (length f.totals.items)
          (f.live - c.chunks-old.result + c.chunks.result))
          (sym (kept_changed c.args.id (with_title_of title) (titled title) (λ x. refl) f.pages.items))
          (IsFlat-with_title c.args.id title (kept_of f) (length f.totals.items) f.live
          (f.live - c.chunks-old.result + c.chunks.result) (c.utf8.title, c.requires.title) filled
          (omega (arith, filled, c.requires.live)) f.rows));
    }

pub returns : goal.returns
returns c =
    let f = c.args.self.now in
    let title : List ℕ = c.args.title.now in
    let titles : List FlatPage = map (titled_row c.args.id title) f.pages.items in
    let same : take f.pages.len (c.title_page.new.pages ++ drop (length c.title_page.new.pages) f.pages.items)
    ≡ titles =
    all_written f.pages.len f.pages.items titles c.title_page.new.pages
    (c.title_page.ensures
    ∙ ap (λ (t : List ℕ). map (titled_row c.args.id t) c.deref_mut.result.now) c.in_ok-text.ensures
    ∙ ap (map (titled_row c.args.id title)) c.deref_mut.ensures.value)
    (length-map f.pages.items (titled_row c.args.id title)) (omega arith) in
    record {
      kept =
          ap (λ (pages : List KeptPage). record (kept_of f) { pages = pages })
          (ap (map page_of) same
          ∙ kept_changed c.args.id (with_title_of title) (titled title) (λ x. refl) f.pages.items);
    }
