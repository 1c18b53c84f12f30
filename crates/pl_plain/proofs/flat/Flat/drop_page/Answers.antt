use Rattle.std.proofs.Common.{◌≡◌, ◌∙◌, ◌+◌, ◌-◌, ◌==◌, Bool, List, ℕ, ap, arith, length, map, subst, sym, refl}
use Rattle.pl_base.specs.Live.{chunks}
use Rattle.pl_base.specs.Rows.{KeptPage, WithoutPage, other_pages}
use Rattle.pl_plain.specs.Flat.{kept_of}
use Rattle.pl_plain.specs.FlatRows.{IsFlat, origins_from, page_of, totals_left}
use Rattle.pl_plain.proofs.FlatChanges.{origins_few}
use Rattle.pl_plain.proofs.Lookups.{found-there, one-found}
use Rattle.pl_plain.proofs.PagesButOne.{in_use}
use Rattle.pl_plain.proofs.PageDropped.{dropped, flat_dropped, rows_dropped, slots_of_page, slots_there}
use Rattle.pl_plain.proofs.PageDropped.{some_name, totals_dropped, used_dropped, without_dropped}
use Rattle.pl_plain.proofs.Searches.{pages_ascend}
use Rattle.pl_plain.proofs.flat.Flat.drop_page.Goals as goal

pub find_page-requires : goal.find_page-requires
find_page-requires c =
    pages_ascend c.args.self.now.pages.items c.deref.result.now c.args.self.now.rows.page_ids.ascending
    c.deref.ensures.value

pub unwrap-page-requires : goal.unwrap-page-requires
unwrap-page-requires c =
    found-there (λ (p : KeptPage). p.page.id.0 == c.args.id.0) page_of c.args.self.now.pages.items c.deref.result.now
    c.find_page.result c.find_page.ensures c.deref.ensures.value c.requires.page

pub free_name-requires-clause-first : goal.free_name-requires-clause-first
free_name-requires-clause-first c =
    let f = c.args.self.now in
    let found =
    one-found (λ (p : KeptPage). p.page.id.0 == c.args.id.0) page_of f.pages.items c.deref.result.now
    c.find_page.result c.unwrap-page.result c.unwrap-page.ensures c.find_page.ensures c.deref.ensures.value in
    (some_name (kept_of f) (length f.totals.items) f.live c.args.id (page_of c.unwrap-page.result.now) f.rows
    (sym found)).0

pub free_name-requires-clause-last : goal.free_name-requires-clause-last
free_name-requires-clause-last c =
    let f = c.args.self.now in
    let found =
    one-found (λ (p : KeptPage). p.page.id.0 == c.args.id.0) page_of f.pages.items c.deref.result.now
    c.find_page.result c.unwrap-page.result c.unwrap-page.ensures c.find_page.ensures c.deref.ensures.value in
    (some_name (kept_of f) (length f.totals.items) f.live c.args.id (page_of c.unwrap-page.result.now) f.rows
    (sym found)).1

pub free_name-requires-clause-few : goal.free_name-requires-clause-few
free_name-requires-clause-few c =
    let f = c.args.self.now in
    omega (arith, origins_few (kept_of f) (length f.totals.items) f.live f.rows)

pub overflow_sub-self-2 : goal.overflow_sub-self-2
overflow_sub-self-2 c =
    let f = c.args.self.now in
    let page = c.unwrap-page.result.now in
    let found =
    one-found (λ (p : KeptPage). p.page.id.0 == c.args.id.0) page_of f.pages.items c.deref.result.now
    c.find_page.result c.unwrap-page.result c.unwrap-page.ensures c.find_page.ensures c.deref.ensures.value in
    let used = used_dropped c.args.id page.origin f.pages.items c.drop_row.new.pages.items c.drop_row.ensures in
    omega (
      arith,
      (slots_there (kept_of f) f.totals.items f.live c.args.id (page_of page) f.rows (sym found)).1,
      c.len-origins.ensures,
      c.len.ensures,
      ap length (c.free_name.ensures.totals ∙ ap (λ (b : Bool). totals_left b page.origin f.totals.items) used),
      c.chunks.ensures ∙ ap chunks c.as_str.ensures,
      c.chunks-2.ensures ∙ ap chunks c.as_str-2.ensures,
    )

pub invariant_of-self : goal.invariant_of-self
invariant_of-self c =
    let f = c.args.self.now in
    let page = c.unwrap-page.result.now in
    let found =
    one-found (λ (p : KeptPage). p.page.id.0 == c.args.id.0) page_of f.pages.items c.deref.result.now
    c.find_page.result c.unwrap-page.result c.unwrap-page.ensures c.find_page.ensures c.deref.ensures.value in
    let used = used_dropped c.args.id page.origin f.pages.items c.drop_row.new.pages.items c.drop_row.ensures in
    let last : ℕ = length f.totals.items in
    let named : Bool = in_use page.origin (other_pages c.args.id (map page_of f.pages.items)) in
    let left : List ℕ = totals_left named page.origin f.totals.items in
    let totals : c.free_name.new.totals.items ≡ left =
    c.free_name.ensures.totals ∙ ap (λ (b : Bool). totals_left b page.origin f.totals.items) used in
    let pages =
    rows_dropped c.args.id page.origin last f.pages.items c.drop_row.new.pages.items c.free_name.new.pages.items
    c.drop_row.ensures c.free_name.ensures.pages in
    let gone : 1 + c.chunks.result + c.chunks-2.result + (c.len-origins.result - c.len.result)
    ≡ slots_of_page (page_of page) + (last - length left) =
    omega (
      arith,
      c.len-origins.ensures,
      c.len.ensures,
      ap length totals,
      c.chunks.ensures ∙ ap chunks c.as_str.ensures,
      c.chunks-2.ensures ∙ ap chunks c.as_str-2.ensures,
    ) in
    let slots : ℕ = f.live - (1 + c.chunks.result + c.chunks-2.result + (c.len-origins.result - c.len.result)) in
    record {
      rows =
          subst (λ (ps : List KeptPage).
          IsFlat (record (kept_of f) { pages = ps; origins = origins_from c.free_name.new.totals.items })
          (length c.free_name.new.totals.items) slots) (sym pages)
          (subst (λ (ts : List ℕ). IsFlat (dropped c.args.id named last page.origin (origins_from ts) (kept_of f))
          (length ts) slots) (sym totals)
          (subst (λ n. IsFlat (dropped c.args.id named last page.origin (origins_from left) (kept_of f)) (length left)
          (f.live - n)) (sym gone)
          (flat_dropped (kept_of f) f.totals.items f.live c.args.id (page_of page) f.rows (sym found)
          c.requires.unvisited)));
    }

pub returns : goal.returns
returns c =
    let f = c.args.self.now in
    let page = c.unwrap-page.result.now in
    let found =
    one-found (λ (p : KeptPage). p.page.id.0 == c.args.id.0) page_of f.pages.items c.deref.result.now
    c.find_page.result c.unwrap-page.result c.unwrap-page.ensures c.find_page.ensures c.deref.ensures.value in
    let used = used_dropped c.args.id page.origin f.pages.items c.drop_row.new.pages.items c.drop_row.ensures in
    let last : ℕ = length f.totals.items in
    let named : Bool = in_use page.origin (other_pages c.args.id (map page_of f.pages.items)) in
    let left : List ℕ = totals_left named page.origin f.totals.items in
    let totals : c.free_name.new.totals.items ≡ left =
    c.free_name.ensures.totals ∙ ap (λ (b : Bool). totals_left b page.origin f.totals.items) used in
    let pages =
    rows_dropped c.args.id page.origin last f.pages.items c.drop_row.new.pages.items c.free_name.new.pages.items
    c.drop_row.ensures c.free_name.ensures.pages in
    record {
      kept =
          subst (λ (ps : List KeptPage). WithoutPage c.args.id (kept_of f)
          (record (kept_of f) { pages = ps; origins = origins_from c.free_name.new.totals.items })) (sym pages)
          (subst (λ (ts : List ℕ). WithoutPage c.args.id (kept_of f)
          (dropped c.args.id named last page.origin (origins_from ts) (kept_of f))) (sym totals)
          (without_dropped c.args.id named last page.origin (origins_from left) (kept_of f)
          (totals_dropped (kept_of f) f.totals.items f.live c.args.id (page_of page) f.rows (sym found) refl)));
    }
