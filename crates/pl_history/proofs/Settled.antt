-- What holds of the rows once a page is refreshed that lost an item, and once all such are settled.
use Rattle.std.proofs.Common.{◌≡◌, ◌∙◌, ◌+◌, ◌<◌, ◌≤◌, ◌==◌, ◌||◌, ℕ, ℤ, All, Bool, true, false, IsTrue, List, [], ◌∷◌}
use Rattle.std.proofs.Common.{Some, ap, arith, drop, get_or, if◌then◌else◌, length, refl, subst, suc, sym}
use Rattle.std.specs.List.{list_any}
use Rattle.std.specs.Option.{option_map}
use Rattle.std.proofs.lemmas.List.{drop_all, drop_more}
use Rattle.std.proofs.lemmas.List.Elements.{All-map, recursion_from_All}
use Rattle.pl_base.specs.declared.id.PageId.{PageId}
use Rattle.pl_base.specs.declared.row.Mark.{Mark}
use Rattle.pl_base.specs.declared.transition.Transition.TheVariants.{Typed}
use Rattle.pl_base.specs.Address.{is_place_url}
use Rattle.pl_base.specs.Good.{HasGoodItems, has_page_at}
use Rattle.pl_base.specs.Rows.{HaveSums, IsRight, IsSound, IsWellKept, Kept, KeptPage, has_page, mark_of, page_at}
use Rattle.pl_base.specs.Rows.{store_of, url_of}
use Rattle.pl_base.specs.Store.{Page, Store, Visit}
use Rattle.pl_base.proofs.IdsLaws.{same_page}
use Rattle.pl_base.proofs.ListLaws.{all_stay, list_any-map}
use Rattle.pl_base.proofs.OriginSums.{totals_of_sums}
use Rattle.pl_marks.specs.Refreshed.{Refreshes}
use Rattle.pl_base.specs.Removal.{is_standing}
use Rattle.pl_history.specs.Settled.{AreSettledBut}
use Rattle.pl_base.specs.Removal.{without_idle_pages}
use Rattle.pl_history.proofs.GoodRows.{good_of}
use Rattle.pl_history.proofs.KeptMark.{IsMarkAt, count_at, mark_at}
use Rattle.pl_history.proofs.RightAfter.{counts_refreshed, right_refreshed}
use Rattle.pl_history.proofs.SourcePage.{place_at, source_store}
use Rattle.pl_history.proofs.VisitedPages.{pages_alike}

-- ---- a page that is refreshed

-- the page itself is standing, so it need no longer be left out
standing_too : (store : Store) (page id : PageId) (rest : List PageId) → is_standing store page ≡ true
    → (((id.0 == page.0) || list_any (λ (i : PageId). id.0 == i.0) rest) ≡ false → IsTrue (is_standing store id))
    → list_any (λ (i : PageId). id.0 == i.0) rest ≡ false → IsTrue (is_standing store id)
standing_too store page id rest stands others apart = choose (id.0 == page.0) refl others
  where
    choose : (b : Bool) → (id.0 == page.0) ≡ b
        → ((b || list_any (λ (i : PageId). id.0 == i.0) rest) ≡ false → IsTrue (is_standing store id))
        → IsTrue (is_standing store id)
    choose true same other = ap (is_standing store) (same_page id page same) ∙ stands
    choose false same other = other apart

pub refreshed_settled : (old new : Kept) (page : PageId) (rest : List PageId) (mark : Mark) (is_place : Bool)
    (frecency : ℤ) → IsWellKept old → Some mark ≡ option_map mark_of (page_at old page)
    → Some is_place ≡ option_map is_place_url (url_of old page) → is_standing (store_of old) page ≡ true
    → Refreshes page mark is_place old new frecency → HaveSums new → AreSettledBut (page ∷ rest) old
    → AreSettledBut rest new
refreshed_settled old new page rest mark is_place frecency h marks place stands r sums s =
    let m : IsMarkAt old page mark = mark_at old page mark marks in
    let same : store_of new ≡ store_of old = source_store old new page mark is_place frecency h marks r in
    let there : (kept : Kept) (id : PageId) → has_page_at (store_of kept) id ≡ has_page kept id =
    λ kept id. list_any-map (λ (p : Page). p.id.0 == id.0) (λ (p : KeptPage). p.page) kept.pages in
    record {
      there =
          λ k d within.
          sym (there new (get_or rest k d)) ∙ ap (λ (t : Store). has_page_at t (get_or rest k d)) same
          ∙ there old (get_or rest k d) ∙ s.there (suc k) d (omega arith);
      apart = λ i j d before within. s.apart (suc i) (suc j) d (omega arith) (omega arith);
      items = subst HasGoodItems (sym same) s.items;
      counts =
          counts_refreshed page mark is_place old new frecency (λ k d within _. s.counts k d within) r
          (count_at old page mark s.counts m);
      right =
          right_refreshed rest page mark is_place old new frecency s.right r (count_at old page mark s.counts m)
          (place_at old page mark is_place h m place);
      by_row =
          pages_alike (λ (t : Store) (p : Page). list_any (λ (id : PageId). p.id.0 == id.0) rest ≡ false
          → IsTrue (is_standing t p.id)) old new same
          (λ k d within. standing_too (store_of old) page (get_or old.pages k d).page.id rest stands
          (s.by_row k d within));
      typed =
          pages_alike (λ (t : Store) (p : Page).
          All (λ (v : Visit). v.page ≡ p.id → v.transition ≡ Typed → IsTrue p.typed) t.visits) old new same s.typed;
      sums = sums;
    }

-- ---- one after another

pub page_next : (kept : Kept) (pages : List PageId) (k : ℕ) (d : PageId) → k < length pages
    → AreSettledBut (drop k pages) kept → AreSettledBut (get_or pages k d ∷ drop (k + 1) pages) kept
page_next kept pages k d within s =
    subst (λ (ids : List PageId). AreSettledBut ids kept) (drop_more pages k d within) s

pub next_there : (kept : Kept) (page : PageId) (rest : List PageId) → AreSettledBut (page ∷ rest) kept
    → has_page kept page ≡ true
next_there kept page rest s = s.there 0 page (omega arith)

pub none_next : (kept : Kept) (pages : List PageId) (k : ℕ) → length pages ≤ k → AreSettledBut (drop k pages) kept
    → AreSettledBut [] kept
none_next kept pages k past s = subst (λ (ids : List PageId). AreSettledBut ids kept) (drop_all k pages past) s

-- ---- all pages

pub settled_sound : (kept : Kept) → IsWellKept kept → AreSettledBut [] kept → IsSound kept
settled_sound kept h s =
    let right : IsRight kept =
    record {
      frecencies = λ k d within. (s.right k d within refl).0;
      counts = λ k d within. (s.right k d within refl).1;
      hidden = λ k d within. (s.right k d within refl).2;
    } in
    record {
      good = good_of kept h s.items (record { by_row = λ k d within. s.by_row k d within refl; typed = s.typed });
      right = right;
      totals = totals_of_sums kept right s.sums;
    }

-- no page goes any more
pub settled_store : (kept : Kept) → AreSettledBut [] kept → without_idle_pages (store_of kept) ≡ store_of kept
settled_store kept s =
    let stands : Page → Bool = λ (p : Page). is_standing (store_of kept) p.id in
    ap (λ (pages : List Page). record (store_of kept) { pages = pages })
    (all_stay stands (store_of kept).pages
    (recursion_from_All (λ (p : Page). stands p ≡ true) (store_of kept).pages
    (All-map (λ (p : Page). stands p ≡ true) (λ (p : KeptPage). p.page) kept.pages
    (λ k d within. s.by_row k d within refl))))

-- a page more went, or none
pub went_more : (went : Bool) (more before after so_far : ℕ) → before ≡ after + (if went then 1 else 0)
    → (went ≡ true → more ≡ 1) → (went ≡ false → more ≡ 0) → before + so_far ≡ after + (so_far + more)
went_more true more before after so_far is one none = omega (arith, is, one refl)
went_more false more before after so_far is one none = omega (arith, is, none refl)
