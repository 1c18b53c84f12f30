-- What the rows tell of a page.
use Rattle.std.proofs.Common.{◌≡◌, ◌==◌, ◌∙◌, ℕ, ℤ, All, Bool, List, None, Option, Some, ap, map}
use Rattle.std.proofs.Common.{refl}
use Rattle.std.specs.Option.{option_map}
use Rattle.std.proofs.lemmas.List.Elements.{recursion_from_All}
use Rattle.std.proofs.lemmas.List.Kept.{AllPairs-from_increasing}
use Rattle.pl_base.specs.declared.id.PageId.{PageId}
use Rattle.pl_base.specs.declared.row.Mark.{Mark}
use Rattle.pl_base.specs.Frecency.{frecency_of}
use Rattle.pl_base.specs.Marks.{is_hidden, visit_count}
use Rattle.pl_base.specs.Rows.{IsRight, IsWellKept, Kept, KeptPage, mark_of, page_at, store_of}
use Rattle.pl_base.specs.Rows.{title_of, url_of}
use Rattle.pl_base.specs.Store.{Page, Store}
use Rattle.pl_base.proofs.ListLaws.{map-map}
use Rattle.pl_base.proofs.LookUps.{Apart, apart_ascending, found_holds}
use Rattle.pl_base.proofs.PageLaws.{id_at}

-- what the rows tell of the page is what is known of it
pub record AreTold (kept : Kept) (p : KeptPage) (mark : Mark) (url title : List ℕ) : Type 0 where
  pub mark_is : mark ≡ mark_of p
  pub url_is : url ≡ p.page.url
  pub title_is : title ≡ p.page.title

pub told_at : (kept : Kept) (id : PageId) (p : KeptPage) (mark : Mark) (url title : List ℕ)
    → page_at kept id ≡ Some p → Some mark ≡ option_map mark_of (page_at kept id) → Some url ≡ url_of kept id
    → Some title ≡ title_of kept id → AreTold kept p mark url title
told_at kept id p mark url title at marks urls titles =
    let same_mark : Some mark ≡ Some (mark_of p) = marks ∙ ap (option_map mark_of) at in
    let same_url : Some url ≡ Some p.page.url = urls ∙ ap (option_map (λ (q : KeptPage). q.page.url)) at in
    let same_title : Some title ≡ Some p.page.title = titles ∙ ap (option_map (λ (q : KeptPage). q.page.title)) at in
    record { mark_is = cc; url_is = cc; title_is = cc }

mark_alike : (typed : Bool) (y z : ℤ) (m n : ℕ) (a b : Bool) → y ≡ z → m ≡ n → a ≡ b
    → ◌≡◌ {A = Mark} (record { frecency = y; count = m; typed = typed; hidden = a })
    (record { frecency = z; count = n; typed = typed; hidden = b })
mark_alike typed y z m n a b frecencies counts hidden = rw (frecencies, counts, hidden) refl

-- the mark of a page as the store has it
abbrev pub mark_in : Store → Page → Mark
mark_in store p =
    record {
      frecency = frecency_of store p;
      count = visit_count store p.id;
      typed = p.typed;
      hidden = is_hidden store p;
    }

pub right_mark : (kept : Kept) (id : PageId) (p : KeptPage) → IsRight kept → page_at kept id ≡ Some p
    → mark_of p ≡ mark_in (store_of kept) p.page
right_mark kept id p right at =
    let store : Store = store_of kept in
    let holds : (P : KeptPage → Type 0) → All P kept.pages → P p =
    λ P all. found_holds P (λ (q : KeptPage). q.page.id.0 == id.0) kept.pages p (recursion_from_All P kept.pages all)
    at in
    mark_alike p.page.typed p.frecency (frecency_of store p.page) p.count (visit_count store p.page.id) p.hidden
    (is_hidden store p.page)
    (holds (λ (q : KeptPage). q.frecency ≡ frecency_of store q.page) right.frecencies)
    (holds (λ (q : KeptPage). q.count ≡ visit_count store q.page.id) right.counts)
    (holds (λ (q : KeptPage). q.hidden ≡ is_hidden store q.page) right.hidden)

pub mark_at : (kept : Kept) (page : PageId) (mark : Mark) (p : KeptPage) → IsRight kept
    → Some mark ≡ option_map mark_of (page_at kept page) → page_at kept page ≡ Some p
    → mark ≡ mark_in (store_of kept) p.page
mark_at kept page mark p right is at =
    let same : Some mark ≡ Some (mark_of p) = is ∙ ap (option_map mark_of) at in
    let here : mark ≡ mark_of p = cc in
    here ∙ right_mark kept page p right at

-- the visits that are kept beside a page are those of the page
pub count_at : (kept : Kept) (page : PageId) (mark : Mark) → IsRight kept
    → Some mark ≡ option_map mark_of (page_at kept page)
    → mark.count ≡ visit_count (store_of kept) page
count_at kept page mark right is = choose (page_at kept page) refl is
  where
    choose : (o : Option KeptPage) → page_at kept page ≡ o → Some mark ≡ option_map mark_of o
        → mark.count ≡ visit_count (store_of kept) page
    choose None at same = absurd (cc)
    choose (Some p) at same =
        ap (λ (m : Mark). m.count) (mark_at kept page mark p right is at)
        ∙ ap (visit_count (store_of kept)) (id_at kept page p at)

-- ---- the pages of a store

-- no two have the same id
pub ids_apart : (kept : Kept) → IsWellKept kept
    → Apart (λ (p : Page). p.id.0) (store_of kept).pages
ids_apart kept h =
    apart_ascending (λ (p : Page). p.id.0) (store_of kept).pages
    (rw (map-map (λ (p : Page). p.id.0) (λ (p : KeptPage). p.page) kept.pages)
    (AllPairs-from_increasing (map (λ (p : KeptPage). p.page.id.0) kept.pages)
    h.page_ids.ascending))
