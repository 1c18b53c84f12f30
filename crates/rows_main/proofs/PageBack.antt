-- A page that no row has comes and goes, and the rows are ready for it again.
use Rattle.std.proofs.Common.{◌≡◌, ◌∙◌, ◌<◌, ◌≤◌, ◌+◌, ◌++◌, ◌==◌, ℕ, All, Bool, true, false, List, [], ◌∷◌}
use Rattle.std.proofs.Common.{Option, None, ap, arith, filter, if◌then◌else◌, length, map, refl, subst, sym}
use Rattle.std.specs.Prelude.{not, IsFalse}
use Rattle.std.specs.List.{AllByRecursion, list_any}
use Rattle.std.proofs.lemmas.Bool.{eq-eqb}
use Rattle.std.proofs.lemmas.List.Elements.{All-map, recursion_from_All}
use Rattle.pl_base.specs.declared.id.PageId.{PageId}
use Rattle.pl_base.specs.Address.{same_origin}
use Rattle.pl_base.specs.Live.{chunks, live_slots, slot_limit}
use Rattle.pl_base.specs.Rows.{IsOriginOf, IsWellKept, Kept, KeptPage, WithPageIn, WithoutPage, live_with_page}
use Rattle.pl_base.specs.Rows.{next_page, other_pages, store_of, unnamed}
use Rattle.pl_base.specs.Store.{Page}
use Rattle.pl_base.specs.Visiting.{find_page}
use Rattle.pl_history.specs.declared.find.Target.TheVariants.{New}
use Rattle.pl_history.specs.Target.{IsTargetOf}
use Rattle.pl_base.proofs.ListLaws.{All-from_map, map-map}
use Rattle.pl_base.proofs.PageLaws.{ids_below}
use Rattle.pl_base.proofs.PagesRun.{not_equal}
use Rattle.pl_history.proofs.LiveAfter.{live_page}

pub room_page : (kept : Kept) (url : List ℕ) → live_slots (store_of kept) + (chunks url + 2) ≤ slot_limit
    → live_with_page url kept ≤ slot_limit
room_page kept url room =
    omega (
      arith,
      live_page kept url,
      one_at_most (list_any (λ (p : KeptPage). same_origin p.page.url url) kept.pages),
      room,
    )
  where
    one_at_most : (b : Bool) → (if b then 0 else 1) ≤ 1
    one_at_most true = omega arith
    one_at_most false = omega arith

-- pages of which none is the last one, without it
others_are : (page : PageId) (ps : List KeptPage) (last : KeptPage)
    → AllByRecursion (λ (p : KeptPage). (p.page.id.0 == page.0) ≡ false) ps → (last.page.id.0 == page.0) ≡ true
    → other_pages page (ps ++ last ∷ []) ≡ ps
others_are page [] last apart same = rw same refl
others_are page (p ∷ ps) last apart same =
    rw apart.0 (ap (λ (qs : List KeptPage). p ∷ qs) (others_are page ps last apart.1 same))

-- the pages of a store by those without the names of their origins
pages_by : (old new : List KeptPage) → map unnamed new ≡ map unnamed old
    → map (λ (p : KeptPage). p.page) new ≡ map (λ (p : KeptPage). p.page) old
pages_by old new same =
    let page_of : KeptPage → Page = λ (p : KeptPage). p.page in
    sym (map-map page_of unnamed new) ∙ ap (map page_of) same ∙ map-map page_of unnamed old

pub still_new : (old mid new : Kept) (url : List ℕ) (page : PageId) → IsWellKept old → page.0 ≡ old.ids.page
    → WithPageIn url None old mid → WithoutPage page mid new → IsTargetOf old url (New None)
    → IsTargetOf new url (New None)
still_new old mid new url page h id came went target =
    let last : KeptPage = next_page url came.0 old in
    let apart : AllByRecursion (λ (p : KeptPage). (p.page.id.0 == page.0) ≡ false) old.pages =
    recursion_from_All (λ (p : KeptPage). (p.page.id.0 == page.0) ≡ false) old.pages
    (λ k d within. not_equal _ page.0 (omega (arith, ids_below old h k d within, id))) in
    let others : other_pages page mid.pages ≡ old.pages =
    ap (λ (k : Kept). other_pages page k.pages) came.1
    ∙ others_are page old.pages last apart (eq-eqb old.ids.page page.0 (sym id)) in
    let same : map unnamed new.pages ≡ map unnamed old.pages = went.pages ∙ ap (map unnamed) others in
    let P : KeptPage → Type 0 = λ (p : KeptPage). IsFalse (same_origin p.page.url url) in (
      ap (find_page url) (pages_by old.pages new.pages same) ∙ target.0,
      All-from_map P unnamed new.pages
          (subst (All P) (sym same) (All-map P unnamed old.pages target.1)),
    )
