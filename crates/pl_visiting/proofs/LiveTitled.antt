-- The title that a page has in the rows, and how many slots the store takes once it has another.
use Rattle.std.proofs.Common.{◌≡◌, ◌<◌, ◌≤◌, ◌+◌, ◌-◌, ◌==◌, ◌&&◌, ◌∙◌, if◌then◌else◌, ℕ, All, Bool, true, false}
use Rattle.std.proofs.Common.{List, [], ◌∷◌, Option, Some, None, ap, arith, find, get_or, ltb, map, refl, sym}
use Rattle.std.specs.List.{AllPairs}
use Rattle.std.specs.Option.{option_map}
use Rattle.std.proofs.lemmas.Bool.{eqb-true, ne_eqb}
use Rattle.std.proofs.lemmas.Bool.Decides.{nat_tests}
use Rattle.std.proofs.lemmas.List.{length-map}
use Rattle.std.proofs.lemmas.List.Elements.{All-from_recursion}
use Rattle.std.proofs.lemmas.List.Folds.{map_fixed}
use Rattle.std.proofs.lemmas.List.Kept.{AllPairs-from_increasing}
use Rattle.pl_base.specs.declared.id.PageId.{PageId}
use Rattle.pl_base.specs.declared.refusal.Refusal.TheVariants.{Full}
use Rattle.pl_base.specs.Live.{chunks, live_slots, origin_count, slot_limit}
use Rattle.pl_base.specs.Rows.{IsWellKept, Kept, KeptPage, live_with_title, page_at, store_of, title_of, titled}
use Rattle.pl_base.specs.Rows.{with_title}
use Rattle.pl_base.specs.Store.{Page, Store}
use Rattle.pl_step.specs.declared.reply.Reply.{Reply}
use Rattle.pl_step.specs.declared.reply.Reply.TheVariants.{Done, Refused}
use Rattle.pl_step.specs.Step.{is_full}
use Rattle.pl_visiting.specs.Titled.{within_slots}
use Rattle.pl_base.proofs.ListLaws.{AllPairs-from_map, sum_by-map}
use Rattle.pl_base.proofs.LookUps.{apart_increasing, found_one}
use Rattle.pl_base.proofs.OneChanged.{sum_changed}

-- ---- the title that stands

-- the page that has it
record IsTitleAt (kept : Kept) (id : PageId) (title : List ℕ) : Type 0 where
  pub page : KeptPage
  pub at : page_at kept id ≡ Some page
  pub is : title ≡ page.page.title

title_at : (kept : Kept) (id : PageId) (title : List ℕ) → Some title ≡ title_of kept id → IsTitleAt kept id title
title_at kept id title is = choose (page_at kept id) refl is
  where
    choose : (found : Option KeptPage) → page_at kept id ≡ found
        → Some title ≡ option_map (λ (p : KeptPage). p.page.title) found → IsTitleAt kept id title
    choose None at some = absurd (cc)
    choose (Some p) at some = record { page = p; at = at; is = cc }

-- the page with the id, another title in place of its own
abbrev retitled : PageId → List ℕ → KeptPage → KeptPage
retitled id title p = if p.page.id.0 == id.0 then titled title p else p

-- the title that stands, set again, changes nothing
same_title : (kept : Kept) (id : PageId) (title : List ℕ) → IsWellKept kept → Some title ≡ title_of kept id
    → with_title id title kept ≡ kept
same_title kept id title h is =
    let t : IsTitleAt kept id title = title_at kept id title is in
    let one : All (λ (p : KeptPage). (p.page.id.0 == id.0) ≡ true → p ≡ t.page) kept.pages =
    All-from_recursion (λ (p : KeptPage). (p.page.id.0 == id.0) ≡ true → p ≡ t.page) kept.pages
    (found_one (λ (p : KeptPage). p.page.id.0) id.0 kept.pages t.page
    (apart_increasing (λ (p : KeptPage). p.page.id.0) kept.pages h.page_ids.ascending) t.at) in
    ap (λ (pages : List KeptPage). record kept { pages = pages })
    (map_fixed (retitled id title) kept.pages
    (λ j d within.
    let p : KeptPage = get_or kept.pages j d in
    still (p.page.id.0 == id.0) p
    (λ same. t.is ∙ ap (λ (q : KeptPage). q.page.title) (sym (one j d within same)))))
  where
    still : (b : Bool) (p : KeptPage) → (b ≡ true → title ≡ p.page.title) → (if b then titled title p else p) ≡ p
    still true p is = ap (λ (t : List ℕ). titled t p) (is refl)
    still false p is = refl

-- the title in a store
title_in : PageId → List Page → Option (List ℕ)
title_in id pages = option_map (λ (p : Page). p.title) (find (λ (p : Page). p.id.0 == id.0) pages)

title_kept : (id : PageId) (ps : List KeptPage)
    → title_in id (map (λ (p : KeptPage). p.page) ps)
    ≡ option_map (λ (p : KeptPage). p.page.title) (find (λ (p : KeptPage). p.page.id.0 == id.0) ps)
unfolding title_in
title_kept id [] = refl
title_kept id (p ∷ ps) = choose (p.page.id.0 == id.0) (title_kept id ps)
  where
    choose : (b : Bool)
        → option_map (λ (q : Page). q.title)
        (find (λ (q : Page). q.id.0 == id.0) (map (λ (q : KeptPage). q.page) ps))
        ≡ option_map (λ (q : KeptPage). q.page.title) (find (λ (q : KeptPage). q.page.id.0 == id.0) ps)
        → option_map (λ (q : Page). q.title)
        (if b then Some p.page else find (λ (q : Page). q.id.0 == id.0) (map (λ (q : KeptPage). q.page) ps))
        ≡ option_map (λ (q : KeptPage). q.page.title)
        (if b then Some p else find (λ (q : KeptPage). q.page.id.0 == id.0) ps)
    choose true rest = refl
    choose false rest = rest

title_set : (id : PageId) (title old : List ℕ) (ps : List KeptPage)
    → Some old ≡ option_map (λ (p : KeptPage). p.page.title) (find (λ (p : KeptPage). p.page.id.0 == id.0) ps)
    → Some title ≡ option_map (λ (p : KeptPage). p.page.title)
    (find (λ (p : KeptPage). p.page.id.0 == id.0) (map (retitled id title) ps))
title_set id title old [] some = absurd (cc)
title_set id title old (p ∷ ps) some = choose (p.page.id.0 == id.0) refl some (title_set id title old ps)
  where
    choose : (b : Bool) → (p.page.id.0 == id.0) ≡ b
        → Some old ≡ option_map (λ (q : KeptPage). q.page.title)
        (if b then Some p else find (λ (q : KeptPage). q.page.id.0 == id.0) ps)
        → (Some old ≡ option_map (λ (q : KeptPage). q.page.title) (find (λ (q : KeptPage). q.page.id.0 == id.0) ps)
        → Some title ≡ option_map (λ (q : KeptPage). q.page.title)
        (find (λ (q : KeptPage). q.page.id.0 == id.0) (map (retitled id title) ps)))
        → Some title ≡ option_map (λ (q : KeptPage). q.page.title)
        (find (λ (q : KeptPage). q.page.id.0 == id.0) ((if b then titled title p else p) ∷ map (retitled id title) ps))
    choose true is here rest = rw is refl
    choose false is here rest = rw is (rest here)

-- a title that does not stand changes the store
pub title_changes : (kept : Kept) (id : PageId) (title old : List ℕ) → Some old ≡ title_of kept id
    → store_of (with_title id title kept) ≡ store_of kept → old ≡ title
title_changes kept id title old is same =
    let stands : Some title ≡ Some old =
    title_set id title old kept.pages is ∙ sym (title_kept id (with_title id title kept).pages)
    ∙ ap (λ (s : Store). title_in id s.pages) same ∙ title_kept id kept.pages ∙ sym is in
    cc

-- ---- slots

-- no two pages have the id
one_page : (kept : Kept) (id : PageId) → IsWellKept kept
    → AllPairs (λ (a b : KeptPage). (a.page.id.0 == id.0) ≡ true → (b.page.id.0 == id.0) ≡ false) kept.pages
one_page kept id h i j d before within passes =
    let number : KeptPage → ℕ = λ (p : KeptPage). p.page.id.0 in
    ne_eqb (number (get_or kept.pages j d)) id.0
    (λ same. omega (
      arith,
      eqb-true (number (get_or kept.pages i d)) id.0 passes,
      AllPairs-from_map (λ m n. m < n) number kept.pages
          (AllPairs-from_increasing (map number kept.pages) h.page_ids.ascending) i j d before within,
    ))

-- the slots of a page's texts
abbrev texts : Page → ℕ
texts p = chunks p.url + chunks p.title

urls_titled : (id : PageId) (title : List ℕ) (ps : List KeptPage)
    → map (λ (p : Page). p.url) (map (λ (p : KeptPage). p.page) (map (retitled id title) ps))
    ≡ map (λ (p : Page). p.url) (map (λ (p : KeptPage). p.page) ps)
urls_titled id title [] = refl
urls_titled id title (p ∷ ps) = rw (url_at (p.page.id.0 == id.0), urls_titled id title ps) refl
  where
    url_at : (b : Bool) → (if b then titled title p else p).page.url ≡ p.page.url
    url_at true = refl
    url_at false = refl

-- the slots of the old title go, and those of the new one come
slots_titled : (kept : Kept) (id : PageId) (title old : List ℕ) → IsWellKept kept → Some old ≡ title_of kept id
    → live_with_title id title kept + chunks old ≡ live_slots (store_of kept) + chunks title
slots_titled kept id title old h is =
    let t : IsTitleAt kept id old = title_at kept id old is in
    let page_of : KeptPage → Page = λ (p : KeptPage). p.page in
    omega (
      arith,
      ap origin_count (urls_titled id title kept.pages),
      length-map (map (retitled id title) kept.pages) page_of,
      length-map kept.pages (retitled id title),
      length-map kept.pages page_of,
      sum_by-map texts page_of (map (retitled id title) kept.pages),
      sum_by-map texts page_of kept.pages,
      sum_changed (λ (p : KeptPage). p.page.id.0 == id.0) (titled title) (λ (p : KeptPage). texts p.page) kept.pages
          t.page (one_page kept id h) t.at,
      ap chunks t.is,
    )

-- those of the old title are among those of the store
pub slots_old : (kept : Kept) (id : PageId) (old : List ℕ) → IsWellKept kept → Some old ≡ title_of kept id
    → chunks old ≤ live_slots (store_of kept)
slots_old kept id old h is = omega (arith, slots_titled kept id [] old h is)

-- the slots of the store, and those with the title in place of the old one, as they are reckoned
pub record AreSlots (kept : Kept) (id : PageId) (title : List ℕ) (before after : ℕ) : Type 0 where
  pub live : before ≡ live_slots (store_of kept)
  pub titled : after ≡ live_with_title id title kept

pub are_slots : (kept : Kept) (id : PageId) (title old : List ℕ) (before less more : ℕ) → IsWellKept kept
    → Some old ≡ title_of kept id → before ≡ live_slots (store_of kept) → less ≡ chunks old → more ≡ chunks title
    → AreSlots kept id title before (before - less + more)
are_slots kept id title old before less more h is live of_old of_new =
    record { live = live; titled = omega (arith, slots_titled kept id title old h is, slots_old kept id old h is) }

within_limit : (limit most before after : ℕ) → limit ≤ most → before ≤ most
    → (ltb limit after && ltb before after) ≡ false → after ≤ most
within_limit limit most before after some few full = grind (arith, nat_tests)

-- there is room for a title that does not fill the store
pub has_room : (limit : ℕ) (kept : Kept) (id : PageId) (title : List ℕ) (before after : ℕ) → IsWellKept kept
    → limit ≤ slot_limit → AreSlots kept id title before after → is_full limit before after ≡ false
    → live_with_title id title kept ≤ slot_limit
has_room limit kept id title before after h most s full =
    omega (
      arith,
      s.titled,
      within_limit limit slot_limit before after most (omega (arith, s.live, h.live)) full,
    )

-- ---- how it ends

never_full : (limit n : ℕ) → (ltb limit n && ltb n n) ≡ false
never_full limit n = grind (arith, nat_tests)

abbrev Ends : ℕ → Kept → PageId → List ℕ → Reply → Store → Type 0
Ends limit kept id title reply new =
    ◌≡◌ {A = Reply × Store} (reply, new) (within_slots limit (store_of kept) (store_of (with_title id title kept)))

-- as it was reckoned
ends_by : (limit : ℕ) (kept : Kept) (id : PageId) (title : List ℕ) (before after : ℕ) (full : Bool)
    → AreSlots kept id title before after → is_full limit before after ≡ full
    → (if full then (Refused (Full after), store_of kept) else (Done, store_of (with_title id title kept)))
    ≡ within_slots limit (store_of kept) (store_of (with_title id title kept))
ends_by limit kept id title before after full s is =
    let new : Store = store_of (with_title id title kept) in
    ap (λ (b : Bool). if b then (Refused (Full after), store_of kept) else (Done, new)) (sym is)
    ∙ ap (λ (n : ℕ). if is_full limit before n then (Refused (Full n), store_of kept) else (Done, new)) s.titled
    ∙ ap (λ (n : ℕ). if is_full limit n (live_slots new) then (Refused (Full (live_slots new)), store_of kept)
    else (Done, new)) s.live

pub ends_full : (limit : ℕ) (kept : Kept) (id : PageId) (title : List ℕ) (before after : ℕ)
    → AreSlots kept id title before after → is_full limit before after ≡ true
    → Ends limit kept id title (Refused (Full after)) (store_of kept)
ends_full limit kept id title before after s full = ends_by limit kept id title before after true s full

pub ends_done : (limit : ℕ) (kept new : Kept) (id : PageId) (title : List ℕ) (before after : ℕ)
    → AreSlots kept id title before after → is_full limit before after ≡ false → new ≡ with_title id title kept
    → Ends limit kept id title Done (store_of new)
ends_done limit kept new id title before after s full made =
    ap (λ (k : Kept). (Done, store_of k)) made ∙ ends_by limit kept id title before after false s full

pub ends_same : (limit : ℕ) (kept : Kept) (id : PageId) (title : List ℕ) → IsWellKept kept
    → Some title ≡ title_of kept id → Ends limit kept id title Done (store_of kept)
ends_same limit kept id title h is =
    let slots : ℕ = live_slots (store_of kept) in
    let same : with_title id title kept ≡ kept = same_title kept id title h is in
    ends_done limit kept kept id title slots slots
    (record { live = refl; titled = ap (λ (k : Kept). live_slots (store_of k)) (sym same) }) (never_full limit slots)
    (sym same)
