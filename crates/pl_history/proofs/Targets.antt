-- Where a visit goes, and what the rows have there.
use Rattle.std.proofs.Common.{◌≡◌, ◌≢◌, ◌∙◌, ◌+◌, ◌==◌, ◌&&◌, ◌||◌, ℕ, All, Bool, true, false, List, []}
use Rattle.std.proofs.Common.{◌∷◌, Option, Some, None, ap, bytes_eq, find, if◌then◌else◌, map, refl, subst, sym}
use Rattle.std.specs.List.{AllByRecursion, list_any}
use Rattle.std.specs.Option.{is_none, option_map}
use Rattle.std.proofs.lemmas.Bool.{false≢true}
use Rattle.std.proofs.lemmas.List.Elements.{All-from_recursion, All-weaker}
use Rattle.std.proofs.lemmas.List.Folds.{list_any_none}
use Rattle.std.proofs.lemmas.Slice.Eq.{bytes_eq-Decides}
use Rattle.pl_base.specs.declared.date.Micros.{Micros}
use Rattle.pl_base.specs.declared.id.PageId.{PageId}
use Rattle.pl_base.specs.declared.id.Slot.{Slot}
use Rattle.pl_base.specs.declared.id.VisitId.{VisitId}
use Rattle.pl_base.specs.declared.transition.Transition.{Transition}
use Rattle.pl_base.specs.Address.{same_origin}
use Rattle.pl_base.specs.Live.{chunks, live_slots}
use Rattle.pl_base.specs.Rows.{IsOriginOf, Kept, KeptPage, store_of}
use Rattle.pl_base.specs.Store.{Page}
use Rattle.pl_history.specs.declared.find.Target.TheVariants.{Known, New}
use Rattle.pl_base.specs.Visiting.{after_visit, find_page}
use Rattle.pl_history.specs.Target.{IsTargetOf}
use Rattle.pl_base.proofs.ListLaws.{list_any-map}
use Rattle.pl_history.proofs.LiveAfter.{live_found, live_new}

-- ---- look-ups

none_passes : (p : Page → Bool) (ps : List KeptPage) → find p (map (λ (q : KeptPage). q.page) ps) ≡ None
    → AllByRecursion (λ (q : KeptPage). p q.page ≡ false) ps
none_passes p [] none = tt
none_passes p (q ∷ ps) none = choose (p q.page) refl none (none_passes p ps)
  where
    choose : (b : Bool) → p q.page ≡ b → (if b then Some q.page else find p (map (λ (r : KeptPage). r.page) ps)) ≡ None
        → (find p (map (λ (r : KeptPage). r.page) ps) ≡ None → AllByRecursion (λ (r : KeptPage). p r.page ≡ false) ps)
        → AllByRecursion (λ (r : KeptPage). p r.page ≡ false) (q ∷ ps)
    choose true is here rest = absurd (cc)
    choose false is here rest = (is, rest here)

-- no page has the URL
pub absent : (kept : Kept) (url : List ℕ) → find_page url (store_of kept).pages ≡ None
    → All (λ (p : KeptPage). p.page.url ≢ url) kept.pages
absent kept url none =
    All-weaker (λ (p : KeptPage). bytes_eq p.page.url url ≡ false) (λ (p : KeptPage). p.page.url ≢ url)
    (λ p apart same. false≢true (sym apart ∙ (bytes_eq-Decides p.page.url url).1 same)) kept.pages
    (All-from_recursion (λ (p : KeptPage). bytes_eq p.page.url url ≡ false) kept.pages
    (none_passes (λ (p : Page). bytes_eq p.url url) kept.pages none))

-- ---- the target

-- the page that was found
pub record IsFound (kept : Kept) (url : List ℕ) (id : PageId) : Type 0 where
  pub page : Page
  pub there : find_page url (store_of kept).pages ≡ Some page
  pub is : page.id ≡ id

pub found_page : (kept : Kept) (url : List ℕ) (id : PageId) → IsTargetOf kept url (Known id) → IsFound kept url id
found_page kept url id target = choose (find_page url (store_of kept).pages) refl target
  where
    choose : (found : Option Page) → find_page url (store_of kept).pages ≡ found
        → option_map (λ (p : Page). p.id) found ≡ Some id → IsFound kept url id
    choose None is none = absurd (cc)
    choose (Some p) is some = record { page = p; there = is; is = cc }

-- ---- slots

pub slots_known : (kept : Kept) (url : List ℕ) (id : PageId) (transition : Transition) (date : Micros)
    (source : Option VisitId)
    → IsTargetOf kept url (Known id)
    → live_slots (after_visit (store_of kept) url transition date source) ≡ live_slots (store_of kept) + 1
slots_known kept url id transition date source target =
    let f : IsFound kept url id = found_page kept url id target in
    live_found (store_of kept) url transition date source f.page f.there

pub has_origin : (kept : Kept) (url : List ℕ) (origin : Option Slot) → IsOriginOf kept url origin
    → ◌≡◌ {A = ℕ} (if list_any (λ (p : KeptPage). same_origin p.page.url url) kept.pages then 0 else 1)
    (if is_none origin then 1 else 0)
has_origin kept url None none =
    ap (λ (b : Bool). if b then 0 else 1) (list_any_none (λ (p : KeptPage). same_origin p.page.url url) kept.pages none)
has_origin kept url (Some origin) some =
    ap (λ (b : Bool). if b then 0 else 1) (either kept.pages some)
  where
    both : (a b c d : Bool) → ((a && b) || c) ≡ true → (c ≡ true → d ≡ true) → (b || d) ≡ true
    both true true c d here rest = refl
    both true false c d here rest = rest here
    both false true c d here rest = refl
    both false false c d here rest = rest here

    either : (ps : List KeptPage)
        → list_any (λ (p : KeptPage). (p.origin.0 == origin.0) && same_origin p.page.url url) ps ≡ true
        → list_any (λ (p : KeptPage). same_origin p.page.url url) ps ≡ true
    either [] none = absurd (cc)
    either (p ∷ ps) here =
        both (p.origin.0 == origin.0) (same_origin p.page.url url)
        (list_any (λ (q : KeptPage). (q.origin.0 == origin.0) && same_origin q.page.url url) ps)
        (list_any (λ (q : KeptPage). same_origin q.page.url url) ps) here (either ps)

pub slots_new : (kept : Kept) (url : List ℕ) (origin : Option Slot) (transition : Transition) (date : Micros)
    (source : Option VisitId)
    → IsTargetOf kept url (New origin)
    → live_slots (after_visit (store_of kept) url transition date source) ≡ live_slots (store_of kept)
    + (2 + chunks url + (if is_none origin then 1 else 0))
slots_new kept url origin transition date source target =
    live_new (store_of kept) url transition date source target.0
    ∙ ap (λ (n : ℕ). live_slots (store_of kept) + (2 + chunks url + n))
    (ap (λ (b : Bool). if b then 0 else 1)
    (list_any-map (λ (p : Page). same_origin p.url url) (λ (p : KeptPage). p.page) kept.pages)
    ∙ has_origin kept url origin target.1)

-- ---- the page that was found

pub target_by : (kept : Kept) (url text : List ℕ) (found : Option PageId) (page : PageId) → text ≡ url
    → found ≡ option_map (λ (p : Page). p.id) (find_page text (store_of kept).pages) → found ≡ Some page
    → IsTargetOf kept url (Known page)
target_by kept url text found page same is some =
    subst (λ (u : List ℕ). IsTargetOf kept u (Known page)) same (sym is ∙ some)
