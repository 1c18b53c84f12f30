-- Two stores that tell the same of each page that a change does not bear on.
use Rattle.std.proofs.Common.{◌≡◌, ◌∙◌, ◌<◌, ◌==◌, ◌||◌, inl, inr, ℕ, Bool, true, false, List, [], ◌∷◌}
use Rattle.std.proofs.Common.{◌++◌, ap, arith, eq-eqb, filter, get_or, length, map, refl, subst, suc, sym, zero}
use Rattle.std.specs.List.{AllPairs, Contains, list_any}
use Rattle.std.proofs.lemmas.Bool.{cases_order, false≢true, or_parts}
use Rattle.std.proofs.lemmas.List.Elements.{All-contains, All-map, at_from_Contains}
use Rattle.std.proofs.lemmas.List.Folds.{list_any-append}
use Rattle.std.proofs.lemmas.List.Kept.{AllPairs-from_increasing}
use Rattle.pl_base.specs.declared.id.Ids.{Ids}
use Rattle.pl_base.specs.declared.id.PageId.{PageId}
use Rattle.pl_base.specs.declared.view.View.{View}
use Rattle.pl_base.specs.Good.{has_page_at}
use Rattle.pl_base.specs.Removal.{is_standing, without_idle_pages}
use Rattle.pl_base.specs.Rows.{IsWellKept, Kept, KeptPage, store_of}
use Rattle.pl_base.specs.Store.{Page, Store}
use Rattle.pl_base.specs.View.{IsViewOf}
use Rattle.pl_base.proofs.Among.{In, from_filter, from_map, in_filter, in_map}
use Rattle.pl_base.proofs.IdsLaws.{same_page}
use Rattle.pl_base.proofs.ListLaws.{AllPairs-from_map, AllPairs-map}
use Rattle.pl_base.proofs.LookUps.{none_at}
use Rattle.pl_marks.specs.Alike.{AreOthersAlike, ComeBehind, HaveSameTexts, is_one_of}
use Rattle.pl_history.specs.Bears.{BearsOnlyOn}
use Rattle.pl_history.specs.Settled.{AreSettledBut}

-- ---- elements

in_contained : {X : Type 0} (xs : List X) (k : ℕ) (x : X) → k < length xs → get_or xs k x ≡ x → In x xs
in_contained [] k x within is = absurd (omega arith)
in_contained (y ∷ ys) zero x within is = inl (sym is)
in_contained (y ∷ ys) (suc k) x within is = inr (in_contained ys k x (omega arith) is)

contains_in : {X : Type 0} (xs : List X) (x : X) → In x xs → Contains xs x
contains_in [] x is = absurd is
contains_in (y ∷ ys) x (inl is) = (0, omega arith, sym is)
contains_in (y ∷ ys) x (inr is) = let r = contains_in ys x is in (suc r.0, omega arith, r.2)

pub contains_filter : {X : Type 0} (test : X → Bool) (xs : List X) (x : X) → Contains xs x → test x ≡ true
    → Contains (filter test xs) x
contains_filter test xs x there passes =
    contains_in (filter test xs) x (in_filter test xs x (in_contained xs there.0 x there.1 there.2) passes)

pub contains_unfiltered : {X : Type 0} (test : X → Bool) (xs : List X) (x : X) → Contains (filter test xs) x
    → Contains xs x
contains_unfiltered test xs x there =
    contains_in xs x (from_filter test xs x (in_contained (filter test xs) there.0 x there.1 there.2)).0

pub contains_map : {X Y : Type 0} (f : X → Y) (xs : List X) (x : X) → Contains xs x → Contains (map f xs) (f x)
contains_map f xs x there =
    contains_in (map f xs) (f x) (in_map f xs x (in_contained xs there.0 x there.1 there.2))

pub contains_from_map : {X Y : Type 0} (f : X → Y) (xs : List X) (y : Y) → Contains (map f xs) y
    → (x : X) × Contains xs x × (f x ≡ y)
contains_from_map f xs y there =
    let r = from_map f xs y (in_contained (map f xs) there.0 y there.1 there.2) in
    (r.0, contains_in xs r.0 r.1, sym r.2)

-- ---- one change after another, and more pages

pub alike_self : (ids : List PageId) (store : Store) → AreOthersAlike ids store store
alike_self ids store =
    record {
      stay = λ p there other. there;
      stood = λ p there other. there;
      views = λ p there other view of. of;
    }

pub alike_more : (ids more : List PageId) (old new : Store)
    → ((id : PageId) → is_one_of more id ≡ false → is_one_of ids id ≡ false) → AreOthersAlike ids old new
    → AreOthersAlike more old new
alike_more ids more old new fewer a =
    record {
      stay = λ p there other. a.stay p there (fewer p.id other);
      stood = λ p there other. a.stood p there (fewer p.id other);
      views = λ p there other. a.views p there (fewer p.id other);
    }

pub alike_on : (ids : List PageId) (old mid new : Store) → AreOthersAlike ids old mid → AreOthersAlike ids mid new
    → AreOthersAlike ids old new
alike_on ids old mid new a b =
    record {
      stay = λ p there other. b.stay p (a.stay p there other) other;
      stood = λ p there other. a.stood p (b.stood p there other) other;
      views = λ p there other view of. b.views p (a.stay p there other) other view (a.views p there other view of);
    }

-- the ids in another order, or each once
pub alike_ordered : (ids pages : List PageId) (old new : Store)
    → ((id : PageId) → is_one_of pages id ≡ is_one_of ids id) → AreOthersAlike ids old new
    → AreOthersAlike pages old new
alike_ordered ids pages old new same a = alike_more ids pages old new (λ id other. sym (same id) ∙ other) a

one_of_both : (ids more : List PageId) (id : PageId) → is_one_of (ids ++ more) id ≡ false
    → (is_one_of ids id ≡ false) × (is_one_of more id ≡ false)
one_of_both ids more id other =
    or_parts (is_one_of ids id) (is_one_of more id)
    (sym (list_any-append (λ (i : PageId). id.0 == i.0) ids more) ∙ other)

pub alike_both : (ids more : List PageId) (old mid new : Store) → AreOthersAlike ids old mid
    → AreOthersAlike more mid new → AreOthersAlike (ids ++ more) old new
alike_both ids more old mid new a b =
    alike_on (ids ++ more) old mid new
    (alike_more ids (ids ++ more) old mid (λ id other. (one_of_both ids more id other).0) a)
    (alike_more more (ids ++ more) mid new (λ id other. (one_of_both ids more id other).1) b)

-- ---- what no view tells of

-- a view does not tell of the other pages, nor of the next ids
pub view_by_rows : (store : Store) (ids : Ids) (pages : List Page) (p : Page) (view : View) → IsViewOf store p view
    → IsViewOf (record store { ids = ids; pages = pages }) p view
view_by_rows store ids pages p view v =
    record {
      id = v.id;
      url = v.url;
      title = v.title;
      mark_title = v.mark_title;
      tags = v.tags;
      origin = v.origin;
      frecency = v.frecency;
      count = v.count;
      last = v.last;
      due = v.due;
      typed = v.typed;
      hidden = v.hidden;
      bookmarked = v.bookmarked;
      referenced = v.referenced;
    }

-- pages that nothing keeps are gone
pub alike_idle : (ids : List PageId) (kept : Kept) → AreSettledBut ids kept
    → AreOthersAlike ids (store_of kept) (without_idle_pages (store_of kept))
alike_idle ids kept s =
    let store : Store = store_of kept in
    let stands : Page → Bool = λ (p : Page). is_standing store p.id in
    record {
      stay =
          λ p there other.
          contains_filter stands store.pages p there
          (All-contains (λ (q : Page). is_one_of ids q.id ≡ false → stands q ≡ true) store.pages p
          (All-map (λ (q : Page). is_one_of ids q.id ≡ false → stands q ≡ true) (λ (q : KeptPage). q.page) kept.pages
          s.by_row)
          there other);
      stood = λ p there other. contains_unfiltered stands store.pages p there;
      views = λ p there other view of. view_by_rows store store.ids (filter stands store.pages) p view of;
    }

-- ---- texts

-- two pages with the same id are one
abbrev pub AreOnce : Store → Type 0
AreOnce store = (p q : Page) → Contains store.pages p → Contains store.pages q → q.id ≡ p.id → q ≡ p

pub pages_once : (kept : Kept) → IsWellKept kept → AreOnce (store_of kept)
pages_once kept h p q here there same =
    let pages : List Page = (store_of kept).pages in
    let ascend : AllPairs (λ (a b : Page). a.id.0 < b.id.0) pages =
    AllPairs-map (λ (a b : Page). a.id.0 < b.id.0) (λ (k : KeptPage). k.page) kept.pages
    (AllPairs-from_map (λ m n. m < n) (λ (k : KeptPage). k.page.id.0) kept.pages
    (AllPairs-from_increasing (map (λ (k : KeptPage). k.page.id.0) kept.pages) h.page_ids.ascending)) in
    let at = at_from_Contains pages p here in
    let other = at_from_Contains pages q there in
    let ids : q.id.0 ≡ p.id.0 = ap (λ (i : PageId). i.0) same in
    let first : get_or pages at.0 p ≡ p = at.2 p in
    let second : get_or pages other.0 p ≡ q = other.2 p in
    elim (cases_order at.0 other.0) as (λ _. q ≡ p) [
      | inr (inl less) ↦
          let apart : (get_or pages at.0 p).id.0 < (get_or pages other.0 p).id.0 =
          ascend at.0 other.0 p less other.1 in
          absurd (omega (arith, apart, ap (λ (r : Page). r.id.0) first, ap (λ (r : Page). r.id.0) second, ids))
      | inl equal ↦ sym second ∙ ap (λ (k : ℕ). get_or pages k p) (sym equal) ∙ first
      | inr (inr more) ↦
          let apart : (get_or pages other.0 p).id.0 < (get_or pages at.0 p).id.0 =
          ascend other.0 at.0 p more at.1 in
          absurd (omega (arith, apart, ap (λ (r : Page). r.id.0) first, ap (λ (r : Page). r.id.0) second, ids))
    ]

-- each page stems from one that was there with its id and its texts
abbrev pub StemsFrom : Store → Page → Type 0
StemsFrom old q =
    (p : Page) × Contains old.pages p × (q.id ≡ p.id) × (q.url ≡ p.url) × (q.title ≡ p.title)

pub texts_stay : (old new : Store) → AreOnce old → new.items ≡ old.items
    → ((q : Page) → Contains new.pages q → StemsFrom old q) → HaveSameTexts old new
texts_stay old new once items stem =
    record {
      items = items;
      pages =
          λ p q here there same.
          let from : StemsFrom old q = stem q there in
          let one : from.0 ≡ p = once p from.0 here from.1 (sym from.2 ∙ same) in
          (from.3 ∙ ap (λ (r : Page). r.url) one, from.4 ∙ ap (λ (r : Page). r.title) one);
    }

pub none_comes : (old new : Store) → ((q : Page) → Contains new.pages q → StemsFrom old q) → ComeBehind old new
none_comes old new stem p q there absent here =
    let from : StemsFrom old p = stem p there in
    absurd (false≢true
    (sym (All-contains (λ (r : Page). (r.id.0 == p.id.0) ≡ false) old.pages from.0
    (none_at (λ (r : Page). r.id.0 == p.id.0) old.pages absent) from.1)
    ∙ eq-eqb from.0.id.0 p.id.0 (ap (λ (i : PageId). i.0) (sym from.2))))

-- ---- changes of which no page comes

pub bears_on : (ids : List PageId) (old new : Store) → AreOnce old → new.items ≡ old.items
    → ((q : Page) → Contains new.pages q → StemsFrom old q) → AreOthersAlike ids old new → BearsOnlyOn ids old new
bears_on ids old new once items stem alike =
    record {
      others = alike;
      texts = texts_stay old new once items stem;
      behind = none_comes old new stem;
    }

-- pages that nothing keeps are gone once those that a change bore on are settled
pub settled_alike : (ids : List PageId) (old new : Kept) → AreSettledBut ids old
    → store_of new ≡ without_idle_pages (store_of old) → AreOthersAlike ids (store_of old) (store_of new)
settled_alike ids old new s is = subst (AreOthersAlike ids (store_of old)) (sym is) (alike_idle ids old s)

pub settled_bears : (ids : List PageId) (old new : Kept) → IsWellKept old → AreSettledBut ids old
    → store_of new ≡ without_idle_pages (store_of old) → BearsOnlyOn ids (store_of old) (store_of new)
settled_bears ids old new h s is =
    bears_on ids (store_of old) (store_of new) (pages_once old h) (ap (λ (t : Store). t.items) is)
    (λ q there. (
      q,
      contains_unfiltered (λ (p : Page). is_standing (store_of old) p.id) (store_of old).pages q
          (subst (λ (t : Store). Contains t.pages q) is there),
      refl,
      refl,
      refl,
    ))
    (settled_alike ids old new s is)

-- ---- one change after another

pub bears_more : (ids more : List PageId) (old new : Store)
    → ((id : PageId) → is_one_of more id ≡ false → is_one_of ids id ≡ false) → BearsOnlyOn ids old new
    → BearsOnlyOn more old new
bears_more ids more old new fewer b =
    record { others = alike_more ids more old new fewer b.others; texts = b.texts; behind = b.behind }

-- a page with the same id is there
abbrev pub IsStill : Store → Page → Type 0
IsStill store p = (q : Page) × Contains store.pages q × (q.id ≡ p.id)

-- behind the first change no page comes
pub bears_then : (ids : List PageId) (old mid new : Store) → BearsOnlyOn ids old mid → BearsOnlyOn ids mid new
    → ((r : Page) → Contains new.pages r → IsStill mid r) → BearsOnlyOn ids old new
bears_then ids old mid new a b still =
    record {
      others = alike_on ids old mid new a.others b.others;
      texts =
          record {
            items = b.texts.items ∙ a.texts.items;
            pages =
                λ p r here there same.
                let q : IsStill mid r = still r there in
                let first = a.texts.pages p q.0 here q.1 (q.2 ∙ same) in
                let second = b.texts.pages q.0 r q.1 there (sym q.2) in
                (second.0 ∙ first.0, second.1 ∙ first.1);
          };
      behind =
          λ r p there absent here.
          let q : IsStill mid r = still r there in
          subst (λ (i : PageId). p.id.0 < i.0) q.2
          (a.behind q.0 p q.1 (ap (has_page_at old) q.2 ∙ absent) here);
    }

there_in : (test : Page → Bool) (pages : List Page) → list_any test pages ≡ true
    → (q : Page) × Contains pages q × (test q ≡ true)
there_in test [] some = absurd (false≢true some)
there_in test (p ∷ ps) some = choose (test p) refl some (there_in test ps)
  where
    choose : (b : Bool) → test p ≡ b → (b || list_any test ps) ≡ true
        → (list_any test ps ≡ true → (q : Page) × Contains ps q × (test q ≡ true))
        → (q : Page) × Contains (p ∷ ps) q × (test q ≡ true)
    choose true passes here rest = (p, (0, omega arith, refl), passes)
    choose false fails here rest =
        let r = rest here in (r.0, contains_in (p ∷ ps) r.0 (inr (in_contained ps r.1.0 r.0 r.1.1 r.1.2)), r.2)

-- by the first change no page goes
pub bears_first : (ids : List PageId) (old mid new : Store) → BearsOnlyOn ids old mid → BearsOnlyOn ids mid new
    → ((p : Page) → Contains old.pages p → IsStill mid p) → BearsOnlyOn ids old new
bears_first ids old mid new a b still =
    record {
      others = alike_on ids old mid new a.others b.others;
      texts =
          record {
            items = b.texts.items ∙ a.texts.items;
            pages =
                λ p r here there same.
                let q : IsStill mid p = still p here in
                let first = a.texts.pages p q.0 here q.1 q.2 in
                let second = b.texts.pages q.0 r q.1 there (same ∙ sym q.2) in
                (second.0 ∙ first.0, second.1 ∙ first.1);
          };
      behind =
          λ r p there absent here.
          let test : Page → Bool = λ (q : Page). q.id.0 == r.id.0 in
          cond_cases (has_page_at mid r.id) (p.id.0 < r.id.0)
          (λ some.
          let q = there_in test mid.pages some in
          let id : q.0.id ≡ r.id = same_page q.0.id r.id q.2 in
          subst (λ (i : PageId). p.id.0 < i.0) id (a.behind q.0 p q.1 (ap (has_page_at old) id ∙ absent) here))
          (λ none.
          let q : IsStill mid p = still p here in
          subst (λ (i : PageId). i.0 < r.id.0) q.2 (b.behind r q.0 there none q.1));
    }
  where
    cond_cases : (t : Bool) (P : Type 0) → (t ≡ true → P) → (t ≡ false → P) → P
    cond_cases true P here other = here refl
    cond_cases false P here other = other refl
