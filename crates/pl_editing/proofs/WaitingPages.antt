-- The pages that lost their items, one after another: each waits for the tree, or is settled.
use Rattle.std.proofs.Common.{◌≡◌, ◌∙◌, ◌++◌, ◌==◌, ◌&&◌, ◌||◌, ◌+◌, ◌<◌, ◌≤◌, ℕ, All, Bool, true, false, not, List, [], ◌∷◌}
use Rattle.std.proofs.Common.{Some, ap, append-nil, append_assoc, drop, get_or}
use Rattle.std.proofs.Common.{arith, length, refl, subst, sym}
use Rattle.std.specs.List.{AllByRecursion, list_any}
use Rattle.std.proofs.lemmas.Bool.{false≢true, or_left, or_right}
use Rattle.std.proofs.lemmas.List.{drop_all, drop_more}
use Rattle.std.proofs.lemmas.List.Elements.{All-from_recursion, All-map, recursion_from_All}
use Rattle.std.proofs.lemmas.List.Folds.{list_any-append}
use Rattle.pl_base.specs.declared.id.PageId.{PageId}
use Rattle.pl_base.specs.Good.{is_visited}
use Rattle.pl_base.specs.Marks.{is_referenced}
use Rattle.pl_base.specs.Removal.{is_standing}
use Rattle.pl_base.specs.Rows.{IsWellKept, Kept, KeptPage, has_page, page_at, store_of, url_of}
use Rattle.pl_base.specs.Store.{Page, Store, Visit}
use Rattle.pl_base.proofs.IdsLaws.{same_page}
use Rattle.pl_base.proofs.ListLaws.{all_stay, weaker}
use Rattle.pl_base.proofs.PageLaws.{id_at, pages_found, url_at}
use Rattle.pl_marks.specs.Alike.{is_one_of}
use Rattle.pl_history.specs.Settled.{AreSettledBut, Drops}
use Rattle.pl_nbread.specs.declared.tree.Tree.{Tree}
use Rattle.pl_keyed.specs.declared.pages.urls.Named.{Named}
use Rattle.pl_keyed.specs.KnownPages.{names}
use Rattle.pl_keyed.specs.NamedUrls.{is_named}
use Rattle.pl_graft.specs.Spared.{is_spared, spared}
use Rattle.pl_editing.specs.Waiting.{AreSettledOrWait, AreUrlsOf, AreWaiting, waits}
use Rattle.pl_editing.proofs.PageDropped.{dropped_all, dropped_spared}
use Rattle.pl_editing.proofs.SettledInFront.{in_front}

-- ---- the page with an id

-- a page of the rows is the one that is found by its id
this_page : (kept : Kept) (page : PageId) → IsWellKept kept → (P : KeptPage → Type 0)
    → ((p : KeptPage) → page_at kept page ≡ Some p → P p)
    → AllByRecursion (λ (p : KeptPage). (p.page.id.0 == page.0) ≡ true → P p) kept.pages
this_page kept page h P of =
    weaker (λ (p : KeptPage). page_at kept p.page.id ≡ Some p) (λ (p : KeptPage). (p.page.id.0 == page.0) ≡ true → P p)
    kept.pages
    (λ p found same. of p (subst (λ (id : PageId). page_at kept id ≡ Some p) (same_page p.page.id page same) found))
    (pages_found kept h)

-- the test whether it waits, by what the rows tell
pub waits_told : (kept : Kept) (page : PageId) (named : Named) (p : KeptPage) (url : List ℕ) (visited has : Bool)
    → IsWellKept kept → page_at kept page ≡ Some p → visited ≡ is_visited (store_of kept) page → visited ≡ false
    → Some url ≡ url_of kept page → has ≡ names named url → has ≡ waits named (store_of kept) p.page
waits_told kept page named p url visited has h at told none url_is is =
    let own : p.page.id ≡ page = id_at kept page p at in
    is ∙ ap (names named) (url_at kept page p url at url_is)
    ∙ sym (ap (λ (b : Bool). not b && names named p.page.url)
    (ap (is_visited (store_of kept)) own ∙ sym told ∙ none))

pub waits_not : (kept : Kept) (page : PageId) (named : Named) (p : KeptPage) (visited : Bool)
    → page_at kept page ≡ Some p → visited ≡ is_visited (store_of kept) page → visited ≡ true
    → false ≡ waits named (store_of kept) p.page
waits_not kept page named p visited at told some =
    sym (ap (λ (b : Bool). not b && names named p.page.url)
    (ap (is_visited (store_of kept)) (id_at kept page p at) ∙ sym told ∙ some))

-- ---- one of them

-- the first of them waits
pub waits_on : (tree : Tree) (page : PageId) (rest : List PageId) (kept : Kept)
    → AllByRecursion (λ (p : KeptPage). (p.page.id.0 == page.0) ≡ true
    → (is_visited (store_of kept) p.page.id ≡ false) × (is_named tree p.page.url ≡ true)) kept.pages
    → AreSettledOrWait tree (page ∷ rest) kept → AreSettledOrWait tree rest kept
waits_on tree page rest kept idle s =
    let store : Store = store_of kept in
    let Waits : Page → Type 0 = λ (p : Page). (is_visited store p.id ≡ false) × (is_named tree p.url ≡ true) in
    let this : All (λ (p : Page). (p.id.0 == page.0) ≡ true → Waits p) store.pages =
    All-map (λ (p : Page). (p.id.0 == page.0) ≡ true → Waits p) (λ (p : KeptPage). p.page) kept.pages
    (All-from_recursion (λ (p : KeptPage). (p.page.id.0 == page.0) ≡ true → Waits p.page) kept.pages idle) in
    record {
      waiting = s.waiting ++ page ∷ [];
      settled =
          subst (λ (ids : List PageId). AreSettledBut ids kept) (sym (append_assoc s.waiting (page ∷ []) rest))
          s.settled;
      wait =
          λ k d within among.
          let p : Page = get_or store.pages k d in
          either (Waits p) (is_one_of s.waiting p.id) (p.id.0 == page.0) (s.wait k d within) (this k d within)
          (sym (list_any-append (λ (id : PageId). p.id.0 == id.0) s.waiting (page ∷ [])) ∙ among);
    }
  where
    either : (W : Type 0) (a b : Bool) → (a ≡ true → W) → (b ≡ true → W) → (a || (b || false)) ≡ true → W
    either W true b one other some = one refl
    either W false true one other some = other refl
    either W false false one other some = absurd (false≢true some)

-- so it is where the test tells it
pub waits_here : (tree : Tree) (page : PageId) (rest : List PageId) (named : Named) (kept : Kept) → IsWellKept kept
    → AreUrlsOf tree named
    → ((p : KeptPage) → page_at kept page ≡ Some p → true ≡ waits named (store_of kept) p.page)
    → AreSettledOrWait tree (page ∷ rest) kept → AreSettledOrWait tree rest kept
waits_here tree page rest named kept h urls waiting s =
    let Waits : KeptPage → Type 0 =
    λ (p : KeptPage). (is_visited (store_of kept) p.page.id ≡ false) × (is_named tree p.page.url ≡ true) in
    waits_on tree page rest kept
    (this_page kept page h Waits
    (λ p at.
    let told = split (is_visited (store_of kept) p.page.id) (names named p.page.url) (waiting p at) in
    (told.0, sym (urls p.page.url) ∙ told.1))) s
  where
    split : (visited named : Bool) → true ≡ (not visited && named) → (visited ≡ false) × (named ≡ true)
    split true named is = absurd (false≢true (sym is))
    split false named is = (refl, sym is)

-- those that wait still do, where the page was settled
wait_still : (tree : Tree) (page : PageId) (ids : List PageId) (old new : Kept)
    → (is_standing (store_of old) page ≡ true → store_of new ≡ store_of old)
    → (is_standing (store_of old) page ≡ false → Drops page old new) → AreWaiting tree ids (store_of old)
    → AreWaiting tree ids (store_of new)
wait_still tree page ids old new stays goes waiting = choose (is_standing (store_of old) page) refl
  where
    choose : (b : Bool) → is_standing (store_of old) page ≡ b → AreWaiting tree ids (store_of new)
    choose true is = subst (AreWaiting tree ids) (sym (stays is)) waiting
    choose false is =
        let w : Drops page old new = goes is in
        let Waits : Store → Page → Type 0 =
        λ (store : Store) (p : Page). is_one_of ids p.id ≡ true
        → (is_visited store p.id ≡ false) × (is_named tree p.url ≡ true) in
        subst (λ (visits : List Visit). All (λ (p : Page). is_one_of ids p.id ≡ true
        → (list_any (λ (v : Visit). v.page.0 == p.id.0) visits ≡ false) × (is_named tree p.url ≡ true))
        (store_of new).pages) (sym w.visits)
        (dropped_all page old new w (Waits (store_of old)) waiting)

-- the first of them is settled
pub settles_on : (tree : Tree) (page : PageId) (rest : List PageId) (old new : Kept)
    → (is_standing (store_of old) page ≡ true → store_of new ≡ store_of old)
    → (is_standing (store_of old) page ≡ false → Drops page old new)
    → ((ids : List PageId) → AreSettledBut (page ∷ ids) old → AreSettledBut ids new)
    → AreSettledOrWait tree (page ∷ rest) old → AreSettledOrWait tree rest new
settles_on tree page rest old new stays goes settles s =
    record {
      waiting = s.waiting;
      settled = settles (s.waiting ++ rest) (in_front s.waiting page rest old s.settled);
      wait = wait_still tree page s.waiting old new stays goes s.wait;
    }

-- the tree spares the same
pub settled_spared : (tree : Tree) (page : PageId) (named : Named) (old new : Kept) → IsWellKept old
    → AreUrlsOf tree named → (is_standing (store_of old) page ≡ true → store_of new ≡ store_of old)
    → (is_standing (store_of old) page ≡ false → Drops page old new)
    → ((p : KeptPage) → page_at old page ≡ Some p → waits named (store_of old) p.page ≡ false)
    → spared tree (store_of new) ≡ spared tree (store_of old)
settled_spared tree page named old new h urls stays goes not_waiting = choose (is_standing (store_of old) page) refl
  where
    unnamed_by : (visited referenced named : Bool) → (visited || referenced) ≡ false → (not visited && named) ≡ false
        → named ≡ false
    unnamed_by true referenced named idle none = absurd (false≢true (sym idle))
    unnamed_by false referenced named idle none = none

    choose : (b : Bool) → is_standing (store_of old) page ≡ b → spared tree (store_of new) ≡ spared tree (store_of old)
    choose true is = ap (spared tree) (stays is)
    choose false is =
        dropped_spared page old new (goes is) tree is
        (this_page old page h (λ (p : KeptPage). is_named tree p.page.url ≡ false)
        (λ p at.
        sym (urls p.page.url)
        ∙ unnamed_by (is_visited (store_of old) p.page.id) (is_referenced (store_of old) p.page.id)
        (names named p.page.url)
        (ap (is_standing (store_of old)) (id_at old page p at) ∙ is) (not_waiting p at)))

-- ---- all of them

pub first_settled : (tree : Tree) (pages : List PageId) (kept : Kept) → AreSettledBut pages kept
    → AreSettledOrWait tree pages kept
first_settled tree pages kept s = record { waiting = []; settled = s; wait = λ k d within among. absurd (cc) }

pub next_of : (tree : Tree) (kept : Kept) (pages : List PageId) (k : ℕ) (d : PageId) → k < length pages
    → AreSettledOrWait tree (drop k pages) kept → AreSettledOrWait tree (get_or pages k d ∷ drop (k + 1) pages) kept
next_of tree kept pages k d within s =
    subst (λ (ids : List PageId). AreSettledOrWait tree ids kept) (drop_more pages k d within) s

pub none_left : (tree : Tree) (kept : Kept) (pages : List PageId) (k : ℕ) → length pages ≤ k
    → AreSettledOrWait tree (drop k pages) kept → AreSettledOrWait tree [] kept
none_left tree kept pages k past s =
    subst (λ (ids : List PageId). AreSettledOrWait tree ids kept) (drop_all k pages past) s

pub next_there : (tree : Tree) (kept : Kept) (page : PageId) (rest : List PageId)
    → AreSettledOrWait tree (page ∷ rest) kept → has_page kept page ≡ true
next_there tree kept page rest s = (in_front s.waiting page rest kept s.settled).there 0 page (omega arith)

-- the tree spares each page once all are settled but those that wait
pub all_spared : (tree : Tree) (kept : Kept) → AreSettledOrWait tree [] kept
    → spared tree (store_of kept) ≡ store_of kept
all_spared tree kept s =
    let store : Store = store_of kept in
    let settled : AreSettledBut s.waiting kept =
    subst (λ (ids : List PageId). AreSettledBut ids kept) (append-nil s.waiting) s.settled in
    let stands : All (λ (p : Page). is_one_of s.waiting p.id ≡ false → is_standing store p.id ≡ true) store.pages =
    All-map (λ (p : Page). is_one_of s.waiting p.id ≡ false → is_standing store p.id ≡ true)
    (λ (p : KeptPage). p.page) kept.pages settled.by_row in
    ap (λ (ps : List Page). record store { pages = ps })
    (all_stay (is_spared tree store) store.pages
    (recursion_from_All (λ (p : Page). is_spared tree store p ≡ true) store.pages
    (λ k d within.
    let p : Page = get_or store.pages k d in
    choose (is_standing store p.id) (is_named tree p.url) (is_one_of s.waiting p.id) (is_one_of s.waiting p.id) refl
    (stands k d within) (λ among. (s.wait k d within among).1))))
  where
    choose : (stands named among : Bool) → (b : Bool) → among ≡ b → (among ≡ false → stands ≡ true)
        → (among ≡ true → named ≡ true) → (stands || named) ≡ true
    choose stands named among true is one other = or_right stands named (other is)
    choose stands named among false is one other = or_left stands named (one is)
