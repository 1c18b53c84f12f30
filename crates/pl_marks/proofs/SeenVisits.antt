-- What a walk over the visits of a page has seen, the latest first: the sample, and whether a visit
-- shows the page.
use Rattle.std.proofs.Common.{◌≡◌, ◌≢◌, ◌+◌, ◌≤◌, ◌++◌, ◌&&◌, ◌||◌, ◌∙◌, ℕ, Bool, true}
use Rattle.std.proofs.Common.{false, List, [], ◌∷◌, Option, Some, ap, arith}
use Rattle.std.proofs.Common.{is_some, length, map, refl, sym, take}
use Rattle.std.specs.List.{list_all}
use Rattle.std.proofs.lemmas.Bool.{and_from, and_left, and_right}
use Rattle.std.proofs.lemmas.List.Folds.{list_all-append}
use Rattle.std.proofs.lemmas.List.{length-append, map_push, take-append-le, take_all}
use Rattle.pl_base.specs.declared.id.PageId.{PageId}
use Rattle.pl_base.specs.declared.id.VisitId.{VisitId}
use Rattle.pl_base.specs.Address.{is_place_url}
use Rattle.pl_base.specs.Marks.{is_hidden}
use Rattle.pl_base.specs.Rows.{Kept, first_id}
use Rattle.pl_base.specs.Rows.{page_visits, store_of}
use Rattle.pl_base.specs.Store.{Page, Store, Visit}
use Rattle.pl_base.specs.Visits.{latest_first, visits_of}
use Rattle.pl_score.specs.declared.sample.Sampled.{Sampled}
use Rattle.pl_score.specs.Sample.{sampled_of}
use Rattle.pl_marks.specs.Refreshed.{is_passing}
use Rattle.pl_base.proofs.VisitLists.{list_all-latest_first, one_in_place}
use Rattle.pl_base.proofs.VisitsRun.{visit_names}
use Rattle.pl_base.proofs.Walk.{StandsAt, Walk, ends}

-- ---- the sample

-- so many visits were sampled
abbrev pub AreSampled : Store → List Sampled → ℕ → List Visit → Type 0
AreSampled store sample count front = (sample ≡ map (sampled_of store) front) × (length front ≡ count)

pub sampled_more : (store : Store) (sample more : List Sampled) (seen : Sampled) (count : ℕ) (front : List Visit)
    (v : Visit) → AreSampled store sample count front → seen ≡ sampled_of store v → more ≡ sample ++ seen ∷ []
    → AreSampled store more (count + 1) (front ++ v ∷ [])
sampled_more store sample more seen count front v are is pushed = (
  pushed ∙ ap (λ (ss : List Sampled). ss ++ seen ∷ []) are.0
      ∙ ap (λ (s : Sampled). map (sampled_of store) front ++ s ∷ []) is
      ∙ sym (map_push (sampled_of store) front v),
  omega (arith, length-append front (v ∷ []), are.1),
)

-- ten were sampled
pub sampled_ten : (kept : Kept) (page : PageId) (count : ℕ) (sample : List Sampled) (next : Option VisitId)
    → Walk visit_names (page_visits kept page) (AreSampled (store_of kept) sample count) next → count ≡ 10
    → sample ≡ map (sampled_of (store_of kept)) (take 10 (page_visits kept page))
sampled_ten kept page count sample next w ten =
    let whole : length w.front ≡ 10 = omega (arith, w.so_far.1) in
    w.so_far.0 ∙ ap (map (sampled_of (store_of kept)))
    (sym (ap (take 10) w.whole ∙ take-append-le 10 w.front w.rest (omega arith)
    ∙ take_all 10 w.front (omega arith)))

-- or all, where these are fewer
pub sampled_all : (kept : Kept) (page : PageId) (count : ℕ) (sample : List Sampled) (next : Option VisitId)
    → Walk visit_names (page_visits kept page) (AreSampled (store_of kept) sample count) next → count ≤ 10
    → ((id : VisitId) → next ≢ Some id)
    → sample ≡ map (sampled_of (store_of kept)) (take 10 (page_visits kept page))
sampled_all kept page count sample next w few none =
    let all : AreSampled (store_of kept) sample count (page_visits kept page) =
    ends visit_names (page_visits kept page) (AreSampled (store_of kept) sample count) next w none in
    all.0 ∙ ap (map (sampled_of (store_of kept))) (sym (take_all 10 (page_visits kept page) (omega (arith, all.1))))

-- ---- hidden pages

-- none of the visits shows its page
abbrev pub AllPassing : Store → List Visit → Type 0
AllPassing store front = list_all (is_passing store) front ≡ true

pub passing_more : (store : Store) (front : List Visit) (v : Visit) → AllPassing store front
    → is_passing store v ≡ true → AllPassing store (front ++ v ∷ [])
passing_more store front v all is =
    list_all-append (is_passing store) front (v ∷ [])
    ∙ and_from (list_all (is_passing store) front) (is_passing store v && true) all
    (and_from (is_passing store v) true is refl)

-- as `is_hidden` has it
abbrev pub hidden_by : Store → List Visit → Bool
hidden_by store [] = false
hidden_by store (v ∷ vs) = list_all (λ w. is_passing store w) (v ∷ vs)

hidden_latest : (store : Store) (vs : List Visit)
    → hidden_by store vs ≡ (is_some (first_id (latest_first vs)) && list_all (is_passing store) (latest_first vs))
hidden_latest store [] = refl
hidden_latest store (v ∷ vs) =
    sym (ap (λ (b : Bool). b && list_all (is_passing store) (latest_first (v ∷ vs)))
    (one_in_place v (latest_first vs))
    ∙ list_all-latest_first (is_passing store) (v ∷ vs))

-- a page is hidden by its visits where there is a latest one, and none shows it
hidden_if : (kept : Kept) (page : PageId) (hidden : Bool) (p : Page) → p.id ≡ page
    → (is_some (first_id (page_visits kept page))
    && list_all (is_passing (store_of kept)) (page_visits kept page)) ≡ hidden
    → is_hidden (store_of kept) p ≡ (is_place_url p.url || hidden)
hidden_if kept page hidden p same is =
    ap (λ (i : PageId). is_place_url p.url || hidden_by (store_of kept) (visits_of (store_of kept) i)) same
    ∙ ap (λ (b : Bool). is_place_url p.url || b)
    (hidden_latest (store_of kept) (visits_of (store_of kept) page) ∙ is)

and_end : (b : Bool) → (b && true) ≡ b
and_end true = refl
and_end false = refl

pub hidden_at_end : (kept : Kept) (page : PageId) (latest next : Option VisitId) (p : Page) → p.id ≡ page
    → latest ≡ first_id (page_visits kept page) → Walk visit_names (page_visits kept page) (AllPassing (store_of kept))
    next
    → ((id : VisitId) → next ≢ Some id) → is_hidden (store_of kept) p ≡ (is_place_url p.url || is_some latest)
hidden_at_end kept page latest next p same first w none =
    hidden_if kept page (is_some latest) p same
    (ap (λ (b : Bool). is_some (first_id (page_visits kept page)) && b)
    (ends visit_names (page_visits kept page) (AllPassing (store_of kept)) next w none)
    ∙ and_end (is_some (first_id (page_visits kept page))) ∙ ap is_some (sym first))

pub shown_here : (kept : Kept) (page : PageId) (id : VisitId) (p : Page) → p.id ≡ page
    → (w : StandsAt visit_names (page_visits kept page) (AllPassing (store_of kept)) id) → is_passing (store_of kept)
    w.element ≡ false
    → is_hidden (store_of kept) p ≡ (is_place_url p.url || false)
shown_here kept page id p same w shows =
    hidden_if kept page false p same
    (and_right (is_some (first_id (page_visits kept page)))
    (list_all (is_passing (store_of kept)) (page_visits kept page))
    (ap (list_all (is_passing (store_of kept))) w.whole
    ∙ list_all-append (is_passing (store_of kept)) w.front (w.element ∷ w.rest)
    ∙ and_right (list_all (is_passing (store_of kept)) w.front)
    (is_passing (store_of kept) w.element && list_all (is_passing (store_of kept)) w.rest)
    (and_left (is_passing (store_of kept) w.element) (list_all (is_passing (store_of kept)) w.rest) shows)))
