-- The dates of the latest visits of a page, as a walk over its visits has seen them.
use Rattle.std.proofs.Common.{◌≡◌, ◌≢◌, ◌+◌, ◌-◌, ◌<◌, ◌≤◌, ◌++◌, ◌==◌, ◌||◌, ◌&&◌, ◌∙◌, ℕ, true, false, List, [], ◌∷◌}
use Rattle.std.proofs.Common.{Option, Some, ap, append_assoc, arith, drop, length, ltb, eqb, map, refl, subst}
use Rattle.std.proofs.Common.{sym, take}
use Rattle.std.specs.List.{AllByRecursion}
use Rattle.std.specs.Option.{option_or}
use Rattle.std.proofs.Math.Bool.{or-false}
use Rattle.std.proofs.Math.Seq.{take-append-add}
use Rattle.std.proofs.lemmas.Bool.Decides.{nat_tests}
use Rattle.std.proofs.lemmas.List.{append-nil, length-append, map-append, map_push, take-append-drop}
use Rattle.std.proofs.lemmas.List.Folds.{list_any-append}
use Rattle.std.proofs.lemmas.List.Kept.{AllPairs-from_increasing}
use Rattle.pl_base.specs.declared.date.Day.{Day}
use Rattle.pl_base.specs.declared.date.Micros.{Micros}
use Rattle.pl_base.specs.declared.id.PageId.{PageId}
use Rattle.pl_base.specs.declared.id.VisitId.{VisitId}
use Rattle.pl_base.specs.declared.row.VisitRow.{VisitRow}
use Rattle.pl_base.specs.Due.{IsDue, IsFirstDay, some_weighs_anew, weighs_anew}
use Rattle.pl_base.specs.Marks.{last_date_of}
use Rattle.pl_base.specs.Rows.{IsWellKept, Kept, page_visits, row_of, store_of}
use Rattle.pl_base.specs.Store.{Visit}
use Rattle.pl_base.specs.Visits.{is_later, sample_of, visits_of}
use Rattle.pl_base.proofs.ListLaws.{to_map, weaker}
use Rattle.pl_base.proofs.LookUps.{any_none, front}
use Rattle.pl_base.proofs.VisitOrder.{InOrder, latest_in_order}
use Rattle.pl_base.proofs.VisitsLaws.{Differ-ascending, Differ-filter}
use Rattle.pl_base.proofs.VisitsRun.{visit_names}
use Rattle.pl_base.proofs.Walk.{StandsAt, Walk, ends}
use Rattle.pl_score.specs.Due.{KeepsWeight, earlier_of}
use Rattle.pl_score.proofs.WeightChanges.{first_alike, first_pushed, keeps_older}
use Rattle.pl_marks.specs.declared.dates.Dates.{Dates}
use Rattle.pl_marks.proofs.LatestVisit.{first_date}

-- the dates of visits
abbrev pub visit_dates : List Visit → List Micros
visit_dates visits = map (λ (v : Visit). v.date) visits

-- what so many visits tell
pub record AreDatesOf (day : Day) (dates : Dates) (count : ℕ) (seen : List Visit) : Type 0 where
  pub last : dates.last ≡ first_date seen
  pub due : IsFirstDay (some_weighs_anew (visit_dates seen)) day dates.due
  pub many : length seen ≡ count

-- what the page's view has
pub record AreDates (kept : Kept) (page : PageId) (dates : Dates) : Type 0 where
  pub last : dates.last ≡ last_date_of (store_of kept) page
  pub due : IsDue (store_of kept) page dates.due

-- with the visit that the walk stands at
pub dated_here : (kept : Kept) (page : PageId) (id : VisitId) (dates more : Dates) (count : ℕ) (today : Day)
    (row : VisitRow) (change : Option Day)
    → (w : StandsAt visit_names (page_visits kept page) (AreDatesOf kept.day dates count) id) → today ≡ kept.day
    → row ≡ row_of w.element → IsFirstDay (λ day. weighs_anew day row.date) today change
    → more.last ≡ option_or dates.last (Some row.date) → more.due ≡ earlier_of dates.due change
    → AreDatesOf kept.day more (count + 1) (w.front ++ w.element ∷ [])
dated_here kept page id dates more count today row change w day rows here last due =
    let is : row.date ≡ w.element.date = ap (λ (r : VisitRow). r.date) rows in
    record {
      last =
          last ∙ ap (λ (o : Option Micros). option_or o (Some row.date)) w.so_far.last
          ∙ ap (λ (d : Micros). option_or (first_date w.front) (Some d)) is ∙ first_of w.front;
      due =
          subst (λ (ds : List Micros). IsFirstDay (some_weighs_anew ds) kept.day more.due)
          (ap (λ (d : Micros). visit_dates w.front ++ d ∷ []) is
          ∙ sym (map_push (λ (v : Visit). v.date) w.front w.element))
          (first_pushed (visit_dates w.front) row.date kept.day dates.due change more.due w.so_far.due
          (subst (λ (d : Day). IsFirstDay (λ other. weighs_anew other row.date) d change) day here) due);
      many = omega (arith, length-append w.front (w.element ∷ []), w.so_far.many);
    }
  where
    first_of : (vs : List Visit) → option_or (first_date vs) (Some w.element.date) ≡ first_date (vs ++ w.element ∷ [])
    first_of [] = refl
    first_of (v ∷ vs) = refl

-- ---- the visits behind

-- they keep their weights
abbrev pub AllKeep : Day → List Visit → Type 0
AllKeep day visits = AllByRecursion (λ (v : Visit). KeepsWeight day v.date) visits

none_anew : (day : Day) (visits : List Visit) → AllKeep day visits → (later : ℕ) → day.0 < later
    → some_weighs_anew (visit_dates visits) later ≡ false
none_anew day visits keep later after =
    any_none (weighs_anew later) (visit_dates visits)
    (to_map (λ (d : Micros). weighs_anew later d ≡ false) (λ (v : Visit). v.date) visits
    (weaker (λ (v : Visit). KeepsWeight day v.date) (λ (v : Visit). weighs_anew later v.date ≡ false) visits
    (λ v keeps. keeps later after) keep))

-- then the due day is that of the visits in front
due_of_front : (day : Day) (due : Option Day) (seen behind : List Visit) → AllKeep day behind
    → IsFirstDay (some_weighs_anew (visit_dates seen)) day due
    → IsFirstDay (some_weighs_anew (visit_dates (seen ++ behind))) day due
due_of_front day due seen behind keep first =
    first_alike (some_weighs_anew (visit_dates seen)) (some_weighs_anew (visit_dates (seen ++ behind))) day due
    (λ later after.
    sym (ap (λ (ds : List Micros). some_weighs_anew ds later) (map-append (λ (v : Visit). v.date) seen behind)
    ∙ list_any-append (weighs_anew later) (visit_dates seen) (visit_dates behind)
    ∙ ap (λ b. some_weighs_anew (visit_dates seen) later || b) (none_anew day behind keep later after)
    ∙ or-false (some_weighs_anew (visit_dates seen) later))) first

no_later : (date other id than : ℕ) → ltb other date || (eqb other date && ltb than id) ≡ true → other ≤ date
no_later date other id than later = grind (arith, nat_tests)

-- those behind a visit are no later
pub behind_in_order : (seen : List Visit) (v : Visit) (behind : List Visit) → InOrder (seen ++ v ∷ behind)
    → AllByRecursion (λ (w : Visit). w.date.0 ≤ v.date.0) behind
behind_in_order [] v behind ordered =
    weaker (λ (w : Visit). is_later v w ≡ true) (λ (w : Visit). w.date.0 ≤ v.date.0) behind
    (λ w later. no_later v.date.0 w.date.0 v.id.0 w.id.0 later) ordered.0
behind_in_order (u ∷ seen) v behind ordered = behind_in_order seen v behind ordered.1

pub visits_in_order : (kept : Kept) (page : PageId) → IsWellKept kept → InOrder (page_visits kept page)
visits_in_order kept page h =
    latest_in_order (visits_of (store_of kept) page)
    (Differ-filter (λ (v : Visit). v.page.0 == page.0) kept.visits
    (Differ-ascending kept.visits
    (AllPairs-from_increasing (map (λ (v : Visit). v.id.0) kept.visits) h.visit_ids.ascending)))

-- ---- where the walk ends

-- those behind are none, are not of the sample or keep their weights
dates_at_end : (kept : Kept) (page : PageId) (dates : Dates) (count left : ℕ) (seen behind : List Visit)
    → page_visits kept page ≡ seen ++ behind → AreDatesOf kept.day dates count seen → count + left ≡ 10
    → AllKeep kept.day (take left behind) → first_date seen ≡ first_date (seen ++ behind)
    → AreDates kept page dates
dates_at_end kept page dates count left seen behind whole are ten keep first =
    let sample : sample_of (store_of kept) page ≡ seen ++ take left behind =
    ap (take 10) whole
    ∙ ap (λ (n : ℕ). take n (seen ++ behind)) (sym (ap (λ (n : ℕ). n + left) are.many ∙ ten))
    ∙ take-append-add seen behind left in
    record {
      last = are.last ∙ first ∙ ap first_date (sym whole);
      due =
          subst (λ (vs : List Visit). IsFirstDay (some_weighs_anew (visit_dates vs)) kept.day dates.due) (sym sample)
          (due_of_front kept.day dates.due seen (take left behind) keep are.due);
    }

keep_taken : (day : Day) (left : ℕ) (behind : List Visit) → AllKeep day behind → AllKeep day (take left behind)
keep_taken day left behind keep =
    front (λ (v : Visit). KeepsWeight day v.date) (take left behind) (drop left behind)
    (subst (AllKeep day) (sym (take-append-drop left behind)) keep)

first_in : (seen behind : List Visit) → 0 < length seen → first_date seen ≡ first_date (seen ++ behind)
first_in [] behind some = absurd (omega arith)
first_in (v ∷ seen) behind some = refl

-- all were dated
pub dated_all : (kept : Kept) (page : PageId) (count : ℕ) (dates : Dates) (next : Option VisitId)
    → Walk visit_names (page_visits kept page) (AreDatesOf kept.day dates count) next → count ≤ 10
    → ((id : VisitId) → next ≢ Some id) → AreDates kept page dates
dated_all kept page count dates next w few none =
    let visits : List Visit = page_visits kept page in
    dates_at_end kept page dates count (10 - count) visits [] (sym (append-nil visits))
    (ends visit_names visits (AreDatesOf kept.day dates count) next w none) (omega arith)
    (keep_taken kept.day (10 - count) [] tt) (ap first_date (sym (append-nil visits)))

-- or ten
pub dated_ten : (kept : Kept) (page : PageId) (count : ℕ) (dates : Dates) (next : Option VisitId)
    → Walk visit_names (page_visits kept page) (AreDatesOf kept.day dates count) next → count ≡ 10
    → AreDates kept page dates
dated_ten kept page count dates next w ten =
    dates_at_end kept page dates count 0 w.front w.rest w.whole w.so_far (omega arith) tt
    (first_in w.front w.rest (omega (arith, w.so_far.many)))

-- or all but those that are as old as the last one
pub dated_young : (kept : Kept) (page : PageId) (id : VisitId) (dates more : Dates) (count : ℕ) (today : Day)
    (row : VisitRow) → IsWellKept kept
    → (w : StandsAt visit_names (page_visits kept page) (AreDatesOf kept.day dates count) id) → today ≡ kept.day
    → row ≡ row_of w.element → count < 10
    → AreDatesOf kept.day more (count + 1) (w.front ++ w.element ∷ []) → KeepsWeight today row.date
    → AreDates kept page more
dated_young kept page id dates more count today row h w day rows few are keeps =
    let seen : List Visit = w.front ++ w.element ∷ [] in
    let old : KeepsWeight kept.day w.element.date =
    subst (λ (d : Micros). KeepsWeight kept.day d) (ap (λ (r : VisitRow). r.date) rows)
    (subst (λ (d : Day). KeepsWeight d row.date) day keeps) in
    dates_at_end kept page more (count + 1) (9 - count) seen w.rest
    (w.whole ∙ sym (append_assoc w.front (w.element ∷ []) w.rest)) are (omega arith)
    (keep_taken kept.day (9 - count) w.rest
    (weaker (λ (v : Visit). v.date.0 ≤ w.element.date.0) (λ (v : Visit). KeepsWeight kept.day v.date) w.rest
    (λ v older. keeps_older w.element.date v.date kept.day older old)
    (behind_in_order w.front w.element w.rest (subst InOrder w.whole (visits_in_order kept page h)))))
    (first_in seen w.rest (omega (arith, are.many)))
