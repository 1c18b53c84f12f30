-- What holds of the rows once a visit went, and the pages that it bears on joined the others.
use Rattle.std.proofs.Common.{◌≡◌, ◌∙◌, ◌+◌, ◌≤◌, ◌==◌, ◌&&◌, ◌||◌, ◌++◌, ℕ, All, Bool, true, false, IsTrue, List}
use Rattle.std.proofs.Common.{[], ◌∷◌}
use Rattle.std.proofs.Common.{Option, Some, None, ap, arith, eq-eqb, eqb-true, get_or, if◌then◌else◌, map, refl}
use Rattle.std.proofs.Common.{option_to_list, subst, sym}
use Rattle.std.specs.List.{AllByRecursion, list_any}
use Rattle.std.specs.Option.{option_and_then, option_map}
use Rattle.std.proofs.lemmas.Bool.{false≢true, or_parts}
use Rattle.std.proofs.lemmas.List.Elements.{All-append, All-filter, All-from_recursion, All-map, All-weaker}
use Rattle.std.proofs.lemmas.List.Elements.{recursion_from_All}
use Rattle.std.proofs.lemmas.List.Folds.{list_any-append}
use Rattle.std.proofs.lemmas.List.Sorted.{All-permutation, IsPermutation-sym, list_any-IsPermutation}
use Rattle.pl_base.specs.declared.id.PageId.{PageId}
use Rattle.pl_base.specs.declared.id.VisitId.{VisitId}
use Rattle.pl_base.specs.declared.row.Mark.{Mark}
use Rattle.pl_base.specs.declared.row.VisitRow.{VisitRow}
use Rattle.pl_base.specs.declared.transition.Transition.TheVariants.{Typed}
use Rattle.pl_base.specs.Good.{HasGoodItems}
use Rattle.pl_base.specs.Marks.{is_counted, is_referenced, visit_count}
use Rattle.pl_base.specs.Redirects.{is_redirect, is_source, redirects_from}
use Rattle.pl_base.specs.Removal.{is_standing, visits_left}
use Rattle.pl_base.specs.Rows.{HaveSums, IsWellKept, Kept, KeptOrigin, KeptPage, has_page, mark_of, marked, page_at}
use Rattle.pl_base.specs.Rows.{row_of, store_of, visit_at, with_mark, with_origins, without_visit}
use Rattle.pl_base.specs.Store.{Page, Store, Visit}
use Rattle.pl_base.specs.Totals.{most_share, share}
use Rattle.pl_base.proofs.IdsLaws.{same_page}
use Rattle.pl_base.proofs.ListLaws.{list_any-alike, list_any-map, weaker}
use Rattle.pl_base.proofs.LookUps.{found_holds, none_pass, where_passed}
use Rattle.pl_base.proofs.TargetsRun.{differ_all}
use Rattle.pl_marks.specs.Alike.{AreOthersAlike}
use Rattle.pl_marks.specs.Refreshed.{HaveCounts, IsRightPage, source_page, unvisited_mark}
use Rattle.pl_history.specs.Borne.{WithRedirectPages}
use Rattle.pl_history.specs.Settled.{AreOthersSettled}
use Rattle.pl_history.specs.Sound.{IsTypedRight}
use Rattle.pl_history.proofs.GoodRows.{items_still}
use Rattle.pl_history.proofs.KeptMark.{IsMarkAt, count_at, mark_at, typed_at}
use Rattle.pl_history.proofs.OthersAlike.{alike_more, alike_on}
use Rattle.pl_history.proofs.PageOrder.{is_one}
use Rattle.pl_history.proofs.RightAfter.{each_marked, other_way}
use Rattle.pl_history.proofs.RightRemoved.{IsApart, computed_left, count_apart, visited_left}
use Rattle.pl_history.proofs.ViewsLeft.{view_left}
use Rattle.pl_history.proofs.VisitRows.{store_same}
use Rattle.pl_history.proofs.VisitsLeft.{all_left, count_one_fewer}

-- ---- lists

-- ---- the visit

-- the visit of a row that is told
record IsGone (old : Kept) (id : VisitId) (row : VisitRow) : Type 0 where
  pub visit : Visit
  pub at : visit_at old id ≡ Some visit
  pub same : row ≡ row_of visit

gone_at : (old : Kept) (id : VisitId) (row : VisitRow) → Some row ≡ option_map row_of (visit_at old id)
    → IsGone old id row
gone_at old id row told = choose (visit_at old id) refl told
  where
    choose : (o : Option Visit) → visit_at old id ≡ o → Some row ≡ option_map row_of o → IsGone old id row
    choose None at some = absurd (cc)
    choose (Some v) at some = record { visit = v; at = at; same = cc }

-- a page is there whatever its mark
pub has_marked : (kept : Kept) (page : PageId) (mark : Mark) (id : PageId)
    → has_page (with_mark page mark kept) id ≡ has_page kept id
has_marked kept page mark id =
    list_any-map (λ (p : KeptPage). p.page.id.0 == id.0)
    (λ (p : KeptPage). if p.page.id.0 == page.0 then marked mark p else p) kept.pages
    ∙ list_any-alike (λ (p : KeptPage). (if p.page.id.0 == page.0 then marked mark p else p).page.id.0 == id.0)
    (λ (p : KeptPage). p.page.id.0 == id.0) kept.pages (λ p. choose (p.page.id.0 == page.0) p)
  where
    choose : (b : Bool) (p : KeptPage) → ((if b then marked mark p else p).page.id.0 == id.0) ≡ (p.page.id.0 == id.0)
    choose true p = refl
    choose false p = refl

-- the page of the visit that a redirect came from is there
source_there : (old : Kept) (redirect : Bool) (source : Option VisitId)
    → AllByRecursion (λ (v : Visit). IsTrue (has_page old v.page)) old.visits
    → AllByRecursion (λ (id : PageId). IsTrue (has_page old id)) (option_to_list
    (if redirect then option_map (λ (v : Visit). v.page) (option_and_then (visit_at old) source) else None))
source_there old false source there = tt
source_there old true None there = tt
source_there old true (Some id) there = choose (visit_at old id) refl
  where
    choose : (o : Option Visit) → visit_at old id ≡ o
        → AllByRecursion (λ (i : PageId). IsTrue (has_page old i))
        (option_to_list (option_map (λ (v : Visit). v.page) o))
    choose None at = tt
    choose (Some v) at = (
      found_holds (λ (w : Visit). IsTrue (has_page old w.page)) (λ (w : Visit). w.id.0 == id.0) old.visits v there at,
      tt,
    )

-- ---- the rows

module _ (old : Kept) (id : VisitId) (gone : Visit) (mark : Mark) (h : IsWellKept old)
    (at : visit_at old id ≡ Some gone) (marks : Some mark ≡ option_map mark_of (page_at old gone.page))
    (counts : HaveCounts old) where
  own_count : (counted : ℕ) → counted ≡ (if is_counted gone.transition then 1 else 0)
      → mark.count ≡ visit_count (store_of (without_visit id old)) gone.page + counted
  own_count counted is =
      let q : Visit → Bool = λ (v : Visit). (v.page.0 == gone.page.0) && is_counted v.transition in
      count_at old gone.page mark counts (mark_at old gone.page mark marks)
      ∙ count_one_fewer id q q old.visits gone (differ_all old h) at (λ v. refl)
      ∙ ap (λ (b : Bool). visit_count (store_of (without_visit id old)) gone.page
      + (if b && is_counted gone.transition then 1 else 0)) (eq-eqb gone.page.0 gone.page.0 refl)
      ∙ ap (λ (n : ℕ). visit_count (store_of (without_visit id old)) gone.page + n) (sym is)

  enough : (if is_counted gone.transition then 1 else 0) ≤ mark.count
  enough =
      let counted : ℕ = if is_counted gone.transition then 1 else 0 in
      omega (arith, own_count counted refl)

  count_told : (unvisited_mark gone.transition mark).count ≡ visit_count (store_of (without_visit id old)) gone.page
  count_told =
      let counted : ℕ = if is_counted gone.transition then 1 else 0 in
      omega (arith, own_count counted refl)

  same_store : store_of (with_mark gone.page (unvisited_mark gone.transition mark) (without_visit id old))
      ≡ store_of (without_visit id old)
  same_store =
      store_same (without_visit id old) gone.page (unvisited_mark gone.transition mark)
      (All-map (λ (p : Page). (p.id.0 == gone.page.0) ≡ true → mark.typed ≡ p.typed) (λ (p : KeptPage). p.page)
      old.pages
      (typed_at old gone.page mark h (mark_at old gone.page mark marks)))

  module _ (before mid after : List PageId)
      (own : mid ≡ before ++ gone.page ∷ option_to_list (source_page old (row_of gone)))
      (w : WithRedirectPages old id mid after) where
    -- what is known of a page that did not join the others
    others_apart : (page : PageId) → is_one page after ≡ false
        → IsApart old id gone page × (is_one page before ≡ false)
    others_apart page other =
        let sources : List PageId = option_to_list (source_page old (row_of gone)) in
        let pages : List PageId = map (λ (v : Visit). v.page) w.redirects in
        let test : PageId → Bool = λ (i : PageId). page.0 == i.0 in
        let all : (is_one page mid ≡ false) × (is_one page pages ≡ false) =
        or_parts (is_one page mid) (is_one page pages)
        (sym (list_any-append test mid pages) ∙ ap (is_one page) (sym w.is) ∙ other) in
        let first : (is_one page before ≡ false) × (((page.0 == gone.page.0) || is_one page sources) ≡ false) =
        or_parts (is_one page before) ((page.0 == gone.page.0) || is_one page sources)
        (sym (list_any-append test before (gone.page ∷ sources)) ∙ ap (is_one page) (sym own) ∙ all.0) in
        let two : ((page.0 == gone.page.0) ≡ false) × (is_one page sources ≡ false) =
        or_parts (page.0 == gone.page.0) (is_one page sources) first.1 in
        let none : list_any (λ (v : Visit). page.0 == v.page.0) (redirects_from (store_of old) id) ≡ false =
        sym (list_any-IsPermutation (λ (v : Visit). page.0 == v.page.0) w.redirects (redirects_from (store_of old) id)
        w.all)
        ∙ sym (list_any-map test (λ (v : Visit). v.page) w.redirects) ∙ all.1 in
        let from : Visit → Bool = λ (v : Visit). is_redirect v.transition && is_source id v.source in (
          record {
            own = other_way page gone.page two.0;
            source = two.1;
            redirects =
                weaker (λ (v : Visit). from v ≡ true → (page.0 == v.page.0) ≡ false)
                (λ (v : Visit). from v ≡ true → (v.page.0 == page.0) ≡ false) old.visits
                (λ v holds passes. other_way page v.page (holds passes))
                (where_passed (λ (v : Visit). (page.0 == v.page.0) ≡ false) from old.visits
                (none_pass (λ (v : Visit). page.0 == v.page.0) (redirects_from (store_of old) id) none));
          },
          first.0,
        )

    not_own : (page : PageId) → (page.0 == gone.page.0) ≡ true → is_one page after ≡ false → ⊥
    not_own page same other =
        false≢true (sym (others_apart page other).0.own
        ∙ eq-eqb gone.page.0 page.0 (sym (eqb-true page.0 gone.page.0 same)))

    all_there : All (λ (i : PageId). IsTrue (has_page old i)) before
        → All (λ (i : PageId). IsTrue (has_page old i)) after
    all_there there =
        let There : PageId → Type 0 = λ (i : PageId). IsTrue (has_page old i) in
        let visits : AllByRecursion (λ (v : Visit). There v.page) old.visits =
        recursion_from_All (λ (v : Visit). There v.page) old.visits (λ k d within. (h.visits k d within).1) in
        subst (All There) (sym w.is)
        (All-append There mid (map (λ (v : Visit). v.page) w.redirects)
        (subst (All There) (sym own)
        (All-append There before (gone.page ∷ option_to_list (source_page old (row_of gone))) there
        (All-from_recursion There (gone.page ∷ option_to_list (source_page old (row_of gone))) (
          found_holds (λ (v : Visit). There v.page) (λ (v : Visit). v.id.0 == id.0) old.visits gone visits at,
          source_there old (is_redirect gone.transition) gone.source visits,
        ))))
        (All-map There (λ (v : Visit). v.page) w.redirects
        (All-permutation (λ (v : Visit). There v.page) (redirects_from (store_of old) id) w.redirects
        (IsPermutation-sym w.redirects (redirects_from (store_of old) id) w.all)
        (All-filter (λ (v : Visit). is_redirect v.transition && is_source id v.source)
        (λ (v : Visit). There v.page) old.visits (λ k d within. (h.visits k d within).1)))))

    settled : (origins : List KeptOrigin) → HaveSums (with_origins origins
        (with_mark gone.page (unvisited_mark gone.transition mark) (without_visit id old)))
        → AreOthersSettled before old
        → AreOthersSettled after (with_origins origins
        (with_mark gone.page (unvisited_mark gone.transition mark) (without_visit id old)))
    settled origins sums s =
        let left : Kept = without_visit id old in
        let told : Mark = unvisited_mark gone.transition mark in
        let now : Kept = with_origins origins (with_mark gone.page told left) in
        record {
          there =
              All-weaker (λ (i : PageId). IsTrue (has_page old i)) (λ (i : PageId). IsTrue (has_page now i))
              (λ i there. has_marked left gone.page told i ∙ there) after (all_there s.there);
          items =
              subst HasGoodItems (sym same_store)
              (items_still (store_of old) (store_of left) refl (λ i there. there) s.items);
          counts =
              each_marked (λ (p : KeptPage). p.count ≡ visit_count (store_of left) p.page.id) gone.page told old.pages
              (λ k d within same.
              count_told
              ∙ ap (visit_count (store_of left)) (sym (same_page (get_or old.pages k d).page.id gone.page same)))
              (λ k d within other.
              let page : PageId = (get_or old.pages k d).page.id in
              s.counts k d within ∙ sym (count_apart old id gone h at page (other_way page gone.page other)));
          right =
              each_marked (λ (p : KeptPage). is_one p.page.id after ≡ false → IsRightPage (store_of left) p) gone.page
              told old.pages
              (λ k d within same other. absurd (not_own (get_or old.pages k d).page.id same other))
              (λ k d within _ other.
              let p : KeptPage = get_or old.pages k d in
              computed_left old id gone h at p.page p.frecency p.count p.hidden (others_apart p.page.id other).0
              (s.right k d within (others_apart p.page.id other).1));
          by_row =
              each_marked (λ (p : KeptPage). is_one p.page.id after ≡ false
              → IsTrue (is_standing (store_of left) p.page.id)) gone.page told old.pages
              (λ k d within same other. absurd (not_own (get_or old.pages k d).page.id same other))
              (λ k d within _ other.
              let page : PageId = (get_or old.pages k d).page.id in
              ap (λ (b : Bool). b || is_referenced (store_of old) page)
              (visited_left old id gone h at page (others_apart page other).0.own)
              ∙ s.by_row k d within (others_apart page other).1);
          typed =
              each_marked (IsTypedRight left) gone.page told old.pages
              (λ k d within same j e inside of by.
              typed_at old gone.page mark h (mark_at old gone.page mark marks) k d within same
              ∙ typed_left (get_or old.pages k d) (s.typed k d within) j e inside of by)
              (λ k d within _. typed_left (get_or old.pages k d) (s.typed k d within));
          sums = sums;
        }
      where
        typed_left : (p : KeptPage) → IsTypedRight old p → IsTypedRight (without_visit id old) p
        typed_left p typed =
            let Fine : Visit → Type 0 =
            λ (v : Visit). v.page ≡ p.page.id → v.transition ≡ Typed → IsTrue p.page.typed in
            All-from_recursion Fine (visits_left (id ∷ []) old.visits)
            (all_left Fine Fine (id ∷ []) old.visits (λ v fine. fine) (recursion_from_All Fine old.visits typed))

-- ---- by the row that is told

-- the rows with the visit gone and its page marked
abbrev pub unvisited : VisitId → VisitRow → Mark → Kept → Kept
unvisited id row mark old = with_mark row.page (unvisited_mark row.transition mark) (without_visit id old)

pub count_suffices : (old : Kept) (id : VisitId) (row : VisitRow) (mark : Mark) → IsWellKept old → HaveCounts old
    → Some row ≡ option_map row_of (visit_at old id) → Some mark ≡ option_map mark_of (page_at old row.page)
    → (if is_counted row.transition then 1 else 0) ≤ mark.count
count_suffices old id row mark h counts told marks =
    let g : IsGone old id row = gone_at old id row told in
    subst (λ (r : VisitRow). (if is_counted r.transition then 1 else 0) ≤ mark.count) (sym g.same)
    (enough old id g.visit mark h g.at
    (subst (λ (r : VisitRow). Some mark ≡ option_map mark_of (page_at old r.page)) g.same marks) counts)

-- the share of the page is small
pub small_share : (old : Kept) (page : PageId) (mark : Mark) → HaveSums old
    → Some mark ≡ option_map mark_of (page_at old page) → share mark.frecency ≤ most_share
small_share old page mark sums marks =
    let Small : KeptPage → Type 0 = λ (p : KeptPage). share p.frecency ≤ most_share in
    let m : IsMarkAt old page mark = mark_at old page mark marks in
    subst (λ (n : Mark). share n.frecency ≤ most_share) (sym m.is)
    (found_holds Small (λ (p : KeptPage). p.page.id.0 == page.0) old.pages m.page
    (recursion_from_All Small old.pages sums.small) m.at)

pub unvisited_store : (old : Kept) (id : VisitId) (row : VisitRow) (mark : Mark) → IsWellKept old → HaveCounts old
    → Some row ≡ option_map row_of (visit_at old id) → Some mark ≡ option_map mark_of (page_at old row.page)
    → store_of (unvisited id row mark old) ≡ store_of (without_visit id old)
unvisited_store old id row mark h counts told marks =
    let g : IsGone old id row = gone_at old id row told in
    ap (λ (r : VisitRow). store_of (unvisited id r mark old)) g.same
    ∙ same_store old id g.visit mark h g.at
    (subst (λ (r : VisitRow). Some mark ≡ option_map mark_of (page_at old r.page)) g.same marks) counts

pub unvisited_settled : (old new : Kept) (id : VisitId) (row : VisitRow) (mark : Mark) (before mid after : List PageId)
    → IsWellKept old → Some row ≡ option_map row_of (visit_at old id)
    → Some mark ≡ option_map mark_of (page_at old row.page)
    → mid ≡ before ++ row.page ∷ option_to_list (source_page old row) → WithRedirectPages old id mid after
    → new ≡ with_origins new.origins (unvisited id row mark old) → HaveSums new → AreOthersSettled before old
    → AreOthersSettled after new
unvisited_settled old new id row mark before mid after h told marks own w is sums s =
    let g : IsGone old id row = gone_at old id row told in
    let all : new ≡ with_origins new.origins (unvisited id (row_of g.visit) mark old) =
    is ∙ ap (λ (r : VisitRow). with_origins new.origins (unvisited id r mark old)) g.same in
    subst (AreOthersSettled after) (sym all)
    (settled old id g.visit mark h g.at
    (subst (λ (r : VisitRow). Some mark ≡ option_map mark_of (page_at old r.page)) g.same marks) s.counts before mid
    after (subst (λ (r : VisitRow). mid ≡ before ++ r.page ∷ option_to_list (source_page old r)) g.same own) w
    new.origins (subst HaveSums all sums) s)

-- the other pages are as they were before
pub unvisited_alike : (old new : Kept) (id : VisitId) (row : VisitRow) (mark : Mark) (before mid after : List PageId)
    → IsWellKept old → HaveCounts old → Some row ≡ option_map row_of (visit_at old id)
    → Some mark ≡ option_map mark_of (page_at old row.page)
    → mid ≡ before ++ row.page ∷ option_to_list (source_page old row) → WithRedirectPages old id mid after
    → store_of new ≡ store_of (without_visit id old) → (first : Store)
    → AreOthersAlike before first (store_of old) → AreOthersAlike after first (store_of new)
unvisited_alike old new id row mark before mid after h counts told marks own w is first a =
    let g : IsGone old id row = gone_at old id row told in
    let apart : (page : PageId) → is_one page after ≡ false
    → IsApart old id g.visit page × (is_one page before ≡ false) =
    others_apart old id g.visit mark h g.at
    (subst (λ (r : VisitRow). Some mark ≡ option_map mark_of (page_at old r.page)) g.same marks) counts before mid
    after (subst (λ (r : VisitRow). mid ≡ before ++ r.page ∷ option_to_list (source_page old r)) g.same own) w in
    subst (AreOthersAlike after first) (sym is)
    (alike_on after first (store_of old) (store_of (without_visit id old))
    (alike_more before after first (store_of old) (λ page other. (apart page other).1) a)
    (record {
      stay = λ p there other. there;
      stood = λ p there other. there;
      views = λ p there other view of. view_left old id g.visit h g.at p view (apart p.id other).0 of;
    }))
