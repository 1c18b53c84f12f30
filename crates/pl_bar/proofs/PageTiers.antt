-- In which tier a page is, by what is found in its texts and what the marks keep.
use Rattle.std.proofs.Common.{◌≡◌, ◌≢◌, ◌∙◌, ◌==◌, ◌&&◌, ◌||◌, ℕ, Bool, true, false, List, [], ◌∷◌, Option, Some, None}
use Rattle.std.proofs.Common.{Ok, Err, ap, ap₂, filter, find, if◌then◌else◌, length, nat_lt, not, refl, subst, sym}
use Rattle.std.specs.List.{AllByRecursion, list_any}
use Rattle.std.specs.Option.{IsSome, option_map}
use Rattle.std.proofs.lemmas.Bool.{true≢false}
use Rattle.url.specs.Parser.{Parsed}
use Rattle.url.specs.Parts as url
use Rattle.pl_base.specs.declared.id.PageId.{PageId}
use Rattle.pl_base.specs.declared.view.View.{View}
use Rattle.pl_base.specs.Address.{origin_of_record, record_of}
use Rattle.pl_base.specs.Fold.{folded}
use Rattle.pl_base.specs.Marks.{visit_count}
use Rattle.pl_base.specs.Rows.{IsWellKept, Kept, KeptPage, has_page, store_of}
use Rattle.pl_base.specs.Store.{Page, Store}
use Rattle.pl_base.specs.Tags.{is_bookmarked, is_tagged}
use Rattle.pl_base.specs.View.{AreViews, IsViewOf}
use Rattle.pl_base.proofs.IdsLaws.{same_page}
use Rattle.pl_base.proofs.ListLaws.{found_in, list_all-alike, list_any-map}
use Rattle.pl_base.proofs.LookUps.{Apart, found_one, found_passes, found_some}
use Rattle.pl_marks.proofs.PageRows.{ids_apart}
use Rattle.pl_follow.specs.declared.texts.Folded.{Folded}
use Rattle.pl_follow.specs.declared.texts.FoldedTexts.{FoldedTexts}
use Rattle.pl_follow.specs.Texts.{KeepsTexts, folded_of, texts_of}
use Rattle.pl_words.specs.declared.bar_text.BarText.{BarText}
use Rattle.pl_words.specs.declared.bar_text.Marks.{Marks}
use Rattle.pl_words.specs.declared.stands.Standing.{Standing}
use Rattle.pl_words.specs.declared.stands.Standing.TheVariants.{Nowhere}
use Rattle.pl_words.specs.Pieces.{found, in_address, searched}
use Rattle.pl_bar.specs.AddressBar.{all_match, candidates, in_title, is_candidate, searched_title, word_matches}
use Rattle.pl_bar.specs.Cost.{is_counted}
use Rattle.pl_bar.specs.Followers.{HaveTexts}
use Rattle.pl_bar.specs.Offers.{TellsTier, has_counted, has_id, in_first, in_second, is_boundary, is_inside}
use Rattle.pl_bar.specs.Standings.{all_in, in_titles, standing_by, word_in}
use Rattle.pl_bar.proofs.WordStandings.{by}

-- ---- the page with an id, among those that pass a test

pub both_filters : {A : Type 0} (p q : A → Bool) (xs : List A) → filter p (filter q xs) ≡ filter (λ x. q x && p x) xs
both_filters p q [] = refl
both_filters p q (x ∷ xs) = choose (q x) (both_filters p q xs)
  where
    choose : (b : Bool) → filter p (filter q xs) ≡ filter (λ y. q y && p y) xs
        → filter p (if b then x ∷ filter q xs else filter q xs)
        ≡ (if b && p x then x ∷ filter (λ y. q y && p y) xs else filter (λ y. q y && p y) xs)
    choose true rest = ap (λ ys. if p x then x ∷ ys else ys) rest
    choose false rest = rest

any_passing : {A : Type 0} (is test : A → Bool) (x : A) (xs : List A)
    → AllByRecursion (λ y. is y ≡ true → y ≡ x) xs → list_any is (filter test xs) ≡ (list_any is xs && test x)
any_passing is test x [] only = refl
any_passing is test x (y ∷ ys) only =
    choose (is y) (test y) refl refl (any_passing is test x ys only.1)
  where
    at_last : (b c : Bool) → c ≡ true → true ≡ ((true || b) && c)
    at_last b true passes = refl
    at_last b false passes = absurd (true≢false (sym passes))

    never : (a b c : Bool) → c ≡ false → a ≡ (b && c) → a ≡ ((true || b) && c)
    never a b true fails so = absurd (true≢false fails)
    never a true false fails so = so
    never a false false fails so = so

    choose : (i t : Bool) → is y ≡ i → test y ≡ t → list_any is (filter test ys) ≡ (list_any is ys && test x)
        → list_any is (if t then y ∷ filter test ys else filter test ys) ≡ ((i || list_any is ys) && test x)
    choose true true here passes rest =
        ap (λ b. b || list_any is (filter test ys)) here
        ∙ at_last (list_any is ys) (test x) (ap test (sym (only.0 here)) ∙ passes)
    choose true false here fails rest =
        never (list_any is (filter test ys)) (list_any is ys) (test x) (ap test (sym (only.0 here)) ∙ fails) rest
    choose false true other passes rest = ap (λ b. b || list_any is (filter test ys)) other ∙ rest
    choose false false other fails rest = rest

-- the page with an id
abbrev pub page_with : PageId → List Page → Option Page
page_with id pages = find (λ (p : Page). p.id.0 == id.0) pages

pub has_filtered : (test : Page → Bool) (pages : List Page) (id : PageId) (p : Page)
    → Apart (λ (q : Page). q.id.0) pages → page_with id pages ≡ Some p → has_id (filter test pages) id ≡ test p
has_filtered test pages id p apart at =
    any_passing (λ (q : Page). q.id.0 == id.0) test p pages (found_one (λ (q : Page). q.id.0) id.0 pages p apart at)
    ∙ ap (λ b. b && test p) (found_some (λ (q : Page). q.id.0 == id.0) pages p at)

-- ---- the texts of the page

-- the view of the page with an id
record HasView (store : Store) (id : PageId) (p : Page) (views : List View) : Type 0 where
  view : View
  is : find (λ (v : View). v.id.0 == id.0) views ≡ Some view
  of : IsViewOf store p view

view_with : (store : Store) (id : PageId) (p : Page) (pages : List Page) (views : List View)
    → AreViews store pages views → page_with id pages ≡ Some p → HasView store id p views
view_with store id p [] views are at = absurd (cc)
view_with store id p (q ∷ qs) [] are at = absurd are
view_with store id p (q ∷ qs) (v ∷ vs) are at =
    choose (q.id.0 == id.0) refl at (view_with store id p qs vs are.1)
  where
    same : (b : Bool) → (q.id.0 == id.0) ≡ b → (v.id.0 == id.0) ≡ b
    same b is = ap (λ (i : PageId). i.0 == id.0) are.0.id ∙ is

    choose : (b : Bool) → (q.id.0 == id.0) ≡ b → (if b then Some q else page_with id qs) ≡ Some p
        → (page_with id qs ≡ Some p → HasView store id p vs) → HasView store id p (v ∷ vs)
    choose true is here rest =
        let one : q ≡ p = cc in
        record {
          view = v;
          is = ap (λ b. if b then Some v else find (λ (w : View). w.id.0 == id.0) vs) (same true is);
          of = subst (λ r. IsViewOf store r v) one are.0;
        }
    choose false is later rest =
        let w = rest later in
        record {
          view = w.view;
          is = ap (λ b. if b then Some v else find (λ (w : View). w.id.0 == id.0) vs) (same false is) ∙ w.is;
          of = w.of;
        }

-- the URL as it is searched
address_found : (boundary : Bool) (word text start host : List ℕ) (r : Parsed url.Parts) → record_of text ≡ r
    → origin_of_record r ≡ Some (start, host)
    → found boundary word (searched text start) ≡ in_address boundary word text
address_found boundary word text start host (Ok parts) is origin =
    let both : Some (start, host) ≡ origin_of_record (Ok parts) = sym origin in
    rw is (ap (λ (o : Option (List ℕ × List ℕ)). found boundary word (searched text (first o))) both)
  where
    first : Option (List ℕ × List ℕ) → List ℕ
    first None = []
    first (Some o) = o.0
address_found boundary word text start host (Err e) is origin = absurd (cc)

module _ (store : Store) (p : Page) (view : View) (of : IsViewOf store p view) where
  titles_are : (boundary : Bool) (word : List ℕ)
      → in_titles (folded_of view) boundary word ≡ in_title store boundary p word
  titles_are boundary word =
      ap₂ (λ (marked own : List ℕ). found boundary word (folded (if length marked == 0 then own else marked))
      || found boundary word (folded view.tags)) of.mark_title of.title
      ∙ ap (λ (tags : List ℕ).
      found boundary word (folded (searched_title store p)) || found boundary word (folded tags))
      of.tags

  address_is : (boundary : Bool) (word : List ℕ)
      → found boundary word (folded_of view).address ≡ in_address boundary word p.url
  address_is boundary word =
      ap (λ (text : List ℕ). found boundary word (searched text view.prefix)) of.url
      ∙ address_found boundary word p.url view.prefix view.host (record_of p.url) refl of.origin

  word_is : (marks : Marks) (boundary : Bool) (word : List ℕ)
      → word_in (folded_of view) marks boundary word ≡ word_matches store marks boundary p word
  word_is marks boundary word =
      ap₂ (λ (titles address : Bool). if marks.title && marks.address then titles && address else
      if marks.title then titles else if marks.address then address else titles || address)
      (titles_are boundary word) (address_is boundary word)

  pub words_are : (marks : Marks) (words : List (List ℕ)) (boundary : Bool)
      → all_in (folded_of view) marks words boundary ≡ all_match store marks words boundary p
  words_are marks words boundary =
      list_all-alike (word_in (folded_of view) marks boundary) (word_matches store marks boundary p) words
      (word_is marks boundary)

-- ---- the tier

-- a page that is a candidate, or in which the words do not stand
told_by : (on_boundary anywhere candidate : Bool) → (by on_boundary anywhere ≢ Nowhere → candidate ≡ true)
    → (is_boundary (by on_boundary anywhere) ≡ (candidate && on_boundary))
    × (is_inside (by on_boundary anywhere) ≡ (candidate && (anywhere && not on_boundary)))
told_by true true true is = (refl, refl)
told_by true false true is = (refl, refl)
told_by true a false is = absurd (true≢false (sym (is (λ same. cc))))
told_by false true true is = (refl, refl)
told_by false true false is = absurd (true≢false (sym (is (λ same. cc))))
told_by false false true is = (refl, refl)
told_by false false false is = (refl, refl)

-- what is known of a page that is gone through
pub record IsWalked (kept : Kept) (asked : BarText) (id : PageId) (standing : Standing) : Type 0 where
  pub page : Page
  pub is : page_with id (store_of kept).pages ≡ Some page
  pub same : page.id ≡ id
  pub counted : is_counted (store_of kept) page ≡ true
  pub stands : standing ≡ standing_by (λ boundary. all_match (store_of kept) asked.marks asked.words boundary page)

-- the marks keep the page
abbrev pub are_met : Store → Marks → PageId → Bool
are_met store marks id =
    (not marks.history || nat_lt 0 (visit_count store id))
    && ((not marks.bookmark || is_bookmarked store id) && (not marks.tag || is_tagged store id))

module _ (kept : Kept) (well : IsWellKept kept) (asked : BarText) (id : PageId) where
  pub has_row : has_counted (store_of kept) id ≡ true → has_page kept id ≡ true
  has_row counted =
      sym (list_any-map (λ (p : Page). p.id.0 == id.0) (λ (p : KeptPage). p.page) kept.pages)
      ∙ some_kept (λ (p : Page). p.id.0 == id.0) (is_counted (store_of kept)) (store_of kept).pages counted
    where
      some_kept : (is test : Page → Bool) (pages : List Page) → list_any is (filter test pages) ≡ true
          → list_any is pages ≡ true
      some_kept is test [] some = some
      some_kept is test (p ∷ ps) some = choose (is p) (test p) refl some (some_kept is test ps)
        where
          choose : (i t : Bool) → is p ≡ i → list_any is (if t then p ∷ filter test ps else filter test ps) ≡ true
              → (list_any is (filter test ps) ≡ true → list_any is ps ≡ true) → (i || list_any is ps) ≡ true
          choose true t here some rest = refl
          choose false true other some rest =
              rest (ap (λ b. b || list_any is (filter test ps)) (sym other) ∙ some)
          choose false false other some rest = rest some

  pub walked : (standing : Standing) (texts : FoldedTexts) → HaveTexts (store_of kept) texts
      → has_counted (store_of kept) id ≡ true
      → ((views : List View) (folded : Folded) → KeepsTexts texts views → texts_of id views ≡ Some folded
      → standing ≡ standing_by (all_in folded asked.marks asked.words))
      → IsWalked kept asked id standing
  walked standing texts have counted told = choose (page_with id pages) refl
    where
      pages : List Page
      pages = (store_of kept).pages

      some : (o : Option Page) → page_with id pages ≡ o → IsSome o
      some o at = subst IsSome at (found_in (λ (p : Page). p.id.0 == id.0) pages there)
        where
          there : list_any (λ (p : Page). p.id.0 == id.0) pages ≡ true
          there = list_any-map (λ (p : Page). p.id.0 == id.0) (λ (p : KeptPage). p.page) kept.pages ∙ has_row counted

      choose : (o : Option Page) → page_with id pages ≡ o → IsWalked kept asked id standing
      choose None at =
          let never = some None at in
          absurd (cc)
      choose (Some p) at =
          let w : HasView (store_of kept) id p have.views =
          view_with (store_of kept) id p pages have.views have.told at in
          record {
            page = p;
            is = at;
            same = same_page p.id id (found_passes (λ (q : Page). q.id.0 == id.0) pages p at);
            counted =
                sym (has_filtered (is_counted (store_of kept)) pages id p (ids_apart kept well) at) ∙ counted;
            stands =
                told have.views (folded_of w.view) have.kept (ap (option_map folded_of) w.is)
                ∙ ap₂ by (words_are (store_of kept) p w.view w.of asked.marks asked.words true)
                (words_are (store_of kept) p w.view w.of asked.marks asked.words false);
          }

  module _ (standing : Standing) (w : IsWalked kept asked id standing) where
    abbrev candidate : Bool
    candidate = is_candidate (store_of kept) asked.marks w.page

    abbrev stands : Bool → Bool
    stands boundary = all_match (store_of kept) asked.marks asked.words boundary w.page

    candidate_is : candidate ≡ are_met (store_of kept) asked.marks id
    candidate_is =
        four (is_counted (store_of kept) w.page)
        (not asked.marks.history || nat_lt 0 (visit_count (store_of kept) w.page.id))
        (not asked.marks.bookmark || is_bookmarked (store_of kept) w.page.id)
        (not asked.marks.tag || is_tagged (store_of kept) w.page.id) w.counted
        ∙ ap (are_met (store_of kept) asked.marks) w.same
      where
        four : (a b c d : Bool) → a ≡ true → (((a && b) && c) && d) ≡ (b && (c && d))
        four true true true d is = refl
        four true true false d is = refl
        four true false c d is = refl
        four false b c d is = absurd (true≢false (sym is))

    in_tier : (test : Page → Bool) → has_id (filter test (candidates (store_of kept) asked.marks)) id
        ≡ (candidate && test w.page)
    in_tier test =
        ap (λ pages. has_id pages id)
        (both_filters test (is_candidate (store_of kept) asked.marks) (store_of kept).pages)
        ∙ has_filtered (λ p. is_candidate (store_of kept) asked.marks p && test p) (store_of kept).pages id w.page
        (ids_apart kept well) w.is

    first_is : in_first (store_of kept) asked id ≡ (candidate && stands true)
    first_is = in_tier (all_match (store_of kept) asked.marks asked.words true)

    second_is : in_second (store_of kept) asked id ≡ (candidate && (stands false && not (stands true)))
    second_is =
        in_tier (λ p. all_match (store_of kept) asked.marks asked.words false p
        && not (all_match (store_of kept) asked.marks asked.words true p))

    -- a page that the marks keep, or in which not all words are
    pub tier_told : (standing ≢ Nowhere → are_met (store_of kept) asked.marks id ≡ true)
        → TellsTier (store_of kept) asked id standing
    tier_told keeps =
        let by_it = told_by (stands true) (stands false) candidate
        (λ some. candidate_is ∙ keeps (λ none. some (sym w.stands ∙ none))) in
        record {
          first = ap is_boundary w.stands ∙ by_it.0 ∙ sym first_is;
          second = ap is_inside w.stands ∙ by_it.1 ∙ sym second_is;
        }

    -- one that they do not keep
    pub no_tier : are_met (store_of kept) asked.marks id ≡ false → TellsTier (store_of kept) asked id Nowhere
    no_tier fails =
        record {
          first = sym (first_is ∙ ap (λ c. c && stands true) (candidate_is ∙ fails));
          second = sym (second_is ∙ ap (λ c. c && (stands false && not (stands true))) (candidate_is ∙ fails));
        }
