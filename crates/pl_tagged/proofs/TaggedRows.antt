-- The pages of the entries in a tag folder give the answer to a query that asks for the tag.
use Rattle.std.proofs.Common.{◌≡◌, ◌≢◌, ◌∙◌, ◌&&◌, inl, inr, ℕ, Bool, true, false, List, [], ◌∷◌, Option, Some, ap, arith, filter}
use Rattle.std.proofs.Common.{if◌then◌else◌, map, subst, suc, sym}
use Rattle.std.specs.List.{AllByRecursion, AllPairs, Contains, list_all, slice_get}
use Rattle.std.specs.List.Sorted.{IsPermutation}
use Rattle.std.proofs.lemmas.Bool.{and_parts}
use Rattle.std.proofs.lemmas.List.Elements.{All-from_recursion, recursion_from_All}
use Rattle.std.proofs.lemmas.List.Kept.{AllPairs-cons, AllPairs-filter}
use Rattle.std.proofs.lemmas.Option.{same_Some}
use Rattle.pl_base.specs.declared.view.View.{View}
use Rattle.pl_base.specs.Good.{HasTags, IsGood}
use Rattle.pl_base.specs.Store.{Page, Store}
use Rattle.pl_base.specs.View.{AreViews, AreViewsOf}
use Rattle.pl_base.proofs.Among.{In, at_in, contains_from_in, from_filter, in_filter, in_from_contains}
use Rattle.pl_base.proofs.ListLaws.{all-filter, weaker}
use Rattle.pl_base.proofs.LookUps.{Apart}
use Rattle.pl_base.proofs.SortLaws.{none_tie}
use Rattle.pl_conditions.specs.Conditions.{has_tag_named, has_tags_asked, words_asked}
use Rattle.pl_follow.specs.Changes.{AreInOrder}
use Rattle.pl_indexed.specs.declared.found.Found.{Found}
use Rattle.pl_indexed.specs.Answer.{first_asked, row_of_view, taken}
use Rattle.pl_indexed.specs.Found.{AreFound, place_of, view_before}
use Rattle.pl_indexed.proofs.FoundOrder.{found_apart}
use Rattle.pl_indexed.proofs.KeyOrder.{places_rank, tied_ids}
use Rattle.pl_indexed.proofs.SortedParts.{same_sorted}
use Rattle.pl_indexed.proofs.TakenViews.{known_views}
use Rattle.pl_indexed.proofs.WalkOrder.{ids_differ}
use Rattle.pl_indexed.proofs.WatchableRows.{told_answer}
use Rattle.pl_known.specs.Known.{view_of}
use Rattle.pl_place.specs.declared.query.Query.{Query}
use Rattle.pl_query.specs.Decides.{are_tags_in, decides, has_word_in, holds_unfolded, is_watchable}
use Rattle.pl_query.specs.QueryAnswer.{answer, limited, told_row}
use Rattle.pl_query.proofs.ViewsDecide.{tags_told}
use Rattle.pl_tagged.specs.Entered.{tagged}
use Rattle.pl_tagged.proofs.SameMembers.{same_members}
use Rattle.pl_tagged.proofs.TagViews.{tagged_apart, tagged_known, tagged_there}

-- ---- views by their ids

-- no two views are of one page
abbrev Differ : View → View → Type 0
Differ v w = v.id.0 ≢ w.id.0

abbrev AreApart : List View → Type 0
AreApart views = Apart (λ (v : View). v.id.0) views

apart_filter : (test : View → Bool) (views : List View) → AreApart views → AreApart (filter test views)
apart_filter test [] apart = tt
apart_filter test (v ∷ vs) apart = choose (test v) (apart_filter test vs apart.1)
  where
    choose : (b : Bool) → AreApart (filter test vs) → AreApart (if b then v ∷ filter test vs else filter test vs)
    choose true rest = (all-filter (λ (w : View). w.id.0 ≢ v.id.0) test vs apart.0, rest)
    choose false rest = rest

apart_of : (views : List View) → AllPairs Differ views → AreApart views
apart_of [] pairs = tt
apart_of (v ∷ vs) pairs = (
  recursion_from_All (λ (w : View). w.id.0 ≢ v.id.0) vs
      (λ k d within same. pairs 0 (suc k) d (omega arith) (omega (arith, within)) (sym same)),
  apart_of vs (λ i j d before within. pairs (suc i) (suc j) d (omega (arith, before)) (omega (arith, within))),
)

pairs_of : (views : List View) → AreApart views → AllPairs Differ views
pairs_of [] apart = λ i j d before within. absurd (omega (arith, within))
pairs_of (v ∷ vs) apart =
    AllPairs-cons Differ v vs
    (All-from_recursion (Differ v) vs
    (weaker (λ (w : View). w.id.0 ≢ v.id.0) (Differ v) vs (λ w other same. other (sym same)) apart.0))
    (pairs_of vs apart.1)

-- ---- the tags of a view

-- the text of a view tells whether its page has the tags
abbrev TellsTags : Store → Query → View → Type 0
TellsTags store q v = are_tags_in q.tags q.not_tags v.tags ≡ has_tags_asked store q.tags q.not_tags v.id

tell_tags : (store : Store) (q : Query) → HasTags store → (pages : List Page) (views : List View)
    → AreViews store pages views → AllByRecursion (TellsTags store q) views
tell_tags store q good [] [] of = tt
tell_tags store q good [] (v ∷ vs) of = absurd of
tell_tags store q good (p ∷ ps) [] of = absurd of
tell_tags store q good (p ∷ ps) (v ∷ vs) of = (
  tags_told store p v of.0 good q.tags q.not_tags ∙ ap (has_tags_asked store q.tags q.not_tags) (sym of.0.id),
  tell_tags store q good ps vs of.1,
)

-- a page that the query takes has the tag
has_tag_asked : (store : Store) (q : Query) (name : List ℕ) (v : View) → TellsTags store q v → q.not_tags ≡ false
    → Contains q.tags name → decides q v ≡ true → has_tag_named store v.id name ≡ true
has_tag_asked store q name v tells with_it among takes =
    all_in q.tags (in_from_contains q.tags name among)
    (subst (λ (b : Bool). has_tags_asked store q.tags b v.id ≡ true) with_it
    (sym tells
    ∙ (and_parts (holds_unfolded q v) (are_tags_in q.tags q.not_tags v.tags)
    (and_parts (holds_unfolded q v && are_tags_in q.tags q.not_tags v.tags)
    (list_all (has_word_in v) (words_asked q.terms)) takes).0).1))
  where
    all_in : (tags : List (List ℕ)) → In name tags → list_all (has_tag_named store v.id) tags ≡ true
        → has_tag_named store v.id name ≡ true
    all_in [] h all = absurd h
    all_in (t ∷ tags) (inl e) all =
        ap (has_tag_named store v.id) e
        ∙ (and_parts (has_tag_named store v.id t) (list_all (has_tag_named store v.id) tags) all).0
    all_in (t ∷ tags) (inr h) all =
        all_in tags h (and_parts (has_tag_named store v.id t) (list_all (has_tag_named store v.id) tags) all).1

-- the first of the tags is one of them
pub first_among : (tags slice : List (List ℕ)) (first : Option (List ℕ)) (name : List ℕ) → slice ≡ tags
    → first ≡ slice_get slice 0 → first ≡ Some name → Contains tags name
first_among tags slice first name same is some =
    contains_from_in tags name (choose tags (sym some ∙ is ∙ ap (λ (ts : List (List ℕ)). slice_get ts 0) same))
  where
    choose : (ts : List (List ℕ)) → Some name ≡ slice_get ts 0 → In name ts
    choose [] none = absurd (cc)
    choose (t ∷ ts) one = inl (same_Some name t one)

-- ---- the answer

module _ (store : Store) (q : Query) (name : List ℕ) (views : List View) (good : IsGood store)
    (of : AreViewsOf store views) (ordered : AreInOrder views) (watchable : is_watchable q ≡ true)
    (with_it : q.not_tags ≡ false) (among : Contains q.tags name) where
  abbrev with_tag : List View
  with_tag = tagged store.items views name

  taken_apart : AreApart (taken q with_tag)
  taken_apart = apart_filter (decides q) with_tag (tagged_apart store views name good.tags)

  there : (v : View) → In v (taken q views) → In v (taken q with_tag)
  there v h =
      let r = from_filter (decides q) views v h in
      let has : has_tag_named store v.id name ≡ true =
      has_tag_asked store q name v
      (at_in (TellsTags store q) views v (tell_tags store q good.tags store.pages views of) r.0) with_it among r.1 in
      in_filter (decides q) with_tag v
      (tagged_there store views name good.tags v
      (at_in (λ (w : View). view_of w.id views ≡ Some w) views v (known_views views ordered) r.0) has)
      r.1

  back : (v : View) → In v (taken q with_tag) → In v (taken q views)
  back v h =
      let r = from_filter (decides q) with_tag v h in
      in_filter (decides q) views v (tagged_known store views name good.tags v r.0) r.1

  moves : IsPermutation (taken q views) (taken q with_tag)
  moves =
      same_members (λ (v : View). v.id.0) (taken q views) (taken q with_tag)
      (apart_filter (decides q) views (apart_of views (ids_differ views ordered))) taken_apart there back

  same_answer : first_asked q (taken q with_tag) ≡ first_asked q (taken q views)
  same_answer =
      ap (limited q.max_results)
      (sym (same_sorted (view_before q.sort) (places_rank q.sort (place_of q.sort)) (taken q views) (taken q with_tag)
      (none_tie (view_before q.sort) (λ (v : View). v.id.0) (tied_ids q.sort (place_of q.sort)) (taken q views)
      (AllPairs-filter Differ (decides q) views (ids_differ views ordered)))
      moves))

  -- what is told of them is the answer
  pub tagged_told : map row_of_view (first_asked q (taken q with_tag)) ≡ map (told_row store) (answer store q)
  tagged_told = ap (map row_of_view) same_answer ∙ told_answer store q views good of watchable

  -- no two pages that are found are one
  pub tagged_differ : (found : List Found) → AreFound q.sort (taken q with_tag) found
      → AllPairs (λ (a b : Found). a.view.now.id.0 ≢ b.view.now.id.0) found
  tagged_differ found are = found_apart q.sort (taken q with_tag) found are (pairs_of (taken q with_tag) taken_apart)
