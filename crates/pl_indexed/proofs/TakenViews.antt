-- The views that a query takes: of all, of one more, and of the one that has the URL that it asks for.
use Rattle.std.proofs.Common.{◌≡◌, ◌≢◌, ◌∙◌, ◌<◌, ◌++◌, ◌&&◌, ◌||◌, ℕ, Bool, true, false, List, [], ◌∷◌}
use Rattle.std.proofs.Common.{Option, Some, ap, arith, bytes_eq, filter, find, get_or, if◌then◌else◌, is_some}
use Rattle.std.proofs.Common.{None, length, map, not, refl, subst, sym}
use Rattle.std.specs.List.{AllByRecursion, AllPairs}
use Rattle.std.specs.Option.{option_copied, option_to_list}
use denote.Ref.{Bor}
use Rattle.std.proofs.lemmas.Bool.{and_parts, false_from_ne_true, false≢true}
use Rattle.std.proofs.lemmas.List.{map-append}
use Rattle.std.proofs.lemmas.List.Elements.{All-from_recursion, filter-append}
use Rattle.std.proofs.lemmas.Slice.Eq.{bytes_eq-Decides}
use Rattle.pl_base.specs.declared.view.View.{View}
use Rattle.pl_base.proofs.ListLaws.{weaker}
use Rattle.pl_base.proofs.LookUps.{Apart, found_holds, found_self, none_kept}
use Rattle.pl_conditions.specs.AskedParts.{is_count_asked}
use Rattle.pl_conditions.specs.Conditions.{is_uri}
use Rattle.pl_follow.specs.Changes.{AreInOrder}
use Rattle.pl_follow.proofs.ChangedLists.{Pairs, pairs}
use Rattle.pl_follow.proofs.Parted.{Ascend, ascend}
use Rattle.pl_known.specs.Known.{view_of}
use Rattle.pl_place.specs.declared.query.Query.{Query}
use Rattle.pl_query.specs.Decides.{are_tags_in, decides, has_marks_asked, has_url_asked, holds_unfolded, is_host_asked}
use Rattle.pl_indexed.specs.declared.found.Found.{Found}
use Rattle.pl_indexed.specs.declared.found.Key.{Key}
use Rattle.pl_indexed.specs.Answer.{taken}
use Rattle.pl_indexed.specs.declared.walk.KeptOrder.{KeptOrder}
use Rattle.pl_indexed.specs.declared.walk.KeptOrder.TheVariants.{FrecencyFalling, FrecencyRising, LatestFirst}
use Rattle.pl_indexed.specs.Found.{AreFound, seen, seen_of}
use Rattle.pl_indexed.specs.Walk.{stands_in}

-- ---- by their ids

ids_apart : (views : List View) → Ascend views → Apart (λ (v : View). v.id.0) views
ids_apart [] up = tt
ids_apart (v ∷ vs) up = (
  weaker (λ (w : View). v.id.0 < w.id.0) (λ (w : View). w.id.0 ≢ v.id.0) vs (λ w above same. omega arith) up.0,
  ids_apart vs up.1,
)

-- each view is found by its id
pub known_views : (views : List View) → AreInOrder views
    → AllByRecursion (λ (v : View). view_of v.id views ≡ Some v) views
known_views views ordered = found_self (λ (v : View). v.id.0) views (ids_apart views (ascend views ordered))

pub known_view : (views gone_over : List View) (k : ℕ) (v : View) → AreInOrder views → gone_over ≡ views
    → k < length gone_over → v ≡ get_or gone_over k v → view_of v.id views ≡ Some v
known_view views gone_over k v ordered same within is =
    subst (λ (w : View). view_of w.id views ≡ Some w) (sym is)
    (All-from_recursion (λ (w : View). view_of w.id views ≡ Some w) gone_over
    (subst (AllByRecursion (λ (w : View). view_of w.id views ≡ Some w)) (sym same) (known_views views ordered)) k v
    within)

-- ---- one more

-- one more page is found, if the query takes it
pub joined : (q : Query) (front : List View) (v : View) (old new : List Found) → AreFound q.sort (taken q front) old
    → map seen new ≡ map seen old ++ map (seen_of q.sort) (taken q (v ∷ []))
    → AreFound q.sort (taken q (front ++ v ∷ [])) new
joined q front v old new are more =
    more
    ∙ ap (λ (s : List (View × Key)). s ++ map (seen_of q.sort) (taken q (v ∷ []))) are
    ∙ sym (map-append (seen_of q.sort) (taken q front) (taken q (v ∷ [])))
    ∙ ap (map (seen_of q.sort)) (sym (filter-append (decides q) front (v ∷ [])))

-- ---- those in a kept order

-- a query takes a page only if it has a visit
visited : (q : Query) (v : View) → decides q v ≡ true → is_some v.last ≡ true
visited q v is =
    let unfolded : holds_unfolded q v ≡ true =
    (and_parts (holds_unfolded q v) _ (and_parts (holds_unfolded q v && are_tags_in q.tags q.not_tags v.tags) _ is).0).0
    in
    let marks : has_marks_asked q v ≡ true = (and_parts (has_marks_asked q v) (has_url_asked q v) unfolded).0 in
    first_of_four (is_some v.last) (is_count_asked q v.count) (not q.only_bookmarked || v.bookmarked)
    (q.include_hidden || not v.hidden) marks
  where
    first_of_four : (a b c d : Bool) → (a && b && c && d) ≡ true → a ≡ true
    first_of_four true b c d all = refl
    first_of_four false b c d all = absurd (cc)

taken_stands : (order : KeptOrder) (q : Query) (v : View) → decides q v ≡ true → stands_in order v ≡ true
taken_stands FrecencyFalling q v is = refl
taken_stands FrecencyRising q v is = refl
taken_stands LatestFirst q v is = visited q v is

-- those that a query takes stand in each order
pub visited_taken : (order : KeptOrder) (q : Query) (vs : List View) → taken q (filter (stands_in order) vs) ≡ taken q vs
visited_taken order q [] = refl
visited_taken order q (v ∷ vs) = choose (stands_in order v) refl (decides q v) refl (visited_taken order q vs)
  where
    choose : (s : Bool) → stands_in order v ≡ s → (t : Bool) → decides q v ≡ t
        → taken q (filter (stands_in order) vs) ≡ taken q vs
        → taken q (if s then v ∷ filter (stands_in order) vs else filter (stands_in order) vs)
        ≡ (if t then v ∷ taken q vs else taken q vs)
    choose true stands t is rest =
        ap (λ (b : Bool). if b then v ∷ taken q (filter (stands_in order) vs)
        else taken q (filter (stands_in order) vs)) is
        ∙ ap (λ (ws : List View). if t then v ∷ ws else ws) rest
    choose false stands true is rest = absurd (false≢true (sym stands ∙ taken_stands order q v is))
    choose false stands false is rest = rest

-- ---- the one with a URL

module _ (q : Query) (url : List ℕ) (asked : q.uri ≡ Some url) where
  has_url : (v : View) → decides q v ≡ true → v.url ≡ url
  has_url v is =
      let unfolded : holds_unfolded q v ≡ true =
      (and_parts (holds_unfolded q v) _ (and_parts (holds_unfolded q v && are_tags_in q.tags q.not_tags v.tags) _ is).0).0
      in
      let address : has_url_asked q v ≡ true = (and_parts (has_marks_asked q v) (has_url_asked q v) unfolded).1 in
      let same : is_uri q.uri v.url ≡ true =
      (and_parts (is_uri q.uri v.url) _
      (and_parts (is_uri q.uri v.url && is_host_asked q.domain q.domain_is_host v.host) _ address).0).0 in
      (bytes_eq-Decides v.url url).0 (subst (λ (uri : Option (List ℕ)). is_uri uri v.url ≡ true) asked same)

  none_taken : (vs : List View) → AllByRecursion (λ (v : View). v.url ≢ url) vs → taken q vs ≡ []
  none_taken vs others =
      none_kept (decides q) vs
      (weaker (λ (v : View). v.url ≢ url) (λ (v : View). decides q v ≡ false) vs
      (λ v other. false_from_ne_true (decides q v) (λ is. other (has_url v is))) others)

  one_taken : (vs : List View) → Pairs (λ (v w : View). v.url ≢ w.url) vs
      → taken q vs ≡ taken q (option_to_list (find (λ (v : View). bytes_eq v.url url) vs))
  one_taken [] apart = refl
  one_taken (v ∷ vs) apart = choose (bytes_eq v.url url) refl (decides q v) refl (one_taken vs apart.1)
    where
      found : List View
      found = option_to_list (find (λ (w : View). bytes_eq w.url url) vs)

      alone : bytes_eq v.url url ≡ true → taken q vs ≡ []
      alone is =
          none_taken vs
          (weaker (λ (w : View). v.url ≢ w.url) (λ (w : View). w.url ≢ url) vs
          (λ w other same. other ((bytes_eq-Decides v.url url).0 is ∙ sym same)) apart.0)

      choose : (b : Bool) → bytes_eq v.url url ≡ b → (t : Bool) → decides q v ≡ t → taken q vs ≡ taken q found
          → (if t then v ∷ taken q vs else taken q vs)
          ≡ taken q (option_to_list (if b then Some v else find (λ (w : View). bytes_eq w.url url) vs))
      choose true is true takes rest =
          ap (λ (ws : List View). v ∷ ws) (alone is) ∙ sym (ap (λ (t : Bool). if t then v ∷ [] else []) takes)
      choose true is false takes rest = alone is ∙ sym (ap (λ (t : Bool). if t then v ∷ [] else []) takes)
      choose false is true takes rest =
          absurd (false≢true (sym is ∙ (bytes_eq-Decides v.url url).1 (has_url v takes)))
      choose false is false takes rest = rest

  module _ (views : List View) (apart : AllPairs (λ (v w : View). v.url ≢ w.url) views) (result : Option (Bor View))
      (told : option_copied result ≡ find (λ (v : View). bytes_eq v.url url) views) where
    -- of all views the query takes at most the one that is found by the URL
    taken_is : taken q views ≡ taken q (option_to_list (option_copied result))
    taken_is =
        one_taken views (pairs (λ (v w : View). v.url ≢ w.url) views apart)
        ∙ ap (λ (o : Option View). taken q (option_to_list o)) (sym told)

    pub none_with_url : ((v : Bor View) → result ≢ Some v) → (found : List Found) → found ≡ []
        → AreFound q.sort (taken q views) found
    none_with_url none found empty =
        ap (map seen) empty
        ∙ sym (ap (map (seen_of q.sort)) (taken_is ∙ ap (λ (o : Option View). taken q (option_to_list o)) (nothing result none)))
      where
        nothing : (o : Option (Bor View)) → ((v : Bor View) → o ≢ Some v) → option_copied o ≡ None
        nothing None no_one = refl
        nothing (Some v) no_one = absurd (no_one v refl)

    pub one_with_url : (view : Bor View) → result ≡ Some view → (old new : List Found) → old ≡ []
        → map seen new ≡ map seen old ++ map (seen_of q.sort) (taken q (view.now ∷ []))
        → AreFound q.sort (taken q views) new
    one_with_url view is old new empty more =
        more
        ∙ ap (λ (fs : List Found). map seen fs ++ map (seen_of q.sort) (taken q (view.now ∷ []))) empty
        ∙ sym (ap (map (seen_of q.sort))
        (taken_is ∙ ap (λ (o : Option (Bor View)). taken q (option_to_list (option_copied o))) is))

-- the view that is found by a URL is found by its id
pub known_by_url : (url : List ℕ) (views : List View) → AreInOrder views → (result : Option (Bor View))
    → option_copied result ≡ find (λ (v : View). bytes_eq v.url url) views → (view : Bor View) → result ≡ Some view
    → view_of view.now.id views ≡ Some view.now
known_by_url url views ordered result told view is =
    found_holds (λ (v : View). view_of v.id views ≡ Some v) (λ (v : View). bytes_eq v.url url) views view.now
    (known_views views ordered) (sym told ∙ ap option_copied is)
