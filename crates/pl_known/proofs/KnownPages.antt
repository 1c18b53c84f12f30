-- The page with a URL and its view, and views that followers stand for while changes come.
use Rattle.std.proofs.Common.{◌≡◌, ◌+◌, ◌<◌, ◌∙◌, ℕ, Bool, true, false, List, [], ◌∷◌, Option, Some, None}
use Rattle.std.proofs.Common.{ap, arith, drop, eq-eqb, find, get_or, if◌then◌else◌, length, refl, subst, suc, sym}
use Rattle.std.specs.Option.{option_map}
use Rattle.std.proofs.lemmas.Bool.{ne_eqb}
use Rattle.std.proofs.lemmas.List.{drop_more}
use Rattle.pl_base.specs.declared.change.Change.{Change}
use Rattle.pl_base.specs.declared.id.PageId.{PageId}
use Rattle.pl_base.specs.declared.view.View.{View}
use Rattle.pl_base.specs.Store.{Page, Store}
use Rattle.pl_base.specs.View.{AreViews, AreViewsOf}
use Rattle.pl_base.proofs.LookUps.{found_holds}
use Rattle.pl_follow.specs.Changes.{AreInOrder, Suits, changed}
use Rattle.pl_follow.proofs.Parted.{Ascend, ascend}
use Rattle.pl_known.specs.Changes.{AllSuit, after}
use Rattle.pl_known.specs.Known.{FollowersStand, view_of}
use Rattle.pl_known.specs.declared.known.Known.{Known}

-- ---- the view that passes a test, by its id

-- the id of the first that passes the test
abbrev page_of : (View → Bool) → List View → Option PageId
page_of test views = option_map (λ (v : View). v.id) (find test views)

pub none_found : (test : View → Bool) (views : List View) → page_of test views ≡ None → find test views ≡ None
none_found test views none = choose (find test views) none
  where
    choose : (found : Option View) → option_map (λ (v : View). v.id) found ≡ None → found ≡ None
    choose None is = refl
    choose (Some v) is = absurd (cc)

by_its_id : (test : View → Bool) (id : PageId) (views : List View) → Ascend views → page_of test views ≡ Some id
    → view_of id views ≡ find test views
by_its_id test id [] up found = absurd (cc)
by_its_id test id (v ∷ vs) up found = choose (test v) found (by_its_id test id vs up.1)
  where
    above : (w : Option View) → find test vs ≡ w → option_map (λ (x : View). x.id) w ≡ Some id → v.id.0 < id.0
    above None is told = absurd (cc)
    above (Some w) is told =
        let same : w.id ≡ id = cc in
        subst (λ (page : PageId). v.id.0 < page.0) same
        (found_holds (λ (x : View). v.id.0 < x.id.0) test vs w up.0 is)

    choose : (b : Bool) → option_map (λ (x : View). x.id) (if b then Some v else find test vs) ≡ Some id
        → (page_of test vs ≡ Some id → view_of id vs ≡ find test vs)
        → view_of id (v ∷ vs) ≡ (if b then Some v else find test vs)
    choose true is rest =
        let same : v.id ≡ id = cc in
        ap (λ (b : Bool). if b then Some v else view_of id vs)
        (eq-eqb v.id.0 id.0 (ap (λ (page : PageId). page.0) same))
    choose false is rest =
        let below : v.id.0 < id.0 = above (find test vs) refl is in
        ap (λ (b : Bool). if b then Some v else view_of id vs)
        (ne_eqb v.id.0 id.0 (λ same. absurd (omega (arith, below, same))))
        ∙ rest is

pub found_by_id : (test : View → Bool) (id : PageId) (views : List View) → AreInOrder views
    → page_of test views ≡ Some id → view_of id views ≡ find test views
found_by_id test id views ordered found = by_its_id test id views (ascend views ordered) found

-- ---- how many

alike : (store : Store) (ps : List Page) (vs : List View) → AreViews store ps vs
    → length vs ≡ length ps
alike store [] [] are = refl
alike store [] (v ∷ vs) are = absurd are
alike store (p ∷ ps) [] are = absurd are
alike store (p ∷ ps) (v ∷ vs) are = ap suc (alike store ps vs are.1)

-- there are as many views as pages
pub as_many : (store : Store) (views : List View) → AreViewsOf store views
    → length views ≡ length store.pages
as_many store views are = alike store store.pages views are

-- ---- changes one after another

pub more : {X : Type 0} (xs : List X) (i : ℕ) (x : X) → i < length xs → x ≡ get_or xs i x
    → drop i xs ≡ x ∷ drop (i + 1) xs
more {X} xs i x within is = drop_more xs i x within ∙ ap (λ (y : X). y ∷ drop (i + 1) xs) (sym is)

-- the followers stand for views that the changes that are left lead on to the last ones
pub record OnTheWay (known : Known) (left : List Change) (last : List View) : Type 0 where
  pub views : List View
  pub stand : FollowersStand known views
  pub suit : AllSuit left views
  pub lead : after left views ≡ last

-- what the followers are told of a change makes of the views that they stand for
abbrev Follows : Known → Known → Option View → Option View → Type 0
Follows known told old new =
    (views : List View) → FollowersStand known views → Suits old new views → FollowersStand told (changed old new views)

-- one change more
pub way_on : (known told : Known) (changes : List Change) (i : ℕ) (c : Change) (old new : Option View)
    (last : List View) → i < length changes → c ≡ get_or changes i c → old ≡ c.old → new ≡ c.new
    → OnTheWay known (drop i changes) last → Follows known told old new → OnTheWay told (drop (i + 1) changes) last
way_on known told changes i c old new last within is is_old is_new way follows =
    let next : drop i changes ≡ c ∷ drop (i + 1) changes = more changes i c within is in
    let suit : AllSuit (c ∷ drop (i + 1) changes) way.views =
    subst (λ (cs : List Change). AllSuit cs way.views) next way.suit in
    let made : Follows known told c.old c.new =
    subst (λ (o : Option View). Follows known told o c.new) is_old
    (subst (λ (n : Option View). Follows known told old n) is_new follows) in
    record {
      views = changed c.old c.new way.views;
      stand = made way.views way.stand suit.0;
      suit = suit.1;
      lead = ap (λ (cs : List Change). after cs way.views) (sym next) ∙ way.lead;
    }
