-- Changes that are made in two passes: first the views of pages that go, and then those that come.
use Rattle.std.proofs.Common.{◌≡◌, ◌<◌, ◌==◌, ◌∙◌, ℕ, Bool, true, false, List, [], ◌∷◌, Option, Some, None}
use Rattle.std.proofs.Common.{ap, eqb-true, find, if◌then◌else◌, not, refl, subst, sym}
use Rattle.std.specs.List.{AllByRecursion, list_any}
use Rattle.std.specs.Option.{is_none, option_map_or, option_or}
use Rattle.std.proofs.lemmas.Bool.{or_parts}
use Rattle.std.proofs.lemmas.List.Elements.{recursion_from_All}
use Rattle.std.proofs.lemmas.List.Kept.{AllPairs-filter}
use Rattle.pl_base.specs.declared.change.Change.{Change}
use Rattle.pl_base.specs.declared.id.PageId.{PageId}
use Rattle.pl_base.specs.declared.view.View.{View}
use Rattle.pl_base.proofs.KeyCounts.{Ascends, ascends_from_pairs}
use Rattle.pl_base.proofs.ListLaws.{all_stay, everyone}
use Rattle.pl_follow.specs.Changes.{AreInOrder, without_id}
use Rattle.pl_follow.proofs.ChangedLists.{added_in_order}
use Rattle.pl_follow.proofs.Parted.{removed_in_order}
use Rattle.pl_known.specs.Changes.{AllSuit, AreEachOnce, IsOfOnePage, after, id_of}
use Rattle.pl_known.specs.Known.{view_of}
use Rattle.pl_known.specs.Passes.{all_put, change_of, goes, put, staying}
use Rattle.pl_known.proofs.ChangesMade.{after_in_order, either_way, no_change, told, view_after}
use Rattle.pl_follow.proofs.RanksChange.{none_left}
use Rattle.pl_known.proofs.ViewLookUps.{same_views, view_added, view_kept, view_removed}

-- ---- the views that go

pub stay_in_order : (changes : List Change) (views : List View) → AreInOrder views → AreInOrder (staying changes views)
stay_in_order changes views ordered =
    AllPairs-filter (λ (v w : View). v.id.0 < w.id.0) (λ (v : View). not (goes changes v.id)) views ordered

-- where each change has a new view, all stay
pub all_stay_there : (changes : List Change) (views : List View)
    → list_any (λ (c : Change). is_none c.new) changes ≡ false → staying changes views ≡ views
all_stay_there changes views none =
    all_stay (λ (v : View). not (goes changes v.id)) views
    (everyone (λ (v : View). not (goes changes v.id) ≡ true) views (λ v. ap not (stays changes none v.id)))
  where
    stays : (cs : List Change) → list_any (λ (c : Change). is_none c.new) cs ≡ false → (id : PageId)
        → goes cs id ≡ false
    stays [] none id = refl
    stays (c ∷ cs) none id =
        let parts : (is_none c.new ≡ false) × (list_any (λ (d : Change). is_none d.new) cs ≡ false) =
        or_parts (is_none c.new) (list_any (λ (d : Change). is_none d.new) cs) none in
        choose (id_of c == id.0) parts.0 (stays cs parts.1 id)
      where
        choose : (b : Bool) → is_none c.new ≡ false → goes cs id ≡ false
            → option_map_or (λ (d : Change). is_none d.new) (if b then Some c else change_of id cs) false ≡ false
        choose true here rest = here
        choose false here rest = rest

-- ---- the views that come

pub put_in_order : (new : Option View) (views : List View) → AreInOrder views → AreInOrder (put new views)
put_in_order None views ordered = ordered
put_in_order (Some new) views ordered =
    added_in_order new (without_id new.id views) (removed_in_order new.id views ordered) (none_left new.id views)

pub all_put_in_order : (changes : List Change) (views : List View) → AreInOrder views
    → AreInOrder (all_put changes views)
all_put_in_order [] views ordered = ordered
all_put_in_order (c ∷ cs) views ordered = all_put_in_order cs (put c.new views) (put_in_order c.new views ordered)

-- the new view of a change stands before what was there
abbrev instead : Option Change → Option View → Option View
instead None view = view
instead (Some c) view = option_or c.new view

module _ (id : PageId) (views : List View) where
  abbrev Puts : Option View → Option View → Type 0
  Puts old new =
      view_of id (put new views)
      ≡ (if id_of (record { old = old; new = new }) == id.0 then option_or new (view_of id views) else view_of id views)

  here : (new : View) → view_of id (put (Some new) views) ≡ (if new.id.0 == id.0 then Some new else view_of id views)
  here new =
      view_added new id (without_id new.id views) (none_left new.id views)
      ∙ ap (λ (v : Option View). if new.id.0 == id.0 then Some new else v) (view_removed new.id id views)
      ∙ choose (new.id.0 == id.0) refl
    where
      choose : (b : Bool) → (new.id.0 == id.0) ≡ b
          → (if b then Some new else if id.0 == new.id.0 then None else view_of id views)
          ≡ (if b then Some new else view_of id views)
      choose true is = refl
      choose false is =
          ap (λ (b : Bool). if b then None else view_of id views) (either_way id.0 new.id.0 ∙ is)

  puts : (old new : Option View) → IsOfOnePage (record { old = old; new = new }) → Puts old new
  puts None None one = either (0 == id.0)
    where
      either : (b : Bool) → view_of id views ≡ (if b then view_of id views else view_of id views)
      either true = refl
      either false = refl
  puts (Some old) None one = either (old.id.0 == id.0)
    where
      either : (b : Bool) → view_of id views ≡ (if b then view_of id views else view_of id views)
      either true = refl
      either false = refl
  puts None (Some new) one = here new
  puts (Some old) (Some new) one =
      here new ∙ ap (λ (page : PageId). if page.0 == id.0 then Some new else view_of id views) (sym one)

view_put : (changes : List Change) (views : List View) → AllByRecursion IsOfOnePage changes → Ascends id_of changes
    → (id : PageId) → view_of id (all_put changes views) ≡ instead (change_of id changes) (view_of id views)
view_put [] views pages up id = refl
view_put (c ∷ cs) views pages up id =
    view_put cs (put c.new views) pages.1 up.1 id
    ∙ ap (instead (change_of id cs)) (puts id views c.old c.new pages.0) ∙ choose (id_of c == id.0) refl
  where
    choose : (b : Bool) → (id_of c == id.0) ≡ b
        → instead (change_of id cs) (if b then option_or c.new (view_of id views) else view_of id views)
        ≡ instead (if b then Some c else change_of id cs) (view_of id views)
    choose true is =
        let above : AllByRecursion (λ (d : Change). id.0 < id_of d) cs =
        subst (λ n. AllByRecursion (λ (d : Change). n < id_of d) cs) (eqb-true (id_of c) id.0 is) up.0 in
        ap (λ (change : Option Change). instead change (option_or c.new (view_of id views))) (no_change id cs above)
    choose false other = refl

-- ---- both passes

passes_told : (change : Option Change) (view : Option View)
    → instead change (if option_map_or (λ (c : Change). is_none c.new) change false then None else view)
    ≡ told change view
passes_told None view = refl
passes_told (Some c) view = either c.new
  where
    either : (new : Option View) → option_or new (if is_none new then None else view) ≡ new
    either None = refl
    either (Some w) = refl

-- both passes make what the changes make one after another
pub passes_are : (changes : List Change) (views : List View) → AreInOrder views → AreEachOnce changes
    → AllSuit changes views → all_put changes (staying changes views) ≡ after changes views
passes_are changes views ordered each suit =
    same_views (all_put changes (staying changes views)) (after changes views)
    (all_put_in_order changes (staying changes views) (stay_in_order changes views ordered))
    (after_in_order changes views suit ordered)
    (λ id.
    view_put changes (staying changes views) (recursion_from_All IsOfOnePage changes each.pages)
    (ascends_from_pairs id_of changes each.ascending) id
    ∙ ap (instead (change_of id changes)) (view_kept (λ n. gone n) id views)
    ∙ passes_told (change_of id changes) (view_of id views)
    ∙ sym (view_after changes views each suit id))
  where
    gone : ℕ → Bool
    gone n = option_map_or (λ (c : Change). is_none c.new) (find (λ (c : Change). id_of c == n) changes) false
