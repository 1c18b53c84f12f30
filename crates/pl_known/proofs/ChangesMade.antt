-- What changes make of views in order: they keep the order, fit a store, and each page has the view
-- of its change.
use Rattle.std.proofs.Common.{◌≡◌, ◌<◌, ◌==◌, ◌∙◌, ℕ, Bool, true, false, List, [], ◌∷◌, Option, Some, None}
use Rattle.std.proofs.Common.{ap, arith, eqb-true, if◌then◌else◌, refl, subst, sym}
use Rattle.std.specs.List.{AllByRecursion}
use Rattle.std.specs.Option.{option_map_or}
use Rattle.std.proofs.lemmas.Bool.{ne_eqb}
use Rattle.std.proofs.lemmas.Bool.Decides.{nat_tests}
use Rattle.pl_base.specs.declared.change.Change.{Change}
use Rattle.pl_base.specs.declared.id.PageId.{PageId}
use Rattle.pl_base.specs.declared.view.View.{View}
use Rattle.pl_base.proofs.KeyCounts.{Ascends, ascends_from_pairs}
use Rattle.std.proofs.lemmas.List.Elements.{recursion_from_All}
use Rattle.pl_follow.specs.Changes.{AreInOrder, FitStore, Suits, changed, without_id}
use Rattle.pl_follow.proofs.ChangedLists.{changed_in_order}
use Rattle.pl_known.specs.Changes.{AllSuit, AreEachOnce, IsOfOnePage, after, id_of}
use Rattle.pl_known.specs.Known.{view_of}
use Rattle.pl_known.specs.Passes.{change_of}
use Rattle.pl_known.proofs.ViewLookUps.{view_added, view_removed}

-- ---- order and size

pub after_in_order : (changes : List Change) (views : List View) → AllSuit changes views → AreInOrder views
    → AreInOrder (after changes views)
after_in_order [] views suit ordered = ordered
after_in_order (c ∷ cs) views suit ordered =
    after_in_order cs (changed c.old c.new views) suit.1 (changed_in_order c.old c.new views ordered suit.0)

pub after_fits : (changes : List Change) (views : List View) → FitStore views → AllSuit changes views
    → FitStore (after changes views)
after_fits [] views fit suit = fit
after_fits (c ∷ cs) views fit suit = after_fits cs (changed c.old c.new views) suit.0.becomes suit.1

-- ---- one change

pub either_way : (a b : ℕ) → (a == b) ≡ (b == a)
either_way a b = grind (arith, nat_tests)

-- the page that changes has the new view, and each other page its view
module _ (id : PageId) (views : List View) where
  abbrev Tells : Option View → Option View → Type 0
  Tells old new =
      view_of id (changed old new views)
      ≡ (if id_of (record { old = old; new = new }) == id.0 then new else view_of id views)

  tells : (old new : Option View) → IsOfOnePage (record { old = old; new = new }) → Suits old new views → Tells old new
  tells None None one suits = absurd (let none : false ≡ true = suits.some in cc)
  tells (Some old) None one suits =
      view_removed old.id id views ∙ ap (λ (b : Bool). if b then None else view_of id views) (either_way id.0 old.id.0)
  tells None (Some new) one suits = view_added new id views suits.comes
  tells (Some old) (Some new) one suits =
      view_added new id (without_id old.id views) suits.comes
      ∙ ap (λ (v : Option View). if new.id.0 == id.0 then Some new else v) (view_removed old.id id views)
      ∙ ap (λ (page : PageId). if page.0 == id.0 then Some new else if id.0 == old.id.0 then None else view_of id views)
      (sym one)
      ∙ ap (λ (b : Bool). if old.id.0 == id.0 then Some new else if b then None else view_of id views)
      (either_way id.0 old.id.0)
      ∙ either (old.id.0 == id.0)
    where
      either : (b : Bool) → (if b then Some new else if b then None else view_of id views)
          ≡ (if b then Some new else view_of id views)
      either true = refl
      either false = refl

pub view_changed : (c : Change) (views : List View) → IsOfOnePage c → Suits c.old c.new views → (id : PageId)
    → view_of id (changed c.old c.new views) ≡ (if id_of c == id.0 then c.new else view_of id views)
view_changed c views one suits id = tells id views c.old c.new one suits

-- ---- all changes

-- what a change tells of its page, and no change of the others
abbrev pub told : Option Change → Option View → Option View
told change view = option_map_or (λ (c : Change). c.new) change view

-- none of these changes is of a page with an id less than theirs
pub no_change : (id : PageId) (changes : List Change) → AllByRecursion (λ (c : Change). id.0 < id_of c) changes
    → change_of id changes ≡ None
no_change id [] above = refl
no_change id (c ∷ cs) above =
    ap (λ (b : Bool). if b then Some c else change_of id cs)
    (ne_eqb (id_of c) id.0 (λ same. absurd (omega (arith, above.0, same))))
    ∙ no_change id cs above.1

after_told : (changes : List Change) (views : List View) → AllByRecursion IsOfOnePage changes → Ascends id_of changes
    → AllSuit changes views → (id : PageId)
    → view_of id (after changes views) ≡ told (change_of id changes) (view_of id views)
after_told [] views pages up suit id = refl
after_told (c ∷ cs) views pages up suit id =
    after_told cs (changed c.old c.new views) pages.1 up.1 suit.1 id
    ∙ ap (told (change_of id cs)) (view_changed c views pages.0 suit.0 id) ∙ choose (id_of c == id.0) refl
  where
    choose : (b : Bool) → (id_of c == id.0) ≡ b
        → told (change_of id cs) (if b then c.new else view_of id views)
        ≡ told (if b then Some c else change_of id cs) (view_of id views)
    choose true is =
        let above : AllByRecursion (λ (d : Change). id.0 < id_of d) cs =
        subst (λ n. AllByRecursion (λ (d : Change). n < id_of d) cs) (eqb-true (id_of c) id.0 is) up.0 in
        ap (λ (change : Option Change). told change c.new) (no_change id cs above)
    choose false other = refl

-- the page of a change has its new view, and each other page its view
pub view_after : (changes : List Change) (views : List View) → AreEachOnce changes → AllSuit changes views
    → (id : PageId) → view_of id (after changes views) ≡ told (change_of id changes) (view_of id views)
view_after changes views each suit id =
    after_told changes views (recursion_from_All IsOfOnePage changes each.pages)
    (ascends_from_pairs id_of changes each.ascending) suit id
