-- What a change of a list of views makes of their ranks, as far as each view has one.
use Rattle.std.proofs.Common.{◌≡◌, ◌≢◌, ◌∙◌, ◌++◌, ◌==◌, ◌||◌, Bool, true, false, List, [], ◌∷◌, Option, Some}
use Rattle.std.proofs.Common.{None, Ordering, ap, eq-eqb, if◌then◌else◌, map, not, refl, subst, sym}
use Rattle.std.specs.Cmp.{IsTotalOrder}
use Rattle.std.specs.List.{AllByRecursion, Contains, cons_option, filter_map}
use Rattle.std.specs.Option.{option_and_then, option_map}
use Rattle.std.specs.declared.cmp.Ordering.TheVariants.{Equal}
use Rattle.std.proofs.lemmas.Cmp.{tied_itself}
use Rattle.std.proofs.lemmas.List.Elements.{All-from_recursion, filter_map-append}
use Rattle.pl_base.specs.declared.id.PageId.{PageId}
use Rattle.pl_base.specs.declared.view.View.{View}
use Rattle.pl_base.specs.Sorting.{sorted_by}
use Rattle.pl_base.proofs.ListLaws.{weaker}
use Rattle.pl_follow.specs.Changes.{AreInOrder, Suits, changed, has_view, removed, with_view, without_id}
use Rattle.pl_follow.specs.Order.{IsExact, IsOther, Replaces, is_below}
use Rattle.pl_follow.proofs.Parted.{Parted, added_parted, ascend, removed_parted}
use Rattle.pl_follow.proofs.RankLists.{moved}

-- each view has a rank of this kind
pub all_ranked : {A : Type 0} (f : View → A) (views : List View)
    → map f views ≡ filter_map (λ (v : View). Some (f v)) views
all_ranked f [] = refl
all_ranked f (v ∷ vs) = ap (λ rs. f v ∷ rs) (all_ranked f vs)

-- no view has the id of one that was taken out
pub none_left : (id : PageId) (views : List View) → has_view id (without_id id views) ≡ false
none_left id [] = refl
none_left id (v ∷ vs) = choose (v.id.0 == id.0) refl (none_left id vs)
  where
    choose : (b : Bool) → (v.id.0 == id.0) ≡ b → has_view id (without_id id vs) ≡ false
        → has_view id (if not b then v ∷ without_id id vs else without_id id vs) ≡ false
    choose true is rest = rest
    choose false is rest = ap (λ b. b || has_view id (without_id id vs)) is ∙ rest

-- the elements of the front of a list are elements of it
front_none : (id : PageId) (front back : List View) → has_view id (front ++ back) ≡ false → has_view id front ≡ false
front_none id [] back none = refl
front_none id (v ∷ vs) back none = choose (v.id.0 == id.0) none (front_none id vs back)
  where
    choose : (b : Bool) → (b || has_view id (vs ++ back)) ≡ false
        → (has_view id (vs ++ back) ≡ false → has_view id vs ≡ false) → (b || has_view id vs) ≡ false
    choose true none rest = absurd (cc)
    choose false none rest = rest none

-- ---- ranks of any kind, of which no two tie but those of one id

-- views whose ranks tie have the same id
abbrev pub TieById : {R : Type 0} → (R → R → Ordering) → (View → Option R) → Type 0
TieById {R} cmp rank =
    (v w : View) (r s : R) → rank v ≡ Some r → rank w ≡ Some s → cmp r s ≡ Equal → v.id.0 ≡ w.id.0

module _ {R : Type 0} (cmp : R → R → Ordering) (total : IsTotalOrder cmp) (rank : View → Option R)
    (tie : TieById cmp rank) where
  -- a view's rank ties with none of those of views with other ids
  pub differs : (view : View) (r : R) → rank view ≡ Some r → (others : List View)
      → has_view view.id others ≡ false → AllByRecursion (λ other. cmp r other ≢ Equal) (filter_map rank others)
  differs view r is [] none = tt
  differs view r is (v ∷ vs) none = choose (v.id.0 == view.id.0) refl none (rank v) refl (differs view r is vs)
    where
      choose : (b : Bool) → (v.id.0 == view.id.0) ≡ b → (b || has_view view.id vs) ≡ false → (o : Option R)
          → rank v ≡ o
          → (has_view view.id vs ≡ false → AllByRecursion (λ other. cmp r other ≢ Equal) (filter_map rank vs))
          → AllByRecursion (λ other. cmp r other ≢ Equal) (cons_option o (filter_map rank vs))
      choose true same none o has rest = absurd (cc)
      choose false apart none None has rest = rest none
      choose false apart none (Some s) has rest =
          let other : cmp r s ≢ Equal =
          λ same.
          absurd (differ (v.id.0 == view.id.0) apart (eq-eqb v.id.0 view.id.0 (sym (tie view v r s is has same)))) in
          (other, rest none)
        where
          differ : (b : Bool) → b ≡ false → b ≡ true → ⊥
          differ b is_false is_true = cc

  -- the ranks of views are those of one and of the others
  ranks_parted : (views others : List View) (view : View) → Parted views view others
      → has_view view.id others ≡ false
      → sorted_by (is_below cmp) (filter_map rank views)
      ≡ sorted_by (is_below cmp) (cons_option (rank view) (filter_map rank others))
  ranks_parted views others view p none =
      ap (λ vs. sorted_by (is_below cmp) (filter_map rank vs)) p.whole
      ∙ ap (sorted_by (is_below cmp)) (filter_map-append rank p.front (view ∷ p.back))
      ∙ choose (rank view) refl
      ∙ ap (λ rs. sorted_by (is_below cmp) (cons_option (rank view) rs))
      (sym (ap (filter_map rank) p.rest ∙ filter_map-append rank p.front p.back))
    where
      choose : (o : Option R) → rank view ≡ o
          → sorted_by (is_below cmp) (filter_map rank p.front ++ cons_option o (filter_map rank p.back))
          ≡ sorted_by (is_below cmp) (cons_option o (filter_map rank p.front ++ filter_map rank p.back))
      choose None is = refl
      choose (Some r) is =
          moved cmp total (filter_map rank p.front) r (filter_map rank p.back)
          (differs view r is p.front
          (front_none view.id p.front p.back (subst (λ vs. has_view view.id vs ≡ false) p.rest none)))

  -- where one of the views goes
  pub ranks_left : (old : View) (views : List View) → AreInOrder views → Contains views old
      → sorted_by (is_below cmp) (filter_map rank views)
      ≡ sorted_by (is_below cmp) (cons_option (rank old) (filter_map rank (without_id old.id views)))
  ranks_left old views ordered has =
      ranks_parted views (without_id old.id views) old (removed_parted old views (ascend views ordered) has)
      (none_left old.id views)

  -- where one more comes
  pub ranks_come : (new : View) (others : List View) → has_view new.id others ≡ false
      → sorted_by (is_below cmp) (filter_map rank (with_view new others))
      ≡ sorted_by (is_below cmp) (cons_option (rank new) (filter_map rank others))
  ranks_come new others none = ranks_parted (with_view new others) others new (added_parted new others) none

-- ---- ranks that end with the id

module _ {N : Type 0} (cmp : N × PageId → N × PageId → Ordering) (total : IsTotalOrder cmp) (exact : IsExact cmp)
    (rank : View → Option (N × PageId)) (ids : (v : View) (r : N × PageId) → rank v ≡ Some r → r.1 ≡ v.id) where
  tie : TieById cmp rank
  tie v w r s is_r is_s same =
      ap (λ (p : PageId). p.0) (sym (ids v r is_r) ∙ ap (λ (t : N × PageId). t.1) (exact r s same) ∙ ids w s is_s)

  other_rank : (view : View) (others : List View) → has_view view.id others ≡ false
      → IsOther (rank view) (filter_map rank others)
  other_rank view others none = choose (rank view) refl
    where
      choose : (o : Option (N × PageId)) → rank view ≡ o → IsOther o (filter_map rank others)
      choose None is = tt
      choose (Some r) is =
          All-from_recursion (λ other. other ≢ r) (filter_map rank others)
          (weaker (λ other. cmp r other ≢ Equal) (λ other. other ≢ r) (filter_map rank others)
          (λ other apart same. apart (ap (cmp r) same ∙ tied_itself total r))
          (differs cmp total rank tie view r is others none))

  ranks_before : (old new : Option View) (views : List View) → AreInOrder views → Suits old new views
      → sorted_by (is_below cmp) (filter_map rank views)
      ≡ sorted_by (is_below cmp) (cons_option (option_and_then rank old) (filter_map rank (removed old views)))
  ranks_before None new views ordered suits = refl
  ranks_before (Some old) new views ordered suits = ranks_left cmp total rank tie old views ordered suits.goes

  ranks_after : (old new : Option View) (views : List View) → Suits old new views
      → sorted_by (is_below cmp) (filter_map rank (changed old new views))
      ≡ sorted_by (is_below cmp) (cons_option (option_and_then rank new) (filter_map rank (removed old views)))
  ranks_after old None views suits = refl
  ranks_after old (Some new) views suits = ranks_come cmp total rank tie new (removed old views) suits.comes

  leaving_other : (old : Option View) (views : List View)
      → IsOther (option_and_then rank old) (filter_map rank (removed old views))
  leaving_other None views = tt
  leaving_other (Some old) views = other_rank old (without_id old.id views) (none_left old.id views)

  coming_other : (old new : Option View) (views : List View) → Suits old new views
      → IsOther (option_and_then rank new) (filter_map rank (removed old views))
  coming_other old None views suits = tt
  coming_other old (Some new) views suits = other_rank new (removed old views) suits.comes

  -- where the ranks of the old view and of the new one change places, the set follows the views
  pub follows : (old new : Option View) (views : List View) → AreInOrder views → Suits old new views
      → (leaving coming : Option (N × PageId)) → leaving ≡ option_and_then rank old → coming ≡ option_and_then rank new
      → (before after : List (N × PageId)) → Replaces cmp leaving coming before after
      → before ≡ sorted_by (is_below cmp) (filter_map rank views)
      → after ≡ sorted_by (is_below cmp) (filter_map rank (changed old new views))
  follows old new views ordered suits leaving coming is_old is_new before after replaces stood =
      let others : List (N × PageId) = filter_map rank (removed old views) in
      replaces exact others
      (subst (λ r. IsOther r others) (sym is_old) (leaving_other old views))
      (subst (λ r. IsOther r others) (sym is_new) (coming_other old new views suits))
      (stood ∙ ranks_before old new views ordered suits
      ∙ ap (λ r. sorted_by (is_below cmp) (cons_option r others)) (sym is_old))
      ∙ ap (λ r. sorted_by (is_below cmp) (cons_option r others)) is_new
      ∙ sym (ranks_after old new views suits)
