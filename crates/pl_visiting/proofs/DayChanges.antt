-- The rows on a new day, and the changes of views, once some of the pages that are due have the
-- frecency of the day.
use Rattle.std.proofs.Common.{◌≡◌, ◌+◌, ◌<◌, ◌≤◌, ◌++◌, ◌∙◌, false, true, ℕ, List, [], ◌∷◌, Option, Some}
use Rattle.std.proofs.Common.{None, add-one, ap, Bor, arith, count_by, drop, drop-cons, get_or, length, map}
use Rattle.std.proofs.Common.{nat_le, refl, subst, sym, take}
use Rattle.std.proofs.Math.ListN.{drop_of_length-le}
use Rattle.std.specs.List.Sorted.{IsStrictlyIncreasing}
use Rattle.std.specs.Option.{IsSome, option_copied, option_map_or}
use Rattle.std.proofs.lemmas.Bool.{false≢true}
use Rattle.std.proofs.lemmas.Bool.Decides.{nat_tests}
use Rattle.std.proofs.lemmas.Option.{none-some, same_Some}
use Rattle.pl_base.specs.declared.change.Change.{Change}
use Rattle.pl_base.specs.declared.date.Day.{Day}
use Rattle.pl_base.specs.declared.id.PageId.{PageId}
use Rattle.pl_base.specs.declared.view.View.{View}
use Rattle.pl_base.specs.Date.{IsDay}
use Rattle.pl_base.specs.Days.{on_day, pages_moved}
use Rattle.pl_base.specs.Due.{IsDue}
use Rattle.pl_base.specs.Rows.{HaveSums, IsSound, IsWellKept, Kept, store_of, with_day}
use Rattle.pl_base.specs.Store.{Store}
use Rattle.pl_base.proofs.OriginSums.{sums_of_sound, sums_still}
use Rattle.pl_calendar.specs.Days.{due_pages, is_due_by}
use Rattle.pl_known.specs.declared.known.Known.{Known}
use Rattle.pl_known.specs.Changes.{LeadTo}
use Rattle.pl_known.specs.Known.{Knows, view_of}
use Rattle.pl_marks.specs.declared.mark.Aged.{Aged}
use Rattle.pl_marks.specs.Refreshed.{AreRightBut}
use Rattle.pl_history.specs.Aging.{HadPageOf, HasPageOf, with_aged}
use Rattle.pl_history.specs.Bears.{BearsOnlyOn}
use Rattle.pl_history.proofs.NewDay.{AreStill, bears_on_day, right_on_day, sound_on_day}
use Rattle.pl_history.proofs.OthersAlike.{pages_once}
use Rattle.pl_changes.specs.Brings.{IsChangeTo}
use Rattle.pl_changes.proofs.Brought.{Brought, all_brought, next_more, nothing}
use Rattle.pl_changes.proofs.Leads.{by_items, lead}
use Rattle.pl_done.proofs.CameFrom.{came_from}
use Rattle.pl_visiting.specs.NewDay.{is_moved, pages_due}
use Rattle.pl_visiting.proofs.DuePages.{IsDueView, due_ascend, due_view, few_due, others_still}
use Rattle.pl_visiting.proofs.MovedPages.{all_moved}

-- ---- the change of one page

-- a view that was due by the store's day is another one
other_due : (store : Store) (page : PageId) (due : Option Day) → IsDue store page due
    → option_map_or (λ (d : Day). nat_le d.0 store.day.0) due false ≡ true → ⊥
other_due store page None is by = false≢true by
other_due store page (Some d) is by =
    let later = is.later in
    let up_to : d.0 ≤ store.day.0 = grind (arith, nat_tests) in
    omega (arith, later, up_to)

pub is_change : (kept : Kept) (old was new : View) (aged : Aged) → HasPageOf (store_of kept) (with_aged old aged)
    → is_due_by kept.day old ≡ true → was ≡ old → new ≡ with_aged old aged
    → IsChangeTo (store_of kept) old.id (Some old) (record { old = Some was; new = Some new })
is_change kept old was new aged has due copied made =
    subst
    (λ (w : View). IsChangeTo (store_of kept) old.id (Some old) (record { old = Some w; new = Some new })) (sym copied)
    (subst
    (λ (w : View). IsChangeTo (store_of kept) old.id (Some old) (record { old = Some old; new = Some w })) (sym made)
    (record {
      old = refl;
      new = record { element = has.page; there = has.there; named = sym has.seen.id; seen = has.seen };
      differ = λ same.
          other_due (store_of kept) has.page.id aged.due has.seen.due
          (subst (λ (due : Option Day). option_map_or (λ (d : Day). nat_le d.0 kept.day.0) due false ≡ true)
          (ap (λ (v : View). v.due) (same_Some old (with_aged old aged) same)) due);
    }))

-- ---- one page after another

-- so many of the pages that are due have the frecency of the day, and these are the changes of
-- their views
pub record AreAged (day : Day) (due : List PageId) (views : List View) (old now : Kept) (count : ℕ)
    (changes : List Change) : Type 0 where
  pub store : store_of now ≡ on_day day (store_of old)
  pub right : AreRightBut (drop count due) now
  pub sums : HaveSums now
  pub brought : Brought (on_day day (store_of old)) views (take count due) changes

module _ (day : Day) (due : List PageId) (old : Kept) (known : Known) (well : IsWellKept old) (within : IsDay day)
    (later : old.day.0 ≤ day.0) (sound : IsSound old) (knows : Knows (store_of old) known)
    (are : due ≡ due_pages day known.views.items) where
  still : AreStill due day (store_of old)
  still =
      subst (λ (ids : List PageId). AreStill ids day (store_of old)) (sym are)
      (others_still day (store_of old) known.views.items knows.views knows.followed.order within)

  pub starts : (now : Kept) (changes : List Change) → now ≡ with_day day old → changes ≡ []
      → AreAged day due known.views.items old now 0 changes
  starts now changes is none =
      record {
        store = ap store_of is;
        right = right_on_day due day old later still now is sound.right;
        sums =
            sums_still old now (ap (λ (k : Kept). k.pages) is) (ap (λ (k : Kept). k.origins) is)
            (sums_of_sound old well sound);
        brought = subst (Brought (on_day day (store_of old)) known.views.items []) (sym none) nothing;
      }

  pub few : length due ≤ pages_due day (store_of old)
  few =
      subst (λ (ids : List PageId). length ids ≤ pages_due day (store_of old)) (sym are)
      (few_due day (store_of old) known.views.items knows.views knows.followed.order)

  -- ---- the next page

  module _ (i : ℕ) (d : PageId) (below : i < length due) where
    next_view : (v : View) × IsDueView day (store_of old) known.views.items (get_or due i d) v
    next_view =
        let At : List PageId → Type 0 =
        λ (ids : List PageId). (v : View) × IsDueView day (store_of old) known.views.items (get_or ids i d) v in
        subst At (sym are)
        (due_view day (store_of old) known.views.items knows.views knows.followed.order i d
        (subst (λ (ids : List PageId). i < length ids) are below))

    pub is_known : (found : Option (Bor View)) → option_copied found ≡ view_of (get_or due i d) known.views.items
        → IsSome found
    is_known None is = absurd (none-some next_view.0 (is ∙ next_view.1.found))
    is_known (Some view) is = refl

    module _ (v : View) (told : Some v ≡ view_of (get_or due i d) known.views.items) where
      here : IsDueView day (store_of old) known.views.items (get_or due i d) v
      here =
          subst (IsDueView day (store_of old) known.views.items (get_or due i d))
          (same_Some next_view.0 v (sym next_view.1.found ∙ sym told)) next_view.1

      module _ (now : Kept) (changes : List Change)
          (so_far : AreAged day due known.views.items old now i changes) where
        pub had_here : HadPageOf (store_of now) v
        had_here = subst (λ (s : Store). HadPageOf s v) (sym so_far.store) here.had

        pub due_here : is_due_by now.day v ≡ true
        due_here =
            subst (λ (to : Day). is_due_by to v ≡ true) (sym (ap (λ (s : Store). s.day) so_far.store)) here.due

        pub goes_on : (new : Kept) (more : List Change) (change : Change) → store_of new ≡ store_of now
            → ((ids : List PageId) → AreRightBut (v.id ∷ ids) now → AreRightBut ids new) → HaveSums new
            → IsChangeTo (store_of now) v.id (Some v) change → more ≡ changes ++ change ∷ []
            → AreAged day due known.views.items old new (i + 1) more
        goes_on new more change same right sums turns joined =
            let store : Store = on_day day (store_of old) in
            let rest : drop i due ≡ v.id ∷ drop (i + 1) due =
            rw (add-one, drop-cons due i d, here.named) refl in
            record {
              store = same ∙ so_far.store;
              right =
                  right (drop (i + 1) due) (subst (λ (ids : List PageId). AreRightBut ids now) rest so_far.right);
              sums = sums;
              brought =
                  next_more store known.views.items due i d changes more (Some change) below so_far.brought
                  (subst (λ (o : Option View). IsChangeTo store (get_or due i d) o change) told
                  (subst (λ (id : PageId). IsChangeTo store id (Some v) change) here.named
                  (subst (λ (s : Store). IsChangeTo s v.id (Some v) change) so_far.store turns)))
                  joined;
            }

  -- ---- in the end

  module _ (now : Kept) (i : ℕ) (changes : List Change) (over : length due ≤ i) (kept : IsWellKept now)
      (all : AreAged day due known.views.items old now i changes) where
    brought : Brought (on_day day (store_of old)) known.views.items due changes
    brought = all_brought (on_day day (store_of old)) known.views.items due i changes over all.brought

    pub ends_sound : IsSound now
    ends_sound =
        sound_on_day day old now sound kept all.store
        (subst (λ (ids : List PageId). AreRightBut ids now) (drop_of_length-le due over) all.right) all.sums

    pub ends_leading : LeadTo (store_of now) known.views.items changes
    ends_leading =
        lead now kept ends_sound.good due
        (subst (λ (ids : List PageId). IsStrictlyIncreasing (map (λ (page : PageId). page.0) ids)) (sym are)
        (due_ascend day (store_of old) known.views.items knows.views knows.followed.order))
        known
        (by_items due known (store_of now)
        (came_from due (store_of old) (store_of now) known knows
        (subst (BearsOnlyOn due (store_of old)) (sym all.store) (bears_on_day due day old later still well))))
        changes
        (subst (λ (s : Store). Brought s known.views.items due changes) (sym all.store) brought)

    pub ends_counted : count_by is_moved changes ≡ pages_moved day (store_of old)
    ends_counted =
        all_moved day (store_of old) known.views.items within later (pages_once old well) knows.followed.order
        knows.views changes
        (subst (λ (ids : List PageId). Brought (on_day day (store_of old)) known.views.items ids changes) are brought)
