-- Rows on a new day: the pages that it does not bear on, and that the rows are sound once each page
-- is right.
use Rattle.std.proofs.Common.{◌≡◌, ◌≤◌, ◌∙◌, false, List, [], get_or, refl, subst, sym}
use Rattle.std.specs.List.{Contains}
use Rattle.std.proofs.lemmas.List.Elements.{All-contains_itself}
use Rattle.pl_base.specs.declared.date.Day.{Day}
use Rattle.pl_base.specs.declared.id.PageId.{PageId}
use Rattle.pl_base.specs.Days.{on_day}
use Rattle.pl_base.specs.Good.{HasGoodItems}
use Rattle.pl_base.specs.Rows.{HaveSums, IsRight, IsSound, IsWellKept, Kept, KeptPage, store_of, with_day}
use Rattle.pl_base.specs.Store.{Page, Store}
use Rattle.pl_base.proofs.OriginSums.{totals_of_sums}
use Rattle.pl_marks.specs.Alike.{is_one_of}
use Rattle.pl_marks.specs.Refreshed.{AreRightBut}
use Rattle.pl_history.specs.Bears.{BearsOnlyOn}
use Rattle.pl_history.specs.Sound.{AreStanding}
use Rattle.pl_history.proofs.GoodRows.{good_of, items_of, items_still, standing_of}
use Rattle.pl_history.proofs.NotDue.{IsStill, frecency_still, view_still}
use Rattle.pl_history.proofs.OthersAlike.{bears_on, contains_map, pages_once}
use Rattle.pl_history.proofs.VisitedPages.{standing_alike}

-- no page but these has a sampled visit that weighs anew behind the store's day, up to this one
abbrev pub AreStill : List PageId → Day → Store → Type 0
AreStill ids day store = (p : Page) → Contains store.pages p → is_one_of ids p.id ≡ false → IsStill day store p.id

module _ (ids : List PageId) (day : Day) (kept : Kept) (later : kept.day.0 ≤ day.0)
    (still : AreStill ids day (store_of kept)) where
  -- the day bears on none but these
  pub bears_on_day : IsWellKept kept → BearsOnlyOn ids (store_of kept) (on_day day (store_of kept))
  bears_on_day well =
      bears_on ids (store_of kept) (on_day day (store_of kept)) (pages_once kept well) refl
      (λ q there. (q, there, refl, refl, refl))
      (record {
        stay = λ p there other. there;
        stood = λ p there other. there;
        views = λ p there other view of. view_still day (store_of kept) later p view (still p there other) of;
      })

  -- what was computed of the others is right on the day
  pub right_on_day : (new : Kept) → new ≡ with_day day kept → IsRight kept → AreRightBut ids new
  right_on_day new is right =
      subst (AreRightBut ids) (sym is)
      (λ k d within other.
      let p : KeptPage = get_or kept.pages k d in
      let there : Contains (store_of kept).pages p.page =
      contains_map (λ (q : KeptPage). q.page) kept.pages p (All-contains_itself kept.pages k d within) in (
        right.frecencies k d within ∙ sym (frecency_still day (store_of kept) later p.page (still p.page there other)),
        right.counts k d within,
        right.hidden k d within,
      ))

-- once each page is right
pub sound_on_day : (day : Day) (old new : Kept) → IsSound old → IsWellKept new
    → store_of new ≡ on_day day (store_of old) → AreRightBut [] new → HaveSums new → IsSound new
sound_on_day day old new sound well same all sums =
    let standing : AreStanding old = standing_of old sound.good in
    let right : IsRight new =
    record {
      frecencies = λ k d within. (all k d within refl).0;
      counts = λ k d within. (all k d within refl).1;
      hidden = λ k d within. (all k d within refl).2;
    } in
    record {
      good =
          good_of new well
          (subst HasGoodItems (sym same)
          (items_still (store_of old) (on_day day (store_of old)) refl (λ id there. there)
          (items_of (store_of old) sound.good)))
          (standing_alike (with_day day old) new same
          (record { by_row = standing.by_row; typed = standing.typed }));
      right = right;
      totals = totals_of_sums new right sums;
    }
