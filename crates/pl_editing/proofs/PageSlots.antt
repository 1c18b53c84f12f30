-- The slots of new items and of their page, where it is new, as they are reckoned from those of a
-- visit.
use Rattle.std.proofs.Common.{◌≡◌, ◌∙◌, ◌+◌, ◌<◌, ◌≤◌, ◌==◌, ◌&&◌, ℕ, false, List, Option}
use Rattle.std.proofs.Common.{Some, None, ap, arith, sym}
use Rattle.std.specs.Option.{is_none}
use Rattle.pl_base.specs.declared.date.Micros.{Micros}
use Rattle.pl_base.specs.declared.id.PageId.{PageId}
use Rattle.pl_base.specs.declared.id.VisitId.{VisitId}
use Rattle.pl_base.specs.declared.transition.Transition.{Transition}
use Rattle.pl_base.specs.declared.transition.Transition.TheVariants.{Link}
use Rattle.pl_base.specs.Good.{end_of_ids}
use Rattle.pl_base.specs.Live.{live_slots, slot_limit}
use Rattle.pl_base.specs.Rows.{IsWellKept, Kept, store_of}
use Rattle.pl_base.specs.Store.{Page}
use Rattle.pl_history.specs.declared.find.Target.{Target}
use Rattle.pl_history.specs.declared.find.Target.TheVariants.{Known, New}
use Rattle.pl_base.specs.Visiting.{after_visit, find_page, page_for, with_page_for}
use Rattle.pl_step.specs.Step.{is_full}
use Rattle.pl_history.specs.Target.{HasRoom, IsTargetOf, WithTarget, is_new}
use Rattle.pl_history.proofs.LiveAfter.{live_visited}
use Rattle.pl_history.proofs.Targets.{found_page}
use Rattle.pl_done.proofs.VisitSlots.{below_last, slots_page, within_limit}

-- ---- slots

-- the slots as they are reckoned: those after a visit to the URL, and so many more
pub record AreSlots (kept : Kept) (url : List ℕ) (more slots : ℕ) : Type 0 where
  pub visit : ℕ
  pub after : (transition : Transition) → (date : Micros)
      → visit ≡ live_slots (after_visit (store_of kept) url transition date None)
  pub grows : live_slots (store_of kept) < visit
  pub is : slots ≡ visit + more

pub are_slots : (kept : Kept) (url : List ℕ) (more visit told : ℕ)
    → ((transition : Transition) → (date : Micros) → (source : Option VisitId)
    → visit ≡ live_slots (after_visit (store_of kept) url transition date source))
    → live_slots (store_of kept) < visit → told ≡ more → AreSlots kept url more (visit + told)
are_slots kept url more visit told after grows is =
    record {
      visit = visit;
      after = λ transition date. after transition date None;
      grows = grows;
      is = ap (λ (n : ℕ). visit + n) is;
    }

-- a visit of any kind takes as many
pub visit_slots : (kept : Kept) (url : List ℕ) (more slots : ℕ) → (s : AreSlots kept url more slots)
    → s.visit ≡ live_slots (with_page_for (store_of kept) url) + 1
visit_slots kept url more slots s =
    s.after Link (record { 0 = 0 })
    ∙ live_visited (page_for (store_of kept) url).id Link (record { 0 = 0 }) None (with_page_for (store_of kept) url)

pub few_slots : (limit : ℕ) (kept : Kept) (url : List ℕ) (more slots : ℕ) → AreSlots kept url more slots
    → is_full limit (live_slots (store_of kept)) slots ≡ false → slots ≤ limit
few_slots limit kept url more slots s few =
    within_limit limit (live_slots (store_of kept)) slots (omega (arith, s.is, s.grows)) few

-- ---- the page

-- a new page has an id and its slots
pub page_room : (limit : ℕ) (kept : Kept) (url : List ℕ) (target : Target) (more slots : ℕ) → IsWellKept kept
    → IsTargetOf kept url target → AreSlots kept url more slots
    → (is_new target && (kept.ids.page == end_of_ids)) ≡ false
    → is_full limit (live_slots (store_of kept)) slots ≡ false → limit ≤ slot_limit → HasRoom url target kept
page_room limit kept url (Known id) more slots h of s page few most = tt
page_room limit kept url (New origin) more slots h of s page few most = (
  below_last kept.ids.page end_of_ids h.page_ids.next_last page,
  omega (
    arith,
    s.is,
    s.after Link (record { 0 = 0 }),
    slots_page kept url origin Link (record { 0 = 0 }) None of,
    few_slots limit kept url more slots s few,
  ),
)

pub new_is : (kept : Kept) (url : List ℕ) (target : Target) → IsTargetOf kept url target
    → is_new target ≡ is_none (find_page url (store_of kept).pages)
new_is kept url (Known id) of = sym (ap (λ (o : Option Page). is_none o) (found_page kept url id of).there)
new_is kept url (New origin) of = sym (ap (λ (o : Option Page). is_none o) of.0)

-- the page does not bear on the items' next id
pub next_item : (kept mid : Kept) (url : List ℕ) (target : Target) (page : PageId)
    → WithTarget url target kept mid page → mid.ids.item ≡ kept.ids.item
next_item kept mid url (Known id) page with = ap (λ (k : Kept). k.ids.item) with.1
next_item kept mid url (New (Some origin)) page with = ap (λ (k : Kept). k.ids.item) with.1
next_item kept mid url (New None) page with = ap (λ (k : Kept). k.ids.item) with.1.1
