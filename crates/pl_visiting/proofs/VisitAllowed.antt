-- What holds where a visit is not refused.
use Rattle.std.proofs.Common.{◌≡◌, ◌∙◌, ◌<◌, ◌≤◌, ◌==◌, ◌&&◌, ℕ, Bool, true, false, List, Option}
use Rattle.std.proofs.Common.{Some, None, IfSome, ap, arith, if◌then◌else◌, refl, sym}
use Rattle.std.specs.List.{list_any}
use Rattle.std.specs.Option.{is_none, option_or}
use Rattle.pl_base.specs.declared.date.Micros.{Micros}
use Rattle.pl_base.specs.declared.id.IdKind.TheVariants.{Page as PageKind, Visit as VisitKind}
use Rattle.pl_base.specs.declared.id.PageId.{PageId}
use Rattle.pl_base.specs.declared.id.VisitId.{VisitId}
use Rattle.pl_base.specs.declared.refusal.Refusal.{Refusal}
use Rattle.pl_base.specs.declared.refusal.Refusal.TheVariants.{NotRecorded, NoVisit, Full, NoIds}
use Rattle.pl_base.specs.declared.transition.Transition.{Transition}
use Rattle.pl_base.specs.Address.{is_unrecorded_url}
use Rattle.pl_base.specs.Good.{end_of_ids}
use Rattle.pl_base.specs.Live.{live_slots, slot_limit}
use Rattle.pl_base.specs.Rows.{IsWellKept, Kept, has_visit, store_of, visit_at}
use Rattle.pl_base.specs.Store.{Page, Store, Visit}
use Rattle.pl_history.specs.declared.find.Target.{Target}
use Rattle.pl_history.specs.declared.find.Target.TheVariants.{Known, New}
use Rattle.pl_base.specs.Visiting.{after_visit, find_page}
use Rattle.pl_base.proofs.LookUps.{found_some}
use Rattle.pl_step.specs.Step.{is_full, source_refusal, visit_refusal}
use Rattle.pl_history.specs.Target.{HasRoom, IsTargetOf, WithTarget}
use Rattle.pl_history.proofs.Targets.{slots_known}
use Rattle.pl_history.proofs.VisitRows.{store-with_page, store_with_page}
use Rattle.pl_done.proofs.VisitSlots.{below_last, grows, slots_page, within_limit}

-- ---- no cause to refuse it

none_of : (a b c d : Bool) (source : Option Refusal) (r s t u : Refusal)
    → (if a then Some r else option_or source (if b then Some s else if c then Some t else if d then Some u else None))
    ≡ None → (source ≡ None) × (b ≡ false) × (c ≡ false) × (d ≡ false)
none_of true b c d source r s t u none = absurd (cc)
none_of false b c d (Some refusal) r s t u none = absurd (cc)
none_of false true c d None r s t u none = absurd (cc)
none_of false false true d None r s t u none = absurd (cc)
none_of false false false true None r s t u none = absurd (cc)
none_of false false false false None r s t u none = (refl, refl, refl, refl)

-- the source stands, and there are ids and slots
record IsAllowed (limit : ℕ) (store : Store) (url : List ℕ) (after : ℕ) (from : Option VisitId) : Type 0 where
  pub source : source_refusal store from ≡ None
  pub page : (is_none (find_page url store.pages) && (store.ids.page == end_of_ids)) ≡ false
  pub visit : (store.ids.visit == end_of_ids) ≡ false
  pub slots : is_full limit (live_slots store) after ≡ false

allowed : (limit : ℕ) (kept : Kept) (url : List ℕ) (transition : Transition) (date : Micros) (source : Option VisitId)
    → visit_refusal limit (store_of kept) url transition date source ≡ None
    → IsAllowed limit (store_of kept) url (live_slots (after_visit (store_of kept) url transition date source)) source
allowed limit kept url transition date source none =
    let slots : ℕ = live_slots (after_visit (store_of kept) url transition date source) in
    let parts =
    none_of (is_unrecorded_url url) (is_none (find_page url (store_of kept).pages) && (kept.ids.page == end_of_ids))
    (kept.ids.visit == end_of_ids) (is_full limit (live_slots (store_of kept)) slots)
    (source_refusal (store_of kept) source) NotRecorded (NoIds PageKind) (NoIds VisitKind) (Full slots) none in
    record { source = parts.0; page = parts.1; visit = parts.2; slots = parts.3 }

same_visits : (kept mid : Kept) (url : List ℕ) (target : Target) (page : PageId) → WithTarget url target kept mid page
    → mid.visits ≡ kept.visits
same_visits kept mid url (Known id) page with = ap (λ (k : Kept). k.visits) with.1
same_visits kept mid url (New (Some origin)) page with = ap (λ (k : Kept). k.visits) with.1
same_visits kept mid url (New None) page with = ap (λ (k : Kept). k.visits) with.1.1

-- the source stands among the rows
pub has_source : (limit : ℕ) (kept mid : Kept) (url : List ℕ) (target : Target) (page : PageId)
    (transition : Transition) (date : Micros) (source : Option VisitId) → WithTarget url target kept mid page
    → visit_refusal limit (store_of kept) url transition date source ≡ None
    → IfSome source (λ id. has_visit mid id ≡ true)
has_source limit kept mid url target page transition date source with none =
    stands source (allowed limit kept url transition date source none).source
  where
    found : (id : VisitId) (o : Option Visit) → visit_at kept id ≡ o
        → (if is_none o then Some (NoVisit id) else None) ≡ None → has_visit kept id ≡ true
    found id None at none = absurd (cc)
    found id (Some v) at none = found_some (λ (w : Visit). w.id.0 == id.0) kept.visits v at

    stands : (source : Option VisitId) → source_refusal (store_of kept) source ≡ None
        → IfSome source (λ id. has_visit mid id ≡ true)
    stands None none = tt
    stands (Some id) none =
        ap (list_any (λ (w : Visit). w.id.0 == id.0)) (same_visits kept mid url target page with)
        ∙ found id (visit_at kept id) refl none

few_slots : (limit : ℕ) (kept : Kept) (url : List ℕ) (target : Target) (transition : Transition) (date : Micros)
    (source : Option VisitId)
    → IsTargetOf kept url target → visit_refusal limit (store_of kept) url transition date source ≡ None
    → live_slots (after_visit (store_of kept) url transition date source) ≤ limit
few_slots limit kept url target transition date source of none =
    within_limit limit (live_slots (store_of kept))
    (live_slots (after_visit (store_of kept) url transition date source))
    (grows kept url target transition date source of) (allowed limit kept url transition date source none).slots

pub has_room : (limit : ℕ) (kept : Kept) (url : List ℕ) (target : Target) (transition : Transition) (date : Micros)
    (source : Option VisitId) → IsWellKept kept → IsTargetOf kept url target
    → visit_refusal limit (store_of kept) url transition date source ≡ None → limit ≤ slot_limit
    → HasRoom url target kept
has_room limit kept url (Known id) transition date source h of none most = tt
has_room limit kept url (New origin) transition date source h of none most = (
  below_last kept.ids.page end_of_ids h.page_ids.next_last
      (ap (λ (o : Option Page). is_none o && (kept.ids.page == end_of_ids)) (sym of.0)
      ∙ (allowed limit kept url transition date source none).page),
  omega (
    arith,
    slots_page kept url origin transition date source of,
    few_slots limit kept url (New origin) transition date source of none,
  ),
)

visit_id : (kept mid : Kept) (url : List ℕ) (target : Target) (page : PageId) → WithTarget url target kept mid page
    → mid.ids.visit ≡ kept.ids.visit
visit_id kept mid url (Known id) page with = ap (λ (k : Kept). k.ids.visit) with.1
visit_id kept mid url (New (Some origin)) page with = ap (λ (k : Kept). k.ids.visit) with.1
visit_id kept mid url (New None) page with = ap (λ (k : Kept). k.ids.visit) with.1.1

pub has_id : (limit : ℕ) (kept mid : Kept) (url : List ℕ) (target : Target) (page : PageId) (transition : Transition)
    (date : Micros) (source : Option VisitId) → IsWellKept kept → WithTarget url target kept mid page
    → visit_refusal limit (store_of kept) url transition date source ≡ None → mid.ids.visit < end_of_ids
has_id limit kept mid url target page transition date source h with none =
    let last : kept.ids.visit < end_of_ids =
    below_last kept.ids.visit end_of_ids h.visit_ids.next_last
    (allowed limit kept url transition date source none).visit in
    omega (arith, visit_id kept mid url target page with)

pub has_slot : (limit : ℕ) (kept mid : Kept) (url : List ℕ) (target : Target) (page : PageId) (transition : Transition)
    (date : Micros) (source : Option VisitId) → IsTargetOf kept url target → WithTarget url target kept mid page
    → visit_refusal limit (store_of kept) url transition date source ≡ None → limit ≤ slot_limit
    → live_slots (store_of mid) < slot_limit
has_slot limit kept mid url (Known id) page transition date source of with none most =
    omega (
      arith,
      ap (λ (k : Kept). live_slots (store_of k)) with.1,
      slots_known kept url id transition date source of,
      few_slots limit kept url (Known id) transition date source of none,
    )
has_slot limit kept mid url (New origin) page transition date source of with none most =
    omega (
      arith,
      ap live_slots (store_with_page kept mid url origin with.1 ∙ sym (store-with_page kept url (record { 0 = 0 }))),
      slots_page kept url origin transition date source of,
      few_slots limit kept url (New origin) transition date source of none,
    )
