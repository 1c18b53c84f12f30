-- The slots that a visit takes, and numbers that are small enough.
use Rattle.std.proofs.Common.{◌≡◌, ◌+◌, ◌<◌, ◌≤◌, ◌&&◌, ℕ, false, List, Option, arith, eqb, ltb}
use Rattle.std.proofs.lemmas.Bool.Decides.{nat_tests}
use Rattle.pl_base.specs.declared.date.Micros.{Micros}
use Rattle.pl_base.specs.declared.id.Slot.{Slot}
use Rattle.pl_base.specs.declared.id.VisitId.{VisitId}
use Rattle.pl_base.specs.declared.transition.Transition.{Transition}
use Rattle.pl_base.specs.Live.{live_slots}
use Rattle.pl_base.specs.Rows.{Kept, live_with_page, store_of}
use Rattle.pl_base.specs.Visiting.{after_visit}
use Rattle.pl_history.specs.declared.find.Target.{Target}
use Rattle.pl_history.specs.declared.find.Target.TheVariants.{Known, New}
use Rattle.pl_history.specs.Target.{IsTargetOf}
use Rattle.pl_history.proofs.LiveAfter.{live_page}
use Rattle.pl_history.proofs.Targets.{has_origin, slots_known, slots_new}

pub below_last : (n last : ℕ) → n ≤ last → eqb n last ≡ false → n < last
below_last n last le apart = grind (arith, nat_tests)

pub within_limit : (limit before after : ℕ) → before < after → (ltb limit after && ltb before after) ≡ false
    → after ≤ limit
within_limit limit before after grows full = grind (arith, nat_tests)

pub grows : (kept : Kept) (url : List ℕ) (target : Target) (transition : Transition) (date : Micros)
    (source : Option VisitId)
    → IsTargetOf kept url target
    → live_slots (store_of kept) < live_slots (after_visit (store_of kept) url transition date source)
grows kept url (Known id) transition date source target =
    omega (arith, slots_known kept url id transition date source target)
grows kept url (New origin) transition date source target =
    omega (arith, slots_new kept url origin transition date source target)

pub slots_page : (kept : Kept) (url : List ℕ) (origin : Option Slot) (transition : Transition) (date : Micros)
    (source : Option VisitId)
    → IsTargetOf kept url (New origin)
    → live_with_page url kept + 1 ≡ live_slots (after_visit (store_of kept) url transition date source)
slots_page kept url origin transition date source target =
    omega (
      arith,
      live_page kept url,
      has_origin kept url origin target.1,
      slots_new kept url origin transition date source target,
    )
