-- What is there, by what the rows tell of it, and that a page has its slots.
use Rattle.std.proofs.Common.{◌+◌, ◌<◌, ◌≤◌, ℕ, Bool, true, false, List, arith}
use Rattle.std.proofs.Common.{if◌then◌else◌}
use Rattle.std.specs.List.{list_any}
use Rattle.pl_base.specs.Address.{same_origin}
use Rattle.pl_base.specs.Good.{end_of_ids}
use Rattle.pl_base.specs.Live.{chunks, live_slots, slot_limit}
use Rattle.pl_base.specs.Rows.{Kept, KeptPage, store_of}
use Rattle.pl_history.specs.declared.find.Target.{Target}
use Rattle.pl_history.specs.declared.find.Target.TheVariants.{Known, New}
use Rattle.pl_history.specs.Target.{HasRoom}
use Rattle.pl_history.proofs.LiveAfter.{live_page}

pub room_page : (url : List ℕ) (target : Target) (kept : Kept) → kept.ids.page < end_of_ids
    → live_slots (store_of kept) + (chunks url + 2) ≤ slot_limit → HasRoom url target kept
room_page url (Known page) kept id room = tt
room_page url (New origin) kept id room = (
  id,
  omega (
    arith,
    live_page kept url,
    at_most (list_any (λ (p : KeptPage). same_origin p.page.url url) kept.pages),
    room,
  ),
)
  where
    at_most : (b : Bool) → (if b then 0 else 1) ≤ 1
    at_most true = omega arith
    at_most false = omega arith
