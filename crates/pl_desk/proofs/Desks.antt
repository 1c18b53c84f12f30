-- What one call more does to a desk in memory.
use Rattle.std.proofs.Common.{◌≡◌, ◌+◌, ◌≤◌, Some, List, [], ◌∷◌, ◌++◌, length, All, refl, arith}
use Rattle.pl_desk.specs.Desk.{Follows, Elapses, Shows}
use Rattle.pl_desk.specs.MemDesk.{Deed, Recorded, DeskState, after_deed, written_by, Takes, written_in, begun_at}
use Rattle.pl_desk.specs.MemDesk.{held_by, MayLeave, ShownSince, with_call}
use Rattle.pl_desk.specs.Stopped.{IsQuiet}
use Rattle.pl_desk.proofs.Clock.{passes}
use Rattle.pl_desk.proofs.ReplayLaws.{file_after_push, reaches_push}

pub held_after : (desk : DeskState) (deed : Deed) → held_by (with_call desk deed) ≡ after_deed deed (held_by desk)
held_after desk deed = file_after_push desk.first desk.calls (record { said_before = length desk.said; deed = deed })

written_push : (calls : List Recorded) (call : Recorded)
    → written_in (calls ++ call ∷ []) ≡ written_in calls + written_by call.deed
written_push [] call = omega arith
written_push (c ∷ calls) call = omega (arith, written_push calls call)

pub written_after : (desk : DeskState) (deed : Deed)
    → written_in (with_call desk deed).calls ≡ written_in desk.calls + written_by deed
written_after desk deed = written_push desk.calls (record { said_before = length desk.said; deed = deed })

pub left_after : (desk : DeskState) (deed : Deed)
    → Follows (Takes deed (held_by desk)) (MayLeave desk) (MayLeave (with_call desk deed))
left_after desk deed file left =
    reaches_push desk.first desk.first desk.calls (record { said_before = length desk.said; deed = deed }) file left

-- each call began when no more had been said than now
abbrev pub Begun : DeskState → Type 0
Begun desk = All (λ n. n ≤ length desk.said) (begun_at desk.calls)

-- no call that does something to the file says anything
abbrev pub Quiet : DeskState → Type 0
Quiet desk = IsQuiet desk.calls desk.said

pub time_after : (desk : DeskState) (deed : Deed) → Begun desk
    → Elapses (length desk.calls) (length (with_call desk deed).calls) (ShownSince desk)
    (ShownSince (with_call desk deed)) (Shows (MayLeave (with_call desk deed)) (Some desk.said))
time_after desk deed begun =
    passes desk.first desk.calls desk.said [] (record { said_before = length desk.said; deed = deed }) refl begun refl
