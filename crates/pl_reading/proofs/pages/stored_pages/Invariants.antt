use Rattle.std.proofs.Common.{take}
use Rattle.std.specs.List.{AllZip}
use Rattle.pl_reading.specs.Read.{IsPageRead}
use Rattle.pl_reading.proofs.pages.stored_pages.Given as goal

abbrev pub invariant-loop-place : goal.invariant-loop-place
invariant-loop-place g l = AllZip (IsPageRead l.arena) (take l.place-index l.places) l.pages.items
