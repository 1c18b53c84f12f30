-- The calls of a record, as the definitions see them.
use Rattle.std.specs.Prelude.{List, map}
use Rattle.pl_desk.specs.declared.record.Deed.{Deed as DeedInMemory}
use Rattle.pl_desk.specs.declared.record.Deed.TheVariants.{Nothing, Wrote, Tore, Synced}
use Rattle.pl_desk.specs.declared.record.Recorded.{Recorded as RecordedInMemory}
use Rattle.pl_desk.specs.MemDesk.{Deed, nothing, wrote, tore, synced, Recorded}

-- what a call did, without where its bytes lie in memory
abbrev pub deed_of : DeedInMemory → Deed
deed_of Nothing = nothing
deed_of (Wrote at bytes) = wrote at bytes.items
deed_of (Tore at len) = tore at len
deed_of Synced = synced

-- a call without where its bytes lie in memory
abbrev pub call_of : RecordedInMemory → Recorded
call_of call = record { said_before = call.said_before; deed = deed_of call.deed }

-- all the calls of a record
abbrev pub calls_of : List RecordedInMemory → List Recorded
calls_of calls = map call_of calls
