use Rattle.std.proofs.Common.{◌≡◌, ℕ, List, ap, arith, length, subst, sym}
use Rattle.pl_base.specs.declared.id.Slot.{Slot}
use Rattle.pl_record.proofs.Bases.{no_fewer}
use Rattle.pl_record.proofs.ChainMapsKept.{stored_chains}
use Rattle.pl_record.proofs.PlaceTaken.{inserts_place, origin_stored, place_refused}
use Rattle.pl_record.proofs.page_slots.insert_place.Goals as goal
use Rattle.pl_sheets.specs.Sheets.{Pages}
use Rattle.pl_slot.specs.Arena.{IsArena}
use Rattle.pl_text.specs.Chunks.{FreesSlots, Hold, StoresText, pages_of}
use Rattle.pl_text.proofs.Storing.{stored_count}

-- the bytes that are stored are those of the URL
stores : (slot : Slot) (bytes url : List ℕ) (old new : Pages) → bytes ≡ url → StoresText slot bytes old new
    → StoresText slot url old new
stores slot bytes url old new same stored = subst (λ text. StoresText slot text old new) same stored

pub take_place-requires-clause-origin : goal.take_place-requires-clause-origin
take_place-requires-clause-origin g c =
    origin_stored c.as_bytes.result.now c.in_ok-store.field-0 c.args.arena.now c.store.new.arena
    c.in_ok-store.ensures.stored c.args.origin c.requires.origin

pub take_place-requires-clause-few : goal.take_place-requires-clause-few
take_place-requires-clause-few g c =
    omega (
      arith,
      stored_count c.in_ok-store.field-0 c.as_bytes.result.now c.args.arena.now c.store.new.arena
          c.in_ok-store.ensures.stored,
      c.requires.few,
      ap (λ (l : List ℕ). length l) c.as_bytes.ensures.value,
    )

pub take_place-requires-clause-chained : goal.take_place-requires-clause-chained
take_place-requires-clause-chained g c =
    let chains = c.requires.chained in (
      chains.0,
      stored_chains chains.0 c.in_ok-store.field-0 c.as_bytes.result.now c.args.arena.now c.store.new.arena chains.1
          c.in_ok-store.ensures.stored c.store.ensures.header,
      chains.2,
    )

pub returns-in-Ok-clause-inserted : goal.returns-in-Ok-clause-inserted
returns-in-Ok-clause-inserted g c =
    let text =
    stores c.in_ok-store.field-0 c.as_bytes.result.now c.args.url.now c.args.arena.now c.store.new.arena
    c.as_bytes.ensures.value c.in_ok-store.ensures.stored in
    let whole = c.pages.ensures.arena in
    inserts_place c.args.url.now c.in_ok-store.field-0 c.args.arena.now c.store.new.arena text c.args.page c.args.origin
    c.in-Ok.slot c.take_place.new.arena c.in-Ok.ensures.taken c.store.ensures.header
    (no_fewer (pages_of text.slots) c.args.arena.now c.store.new.arena whole.whole (c.store.ensures.arena whole).whole
    text.pages)

pub returns-in-Err-clause-err : goal.returns-in-Err-clause-err
returns-in-Err-clause-err g c =
    let same = c.in-Err.ensures.err in
    let text = c.in_ok-store.ensures.stored in
    place_refused c.as_bytes.result.now c.in_ok-store.field-0 c.args.arena.now c.store.new.arena text c.free.new.arena
    c.store.ensures.header
    (subst (λ pages. FreesSlots text.slots pages c.free.new.arena) same
    (c.free.ensures.freed text.slots c.as_bytes.result.now text.first
    (subst (λ pages. Hold text.slots c.as_bytes.result.now pages) (sym same) text.held)))
    (λ whole. c.free.ensures.arena (subst IsArena (sym same) (c.store.ensures.arena whole)))
