use Rattle.std.proofs.Common.{◌≡◌, ℕ, List, ap, arith, length, subst, sym}
use Rattle.pl_base.specs.declared.id.Slot.{Slot}
use Rattle.pl_record.proofs.Bases.{no_fewer}
use Rattle.pl_record.proofs.ChainMapsKept.{stored_chains}
use Rattle.pl_record.proofs.ItemStored.{after_stored, inserts_item, item_refused, page_stored, parent_stored}
use Rattle.pl_record.proofs.item_slots.taking.insert_item.Goals as goal
use Rattle.pl_rail.specs.declared.owner.Owner.TheVariants.{At}
use Rattle.pl_sheets.specs.Sheets.{Pages}
use Rattle.pl_slot.specs.Arena.{IsArena}
use Rattle.pl_text.specs.Chunks.{FreesSlots, Hold, StoresText, pages_of}
use Rattle.pl_text.proofs.Storing.{stored_count}

-- the bytes that are stored are those of the title
stores : (slot : Slot) (bytes title : List ℕ) (old new : Pages) → bytes ≡ title → StoresText slot bytes old new
    → StoresText slot title old new
stores slot bytes title old new same stored = subst (λ text. StoresText slot text old new) same stored

pub take_item-requires-clause-parent : goal.take_item-requires-clause-parent
take_item-requires-clause-parent g c =
    parent_stored c.as_bytes.result.now c.in_ok-store.field-0 c.args.arena.now c.store.new.arena
    c.in_ok-store.ensures.stored c.args.item.parent c.requires.parent

pub take_item-requires-clause-page : goal.take_item-requires-clause-page
take_item-requires-clause-page g c =
    page_stored c.as_bytes.result.now c.in_ok-store.field-0 c.args.arena.now c.store.new.arena
    c.in_ok-store.ensures.stored c.args.item.page c.requires.page

pub take_item-requires-clause-after : goal.take_item-requires-clause-after
take_item-requires-clause-after g c =
    let chains = c.requires.chained in
    after_stored c.as_bytes.result.now c.in_ok-store.field-0 c.args.arena.now c.store.new.arena
    c.in_ok-store.ensures.stored chains.0 chains.1 c.store.ensures.header (At c.args.item.parent) c.args.after
    c.requires.after

pub take_item-requires-clause-few : goal.take_item-requires-clause-few
take_item-requires-clause-few g c =
    omega (
      arith,
      stored_count c.in_ok-store.field-0 c.as_bytes.result.now c.args.arena.now c.store.new.arena
          c.in_ok-store.ensures.stored,
      c.requires.few,
      ap (λ (l : List ℕ). length l) c.as_bytes.ensures.value,
    )

pub take_item-requires-clause-chained : goal.take_item-requires-clause-chained
take_item-requires-clause-chained g c =
    let chains = c.requires.chained in (
      chains.0,
      stored_chains chains.0 c.in_ok-store.field-0 c.as_bytes.result.now c.args.arena.now c.store.new.arena chains.1
          c.in_ok-store.ensures.stored c.store.ensures.header,
      chains.2,
      chains.3,
    )

pub returns-in-Ok-clause-inserted : goal.returns-in-Ok-clause-inserted
returns-in-Ok-clause-inserted g c =
    let text =
    stores c.in_ok-store.field-0 c.as_bytes.result.now c.args.title.now c.args.arena.now c.store.new.arena
    c.as_bytes.ensures.value c.in_ok-store.ensures.stored in
    let whole = c.pages.ensures.arena in
    inserts_item c.args.title.now c.in_ok-store.field-0 c.args.arena.now c.store.new.arena text c.args.item c.args.after
    c.in-Ok.slot c.take_item.new.arena c.in-Ok.ensures.taken c.store.ensures.header
    (no_fewer (pages_of text.slots) c.args.arena.now c.store.new.arena whole.whole (c.store.ensures.arena whole).whole
    text.pages)

pub returns-in-Err-clause-err : goal.returns-in-Err-clause-err
returns-in-Err-clause-err g c =
    let same = c.in-Err.ensures.err in
    let text = c.in_ok-store.ensures.stored in
    item_refused c.as_bytes.result.now c.in_ok-store.field-0 c.args.arena.now c.store.new.arena text c.free.new.arena
    c.store.ensures.header
    (subst (λ pages. FreesSlots text.slots pages c.free.new.arena) same
    (c.free.ensures.freed text.slots c.as_bytes.result.now text.first
    (subst (λ pages. Hold text.slots c.as_bytes.result.now pages) (sym same) text.held)))
    (λ whole. c.free.ensures.arena (subst IsArena (sym same) (c.store.ensures.arena whole)))
