-- How many visits, items and live slots linked rows have.
use Rattle.std.proofs.Common.{◌≡◌, ◌≤◌, ◌∙◌, ap, arith, length}
use Rattle.std.proofs.Props.{props}
use Rattle.std.proofs.lemmas.List.{length-map}
use Rattle.pl_base.specs.Live.{live_slots, slot_limit}
use Rattle.pl_base.specs.Rows.{store_of}
use Rattle.pl_base.specs.Store.{Item, Visit}
use Rattle.pl_record.specs.LinkedRows.{Entries, Keeps}
use Rattle.pl_record.proofs.Kept.{so}
use Rattle.pl_record.proofs.RowsKept as rows
use Rattle.pl_sheets.specs.Sheets.{Pages}
use Rattle.pl_slot.specs.Arena.{header_of}

module _ (sheets : Pages) (pages visits items : Entries) (k : Keeps sheets pages visits items) where
  pub live_told : (header_of sheets).live ≡ live_slots (store_of k.kept)
  live_told = so sheets pages visits items k (Prim.hlevel props) (λ l. l.laid.header.live)

  few : live_slots (store_of k.kept) ≤ slot_limit
  few = (rows.well_kept sheets pages visits items k).live

  pub visits_counted : length visits ≡ length k.kept.visits
  visits_counted =
      so sheets pages visits items k (Prim.hlevel props)
      (λ l. ap length l.indexed.visits ∙ length-map k.kept.visits (λ (v : Visit). (v.id.0, l.at.visit v.id)))

  pub few_visits : length visits ≤ slot_limit
  few_visits = omega (arith, visits_counted, few)

  pub items_counted : length items ≡ length k.kept.items
  items_counted =
      so sheets pages visits items k (Prim.hlevel props)
      (λ l. ap length l.indexed.items ∙ length-map k.kept.items (λ (i : Item). (i.id.0, l.at.item i.id)))

  pub few_items : length items ≤ slot_limit
  few_items = omega (arith, items_counted, few)
