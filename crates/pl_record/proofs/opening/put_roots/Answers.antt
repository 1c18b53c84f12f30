use Rattle.std.proofs.Common.{◌≡◌, ◌∙◌, ℕ, refl, take}
use Rattle.pl_sheets.specs.Sheets.{Pages, with_bytes}
use Rattle.pl_slot.specs.declared.row.SlotRow.{SlotRow}
use Rattle.pl_slot.specs.declared.row.SlotRow.TheVariants.{Free}
use Rattle.pl_slot.specs.Slot.{slot_bytes}
use Rattle.pl_rail.specs.Rails.{none}
use Rattle.pl_record.specs.Opening.{opening_rows, root_row, slot, with_rows}
use Rattle.pl_record.proofs.opening.put_roots.Goals as goal

-- a row is put behind those before
step : (n : ℕ) (row other : SlotRow) (old so_far new : Pages) → new ≡ with_bytes 2 n (slot_bytes row) old → row ≡ other
    → old ≡ so_far → new ≡ with_bytes 2 n (slot_bytes other) so_far
step n row other old so_far new put same before = put ∙ (λ i. with_bytes 2 n (slot_bytes (same i)) (before i))

pub returns : goal.returns
returns c =
    let s1 : c.put.new.sheets ≡ with_rows 0 (take 1 opening_rows) c.args.sheets.now =
    step 0 c.root.result (root_row 1 0 2 0 0 0 2 6) c.args.sheets.now c.args.sheets.now c.put.new.sheets c.put.ensures.put c.root.ensures refl in
    let s2 : c.put-2.new.sheets ≡ with_rows 0 (take 2 opening_rows) c.args.sheets.now =
    step 128 c.root-2.result (root_row 2 1 3 1 0 3 0 0) c.put.new.sheets (with_rows 0 (take 1 opening_rows) c.args.sheets.now) c.put-2.new.sheets c.put-2.ensures.put c.root-2.ensures s1 in
    let s3 : c.put-3.new.sheets ≡ with_rows 0 (take 3 opening_rows) c.args.sheets.now =
    step 256 c.root-3.result (root_row 3 2 4 1 2 4 0 0) c.put-2.new.sheets (with_rows 0 (take 2 opening_rows) c.args.sheets.now) c.put-3.new.sheets c.put-3.ensures.put c.root-3.ensures s2 in
    let s4 : c.put-4.new.sheets ≡ with_rows 0 (take 4 opening_rows) c.args.sheets.now =
    step 384 c.root-4.result (root_row 4 3 5 1 3 5 0 0) c.put-3.new.sheets (with_rows 0 (take 3 opening_rows) c.args.sheets.now) c.put-4.new.sheets c.put-4.ensures.put c.root-4.ensures s3 in
    let s5 : c.put-5.new.sheets ≡ with_rows 0 (take 5 opening_rows) c.args.sheets.now =
    step 512 c.root-5.result (root_row 5 4 6 1 4 6 0 0) c.put-4.new.sheets (with_rows 0 (take 4 opening_rows) c.args.sheets.now) c.put-5.new.sheets c.put-5.ensures.put c.root-5.ensures s4 in
    let s6 : c.put-6.new.sheets ≡ with_rows 0 (take 6 opening_rows) c.args.sheets.now =
    step 640 c.root-6.result (root_row 6 5 0 1 5 0 0 0) c.put-5.new.sheets (with_rows 0 (take 5 opening_rows) c.args.sheets.now) c.put-6.new.sheets c.put-6.ensures.put c.root-6.ensures s5 in
    let s7 : c.put-7.new.sheets ≡ with_rows 0 (take 7 opening_rows) c.args.sheets.now =
    step 768 (Free (slot 8)) (Free (slot 8)) c.put-6.new.sheets (with_rows 0 (take 6 opening_rows) c.args.sheets.now) c.put-7.new.sheets c.put-7.ensures.put refl s6 in
    let s8 : c.put-8.new.sheets ≡ with_rows 0 (take 8 opening_rows) c.args.sheets.now =
    step 896 (Free none) (Free none) c.put-7.new.sheets (with_rows 0 (take 7 opening_rows) c.args.sheets.now) c.put-8.new.sheets c.put-8.ensures.put refl s7 in
    s8
