use Rattle.std.specs.Str.{bytes_eq}
use Rattle.std.proofs.lemmas.Bool.{not-false, not-true}
use Rattle.std.proofs.Common.{◌≡◌, Some, false, true, ap, not, sym, ◌∙◌}
use Rattle.std.proofs.lemmas.Bool.{true≢false}
use Rattle.std.proofs.lemmas.Slice.Eq.{bytes_eq-Decides}
use Rattle.pl_slot.specs.Slot.{slot_bytes}
use Rattle.pl_slot.proofs.RowsRead.{row_is, row_missing, row_refused, row_told}
use Rattle.pl_slot.proofs.reading.decode.Goals as goal

pub returns-clause-whole : goal.returns-clause-whole
returns-clause-whole c row fits spelled =
    ap Some (row_is c.args.bytes.now c.in_ok-row.row row c.in_ok-row.ensures.row fits spelled)

pub returns-then-ne-clause-whole : goal.returns-then-ne-clause-whole
returns-then-ne-clause-whole c row fits spelled =
    let same = row_is c.args.bytes.now c.in_ok-row.row row c.in_ok-row.ensures.row fits spelled in
    let bytes = c.encode.ensures ∙ ap slot_bytes same ∙ sym spelled in
    let told = sym c.if-ne.true ∙ c.ne.ensures ∙ ap not ((bytes_eq-Decides c.encode.result c.args.bytes.now).1 bytes) in
    absurd (true≢false told)

pub returns-in_err-row-clause-spelled : goal.returns-in_err-row-clause-spelled
returns-in_err-row-clause-spelled c =
    c.from_residual.ensures ∙ row_missing c.args.bytes.now c.in_err-row.ensures.row

pub returns-then-ne-clause-spelled : goal.returns-then-ne-clause-spelled
returns-then-ne-clause-spelled c =
    let other : bytes_eq c.encode.result c.args.bytes.now ≡ false = not-true _ (sym c.ne.ensures ∙ c.if-ne.true) in
    row_refused c.args.bytes.now c.in_ok-row.row c.in_ok-row.ensures.row
    (ap (λ l. bytes_eq l c.args.bytes.now) (sym c.encode.ensures) ∙ other)

pub returns-clause-spelled : goal.returns-clause-spelled
returns-clause-spelled c =
    let same : bytes_eq c.encode.result c.args.bytes.now ≡ true = not-false _ (sym c.ne.ensures ∙ c.if-ne.false) in
    row_told c.args.bytes.now c.in_ok-row.row c.in_ok-row.ensures.row
    (ap (λ l. bytes_eq l c.args.bytes.now) (sym c.encode.ensures) ∙ same)
