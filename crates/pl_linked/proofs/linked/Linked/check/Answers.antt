use Rattle.std.proofs.Common.{◌≡◌, ◌↔◌, ◌∙◌, ap, subst, sym}
use Rattle.std.proofs.lemmas.Result.{err_from_is_err_and}
use Rattle.pl_base.specs.Rows.{store_of}
use Rattle.pl_linked.proofs.Checked.{base_read, bytes_again, form_slots, no_store}
use Rattle.pl_linked.proofs.linked.Linked.check.Goals as goal
use Rattle.pl_reading.specs.File.{stored_bytes, stored_pages}
use Rattle.pl_record.specs.Form.{IsForm, StandsFor, bytes_in}
use Rattle.pl_record.specs.LinkedRows.{IsBaseOf}
use Rattle.pl_record.proofs.Standing.{one_store, stands}
use Rattle.pl_record.proofs.TouchedRows.{are_pages}
use Rattle.pl_sheets.specs.Sheets.{ArePages, Pages}

pub returns-in_err-arena-clause-one : goal.returns-in_err-arena-clause-one
returns-in_err-arena-clause-one g c = one_store (stored_bytes c.args.bytes.items)

pub returns-in_err-arena-clause-not_a_store : goal.returns-in_err-arena-clause-not_a_store
returns-in_err-arena-clause-not_a_store g c told =
    let p = err_from_is_err_and c.from_residual.result c.from_residual.ensures.1 in
    no_store c.args.bytes.items
    (λ kept targets form sound.
    c.in_err-arena.ensures.none (let both = sym p.1 ∙ told in let same = p.2 in cc)
    (form_slots c.args.bytes.items kept targets form))

pub returns-in_err-accepted-clause-one : goal.returns-in_err-accepted-clause-one
returns-in_err-accepted-clause-one g c = one_store (stored_bytes c.args.bytes.items)

pub returns-in_err-accepted-clause-not_a_store : goal.returns-in_err-accepted-clause-not_a_store
returns-in_err-accepted-clause-not_a_store g c told =
    let p = err_from_is_err_and c.from_residual-in_err-accepted.result c.from_residual-in_err-accepted.ensures.1 in
    no_store c.args.bytes.items
    (λ kept targets form.
    c.in_err-accepted.ensures.none (let both = sym p.1 ∙ told in let same = p.2 in cc) kept targets
    (subst (IsForm kept targets) (sym c.in_ok-arena.ensures.arena) form))

pub returns-in_err-slots-clause-one : goal.returns-in_err-slots-clause-one
returns-in_err-slots-clause-one g c = one_store (stored_bytes c.args.bytes.items)

pub returns-clause-stands : goal.returns-clause-stands
returns-clause-stands g c =
    let s = c.in_ok-slots.slots in
    subst (λ bytes. StandsFor bytes (store_of s.rows.kept))
    (ap bytes_in (c.in_ok-slots.ensures.arena ∙ c.in_ok-arena.ensures.arena)
    ∙ bytes_again (stored_bytes c.args.bytes.items))
    (stands s.arena s.pages.entries s.visits.entries s.items.entries s.rows c.in_ok-slots.ensures.sound)

pub returns-clause-base : goal.returns-clause-base
returns-clause-base g c bytes =
    let s = c.in_ok-slots.slots in
    let same : s.arena ≡ stored_pages c.args.bytes.items =
    c.in_ok-slots.ensures.arena ∙ c.in_ok-arena.ensures.arena in
    subst (λ (p : Pages). IsBaseOf p bytes ↔ (bytes ≡ stored_bytes c.args.bytes.items)) (sym same)
    (base_read (stored_bytes c.args.bytes.items) bytes
    (subst ArePages same (are_pages s.arena s.pages.entries s.visits.entries s.items.entries s.rows)))

pub returns-clause-one : goal.returns-clause-one
returns-clause-one g c = one_store (stored_bytes c.args.bytes.items)
