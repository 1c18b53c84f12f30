use Rattle.std.proofs.Common.{◌≡◌, ◌∙◌, ◌+◌, ◌++◌, [], ◌∷◌, List, ℕ, ap, arith, length, subst, sym}
use Rattle.std.proofs.lemmas.Result.{on_ok_weaker}
use Rattle.pl_base.specs.declared.id.Slot.{Slot}
use Rattle.pl_base.specs.Rows.{KeptOrigin, with_new_page}
use Rattle.pl_plain.specs.Flat.{kept_of}
use Rattle.pl_plain.specs.FlatRows.{origin_with, origins_from}
use Rattle.pl_plain.specs.Place.{IsSlotOf, grown}
use Rattle.pl_plain.proofs.FlatChanges.{origins_few, place_known, place_new}
use Rattle.pl_plain.proofs.OriginTotals.{origins_pushed}
use Rattle.pl_plain.proofs.flat.rows.FlatRows.insert_page.Goals as goal

pub overflow_cast-origins : goal.overflow_cast-origins
overflow_cast-origins g c =
    let f = c.args.self.now in
    omega (arith, c.len-origins.ensures, origins_few (kept_of f) (length f.totals.items) f.live f.rows)

pub add_page-requires-clause-place : goal.add_page-requires-clause-place
add_page-requires-clause-place g c =
    let f = c.args.self.now in
    let few : c.len-origins.result ≡ length f.totals.items = omega (arith, c.len-origins.ensures) in
    subst (λ n. IsSlotOf (kept_of f) (length f.totals.items) c.args.url.now c.in-Some.origin n) (sym few)
    (place_known (kept_of f) (length f.totals.items) f.live c.args.url.now c.in-Some.origin f.rows
    (rw c.in-Some.is at c.requires.origin))

pub overflow_add-origins : goal.overflow_add-origins
overflow_add-origins g c =
    let f = c.args.self.now in
    omega (arith, c.len-origins.ensures, origins_few (kept_of f) (length f.totals.items) f.live f.rows)

pub overflow_add-origins-in-None : goal.overflow_add-origins-in-None
overflow_add-origins-in-None g c =
    let f = c.args.self.now in
    omega (arith, c.len-origins.ensures, origins_few (kept_of f) (length f.totals.items) f.live f.rows)

pub add_page-requires-in-None-clause-place : goal.add_page-requires-in-None-clause-place
add_page-requires-in-None-clause-place g c =
    let f = c.args.self.now in
    let few : c.len-origins.result ≡ length f.totals.items = omega (arith, c.len-origins.ensures) in
    subst (λ n. IsSlotOf (kept_of f) (length f.totals.items) c.args.url.now (record { 0 = n + 1 }) (n + 1)) (sym few)
    (place_new (kept_of f) (length f.totals.items) f.live c.args.url.now f.rows
    (rw c.in-None.is at c.requires.origin))

pub returns-in-None-clause-kept : goal.returns-in-None-clause-kept
returns-in-None-clause-kept g c =
    let f = c.args.self.now in
    let slot : Slot = record { 0 = c.len-origins.result + 1 } in
    let few : c.len-origins.result ≡ length f.totals.items = omega (arith, c.len-origins.ensures) in
    rw c.in-None.is
    (on_ok_weaker c.add_page-in-None.result
    (λ is. (
      slot,
      is ∙ ap (λ (named : List KeptOrigin). record (with_new_page c.args.url.now slot (kept_of f)) { origins = named })
          (ap (λ (n : ℕ). origins_from (grown f.totals.items (n + 1))) few ∙ origins_pushed f.totals.items
          ∙ ap (λ (n : ℕ). origins_from f.totals.items ++ origin_with (n + 1, 0) ∷ []) (sym few)),
    ))
    c.add_page-in-None.ensures.kept)
