use Rattle.std.proofs.Common.{◌∙◌, arith, sym}
use Rattle.std.proofs.lemmas.Result.{err_from_is_err_and}
use Rattle.pl_owned.proofs.OwnersTold.{at_itself, zip_more}
use Rattle.pl_reading.specs.Read.{IsPageRead}
use Rattle.pl_reading.proofs.Zips.{zip_none}
use Rattle.pl_reading.proofs.pages.stored_pages.Goals as goal

pub returns-in_err-stored_page-clause-none : goal.returns-in_err-stored_page-clause-none
returns-in_err-stored_page-clause-none g c told pages zip =
    let p =
    err_from_is_err_and c.from_residual-in_err-stored_page.result c.from_residual-in_err-stored_page.ensures.1 in
    zip_none (IsPageRead c.args.arena.now) c.args.places.now pages c.loop-place.place-index _ (omega arith)
    (at_itself c.args.places.now c.loop-place.place-index _ (omega arith))
    (λ page is. c.in_err-stored_page.ensures.none (let both = sym p.1 ∙ told in let same = p.2 in cc) page is) zip

pub loop-place-preserved : goal.loop-place-preserved
loop-place-preserved g c =
    rw c.in_ok-push.ensures.items
    (zip_more (IsPageRead c.args.arena.now) c.args.places.now c.loop-place.pages.items c.loop-place.place-index _
    c.in_ok-stored_page.field-0 (omega arith)
    (at_itself c.args.places.now c.loop-place.place-index _ (omega arith)) c.loop-place.invariant
    c.in_ok-stored_page.ensures.read)
