use Rattle.std.proofs.Common.{List, subst}
use Rattle.std.specs.List.{AllZip}
use Rattle.pl_base.specs.declared.id.Slot.{Slot}
use Rattle.pl_reading.specs.Live.{HoldsItem, HoldsPlace, HoldsTotal, HoldsVisit}
use Rattle.pl_load.proofs.held.held_rows.Goals as goal

pub returns-clause-held : goal.returns-clause-held
returns-clause-held g c =
    record {
      listed = rw c.in-Some.is at c.in_ok-live.ensures.found;
      totals =
          subst (λ (ss : List Slot). AllZip (HoldsTotal c.args.arena.now) ss c.in_ok-totals.totals.items)
          c.deref.ensures.value c.in_ok-totals.ensures;
      places =
          subst (λ (ss : List Slot). AllZip (HoldsPlace c.args.arena.now) ss c.in_ok-places.places.items)
          c.deref-2.ensures.value c.in_ok-places.ensures;
      visits =
          subst (λ (ss : List Slot). AllZip (HoldsVisit c.args.arena.now) ss c.in_ok-visits.visits.items)
          c.deref-3.ensures.value c.in_ok-visits.ensures;
      items =
          subst (λ (ss : List Slot). AllZip (HoldsItem c.args.arena.now) ss c.in_ok-items.items.items)
          c.deref-4.ensures.value c.in_ok-items.ensures;
    }
