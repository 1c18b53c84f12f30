use Rattle.std.proofs.Common.{List, subst, sym, length}
use Rattle.pl_base.specs.Store.{Item}
use Rattle.pl_plain.specs.Flat.{kept_of}
use Rattle.pl_plain.specs.FlatRows.{IsFlat, kept_from}
use Rattle.pl_plain.proofs.ItemChanges.{IsFlat-with_redated}
use Rattle.pl_plain.proofs.flat.rows.FlatRows.set_modified.Goals as goal

pub invariant_of-self : goal.invariant_of-self
invariant_of-self g c =
    let f = c.args.self.now in
    record {
      rows =
          subst (λ (items : List Item). IsFlat (kept_from f.day f.ids f.pages.items f.totals.items f.visits.items items)
          (length f.totals.items) f.live) (sym c.set_modified.ensures)
          (IsFlat-with_redated c.args.item c.args.modified (kept_of f) (length f.totals.items) f.live f.rows);
    }
