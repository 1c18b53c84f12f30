use Rattle.std.proofs.Common.{List, subst, sym, length}
use Rattle.pl_base.specs.Store.{Item}
use Rattle.pl_plain.specs.Flat.{kept_of}
use Rattle.pl_plain.specs.FlatRows.{IsFlat, kept_from}
use Rattle.pl_plain.proofs.ItemChanges.{IsFlat-with_moved}
use Rattle.pl_plain.proofs.Lookups.{folder_there}
use Rattle.pl_plain.proofs.flat.rows.FlatRows.move_item.Goals as goal

pub move_to-requires-clause-parent : goal.move_to-requires-clause-parent
move_to-requires-clause-parent g c = folder_there c.args.self.now.items c.args.parent c.requires.parent

pub invariant_of-self : goal.invariant_of-self
invariant_of-self g c =
    let f = c.args.self.now in
    record {
      rows =
          subst (λ (items : List Item). IsFlat (kept_from f.day f.ids f.pages.items f.totals.items f.visits.items items)
          (length f.totals.items) f.live) (sym c.move_to.ensures)
          (IsFlat-with_moved c.args.item c.args.parent c.args.after (kept_of f) (length f.totals.items) f.live f.rows);
    }
