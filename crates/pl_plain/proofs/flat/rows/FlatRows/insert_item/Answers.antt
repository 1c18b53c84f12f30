use Rattle.pl_plain.proofs.Lookups.{parent_there}
use Rattle.pl_plain.proofs.flat.rows.FlatRows.insert_item.Goals as goal

pub add_item-requires-clause-parent : goal.add_item-requires-clause-parent
add_item-requires-clause-parent g c =
    parent_there c.args.self.now.items c.args.row.now.parent c.requires.parent
