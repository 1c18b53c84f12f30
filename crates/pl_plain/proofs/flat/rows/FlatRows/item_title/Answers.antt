use Rattle.pl_plain.proofs.Lookups.{title_told}
use Rattle.pl_plain.proofs.flat.rows.FlatRows.item_title.Goals as goal

pub unwrap-requires : goal.unwrap-requires
unwrap-requires g c =
    title_told c.args.item c.args.self.now.items c.title.result c.title.ensures c.requires
