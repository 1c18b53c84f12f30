use Rattle.std.proofs.Common.{refl}
use Rattle.pl_base.specs.declared.item.ItemRow.{ItemRow}
use Rattle.pl_base.specs.Rows.{Kept}
use Rattle.pl_base.proofs.TitleCuts.{cut_title-le}
use Rattle.pl_graft.specs.Import.{node_row}
use Rattle.pl_graft.proofs.ItemsKept.{row_goes_on, row_standing}
use Rattle.pl_graft.proofs.Ready.{ready}
use Rattle.pl_graft.proofs.grafting.Grafting.item_of_node.Goals as goal

pub append-requires-clause-title : goal.append-requires-clause-title
append-requires-clause-title g c = rw c.cut_title-title.ensures (cut_title-le c.as_str.result.now)

pub returns-clause-standing : goal.returns-clause-standing
returns-clause-standing g c =
    let old : Kept = g.R.Rows.kept c.args.rows.now in
    let row : ItemRow = node_row c.args.place.folder c.args.page c.args.node.now in
    row_standing old (g.R.Rows.kept c.append.new.rows) c.args.place.folder row c.cut_title-title.result.now
    c.args.self.now (record c.args.self.now { gained = c.gain.new.gained })
    (ready old (g.met.R.Rows.well_kept c.args.rows.now) c.requires.standing.good) c.requires.standing
    c.in_ok-id.ensures.good c.requires.takes c.in_ok-id.ensures.kept refl refl refl

pub returns-clause-goes_on : goal.returns-clause-goes_on
returns-clause-goes_on g c =
    let old : Kept = g.R.Rows.kept c.args.rows.now in
    let new : Kept = g.R.Rows.kept c.append.new.rows in
    let row : ItemRow = node_row c.args.place.folder c.args.page c.args.node.now in
    row_goes_on old new c.args.place.folder row c.cut_title-title.result.now c.args.self.now
    (record c.args.self.now { gained = c.gain.new.gained })
    (ready old (g.met.R.Rows.well_kept c.args.rows.now) c.requires.standing.good)
    (ready new (g.met.R.Rows.well_kept c.append.new.rows) c.in_ok-id.ensures.good) c.requires.takes
    c.in_ok-id.ensures.kept refl c.in_ok-gain.ensures
