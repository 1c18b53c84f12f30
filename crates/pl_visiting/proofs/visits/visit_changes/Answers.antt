use Rattle.std.proofs.Common.{◌∙◌, ◌∷◌, List, ap, option_to_list, subst, sym}
use Rattle.pl_base.specs.declared.id.PageId.{PageId}
use Rattle.pl_base.specs.Rows.{store_of}
use Rattle.pl_changes.specs.CameFrom.{CameFrom}
use Rattle.pl_marks.specs.Alike.{is_one_of}
use Rattle.pl_done.proofs.CameFrom.{came_ordered}
use Rattle.pl_visiting.proofs.visits.visit_changes.Goals as goal

pub changes-requires-clause-came : goal.changes-requires-clause-came
changes-requires-clause-came g c =
    subst (λ (pages : List PageId). CameFrom pages c.args.known.now (store_of (g.R.Rows.kept c.args.rows.now)))
    (sym c.deref.ensures.value)
    (came_ordered (c.args.added.page ∷ option_to_list c.args.added.source) c.put_in_order.new.pages.items
    c.args.known.now (store_of (g.R.Rows.kept c.args.rows.now))
    (λ id. c.put_in_order.ensures.same id ∙ ap (λ (ids : List PageId). is_one_of ids id) c.in_ok-pages.ensures)
    c.requires.came)
