use Rattle.pl_plain.proofs.Searches.{visits_ascend}
use Rattle.pl_plain.proofs.flat.rows.FlatRows.next_target.Goals as goal

pub next_target-requires : goal.next_target-requires
next_target-requires g c =
    visits_ascend c.args.self.now.visits.items c.deref.result.now c.args.self.now.rows.visit_ids.ascending
    c.deref.ensures.value
