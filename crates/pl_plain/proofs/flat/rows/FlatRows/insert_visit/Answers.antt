use Rattle.std.proofs.Common.{length}
use Rattle.std.proofs.lemmas.List.{map_push}
use Rattle.pl_stored.specs.Stored.{visit_of}
use Rattle.pl_plain.specs.Flat.{kept_of}
use Rattle.pl_plain.proofs.FlatChanges.{IsFlat-with_visit}
use Rattle.pl_plain.proofs.flat.rows.FlatRows.insert_visit.Goals as goal

pub invariant_of-self-2 : goal.invariant_of-self-2
invariant_of-self-2 g c =
    let f = c.args.self.now in
    record {
      rows =
          rw (c.in_ok-push.ensures.items, map_push visit_of)
          (IsFlat-with_visit c.args.row.now (kept_of f) (length f.totals.items) f.live c.requires.page c.requires.date
          c.requires.source c.requires.id c.requires.live f.rows);
    }
