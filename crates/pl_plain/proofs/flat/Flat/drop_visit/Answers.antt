use Rattle.std.proofs.Common.{◌-◌, List, ap, arith, subst, sym, length}
use Rattle.pl_base.specs.Store.{Visit}
use Rattle.pl_plain.specs.Flat.{kept_of}
use Rattle.pl_plain.specs.FlatRows.{IsFlat}
use Rattle.pl_plain.proofs.VisitDropped.{IsFlat-without_visit, slots_without_visit, visits_dropped}
use Rattle.pl_plain.proofs.flat.Flat.drop_visit.Goals as goal

pub overflow_sub-self : goal.overflow_sub-self
overflow_sub-self c =
    let f = c.args.self.now in
    omega (arith, slots_without_visit c.args.id (kept_of f) (length f.totals.items) f.live c.requires f.rows)

pub invariant_of-self : goal.invariant_of-self
invariant_of-self c =
    let f = c.args.self.now in
    record {
      rows =
          subst (λ (vs : List Visit). IsFlat (record (kept_of f) { visits = vs }) (length f.totals.items) (f.live - 1))
          (sym (visits_dropped c.args.id f.visits.items c.drop_visit_row.new.visits.items
          c.leave_sources.new.visits.items c.drop_visit_row.ensures c.leave_sources.ensures))
          (IsFlat-without_visit c.args.id (kept_of f) (length f.totals.items) f.live c.requires f.rows);
    }

pub returns : goal.returns
returns c =
    let f = c.args.self.now in
    record {
      kept =
          ap (λ (vs : List Visit). record (kept_of f) { visits = vs })
          (visits_dropped c.args.id f.visits.items c.drop_visit_row.new.visits.items
          c.leave_sources.new.visits.items c.drop_visit_row.ensures c.leave_sources.ensures);
    }
