use Rattle.std.proofs.Common.{List, ap, arith}
use Rattle.pl_base.specs.Rows.{KeptOrigin}
use Rattle.pl_plain.specs.Flat.{kept_of}
use Rattle.pl_plain.proofs.OriginTotals.{name_within, origins_set}
use Rattle.pl_plain.proofs.flat.rows.FlatRows.set_total.Goals as goal

pub overflow_sub-origin : goal.overflow_sub-origin
overflow_sub-origin g c = omega (arith, (name_within c.args.self.now.totals.items c.args.origin.0 c.requires).0)

pub index_mut-requires : goal.index_mut-requires
index_mut-requires g c =
    let within = name_within c.args.self.now.totals.items c.args.origin.0 c.requires in
    omega (arith, within.0, within.1)

pub returns-clause-kept : goal.returns-clause-kept
returns-clause-kept g c =
    let f = c.args.self.now in
    let within = name_within f.totals.items c.args.origin.0 c.requires in
    ap (λ (os : List KeptOrigin). record (kept_of f) { origins = os })
    (origins_set f.totals.items c.args.origin c.args.total within.0 within.1)
