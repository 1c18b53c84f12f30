use Rattle.std.proofs.Common.{◌∙◌, ◌-◌, Some, ap, arith, refl, sym}
use Rattle.std.proofs.lemmas.List.{get_or_read}
use Rattle.pl_plain.specs.Flat.{kept_of}
use Rattle.pl_plain.proofs.OriginTotals.{name_within, total_named}
use Rattle.pl_plain.proofs.flat.rows.FlatRows.origin_at.Goals as goal

pub overflow_sub-origin : goal.overflow_sub-origin
overflow_sub-origin g c = omega (arith, (name_within c.args.self.now.totals.items c.args.origin.0 c.requires).0)

pub index-requires : goal.index-requires
index-requires g c =
    let within = name_within c.args.self.now.totals.items c.args.origin.0 c.requires in
    omega (arith, within.0, within.1)

pub returns-clause-total : goal.returns-clause-total
returns-clause-total g c =
    let totals = c.args.self.now.totals.items in
    let within = name_within totals c.args.origin.0 c.requires in
    ap Some (get_or_read totals (c.args.origin.0 - 1) c.index.result.now (omega (arith, within.0, within.1))
    c.index.ensures 0)
    ∙ sym (total_named totals (kept_of c.args.self.now) c.args.origin refl within.0 within.1)
