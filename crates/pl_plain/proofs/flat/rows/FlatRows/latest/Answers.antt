use Rattle.std.proofs.Common.{◌∙◌, None, ap, filter, map, sym}
use Rattle.std.specs.Option.{option_map}
use Rattle.pl_base.specs.Visits.{latest_first}
use Rattle.pl_stored.specs.Stored.{visit_of}
use Rattle.pl_plain.specs.Latest.{first_of, is_within}
use Rattle.pl_plain.proofs.Lookups.{first_id-none, first_id-some}
use Rattle.pl_plain.proofs.flat.rows.FlatRows.latest.Goals as goal

pub returns-in_err-latest-clause-latest : goal.returns-in_err-latest-clause-latest
returns-in_err-latest-clause-latest g c =
    c.from_residual.ensures
    ∙ first_id-none (latest_first (filter (is_within c.args.page None) (map visit_of c.args.self.now.visits.items)))
    (ap (option_map visit_of) (sym c.in_err-latest.was) ∙ c.latest_visit.ensures
    ∙ ap (λ rows. first_of (latest_first (filter (is_within c.args.page None) (map visit_of rows))))
    c.deref.ensures.value)

pub returns-clause-latest : goal.returns-clause-latest
returns-clause-latest g c =
    first_id-some (latest_first (filter (is_within c.args.page None) (map visit_of c.args.self.now.visits.items)))
    (visit_of c.in_ok-latest.latest)
    (ap (option_map visit_of) (sym c.in_ok-latest.was) ∙ c.latest_visit.ensures
    ∙ ap (λ rows. first_of (latest_first (filter (is_within c.args.page None) (map visit_of rows))))
    c.deref.ensures.value)
