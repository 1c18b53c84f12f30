use Rattle.std.proofs.Common.{◌≡◌, ◌∙◌, ap, find, rules, sym, tests}
use Rattle.std.specs.Option.{option_copied, option_map}
use Rattle.std.proofs.lemmas.Iterator.{YieldsList-from_slice}
use Rattle.std.proofs.lemmas.Iterator.Search.{find_from_yields_List}
use Rattle.pl_stored.specs.declared.stored.StoredVisit.{StoredVisit}
use Rattle.pl_stored.specs.Stored.{visit_of}
use Rattle.pl_plain.specs.Targets.{is_other_from}
use Rattle.pl_plain.proofs.TargetVisits.{first_id-find}
use Rattle.pl_plain.proofs.flat.targets.first_other.Goals as goal

pub returns-in_err-visit : goal.returns-in_err-visit
returns-in_err-visit c =
    let found : option_copied c.find.result
    ≡ find (λ (v : StoredVisit). is_other_from c.args.source (visit_of v)) c.args.visits.now =
    find_from_yields_List (λ (v : StoredVisit). is_other_from c.args.source (visit_of v)) _ _ c.find.result
    c.find.ensures.ran (YieldsList-from_slice c.args.visits.now cc) (λ x b q k. search (rules, tests)) in
    c.from_residual.ensures
    ∙ ap (option_map (λ (v : StoredVisit). v.id)) (ap option_copied (sym c.in_err-visit.was) ∙ found)
    ∙ sym (first_id-find (is_other_from c.args.source) c.args.visits.now)

pub returns : goal.returns
returns c =
    let found : option_copied c.find.result
    ≡ find (λ (v : StoredVisit). is_other_from c.args.source (visit_of v)) c.args.visits.now =
    find_from_yields_List (λ (v : StoredVisit). is_other_from c.args.source (visit_of v)) _ _ c.find.result
    c.find.ensures.ran (YieldsList-from_slice c.args.visits.now cc) (λ x b q k. search (rules, tests)) in
    ap (option_map (λ (v : StoredVisit). v.id)) (ap option_copied (sym c.in_ok-visit.was) ∙ found)
    ∙ sym (first_id-find (is_other_from c.args.source) c.args.visits.now)
