use Rattle.std.proofs.Common.{◌∙◌, ap, map, subst}
use Rattle.std.proofs.lemmas.Result.{IfOk-weaker}
use Rattle.pl_place.specs.declared.query.Query.{Query}
use Rattle.pl_indexed.specs.Answer.{Suffice, row_of_view}
use Rattle.pl_indexed.proofs.FoundOrder.{found_apart}
use Rattle.pl_indexed.proofs.answered.answer_by_views.Goals as goal

pub rows_of-requires : goal.rows_of-requires
rows_of-requires c =
    let s = c.in_ok-found.ensures in
    found_apart c.in_ok-asked.asked.query.now.sort s.those c.in_ok-found.found.items s.found_are s.apart

pub returns : goal.returns
returns c =
    let s : Suffice c.args.query.now c.args.known.now.views.items c.in_ok-found.found.items =
    subst (λ (q : Query). Suffice q c.args.known.now.views.items c.in_ok-found.found.items) c.in_ok-asked.ensures.query
    c.in_ok-found.ensures in
    IfOk-weaker c.rows_of.result _ _ (λ rows told. told s.those s.found_are ∙ ap (map row_of_view) s.enough)
    c.rows_of.ensures
