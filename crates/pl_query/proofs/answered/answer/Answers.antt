use Rattle.std.proofs.Common.{◌≡◌, ◌∙◌, Some, map, subst}
use Rattle.std.specs.Option.{option_map}
use Rattle.std.proofs.lemmas.Result.{IfOk-weaker}
use Rattle.pl_base.specs.Rows.{Kept, store_of}
use Rattle.pl_place.specs.declared.query.Query.{Query}
use Rattle.pl_query.specs.declared.ordering.Candidate.{Candidate}
use Rattle.pl_query.specs.QueryAnswer.{answer, told_row}
use Rattle.pl_query.specs.Subjects.{row_at}
use Rattle.pl_query.proofs.AnsweredRows.{answered_are, candidate_in, cut_there, found_apart, parts_in, told_are}
use Rattle.pl_query.proofs.answered.answer.Goals as goal

pub put_in_order-requires : goal.put_in_order-requires
put_in_order-requires g c =
    let kept : Kept = g.R.Rows.kept c.args.rows.now in
    found_apart kept c.args.query.now (g.met.R.Rows.well_kept c.args.rows.now) c.in_ok-candidates.candidates.items
    (subst (λ (q : Query). c.in_ok-candidates.candidates.items ≡ map (candidate_in kept q) (parts_in kept q))
    c.in_ok-asked.ensures.query c.in_ok-candidates.ensures)

pub result_rows-requires-clause-there : goal.result_rows-requires-clause-there
result_rows-requires-clause-there g c =
    let kept : Kept = g.R.Rows.kept c.args.rows.now in
    cut_there kept c.args.query.now (g.met.R.Rows.well_kept c.args.rows.now) c.deref.result.now
    (answered_are kept c.args.query.now (g.met.R.Rows.well_kept c.args.rows.now) c.in_ok-candidates.candidates.items
    c.put_in_order.new.candidates.items c.deref.result.now
    (subst (λ (q : Query). c.in_ok-candidates.candidates.items ≡ map (candidate_in kept q) (parts_in kept q))
    c.in_ok-asked.ensures.query c.in_ok-candidates.ensures)
    c.put_in_order.ensures (c.deref.ensures.value ∙ c.limit.ensures))

pub returns : goal.returns
returns g c =
    let kept : Kept = g.R.Rows.kept c.args.rows.now in
    let h = g.met.R.Rows.well_kept c.args.rows.now in
    let cut_is : c.deref.result.now ≡ map (candidate_in kept c.args.query.now) (answer (store_of kept) c.args.query.now)
    =
    answered_are kept c.args.query.now h c.in_ok-candidates.candidates.items
    c.put_in_order.new.candidates.items c.deref.result.now
    (subst (λ (q : Query). c.in_ok-candidates.candidates.items ≡ map (candidate_in kept q) (parts_in kept q))
    c.in_ok-asked.ensures.query c.in_ok-candidates.ensures)
    c.put_in_order.ensures (c.deref.ensures.value ∙ c.limit.ensures) in
    IfOk-weaker c.result_rows.result
    (λ told. map Some told.items
    ≡ map (λ (c : Candidate). option_map (told_row (store_of kept)) (row_at kept c.subject)) c.deref.result.now)
    (λ told. told.items ≡ map (told_row (store_of kept)) (answer (store_of kept) c.args.query.now))
    (λ told each. told_are kept c.args.query.now h c.deref.result.now told.items cut_is each)
    c.result_rows.ensures
