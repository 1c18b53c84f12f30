use Rattle.std.proofs.Common.{◌≡◌, ◌∙◌, Some, map, subst, sym}
use Rattle.std.specs.Option.{option_map}
use Rattle.std.proofs.lemmas.Result.{IfOk-weaker}
use Rattle.pl_base.specs.Rows.{Kept, store_of}
use Rattle.pl_place.specs.declared.query.Query.{Query}
use Rattle.pl_query.specs.QueryAnswer.{answer, told_row}
use Rattle.pl_query.specs.Subjects.{row_at}
use Rattle.pl_marked.specs.declared.found.Found.{Found}
use Rattle.pl_marked.specs.Found.{subject_found}
use Rattle.pl_marked.specs.Listed.{Lists}
use Rattle.pl_marked.specs.Ready.{IsReady}
use Rattle.pl_marked.proofs.BookmarkRows.{all_there, found_apart, own_views, told_answer}
use Rattle.pl_marked.proofs.answered.answer_bookmarks.Goals as goal

pub bookmarks-requires-clause-ready : goal.bookmarks-requires-clause-ready
bookmarks-requires-clause-ready g c =
    subst (λ (q : Query). IsReady (store_of (g.R.Rows.kept c.args.rows.now)) q c.in_ok-ready.ready)
    (sym c.in_ok-ready.ensures.timed.query) c.in_ok-ready.ensures

pub put_in_order-requires : goal.put_in_order-requires
put_in_order-requires g c =
    let kept : Kept = g.R.Rows.kept c.args.rows.now in
    found_apart kept c.args.query.now c.requires.bookmarks (g.met.R.Rows.well_kept c.args.rows.now)
    c.in_ok-found.found.items
    (subst (λ (q : Query). Lists kept q c.in_ok-found.found.items) c.in_ok-ready.ensures.timed.query
    c.in_ok-found.ensures)

pub result_rows-requires-clause-there : goal.result_rows-requires-clause-there
result_rows-requires-clause-there g c =
    let kept : Kept = g.R.Rows.kept c.args.rows.now in
    all_there kept c.args.query.now c.requires.bookmarks (g.met.R.Rows.well_kept c.args.rows.now)
    c.in_ok-found.found.items
    (subst (λ (q : Query). Lists kept q c.in_ok-found.found.items) c.in_ok-ready.ensures.timed.query
    c.in_ok-found.ensures)
    c.put_in_order.new.found.items c.deref.result.now c.put_in_order.ensures.order
    (c.deref.ensures.value ∙ c.limit.ensures)

pub result_rows-requires-clause-views : goal.result_rows-requires-clause-views
result_rows-requires-clause-views g c =
    let kept : Kept = g.R.Rows.kept c.args.rows.now in
    own_views kept c.args.query.now c.requires.bookmarks (g.met.R.Rows.well_kept c.args.rows.now)
    c.in_ok-found.found.items
    (subst (λ (q : Query). Lists kept q c.in_ok-found.found.items) c.in_ok-ready.ensures.timed.query
    c.in_ok-found.ensures)
    c.put_in_order.new.found.items c.deref.result.now c.put_in_order.ensures.order
    (c.deref.ensures.value ∙ c.limit.ensures) c.put_in_order.ensures.moves

pub returns : goal.returns
returns g c =
    let kept : Kept = g.R.Rows.kept c.args.rows.now in
    IfOk-weaker c.result_rows.result
    (λ told. map Some told.items
    ≡ map (λ (f : Found). option_map (told_row (store_of kept)) (row_at kept (subject_found f))) c.deref.result.now)
    (λ told. told.items ≡ map (told_row (store_of kept)) (answer (store_of kept) c.args.query.now))
    (λ told each.
    told_answer kept c.args.query.now c.requires.bookmarks (g.met.R.Rows.well_kept c.args.rows.now)
    c.in_ok-found.found.items
    (subst (λ (q : Query). Lists kept q c.in_ok-found.found.items) c.in_ok-ready.ensures.timed.query
    c.in_ok-found.ensures)
    c.put_in_order.new.found.items c.deref.result.now c.put_in_order.ensures.order
    (c.deref.ensures.value ∙ c.limit.ensures) told.items each)
    c.result_rows.ensures
