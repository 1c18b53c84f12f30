use Rattle.std.proofs.Common.{◌∙◌, sym, true}
use Rattle.std.proofs.lemmas.Result.{on_ok_weaker}
use Rattle.pl_base.specs.Rows.{Kept, store_of}
use Rattle.pl_query.specs.Candidates.{mark_subject, marks_part}
use Rattle.pl_query.proofs.PageParts.{added_alike, added_none, marks_if, marks_unwanted}
use Rattle.pl_query.proofs.candidates.bookmarks.add_bookmarks.Goals as goal

pub returns-then-not-has_wanted : goal.returns-then-not-has_wanted
returns-then-not-has_wanted g c p at =
    let kept : Kept = g.R.Rows.kept c.args.rows.now in
    added_none mark_subject (store_of kept) c.args.asked.now.query.now.sort c.args.candidates.now.items
    (marks_part kept c.args.asked.now.query.now p)
    (marks_unwanted kept c.args.asked.now.query.now c.args.page p at
    (sym c.has_wanted.ensures ∙ c.if-not-has_wanted.true))

pub returns : goal.returns
returns g c =
    let kept : Kept = g.R.Rows.kept c.args.rows.now in
    on_ok_weaker c.add_wanted.result
    (λ added p at.
    added_alike mark_subject (store_of kept) c.args.asked.now.query.now.sort c.args.candidates.now.items
    c.add_wanted.new.candidates.items _ (marks_part kept c.args.asked.now.query.now p)
    (marks_if kept c.args.asked.now.query.now c.args.page p true at
    (sym c.if-not-holds.false ∙ c.in_ok-holds.ensures p at))
    (added p at))
    c.add_wanted.ensures
