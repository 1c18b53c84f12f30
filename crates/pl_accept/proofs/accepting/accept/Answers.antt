use Rattle.std.proofs.Common.{◌∙◌, ap, subst, sym}
use Rattle.std.proofs.lemmas.Bool.{true≢false}
use Rattle.std.proofs.lemmas.Result.{err_from_is_err_and}
use Rattle.pl_accept.proofs.Premises.{below, few_pages, few_places, few_visits, pages_each, readable, row_each}
use Rattle.pl_accept.proofs.Premises.{visits_differ}
use Rattle.pl_accept.proofs.Refused.{counted, good_read, linked, marked, not_unread, tree}
use Rattle.pl_accept.proofs.Taken.{accepted_where}
use Rattle.std.specs.List.Sorted.{IsStrictlyIncreasing}
use Rattle.pl_accept.proofs.Indexed.{ids_each}
use Rattle.pl_base.specs.Good.{IsGood, IsTree}
use Rattle.pl_check.specs.Readable.{AreReadable}
use Rattle.pl_check.specs.Rows.{stored_visit_ids}
use Rattle.pl_stored.specs.Stored.{Stored, stored_store}
use Rattle.pl_load.specs.Reads.{Reads}
use Rattle.pl_accept.proofs.accepting.accept.Goals as goal

pub returns-in_err-rows-clause-none : goal.returns-in_err-rows-clause-none
returns-in_err-rows-clause-none g c told kept targets form sound =
    let p = err_from_is_err_and c.from_residual.result c.from_residual.ensures.1 in
    not_unread c.args.arena.now kept targets form sound
    (c.in_err-rows.ensures.none (let both = sym p.1 ∙ told in let same = p.2 in cc))

pub have_good_rows-requires : goal.have_good_rows-requires
have_good_rows-requires g c =
    subst AreReadable (sym (ap (λ (r : Reads). r.stored) c.rows.view_is))
    (readable c.args.arena.now c.in_ok-rows.rows c.in_ok-rows.ensures.read c.in_ok-rows.ensures.ids)

pub returns-then-not-branch-clause-none : goal.returns-then-not-branch-clause-none
returns-then-not-branch-clause-none g c told kept targets form sound =
    let view = ap (λ (r : Reads). r.stored) c.rows.view_is in
    let passes =
    c.in_ok-have_good_rows.ensures.whole
    (subst (λ (s : Stored). IsGood (stored_store s)) (sym view)
    (good_read c.args.arena.now kept targets form sound c.in_ok-rows.rows c.in_ok-rows.ensures.read)) in
    true≢false (sym passes ∙ c.if-not-branch.true)

pub are_counted-requires-clause-as_many : goal.are_counted-requires-clause-as_many
are_counted-requires-clause-as_many g c =
    pages_each c.args.arena.now c.in_ok-rows.rows c.in_ok-rows.ensures.read

pub are_counted-requires-clause-few : goal.are_counted-requires-clause-few
are_counted-requires-clause-few g c =
    few_pages c.args.arena.now c.in_ok-rows.rows c.in_ok-rows.ensures.read c.requires.arena

pub returns-then-not-branch-2-clause-none : goal.returns-then-not-branch-2-clause-none
returns-then-not-branch-2-clause-none g c told kept targets form sound =
    c.in_ok-are_counted.ensures.no c.if-not-branch-2.true
    (counted c.args.arena.now kept targets form sound c.in_ok-rows.rows c.in_ok-rows.ensures.read)

pub are_linked-requires-clause-as_many : goal.are_linked-requires-clause-as_many
are_linked-requires-clause-as_many g c = row_each c.args.arena.now c.in_ok-rows.rows c.in_ok-rows.ensures.read

pub are_linked-requires-clause-below : goal.are_linked-requires-clause-below
are_linked-requires-clause-below g c =
    below c.args.arena.now c.in_ok-rows.rows c.in_ok-rows.ensures.read c.in_ok-rows.ensures.owners

pub are_linked-requires-clause-ids : goal.are_linked-requires-clause-ids
are_linked-requires-clause-ids g c =
    visits_differ c.args.arena.now c.in_ok-rows.rows c.in_ok-rows.ensures.read
    (subst (λ (s : Stored). IsStrictlyIncreasing (stored_visit_ids s.visits))
    (ap (λ (r : Reads). r.stored) c.rows.view_is) (c.in_ok-have_good_rows.ensures.visits c.if-not-branch.false))

pub returns-then-not-branch-3-clause-none : goal.returns-then-not-branch-3-clause-none
returns-then-not-branch-3-clause-none g c told kept targets form sound =
    c.in_ok-are_linked.ensures.no c.if-not-branch-3.true
    (linked c.args.arena.now kept targets form sound c.in_ok-rows.rows c.in_ok-rows.ensures.read)

pub are_right-requires-clause-visits : goal.are_right-requires-clause-visits
are_right-requires-clause-visits g c =
    subst (λ (s : Stored). IsStrictlyIncreasing (stored_visit_ids s.visits)) (ap (λ (r : Reads). r.stored) c.rows.view_is)
    (c.in_ok-have_good_rows.ensures.visits c.if-not-branch.false)

pub are_right-requires-clause-few_visits : goal.are_right-requires-clause-few_visits
are_right-requires-clause-few_visits g c =
    few_visits c.args.arena.now c.in_ok-rows.rows c.in_ok-rows.ensures.read c.requires.arena

pub are_right-requires-clause-few_pages : goal.are_right-requires-clause-few_pages
are_right-requires-clause-few_pages g c =
    few_places c.args.arena.now c.in_ok-rows.rows c.in_ok-rows.ensures.read c.requires.arena

pub returns-then-not-branch-4-clause-none : goal.returns-then-not-branch-4-clause-none
returns-then-not-branch-4-clause-none g c told kept targets form sound =
    marked c.args.arena.now kept targets form sound c.in_ok-rows.rows c.in_ok-rows.ensures.read
    (λ at k are well is.
    true≢false (sym ((c.in_ok-are_right.ensures at k are well).1 is) ∙ c.if-not-branch-4.true))

pub rows_by_ids-requires-clause-as_many : goal.rows_by_ids-requires-clause-as_many
rows_by_ids-requires-clause-as_many g c = ids_each c.args.arena.now c.in_ok-rows.rows c.in_ok-rows.ensures.read

pub returns-clause-accepted : goal.returns-clause-accepted
returns-clause-accepted g c =
    accepted_where c.args.arena.now c.in_ok-rows.rows c.requires.arena c.requires.named c.in_ok-rows.ensures.read
    c.in_ok-rows.ensures.owners
    (subst (λ (s : Stored). IsTree s.items → IsGood (stored_store s)) (ap (λ (r : Reads). r.stored) c.rows.view_is)
    (c.in_ok-have_good_rows.ensures.good c.if-not-branch.false))
    (c.in_ok-are_counted.ensures.yes c.if-not-branch-2.false) (c.in_ok-are_linked.ensures.yes c.if-not-branch-3.false)
    (λ at kept are well. (c.in_ok-are_right.ensures at kept are well).0 c.if-not-branch-4.false)
    c.rows_by_ids.result c.rows_by_ids.ensures.rows c.rows_by_ids.ensures.tree

pub returns-clause-none : goal.returns-clause-none
returns-clause-none g c told kept targets form sound =
    c.rows_by_ids.ensures.none told
    (tree c.args.arena.now kept targets form sound c.in_ok-rows.rows c.in_ok-rows.ensures.read)
