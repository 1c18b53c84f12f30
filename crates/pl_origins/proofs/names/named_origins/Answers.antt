use Rattle.std.proofs.Common.{◌∙◌, arith, length, sym}
use Rattle.std.proofs.lemmas.List.{length_push}
use Rattle.pl_origins.proofs.Standing.{nothing_stands}
use Rattle.pl_origins.proofs.Walked.{are_named, begins, ended, no_more_than_pages, not_named, page_count}
use Rattle.pl_origins.proofs.Walked.{page_more, turned}
use Rattle.pl_origins.proofs.names.named_origins.Goals as goal

pub loop-page-init : goal.loop-page-init
loop-page-init c = rw (c.new-origins.ensures.empty, c.new-known.ensures.empty) nothing_stands

pub returns-then-by_origin-by_name-clause-refused : goal.returns-then-by_origin-by_name-clause-refused
returns-then-by_origin-by_name-clause-refused c =
    let start =
    begins c.into_iter-page-iterator.ensures.into_iter_gives c.zip-page-items.ensures.first c.iter.ensures.rest
    c.zip-page-items.ensures.second.0 in
    not_named c.args.pages.now c.args.names.now (length c.loop-page.yielded) c.in-Some.page.now c.in-Some.name.now
    c.loop-page.origins.keys c.loop-page.known.keys c.in_ok-of.field-0 c.requires.as_many
    (turned c.loop-page.yielded c.loop-page.page-iterator c.next.new.self (c.in-Some.page, c.in-Some.name) start c.loop-page.yielded_by c.in-Some.is
    c.next.ensures.steps) c.loop-page.invariant c.in_ok-of.ensures
    (λ same. c.if-by_origin-by_name.true (c.in_ok-by_origin.ensures.index ∙ same ∙ sym c.in_ok-by_name.ensures.index))

pub loop-page-preserved : goal.loop-page-preserved
loop-page-preserved c =
    let start =
    begins c.into_iter-page-iterator.ensures.into_iter_gives c.zip-page-items.ensures.first c.iter.ensures.rest
    c.zip-page-items.ensures.second.0 in
    rw (length_push c.loop-page.yielded (c.in-Some.page, c.in-Some.name))
    (page_more c.args.pages.now c.args.names.now (length c.loop-page.yielded) c.in-Some.page.now c.in-Some.name.now
    c.loop-page.origins.keys c.insert_full.new.self.keys c.loop-page.known.keys
    c.insert_full-in-loop-page.new.self.keys c.in_ok-of.field-0 c.requires.as_many
    (turned c.loop-page.yielded c.loop-page.page-iterator c.next.new.self (c.in-Some.page, c.in-Some.name) start c.loop-page.yielded_by c.in-Some.is
    c.next.ensures.steps) c.loop-page.invariant c.in_ok-of.ensures
    (sym c.in_ok-by_origin.ensures.index ∙ c.if-by_origin-by_name.false ∙ c.in_ok-by_name.ensures.index)
    c.in_ok-by_origin.ensures.keys c.in_ok-by_name.ensures.keys)

pub overflow_cast-result : goal.overflow_cast-result
overflow_cast-result c =
    let start =
    begins c.into_iter-page-iterator.ensures.into_iter_gives c.zip-page-items.ensures.first c.iter.ensures.rest
    c.zip-page-items.ensures.second.0 in
    omega (
      arith,
      c.len.ensures.len,
      c.requires.few,
      no_more_than_pages c.args.pages.now c.args.names.now (length c.loop-page.yielded) c.loop-page.origins.keys
          c.loop-page.known.keys c.requires.as_many
          (ended c.loop-page.yielded c.loop-page.page-iterator c.next.new.self c.requires.as_many start c.loop-page.yielded_by c.in-None.is c.next.ensures.steps)
          c.loop-page.invariant,
    )

pub returns-clause-named : goal.returns-clause-named
returns-clause-named c =
    let start =
    begins c.into_iter-page-iterator.ensures.into_iter_gives c.zip-page-items.ensures.first c.iter.ensures.rest
    c.zip-page-items.ensures.second.0 in
    are_named c.args.pages.now c.args.names.now (length c.loop-page.yielded) c.loop-page.origins.keys
    c.loop-page.known.keys c.requires.as_many
    (ended c.loop-page.yielded c.loop-page.page-iterator c.next.new.self c.requires.as_many start c.loop-page.yielded_by c.in-None.is c.next.ensures.steps)
    c.loop-page.invariant

pub returns-clause-counted : goal.returns-clause-counted
returns-clause-counted c =
    let start =
    begins c.into_iter-page-iterator.ensures.into_iter_gives c.zip-page-items.ensures.first c.iter.ensures.rest
    c.zip-page-items.ensures.second.0 in
    c.len.ensures.len
    ∙ page_count c.args.pages.now c.args.names.now (length c.loop-page.yielded) c.loop-page.origins.keys
    c.loop-page.known.keys c.requires.as_many
    (ended c.loop-page.yielded c.loop-page.page-iterator c.next.new.self c.requires.as_many start c.loop-page.yielded_by c.in-None.is c.next.ensures.steps)
    c.loop-page.invariant
