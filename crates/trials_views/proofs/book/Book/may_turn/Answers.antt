use Rattle.std.proofs.Common.{◌∙◌, ◌+◌, ◌<◌, List, arith, drop, subst, sym, take}
use Rattle.std.specs.List.{AllByRecursion}
use Rattle.std.proofs.lemmas.Bool.Decides.{nat_tests}
use Rattle.pl_base.specs.declared.view.View.{View}
use Rattle.pl_follow.specs.Urls.{IndexesUrls}
use Rattle.trials_views.proofs.InOrder.{parts}
use Rattle.trials_views.proofs.Listed.{may_turn}
use Rattle.trials_views.proofs.book.Book.may_turn.Goals as goal

pub returns : goal.returns
returns g c small =
    let book = c.requires.book in
    let views = c.args.self.now.views.items in
    let place = c.args.place in
    let old = c.index-old.result.now in
    let new = c.args.new.now in
    may_turn views place old (omega (arith, c.requires.place)) c.index-old.ensures new book.fit
    (subst (λ (vs : List View). AllByRecursion (λ (w : View). w.id.0 < new.id.0) (take place vs)) c.deref.ensures.value
    (c.is_behind.ensures c.if-not-is_behind.false))
    (subst (λ (vs : List View). AllByRecursion (λ (w : View). new.id.0 < w.id.0) (drop (place + 1) vs))
    c.deref-else-not-is_behind.ensures.value (c.is_before.ensures c.if-not-is_before.false))
    (c.is_free.ensures c.if-not-is_free.false (take place views) (drop (place + 1) views)
    (subst (IndexesUrls c.args.self.now.follows.one)
    (parts views place old (omega (arith, c.requires.place)) (sym c.index-old.ensures)) book.known))
    (sym c.has_prefix.ensures ∙ c.if-not-has_prefix.false) (grind (arith, nat_tests, small, c.share.ensures, book.sum))
