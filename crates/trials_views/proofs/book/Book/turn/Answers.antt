use Rattle.std.proofs.Common.{◌≡◌, ◌∙◌, List, Some, ap, arith, slice_set, subst, sym}
use Rattle.std.proofs.lemmas.List.{get_or_default}
use Rattle.pl_base.specs.declared.view.View.{View}
use Rattle.pl_base.specs.Totals.{share}
use Rattle.pl_follow.specs.Changes.{FitStore, Suits, with_view, without_id}
use Rattle.pl_follow.specs.Urls.{IndexesUrls}
use Rattle.trials_views.proofs.Listed.{go_sum, turn_list, turn_suits, turn_sum}
use Rattle.trials_views.proofs.book.Book.turn.Goals as goal

pub change-requires : goal.change-requires
change-requires g c =
    let book = c.requires.book in
    record {
      change =
          record {
            views = c.args.self.now.views.items;
            stood = (book.known, book.stood);
            suits =
                turn_suits c.args.self.now.views.items c.args.place c.index.result.now
                (omega (arith, c.if-place-len.false)) c.index.ensures c.args.new
                (c.may_turn.ensures c.if-not-may_turn.false) book.known.order book.fit;
          };
    }

pub returns : goal.returns
returns g c =
    let book = c.requires.book in
    let views = c.args.self.now.views.items in
    let old = c.index.result.now in
    let new = c.args.new in
    let may = c.may_turn.ensures c.if-not-may_turn.false in
    let suits : Suits (Some old) (Some new) views =
    turn_suits views c.args.place old (omega (arith, c.if-place-len.false)) c.index.ensures new may book.known.order
    book.fit in
    let turned : with_view new (without_id old.id views) ≡ slice_set views c.args.place new =
    turn_list views c.args.place old (omega (arith, c.if-place-len.false)) c.index.ensures new may book.known.order in
    let stands = c.in_ok-change.ensures.follows views (book.known, book.stood) suits in
    let again : c.index-2.result.now ≡ old =
    c.index-2.ensures ∙ get_or_default views c.args.place c.index-2.result.now old (omega (arith, c.if-place-len.false))
    ∙ sym c.index.ensures in
    record {
      known = subst (λ (vs : List View). IndexesUrls c.change.new.self.one vs) turned stands.0;
      stood = subst (λ (vs : List View). g.F.Follow.stands c.change.new.self.other vs) turned stands.1;
      fit = subst FitStore turned suits.becomes;
      sum =
          omega (
            arith,
            book.sum,
            c.share.ensures,
            c.share-2.ensures,
            ap (λ (v : View). share v.frecency) again,
            go_sum views c.args.place old (omega (arith, c.if-place-len.false)) c.index.ensures,
            turn_sum views c.args.place old (omega (arith, c.if-place-len.false)) c.index.ensures new may,
          );
    }
