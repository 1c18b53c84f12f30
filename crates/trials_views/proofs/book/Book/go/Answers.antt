use Rattle.std.proofs.Common.{◌≡◌, ◌∙◌, List, None, Some, ap, arith, subst, sym}
use Rattle.pl_base.specs.declared.view.View.{View}
use Rattle.pl_follow.specs.Changes.{FitStore, Suits, without_id}
use Rattle.pl_follow.specs.Urls.{IndexesUrls}
use Rattle.trials_views.specs.Books.{shares}
use Rattle.trials_views.proofs.Listed.{go_list, go_suits, go_sum}
use Rattle.trials_views.proofs.book.Book.go.Goals as goal

pub change-requires : goal.change-requires
change-requires g c =
    let book = c.requires.book in
    record {
      change =
          record {
            views = c.args.self.now.views.items;
            stood = (book.known, book.stood);
            suits =
                go_suits c.args.self.now.views.items c.args.place c.remove-old.result
                (omega (arith, c.if-place-len.false)) c.remove-old.ensures.value book.known.order book.fit;
          };
    }

pub returns : goal.returns
returns g c =
    let book = c.requires.book in
    let views = c.args.self.now.views.items in
    let old = c.remove-old.result in
    let is = c.remove-old.ensures.value in
    let suits : Suits (Some old) None views =
    go_suits views c.args.place old (omega (arith, c.if-place-len.false)) is book.known.order book.fit in
    let left : without_id old.id views ≡ c.remove-old.new.self.items =
    go_list views c.args.place old (omega (arith, c.if-place-len.false)) is book.known.order
    ∙ sym c.remove-old.ensures.items in
    let stands = c.in_ok-change.ensures.follows views (book.known, book.stood) suits in
    record {
      known = subst (λ (vs : List View). IndexesUrls c.change.new.self.one vs) left stands.0;
      stood = subst (λ (vs : List View). g.F.Follow.stands c.change.new.self.other vs) left stands.1;
      fit = subst FitStore left suits.becomes;
      sum =
          omega (
            arith,
            book.sum,
            c.share.ensures,
            ap (λ (vs : List View). shares vs) c.remove-old.ensures.items,
            go_sum views c.args.place old (omega (arith, c.if-place-len.false)) is,
          );
    }
