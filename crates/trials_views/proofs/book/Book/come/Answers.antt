use Rattle.std.proofs.Common.{◌≡◌, ◌∙◌, List, None, Some, ap, arith, subst, sym}
use Rattle.pl_base.specs.declared.view.View.{View}
use Rattle.pl_follow.specs.Changes.{FitStore, Suits, with_view}
use Rattle.pl_follow.specs.Urls.{IndexesUrls}
use Rattle.trials_views.specs.Books.{shares}
use Rattle.trials_views.proofs.Listed.{come_list, come_suits, come_sum}
use Rattle.trials_views.proofs.book.Book.come.Goals as goal

pub change-requires : goal.change-requires
change-requires g c =
    let book = c.requires.book in
    record {
      change =
          record {
            views = c.args.self.now.views.items;
            stood = (book.known, book.stood);
            suits =
                come_suits c.args.self.now.views.items c.partition_point-place.result c.args.new
                (c.may_come.ensures c.if-not-may_come.false) book.fit;
          };
    }

pub returns : goal.returns
returns g c =
    let book = c.requires.book in
    let views = c.args.self.now.views.items in
    let place = c.partition_point-place.result in
    let new = c.args.new in
    let may = c.may_come.ensures c.if-not-may_come.false in
    let suits : Suits None (Some new) views = come_suits views place new may book.fit in
    let came : with_view new views ≡ c.insert.new.self.items =
    come_list views place new may ∙ sym c.in_ok-insert.ensures.items in
    let stands = c.in_ok-change.ensures.follows views (book.known, book.stood) suits in
    record {
      known = subst (λ (vs : List View). IndexesUrls c.change.new.self.one vs) came stands.0;
      stood = subst (λ (vs : List View). g.F.Follow.stands c.change.new.self.other vs) came stands.1;
      fit = subst FitStore came suits.becomes;
      sum =
          omega (
            arith,
            book.sum,
            c.share.ensures,
            ap (λ (vs : List View). shares vs) c.in_ok-insert.ensures.items,
            come_sum views place new may,
          );
    }
