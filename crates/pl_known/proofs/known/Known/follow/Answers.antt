use Rattle.std.proofs.Common.{◌≡◌, ◌∙◌, ap, subst, sym}
use Rattle.std.specs.Global.{Vec}
use Rattle.std.proofs.lemmas.Result.{on_ok_weaker}
use Rattle.pl_base.specs.declared.view.View.{View}
use Rattle.pl_follow.specs.Changes.{AreInOrder}
use Rattle.pl_known.specs.Changes.{after}
use Rattle.pl_known.specs.Known.{FollowersStand}
use Rattle.pl_known.specs.Passes.{all_put, staying}
use Rattle.pl_known.proofs.InPasses.{passes_are, stay_in_order}
use Rattle.pl_known.proofs.known.Known.follow.Goals as goal
use Rattle.pl_known.proofs.known.Known.follow.Goals.{After-drop_views}

-- the views that stay
left : (c : After-drop_views)
    → c.drop_views.new.views.items ≡ staying c.args.changes.now c.args.self.now.views.items
left c =
    c.drop_views.ensures
    ∙ ap (λ (vs : Vec View). staying c.args.changes.now vs.items) c.in_ok-tell_all.ensures.views

-- what both passes make of the views
both : (c : After-drop_views) → all_put c.args.changes.now c.drop_views.new.views.items
    ≡ after c.args.changes.now c.args.self.now.views.items
both c =
    ap (all_put c.args.changes.now) (left c)
    ∙ passes_are c.args.changes.now c.args.self.now.views.items c.requires.followed.order c.requires.each_once
    c.requires.suit

pub put_views-requires : goal.put_views-requires
put_views-requires c =
    record {
      order =
          subst AreInOrder (sym (left c.before))
          (stay_in_order c.args.changes.now c.args.self.now.views.items c.requires.followed.order);
    }

pub returns-clause-views : goal.returns-clause-views
returns-clause-views c = on_ok_weaker c.put_views.result (λ made. made ∙ both c.before.before) c.put_views.ensures

pub returns-clause-followed : goal.returns-clause-followed
returns-clause-followed c =
    on_ok_weaker c.put_views.result
    (λ made.
    let stand =
    subst (FollowersStand c.tell_all.new.self) (sym (made ∙ both c.before.before)) c.in_ok-tell_all.ensures.follows in
    record {
      order = stand.order;
      fit = stand.fit;
      urls = stand.urls;
      ranks = stand.ranks;
      texts = stand.texts;
      days = stand.days;
      totals = stand.totals;
    })
    c.put_views.ensures
