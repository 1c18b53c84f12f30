use Rattle.std.proofs.Common.{◌∙◌, ◌≢◌, ◌∷◌, ◌++◌, List, sym}
use Rattle.std.proofs.lemmas.List.Elements.{All-from_recursion, recursion_from_All}
use Rattle.std.proofs.lemmas.Slice.Eq.{bytes_eq-Decides}
use Rattle.pl_base.specs.declared.view.View.{View}
use Rattle.pl_follow.proofs.ChangedLists.{parted_all}
use Rattle.trials_views.proofs.Between.{parted_between}
use Rattle.trials_views.proofs.NewUrls.{others_differ}
use Rattle.trials_views.proofs.places.is_free.Goals as goal

pub returns-then-eq : goal.returns-then-eq
returns-then-eq c free front back indexes =
    others_differ front back c.args.old.now c.args.url.now
    ((bytes_eq-Decides c.args.old.now.url c.args.url.now).0 (sym c.eq.ensures ∙ c.if-eq.true)) indexes.urls

pub returns-else-eq : goal.returns-else-eq
returns-else-eq c free front back indexes =
    let other : View → Type 0 = λ (w : View). w.url ≢ c.args.url.now in
    let views : List View = front ++ c.args.old.now ∷ back in
    recursion_from_All other (front ++ back)
    (parted_all other views (front ++ back) c.args.old.now (parted_between front back c.args.old.now)
    (All-from_recursion other views (c.is_new.ensures free views indexes)))
