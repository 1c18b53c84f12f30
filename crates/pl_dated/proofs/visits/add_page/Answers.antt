use Rattle.std.proofs.Common.{◌≡◌, ◌∙◌, ◌++◌, Bool, List, [], ap, if◌then◌else◌, subst, sym, true, ℕ}
use Rattle.std.proofs.lemmas.Result.{on_ok_weaker}
use Rattle.pl_base.specs.Rows.{page_visits}
use Rattle.pl_place.specs.declared.query.Query.{Query}
use Rattle.pl_query.specs.Decides.{decides}
use Rattle.pl_dated.specs.Latest.{AreApart, Keeps, Seen}
use Rattle.pl_dated.specs.Listed.{part_of, seen_visits}
use Rattle.pl_dated.proofs.visits.add_page.Goals as goal

pub returns : goal.returns
returns g c =
    let kept = g.R.Rows.kept c.args.rows.now in
    let q = c.args.timed.now.query.now in
    let view = c.args.view.now in
    let takes : decides q view ≡ true =
    ap (λ (r : Query). decides r view) (sym c.requires.same) ∙ sym c.in_ok-decides.ensures ∙ c.if-not-branch.false in
    let listed : part_of kept q view ≡ seen_visits kept q view (page_visits kept view.id) =
    ap (λ (b : Bool). if b then seen_visits kept q view (page_visits kept view.id) else []) takes in
    on_ok_weaker c.add_visits.result
    (subst
    (λ (ss : List Seen). (most : ℕ) (visits : List Seen) → Keeps most c.args.first.now visits → AreApart (visits ++ ss)
    → Keeps most c.add_visits.new.first (visits ++ ss)) (sym listed))
    c.add_visits.ensures
