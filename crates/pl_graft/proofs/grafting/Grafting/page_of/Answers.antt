use Rattle.std.proofs.Common.{◌∙◌, ap, arith, refl, subst, sym}
use Rattle.std.proofs.lemmas.Result.{on_ok_weaker}
use Rattle.pl_base.specs.declared.id.Ids.{Ids}
use Rattle.pl_base.specs.Rows.{Kept, store_of}
use Rattle.pl_base.specs.Store.{Store}
use Rattle.pl_base.specs.Visiting.{new_page}
use Rattle.pl_keyed.specs.KnownPages.{IsEntered, page_id}
use Rattle.pl_graft.specs.Standing.{IsStanding}
use Rattle.pl_graft.specs.declared.grafting.Grafting.{Grafting}
use Rattle.pl_graft.proofs.FoundPages.{found_number, found_store}
use Rattle.pl_graft.proofs.GoingOn.{goes_nowhere}
use Rattle.pl_graft.proofs.PageSteps.{known_fits, on_ok_two, page_goes_on, page_standing}
use Rattle.pl_graft.proofs.grafting.Grafting.page_of.Goals as goal

pub overflow_cast-result : goal.overflow_cast-result
overflow_cast-result g c =
    omega (
      arith,
      known_fits (g.R.Rows.kept c.args.rows.now) c.args.url.now c.in-Found.page
          (g.met.R.Rows.well_kept c.args.rows.now)
          (subst (IsEntered (store_of (g.R.Rows.kept c.args.rows.now)).pages c.args.url.now) c.in-Found.is
          (c.in_ok-entered.ensures.entered (store_of (g.R.Rows.kept c.args.rows.now)).pages
          c.requires.standing.pages)),
    )

pub new_page-requires-clause-absent : goal.new_page-requires-clause-absent
new_page-requires-clause-absent g c =
    (subst (IsEntered (store_of (g.R.Rows.kept c.args.rows.now)).pages c.args.url.now) c.in-Added.is
    (c.in_ok-entered.ensures.entered (store_of (g.R.Rows.kept c.args.rows.now)).pages c.requires.standing.pages)).0

pub new_page-requires-clause-other : goal.new_page-requires-clause-other
new_page-requires-clause-other g c =
    (subst (IsEntered (store_of (g.R.Rows.kept c.args.rows.now)).pages c.args.url.now) c.in-Added.is
    (c.in_ok-entered.ensures.entered (store_of (g.R.Rows.kept c.args.rows.now)).pages c.requires.standing.pages)).1

pub returns-in-Found-clause-page : goal.returns-in-Found-clause-page
returns-in-Found-clause-page g c =
    let store : Store = store_of (g.R.Rows.kept c.args.rows.now) in
    ap page_id (found_number store c.args.url.now c.in-Found.page
    (subst (IsEntered store.pages c.args.url.now) c.in-Found.is
    (c.in_ok-entered.ensures.entered store.pages c.requires.standing.pages)))

pub returns-in-Found-clause-store : goal.returns-in-Found-clause-store
returns-in-Found-clause-store g c =
    let store : Store = store_of (g.R.Rows.kept c.args.rows.now) in
    sym (found_store store c.args.url.now c.in-Found.page
    (subst (IsEntered store.pages c.args.url.now) c.in-Found.is
    (c.in_ok-entered.ensures.entered store.pages c.requires.standing.pages)))

pub returns-in-Found-clause-standing : goal.returns-in-Found-clause-standing
returns-in-Found-clause-standing g c =
    let old : Kept = g.R.Rows.kept c.args.rows.now in
    let store : Store = store_of old in
    let after : Grafting = record c.args.self.now { pages = c.enter.new.self } in
    subst (λ (s : Store). IsStanding s after) (sym (returns-in-Found-clause-store g c))
    (page_standing old c.args.url.now c.args.self.now after (g.met.R.Rows.well_kept c.args.rows.now)
    c.requires.standing
    (c.in_ok-entered.ensures.pages store.pages (new_page store c.args.url.now) c.requires.standing.pages refl
    (sym (c.from.ensures ∙ ap (λ (ids : Ids). ids.page) c.ids-ids.ensures.ids))) refl refl)

pub returns-in-Found-clause-goes_on : goal.returns-in-Found-clause-goes_on
returns-in-Found-clause-goes_on g c =
    goes_nowhere (g.R.Rows.kept c.args.rows.now) c.args.self.now (record c.args.self.now { pages = c.enter.new.self })
    refl refl

pub returns-in-Added-clause-standing : goal.returns-in-Added-clause-standing
returns-in-Added-clause-standing g c =
    let old : Kept = g.R.Rows.kept c.args.rows.now in
    let store : Store = store_of old in
    let after : Grafting = record c.args.self.now { pages = c.enter.new.self } in
    on_ok_weaker c.new_page.result (λ made.
    subst (λ (s : Store). IsStanding s after) (sym made)
    (page_standing old c.args.url.now c.args.self.now after (g.met.R.Rows.well_kept c.args.rows.now)
    c.requires.standing
    (c.in_ok-entered.ensures.pages store.pages (new_page store c.args.url.now) c.requires.standing.pages refl
    (sym (c.from.ensures ∙ ap (λ (ids : Ids). ids.page) c.ids-ids.ensures.ids))) refl refl))
    c.new_page.ensures.store

pub returns-in-Added-clause-goes_on : goal.returns-in-Added-clause-goes_on
returns-in-Added-clause-goes_on g c =
    on_ok_two c.new_page.result (λ grows made.
    page_goes_on (g.R.Rows.kept c.args.rows.now) (g.R.Rows.kept c.new_page.new.rows) c.args.url.now c.args.self.now
    (record c.args.self.now { pages = c.enter.new.self }) grows made refl refl) c.new_page.ensures.grows
    c.new_page.ensures.store
