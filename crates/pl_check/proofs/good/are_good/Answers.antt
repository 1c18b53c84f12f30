use Rattle.std.proofs.Common.{◌≡◌, ◌∙◌, ap, subst, sym, true}
use Rattle.std.specs.List.Sorted.{IsStrictlyIncreasing}
use Rattle.std.proofs.lemmas.Bool.{true≢false}
use Rattle.std.proofs.lemmas.Result.{IfOk-weaker}
use Rattle.pl_stored.specs.Stored.{Stored}
use Rattle.pl_check.specs.Rows.{are_good}
use Rattle.pl_check.specs.Items.{item_ids}
use Rattle.pl_check.specs.Tags.{HaveGoodTags}
use Rattle.pl_check.proofs.GoodRows.{good-from, good-to, good_tags, has_first, ids_rise, page_ids_rise}
use Rattle.pl_check.proofs.GoodRows.{visit_ids_rise}
use Rattle.pl_check.proofs.good.are_good.Goals as goal
use Rattle.pl_check.proofs.good.are_good.Goals.{After-deref}

-- the items that the tags are looked for among are those of the rows
items : (c : After-deref) → c.deref.result.now ≡ c.args.rows.now.items
items c = c.deref.ensures.value ∙ ap (λ (r : Stored). r.items) c.rows.view_is

passed : (c : After-deref) → are_good c.args.rows.now ≡ true
passed c = sym c.in_ok-pass_tests.ensures ∙ c.if-not-branch.false

pub returns-then-not-branch-clause-whole : goal.returns-then-not-branch-clause-whole
returns-then-not-branch-clause-whole c = λ good.
    absurd (true≢false (sym (c.in_ok-pass_tests.ensures ∙ good-from c.args.rows.now good) ∙ c.if-not-branch.true))

pub have_good_tags-requires : goal.have_good_tags-requires
have_good_tags-requires c =
    subst (λ xs. IsStrictlyIncreasing (item_ids xs)) (sym (items c)) (ids_rise c.args.rows.now (passed c))

pub returns-clause-good : goal.returns-clause-good
returns-clause-good c =
    IfOk-weaker c.have_good_tags.result _ _ (λ pass means yes tree.
    good-to c.args.rows.now c.requires.readable (passed c.before)
    (subst HaveGoodTags (items c.before) (means.0 yes)) tree)
    c.have_good_tags.ensures

pub returns-clause-ascending : goal.returns-clause-ascending
returns-clause-ascending c =
    IfOk-weaker c.have_good_tags.result _ _ (λ pass means yes. ids_rise c.args.rows.now (passed c.before))
    c.have_good_tags.ensures

pub returns-clause-pages : goal.returns-clause-pages
returns-clause-pages c =
    IfOk-weaker c.have_good_tags.result _ _ (λ pass means yes. page_ids_rise c.args.rows.now (passed c.before))
    c.have_good_tags.ensures

pub returns-clause-visits : goal.returns-clause-visits
returns-clause-visits c =
    IfOk-weaker c.have_good_tags.result _ _ (λ pass means yes. visit_ids_rise c.args.rows.now (passed c.before))
    c.have_good_tags.ensures

pub returns-clause-root : goal.returns-clause-root
returns-clause-root c =
    IfOk-weaker c.have_good_tags.result _ _ (λ pass means yes. has_first c.args.rows.now (passed c.before))
    c.have_good_tags.ensures

pub returns-clause-whole : goal.returns-clause-whole
returns-clause-whole c = λ good.
    IfOk-weaker c.have_good_tags.result _ _ (λ pass means.
    means.1 (subst HaveGoodTags (sym (items c.before)) (good_tags c.args.rows.now good)))
    c.have_good_tags.ensures
