use Rattle.std.proofs.Common.{◌∙◌, subst}
use Rattle.std.proofs.lemmas.Result.{IfOk-weaker}
use Rattle.pl_base.specs.Rows.{store_of}
use Rattle.pl_indexed.specs.Answer.{taken}
use Rattle.pl_indexed.specs.Found.{AreFound}
use Rattle.pl_place.specs.declared.query.Query.{Query}
use Rattle.pl_tagged.specs.Entered.{tagged}
use Rattle.pl_tagged.proofs.TaggedRows.{tagged_differ, tagged_told}
use Rattle.pl_tagged.proofs.answered.answer_tagged.Goals as goal

pub rows_of-requires : goal.rows_of-requires
rows_of-requires g c =
    let store = store_of (g.R.Rows.kept c.args.rows.now) in
    let views = c.args.known.now.views.items in
    tagged_differ store c.args.query.now c.args.tag.now views c.requires.good c.requires.knows.views
    c.requires.knows.followed.order c.requires.watchable c.requires.with_it c.requires.among
    c.in_ok-found.found.items
    (subst (λ (q : Query). AreFound q.sort (taken q (tagged store.items views c.args.tag.now)) c.in_ok-found.found.items)
    c.in_ok-asked.ensures.query c.in_ok-found.ensures)

pub returns : goal.returns
returns g c =
    let store = store_of (g.R.Rows.kept c.args.rows.now) in
    let views = c.args.known.now.views.items in
    let q = c.args.query.now in
    IfOk-weaker c.rows_of.result _ _
    (λ rows told.
    told (taken q (tagged store.items views c.args.tag.now))
    (subst (λ (r : Query). AreFound r.sort (taken r (tagged store.items views c.args.tag.now)) c.in_ok-found.found.items)
    c.in_ok-asked.ensures.query c.in_ok-found.ensures)
    ∙ tagged_told store q c.args.tag.now views c.requires.good c.requires.knows.views c.requires.knows.followed.order
    c.requires.watchable c.requires.with_it c.requires.among)
    c.rows_of.ensures
