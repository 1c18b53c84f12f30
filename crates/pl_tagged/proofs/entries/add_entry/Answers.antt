use Rattle.std.proofs.Common.{◌∙◌, ◌++◌, Option, ap, map}
use Rattle.std.specs.Option.{option_to_list}
use Rattle.std.proofs.lemmas.Result.{on_ok_weaker}
use Rattle.pl_base.specs.declared.view.View.{View}
use Rattle.pl_indexed.specs.Answer.{taken}
use Rattle.pl_indexed.specs.Found.{seen, seen_of}
use Rattle.pl_tagged.proofs.EntryWalk.{shown}
use Rattle.pl_tagged.proofs.TagViews.{known_entry}
use Rattle.pl_tagged.proofs.entries.add_entry.Goals as goal

pub add-requires-clause-view : goal.add-requires-clause-view
add-requires-clause-view g c =
    known_entry (g.R.Rows.kept c.args.rows.now).items c.args.known.now.views.items c.args.entry c.in-Some.view.now
    (shown (g.R.Rows.kept c.args.rows.now).items c.args.known.now.views.items c.args.entry c.entry_view.result
    c.in-Some.view c.entry_view.ensures c.in-Some.is)

pub returns : goal.returns
returns g c =
    let q = c.args.asked.now.query.now in
    on_ok_weaker c.add.result
    (λ more.
    more
    ∙ ap (λ (o : Option View). map seen c.args.found.now.items ++ map (seen_of q.sort) (taken q (option_to_list o)))
    (shown (g.R.Rows.kept c.args.rows.now).items c.args.known.now.views.items c.args.entry c.entry_view.result
    c.in-Some.view c.entry_view.ensures c.in-Some.is))
    c.add.ensures
