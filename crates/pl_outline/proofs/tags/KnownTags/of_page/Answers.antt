use Rattle.pl_base.specs.Rows.{store_of}
use Rattle.pl_outline.proofs.TagsKnown.{known_more}
use Rattle.pl_outline.proofs.tags.KnownTags.of_page.Goals as goal

pub returns-clause-known : goal.returns-clause-known
returns-clause-known g c =
    known_more (store_of (g.R.Rows.kept c.args.rows.now)) c.args.self.now (record { by_page = c.insert.new.self })
    c.args.page _ c.requires.known c.in_ok-insert.ensures.updates c.in_ok-names.ensures
