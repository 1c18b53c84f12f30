use Rattle.std.proofs.Common.{◌&&◌, ◌==◌, ◌||◌, ◌∙◌, Option, ap, sym}
use Rattle.pl_base.specs.declared.id.PageId.{PageId}
use Rattle.pl_base.specs.Tree.{is_page}
use Rattle.pl_keyed.specs.KnownTags.{has_pair}
use Rattle.pl_keyed.proofs.TagLookups.{pair_put}
use Rattle.pl_keyed.proofs.tags.add_entry.Goals as goal

pub returns-in_ok-insert : goal.returns-in_ok-insert
returns-in_ok-insert c =
    λ q n.
    pair_put c.args.entries.now c.insert.new.self c.in-Some.page.0 c.args.folder.0 c.from.result c.from-in-Some.result
    c.from.ensures c.from-in-Some.ensures c.in_ok-insert.ensures.updates q n
    ∙ ap (λ (o : Option PageId). has_pair c.args.entries.now q n || ((c.args.folder.0 == n) && is_page q o))
    (sym c.in-Some.is)
