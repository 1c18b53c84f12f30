use Rattle.std.proofs.Common.{◌≡◌, ◌∙◌, Bool, ap, false, not, sym, true}
use Rattle.std.specs.Option.{is_none}
use Rattle.pl_base.specs.Rows.{store_of}
use Rattle.pl_base.specs.Store.{Store}
use Rattle.pl_base.specs.Tags.{is_tag_entry}
use Rattle.pl_conditions.proofs.ItemSearch.{outside_at}
use Rattle.pl_conditions.proofs.conditions.parents.is_mark_in.Goals as goal

pub returns-then-is_none : goal.returns-then-is_none
returns-then-is_none g c i at =
    let store : Store = store_of (g.R.Rows.kept c.args.rows.now) in
    let outside : not (is_tag_entry store i.id) ≡ true =
    sym (outside_at store c.args.item i at) ∙ ap is_none (sym c.tag_folder.ensures.folder) ∙ ap not c.is_none.ensures
    ∙ ap (λ (b : Bool). not (not b)) c.if-is_none.true in
    rw outside (c.is_in_parents.ensures i at)

pub returns-else-is_none : goal.returns-else-is_none
returns-else-is_none g c i at =
    let store : Store = store_of (g.R.Rows.kept c.args.rows.now) in
    let inside : not (is_tag_entry store i.id) ≡ false =
    sym (outside_at store c.args.item i at) ∙ ap is_none (sym c.tag_folder.ensures.folder) ∙ ap not c.is_none.ensures
    ∙ ap (λ (b : Bool). not (not b)) c.if-is_none.false in
    rw inside c.if-is_none.false
