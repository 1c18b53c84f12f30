use Rattle.std.proofs.Common.{Bor, ◌∙◌, rules, sym, tests}
use Rattle.std.proofs.lemmas.Iterator.{YieldsList-from_slice}
use Rattle.std.proofs.lemmas.Iterator.Search.{all_from_yields_List}
use Rattle.std.proofs.lemmas.List.Folds.{list_all-map}
use Rattle.pl_base.specs.Store.{Item}
use Rattle.pl_check.specs.Tags.{is_tag_entry}
use Rattle.pl_check.proofs.tags.are_tag_entries.Goals as goal

pub returns : goal.returns
returns c =
    all_from_yields_List (λ (r : Bor Item). is_tag_entry r.now) _ _ c.all.result c.all.ensures.ran
    (YieldsList-from_slice c.args.entries.now cc) (λ x b q k. search (rules, tests))
    ∙ sym (list_all-map is_tag_entry (λ (r : Bor Item). r.now) c.args.entries.now)
