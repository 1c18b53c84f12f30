use Rattle.std.proofs.Common.{◌≡◌, ◌∙◌, Bool, ap, length, map, sym, true}
use Rattle.std.proofs.lemmas.List.{map-id}
use Rattle.pl_plain.specs.FlatRows.{has_name, renamed_row, totals_left}
use Rattle.pl_plain.proofs.flat.drop.free_name.Goals as goal

pub returns-then-is_in_use-clause-pages : goal.returns-then-is_in_use-clause-pages
returns-then-is_in_use-clause-pages c =
    let pages = c.args.pages.now.items in
    let used : has_name c.args.name pages ≡ true =
    sym (c.is_in_use.ensures ∙ ap (has_name c.args.name) c.deref.ensures.value) ∙ c.if-is_in_use.true in
    sym (ap (λ (b : Bool). map (renamed_row b (length c.args.totals.now.items) c.args.name) pages) used ∙ map-id pages)

pub returns-then-is_in_use-clause-totals : goal.returns-then-is_in_use-clause-totals
returns-then-is_in_use-clause-totals c =
    let pages = c.args.pages.now.items in
    let used : has_name c.args.name pages ≡ true =
    sym (c.is_in_use.ensures ∙ ap (has_name c.args.name) c.deref.ensures.value) ∙ c.if-is_in_use.true in
    sym (ap (λ (b : Bool). totals_left b c.args.name c.args.totals.now.items) used)
