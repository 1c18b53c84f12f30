use Rattle.std.proofs.Common.{◌≡◌, ◌∙◌, Option, ap, find, nat_le, nat_lt, rules, sym}
use Rattle.std.specs.Option.{option_copied, option_map}
use Rattle.std.proofs.lemmas.List.Sorted.{IsPartitionPoint-from_clause, IsPartitionedBy-leb}
use Rattle.pl_plain.specs.declared.flat.row.FlatPage.{FlatPage}
use Rattle.pl_base.proofs.Searches.{above_at, got_at, never_falls}
use Rattle.pl_plain.proofs.flat.search.behind.Goals as goal
use Rattle.pl_plain.proofs.flat.search.behind.Goals.{After-get}

-- the page at the end of those at most the id
at_end : (c : After-get) → option_copied c.get.result
    ≡ find (λ (p : FlatPage). nat_lt c.args.id p.id.0) c.args.pages.now
at_end c =
    got_at c.args.pages.now c.partition_point.result c.get.result c.get.ensures.lookup.3
    ∙ above_at (λ (p : FlatPage). p.id.0) c.args.pages.now c.args.id c.partition_point.result
    c.partition_point.ensures.bound
    (IsPartitionPoint-from_clause (λ (p : FlatPage). nat_le p.id.0 c.args.id) c.args.pages.now c.partition_point.result
    c.partition_point.ensures.partitioned
    (IsPartitionedBy-leb (λ (p : FlatPage). p.id.0) c.args.pages.now c.args.id
    (never_falls (λ (p : FlatPage). p.id.0) c.args.pages.now c.requires))
    (λ a r f' called. search rules))

pub returns-in_err-page : goal.returns-in_err-page
returns-in_err-page c =
    c.from_residual.ensures ∙ ap (λ (found : Option FlatPage). option_map (λ (p : FlatPage). p.id) found)
    (ap option_copied (sym c.in_err-page.was) ∙ at_end c.before.before.before)

pub returns : goal.returns
returns c =
    ap (λ (found : Option FlatPage). option_map (λ (p : FlatPage). p.id) found)
    (ap option_copied (sym c.in_ok-page.was) ∙ at_end c.before.before.before)
