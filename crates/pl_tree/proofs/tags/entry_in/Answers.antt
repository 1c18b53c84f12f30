use Rattle.std.proofs.Common.{◌∙◌, Bool, Some, ap, sym}
use Rattle.pl_base.specs.Store.{Item}
use Rattle.pl_base.specs.Tree.{is_page}
use Rattle.pl_tree.proofs.TagWalks.{found_here, walked_near, walked_on, walked_there}
use Rattle.pl_tree.proofs.tags.entry_in.Goals as goal

pub is_of_page-requires : goal.is_of_page-requires
is_of_page-requires g c =
    walked_there (g.R.Rows.kept c.args.rows.now).items (λ (i : Item). is_page c.args.page i.page) c.args.folder
    c.loop-next.next c.in-Some.entry c.requires.good.tree c.loop-next.invariant c.in-Some.is

pub returns-then-is_of_page : goal.returns-then-is_of_page
returns-then-is_of_page g c =
    found_here (g.R.Rows.kept c.args.rows.now).items (λ (i : Item). is_page c.args.page i.page) c.args.folder
    c.loop-next.next c.in-Some.entry c.loop-next.invariant c.in-Some.is
    (ap (λ (b : Bool). Some b) (sym c.if-is_of_page.true) ∙ c.is_of_page.ensures)

pub loop-next-smaller : goal.loop-next-smaller
loop-next-smaller g c =
    walked_near (g.R.Rows.kept c.args.rows.now).items (λ (i : Item). is_page c.args.page i.page) c.args.folder
    c.loop-next.next c.in-Some.entry c.next_sibling-next.result c.requires.good.tree c.loop-next.invariant
    c.in-Some.is c.next_sibling-next.ensures.next

pub loop-next-preserved : goal.loop-next-preserved
loop-next-preserved g c =
    walked_on (g.R.Rows.kept c.args.rows.now).items (λ (i : Item). is_page c.args.page i.page) c.args.folder
    c.loop-next.next c.in-Some.entry c.next_sibling-next.result c.requires.good.tree c.loop-next.invariant
    c.in-Some.is c.next_sibling-next.ensures.next
    (ap (λ (b : Bool). Some b) (sym c.if-is_of_page.false) ∙ c.is_of_page.ensures)
