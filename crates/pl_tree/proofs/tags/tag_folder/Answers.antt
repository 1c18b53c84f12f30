use Rattle.std.proofs.Common.{◌≡◌, ◌∙◌, Bool, true, false, List, Option, Some, ap, sym, ℕ}
use Rattle.std.specs.Option.{option_map}
use Rattle.std.specs.Prelude.{bytes_eq}
use Rattle.pl_base.specs.Fold.{folded}
use Rattle.pl_base.specs.Store.{Item}
use Rattle.pl_base.specs.Tags.{tags_root}
use Rattle.pl_base.specs.Tree.{item_at}
use Rattle.pl_tree.proofs.TagWalks.{found_here, walked_near, walked_on, walked_there}
use Rattle.pl_tree.proofs.tags.tag_folder.Goals as goal

-- what is told of a title's fold
told : (item : Option Item) (is is_now : Bool) (folds text name : List ℕ)
    → Some is ≡ option_map (λ (i : Item). bytes_eq (folded i.title) folds) item → folds ≡ folded text → text ≡ name
    → is ≡ is_now → Some is_now ≡ option_map (λ (i : Item). bytes_eq (folded i.title) (folded name)) item
told item is is_now folds text name h same_folds same_text same =
    ap (λ (b : Bool). Some b) (sym same) ∙ h
    ∙ ap (λ (f : List ℕ). option_map (λ (i : Item). bytes_eq (folded i.title) f) item)
    (same_folds ∙ ap folded same_text)

pub has_fold-requires : goal.has_fold-requires
has_fold-requires g c =
    walked_there (g.R.Rows.kept c.args.rows.now).items
    (λ (i : Item). bytes_eq (folded i.title) (folded c.args.name.now)) tags_root
    c.loop-next.next c.in-Some.folder c.requires.good.tree c.loop-next.invariant c.in-Some.is

pub returns-then-branch : goal.returns-then-branch
returns-then-branch g c =
    let items : List Item = (g.R.Rows.kept c.args.rows.now).items in
    found_here items (λ (i : Item). bytes_eq (folded i.title) (folded c.args.name.now)) tags_root
    c.loop-next.next c.in-Some.folder c.loop-next.invariant c.in-Some.is
    (told (item_at items c.in-Some.folder) c.in_ok-has_fold.field-0 true c.in_ok-folds.folds c.text.result.now
    c.args.name.now c.in_ok-has_fold.ensures c.in_ok-folds.ensures c.text.ensures.value c.if-branch.true)

pub loop-next-smaller : goal.loop-next-smaller
loop-next-smaller g c =
    walked_near (g.R.Rows.kept c.args.rows.now).items
    (λ (i : Item). bytes_eq (folded i.title) (folded c.args.name.now)) tags_root
    c.loop-next.next c.in-Some.folder c.next_sibling-next.result c.requires.good.tree c.loop-next.invariant
    c.in-Some.is c.next_sibling-next.ensures.next

pub loop-next-preserved : goal.loop-next-preserved
loop-next-preserved g c =
    let items : List Item = (g.R.Rows.kept c.args.rows.now).items in
    walked_on items (λ (i : Item). bytes_eq (folded i.title) (folded c.args.name.now)) tags_root
    c.loop-next.next c.in-Some.folder c.next_sibling-next.result c.requires.good.tree c.loop-next.invariant
    c.in-Some.is c.next_sibling-next.ensures.next
    (told (item_at items c.in-Some.folder) c.in_ok-has_fold.field-0 false c.in_ok-folds.folds c.text.result.now
    c.args.name.now c.in_ok-has_fold.ensures c.in_ok-folds.ensures c.text.ensures.value c.if-branch.false)
