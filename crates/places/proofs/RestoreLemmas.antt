-- Backups that a restore brings back.
use Rattle.std.proofs.Common.{◌≡◌, ◌∙◌, true, false, ℕ, List, Option, Some, None, Result, Ok, ap, refl, subst, sym}
use Rattle.std.proofs.lemmas.Bool.{true≢false}
use Rattle.std.proofs.lemmas.List.Elements.{All-weaker}
use Rattle.std.specs.List.{All, list_all}
use Rattle.pl_backup.specs.BackupTree.{backup_tree}
use Rattle.pl_backup.specs.ReadsBack.{HasTexts, IsKept, KeepsInJson, is_shallow}
use Rattle.pl_backup.specs.declared.error.Fault.{Fault}
use Rattle.pl_backup.proofs.TreeRead.{backup_read}
use Rattle.pl_base.specs.Good.{IsGood}
use Rattle.pl_base.specs.Live.{slot_limit}
use Rattle.pl_base.specs.Store.{Store}
use Rattle.pl_base.specs.declared.refusal.Refusal.{Refusal}
use Rattle.pl_graft.specs.Restored.{restored}
use Rattle.pl_intake.specs.Intake.{tree_in, tree_or_empty}
use Rattle.pl_intake.specs.declared.intake.Intake.TheVariants.{Restore}
use Rattle.pl_nbread.specs.Listed.{IsListed}
use Rattle.pl_nbread.specs.declared.tree.Node.{Node}
use Rattle.pl_nbread.specs.declared.tree.Tree.{Tree}
use Rattle.pl_outline.specs.Outline.{whole}
use Rattle.pl_outline.specs.Whole.{IsWhole, IsWholeNode}
use Rattle.pl_outline.proofs.PlainTrees.{whole_tree_is}
use Rattle.pl_outline.proofs.Returned.{comes_back}
use Rattle.pl_step.specs.declared.reply.Reply.{Reply}
use Rattle.pl_step.specs.Refused.{is_refused}
use Rattle.pl_step.specs.Step.{import_refusal, restore_reply, unless_refused}
use Rattle.pl_store.specs.Session.{Stands}
use Rattle.places.specs.Restoring.{BringsBack, IsShallow}
use Rattle.places.specs.TakingIn.{IsTaken, after_intake}

-- what is not refused is done
done_of : (o : Option Refusal) (store : Store) (done : Reply × Store)
    → is_refused (unless_refused o store done).0 ≡ false → (unless_refused o store done).1 ≡ done.1
done_of (Some refusal) store done allowed = absurd (true≢false allowed)
done_of None store done allowed = refl

-- the store after a restore that was taken
after_taken : (start : Store) (bytes : List ℕ) → IsTaken Restore start bytes
    → after_intake Restore start bytes ≡ restored (tree_in Restore bytes) start
after_taken start bytes taken = let tree = tree_in Restore bytes in let after = restored tree start in
    done_of (import_refusal slot_limit start tree after) start (restore_reply start tree, after) taken.allowed

-- a list of a whole tree is kept in a backup, where it is not too deep
list_kept : (nodes : List Node) → IsListed nodes → All IsWholeNode nodes → list_all is_shallow nodes ≡ true
    → IsKept nodes
list_kept nodes listed own shallow = record {
  listed = listed;
  shallow = shallow;
  texts =
      All-weaker IsWholeNode HasTexts
      (λ node is. record { title = is.title; url = is.url; tags = is.tags }) nodes own;
}

tree_kept : (tree : Tree) → IsWhole tree → IsShallow tree → KeepsInJson tree
tree_kept tree is shallow = record {
  menu = list_kept tree.menu is.listed.menu is.menu shallow.menu;
  toolbar = list_kept tree.toolbar is.listed.toolbar is.toolbar shallow.toolbar;
  unfiled = list_kept tree.unfiled is.listed.unfiled is.unfiled shallow.unfiled;
  mobile = list_kept tree.mobile is.listed.mobile is.mobile shallow.mobile;
  skipped = is.skipped;
}

-- a file stands for a good store only
stands_good : (file : List ℕ) (store : Store) → Stands file store → IsGood store
stands_good file store stands = subst IsGood stands.form.same stands.form.sound.good

-- the backup of a good store brings back its whole tree, where a restore of it is taken
pub brings_back : (start : Store) (bytes file : List ℕ) → Stands file start → IsTaken Restore start bytes
    → BringsBack start bytes
brings_back start bytes file stands taken kept good shallow is =
    let reads : backup_tree bytes ≡ Ok (whole kept) =
    ap backup_tree is ∙ backup_read (whole kept) (tree_kept (whole kept) (whole_tree_is kept good) shallow) in
    ap whole (after_taken start bytes taken
    ∙ ap (λ (r : Result Tree Fault). restored (tree_or_empty r) start) reads)
    ∙ (comes_back kept good start (stands_good file start stands)).again
