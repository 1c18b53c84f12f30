-- What a store's bookmark file gives back.
use Rattle.std.specs.Prelude.{IfOk}
use Rattle.std.proofs.Common.{◌≡◌, false, ℕ, List, None, Result, Ok, Err}
use Rattle.std.proofs.Common.{ap, subst, sym, ◌∙◌}
use Rattle.pl_base.specs.Live.{slot_limit}
use Rattle.pl_base.specs.Store.{Store, opening}
use Rattle.pl_engine.specs.Returns.{Returns}
use Rattle.pl_nbread.specs.BookmarkFile.{offset}
use Rattle.pl_nbread.specs.BookmarkTree.{tree_of}
use Rattle.pl_nbread.specs.declared.tree.Tree.{Tree}
use Rattle.pl_nbwrite.specs.BookmarkText.{file_text}
use Rattle.pl_nbwrite.specs.Plain.{IsPlain}
use Rattle.pl_outline.specs.Outline.{bookmarks}
use Rattle.pl_step.specs.declared.command.Command.TheVariants.{Import}
use Rattle.pl_step.specs.Refused.{is_refused}
use Rattle.pl_step.specs.Step.{perform}
use Rattle.places.specs.Exporting.{ComesBack, export_text}

-- three facts of what came out well
pub if_ok_all : {X E : Type 0} (result : Result X E) (P Q R S : X → Type 0) → IfOk result P → IfOk result Q
    → IfOk result R → ((x : X) → P x → Q x → R x → S x) → IfOk result S
if_ok_all (Ok x) P Q R S first second third all = all x first second third
if_ok_all (Err e) P Q R S first second third all = tt

-- the text of a tree that a file keeps and that comes back
pub comes_back : (start : Store) (tree : Tree) (text : List ℕ) → tree ≡ bookmarks start → IsPlain tree
    → ((limit : ℕ) → Returns limit tree) → text ≡ file_text tree → offset text ≡ None
    → (IsPlain tree → tree_of text ≡ tree) → ComesBack start
comes_back start tree text tree_is plain returns written taken reads =
    let text_is : text ≡ export_text start = written ∙ ap (λ (t : Tree). file_text t) tree_is in
    let back : tree_of (export_text start) ≡ tree = ap (λ (b : List ℕ). tree_of b) (sym text_is) ∙ reads plain in
    record {
      taken = subst (λ (b : List ℕ). offset b ≡ None) text_is taken;
      reads = back ∙ tree_is;
      returns = λ allowed.
          subst (λ (t : Tree). is_refused (perform slot_limit opening (Import t)).0 ≡ false
          → bookmarks (perform slot_limit opening (Import t)).1 ≡ tree) (sym back) (returns slot_limit) allowed
          ∙ tree_is;
    }
