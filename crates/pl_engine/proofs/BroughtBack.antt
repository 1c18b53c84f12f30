-- Bookmarks that come back come back by the command.
use Rattle.std.proofs.Common.{◌≡◌, ℕ, false, Option, Some, None}
use Rattle.std.proofs.lemmas.Bool.{true≢false}
use Rattle.pl_base.specs.declared.refusal.Refusal.{Refusal}
use Rattle.pl_base.specs.Store.{opening}
use Rattle.pl_nbread.specs.declared.tree.Tree.{Tree}
use Rattle.pl_graft.specs.Import.{imported}
use Rattle.pl_outline.specs.Outline.{bookmarks}
use Rattle.pl_step.specs.Refused.{is_refused}
use Rattle.pl_step.specs.Step.{import_refusal, import_reply, unless_refused}
use Rattle.pl_engine.specs.Returns.{Returns}

pub brought_back : (limit : ℕ) (tree : Tree) → bookmarks (imported tree opening) ≡ tree → Returns limit tree
brought_back limit tree is = choose (import_refusal limit opening tree (imported tree opening))
  where
    choose : (o : Option Refusal)
        → is_refused (unless_refused o opening (import_reply opening tree, imported tree opening)).0 ≡ false
        → bookmarks (unless_refused o opening (import_reply opening tree, imported tree opening)).1 ≡ tree
    choose None allowed = is
    choose (Some refusal) allowed = absurd (true≢false allowed)
