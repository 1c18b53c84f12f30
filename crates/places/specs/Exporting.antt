-- What `export` says of a store, and that it comes back.
use Rattle.std.specs.Prelude.{◌≡◌, ℕ, false, List, None}
use Rattle.pl_base.specs.Live.{slot_limit}
use Rattle.pl_base.specs.Store.{Store, opening}
use Rattle.pl_intake.specs.Intake.{intake_of}
use Rattle.pl_intake.specs.declared.intake.Intake.TheVariants.{Import}
use Rattle.pl_nbread.specs.BookmarkFile.{offset}
use Rattle.pl_nbread.specs.BookmarkTree.{tree_of}
use Rattle.pl_nbwrite.specs.BookmarkText.{file_text}
use Rattle.pl_outline.specs.Outline.{bookmarks}
use Rattle.pl_step.specs.Refused.{is_refused}
use Rattle.pl_step.specs.Step.{perform}
use Rattle.places.specs.TakingIn.{after_intake}

-- the bookmark file of a store
abbrev pub export_text : Store → List ℕ
export_text start = file_text (bookmarks start)

-- The bookmark file of a store holds its bookmarks, and an import of it into the store before its
-- first command, unless it is refused, gives a store with the same bookmarks.
pub record ComesBack (start : Store) : Type 0 where
  pub taken : offset (export_text start) ≡ None
  pub reads : tree_of (export_text start) ≡ bookmarks start
  pub returns : is_refused (perform slot_limit opening (intake_of Import (export_text start))).0 ≡ false
      → bookmarks (after_intake Import opening (export_text start)) ≡ bookmarks start
