-- One attribute more.
use Rattle.std.proofs.Common.{◌≡◌, ◌∙◌, ◌∷◌, ◌++◌, List, ℕ, [], ap, sym}
use Rattle.std.specs.Prelude.{codes, Option}
use Rattle.pl_nbread.specs.Scanned.{first_said}
use Rattle.pl_nbread.specs.Tokens.{Attribute}
use Rattle.pl_nbread.specs.BookmarkTree.{raw}
use Rattle.pl_nbread.proofs.AttributeSteps.{raw_more}
use Rattle.pl_nbread.proofs.attributes.Attributes.with.Goals as goal

field : (known name value : List ℕ) (old new : Option (List ℕ)) (before : List Attribute)
    → new ≡ first_said old known name value → old ≡ raw known before
    → new ≡ raw known (before ++ record { name = name; value = value } ∷ [])
field known name value old new before now was =
    now ∙ ap (λ o. first_said o known name value) was
    ∙ sym (raw_more known before (record { name = name; value = value }))

pub returns : goal.returns
returns c before tells =
    let name : List ℕ = c.args.name.now in
    let value : List ℕ = c.args.value.now in
    record {
      href = field (codes "href") name value _ _ before c.first.ensures tells.href;
      add_date = field (codes "add_date") name value _ _ before c.first-2.ensures tells.add_date;
      last_modified =
          field (codes "last_modified") name value _ _ before c.first-3.ensures tells.last_modified;
      tags = field (codes "tags") name value _ _ before c.first-4.ensures tells.tags;
      toolbar =
          field (codes "personal_toolbar_folder") name value _ _ before c.first-5.ensures tells.toolbar;
      unfiled =
          field (codes "unfiled_bookmarks_folder") name value _ _ before c.first-6.ensures tells.unfiled;
      mobile =
          field (codes "mobile_bookmarks_folder") name value _ _ before c.first-7.ensures tells.mobile;
    }
