-- Worked rows of trees that a backup keeps.
use Rattle.std.proofs.Common.{◌≡◌, ℕ, zero, suc, List, [], ◌∷◌, Option, Some, None, refl}
use Rattle.std.specs.Prelude.{codes}
use Rattle.std.specs.Str.{chars, is_utf8}
use Rattle.std.proofs.lemmas.List.Elements.{All-from_recursion, All-nil}
use lib.Utf8.{encode}
use Rattle.caseless.proofs.Computing.{caseless}
use Rattle.url.proofs.OnLiterals.{url_on_literals}
use Rattle.pl_base.specs.declared.item.ItemKind.{ItemKind}
use Rattle.pl_base.specs.declared.item.ItemKind.TheVariants.{Bookmark, Folder, Separator}
use Rattle.pl_nbread.specs.declared.tree.Node.{Node}
use Rattle.pl_nbread.specs.declared.tree.Tree.{Tree}
use Rattle.pl_backup.specs.BackupText.{backup}
use Rattle.pl_backup.specs.ReadsBack.{HasTexts, IsKept, KeepsInJson}
use Rattle.serde_json.specs.Data.{depth}

abbrev row : ItemKind → ℕ → Option (List ℕ) → List ℕ → ℕ → ℕ → List (List ℕ) → Node
row kind depth url title added modified tags =
    record {
      depth = depth;
      kind = kind;
      url = url;
      title = title;
      added = record { 0 = added };
      modified = record { 0 = modified };
      tags = tags;
    }

abbrev in_menu : List Node → Tree
in_menu nodes = record { menu = nodes; toolbar = []; unfiled = []; mobile = []; skipped = 0 }

-- ---- nodes of each kind

abbrev mixed : List Node
mixed =
    row Folder 0 None (codes "F") 1 2 []
    ∷ row Bookmark 1 (Some (codes "https://a.example/")) (195 ∷ 169 ∷ codes "\"\n") 1_700_000_000_123_456 4
    (codes "Red" ∷ codes "a b" ∷ [])
    ∷ row Separator 0 None (codes "S") 5 6 [] ∷ []

none_kept : IsKept []
none_kept =
    record { listed = record { begins = refl; goes_on = refl; formed = refl }; shallow = refl; texts = All-nil HasTexts }

mixed_kept : IsKept mixed
unfolding url_on_literals caseless chars encode is_utf8
mixed_kept =
    record {
      listed = record { begins = refl; goes_on = refl; formed = refl };
      shallow = refl;
      texts = All-from_recursion HasTexts mixed (
        record { title = refl; url = tt; tags = λ _. refl },
        (
          record { title = refl; url = (refl, refl); tags = λ e. absurd cc },
          (record { title = refl; url = tt; tags = λ _. refl }, tt),
        ),
      );
    }

mixed_keeps : KeepsInJson (in_menu mixed)
mixed_keeps =
    record { menu = mixed_kept; toolbar = none_kept; unfiled = none_kept; mobile = none_kept; skipped = refl }

-- ---- depths

-- so many folders, each in the one before it
abbrev nested : ℕ → ℕ → List Node
nested zero depth = []
nested (suc n) depth = row Folder depth None [] 0 0 [] ∷ nested n (suc depth)

-- a folder at the greatest depth, and one in it
nests : depth (backup (in_menu (nested 61 0))) ≡ 126
nests = refl

nests_more : depth (backup (in_menu (nested 62 0))) ≡ 128
nests_more = refl
