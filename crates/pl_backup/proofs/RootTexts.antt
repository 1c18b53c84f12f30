-- The texts of roots and of the whole backup, as they are put together, are those of their values.
use Rattle.std.proofs.Common.{◌≡◌, ◌∙◌, ◌++◌, ℕ, List, false, ap, append_assoc, refl, sym}
use Rattle.std.specs.Prelude.{codes}
use Rattle.std.specs.Fmt.{digits}
use Rattle.json.specs.Print.{escape}
use Rattle.pl_nbread.specs.declared.tree.Node.{Node}
use Rattle.pl_nbread.specs.declared.tree.Tree.{Tree}
use Rattle.pl_backup.specs.BackupText.{backup_text, items, root, values}
use Rattle.pl_backup.specs.Written.{backup_end, children_start, root_end, root_text}
use Rattle.serde_json.proofs.OnLiterals.{serde_json_on_literals}
use Rattle.serde_json.specs.Data.{Data, Items, item, no_items}
use Rattle.serde_json.specs.Written.{compact_text, items_text}

-- ---- a root

-- as its parts stand in the value
parted : List ℕ → List ℕ → List ℕ
parted guid name =
    codes ",\"dateAdded\":0,\"guid\":\"" ++ ((guid ++ codes "\"") ++ (codes ",\"lastModified\":0,\"root\":\""
    ++ ((name ++ codes "\"")
    ++ codes ",\"title\":\"\",\"type\":\"text/x-moz-place-container\",\"typeCode\":2}")))

parted_is : (guid name : List ℕ) → parted guid name ≡ root_end guid name
unfolding parted
parted_is guid name =
    regroup (codes ",\"dateAdded\":0,\"guid\":\"") guid (codes "\"") (codes ",\"lastModified\":0,\"root\":\"") name
    (codes "\"") (codes ",\"title\":\"\",\"type\":\"text/x-moz-place-container\",\"typeCode\":2}")
  where
    regroup : (a g p b n q e : List ℕ)
        → a ++ ((g ++ p) ++ (b ++ ((n ++ q) ++ e))) ≡ a ++ g ++ (p ++ b) ++ n ++ (q ++ e)
    regroup a g p b n q e = simp append_assoc

pub root_is : (guid name : List ℕ) (children : Items) → escape guid ≡ guid → escape name ≡ name
    → compact_text (root guid name children) ≡ children_start ++ (items_text false children ++ root_end guid name)
unfolding serde_json_on_literals digits parted
root_is guid name children plain also =
    ap (λ (x : List ℕ). children_start ++ (items_text false children ++ x))
    (ap (λ (g : List ℕ). parted g (escape name)) plain ∙ ap (parted guid) also ∙ parted_is guid name)

-- ---- the whole

-- four roots in the top object
four : (m t u o : Data) → compact_text (root (codes "root________") (codes "placesRoot") (item m (item t (item u (item o no_items)))))
    ≡ children_start
    ++ (compact_text m
    ++ (codes "," ++ (compact_text t ++ (codes "," ++ (compact_text u ++ (codes "," ++ (compact_text o ++ codes "]"))))))
    ++ root_end (codes "root________") (codes "placesRoot"))
unfolding serde_json_on_literals
four m t u o =
    root_is (codes "root________") (codes "placesRoot") (item m (item t (item u (item o no_items)))) refl refl

regroup : (s m t u o e c d n : List ℕ)
    → (s ++ m) ++ (c ++ t) ++ (c ++ u) ++ (c ++ o) ++ (d ++ e ++ n)
    ≡ s ++ (m ++ (c ++ (t ++ (c ++ (u ++ (c ++ (o ++ d)))))) ++ e) ++ n
regroup s m t u o e c d n = simp append_assoc

module _ (tree : Tree) where
  abbrev value : List ℕ → List ℕ → List Node → Data
  value guid name nodes = root guid name (items (values nodes))

  abbrev top : List ℕ → List ℕ → List ℕ → List ℕ → List ℕ
  top m t u o =
      children_start ++ (m ++ (codes "," ++ (t ++ (codes "," ++ (u ++ (codes "," ++ (o ++ codes "]"))))))
      ++ root_end (codes "root________") (codes "placesRoot"))

  abbrev menu : List ℕ
  menu = root_text (codes "menu________") (codes "bookmarksMenuFolder") tree.menu

  abbrev toolbar : List ℕ
  toolbar = root_text (codes "toolbar_____") (codes "toolbarFolder") tree.toolbar

  abbrev unfiled : List ℕ
  unfiled = root_text (codes "unfiled_____") (codes "unfiledBookmarksFolder") tree.unfiled

  abbrev mobile : List ℕ
  mobile = root_text (codes "mobile______") (codes "mobileFolder") tree.mobile

  menu_is : compact_text (value (codes "menu________") (codes "bookmarksMenuFolder") tree.menu) ≡ menu
  unfolding serde_json_on_literals
  menu_is = root_is (codes "menu________") (codes "bookmarksMenuFolder") (items (values tree.menu)) refl refl

  toolbar_is : compact_text (value (codes "toolbar_____") (codes "toolbarFolder") tree.toolbar) ≡ toolbar
  unfolding serde_json_on_literals
  toolbar_is = root_is (codes "toolbar_____") (codes "toolbarFolder") (items (values tree.toolbar)) refl refl

  unfiled_is : compact_text (value (codes "unfiled_____") (codes "unfiledBookmarksFolder") tree.unfiled) ≡ unfiled
  unfolding serde_json_on_literals
  unfiled_is = root_is (codes "unfiled_____") (codes "unfiledBookmarksFolder") (items (values tree.unfiled)) refl refl

  mobile_is : compact_text (value (codes "mobile______") (codes "mobileFolder") tree.mobile) ≡ mobile
  unfolding serde_json_on_literals
  mobile_is = root_is (codes "mobile______") (codes "mobileFolder") (items (values tree.mobile)) refl refl

  pub backup_is : (children_start ++ menu) ++ (codes "," ++ toolbar) ++ (codes "," ++ unfiled) ++ (codes "," ++ mobile)
      ++ backup_end
      ≡ backup_text tree
  backup_is =
      regroup children_start menu toolbar unfiled mobile (root_end (codes "root________") (codes "placesRoot")) (codes ",")
      (codes "]") (codes "\n")
      ∙ ap (λ (x : List ℕ). x ++ codes "\n")
      (sym
      (four (value (codes "menu________") (codes "bookmarksMenuFolder") tree.menu)
      (value (codes "toolbar_____") (codes "toolbarFolder") tree.toolbar)
      (value (codes "unfiled_____") (codes "unfiledBookmarksFolder") tree.unfiled)
      (value (codes "mobile______") (codes "mobileFolder") tree.mobile)
      ∙ (λ i. top (menu_is i) (toolbar_is i) (unfiled_is i) (mobile_is i))))
