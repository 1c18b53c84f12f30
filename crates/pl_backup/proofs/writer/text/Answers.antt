use Rattle.std.proofs.Common.{◌≡◌, ◌∙◌, ◌++◌, List, ℕ, ap}
use Rattle.std.specs.Prelude.{codes}
use Rattle.std.specs.String.{string_bytes}
use Rattle.pl_backup.specs.BackupText.{backup_text}
use Rattle.pl_backup.specs.BackupTree.{backup_tree}
use Rattle.pl_backup.specs.Written.{backup_end, children_start, root_text}
use Rattle.pl_base.proofs.ListLaws.{append_twice}
use Rattle.pl_backup.proofs.RootTexts.{backup_is}
use Rattle.pl_backup.proofs.TreeRead.{backup_read}
use Rattle.pl_backup.proofs.writer.text.Goals as goal

pub returns : goal.returns
returns c =
    let tree = c.args.tree.now in
    let s0 : List ℕ = string_bytes c.new-file.result in
    let s1 : List ℕ = string_bytes c.push_root.new.file in
    let s2 : List ℕ = string_bytes c.push_root-2.new.file in
    let s3 : List ℕ = string_bytes c.push_root-3.new.file in
    let s4 : List ℕ = string_bytes c.push_root-4.new.file in
    let s5 : List ℕ = string_bytes c.push_end.new.file in
    let menu : List ℕ = children_start ++ root_text (codes "menu________") (codes "bookmarksMenuFolder") tree.menu in
    let toolbar : List ℕ = codes "," ++ root_text (codes "toolbar_____") (codes "toolbarFolder") tree.toolbar in
    let unfiled : List ℕ = codes "," ++ root_text (codes "unfiled_____") (codes "unfiledBookmarksFolder") tree.unfiled in
    let mobile : List ℕ = codes "," ++ root_text (codes "mobile______") (codes "mobileFolder") tree.mobile in
    let to_toolbar = append_twice s0 s1 s2 menu toolbar c.in_ok-push_root.ensures c.in_ok-push_root-2.ensures in
    let to_unfiled = append_twice s0 s2 s3 (menu ++ toolbar) unfiled to_toolbar c.in_ok-push_root-3.ensures in
    let to_mobile = append_twice s0 s3 s4 (menu ++ toolbar ++ unfiled) mobile to_unfiled c.in_ok-push_root-4.ensures in
    let roots : List ℕ = menu ++ toolbar ++ unfiled ++ mobile in
    let to_end = append_twice s0 s4 s5 roots backup_end to_mobile c.in_ok-push_end.ensures in
    let is : c.from.result ≡ backup_text tree =
    c.from.ensures ∙ to_end ∙ ap (λ (x : List ℕ). x ++ (roots ++ backup_end)) c.new-file.ensures.bytes ∙ backup_is tree in
    record { text = is; reads_back = λ kept. ap backup_tree is ∙ backup_read tree kept }
