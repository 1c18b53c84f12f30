use Rattle.std.proofs.Common.{◌≡◌, ◌∙◌, ◌++◌, List, ℕ, ap, sym}
use Rattle.std.specs.Prelude.{codes}
use Rattle.std.specs.Prelude.{true}
use Rattle.std.specs.Str.{is_utf8}
use Rattle.std.specs.String.{string_bytes}
use Rattle.std.proofs.lemmas.Str.{IsUtf8-string_bytes, is_utf8-from_IsUtf8}
use Rattle.pl_nbread.specs.BookmarkFile.{offset}
use Rattle.pl_nbread.specs.BookmarkTree.{tree_of}
use Rattle.pl_nbread.specs.declared.tree.Node.{Node}
use Rattle.pl_nbwrite.specs.BookmarkText.{attribute, file_text, header, list_end, nodes_text, root_text}
use Rattle.pl_nbwrite.specs.Written.{root_list}
use Rattle.pl_nbwrite.proofs.Appended.{grown}
use Rattle.pl_nbwrite.proofs.ListSteps.{root-list}
use Rattle.pl_nbwrite.proofs.ReadsBack.{reads_back, taken_as_text}
use Rattle.pl_nbwrite.proofs.writer.text.Goals as goal

-- a root that was pushed, of a list that equals the tree's
root_pushed : (s t name title : List ℕ) (list nodes : List Node)
    → t ≡ s ++ root_list (attribute name (codes "true")) title list → list ≡ nodes → t ≡ s ++ root_text name title nodes
root_pushed s t name title list nodes pushed same =
    pushed ∙ ap (λ (x : List Node). s ++ root_list (attribute name (codes "true")) title x) same
    ∙ ap (λ (x : List ℕ). s ++ x) (sym (root-list name title nodes))

pub returns : goal.returns
returns c =
    let tree = c.args.tree.now in
    let s0 : List ℕ = string_bytes c.in_ok-file.file in
    let s1 : List ℕ = string_bytes c.push_nodes.new.file in
    let s2 : List ℕ = string_bytes c.push_root.new.file in
    let s3 : List ℕ = string_bytes c.push_root-2.new.file in
    let s4 : List ℕ = string_bytes c.push_root-3.new.file in
    let s5 : List ℕ = string_bytes c.push_str.new.self in
    let menu = c.in_ok-push_nodes.ensures ∙ ap (λ (x : List Node). s0 ++ nodes_text 1 x) c.as_slice.ensures in
    let toolbar =
    root_pushed s1 s2 (codes "PERSONAL_TOOLBAR_FOLDER") (codes "Bookmarks Toolbar") c.as_slice-2.result.now tree.toolbar
    c.in_ok-push_root.ensures c.as_slice-2.ensures in
    let unfiled =
    root_pushed s2 s3 (codes "UNFILED_BOOKMARKS_FOLDER") (codes "Other Bookmarks") c.as_slice-3.result.now tree.unfiled
    c.in_ok-push_root-2.ensures c.as_slice-3.ensures in
    let mobile =
    root_pushed s3 s4 (codes "MOBILE_BOOKMARKS_FOLDER") (codes "Mobile Bookmarks") c.as_slice-4.result.now tree.mobile
    c.in_ok-push_root-3.ensures c.as_slice-4.ensures in
    let to_menu = grown s0 s1 header (nodes_text 1 tree.menu) c.in_ok-file.ensures.ok menu in
    let to_toolbar = grown s1 s2 _ _ to_menu toolbar in
    let to_unfiled = grown s2 s3 _ _ to_toolbar unfiled in
    let to_mobile = grown s3 s4 _ _ to_unfiled mobile in
    let written : c.from.result ≡ file_text tree =
    c.from.ensures ∙ grown s4 s5 _ (list_end 0) to_mobile c.in_ok-push_str.ensures.bytes in
    let utf8 : is_utf8 c.from.result ≡ true =
    ap is_utf8 c.from.ensures ∙ is_utf8-from_IsUtf8 s5 (IsUtf8-string_bytes c.push_str.new.self) in
    record {
      text = written;
      taken = ap offset written ∙ taken_as_text tree (ap is_utf8 (sym written) ∙ utf8);
      reads = λ plain. ap tree_of written ∙ reads_back tree plain;
    }
