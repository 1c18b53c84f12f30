-- The file of a tree reads as that tree.
use Rattle.std.proofs.Common.{◌≡◌, ◌∙◌, ℕ, Bool, true, false, List, [], ◌∷◌, ◌++◌, Some, None, Option, ap, append-nil}
use Rattle.std.proofs.Common.{append_assoc, drop, map, refl, sym}
use Rattle.std.specs.Prelude.{codes, unwrap_or, if◌then◌else◌}
use Rattle.std.specs.List.{All, cons_option}
use Rattle.std.specs.Str.{is_utf8}
use Rattle.std.proofs.lemmas.Bool.{cond-true}
use Rattle.pl_base.specs.declared.date.Micros.{Micros}
use Rattle.pl_base.proofs.ListLaws.{regroup_four}
use Rattle.pl_nbread.specs.declared.tree.Node.{Node}
use Rattle.pl_nbread.specs.declared.tree.Tree.{Tree}
use Rattle.pl_nbread.specs.BookmarkFile.{body, offset}
use Rattle.pl_nbread.specs.BookmarkTree.{Made, Child, folder_unless, inside_of, is_same_root, menu}
use Rattle.pl_nbread.specs.BookmarkTree.{nodes_in, root_at, root_named, skipped_in, tree_of, tree_with}
use Rattle.pl_nbread.specs.Building.{made_within}
use Rattle.pl_nbread.specs.Parts.{Part, Other, part_of}
use Rattle.pl_nbread.specs.Tokens.{Attribute, Open, is_greater, is_stray, ends_name, tokens}
use Rattle.pl_nbread.specs.Tokens.{with_attribute}
use Rattle.pl_nbread.proofs.NestedLaws.{made_of_within}
use Rattle.pl_nbread.proofs.TokenLaws.{attributes-end, tokens-step}
use Rattle.pl_nbwrite.specs.BookmarkText.{attribute, file_text, heading, line, list_end, list_start, nodes_text, root_text}
use Rattle.pl_nbread.specs.Listed.{IsListed}
use Rattle.pl_nbwrite.specs.Plain.{IsKept, IsPlain}
use Rattle.std.proofs.lemmas.Str.{is_utf8-from_IsUtf8}
use Rattle.pl_nbwrite.proofs.FileKept.{file_kept}
use Rattle.pl_nbwrite.proofs.LinesBack.{dates_said, dl, end_made, heading_made}
use Rattle.pl_nbwrite.proofs.ListsBack.{at, list_made}
use Rattle.pl_nbwrite.proofs.TokenSteps.{Place, Root, attribute-step, lacks, named, open-tag, parts_of, skip, skip_run}

-- ---- the header

abbrev meta : List ℕ
meta =
    codes "<META" ++ attribute (codes "HTTP-EQUIV") (codes "Content-Type")
    ++ attribute (codes "CONTENT") (codes "text/html; charset=UTF-8") ++ codes ">"

abbrev titles : List ℕ
titles = codes "<TITLE>Bookmarks</TITLE>\n<H1>Bookmarks Menu</H1>\n\n<DL><p>\n"

meta_tag : (rest : List ℕ) → parts_of (meta ++ rest) ≡ Other ∷ parts_of rest
meta_tag rest =
    let two : List ℕ = attribute (codes "CONTENT") (codes "text/html; charset=UTF-8") ++ 62 ∷ rest in
    let bytes : List ℕ = attribute (codes "HTTP-EQUIV") (codes "Content-Type") ++ two in
    let first : Attribute = named (codes "HTTP-EQUIV") (codes "Content-Type") in
    let second : Attribute = named (codes "CONTENT") (codes "text/html; charset=UTF-8") in
    let said =
    attribute-step 72 (codes "TTP-EQUIV") (codes "Content-Type") two refl refl refl refl
    ∙ ap (with_attribute first)
    (attribute-step 67 (codes "ONTENT") (codes "text/html; charset=UTF-8") (62 ∷ rest) refl refl refl refl
    ∙ ap (with_attribute second) (attributes-end 62 rest refl)) in
    let tag : tokens (codes "<META" ++ bytes) ≡ Open (codes "META") (first ∷ second ∷ []) ∷ tokens rest =
    open-tag 77 (codes "ETA") 32 (drop 1 bytes) (first ∷ second ∷ []) rest refl refl refl refl refl said in
    ap (map part_of) tag

-- a tag that says nothing
title : (rest : List ℕ) → parts_of (codes "<TITLE>" ++ rest) ≡ Other ∷ parts_of rest
title rest = ap (map part_of) (tokens-step 60 (codes "TITLE>" ++ rest))

title_end : (rest : List ℕ) → parts_of (codes "</TITLE>" ++ rest) ≡ Other ∷ parts_of rest
title_end rest = ap (map part_of) (tokens-step 60 (codes "/TITLE>" ++ rest))

heading_tag : (rest : List ℕ) → parts_of (codes "<H1>" ++ rest) ≡ Other ∷ parts_of rest
heading_tag rest = ap (map part_of) (tokens-step 60 (codes "H1>" ++ rest))

heading_end : (rest : List ℕ) → parts_of (codes "</H1>" ++ rest) ≡ Other ∷ parts_of rest
heading_end rest = ap (map part_of) (tokens-step 60 (codes "/H1>" ++ rest))

abbrev outside : List Part → List Made
outside parts = made_within menu [] None parts

titles_made : (rest : List ℕ)
    → outside (parts_of (titles ++ rest)) ≡ made_within menu (menu ∷ []) None (parts_of rest)
titles_made rest =
    let six : List ℕ = codes "\n\n" ++ (codes "<DL><p>" ++ 10 ∷ rest) in
    let five : List ℕ = codes "Bookmarks Menu" ++ (codes "</H1>" ++ six) in
    let four : List ℕ = 10 ∷ (codes "<H1>" ++ five) in
    let three : List ℕ = codes "Bookmarks" ++ (codes "</TITLE>" ++ four) in
    ap outside (title three)
    ∙ skip_run menu [] None (codes "Bookmarks") (codes "</TITLE>" ++ four) refl
    ∙ ap outside (title_end four)
    ∙ skip menu [] None 10 (codes "<H1>" ++ five) refl
    ∙ ap outside (heading_tag five)
    ∙ skip_run menu [] None (codes "Bookmarks Menu") (codes "</H1>" ++ six) refl
    ∙ ap outside (heading_end six)
    ∙ skip_run menu [] None (codes "\n\n") (codes "<DL><p>" ++ 10 ∷ rest) refl
    ∙ ap outside (dl (10 ∷ rest))
    ∙ skip menu (menu ∷ []) None 10 rest refl

header_made : (rest : List ℕ)
    → outside (parts_of (10 ∷ (meta ++ 10 ∷ (titles ++ rest)))) ≡ made_within menu (menu ∷ []) None (parts_of rest)
header_made rest =
    skip menu [] None 10 (meta ++ 10 ∷ (titles ++ rest)) refl
    ∙ ap outside (meta_tag (10 ∷ (titles ++ rest)))
    ∙ skip menu [] None 10 (titles ++ rest) refl
    ∙ titles_made rest

-- ---- the other roots

abbrev no_date : Micros
no_date = record { 0 = 0 }

-- what the heading of a root says
abbrev root_said : List ℕ → List Attribute
root_said name = dates_said no_date no_date (named name (codes "true") ∷ [])

abbrev toolbar : Root
toolbar = unwrap_or (root_named (root_said (codes "PERSONAL_TOOLBAR_FOLDER"))) menu.root

abbrev unfiled : Root
unfiled = unwrap_or (root_named (root_said (codes "UNFILED_BOOKMARKS_FOLDER"))) menu.root

abbrev mobile : Root
mobile = unwrap_or (root_named (root_said (codes "MOBILE_BOOKMARKS_FOLDER"))) menu.root

root_made : (root : Root) (b : ℕ) (name own : List ℕ) (nodes : List Node) (rest : List ℕ)
    → is_greater b ≡ false → is_stray b ≡ false → lacks ends_name (b ∷ name) ≡ true
    → root_at menu (root_said (b ∷ name)) ≡ Some root → IsListed nodes → All IsKept nodes
    → made_within menu (menu ∷ []) None (parts_of (root_text (b ∷ name) own nodes ++ rest))
    ≡ map (Child root) nodes ++ made_within menu (menu ∷ []) None (parts_of rest)
root_made root b name own [] rest greater stray ends is listed kept = refl
root_made root b name own (node ∷ nodes) rest greater stray ends is listed kept =
    let inner : List ℕ = nodes_text 2 (node ∷ nodes) in
    let more : List ℕ = attribute (b ∷ name) (codes "true") in
    let here : Place = at root 0 in
    let around : List Place = menu ∷ menu ∷ [] in
    let behind : List ℕ = inner ++ (list_end 1 ++ rest) in
    ap (λ (l : List ℕ). made_within menu (menu ∷ []) None (parts_of l))
    (regroup_four (line 1 (heading no_date no_date more own) ++ list_start 1) inner (list_end 1) rest)
    ∙ heading_made menu (menu ∷ []) 1 no_date no_date more (named (b ∷ name) (codes "true") ∷ []) own behind refl refl
    (λ bytes. attribute-step b name (codes "true") (62 ∷ bytes) greater stray ends refl
    ∙ ap (with_attribute (named (b ∷ name) (codes "true"))) (attributes-end 62 bytes refl))
    ∙ ap (λ (o : Option Root). folder_unless o menu (root_said (b ∷ name)) own
    ++ made_within (inside_of menu o) around None (parts_of behind)) is
    ∙ list_made root around 2 (node ∷ nodes) (list_end 1 ++ rest) listed kept
    ∙ ap (λ (m : List Made). map (Child root) (node ∷ nodes) ++ m) (end_made here menu (menu ∷ []) 1 rest)

-- ---- the whole file

abbrev all_made : Tree → List Made
all_made tree =
    map (Child menu.root) tree.menu ++ (map (Child toolbar) tree.toolbar
    ++ (map (Child unfiled) tree.unfiled ++ (map (Child mobile) tree.mobile ++ [])))

five : (n a b c e : List ℕ) → (((n ++ a) ++ b) ++ c) ++ e ≡ n ++ (a ++ (b ++ (c ++ (e ++ []))))
five n a b c e = ap (λ (l : List ℕ). (((n ++ a) ++ b) ++ c) ++ l) (sym (append-nil e)) ∙ simp append_assoc

file_made : (tree : Tree) → IsPlain tree → outside (parts_of (body (file_text tree))) ≡ all_made tree
file_made tree plain =
    let n : List ℕ = nodes_text 1 tree.menu in
    let a : List ℕ = root_text (codes "PERSONAL_TOOLBAR_FOLDER") (codes "Bookmarks Toolbar") tree.toolbar in
    let b : List ℕ = root_text (codes "UNFILED_BOOKMARKS_FOLDER") (codes "Other Bookmarks") tree.unfiled in
    let c : List ℕ = root_text (codes "MOBILE_BOOKMARKS_FOLDER") (codes "Mobile Bookmarks") tree.mobile in
    let e : List ℕ = list_end 0 in
    let inside : List ℕ → List Made = λ l. made_within menu (menu ∷ []) None (parts_of l) in
    header_made ((((n ++ a) ++ b) ++ c) ++ e)
    ∙ ap inside (five n a b c e)
    ∙ list_made menu.root (menu ∷ []) 1 tree.menu (a ++ (b ++ (c ++ (e ++ [])))) plain.listed.menu plain.menu
    ∙ ap (λ (m : List Made). map (Child menu.root) tree.menu ++ m)
    (root_made toolbar 80 (codes "ERSONAL_TOOLBAR_FOLDER") (codes "Bookmarks Toolbar") tree.toolbar
    (b ++ (c ++ (e ++ []))) refl refl refl refl plain.listed.toolbar plain.toolbar
    ∙ ap (λ (m : List Made). map (Child toolbar) tree.toolbar ++ m)
    (root_made unfiled 85 (codes "NFILED_BOOKMARKS_FOLDER") (codes "Other Bookmarks") tree.unfiled
    (c ++ (e ++ [])) refl refl refl refl plain.listed.unfiled plain.unfiled
    ∙ ap (λ (m : List Made). map (Child unfiled) tree.unfiled ++ m)
    (root_made mobile 77 (codes "OBILE_BOOKMARKS_FOLDER") (codes "Mobile Bookmarks") tree.mobile (e ++ []) refl refl
    refl refl plain.listed.mobile plain.mobile
    ∙ ap (λ (m : List Made). map (Child mobile) tree.mobile ++ m) (end_made menu menu [] 0 []))))

-- ---- the tree of what was made

picked : (r : Root) (nodes : List Node) (more : List Made) → is_same_root r r ≡ true
    → nodes_in r (map (Child r) nodes ++ more) ≡ nodes ++ nodes_in r more
picked r [] more is = refl
picked r (node ∷ nodes) more is =
    ap (λ (v : Bool). cons_option (if v then Some node else None) (nodes_in r (map (Child r) nodes ++ more))) is
    ∙ ap (λ (l : List Node). node ∷ l) (picked r nodes more is)

passed : (r q : Root) (nodes : List Node) (more : List Made) → is_same_root r q ≡ false
    → nodes_in r (map (Child q) nodes ++ more) ≡ nodes_in r more
passed r q [] more is = refl
passed r q (node ∷ nodes) more is =
    ap (λ (v : Bool). cons_option (if v then Some node else None) (nodes_in r (map (Child q) nodes ++ more))) is
    ∙ passed r q nodes more is

none_skipped : (q : Root) (nodes : List Node) (more : List Made)
    → skipped_in (map (Child q) nodes ++ more) ≡ skipped_in more
none_skipped q [] more = refl
none_skipped q (node ∷ nodes) more = none_skipped q nodes more

tree_back : (tree : Tree) → tree.skipped ≡ 0 → tree_with (all_made tree) ≡ tree
tree_back tree none =
    let m : List Node = tree.menu in
    let t : List Node = tree.toolbar in
    let u : List Node = tree.unfiled in
    let o : List Node = tree.mobile in
    let last : List Made = map (Child mobile) o ++ [] in
    let behind_toolbar : List Made = map (Child unfiled) u ++ last in
    let behind_menu : List Made = map (Child toolbar) t ++ behind_toolbar in
    let of_menu : nodes_in menu.root (all_made tree) ≡ m =
    picked menu.root m behind_menu refl
    ∙ ap (λ (l : List Node). m ++ l)
    (passed menu.root toolbar t behind_toolbar refl ∙ passed menu.root unfiled u last refl
    ∙ passed menu.root mobile o [] refl)
    ∙ append-nil m in
    let of_toolbar : nodes_in toolbar (all_made tree) ≡ t =
    passed toolbar menu.root m behind_menu refl ∙ picked toolbar t behind_toolbar refl
    ∙ ap (λ (l : List Node). t ++ l) (passed toolbar unfiled u last refl ∙ passed toolbar mobile o [] refl)
    ∙ append-nil t in
    let of_unfiled : nodes_in unfiled (all_made tree) ≡ u =
    passed unfiled menu.root m behind_menu refl ∙ passed unfiled toolbar t behind_toolbar refl
    ∙ picked unfiled u last refl ∙ ap (λ (l : List Node). u ++ l) (passed unfiled mobile o [] refl) ∙ append-nil u in
    let of_mobile : nodes_in mobile (all_made tree) ≡ o =
    passed mobile menu.root m behind_menu refl ∙ passed mobile toolbar t behind_toolbar refl
    ∙ passed mobile unfiled u last refl ∙ picked mobile o [] refl ∙ append-nil o in
    let count : skipped_in (all_made tree) ≡ tree.skipped =
    none_skipped menu.root m behind_menu ∙ none_skipped toolbar t behind_toolbar ∙ none_skipped unfiled u last
    ∙ none_skipped mobile o [] ∙ sym none in
    λ i. record {
      menu = of_menu i;
      toolbar = of_toolbar i;
      unfiled = of_unfiled i;
      mobile = of_mobile i;
      skipped = count i;
    }

-- what is written reads as the tree
pub reads_back : (tree : Tree) → IsPlain tree → tree_of (file_text tree) ≡ tree
reads_back tree plain =
    ap tree_with (made_of_within (parts_of (body (file_text tree))) ∙ file_made tree plain)
    ∙ tree_back tree plain.skipped

-- a file that is UTF-8 is taken
pub taken_as_text : (tree : Tree) → is_utf8 (file_text tree) ≡ true → offset (file_text tree) ≡ None
taken_as_text tree utf8 = cond-true _ _ _ utf8

-- and the file of a plain tree is one
pub taken : (tree : Tree) → IsPlain tree → offset (file_text tree) ≡ None
taken tree plain = taken_as_text tree (is_utf8-from_IsUtf8 (file_text tree) (file_kept tree plain))
