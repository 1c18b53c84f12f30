-- What the nodes of a root's list make.
use Rattle.std.proofs.Common.{◌≡◌, ◌∙◌, ◌+◌, ◌-◌, ◌≤◌, ◌==◌, ℕ, zero, suc, Bool, true, false, not, List, []}
use Rattle.std.proofs.Common.{◌∷◌, ◌++◌, None, Option, ap, append_assoc, arith, eqb-true, length, map, refl, subst, sym}
use Rattle.std.proofs.Common.{⊎_elim}
use Rattle.std.specs.Prelude.{is_some, if◌then◌else◌}
use Rattle.std.specs.List.{All, AllByRecursion, list_all}
use Rattle.std.proofs.lemmas.Bool.{and_parts, leb-true, or_cases, true≢false}
use Rattle.std.proofs.lemmas.List.Elements.{recursion_from_All}
use Rattle.pl_base.specs.declared.item.ItemKind.{ItemKind}
use Rattle.pl_base.specs.declared.item.ItemKind.TheVariants.{Bookmark, Folder, Separator}
use Rattle.pl_nbread.specs.declared.tree.Node.{Node}
use Rattle.pl_nbread.specs.BookmarkTree.{Made, Child, folder_unless, inside_of, is_menu}
use Rattle.pl_nbread.specs.BookmarkTree.{root_named}
use Rattle.pl_nbread.specs.Building.{made_within}
use Rattle.pl_nbread.specs.Listed.{IsListed}
use Rattle.pl_nbread.specs.Tokens.{Attribute}
use Rattle.pl_nbread.specs.WellFormed.{begins, goes_on, is_bookmark, is_folder, is_formed, may_follow}
use Rattle.pl_nbread.proofs.NodeLaws.{IsFormed, formed, goes_later}
use Rattle.pl_nbread.proofs.TokenLaws.{attributes-end}
use Rattle.pl_nbwrite.specs.BookmarkText.{lines_of, list_end, list_ends, lists_open, node_text, nodes_text}
use Rattle.pl_nbwrite.specs.Plain.{IsKept, is_bare}
use Rattle.pl_nbwrite.specs.Written.{next_depth}
use Rattle.pl_nbwrite.proofs.LinesBack.{dates_said, end_made, folder_back, heading_made, link_back, link_made}
use Rattle.pl_nbwrite.proofs.LinesBack.{nil_of, none_of, rule_made, separator_back}
use Rattle.pl_nbwrite.proofs.ListSteps.{nodes-step}
use Rattle.pl_nbwrite.proofs.TokenSteps.{Place, Root, parts_of}

-- where the children of a folder of this root stand that so many folders are around
abbrev pub at : Root → ℕ → Place
at root depth = record { root = root; depth = depth }

-- the places around it
abbrev pub stack : Root → ℕ → List Place → List Place
stack root zero base = base
stack root (suc depth) base = at root depth ∷ stack root depth base

-- ---- the ends of lists

ends_made : (root : Root) (base : List Place) (level next count lists : ℕ) (rest : List ℕ) → lists ≡ next + count
    → made_within (at root lists) (stack root lists base) None (parts_of (list_ends level count ++ rest))
    ≡ made_within (at root next) (stack root next base) None (parts_of rest)
ends_made root base level next zero lists rest is =
    let same : lists ≡ next = omega arith in
    ap (λ (d : ℕ). made_within (at root d) (stack root d base) None (parts_of rest)) same
ends_made root base level next (suc count) zero rest is = absurd (omega arith)
ends_made root base level next (suc count) (suc lists) rest is =
    ap (λ (l : List ℕ). made_within (at root (suc lists)) (at root lists ∷ stack root lists base) None (parts_of l))
    (append_assoc (list_end (level + count)) (list_ends level count) rest)
    ∙ end_made (at root (suc lists)) (at root lists) (stack root lists base) (level + count) (list_ends level count ++ rest)
    ∙ ends_made root base level next count lists rest (omega arith)

-- ---- a node

-- how many lists are open behind a node of this kind
abbrev open_at : ItemKind → ℕ → ℕ
open_at kind depth = if is_folder kind then depth + 1 else depth

-- what holds of a node of this kind
record FormedAs (node : Node) (kind : ItemKind) : Type 0 where
  url : (if is_bookmark kind then is_some node.url else not (is_some node.url)) ≡ true
  bare : is_bare kind node ≡ true
  own : IsFormed node

formed_as : (node : Node) (kind : ItemKind) → node.kind ≡ kind → is_formed node ≡ true → IsKept node
    → FormedAs node kind
formed_as node kind is good kept =
    let own = formed node good in
    record {
      url =
          subst (λ (k : ItemKind). (if is_bookmark k then is_some node.url else not (is_some node.url)) ≡ true) is
          own.linked;
      bare = subst (λ (k : ItemKind). is_bare k node ≡ true) is kept.bare;
      own = own;
    }

-- a heading with dates alone stands for no root
no_root : (v : Bool) (node : Node)
    → (if v then root_named (dates_said node.added node.modified []) else None) ≡ None
no_root true node = refl
no_root false node = refl

stack_more : (root : Root) (depth : ℕ) (base : List Place)
    → at root depth ∷ stack root depth base ≡ stack root (depth + 1) base
stack_more root depth base =
    let more : suc depth ≡ depth + 1 = omega arith in
    ap (λ (n : ℕ). stack root n base) more

lines_made : (root : Root) (base : List Place) (level : ℕ) (node : Node) (rest : List ℕ) (kind : ItemKind)
    → node.kind ≡ kind → IsKept node → FormedAs node kind
    → made_within (at root node.depth) (stack root node.depth base) None (parts_of (lines_of kind level node ++ rest))
    ≡ Child root node
    ∷ made_within (at root (open_at kind node.depth)) (stack root (open_at kind node.depth) base) None (parts_of rest)
lines_made root base level node rest Bookmark is kept good =
    let here : Place = at root node.depth in
    let outer : List Place = stack root node.depth base in
    link_made here outer level node rest good.own.added good.own.modified
    ∙ ap (λ (m : Made). m ∷ made_within here outer None (parts_of rest))
    (link_back here node good.own kept refl node.url is refl good.url kept.url)
lines_made root base level node rest Separator is kept good =
    let here : Place = at root node.depth in
    let outer : List Place = stack root node.depth base in
    let all = and_parts _ (node.modified.0 == 0) good.bare in
    let added = and_parts _ (node.added.0 == 0) all.0 in
    let titles = and_parts _ (length node.title == 0) added.0 in
    rule_made here outer level rest
    ∙ ap (λ (n : Node). Child root n ∷ made_within here outer None (parts_of rest))
    (separator_back here node refl is (none_of node.url good.url) (nil_of node.title titles.1)
    (nil_of node.tags titles.0) (eqb-true node.added.0 0 added.1) (eqb-true node.modified.0 0 all.1))
lines_made root base level node rest Folder is kept good =
    let here : Place = at root node.depth in
    let outer : List Place = stack root node.depth base in
    let said : List Attribute = dates_said node.added node.modified [] in
    heading_made here outer level node.added node.modified [] [] node.title rest good.own.added good.own.modified
    (λ bytes. attributes-end 62 bytes refl)
    ∙ ap (λ (o : Option Root). folder_unless o here said node.title
    ++ made_within (inside_of here o) (here ∷ outer) None (parts_of rest)) (no_root (is_menu here) node)
    ∙ ap (λ (n : Node). Child root n ∷ made_within (at root (node.depth + 1)) (here ∷ outer) None (parts_of rest))
    (folder_back here node good.own kept refl is (none_of node.url good.url) (nil_of node.tags good.bare))
    ∙ ap (λ (l : List Place). Child root node ∷ made_within (at root (node.depth + 1)) l None (parts_of rest))
    (stack_more root node.depth base)

node_made : (root : Root) (base : List Place) (level : ℕ) (node : Node) (next : ℕ) (rest : List ℕ)
    → is_formed node ≡ true → IsKept node → next ≤ lists_open node
    → made_within (at root node.depth) (stack root node.depth base) None (parts_of (node_text level node next ++ rest))
    ≡ Child root node ∷ made_within (at root next) (stack root next base) None (parts_of rest)
node_made root base level node next rest good kept few =
    let ends : List ℕ = list_ends (level + next) (lists_open node - next) in
    ap (λ (l : List ℕ). made_within (at root node.depth) (stack root node.depth base) None (parts_of l))
    (append_assoc (lines_of node.kind (level + node.depth) node) ends rest)
    ∙ lines_made root base (level + node.depth) node (ends ++ rest) node.kind refl kept
    (formed_as node node.kind refl good kept)
    ∙ ap (λ (more : List Made). Child root node ∷ more)
    (ends_made root base (level + next) next (lists_open node - next) (lists_open node) rest (omega arith))

-- ---- nodes

-- the next node stands in a list that is open
follows : (a b : Node) → may_follow a b ≡ true → b.depth ≤ lists_open a
follows a b may = choose (is_folder a.kind) refl
  where
    choose : (v : Bool) → is_folder a.kind ≡ v → b.depth ≤ lists_open a
    choose true is =
        subst (λ (v : Bool). b.depth ≤ (if v then a.depth + 1 else a.depth)) (sym is)
        (⊎_elim
        (λ low. let less : b.depth ≤ a.depth = leb-true b.depth a.depth low in omega arith)
        (λ child. let same : b.depth ≡ a.depth + 1 = eqb-true _ _ (and_parts (is_folder a.kind) _ child).1 in omega arith)
        (or_cases _ _ may))
    choose false is =
        subst (λ (v : Bool). b.depth ≤ (if v then a.depth + 1 else a.depth)) (sym is)
        (⊎_elim (λ low. leb-true b.depth a.depth low)
        (λ child. absurd (true≢false (sym (and_parts (is_folder a.kind) _ child).0 ∙ is)))
        (or_cases _ _ may))

next_fits : (node : Node) (nodes : List Node) → goes_on (node ∷ nodes) ≡ true → next_depth nodes ≤ lists_open node
next_fits node [] on = omega arith
next_fits node (next ∷ nodes) on = follows node next (and_parts (may_follow node next) (goes_on (next ∷ nodes)) on).0

nodes_made : (root : Root) (base : List Place) (level : ℕ) (nodes : List Node) (rest : List ℕ) → goes_on nodes ≡ true
    → list_all is_formed nodes ≡ true → AllByRecursion IsKept nodes
    → made_within (at root (next_depth nodes)) (stack root (next_depth nodes) base) None
    (parts_of (nodes_text level nodes ++ rest))
    ≡ map (Child root) nodes ++ made_within (at root 0) base None (parts_of rest)
nodes_made root base level [] rest on good kept = refl
nodes_made root base level (node ∷ nodes) rest on good kept =
    let all = and_parts (is_formed node) (list_all is_formed nodes) good in
    let more : List ℕ = nodes_text level nodes ++ rest in
    ap (λ (l : List ℕ). made_within (at root node.depth) (stack root node.depth base) None (parts_of (l ++ rest)))
    (nodes-step level node nodes)
    ∙ ap (λ (l : List ℕ). made_within (at root node.depth) (stack root node.depth base) None (parts_of l))
    (append_assoc (node_text level node (next_depth nodes)) (nodes_text level nodes) rest)
    ∙ node_made root base level node (next_depth nodes) more all.0 kept.0 (next_fits node nodes on)
    ∙ ap (λ (l : List Made). Child root node ∷ l)
    (nodes_made root base level nodes rest (goes_later node nodes on) all.1 kept.1)

first_depth : (nodes : List Node) → begins nodes ≡ true → next_depth nodes ≡ 0
first_depth [] own = refl
first_depth (node ∷ nodes) own = eqb-true node.depth 0 own

-- the nodes of a root's list make those nodes
pub list_made : (root : Root) (base : List Place) (level : ℕ) (nodes : List Node) (rest : List ℕ) → IsListed nodes
    → All IsKept nodes
    → made_within (at root 0) base None (parts_of (nodes_text level nodes ++ rest))
    ≡ map (Child root) nodes ++ made_within (at root 0) base None (parts_of rest)
list_made root base level nodes rest listed kept =
    ap (λ (d : ℕ). made_within (at root d) (stack root d base) None (parts_of (nodes_text level nodes ++ rest)))
    (sym (first_depth nodes listed.begins))
    ∙ nodes_made root base level nodes rest listed.goes_on listed.formed (recursion_from_All IsKept nodes kept)
