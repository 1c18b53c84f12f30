-- What stands in a file of a node, and of the end of a list.
use Rattle.std.proofs.Common.{◌≡◌, ◌<◌, ◌+◌, ◌-◌, ◌==◌, ℕ, zero, suc, false, List, [], ◌∷◌, ◌++◌}
use Rattle.std.proofs.Common.{ap, append-nil, append_assoc, arith, length, refl, sym}
use Rattle.std.specs.Prelude.{codes}
use Rattle.pl_base.proofs.ListLaws.{append_twice}
use Rattle.pl_nbread.specs.declared.tree.Node.{Node}
use Rattle.pl_nbwrite.specs.BookmarkText.{attribute, heading, line, list_end, list_ends, list_start}
use Rattle.pl_nbwrite.specs.BookmarkText.{node_text, nodes_text, root_text}
use Rattle.pl_nbwrite.specs.Written.{next_depth, root_list}

pub nodes-step : (level : ℕ) (node : Node) (nodes : List Node)
    → nodes_text level (node ∷ nodes) ≡ node_text level node (next_depth nodes) ++ nodes_text level nodes
nodes-step level node [] = sym (append-nil (node_text level node 0))
nodes-step level node (next ∷ nodes) = refl

pub ends-step : (level left : ℕ) → 0 < left
    → list_ends level left ≡ list_end (level + (left - 1)) ++ list_ends level (left - 1)
ends-step level zero some = absurd (omega arith)
ends-step level (suc n) some =
    let less : suc n - 1 ≡ n = omega arith in
    ap (λ (k : ℕ). list_end (level + k) ++ list_ends level k) (sym less)

pub root-list : (name title : List ℕ) (nodes : List Node)
    → root_text name title nodes ≡ root_list (attribute name (codes "true")) title nodes
root-list name title [] = refl
root-list name title (node ∷ nodes) = refl

pub dates-written : (added modified : List ℕ)
    → codes " ADD_DATE=\"" ++ (added ++ (codes "\" LAST_MODIFIED=\"" ++ (modified ++ codes "\"")))
    ≡ attribute (codes "ADD_DATE") added ++ attribute (codes "LAST_MODIFIED") modified
dates-written added modified =
    ap (λ (x : List ℕ). codes " ADD_DATE=\"" ++ x)
    (sym (append_assoc added (codes "\"") (attribute (codes "LAST_MODIFIED") modified)))

-- a root with nodes: its heading and the start of its list, the nodes, and the end
pub root-pushed : (more title : List ℕ) (nodes : List Node) (s0 s1 s2 s3 : List ℕ) → false ≡ (length nodes == 0)
    → s1 ≡ s0 ++ (line 1 (heading (record { 0 = 0 }) (record { 0 = 0 }) more title) ++ list_start 1)
    → s2 ≡ s1 ++ nodes_text 2 nodes → s3 ≡ s2 ++ list_end 1 → s3 ≡ s0 ++ root_list more title nodes
root-pushed more title [] s0 s1 s2 s3 some head inner last = cc
root-pushed more title (node ∷ nodes) s0 s1 s2 s3 some head inner last =
    append_twice s0 s2 s3 _ (list_end 1) (append_twice s0 s1 s2 _ (nodes_text 2 (node ∷ nodes)) head inner) last
