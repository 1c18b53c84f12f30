-- What the writer's steps append.
use Rattle.std.specs.Prelude.{ℕ, List, [], ◌∷◌, ◌++◌, codes}
use Rattle.pl_nbread.specs.declared.tree.Node.{Node}
use Rattle.pl_nbwrite.specs.BookmarkText.{heading, line, list_end, list_start, nodes_text}

-- the depth of the next node, if there is one
abbrev pub next_depth : List Node → ℕ
next_depth [] = 0
next_depth (node ∷ nodes) = node.depth

-- a comma before tags, if there are any
abbrev pub comma_before : List (List ℕ) → List ℕ
comma_before [] = []
comma_before (tag ∷ tags) = codes ","

-- another root than the menu, where it has a node, with what its heading says beside its dates
abbrev pub root_list : List ℕ → List ℕ → List Node → List ℕ
root_list more title [] = []
root_list more title (node ∷ nodes) =
    line 1 (heading (record { 0 = 0 }) (record { 0 = 0 }) more title)
    ++ list_start 1 ++ nodes_text 2 (node ∷ nodes) ++ list_end 1
