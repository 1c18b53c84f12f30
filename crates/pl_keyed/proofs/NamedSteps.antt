-- The URLs that a tree names, one node after another.
use Rattle.std.proofs.Common.{◌≡◌, ◌<◌, ◌∙◌, ◌+◌, ◌||◌, ◌++◌, ℕ, Bool, List, [], ◌∷◌, ap, get_or, length, sym, take}
use Rattle.std.proofs.Math.Bool.{or-false, or_assoc}
use Rattle.std.proofs.lemmas.List.{take_more}
use Rattle.std.proofs.lemmas.List.Folds.{list_any-append}
use Rattle.pl_nbread.specs.declared.tree.Node.{Node}
use Rattle.pl_keyed.specs.NamedUrls.{has_url, is_url}

-- a node more
pub named_more : (nodes : List Node) (i : ℕ) (node : Node) (url : List ℕ) (a : Bool) → i < length nodes
    → node ≡ get_or nodes i node
    → (a || has_url (take i nodes) url || is_url url node.url) ≡ (a || has_url (take (i + 1) nodes) url)
named_more nodes i node url a within is =
    or_assoc a (has_url (take i nodes) url) (is_url url node.url)
    ∙ ap (λ (b : Bool). a || (has_url (take i nodes) url || b)) (sym (or-false (is_url url node.url)))
    ∙ ap (λ (b : Bool). a || b)
    (sym (list_any-append (λ (n : Node). is_url url n.url) (take i nodes) (node ∷ [])))
    ∙ ap (λ (n : Node). a || has_url (take i nodes ++ n ∷ []) url) is
    ∙ ap (λ (ns : List Node). a || has_url ns url) (sym (take_more nodes i node within))

-- no node yet
pub named_none : (nodes : List Node) (url : List ℕ) (a : Bool) → a ≡ (a || has_url (take 0 nodes) url)
named_none nodes url a = sym (or-false a)
