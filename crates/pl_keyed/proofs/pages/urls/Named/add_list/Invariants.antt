use Rattle.std.proofs.Common.{◌≡◌, ◌||◌, ℕ, List, take}
use Rattle.pl_keyed.specs.KnownPages.{names}
use Rattle.pl_keyed.specs.NamedUrls.{has_url}
use Rattle.pl_keyed.proofs.pages.urls.Named.add_list.Given as goal

abbrev pub invariant-loop-node : goal.invariant-loop-node
invariant-loop-node l =
    (url : List ℕ)
    → names l.self url ≡ (names l.initial.self url || has_url (take l.node-index l.nodes) url)
