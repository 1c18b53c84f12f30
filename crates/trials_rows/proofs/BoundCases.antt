-- How much the commits of scripts write at most, on the store before its first command.
use Rattle.std.proofs.Common.{◌≡◌, ◌++◌, ℕ, List, None, Option, Some, refl}
use Rattle.std.specs.Prelude.{codes}
use Rattle.url.proofs.OnLiterals.{url_on_literals}
use Rattle.pl_base.specs.Live.{slot_limit}
use Rattle.pl_base.specs.Store.{opening}
use Rattle.pl_script.specs.Script.{script}
use Rattle.places.specs.Bounded.{entries_bytes}

abbrev most : List ℕ → Option ℕ
most bytes = entries_bytes slot_limit opening (script bytes)

-- refusals, and what changes nothing
nothing : most (codes "frob\nvisit\tdata:,\t1\t0\ntitle\thttps://a.example/\tA\nstats\n") ≡ Some 0
unfolding url_on_literals
nothing = refl

-- two visits of new pages whose URLs take a slot each, 133,658 each, and one more of the first
-- page, 131,602
visits : most (codes "visit\thttps://a.example/\t2\t0\nvisit\thttps://b.example/\t5\t1\t1\n"
    ++ codes "page\thttps://a.example/\nvisit\thttps://a.example/\t1\t2\n")
    ≡ Some 398_918
unfolding url_on_literals
visits = refl

-- a title of a page that is there: no bound is told
title : most (codes "visit\thttps://a.example/\t2\t0\ntitle\thttps://a.example/\tA\n") ≡ None
unfolding url_on_literals
title = refl
