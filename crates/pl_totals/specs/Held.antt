-- What is kept of each origin: its total and its pages, and how a page changes them.
use Rattle.std.specs.Prelude.{ℕ, ◌+◌, ◌-◌, List, [], ◌∷◌, unwrap_or}
use Rattle.std.specs.declared.cmp.Ordering.{Ordering}
use Rattle.std.specs.BTreeMap.{get_by_text, is_at}
use Rattle.std.specs.BTreeSet.{insert_key}
use Rattle.std.specs.Option.{option_map}
use Rattle.std.specs.Ordering.{nat_cmp}
use Rattle.std.specs.Set.{remove_key}
use Rattle.pl_base.specs.declared.id.PageId.{PageId}
use Rattle.pl_base.specs.Totals.{Origin}
use Rattle.pl_totals.specs.declared.kept.Kept.{Kept}
use Rattle.pl_totals.specs.declared.kept.Pages.{Pages}
use Rattle.pl_totals.specs.declared.kept.Pages.TheVariants.{Comes, Goes, Stay}
use Rattle.pl_totals.specs.declared.kept.Step.{Step}
use Rattle.pl_totals.specs.declared.origins.Origins.{Origins}
use Rattle.pl_totals.specs.declared.origins.Hosts.{Hosts}

-- a total, and the ids of pages, which ascend
abbrev pub Held : Type 0
Held = ℕ × List PageId

-- what is held of an origin that has no page
abbrev pub nothing : Held
nothing = (0, [])

-- what is kept of an origin
abbrev pub held_of : Kept → Held
held_of kept = (kept.total, kept.pages.keys)

-- what is held of a prefix's origin with this host
abbrev pub held_in : Hosts → List ℕ → Held
held_in hosts host = unwrap_or (option_map held_of (get_by_text hosts.map host)) nothing

-- what is held of an origin
abbrev pub held_at : Origins → Origin → Held
held_at origins origin =
    unwrap_or
    (option_map (λ (h : Hosts). held_in h origin.1) (get_by_text origins.prefixes origin.0))
    nothing

-- the order of ids
abbrev pub by_id : PageId → PageId → Ordering
by_id a b = nat_cmp a.0 b.0

-- the pages after a step
abbrev pub pages_after : Pages → List PageId → List PageId
pages_after (Comes page) pages = insert_key by_id pages page
pages_after (Goes page) pages = remove_key (is_at (by_id page)) pages
pages_after Stay pages = pages

-- what was held of an origin, after a step
abbrev pub after : Step → Held → Held
after step held = (held.0 - step.from + step.to, pages_after step.pages held.1)

-- an origin that has no page any more is not kept
abbrev pub settled : Held → Held
settled (total, []) = nothing
settled (total, page ∷ pages) = (total, page ∷ pages)
