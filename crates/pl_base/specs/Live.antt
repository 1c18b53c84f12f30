-- How much of a store's file is in use, in slots of 128 bytes.
use Rattle.std.specs.Prelude.{ℕ, ◌+◌, ◌/◌, List, [], ◌∷◌, ◌++◌, length, map, if◌then◌else◌}
use Rattle.std.specs.List.{list_any, sum_by}
use Rattle.pl_base.specs.Address.{same_origin}
use Rattle.pl_base.specs.Store.{Store, Page, Item}

-- the bytes of a slot
abbrev pub slot_size : ℕ
slot_size = 128

-- no store takes more slots than this
abbrev pub slot_limit : ℕ
slot_limit = 4_194_304

-- a text takes a slot for each 120 bytes
abbrev pub chunks : List ℕ → ℕ
chunks text = (length text + 119) / 120

-- how many origins these URLs have that the seen ones have not
abbrev pub new_origins : List (List ℕ) → List (List ℕ) → ℕ
new_origins seen [] = 0
new_origins seen (url ∷ urls) =
    (if list_any (same_origin url) seen then 0 else 1) + new_origins (seen ++ url ∷ []) urls

-- how many origins the URLs have
abbrev pub origin_count : List (List ℕ) → ℕ
origin_count urls = new_origins [] urls

-- a slot for each origin, page, visit and item, and those of the URLs and titles
abbrev pub live_slots : Store → ℕ
live_slots store =
    origin_count (map (λ (p : Page). p.url) store.pages)
    + length store.pages + length store.visits + length store.items
    + sum_by (λ (p : Page). chunks p.url + chunks p.title) store.pages
    + sum_by (λ (i : Item). chunks i.title) store.items
