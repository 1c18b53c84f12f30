-- Worked rows of origins, their totals and groups of hosts: the definitions compute to values that were worked out by hand.
use Rattle.std.proofs.Common.{◌≡◌, ℕ, List, [], ◌∷◌, map, true, false, refl}
use Rattle.std.specs.Prelude.{ℤ, pos, negsuc, codes}
use Rattle.pl_base.specs.Totals.{Origin, Scored, group_passes, group_total, origins_of, origins_with_total, share}
use Rattle.pl_base.specs.Totals.{sum_of_totals, total_of, without_www}

abbrev secure : List ℕ → Origin
secure host = (codes "https://", host)

abbrev plain : List ℕ → Origin
plain host = (codes "http://", host)

abbrev scored : Origin → ℤ → Scored
scored origin frecency = (origin, frecency)

-- -1 never counts
shares : map share (pos 0 ∷ pos 175 ∷ negsuc 0 ∷ []) ≡ 0 ∷ 175 ∷ 0 ∷ []
shares = refl

-- three pages of one host under two prefixes, one of its `www.`, one of a port, and one without a host
abbrev pages : List Scored
pages =
    scored (secure (codes "a.example")) (pos 100) ∷ scored (plain (codes "a.example")) (pos 40)
    ∷ scored (secure (codes "a.example")) (negsuc 0) ∷ scored (secure (codes "www.a.example")) (pos 60)
    ∷ scored (secure (codes "a.example:8080")) (pos 30) ∷ scored (codes "mailto:", []) (pos 170) ∷ []

totals : map (total_of pages) (origins_of pages) ≡ 100 ∷ 40 ∷ 60 ∷ 30 ∷ 170 ∷ []
totals = refl

no_such_origin : total_of pages (secure (codes "b.example")) ≡ 0
no_such_origin = refl

origins : origins_with_total pages ≡ 5
origins = refl

sum : sum_of_totals pages ≡ 400
sum = refl

-- over both prefixes and `www.`; a port is part of the host, and no group has the origin without one
groups : map (group_total pages) (codes "a.example" ∷ codes "a.example:8080" ∷ [] ∷ []) ≡ 200 ∷ 30 ∷ 0 ∷ []
groups = refl

-- the mean is 80
passing : map (group_passes pages) (codes "a.example" ∷ codes "a.example:8080" ∷ codes "b.example" ∷ [])
    ≡ true ∷ false ∷ false ∷ []
passing = refl

-- two origins at their mean of 75, and a third without a total; then 76 and 75, whose mean is 75.5
abbrev even : List Scored
even =
    scored (secure (codes "a.example")) (pos 75) ∷ scored (secure (codes "b.example")) (pos 75)
    ∷ scored (secure (codes "c.example")) (negsuc 0) ∷ []

abbrev uneven : List Scored
uneven = scored (secure (codes "a.example")) (pos 76) ∷ scored (secure (codes "b.example")) (pos 75) ∷ []

just_at_the_mean : map (group_passes even) (codes "a.example" ∷ codes "b.example" ∷ codes "c.example" ∷ [])
    ≡ true ∷ true ∷ false ∷ []
just_at_the_mean = refl

-- the mean of 76 and 75 is 75.5
just_below_it : map (group_passes uneven) (codes "a.example" ∷ codes "b.example" ∷ []) ≡ true ∷ false ∷ []
just_below_it = refl

-- one `www.` goes, and no more
names : map without_www (codes "www.a.example" ∷ codes "www.www.a.example" ∷ codes "www.." ∷ codes "www." ∷ codes "www" ∷ [])
    ≡ codes "a.example" ∷ codes "www.a.example" ∷ codes "." ∷ [] ∷ codes "www" ∷ []
names = refl
