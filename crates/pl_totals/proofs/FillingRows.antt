-- Worked rows of the best group: the definitions compute to values that were worked out by hand.
use Rattle.std.proofs.Common.{◌≡◌, ℕ, true, false, List, [], ◌∷◌, Some, None, map, refl}
use Rattle.std.specs.Prelude.{ℤ, pos, negsuc, codes}
use Rattle.pl_base.specs.Totals.{Scored}
use Rattle.pl_totals.specs.Filling.{best_group, group_names, is_better}

abbrev secure : List ℕ → ℤ → Scored
secure host frecency = ((codes "https://", host), frecency)

-- the groups have 100, 100, 160 and 40, and the mean of the five origins is 80; the mail address is
-- in none
abbrev pages : List Scored
pages =
    secure (codes "dog.example") (pos 100) ∷ secure (codes "cat.example") (pos 100)
    ∷ secure (codes "www.cow.example") (pos 60) ∷ secure (codes "cow.example") (pos 100)
    ∷ secure (codes "crow.example") (pos 40) ∷ secure (codes "dog.example") (negsuc 0)
    ∷ ((codes "mailto:", []), pos 0) ∷ []

-- a group for each page that has a host, however often
names : group_names pages
    ≡ codes "dog.example" ∷ codes "cat.example" ∷ codes "cow.example" ∷ codes "cow.example" ∷ codes "crow.example"
    ∷ codes "dog.example" ∷ []
names = refl

-- the greater total, then the name that is first; none is better than itself
better : is_better pages (codes "cow.example") (codes "cat.example") ≡ true
better = refl

worse : is_better pages (codes "cat.example") (codes "cow.example") ≡ false
worse = refl

first_name : is_better pages (codes "cat.example") (codes "dog.example") ≡ true
first_name = refl

last_name : is_better pages (codes "dog.example") (codes "cat.example") ≡ false
last_name = refl

itself : is_better pages (codes "cat.example") (codes "cat.example") ≡ false
itself = refl

-- of all, of those with this beginning, and of two with the same total
filled : map (best_group pages) ([] ∷ codes "c" ∷ codes "ca" ∷ codes "dog.example" ∷ [])
    ≡ Some (codes "cow.example", 160) ∷ Some (codes "cow.example", 160) ∷ Some (codes "cat.example", 100)
    ∷ Some (codes "dog.example", 100) ∷ []
filled = refl

-- a group that does not pass, a text within a name, one that is longer, and another letter case
none : map (best_group pages) (codes "cr" ∷ codes "example" ∷ codes "dog.example." ∷ codes "C" ∷ [])
    ≡ None ∷ None ∷ None ∷ None ∷ []
none = refl

-- of two with the same total the one whose name is first
abbrev even : List Scored
even = secure (codes "dog.example") (pos 100) ∷ secure (codes "dodo.example") (pos 100) ∷ []

of_two : best_group even (codes "do") ≡ Some (codes "dodo.example", 100)
of_two = refl
