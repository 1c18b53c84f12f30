-- The items that have a page, by ascending id.
use Rattle.std.proofs.Common.{◌≡◌, ◌<◌, ◌≤◌, ◌==◌, ◌&&◌, ◌∙◌, ℕ, Bool, true, false, cond, List, [], ◌∷◌, Option, Some}
use Rattle.std.proofs.Common.{None, ap, arith, filter, find, if◌then◌else◌, map, min, nat_lt, refl, subst, sym}
use Rattle.std.specs.List.{AllByRecursion, fold, reduce}
use Rattle.std.specs.Option.{option_map}
use Rattle.std.proofs.lemmas.Bool.{lt-ltb, ltb-false, ltb-true}
use Rattle.std.proofs.lemmas.Bool.Decides.{nat_tests}
use Rattle.pl_base.specs.declared.id.ItemId.{ItemId}
use Rattle.pl_base.specs.declared.id.PageId.{PageId}
use Rattle.pl_base.specs.Store.{Item}
use Rattle.pl_base.specs.Tree.{first_item, is_page, item_behind, reference_behind, references}
use Rattle.pl_base.proofs.LookUps.{found_holds, found_passes}
use Rattle.pl_items.specs.declared.node.Node.{Node}
use Rattle.pl_items.specs.Nodes.{AreNodes, by_id, in_id_order, item_of, items_of}
use Rattle.pl_items.proofs.IdOrder.{Ascends, Distinct, by_id-ascends, find-by_id}
use Rattle.pl_items.proofs.IdOrder.{has_id}
use Rattle.pl_items.proofs.Children.{distinct_nodes, item_at_is}
use Rattle.pl_items.proofs.Lookups.{first_filtered}

-- the node has the page
abbrev pub has_page : PageId → Node → Bool
has_page page n = is_page page n.page

-- and its id is above this one
abbrev pub is_behind : PageId → ItemId → Node → Bool
is_behind page id n = is_page page n.page && nat_lt id.0 n.id.0

abbrev id_number : Node → ℕ
id_number n = n.id.0

-- ---- the least number

abbrev least_with : ℕ → Option ℕ → ℕ
least_with x None = x
least_with x (Some y) = min x y

fold-min : (x y : ℕ) (ys : List ℕ) → fold min (min x y) ys ≡ min x (fold min y ys)
fold-min x y [] = refl
fold-min x y (z ∷ zs) =
    let assoc : min (min x y) z ≡ min x (min y z) = omega arith in
    ap (λ w. fold min w zs) assoc ∙ fold-min x (min y z) zs

reduce-min : (x : ℕ) (xs : List ℕ) → reduce min (x ∷ xs) ≡ Some (least_with x (reduce min xs))
reduce-min x [] = refl
reduce-min x (y ∷ ys) = ap (λ (n : ℕ). Some n) (fold-min x y ys)

-- no number is below this one
none_below : (p : Node → Bool) (n : Node) (ms : List Node) → AllByRecursion (λ (m : Node). n.id.0 ≤ m.id.0) ms
    → least_with n.id.0 (option_map id_number (find p ms)) ≡ n.id.0
none_below p n ms above = choose (find p ms) refl
  where
    choose : (found : Option Node) → find p ms ≡ found → least_with n.id.0 (option_map id_number found) ≡ n.id.0
    choose None is = refl
    choose (Some m) is =
        let le : n.id.0 ≤ m.id.0 = found_holds (λ (x : Node). n.id.0 ≤ x.id.0) p ms m above is in
        omega arith

above_all : (n m : Node) (ms : List Node) → n.id.0 < m.id.0 → Ascends (m ∷ ms)
    → AllByRecursion (λ (x : Node). n.id.0 ≤ x.id.0) (m ∷ ms)
above_all n m ms below ascends = (omega arith, later ms ascends.0)
  where
    later : (xs : List Node) → AllByRecursion (λ (x : Node). m.id.0 < x.id.0) xs
        → AllByRecursion (λ (x : Node). n.id.0 ≤ x.id.0) xs
    later [] above = tt
    later (x ∷ xs) above = (omega (arith, above.0), later xs above.1)

least-in_id_order : (p : Node → Bool) (n : Node) (ms : List Node) → Ascends ms
    → option_map id_number (find p (in_id_order n ms))
    ≡ (if p n then Some (least_with n.id.0 (option_map id_number (find p ms))) else option_map id_number (find p ms))
least-in_id_order p n [] ascends =
    elim (p n) as (λ b. option_map id_number (cond b (Some n) None) ≡ (if b then Some n.id.0 else None))
    [ true ↦ refl | false ↦ refl ]
least-in_id_order p n (m ∷ ms) ascends =
    choose (nat_lt n.id.0 m.id.0) (p n) (p m) refl refl refl (least-in_id_order p n ms ascends.1)
  where
    choose : (b q r : Bool) → nat_lt n.id.0 m.id.0 ≡ b → p n ≡ q → p m ≡ r
        → option_map id_number (find p (in_id_order n ms))
        ≡ (if p n then Some (least_with n.id.0 (option_map id_number (find p ms)))
        else option_map id_number (find p ms))
        → option_map id_number (find p (cond b (n ∷ m ∷ ms) (m ∷ in_id_order n ms)))
        ≡ (if q then Some (least_with n.id.0 (option_map id_number (cond r (Some m) (find p ms))))
        else option_map id_number (cond r (Some m) (find p ms)))
    choose true true r before here there rest =
        let below : n.id.0 < m.id.0 = ltb-true n.id.0 m.id.0 before in
        rw here (ap (λ (k : ℕ). Some k)
        (sym (ap (λ t. least_with n.id.0 (option_map id_number (cond t (Some m) (find p ms))))
        (sym there) ∙ none_below p n (m ∷ ms) (above_all n m ms below ascends))))
    choose true false r before here there rest = rw (here, there) refl
    choose false true true before here there rest =
        let behind : m.id.0 ≤ n.id.0 = ltb-false n.id.0 m.id.0 before in
        let least : m.id.0 ≡ min n.id.0 m.id.0 = omega arith in
        rw there (ap (λ (k : ℕ). Some k) least)
    choose false true false before here there rest = rw there (rest ∙ rw here refl)
    choose false false true before here there rest = rw there refl
    choose false false false before here there rest = rw there (rest ∙ rw here refl)

-- the first by id that passes has the least id of those that pass
pub least_is : (p : Node → Bool) (ns : List Node) → Distinct ns
    → reduce min (map id_number (filter p ns)) ≡ option_map id_number (find p (by_id ns))
least_is p [] distinct = refl
least_is p (n ∷ ns) distinct =
    choose (p n) (least_is p ns distinct.1)
    ∙ sym (least-in_id_order p n (by_id ns) (by_id-ascends ns distinct.1))
  where
    choose : (b : Bool) → reduce min (map id_number (filter p ns)) ≡ option_map id_number (find p (by_id ns))
        → reduce min (map id_number (cond b (n ∷ filter p ns) (filter p ns)))
        ≡ (if b then Some (least_with n.id.0 (option_map id_number (find p (by_id ns))))
        else option_map id_number (find p (by_id ns)))
    choose true rest = reduce-min n.id.0 (map id_number (filter p ns))
        ∙ ap (λ least. Some (least_with n.id.0 least)) rest
    choose false rest = rest

-- an id is known by its number
id_of_number : (found : Option ItemId) (is : Option Node) → option_map (λ (i : ItemId). i.0) found
    ≡ option_map id_number is → found ≡ option_map (λ (n : Node). n.id) is
id_of_number None None same = refl
id_of_number None (Some n) same = absurd (cc)
id_of_number (Some i) None same = absurd (cc)
id_of_number (Some i) (Some n) same =
    let number : i.0 ≡ n.id.0 = cc in
    ap (λ (k : ℕ). Some (record { 0 = k })) number

-- ---- references

pub references_are : (page : PageId) (all ms : List Node)
    → map (λ (i : Item). i.id) (filter (λ (i : Item). is_page page i.page) (map (item_of all) ms))
    ≡ map (λ (n : Node). n.id) (filter (has_page page) ms)
references_are page all [] = refl
references_are page all (m ∷ ms) = choose (has_page page m) (references_are page all ms)
  where
    choose : (b : Bool)
        → map (λ (i : Item). i.id) (filter (λ (i : Item). is_page page i.page) (map (item_of all) ms))
        ≡ map (λ (n : Node). n.id) (filter (has_page page) ms)
        → map (λ (i : Item). i.id) (cond b (item_of all m ∷ filter (λ (i : Item). is_page page i.page)
        (map (item_of all) ms)) (filter (λ (i : Item). is_page page i.page) (map (item_of all) ms)))
        ≡ map (λ (n : Node). n.id) (cond b (m ∷ filter (has_page page) ms) (filter (has_page page) ms))
    choose true rest = ap (λ ids. m.id ∷ ids) rest
    choose false rest = rest

pub first_reference_is : (page : PageId) (ns : List Node) (least : Option ItemId) → AreNodes ns
    → option_map (λ (i : ItemId). i.0) least ≡ reduce min (map id_number (filter (has_page page) ns))
    → least ≡ first_item (references (items_of ns) page)
first_reference_is page ns least are is =
    id_of_number least (find (has_page page) (by_id ns)) (is ∙ least_is (has_page page) ns (distinct_nodes ns are))
    ∙ sym (first_filtered (has_page page) (by_id ns))
    ∙ ap first_item (sym (references_are page ns (by_id ns)))

-- those that pass and have a greater id, behind one that passes
all_behind : (page : PageId) (id : ItemId) (ms : List Node) → AllByRecursion (λ (m : Node). id.0 < m.id.0) ms
    → find (is_behind page id) ms ≡ find (has_page page) ms
all_behind page id [] above = refl
all_behind page id (m ∷ ms) above =
    rw (lt-ltb id.0 m.id.0 above.0) (choose (has_page page m) (all_behind page id ms above.1))
  where
    choose : (b : Bool) → find (is_behind page id) ms ≡ find (has_page page) ms
        → cond (b && true) (Some m) (find (is_behind page id) ms) ≡ cond b (Some m) (find (has_page page) ms)
    choose true rest = refl
    choose false rest = rest

behind_in : (page : PageId) (id : ItemId) (n : Node) (ms : List Node) → Ascends ms → find (has_id id) ms ≡ Some n
    → has_page page n ≡ true
    → item_behind id (map (λ (m : Node). m.id) (filter (has_page page) ms))
    ≡ option_map (λ (m : Node). m.id) (find (is_behind page id) ms)
behind_in page id n [] ascends found passes = absurd (cc)
behind_in page id n (m ∷ ms) ascends found passes =
    choose (has_id id m) (has_page page m) (nat_lt id.0 m.id.0) refl refl refl found
    (λ rest. behind_in page id n ms ascends.1 rest passes)
  where
    choose : (b q r : Bool) → has_id id m ≡ b → has_page page m ≡ q → nat_lt id.0 m.id.0 ≡ r
        → cond b (Some m) (find (has_id id) ms) ≡ Some n
        → (find (has_id id) ms ≡ Some n → item_behind id (map (λ (x : Node). x.id) (filter (has_page page) ms))
        ≡ option_map (λ (x : Node). x.id) (find (is_behind page id) ms))
        → item_behind id (map (λ (x : Node). x.id) (cond q (m ∷ filter (has_page page) ms) (filter (has_page page) ms)))
        ≡ option_map (λ (x : Node). x.id) (cond (q && r) (Some m) (find (is_behind page id) ms))
    choose true q true here there above is rest = absurd (grind (arith, nat_tests, here, above))
    choose true true false here there above is rest =
        let same : m.id.0 ≡ id.0 = grind (arith, nat_tests, here) in
        let behind : AllByRecursion (λ (x : Node). id.0 < x.id.0) ms =
        subst (λ k. AllByRecursion (λ (x : Node). k < x.id.0) ms) same ascends.0 in
        rw (here, all_behind page id ms behind) (first_filtered (has_page page) ms)
    choose true false false here there above is rest =
        let at : m ≡ n = cc in
        let has : has_page page m ≡ true = ap (has_page page) at ∙ passes in
        absurd (cc)
    choose false q true here there above is rest =
        let before : m.id.0 < n.id.0 = found_holds (λ (x : Node). m.id.0 < x.id.0) (has_id id) ms n ascends.0 is in
        let same : has_id id n ≡ true = found_passes (has_id id) ms n is in
        absurd (grind (arith, nat_tests, above, same, before))
    choose false true false here there above is rest = rw here (rest is)
    choose false false false here there above is rest = rest is

-- there is no such item
pub no_reference : (id : ItemId) (ns : List Node) → AreNodes ns → find (has_id id) ns ≡ None
    → None ≡ reference_behind (items_of ns) id
no_reference id ns are none = rw (item_at_is ns id are, none) refl

-- it has no page
pub no_page : (id : ItemId) (n : Node) (ns : List Node) → AreNodes ns → find (has_id id) ns ≡ Some n → n.page ≡ None
    → None ≡ reference_behind (items_of ns) id
no_page id n ns are found none = rw (item_at_is ns id are, found, none) refl

pub next_reference_is : (id : ItemId) (page : PageId) (n : Node) (ns : List Node) (least : Option ItemId) → AreNodes ns
    → find (has_id id) ns ≡ Some n → n.page ≡ Some page
    → option_map (λ (i : ItemId). i.0) least ≡ reduce min (map id_number (filter (is_behind page id) ns))
    → least ≡ reference_behind (items_of ns) id
next_reference_is id page n ns least are found at is =
    let distinct : Distinct ns = distinct_nodes ns are in
    rw (item_at_is ns id are, found, at)
    (id_of_number least (find (is_behind page id) (by_id ns)) (is ∙ least_is (is_behind page id) ns distinct)
    ∙ sym (behind_in page id n (by_id ns) (by_id-ascends ns distinct) (find-by_id id ns distinct ∙ found)
    (ap (is_page page) at ∙ same_number page.0))
    ∙ ap (item_behind id) (sym (references_are page ns (by_id ns))))
  where
    same_number : (j : ℕ) → (j == j) ≡ true
    same_number j = grind (arith, nat_tests)
