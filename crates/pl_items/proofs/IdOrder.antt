-- Nodes by ascending id: what changes of the nodes do to `by_id`.
use Rattle.std.proofs.Common.{◌≡◌, ◌≢◌, ◌+◌, ◌<◌, ◌≤◌, ◌==◌, ◌∙◌, ◌++◌, Bool, true, false, cond, List, [], ◌∷◌}
use Rattle.std.proofs.Common.{not, Some, ap, arith, filter, find, length, map, nat_lt, refl, sym, subst}
use Rattle.std.specs.List.{AllByRecursion}
use Rattle.std.proofs.lemmas.Bool.{eqb-true, le-ltb, ltb-false, ltb-true, ne_eqb}
use Rattle.std.proofs.lemmas.Bool.Decides.{nat_tests}
use Rattle.pl_base.specs.declared.id.ItemId.{ItemId}
use Rattle.pl_base.proofs.ItemLookUps.{same_item}
use Rattle.pl_base.proofs.ListLaws.{weaker}
use Rattle.pl_base.proofs.LookUps.{found_passes}
use Rattle.pl_items.specs.declared.node.Node.{Node}
use Rattle.pl_items.specs.Nodes.{by_id, in_id_order}

-- the node has another id
abbrev pub Differs : ItemId → Node → Type 0
Differs id m = m.id.0 ≢ id.0

-- no node has this id
abbrev pub Lacks : ItemId → List Node → Type 0
Lacks id ns = AllByRecursion (Differs id) ns

-- no two nodes have the same id
abbrev pub Distinct : List Node → Type 0
Distinct [] = Unit {0}
Distinct (n ∷ ns) = Lacks n.id ns × Distinct ns

-- the node has this id
abbrev pub has_id : ItemId → Node → Bool
has_id id n = n.id.0 == id.0

abbrev pub has_other_id : ItemId → Node → Bool
has_other_id id n = not (n.id.0 == id.0)

pub has_other : (id : ItemId) (n : Node) → Differs id n → has_id id n ≡ false
has_other id n other = ne_eqb n.id.0 id.0 other

-- ---- one node in its place

pub all-in_id_order : (P : Node → Type 0) (n : Node) (ms : List Node) → P n → AllByRecursion P ms
    → AllByRecursion P (in_id_order n ms)
all-in_id_order P n [] here all = (here, tt)
all-in_id_order P n (m ∷ ms) here all = choose (nat_lt n.id.0 m.id.0) (all-in_id_order P n ms here all.1)
  where
    choose : (b : Bool) → AllByRecursion P (in_id_order n ms)
        → AllByRecursion P (cond b (n ∷ m ∷ ms) (m ∷ in_id_order n ms))
    choose true rest = (here, all)
    choose false rest = (all.0, rest)

pub all-by_id : (P : Node → Type 0) (ns : List Node) → AllByRecursion P ns → AllByRecursion P (by_id ns)
all-by_id P [] all = tt
all-by_id P (n ∷ ns) all = all-in_id_order P n (by_id ns) all.0 (all-by_id P ns all.1)

length-in_id_order : (n : Node) (ms : List Node) → length (in_id_order n ms) ≡ length ms + 1
length-in_id_order n [] = refl
length-in_id_order n (m ∷ ms) = choose (nat_lt n.id.0 m.id.0) (length-in_id_order n ms)
  where
    choose : (b : Bool) → length (in_id_order n ms) ≡ length ms + 1
        → length (cond b (n ∷ m ∷ ms) (m ∷ in_id_order n ms)) ≡ length (m ∷ ms) + 1
    choose true rest = omega arith
    choose false rest = omega (arith, rest)

pub length-by_id : (ns : List Node) → length (by_id ns) ≡ length ns
length-by_id [] = refl
length-by_id (n ∷ ns) = omega (arith, length-in_id_order n (by_id ns), length-by_id ns)

-- a node that stands behind all others
abbrev pub IsGreatest : ItemId → List Node → Type 0
IsGreatest id ns = AllByRecursion (λ (m : Node). m.id.0 < id.0) ns

pub greatest-last : (n : Node) (ms : List Node) → IsGreatest n.id ms → in_id_order n ms ≡ ms ++ n ∷ []
greatest-last n [] below = refl
greatest-last n (m ∷ ms) below =
    let behind : nat_lt n.id.0 m.id.0 ≡ false = le-ltb n.id.0 m.id.0 (omega (arith, below.0)) in
    rw behind (ap (λ xs. m ∷ xs) (greatest-last n ms below.1))

-- the order in which two nodes are put into their places does not matter
pub in_id_order-twice : (a b : Node) (ms : List Node) → Differs b.id a
    → in_id_order a (in_id_order b ms) ≡ in_id_order b (in_id_order a ms)
in_id_order-twice a b [] other = either (nat_lt a.id.0 b.id.0) (nat_lt b.id.0 a.id.0) refl refl
  where
    either : (p q : Bool) → nat_lt a.id.0 b.id.0 ≡ p → nat_lt b.id.0 a.id.0 ≡ q
        → cond p (a ∷ b ∷ []) (b ∷ a ∷ []) ≡ cond q (b ∷ a ∷ []) (a ∷ b ∷ [])
    either true true p q = absurd (grind (arith, nat_tests))
    either true false p q = refl
    either false true p q = refl
    either false false p q = absurd (grind (arith, nat_tests))
in_id_order-twice a b (m ∷ ms) other =
    choose (nat_lt a.id.0 m.id.0) (nat_lt b.id.0 m.id.0) (nat_lt a.id.0 b.id.0) (nat_lt b.id.0 a.id.0) refl refl refl
    refl (in_id_order-twice a b ms other)
  where
    choose : (p q r s : Bool) → nat_lt a.id.0 m.id.0 ≡ p → nat_lt b.id.0 m.id.0 ≡ q → nat_lt a.id.0 b.id.0 ≡ r
        → nat_lt b.id.0 a.id.0 ≡ s → in_id_order a (in_id_order b ms) ≡ in_id_order b (in_id_order a ms)
        → in_id_order a (cond q (b ∷ m ∷ ms) (m ∷ in_id_order b ms))
        ≡ in_id_order b (cond p (a ∷ m ∷ ms) (m ∷ in_id_order a ms))
    choose true true true true p q r s rest = absurd (grind (arith, nat_tests))
    choose true true true false p q r s rest = rw (r, s, q) refl
    choose true true false true p q r s rest = rw (r, s, p) refl
    choose true true false false p q r s rest = absurd (grind (arith, nat_tests))
    choose true false true true p q r s rest = absurd (grind (arith, nat_tests))
    choose true false true false p q r s rest = rw (p, s, q) refl
    choose true false false true p q r s rest = absurd (grind (arith, nat_tests))
    choose true false false false p q r s rest = absurd (grind (arith, nat_tests))
    choose false true true true p q r s rest = absurd (grind (arith, nat_tests))
    choose false true true false p q r s rest = absurd (grind (arith, nat_tests))
    choose false true false true p q r s rest = rw (r, p, q) refl
    choose false true false false p q r s rest = absurd (grind (arith, nat_tests))
    choose false false r s p q e f rest = rw (p, q) (ap (λ xs. m ∷ xs) rest)

-- ---- looking up

pub find-in_id_order : (id : ItemId) (n : Node) (ms : List Node) → Lacks n.id ms
    → find (has_id id) (in_id_order n ms) ≡ find (has_id id) (n ∷ ms)
find-in_id_order id n [] lacks = refl
find-in_id_order id n (m ∷ ms) lacks =
    choose (nat_lt n.id.0 m.id.0) (has_id id n) (has_id id m) refl refl (find-in_id_order id n ms lacks.1)
  where
    choose : (b p q : Bool) → has_id id n ≡ p → has_id id m ≡ q
        → find (has_id id) (in_id_order n ms) ≡ cond (has_id id n) (Some n) (find (has_id id) ms)
        → find (has_id id) (cond b (n ∷ m ∷ ms) (m ∷ in_id_order n ms))
        ≡ cond p (Some n) (cond q (Some m) (find (has_id id) ms))
    choose true p q first second rest = rw (first, second) refl
    choose false true true first second rest =
        absurd (lacks.0 (eqb-true m.id.0 id.0 second ∙ sym (eqb-true n.id.0 id.0 first)))
    choose false true false first second rest = rw (second, rest, first) refl
    choose false false true first second rest = rw second refl
    choose false false false first second rest = rw (second, rest, first) refl

pub find-by_id : (id : ItemId) (ns : List Node) → Distinct ns → find (has_id id) (by_id ns) ≡ find (has_id id) ns
find-by_id id [] distinct = refl
find-by_id id (n ∷ ns) distinct =
    find-in_id_order id n (by_id ns) (all-by_id (Differs n.id) ns distinct.0)
    ∙ ap (λ found. cond (has_id id n) (Some n) found) (find-by_id id ns distinct.1)

-- ---- changes that keep ids

pub in_id_order-map : (f : Node → Node) (n : Node) (ms : List Node) → ((m : Node) → (f m).id ≡ m.id)
    → in_id_order (f n) (map f ms) ≡ map f (in_id_order n ms)
in_id_order-map f n [] keeps = refl
in_id_order-map f n (m ∷ ms) keeps =
    let same : nat_lt (f n).id.0 (f m).id.0 ≡ nat_lt n.id.0 m.id.0 =
    ap (λ (id : ItemId). nat_lt id.0 (f m).id.0) (keeps n) ∙ ap (λ (id : ItemId). nat_lt n.id.0 id.0) (keeps m) in
    ap (λ b. cond b (f n ∷ f m ∷ map f ms) (f m ∷ in_id_order (f n) (map f ms))) same
    ∙ choose (nat_lt n.id.0 m.id.0) (in_id_order-map f n ms keeps)
  where
    choose : (b : Bool) → in_id_order (f n) (map f ms) ≡ map f (in_id_order n ms)
        → cond b (f n ∷ f m ∷ map f ms) (f m ∷ in_id_order (f n) (map f ms))
        ≡ map f (cond b (n ∷ m ∷ ms) (m ∷ in_id_order n ms))
    choose true rest = refl
    choose false rest = ap (λ xs. f m ∷ xs) rest

pub by_id-map : (f : Node → Node) (ns : List Node) → ((m : Node) → (f m).id ≡ m.id)
    → by_id (map f ns) ≡ map f (by_id ns)
by_id-map f [] keeps = refl
by_id-map f (n ∷ ns) keeps =
    ap (in_id_order (f n)) (by_id-map f ns keeps) ∙ in_id_order-map f n (by_id ns) keeps

-- ---- nodes that are left out

abbrev pub without : ItemId → List Node → List Node
without id ns = filter (has_other_id id) ns

pub without-none : (id : ItemId) (ns : List Node) → Lacks id ns → without id ns ≡ ns
without-none id [] lacks = refl
without-none id (n ∷ ns) lacks = rw (has_other id n lacks.0) (ap (λ xs. n ∷ xs) (without-none id ns lacks.1))

pub Lacks-without : (id : ItemId) (ns : List Node) → Lacks id (without id ns)
Lacks-without id [] = tt
Lacks-without id (n ∷ ns) = choose (has_id id n) refl (Lacks-without id ns)
  where
    choose : (b : Bool) → has_id id n ≡ b → Lacks id (without id ns)
        → Lacks id (cond (not b) (n ∷ without id ns) (without id ns))
    choose true same rest = rest
    choose false other rest = ((λ same. absurd (grind (arith, nat_tests, same, other))), rest)

without-in_id_order : (id : ItemId) (n : Node) (ms : List Node) → has_id id n ≡ true
    → without id (in_id_order n ms) ≡ without id ms
without-in_id_order id n [] same = rw same refl
without-in_id_order id n (m ∷ ms) same = choose (nat_lt n.id.0 m.id.0) (without-in_id_order id n ms same)
  where
    choose : (b : Bool) → without id (in_id_order n ms) ≡ without id ms
        → without id (cond b (n ∷ m ∷ ms) (m ∷ in_id_order n ms)) ≡ without id (m ∷ ms)
    choose true rest = rw same refl
    choose false rest = ap (λ xs. cond (has_other_id id m) (m ∷ xs) xs) rest

-- the node that is left out belongs back into its place
pub put_back : (id : ItemId) (n : Node) (ns : List Node) → Distinct ns → find (has_id id) ns ≡ Some n
    → by_id ns ≡ in_id_order n (by_id (without id ns))
put_back id n [] distinct found = absurd (cc)
put_back id n (m ∷ ms) distinct found =
    choose (has_id id m) refl found (put_back id n ms distinct.1)
  where
    choose : (b : Bool) → has_id id m ≡ b → cond b (Some m) (find (has_id id) ms) ≡ Some n
        → (find (has_id id) ms ≡ Some n → by_id ms ≡ in_id_order n (by_id (without id ms)))
        → in_id_order m (by_id ms) ≡ in_id_order n (by_id (cond (not b) (m ∷ without id ms) (without id ms)))
    choose true here is rest =
        let at : m ≡ n = cc in
        let none : Lacks id ms = subst (λ i. Lacks i ms) (same_item m.id id here) distinct.0 in
        rw (without-none id ms none) (ap (λ x. in_id_order x (by_id ms)) at)
    choose false other is rest =
        let same : has_id id n ≡ true = found_passes (has_id id) ms n is in
        ap (in_id_order m) (rest is)
        ∙ in_id_order-twice m n (by_id (without id ms))
        (λ alike. absurd (grind (arith, nat_tests, same, other, alike)))

pub by_id-without : (id : ItemId) (n : Node) (ns : List Node) → Distinct ns → find (has_id id) ns ≡ Some n
    → has_id id n ≡ true → by_id (without id ns) ≡ without id (by_id ns)
by_id-without id n ns distinct found same =
    sym (ap (without id) (put_back id n ns distinct found)
    ∙ without-in_id_order id n (by_id (without id ns)) same
    ∙ without-none id (by_id (without id ns)) (all-by_id (Differs id) (without id ns) (Lacks-without id ns)))

-- ---- in order

-- each id is below those behind it
abbrev pub Ascends : List Node → Type 0
Ascends [] = Unit {0}
Ascends (n ∷ ns) = AllByRecursion (λ (m : Node). n.id.0 < m.id.0) ns × Ascends ns

ascends-in_id_order : (n : Node) (ms : List Node) → Lacks n.id ms → Ascends ms → Ascends (in_id_order n ms)
ascends-in_id_order n [] lacks ascends = (tt, tt)
ascends-in_id_order n (m ∷ ms) lacks ascends =
    choose (nat_lt n.id.0 m.id.0) refl (ascends-in_id_order n ms lacks.1 ascends.1)
  where
    choose : (b : Bool) → nat_lt n.id.0 m.id.0 ≡ b → Ascends (in_id_order n ms)
        → Ascends (cond b (n ∷ m ∷ ms) (m ∷ in_id_order n ms))
    choose true before rest =
        let below : n.id.0 < m.id.0 = ltb-true n.id.0 m.id.0 before in (
          (
            below,
            weaker (λ (x : Node). m.id.0 < x.id.0) (λ (x : Node). n.id.0 < x.id.0) ms (λ x above. omega arith)
                ascends.0,
          ),
          ascends,
        )
    choose false behind rest =
        let above : m.id.0 ≤ n.id.0 = ltb-false n.id.0 m.id.0 behind in
        (all-in_id_order (λ (x : Node). m.id.0 < x.id.0) n ms (omega (arith, lacks.0)) ascends.0, rest)

pub by_id-ascends : (ns : List Node) → Distinct ns → Ascends (by_id ns)
by_id-ascends [] distinct = tt
by_id-ascends (n ∷ ns) distinct =
    ascends-in_id_order n (by_id ns) (all-by_id (Differs n.id) ns distinct.0) (by_id-ascends ns distinct.1)
