-- The nodes by ascending id.
use Rattle.std.proofs.Common.{◌≡◌, ◌≢◌, ◌<◌, ℕ, Bool, true, false, List, [], ◌∷◌, ap, arith, refl}
use Rattle.std.proofs.Common.{ltb, if◌then◌else◌}
use Rattle.std.specs.List.{AllByRecursion, AllPairs}
use Rattle.std.specs.List.Sorted.{IsNonDecreasingBy, IsPermutation}
use Rattle.std.proofs.lemmas.Bool.{ltb-false, ltb-true}
use Rattle.std.proofs.lemmas.List.Sorted.{IsPermutation-refl, IsPermutation-trans, IsPermutation-cons}
use Rattle.std.proofs.lemmas.List.Sorted.{IsPermutation-middle}
use Rattle.std.proofs.lemmas.List.Sorted.{IsPermutation-sym}
use Rattle.pl_base.specs.declared.id.ItemId.{ItemId}
use Rattle.pl_base.proofs.KeyCounts.{Ascends}
use Rattle.pl_items.specs.Nodes.{by_id, in_id_order}
use Rattle.pl_items.specs.declared.node.Node.{Node}
use Rattle.pl_items.proofs.Ascending.{ascends_sorted, only_ascending}
use Rattle.pl_items.proofs.IdOrder.{all-by_id, all-in_id_order}
use Rattle.pl_items.proofs.Members.{pairs_head, pairs_tail}

abbrev pub node_key : Node → ℕ
node_key n = n.id.0

pub placed : (n : Node) (ms : List Node) → IsPermutation (n ∷ ms) (in_id_order n ms)
placed n [] = IsPermutation-refl (n ∷ [])
placed n (m ∷ ms) =
    choose (ltb n.id.0 m.id.0)
    (IsPermutation-trans _ _ _ (IsPermutation-sym _ _ (IsPermutation-middle (m ∷ []) n ms))
    (IsPermutation-cons m _ _ (placed n ms)))
  where
    choose : (b : Bool) → IsPermutation (n ∷ m ∷ ms) (m ∷ in_id_order n ms)
        → IsPermutation (n ∷ m ∷ ms) (if b then n ∷ m ∷ ms else m ∷ in_id_order n ms)
    choose true further = IsPermutation-refl (n ∷ m ∷ ms)
    choose false further = further

pub by_id-moves : (nodes : List Node) → IsPermutation nodes (by_id nodes)
by_id-moves [] = IsPermutation-refl []
by_id-moves (n ∷ ns) =
    IsPermutation-trans _ _ _ (IsPermutation-cons n _ _ (by_id-moves ns)) (placed n (by_id ns))

above : (n m : Node) (ms : List Node) → node_key n < node_key m → AllByRecursion (λ o. node_key m < node_key o) ms
    → AllByRecursion (λ o. node_key n < node_key o) ms
above n m [] below all = tt
above n m (o ∷ os) below all = (omega (arith, all.0), above n m os below all.1)

placed_ascends : (n : Node) (ms : List Node) → AllByRecursion (λ m. node_key n ≢ node_key m) ms → Ascends node_key ms
    → Ascends node_key (in_id_order n ms)
placed_ascends n [] apart up = (tt, tt)
placed_ascends n (m ∷ ms) apart up =
    choose (ltb n.id.0 m.id.0) refl (placed_ascends n ms apart.1 up.1)
  where
    choose : (b : Bool) → ltb n.id.0 m.id.0 ≡ b → Ascends node_key (in_id_order n ms)
        → Ascends node_key (if b then n ∷ m ∷ ms else m ∷ in_id_order n ms)
    choose true test further =
        let below = ltb-true n.id.0 m.id.0 test in ((below, above n m ms below up.0), up)
    choose false test further =
        let le = ltb-false n.id.0 m.id.0 test in
        let ne : node_key n ≢ node_key m = apart.0 in
        let below : node_key m < node_key n = omega arith in
        (all-in_id_order (λ o. node_key m < node_key o) n ms below up.0, further)

pub by_id-ascends : (nodes : List Node) → AllPairs (λ n m. node_key n ≢ node_key m) nodes
    → Ascends node_key (by_id nodes)
by_id-ascends [] apart = tt
by_id-ascends (n ∷ ns) apart =
    placed_ascends n (by_id ns)
    (all-by_id (λ m. node_key n ≢ node_key m) ns (pairs_head (λ m o. node_key m ≢ node_key o) n ns apart))
    (by_id-ascends ns (pairs_tail (λ m o. node_key m ≢ node_key o) n ns apart))

-- of nodes whose ids are distinct their numbers are
pub distinct_keys : (nodes : List Node) → AllPairs (λ n m. n.id ≢ m.id) nodes
    → AllPairs (λ n m. node_key n ≢ node_key m) nodes
distinct_keys nodes apart i j d before within e =
    let id : ℕ → ItemId = λ k. record { 0 = k } in apart i j d before within (ap id e)

-- a sort by id makes `by_id`
pub sorted_is : (nodes sorted : List Node) → AllPairs (λ n m. n.id ≢ m.id) nodes → IsPermutation nodes sorted
    → IsNonDecreasingBy node_key sorted → sorted ≡ by_id nodes
sorted_is nodes sorted apart moves up =
    let keys = distinct_keys nodes apart in
    only_ascending node_key sorted (by_id nodes) (ascends_sorted node_key nodes sorted keys moves up)
    (by_id-ascends nodes keys)
    (IsPermutation-trans _ _ _ (IsPermutation-sym _ _ moves) (by_id-moves nodes))
