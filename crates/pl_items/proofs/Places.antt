-- Edits at the place of a node: what they make of the nodes.
use Rattle.std.proofs.Common.{◌≡◌, ◌≢◌, ◌+◌, ◌-◌, ◌<◌, ◌≤◌, ◌∙◌, ℕ, Bool, true, false, cond, List, [], ◌∷◌, not}
use Rattle.std.proofs.Common.{Option, Some, None, ap, arith, get_or, length, map, IfSome, if◌then◌else◌, min, nat_lt}
use Rattle.std.proofs.Common.{refl, set, subst, suc, sym}
use Rattle.std.specs.List.{insert, position, position_or_len, remove}
use Rattle.std.proofs.lemmas.Bool.{ltb-false, ltb-true}
use Rattle.std.proofs.lemmas.Bool.Decides.{nat_tests}
use Rattle.pl_base.specs.declared.id.ItemId.{ItemId}
use Rattle.pl_base.proofs.ItemLookUps.{same_item}
use Rattle.pl_items.specs.declared.node.Node.{Node}
use Rattle.pl_items.specs.Nodes.{place_behind, place_then, put_node}
use Rattle.pl_items.proofs.IdOrder.{Distinct, Lacks, has_id, without, without-none}
use Rattle.pl_items.proofs.Lookups.{at_place}
use Rattle.pl_items.proofs.Turns.{remove-set}
use Rattle.std.proofs.lemmas.List.{get_or-set_same}

-- ---- one node changed

abbrev pub changed : ItemId → (Node → Node) → Node → Node
changed id f m = cond (has_id id m) (f m) m

pub changed-none : (id : ItemId) (f : Node → Node) (ns : List Node) → Lacks id ns → map (changed id f) ns ≡ ns
changed-none id f [] lacks = refl
changed-none id f (n ∷ ns) lacks =
    let other : has_id id n ≡ false = grind (arith, nat_tests, lacks.0) in
    rw other (ap (λ xs. n ∷ xs) (changed-none id f ns lacks.1))

set_here : (id : ItemId) (f : Node → Node) (ns : List Node) (d : Node) → Distinct ns
    → position_or_len (has_id id) ns < length ns
    → set ns (position_or_len (has_id id) ns) (f (get_or ns (position_or_len (has_id id) ns) d))
    ≡ map (changed id f) ns
set_here id f [] d distinct within = absurd (omega arith)
set_here id f (n ∷ ns) d distinct within =
    choose (has_id id n) refl within (set_here id f ns d distinct.1)
  where
    choose : (b : Bool) → has_id id n ≡ b → cond (not b) (1 + position_or_len (has_id id) ns) 0 < length (n ∷ ns)
        → (position_or_len (has_id id) ns < length ns
        → set ns (position_or_len (has_id id) ns) (f (get_or ns (position_or_len (has_id id) ns) d))
        ≡ map (changed id f) ns)
        → set (n ∷ ns) (cond (not b) (1 + position_or_len (has_id id) ns) 0)
        (f (get_or (n ∷ ns) (cond (not b) (1 + position_or_len (has_id id) ns) 0) d))
        ≡ cond b (f n) n ∷ map (changed id f) ns
    choose true here inside rest =
        let lacks : Lacks id ns = subst (λ i. Lacks i ns) (same_item n.id id here) distinct.0 in
        ap (λ xs. f n ∷ xs) (sym (changed-none id f ns lacks))
    choose false other inside rest =
        let next : 1 + position_or_len (has_id id) ns ≡ suc (position_or_len (has_id id) ns) = omega arith in
        rw next (ap (λ xs. n ∷ xs) (rest (omega arith)))

pub set_at : (id : ItemId) (f : Node → Node) (ns : List Node) (k : ℕ) (n : Node) → Distinct ns
    → position (has_id id) ns ≡ Some k → n ≡ get_or ns k n → set ns k (f n) ≡ map (changed id f) ns
set_at id f ns k n distinct found at =
    let place = at_place (has_id id) ns k found in
    ap (λ x. set ns k (f x)) at
    ∙ ap (λ j. set ns j (f (get_or ns j n))) (sym place.0)
    ∙ set_here id f ns n distinct (omega (arith, place.0, place.1))

-- ---- one node less

remove_here : (id : ItemId) (ns : List Node) → Distinct ns → remove ns (position_or_len (has_id id) ns) ≡ without id ns
remove_here id [] distinct = refl
remove_here id (n ∷ ns) distinct = choose (has_id id n) refl (remove_here id ns distinct.1)
  where
    choose : (b : Bool) → has_id id n ≡ b → remove ns (position_or_len (has_id id) ns) ≡ without id ns
        → remove (n ∷ ns) (cond (not b) (1 + position_or_len (has_id id) ns) 0)
        ≡ cond (not b) (n ∷ without id ns) (without id ns)
    choose true here rest =
        let lacks : Lacks id ns = subst (λ i. Lacks i ns) (same_item n.id id here) distinct.0 in
        sym (without-none id ns lacks)
    choose false other rest =
        let next : 1 + position_or_len (has_id id) ns ≡ suc (position_or_len (has_id id) ns) = omega arith in
        rw next (ap (λ xs. n ∷ xs) rest)

pub remove_at : (id : ItemId) (ns : List Node) (k : ℕ) → Distinct ns → position (has_id id) ns ≡ Some k
    → remove ns k ≡ without id ns
remove_at id ns k distinct found =
    ap (remove ns) (sym (at_place (has_id id) ns k found).0) ∙ remove_here id ns distinct

-- ---- one node more

pub insert_behind : (after : Option ItemId) (n : Node) (ns : List Node)
    → insert ns (place_behind after ns) n ≡ put_node after n ns
insert_behind None n ns = refl
insert_behind (Some a) n [] = refl
insert_behind (Some a) n (m ∷ ms) = choose (has_id a m) (insert_behind (Some a) n ms)
  where
    choose : (b : Bool) → insert ms (min (position_or_len (has_id a) ms + 1) (length ms)) n ≡ put_node (Some a) n ms
        → insert (m ∷ ms) (min (cond (not b) (1 + position_or_len (has_id a) ms) 0 + 1) (length (m ∷ ms))) n
        ≡ cond b (m ∷ n ∷ ms) (m ∷ put_node (Some a) n ms)
    choose true rest =
        let first : min (0 + 1) (length (m ∷ ms)) ≡ 1 = omega arith in
        rw first refl
    choose false rest =
        let next : min (1 + position_or_len (has_id a) ms + 1) (length (m ∷ ms))
        ≡ suc (min (position_or_len (has_id a) ms + 1) (length ms)) = omega arith in
        rw next (ap (λ xs. m ∷ xs) rest)

-- ---- one node moved

abbrev Shifts : ℕ → ℕ → ℕ → Type 0
Shifts from before place = (from < before → place + 1 ≡ before) × (before ≤ from → place ≡ before)

one_further : (p q len r less : ℕ) → Shifts p (min (q + 1) len) (min (r + 1) less)
    → Shifts (1 + p) (min (1 + q + 1) (suc len)) (min (1 + r + 1) (suc less))
one_further p q len r less shifted =
    ((λ before. omega (arith, shifted.0 (omega arith))), (λ past. omega (arith, shifted.1 (omega arith))))

shifts : (id a : ItemId) (ns : List Node) → Distinct ns → a.0 ≢ id.0 → position_or_len (has_id id) ns < length ns
    → Shifts (position_or_len (has_id id) ns) (place_behind (Some a) ns) (place_behind (Some a) (without id ns))
shifts id a [] distinct other within = absurd (omega arith)
shifts id a (n ∷ ns) distinct other within =
    choose (has_id id n) (has_id a n) refl refl within (shifts id a ns distinct.1 other)
  where
    choose : (b q : Bool) → has_id id n ≡ b → has_id a n ≡ q
        → cond (not b) (1 + position_or_len (has_id id) ns) 0 < length (n ∷ ns)
        → (position_or_len (has_id id) ns < length ns
        → Shifts (position_or_len (has_id id) ns) (place_behind (Some a) ns) (place_behind (Some a) (without id ns)))
        → Shifts (cond (not b) (1 + position_or_len (has_id id) ns) 0)
        (min (cond (not q) (1 + position_or_len (has_id a) ns) 0 + 1) (length (n ∷ ns)))
        (place_behind (Some a) (cond (not b) (n ∷ without id ns) (without id ns)))
    choose true true here there inside rest = absurd (grind (arith, nat_tests, here, there, other))
    choose true false here there inside rest =
        let lacks : Lacks id ns = subst (λ i. Lacks i ns) (same_item n.id id here) distinct.0 in
        rw (without-none id ns lacks) ((λ before. omega arith), (λ past. absurd (omega arith)))
    choose false true here there inside rest =
        rw there ((λ before. absurd (omega arith)), (λ past. omega arith))
    choose false false here there inside rest =
        rw there
        (one_further (position_or_len (has_id id) ns) (position_or_len (has_id a) ns) (length ns)
        (position_or_len (has_id a) (without id ns)) (length (without id ns)) (rest (omega arith)))

-- where the node is put before which one stands that is not this one
pub place_then_is : (id : ItemId) (after : Option ItemId) (ns : List Node) (k : ℕ) → Distinct ns
    → position (has_id id) ns ≡ Some k → IfSome after (λ a. a ≢ id)
    → place_then k (place_behind after ns) ≡ place_behind after (without id ns)
place_then_is id None ns k distinct found other =
    let none : nat_lt k 0 ≡ false = grind (arith, nat_tests) in
    rw none refl
place_then_is id (Some a) ns k distinct found other =
    let place = at_place (has_id id) ns k found in
    let differ : a.0 ≢ id.0 = λ same. other (ap (λ (n : ℕ). record { 0 = n }) same) in
    let shifted = shifts id a ns distinct differ (omega (arith, place.0, place.1)) in
    choose (nat_lt k (place_behind (Some a) ns)) refl
    (λ before. shifted.0 (omega (arith, place.0))) (λ past. shifted.1 (omega (arith, place.0)))
  where
    choose : (b : Bool) → nat_lt k (place_behind (Some a) ns) ≡ b
        → (k < place_behind (Some a) ns → place_behind (Some a) (without id ns) + 1 ≡ place_behind (Some a) ns)
        → (place_behind (Some a) ns ≤ k → place_behind (Some a) (without id ns) ≡ place_behind (Some a) ns)
        → (if b then place_behind (Some a) ns - 1 else place_behind (Some a) ns) ≡ place_behind (Some a) (without id ns)
    choose true less before past =
        omega (arith, before (ltb-true k (place_behind (Some a) ns) less))
    choose false less before past = sym (past (ltb-false k (place_behind (Some a) ns) less))

-- a node that was changed and then put before the place behind another one
pub moved_at : (id : ItemId) (after : Option ItemId) (n d : Node) (ns : List Node) (k : ℕ) → Distinct ns
    → position (has_id id) ns ≡ Some k → IfSome after (λ a. a ≢ id)
    → insert (remove (set ns k n) k) (place_then k (place_behind after ns)) (get_or (set ns k n) k d)
    ≡ put_node after n (without id ns)
moved_at id after n d ns k distinct found other =
    ap (λ xs. insert xs (place_then k (place_behind after ns)) (get_or (set ns k n) k d))
    (remove-set ns k n ∙ remove_at id ns k distinct found)
    ∙ ap (λ place. insert (without id ns) place (get_or (set ns k n) k d))
    (place_then_is id after ns k distinct found other)
    ∙ ap (insert (without id ns) (place_behind after (without id ns)))
    (get_or-set_same ns k n d (at_place (has_id id) ns k found).1)
    ∙ insert_behind after n (without id ns)
