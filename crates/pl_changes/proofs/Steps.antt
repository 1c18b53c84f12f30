-- Changes by ascending ids, each of which brings a list of views nearer to another list.
use Rattle.std.proofs.Common.{◌≡◌, ◌≢◌, ◌∙◌, ◌+◌, ◌<◌, ◌≤◌, ◌||◌, ◌⊎◌, inl, inr, ℕ, true, false}
use Rattle.std.proofs.Common.{List, [], ◌∷◌, Option, Some, None, ap, arith, is_some, refl, subst, sym}
use Rattle.std.specs.Option.{IfSome}
use Rattle.std.specs.List.{AllByRecursion, AllPairs, Contains}
use Rattle.std.proofs.lemmas.Bool.{cases_eq, cases_lt}
use Rattle.std.proofs.lemmas.List.Elements.{All-from_recursion}
use Rattle.std.proofs.lemmas.List.Kept.{AllPairs-cons}
use Rattle.pl_base.specs.declared.change.Change.{Change}
use Rattle.pl_base.specs.declared.view.View.{View}
use Rattle.pl_base.proofs.Among.{contains_from_in}
use Rattle.pl_base.proofs.ListLaws.{weaker}
use Rattle.pl_follow.specs.Changes.{AreInOrder, FitStore, Suits, changed, has_view, removed, with_view, without_id}
use Rattle.pl_follow.proofs.ChangedLists.{added_in_order}
use Rattle.pl_follow.proofs.Parted.{removed_in_order}
use Rattle.pl_known.proofs.ViewLookUps.{same_views}
use Rattle.pl_known.specs.Changes.{AllSuit, AreEachOnce, IsOfOnePage, after, id_of}
use Rattle.pl_changes.proofs.Mixed.{mixed, mixed_above, mixed_below, mixed_in_order}
use Rattle.pl_changes.proofs.Seen.{no_view, seen, seen_in, with_other, with_seen, without_other, without_seen}

-- ---- one change

-- the change of the view with this id from one list to the other
pub record IsStep (old new : List View) (n : ℕ) (change : Change) : Type 0 where
  pub was : change.old ≡ seen n old
  pub is : change.new ≡ seen n new
  pub differ : change.old ≢ change.new

module _ (n : ℕ) (a b : Option View) (views : List View) (ordered : AreInOrder views) (was : a ≡ seen n views)
    (named : IfSome b (λ (v : View). v.id.0 ≡ n)) where
  -- the view that goes has the id
  left : (v : View) → a ≡ Some v → v.id.0 ≡ n
  left v is = (seen_in n views v (sym was ∙ is)).1

  gone : (a' : Option View) → a ≡ a' → seen n (removed a' views) ≡ None
  gone None is = sym was ∙ is
  gone (Some v) is = ap (λ (m : ℕ). seen m (without_id v.id views)) (sym (left v is)) ∙ without_seen v.id views

  others : (a' : Option View) → a ≡ a' → (m : ℕ) → m ≢ n → seen m (removed a' views) ≡ seen m views
  others None is m other = refl
  others (Some v) is m other = without_other v.id m views (λ same. other (same ∙ left v is))

  less_in_order : (a' : Option View) → AreInOrder (removed a' views)
  less_in_order None = ordered
  less_in_order (Some v) = removed_in_order v.id views ordered

  -- the view that comes has an id that no other has
  pub comes : IfSome b (λ (v : View). has_view v.id (removed a views) ≡ false)
  comes = choose b named
    where
      choose : (b' : Option View) → IfSome b' (λ (v : View). v.id.0 ≡ n)
          → IfSome b' (λ (v : View). has_view v.id (removed a views) ≡ false)
      choose None is = tt
      choose (Some v) is =
          no_view v.id (removed a views) (ap (λ (m : ℕ). seen m (removed a views)) is ∙ gone a refl)

  pub changed_in_order : AreInOrder (changed a b views)
  changed_in_order = choose b comes
    where
      choose : (b' : Option View) → IfSome b' (λ (v : View). has_view v.id (removed a views) ≡ false)
          → AreInOrder (changed a b' views)
      choose None none = less_in_order a
      choose (Some v) none = added_in_order v (removed a views) (less_in_order a) none

  pub changed_seen : seen n (changed a b views) ≡ b
  changed_seen = choose b named comes
    where
      choose : (b' : Option View) → IfSome b' (λ (v : View). v.id.0 ≡ n)
          → IfSome b' (λ (v : View). has_view v.id (removed a views) ≡ false) → seen n (changed a b' views) ≡ b'
      choose None is none = gone a refl
      choose (Some v) is none =
          ap (λ (m : ℕ). seen m (with_view v (removed a views))) (sym is) ∙ with_seen v (removed a views) none

  pub changed_other : (m : ℕ) → m ≢ n → seen m (changed a b views) ≡ seen m views
  changed_other m other = choose b named comes
    where
      choose : (b' : Option View) → IfSome b' (λ (v : View). v.id.0 ≡ n)
          → IfSome b' (λ (v : View). has_view v.id (removed a views) ≡ false)
          → seen m (changed a b' views) ≡ seen m views
      choose None is none = others a refl m other
      choose (Some v) is none =
          with_other v m (removed a views) none (λ same. other (sym same ∙ is)) ∙ others a refl m other

named : (n : ℕ) (views : List View) (o : Option View) → o ≡ seen n views → IfSome o (λ (v : View). v.id.0 ≡ n)
named n views None is = tt
named n views (Some v) is = (seen_in n views v (sym is)).1

some_of : (a b : Option View) → a ≢ b → (is_some a || is_some b) ≡ true
some_of None None differ = absurd (differ refl)
some_of None (Some v) differ = refl
some_of (Some v) b differ = refl

goes_of : (n : ℕ) (views : List View) (o : Option View) → o ≡ seen n views → IfSome o (λ (v : View). Contains views v)
goes_of n views None is = tt
goes_of n views (Some v) is = contains_from_in views v (seen_in n views v (sym is)).0

beyond : (n m : ℕ) → n ≤ m → m ≢ n → n + 1 ≤ m
beyond n m over other = omega arith

-- ---- one after another

-- the lists tell the same of the ids from one bound on, and below another
abbrev pub Agree : List View → List View → ℕ → ℕ → Type 0
Agree old new from end = (n : ℕ) → from ≤ n → n < end → seen n old ≡ seen n new

-- the changes go through the ids from a bound on, and the lists tell the same of all that they
-- leave out
abbrev pub Walk : List View → List View → ℕ → List Change → Type 0
Walk old new k [] = (n : ℕ) → k ≤ n → seen n old ≡ seen n new
Walk old new k (c ∷ cs) =
    (n : ℕ) × (k ≤ n) × Agree old new k n × IsStep old new n c × Walk old new (n + 1) cs

module _ (old new : List View) (ordered : AreInOrder old) (anew : AreInOrder new)
    (fits : (k : ℕ) → FitStore (mixed old new k)) where
  in_order : (k : ℕ) → AreInOrder (mixed old new k)
  in_order k = mixed_in_order old new k ordered anew

  between : (k n : ℕ) → k ≤ n → Agree old new k n → mixed old new k ≡ mixed old new n
  between k n from agree =
      same_views (mixed old new k) (mixed old new n) (in_order k) (in_order n)
      (λ id. choose id.0 (cases_lt id.0 k) (cases_lt id.0 n))
    where
      choose : (m : ℕ) → (m < k) ⊎ (k ≤ m) → (m < n) ⊎ (n ≤ m)
          → seen m (mixed old new k) ≡ seen m (mixed old new n)
      choose m (inl under) end =
          mixed_below old new k m under ∙ sym (mixed_below old new n m (omega (arith, under, from)))
      choose m (inr over) (inl under) =
          mixed_above old new k m over ∙ agree m over under ∙ sym (mixed_below old new n m under)
      choose m (inr over) (inr beyond) = mixed_above old new k m over ∙ sym (mixed_above old new n m beyond)

  ended : (k : ℕ) → ((n : ℕ) → k ≤ n → seen n old ≡ seen n new) → mixed old new k ≡ new
  ended k agree =
      same_views (mixed old new k) new (in_order k) anew (λ id. choose id.0 (cases_lt id.0 k))
    where
      choose : (m : ℕ) → (m < k) ⊎ (k ≤ m) → seen m (mixed old new k) ≡ seen m new
      choose m (inl under) = mixed_below old new k m under
      choose m (inr over) = mixed_above old new k m over ∙ agree m over

  module _ (n : ℕ) (c : Change) (step : IsStep old new n c) where
    was_here : c.old ≡ seen n (mixed old new n)
    was_here = step.was ∙ sym (mixed_above old new n n (omega arith))

    stepped : changed c.old c.new (mixed old new n) ≡ mixed old new (n + 1)
    stepped =
        same_views (changed c.old c.new (mixed old new n)) (mixed old new (n + 1))
        (changed_in_order n c.old c.new (mixed old new n) (in_order n) was_here (named n new c.new step.is))
        (in_order (n + 1)) (λ id. choose id.0 (cases_eq id.0 n) (cases_lt id.0 n))
      where
        there : seen n (changed c.old c.new (mixed old new n)) ≡ seen n (mixed old new (n + 1))
        there =
            changed_seen n c.old c.new (mixed old new n) (in_order n) was_here (named n new c.new step.is)
            ∙ step.is ∙ sym (mixed_below old new (n + 1) n (omega arith))

        elsewhere : (m : ℕ) → m ≢ n → seen m (changed c.old c.new (mixed old new n)) ≡ seen m (mixed old new n)
        elsewhere m other =
            changed_other n c.old c.new (mixed old new n) (in_order n) was_here (named n new c.new step.is) m other

        choose : (m : ℕ) → (m ≡ n) ⊎ (m ≢ n) → (m < n) ⊎ (n ≤ m)
            → seen m (changed c.old c.new (mixed old new n)) ≡ seen m (mixed old new (n + 1))
        choose m (inl one) side =
            ap (λ (j : ℕ). seen j (changed c.old c.new (mixed old new n))) one ∙ there
            ∙ sym (ap (λ (j : ℕ). seen j (mixed old new (n + 1))) one)
        choose m (inr other) (inl under) =
            elsewhere m other ∙ mixed_below old new n m under
            ∙ sym (mixed_below old new (n + 1) m (omega (arith, under)))
        choose m (inr other) (inr over) =
            elsewhere m other ∙ mixed_above old new n m over
            ∙ sym (mixed_above old new (n + 1) m (beyond n m over other))

    suits : Suits c.old c.new (mixed old new n)
    suits =
        record {
          some = some_of c.old c.new step.differ;
          goes = goes_of n (mixed old new n) c.old was_here;
          comes = comes n c.old c.new (mixed old new n) (in_order n) was_here (named n new c.new step.is);
          becomes = subst FitStore (sym stepped) (fits (n + 1));
        }

  -- each change suits the list that those before it leave, and the last leaves the other list
  pub go : (k : ℕ) (cs : List Change) → Walk old new k cs
      → AllSuit cs (mixed old new k) × (after cs (mixed old new k) ≡ new)
  go k [] walk = (tt, ended k walk)
  go k (c ∷ cs) walk =
      let rest = go (walk.0 + 1) cs walk.4 in
      let step : changed c.old c.new (mixed old new walk.0) ≡ mixed old new (walk.0 + 1) =
      stepped walk.0 c walk.3 in
      subst (λ (views : List View). AllSuit (c ∷ cs) views × (after (c ∷ cs) views ≡ new))
      (sym (between k walk.0 walk.1 walk.2))
      ((suits walk.0 c walk.3, subst (AllSuit cs) (sym step) rest.0), ap (after cs) step ∙ rest.1)

-- ---- each page once

numbers : (n : ℕ) (a b : Option View) → IfSome a (λ (v : View). v.id.0 ≡ n) → IfSome b (λ (v : View). v.id.0 ≡ n)
    → a ≢ b → id_of (record { old = a; new = b }) ≡ n
numbers n None None one two differ = absurd (differ refl)
numbers n None (Some v) one two differ = two
numbers n (Some v) b one two differ = one

same_ids : (n : ℕ) (a b : Option View) → IfSome a (λ (v : View). v.id.0 ≡ n) → IfSome b (λ (v : View). v.id.0 ≡ n)
    → IsOfOnePage (record { old = a; new = b })
same_ids n None b one two = tt
same_ids n (Some v) None one two = tt
same_ids n (Some v) (Some w) one two = ap (λ (m : ℕ). record { 0 = m }) (one ∙ sym two)

module _ (old new : List View) where
  numbered : (n : ℕ) (c : Change) → IsStep old new n c → id_of c ≡ n
  numbered n c step = numbers n c.old c.new (named n old c.old step.was) (named n new c.new step.is) step.differ

  all_from : (k : ℕ) (cs : List Change) → Walk old new k cs → AllByRecursion (λ (c : Change). k ≤ id_of c) cs
  all_from k [] walk = tt
  all_from k (c ∷ cs) walk =
      let here : id_of c ≡ walk.0 = numbered walk.0 c walk.3 in
      let from : k ≤ walk.0 = walk.1 in (
        omega (arith, here, from),
        weaker (λ (d : Change). walk.0 + 1 ≤ id_of d) (λ (d : Change). k ≤ id_of d) cs
            (λ d later. omega (arith, later, from)) (all_from (walk.0 + 1) cs walk.4),
      )

  all_of_one : (k : ℕ) (cs : List Change) → Walk old new k cs → AllByRecursion IsOfOnePage cs
  all_of_one k [] walk = tt
  all_of_one k (c ∷ cs) walk = (
    same_ids walk.0 c.old c.new (named walk.0 old c.old walk.3.was) (named walk.0 new c.new walk.3.is),
    all_of_one (walk.0 + 1) cs walk.4,
  )

  all_differ : (k : ℕ) (cs : List Change) → Walk old new k cs → AllByRecursion (λ (c : Change). c.old ≢ c.new) cs
  all_differ k [] walk = tt
  all_differ k (c ∷ cs) walk = (walk.3.differ, all_differ (walk.0 + 1) cs walk.4)

  ascending : (k : ℕ) (cs : List Change) → Walk old new k cs → AllPairs (λ (c d : Change). id_of c < id_of d) cs
  ascending k [] walk = λ i j d before within. absurd (omega (arith, within))
  ascending k (c ∷ cs) walk =
      let here : id_of c ≡ walk.0 = numbered walk.0 c walk.3 in
      AllPairs-cons (λ (a b : Change). id_of a < id_of b) c cs
      (All-from_recursion (λ (d : Change). id_of c < id_of d) cs
      (weaker (λ (d : Change). walk.0 + 1 ≤ id_of d) (λ (d : Change). id_of c < id_of d) cs
      (λ d later. omega (arith, here, later)) (all_from (walk.0 + 1) cs walk.4)))
      (ascending (walk.0 + 1) cs walk.4)

  pub each_once : (k : ℕ) (cs : List Change) → Walk old new k cs → AreEachOnce cs
  each_once k cs walk =
      record {
        pages = All-from_recursion IsOfOnePage cs (all_of_one k cs walk);
        ascending = ascending k cs walk;
        differ = All-from_recursion (λ (c : Change). c.old ≢ c.new) cs (all_differ k cs walk);
      }
