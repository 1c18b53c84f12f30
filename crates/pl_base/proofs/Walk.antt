-- A walk over a list by a cursor: one call names the first element, and another the one behind an element.
use Rattle.std.proofs.Common.{◌≡◌, ◌≢◌, ◌∙◌, ◌<◌, ◌≤◌, ◌++◌, ℕ, List, [], ◌∷◌, Option, Some, None}
use Rattle.std.proofs.Common.{ap, append_assoc, arith, length, refl, subst, suc, sym, zero}
use Rattle.std.specs.List.{AllByRecursion}
use Rattle.std.proofs.lemmas.List.{append-nil, length-append}
use Rattle.std.proofs.lemmas.Option.{same_Some}
use Rattle.pl_base.proofs.LookUps.{part}

-- how a cursor names an element, and the first one of a list
pub record Names (X I : Type 0) : Type 0 where
  pub name : X → I
  pub first : List X → Option I
  pub of_none : first [] ≡ None
  pub of_some : (x : X) (xs : List X) → first (x ∷ xs) ≡ Some (name x)

-- behind each element the cursor names the next one, and behind the last none
abbrev pub Runs : {X I : Type 0} → Names X I → (I → Option I) → List X → Type 0
Runs {X} n behind xs =
    (front : List X) (x : X) (rest : List X) → xs ≡ front ++ x ∷ rest → behind (n.name x) ≡ n.first rest

-- ---- the walk

-- what holds of the elements in front of the cursor
pub record Walk {X I : Type 0} (n : Names X I) (xs : List X) (P : List X → Type 0) (next : Option I) : Type 0 where
  pub front : List X
  pub rest : List X
  pub whole : xs ≡ front ++ rest
  pub here : next ≡ n.first rest
  pub so_far : P front

-- the element that the cursor names
pub record StandsAt {X I : Type 0} (n : Names X I) (xs : List X) (P : List X → Type 0) (id : I) : Type 0 where
  pub front : List X
  pub element : X
  pub rest : List X
  pub whole : xs ≡ front ++ element ∷ rest
  pub is : n.name element ≡ id
  pub so_far : P front

module _ {X I : Type 0} (n : Names X I) (xs : List X) (P : List X → Type 0) where
  pub starts : (next : Option I) → next ≡ n.first xs → P [] → Walk n xs P next
  starts next is none = record { front = []; rest = xs; whole = refl; here = is; so_far = none }

  pub stands : (next : Option I) (id : I) → Walk n xs P next → next ≡ Some id → StandsAt n xs P id
  stands next id w at = choose w.rest w.whole w.here
    where
      choose : (rest : List X) → xs ≡ w.front ++ rest → next ≡ n.first rest → StandsAt n xs P id
      choose [] whole none =
          let never : None ≡ Some id = sym (none ∙ n.of_none) ∙ at in
          absurd (cc)
      choose (x ∷ rest) whole some =
          record {
            front = w.front;
            element = x;
            rest = rest;
            whole = whole;
            is = same_Some (n.name x) id (sym (some ∙ n.of_some x rest) ∙ at);
            so_far = w.so_far;
          }

  -- what holds of each element holds of this one
  pub holds_here : (Q : X → Type 0) (id : I) → AllByRecursion Q xs → (h : StandsAt n xs P id) → Q h.element
  holds_here Q id all h = part Q h.front h.element h.rest (subst (AllByRecursion Q) h.whole all)

  -- at its end the walk has gone over all
  pub ends : (next : Option I) → Walk n xs P next → ((id : I) → next ≢ Some id) → P xs
  ends next w none = choose w.rest w.whole w.here
    where
      choose : (rest : List X) → xs ≡ w.front ++ rest → next ≡ n.first rest → P xs
      choose [] whole end = subst P (sym (whole ∙ append-nil w.front)) w.so_far
      choose (x ∷ rest) whole some = absurd (none (n.name x) (some ∙ n.of_some x rest))

-- where the cursor is none, it names none
pub no_more : {I : Type 0} (next : Option I) → next ≡ None → (id : I) → next ≢ Some id
no_more next end id some =
    let never : None ≡ Some id = sym end ∙ some in
    absurd (cc)

-- the walk goes on behind the element that it stands at
pub goes_on : {X I : Type 0} (n : Names X I) (behind : I → Option I) (xs : List X) (P Q : List X → Type 0) (id : I)
    (next : Option I) → Runs n behind xs → (h : StandsAt n xs P id) → next ≡ behind id
    → Q (h.front ++ h.element ∷ []) → Walk n xs Q next
goes_on n behind xs P Q id next runs h is more =
    record {
      front = h.front ++ h.element ∷ [];
      rest = h.rest;
      whole = h.whole ∙ sym (append_assoc h.front (h.element ∷ []) h.rest);
      here = is ∙ ap behind (sym h.is) ∙ runs h.front h.element h.rest h.whole;
      so_far = more;
    }

-- ---- how far it is to the end

-- how often the cursor goes on, counted as far as so many
pub left : {I : Type 0} → (I → Option I) → ℕ → Option I → ℕ
left behind zero next = 0
left behind (suc k) None = 0
left behind (suc k) (Some id) = suc (left behind k (behind id))

none_left : {I : Type 0} (behind : I → Option I) (k : ℕ) → left behind k None ≡ 0
unfolding left
none_left behind zero = refl
none_left behind (suc k) = refl

left_is : {X I : Type 0} (n : Names X I) (behind : I → Option I) (xs : List X) → Runs n behind xs
    → (front rest : List X) → xs ≡ front ++ rest → (k : ℕ) → length rest ≤ k
    → left behind k (n.first rest) ≡ length rest
unfolding left
left_is n behind xs runs front [] whole k le = ap (left behind k) n.of_none ∙ none_left behind k
left_is n behind xs runs front (x ∷ rest) whole zero le = absurd (omega arith)
left_is n behind xs runs front (x ∷ rest) whole (suc k) le =
    let again : xs ≡ (front ++ x ∷ []) ++ rest = whole ∙ sym (append_assoc front (x ∷ []) rest) in
    ap (left behind (suc k)) (n.of_some x rest)
    ∙ ap suc (ap (left behind k) (runs front x rest whole)
    ∙ left_is n behind xs runs (front ++ x ∷ []) rest again k (omega arith))

pub nears : {X I : Type 0} (n : Names X I) (behind : I → Option I) (xs : List X) (P : List X → Type 0)
    (now next : Option I) (id : I) → Runs n behind xs → StandsAt n xs P id → now ≡ Some id → next ≡ behind id
    → left behind (length xs) next < left behind (length xs) now
nears {X} {I} n behind xs P now next id runs h at is =
    let again : xs ≡ (h.front ++ h.element ∷ []) ++ h.rest =
    h.whole ∙ sym (append_assoc h.front (h.element ∷ []) h.rest) in
    let long : length xs ≡ _ = ap length h.whole ∙ length-append h.front (h.element ∷ h.rest) in
    let after : left behind (length xs) next ≡ length h.rest =
    ap (left behind (length xs)) (is ∙ ap behind (sym h.is) ∙ runs h.front h.element h.rest h.whole)
    ∙ left_is n behind xs runs (h.front ++ h.element ∷ []) h.rest again (length xs) (omega (arith, long)) in
    let before : left behind (length xs) now ≡ length (h.element ∷ h.rest) =
    ap (left behind (length xs))
    (at ∙ ap (λ (i : I). Some i) (sym h.is) ∙ sym (n.of_some h.element h.rest))
    ∙ left_is n behind xs runs h.front (h.element ∷ h.rest) h.whole (length xs) (omega (arith, long)) in
    omega (arith, after, before)
