-- What holds of pages without one of them, and of the names of their origins.
use Rattle.std.proofs.Common.{◌≡◌, ◌≢◌, ◌+◌, ◌-◌, ◌<◌, ◌≤◌, ◌==◌, ◌||◌, ◌++◌, ◌∙◌, ℕ, All, Bool, true, false}
use Rattle.std.proofs.Common.{List, [], ◌∷◌, Some, ap, arith, eq-eqb, filter, find, get_or}
use Rattle.std.proofs.Common.{if◌then◌else◌, length, map, not, refl, subst, suc, sym}
use Rattle.std.specs.List.{AllPairs, list_any, sum_by}
use Rattle.std.proofs.lemmas.Bool.{eqb-true, false≢true}
use Rattle.std.proofs.lemmas.List.{length-append, map-append}
use Rattle.std.proofs.lemmas.List.Elements.{All-head, All-tail}
use Rattle.std.proofs.lemmas.List.Folds.{Any-from_list_any, list_any-append, list_any-from_Any, list_any_at}
use Rattle.std.proofs.lemmas.List.Sums.{sum_by-append, sum_by-cons}
use Rattle.pl_base.specs.declared.id.PageId.{PageId}
use Rattle.pl_base.specs.declared.id.Slot.{Slot}
use Rattle.pl_base.specs.Address.{same_origin}
use Rattle.pl_base.specs.Live.{origin_count}
use Rattle.pl_base.specs.Rows.{KeptPage, other_pages}
use Rattle.pl_base.proofs.IdsLaws.{same_slot}
use Rattle.pl_base.proofs.ListLaws.{list_any-map}
use Rattle.pl_plain.specs.FlatRows.{name_left}
use Rattle.pl_plain.proofs.OriginsLeft.{is_new, origins_without}

-- ---- the pages but one

-- a page stands once among these, and those are the others
pub record IsSplit (pages others : List KeptPage) (p : KeptPage) : Type 0 where
  pub front : List KeptPage
  pub back : List KeptPage
  pub whole : pages ≡ front ++ p ∷ back
  pub rest : others ≡ front ++ back

pub all_pass : {X : Type 0} (q : X → Bool) (xs : List X) → All (λ x. q x ≡ false) xs → filter (λ x. not (q x)) xs ≡ xs
all_pass q [] none = refl
all_pass q (x ∷ xs) none =
    rw (All-head (λ y. q y ≡ false) x xs none, all_pass q xs (All-tail (λ y. q y ≡ false) x xs none)) refl

pub split : (id : PageId) (ps : List KeptPage) (p : KeptPage)
    → AllPairs (λ (a b : KeptPage). (a.page.id.0 == id.0) ≡ true → (b.page.id.0 == id.0) ≡ false) ps
    → find (λ (q : KeptPage). q.page.id.0 == id.0) ps ≡ Some p → IsSplit ps (other_pages id ps) p
split id [] p once found = absurd (cc)
split id (y ∷ ys) p once found =
    choose (y.page.id.0 == id.0) refl found
    (split id ys p (λ i j d before within. once (suc i) (suc j) d (omega arith) (omega arith)))
  where
    choose : (b : Bool) → (y.page.id.0 == id.0) ≡ b
        → (if b then Some y else find (λ (q : KeptPage). q.page.id.0 == id.0) ys) ≡ Some p
        → (find (λ (q : KeptPage). q.page.id.0 == id.0) ys ≡ Some p → IsSplit ys (other_pages id ys) p)
        → IsSplit (y ∷ ys) (if not b then y ∷ other_pages id ys else other_pages id ys) p
    choose true passes here rest =
        let same : y ≡ p = cc in
        record {
          front = [];
          back = ys;
          whole = ap (λ (q : KeptPage). q ∷ ys) same;
          rest =
              all_pass (λ (q : KeptPage). q.page.id.0 == id.0) ys
              (λ k d within. once 0 (suc k) d (omega arith) (omega arith) passes);
        }
    choose false fails here rest =
        let s = rest here in
        record {
          front = y ∷ s.front;
          back = s.back;
          whole = ap (λ (qs : List KeptPage). y ∷ qs) s.whole;
          rest = ap (λ (qs : List KeptPage). y ∷ qs) s.rest;
        }

pub any_split : (t : KeptPage → Bool) (ps others : List KeptPage) (p : KeptPage) → IsSplit ps others p
    → list_any t ps ≡ (t p || list_any t others)
any_split t ps others p s =
    ap (list_any t) s.whole ∙ list_any-append t s.front (p ∷ s.back)
    ∙ turned (list_any t s.front) (t p) (list_any t s.back)
    ∙ ap (λ b. t p || b) (sym (ap (list_any t) s.rest ∙ list_any-append t s.front s.back))
  where
    turned : (a b c : Bool) → (a || (b || c)) ≡ (b || (a || c))
    turned true true c = refl
    turned true false c = refl
    turned false true c = refl
    turned false false c = refl

pub length_split : (ps others : List KeptPage) (p : KeptPage) → IsSplit ps others p → length ps ≡ 1 + length others
length_split ps others p s =
    omega (
      arith,
      ap length s.whole,
      ap length s.rest,
      length-append s.front (p ∷ s.back),
      length-append s.front s.back,
    )

pub sum_split : (n : KeptPage → ℕ) (ps others : List KeptPage) (p : KeptPage) → IsSplit ps others p
    → sum_by n ps ≡ n p + sum_by n others
sum_split n ps others p s =
    omega (
      arith,
      ap (sum_by n) s.whole,
      ap (sum_by n) s.rest,
      sum_by-append n s.front (p ∷ s.back),
      sum_by-append n s.front s.back,
      sum_by-cons n p s.back,
    )

-- the URLs of pages
abbrev pub urls : List KeptPage → List (List ℕ)
urls ps = map (λ (p : KeptPage). p.page.url) ps

pub count_split : (ps others : List KeptPage) (p : KeptPage) → IsSplit ps others p
    → same_origin p.page.url p.page.url ≡ true
    → origin_count (urls ps)
    ≡ origin_count (urls others) + is_new (list_any (λ (q : KeptPage). same_origin p.page.url q.page.url) others)
count_split ps others p s own =
    let rest : urls others ≡ urls s.front ++ urls s.back =
    ap urls s.rest ∙ map-append (λ (q : KeptPage). q.page.url) s.front s.back in
    omega (
      arith,
      ap (λ (qs : List KeptPage). origin_count (urls qs)) s.whole,
      ap origin_count (map-append (λ (q : KeptPage). q.page.url) s.front (p ∷ s.back)),
      origins_without (urls s.front) (urls s.back) p.page.url own,
      ap origin_count rest,
      ap (λ us. is_new (list_any (same_origin p.page.url) us)) rest,
      ap is_new (list_any-map (same_origin p.page.url) (λ (q : KeptPage). q.page.url) others),
    )

-- ---- names

-- how many names are left of so many
abbrev pub names_left : Bool → ℕ → ℕ
names_left true names = names
names_left false names = names - 1

-- a page whose origin is named as is left
abbrev pub renamed : Bool → ℕ → Slot → KeptPage → KeptPage
renamed in_use last name p = record p { origin = name_left in_use last name p.origin }

-- no page of these has the name
abbrev pub IsFree : Slot → List KeptPage → Type 0
IsFree name ps = All (λ (q : KeptPage). q.origin.0 ≢ name.0) ps

-- the names of origins lie in range
abbrev pub AreWithin : ℕ → List KeptPage → Type 0
AreWithin origins ps = All (λ (p : KeptPage). (0 < p.origin.0) × (p.origin.0 ≤ origins)) ps

pub left_within : (name origin : Slot) (last : ℕ) → 0 < name.0 → name.0 ≤ last → origin.0 ≢ name.0
    → (0 < origin.0) × (origin.0 ≤ last)
    → (0 < (name_left false last name origin).0) × ((name_left false last name origin).0 ≤ last - 1)
left_within name origin last some within apart bounds = choose (origin.0 == last) refl
  where
    choose : (b : Bool) → (origin.0 == last) ≡ b
        → (0 < (if b then name else origin).0) × ((if b then name else origin).0 ≤ last - 1)
    choose true is =
        let number : origin.0 ≡ last = eqb-true origin.0 last is in
        let other : name.0 ≢ last = λ same. apart (number ∙ sym same) in
        (some, omega (arith, within, other))
    choose false is =
        let other : origin.0 ≢ last = λ same. false≢true (sym is ∙ eq-eqb origin.0 last same) in
        (bounds.0, omega (arith, bounds.1, other))

pub left_apart : (name a b : Slot) (last : ℕ) → a.0 ≢ name.0 → b.0 ≢ name.0
    → name_left false last name a ≡ name_left false last name b → a ≡ b
left_apart name a b last a_apart b_apart = choose (a.0 == last) (b.0 == last) refl refl
  where
    choose : (x y : Bool) → (a.0 == last) ≡ x → (b.0 == last) ≡ y
        → (if x then name else a) ≡ (if y then name else b) → a ≡ b
    choose true true at_a at_b same = same_slot a b (eqb-true a.0 last at_a ∙ sym (eqb-true b.0 last at_b))
    choose true false at_a at_b same = absurd (b_apart (ap (λ (s : Slot). s.0) (sym same)))
    choose false true at_a at_b same = absurd (a_apart (ap (λ (s : Slot). s.0) same))
    choose false false at_a at_b same = same

-- the name is in use among these pages
abbrev pub in_use : Slot → List KeptPage → Bool
in_use name ps = list_any (λ (q : KeptPage). q.origin.0 == name.0) ps

pub free : (name : Slot) (ps : List KeptPage) → in_use name ps ≡ false → IsFree name ps
free name ps none k d within same =
    false≢true (sym none
    ∙ list_any_at (λ (q : KeptPage). q.origin.0 == name.0) ps k d within
    (eq-eqb (get_or ps k d).origin.0 name.0 same))

-- a page of these passes one test where it passes another
pub any_where : (s t : KeptPage → Bool) (ps : List KeptPage) → All (λ (q : KeptPage). s q ≡ true → t q ≡ true) ps
    → list_any s ps ≡ true → list_any t ps ≡ true
any_where s t ps so some =
    let at = Any-from_list_any s ps some in
    list_any-from_Any t ps (
      at.0,
      at.1,
      at.2,
      at.3,
      subst (λ (q : KeptPage). s q ≡ true → t q ≡ true) at.3 (so at.0 at.1 at.2) at.4,
    )

pub found_holds : {X : Type 0} (t : X → Bool) (P : X → Type 0) (xs : List X) (x : X) → find t xs ≡ Some x → All P xs → P x
found_holds t P [] x found all = absurd (cc)
found_holds t P (y ∷ ys) x found all =
    choose (t y) found (λ rest. found_holds t P ys x rest (All-tail P y ys all))
  where
    choose : (b : Bool) → (if b then Some y else find t ys) ≡ Some x → (find t ys ≡ Some x → P x) → P x
    choose true here rest = let same : y ≡ x = cc in subst P same (All-head P y ys all)
    choose false here rest = rest here
