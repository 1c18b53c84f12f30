-- What a list of views tells of an id.
use Rattle.std.proofs.Common.{◌≡◌, ◌≢◌, ◌∙◌, ◌<◌, ◌==◌, ◌⊎◌, inl, inr, ℕ, Bool, true, false, List, [], ◌∷◌, Option}
use Rattle.std.proofs.Common.{Some, None, ap, arith, eq-eqb, filter, find, if◌then◌else◌, refl, subst, sym}
use Rattle.std.specs.List.{AllByRecursion}
use Rattle.std.proofs.lemmas.Bool.{cases_eq, false≢true, ne_eqb}
use Rattle.pl_base.specs.declared.id.PageId.{PageId}
use Rattle.pl_base.specs.declared.view.View.{View}
use Rattle.pl_base.proofs.Among.{In, at_in}
use Rattle.pl_base.proofs.ListLaws.{found_in}
use Rattle.pl_base.proofs.Truths.{no_test}
use Rattle.pl_follow.specs.Changes.{has_view, with_view, without_id}
use Rattle.pl_follow.proofs.Parted.{Ascend}
use Rattle.pl_known.proofs.ViewLookUps.{view_added, view_removed}

-- the view with this id
abbrev pub seen : ℕ → List View → Option View
seen n views = find (λ (v : View). v.id.0 == n) views

seen_head : (v : View) (vs : List View) → seen v.id.0 (v ∷ vs) ≡ Some v
seen_head v vs = ap (λ (b : Bool). if b then Some v else seen v.id.0 vs) (eq-eqb v.id.0 v.id.0 refl)

seen_past : (n : ℕ) (v : View) (vs : List View) → v.id.0 ≢ n → seen n (v ∷ vs) ≡ seen n vs
seen_past n v vs other = ap (λ (b : Bool). if b then Some v else seen n vs) (ne_eqb v.id.0 n other)

pub none_seen : (n : ℕ) (vs : List View) → AllByRecursion (λ (v : View). v.id.0 ≢ n) vs → seen n vs ≡ None
none_seen n [] others = refl
none_seen n (v ∷ vs) others = seen_past n v vs others.0 ∙ none_seen n vs others.1

pub seen_in : (n : ℕ) (vs : List View) (v : View) → seen n vs ≡ Some v → In v vs × (v.id.0 ≡ n)
seen_in n [] v found = absurd (cc)
seen_in n (w ∷ vs) v found = choose (cases_eq w.id.0 n) (seen_in n vs v)
  where
    choose : (w.id.0 ≡ n) ⊎ (w.id.0 ≢ n) → (seen n vs ≡ Some v → In v vs × (v.id.0 ≡ n))
        → In v (w ∷ vs) × (v.id.0 ≡ n)
    choose (inl same) rest =
        let here : Some w ≡ Some v =
        sym (seen_head w vs) ∙ ap (λ (m : ℕ). seen m (w ∷ vs)) same ∙ found in
        let is : w ≡ v = cc in
        (inl (sym is), ap (λ (x : View). x.id.0) (sym is) ∙ same)
    choose (inr other) rest =
        let later = rest (sym (seen_past n w vs other) ∙ found) in
        (inr later.0, later.1)

pub in_seen : (vs : List View) → Ascend vs → (v : View) → In v vs → seen v.id.0 vs ≡ Some v
in_seen [] a v h = absurd h
in_seen (w ∷ vs) a v (inl e) = subst (λ (x : View). seen x.id.0 (w ∷ vs) ≡ Some x) (sym e) (seen_head w vs)
in_seen (w ∷ vs) a v (inr h) =
    let later : w.id.0 < v.id.0 = at_in (λ (x : View). w.id.0 < x.id.0) vs v a.0 h in
    seen_past v.id.0 w vs (λ same. omega (arith, later, same)) ∙ in_seen vs a.1 v h

-- ---- what a list tells of part of the ids

pub seen_kept : (test : ℕ → Bool) (n : ℕ) (vs : List View) → test n ≡ true
    → seen n (filter (λ (v : View). test v.id.0) vs) ≡ seen n vs
seen_kept test n [] passes = refl
seen_kept test n (v ∷ vs) passes = choose (test v.id.0) refl (seen_kept test n vs passes)
  where
    choose : (b : Bool) → test v.id.0 ≡ b → seen n (filter (λ (w : View). test w.id.0) vs) ≡ seen n vs
        → seen n (if b then v ∷ filter (λ (w : View). test w.id.0) vs else filter (λ (w : View). test w.id.0) vs)
        ≡ seen n (v ∷ vs)
    choose true is rest = ap (λ (o : Option View). if v.id.0 == n then Some v else o) rest
    choose false is rest =
        rest ∙ sym (seen_past n v vs (λ same. false≢true (sym is ∙ ap test same ∙ passes)))

pub seen_dropped : (test : ℕ → Bool) (n : ℕ) (vs : List View) → test n ≡ false
    → seen n (filter (λ (v : View). test v.id.0) vs) ≡ None
seen_dropped test n [] fails = refl
seen_dropped test n (v ∷ vs) fails = choose (test v.id.0) refl (seen_dropped test n vs fails)
  where
    choose : (b : Bool) → test v.id.0 ≡ b → seen n (filter (λ (w : View). test w.id.0) vs) ≡ None
        → seen n (if b then v ∷ filter (λ (w : View). test w.id.0) vs else filter (λ (w : View). test w.id.0) vs)
        ≡ None
    choose true is rest =
        seen_past n v (filter (λ (w : View). test w.id.0) vs)
        (λ same. false≢true (sym fails ∙ sym (ap test same) ∙ is))
        ∙ rest
    choose false is rest = rest

-- ---- a view that goes, and one that comes

pub without_seen : (id : PageId) (vs : List View) → seen id.0 (without_id id vs) ≡ None
without_seen id vs =
    view_removed id id vs ∙ ap (λ (b : Bool). if b then None else seen id.0 vs) (eq-eqb id.0 id.0 refl)

pub without_other : (id : PageId) (n : ℕ) (vs : List View) → n ≢ id.0 → seen n (without_id id vs) ≡ seen n vs
without_other id n vs other =
    view_removed id (record { 0 = n }) vs ∙ ap (λ (b : Bool). if b then None else seen n vs) (ne_eqb n id.0 other)

pub with_seen : (view : View) (vs : List View) → has_view view.id vs ≡ false
    → seen view.id.0 (with_view view vs) ≡ Some view
with_seen view vs none =
    view_added view view.id vs none
    ∙ ap (λ (b : Bool). if b then Some view else seen view.id.0 vs) (eq-eqb view.id.0 view.id.0 refl)

pub with_other : (view : View) (n : ℕ) (vs : List View) → has_view view.id vs ≡ false → view.id.0 ≢ n
    → seen n (with_view view vs) ≡ seen n vs
with_other view n vs none other =
    view_added view (record { 0 = n }) vs none
    ∙ ap (λ (b : Bool). if b then Some view else seen n vs) (ne_eqb view.id.0 n other)

pub no_view : (id : PageId) (vs : List View) → seen id.0 vs ≡ None → has_view id vs ≡ false
no_view id vs none =
    no_test (has_view id vs) (λ some.
    let found = found_in (λ (v : View). v.id.0 == id.0) vs some in
    absurd (cc))
