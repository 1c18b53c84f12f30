-- What look-ups by id tell of views in order: that they tell the list, and what a change makes of
-- them.
use Rattle.std.proofs.Common.{◌≡◌, ◌<◌, ◌==◌, ◌∙◌, ℕ, Bool, true, false, List, [], ◌∷◌, All, Some, None}
use Rattle.std.proofs.Common.{ap, arith, eq-eqb, eqb-true, filter, if◌then◌else◌, nat_lt, not, refl, subst, sym}
use Rattle.std.specs.List.{AllByRecursion}
use Rattle.std.proofs.lemmas.Bool.{ne_eqb}
use Rattle.std.proofs.lemmas.Bool.Decides.{nat_tests}
use Rattle.pl_base.specs.declared.id.PageId.{PageId}
use Rattle.pl_base.specs.declared.view.View.{View}
use Rattle.pl_base.proofs.ListLaws.{weaker}
use Rattle.pl_base.proofs.LookUps.{none_at}
use Rattle.pl_follow.specs.Changes.{AreInOrder, has_view, with_view, without_id}
use Rattle.pl_follow.proofs.Parted.{Ascend, added_parted, ascend}
use Rattle.pl_follow.proofs.Told.{IsOnly, parted_find}
use Rattle.pl_known.specs.Known.{view_of}

-- ---- the look-ups tell the views

-- none of these has an id that is less than theirs
pub none_above : (id : PageId) (views : List View) → AllByRecursion (λ (w : View). id.0 < w.id.0) views
    → view_of id views ≡ None
none_above id [] above = refl
none_above id (v ∷ vs) above =
    ap (λ (b : Bool). if b then Some v else view_of id vs)
    (ne_eqb v.id.0 id.0 (λ same. absurd (omega (arith, above.0, same))))
    ∙ none_above id vs above.1

-- the first is found by its own id
first_found : (v : View) (vs : List View) → view_of v.id (v ∷ vs) ≡ Some v
first_found v vs = ap (λ (b : Bool). if b then Some v else view_of v.id vs) (eq-eqb v.id.0 v.id.0 refl)

-- the first of one list has no lesser id than that of another with the same look-ups
not_below : (x : View) (xs : List View) (y : View) (ys : List View) → AllByRecursion (λ (w : View). y.id.0 < w.id.0) ys
    → ((id : PageId) → view_of id (x ∷ xs) ≡ view_of id (y ∷ ys)) → nat_lt x.id.0 y.id.0 ≡ false
not_below x xs y ys above tells = choose (nat_lt x.id.0 y.id.0) refl
  where
    choose : (b : Bool) → nat_lt x.id.0 y.id.0 ≡ b → b ≡ false
    choose false is = refl
    choose true is =
        let less : x.id.0 < y.id.0 = grind (arith, nat_tests) in
        let none : view_of x.id (y ∷ ys) ≡ None =
        none_above x.id (y ∷ ys) (
          less,
          weaker (λ (w : View). y.id.0 < w.id.0) (λ (w : View). x.id.0 < w.id.0) ys
              (λ w later. omega (arith, less, later)) above,
        ) in
        let both : Some x ≡ None = sym (first_found x xs) ∙ tells x.id ∙ none in
        absurd (cc)

same : (xs ys : List View) → Ascend xs → Ascend ys → ((id : PageId) → view_of id xs ≡ view_of id ys) → xs ≡ ys
same [] [] a b tells = refl
same [] (y ∷ ys) a b tells =
    let both : None ≡ Some y = tells y.id ∙ first_found y ys in
    absurd (cc)
same (x ∷ xs) [] a b tells =
    let both : Some x ≡ None = sym (first_found x xs) ∙ tells x.id in
    absurd (cc)
same (x ∷ xs) (y ∷ ys) a b tells = joined first (same xs ys a.1 b.1 rest)
  where
    ids : x.id.0 ≡ y.id.0
    ids =
        let up = not_below x xs y ys b.0 tells in
        let down = not_below y ys x xs a.0 (λ id. sym (tells id)) in
        grind (arith, nat_tests, up, down)

    first : x ≡ y
    first =
        let found : Some x ≡ Some y =
        sym (first_found x xs) ∙ tells x.id
        ∙ ap (λ (b : Bool). if b then Some y else view_of x.id ys) (eq-eqb y.id.0 x.id.0 (sym ids)) in
        cc

    rest : (id : PageId) → view_of id xs ≡ view_of id ys
    rest id = choose (x.id.0 == id.0) refl
      where
        choose : (b : Bool) → (x.id.0 == id.0) ≡ b → view_of id xs ≡ view_of id ys
        choose true is =
            let here : x.id.0 ≡ id.0 = eqb-true x.id.0 id.0 is in
            none_above id xs (subst (λ n. AllByRecursion (λ (w : View). n < w.id.0) xs) here a.0)
            ∙ sym (none_above id ys (subst (λ n. AllByRecursion (λ (w : View). n < w.id.0) ys) (sym ids ∙ here) b.0))
        choose false is =
            ap (λ (b : Bool). if b then Some x else view_of id xs) (sym is) ∙ tells id
            ∙ ap (λ n. if n == id.0 then Some y else view_of id ys) (sym ids)
            ∙ ap (λ (b : Bool). if b then Some y else view_of id ys) is

    joined : x ≡ y → xs ≡ ys → x ∷ xs ≡ y ∷ ys
    joined one more = ap (λ (v : View). v ∷ xs) one ∙ ap (λ (vs : List View). y ∷ vs) more

-- two lists in order are the same if each id has the same view in both
pub same_views : (xs ys : List View) → AreInOrder xs → AreInOrder ys
    → ((id : PageId) → view_of id xs ≡ view_of id ys) → xs ≡ ys
same_views xs ys a b tells = same xs ys (ascend xs a) (ascend ys b) tells

-- ---- what look-ups tell where views go and come

-- the pages go that have such an id
pub view_kept : (gone : ℕ → Bool) (id : PageId) (views : List View)
    → view_of id (filter (λ (v : View). not (gone v.id.0)) views) ≡ (if gone id.0 then None else view_of id views)
view_kept gone id [] = choose (gone id.0)
  where
    choose : (b : Bool) → None ≡ (if b then None else view_of id [])
    choose true = refl
    choose false = refl
view_kept gone id (v ∷ vs) = choose (v.id.0 == id.0) refl (gone v.id.0) refl (view_kept gone id vs)
  where
    left : List View
    left = filter (λ (w : View). not (gone w.id.0)) vs

    choose : (here : Bool) → (v.id.0 == id.0) ≡ here → (goes : Bool) → gone v.id.0 ≡ goes
        → view_of id left ≡ (if gone id.0 then None else view_of id vs)
        → view_of id (if not goes then v ∷ left else left)
        ≡ (if gone id.0 then None else if here then Some v else view_of id vs)
    choose true here true goes rest =
        let gone_here : gone id.0 ≡ true = ap gone (sym (eqb-true v.id.0 id.0 here)) ∙ goes in
        rest ∙ ap (λ (b : Bool). if b then None else view_of id vs) gone_here
        ∙ sym (ap (λ (b : Bool). if b then None else Some v) gone_here)
    choose true here false stays rest =
        let stays_here : gone id.0 ≡ false = ap gone (sym (eqb-true v.id.0 id.0 here)) ∙ stays in
        ap (λ (b : Bool). if b then Some v else view_of id left) here
        ∙ sym (ap (λ (b : Bool). if b then None else Some v) stays_here)
    choose false other true goes rest = rest
    choose false other false stays rest =
        ap (λ (b : Bool). if b then Some v else view_of id left) other ∙ rest

-- a view goes
pub view_removed : (gone : PageId) (id : PageId) (views : List View)
    → view_of id (without_id gone views) ≡ (if id.0 == gone.0 then None else view_of id views)
view_removed gone id views = view_kept (λ n. n == gone.0) id views

-- a view comes
pub view_added : (new : View) (id : PageId) (views : List View) → has_view new.id views ≡ false
    → view_of id (with_view new views) ≡ (if new.id.0 == id.0 then Some new else view_of id views)
view_added new id views none =
    parted_find (λ (v : View). v.id.0 == id.0) (with_view new views) views new (added_parted new views) only
  where
    only : IsOnly (λ (v : View). v.id.0 == id.0) new views
    only is =
        subst (λ n. All (λ (v : View). (v.id.0 == n) ≡ false) views) (eqb-true new.id.0 id.0 is)
        (none_at (λ (v : View). v.id.0 == new.id.0) views none)
