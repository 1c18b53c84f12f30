-- Views in order, in front of a place and behind it.
use Rattle.std.proofs.Common.{◌≡◌, ◌∙◌, ◌+◌, ◌-◌, ◌<◌, ◌≤◌, ◌++◌, ℕ, Bool, List, ◌∷◌, ap, arith, drop, false}
use Rattle.std.proofs.Common.{get_or, length}
use Rattle.std.proofs.Common.{nat_lt, refl, subst, sym, take, true}
use Rattle.std.specs.List.{AllByRecursion}
use Rattle.std.proofs.lemmas.Bool.Decides.{nat_tests}
use Rattle.std.proofs.lemmas.List.{drop_more, get_or-drop, get_or-take, get_or_default, length-drop, length-take}
use Rattle.std.proofs.lemmas.List.{take-append-drop}
use Rattle.std.proofs.lemmas.List.Elements.{recursion_from_All}
use Rattle.pl_base.specs.declared.view.View.{View}
use Rattle.pl_follow.specs.Changes.{AreInOrder}

-- no id is greater than one further on
up_to : (views : List View) (i j : ℕ) (d : View) → AreInOrder views → i ≤ j → j < length views
    → (get_or views i d).id.0 ≤ (get_or views j d).id.0
up_to views i j d ordered upward within = choose (nat_lt i j) refl
  where
    choose : (b : Bool) → nat_lt i j ≡ b → (get_or views i d).id.0 ≤ (get_or views j d).id.0
    choose true is = omega (arith, ordered i j d (grind (arith, nat_tests)) within)
    choose false is =
        let same : i ≡ j = grind (arith, nat_tests) in
        subst (λ n. (get_or views i d).id.0 ≤ (get_or views n d).id.0) same (omega arith)

pub all_behind : (views : List View) (count id : ℕ) (last : View) → AreInOrder views → count ≤ length views → 0 < count
    → get_or views (count - 1) last ≡ last → last.id.0 < id
    → AllByRecursion (λ (w : View). w.id.0 < id) (take count views)
all_behind views count id last ordered within some is below =
    recursion_from_All (λ (w : View). w.id.0 < id) (take count views) (λ k d inside.
    let near : k < count = omega (arith, inside, length-take count views) in
    let here : get_or views (count - 1) d ≡ last =
    get_or_default views (count - 1) d last (omega (arith, within, some)) ∙ is in
    let later : (get_or views k d).id.0 ≤ (get_or views (count - 1) d).id.0 =
    up_to views k (count - 1) d ordered (omega (arith, near)) (omega (arith, within, some)) in
    subst (λ (w : View). w.id.0 < id) (sym (get_or-take count views k d near))
    (omega (arith, later, ap (λ (w : View). w.id.0) here, below)))

pub all_before : (views : List View) (place id : ℕ) (first : View) → AreInOrder views → place < length views
    → get_or views place first ≡ first → id < first.id.0
    → AllByRecursion (λ (w : View). id < w.id.0) (drop place views)
all_before views place id first ordered within is above =
    recursion_from_All (λ (w : View). id < w.id.0) (drop place views) (λ k d inside.
    let there : place + k < length views = omega (arith, inside, length-drop place views) in
    let here : get_or views place d ≡ first = get_or_default views place d first within ∙ is in
    let later : (get_or views place d).id.0 ≤ (get_or views (place + k) d).id.0 =
    up_to views place (place + k) d ordered (omega arith) there in
    subst (λ (w : View). id < w.id.0) (sym (get_or-drop place views k d))
    (omega (arith, later, ap (λ (w : View). w.id.0) here, above)))

pub parts : (views : List View) (place : ℕ) (view : View) → place < length views → get_or views place view ≡ view
    → views ≡ take place views ++ view ∷ drop (place + 1) views
parts views place view within is =
    sym (take-append-drop place views)
    ∙ ap (λ (vs : List View). take place views ++ vs)
    (drop_more views place view within ∙ ap (λ (v : View). v ∷ drop (place + 1) views) is)
