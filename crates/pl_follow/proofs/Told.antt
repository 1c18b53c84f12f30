-- What a look-up tells of the views: of the one that passes a test, where one comes, goes, or takes another's place.
use Rattle.std.proofs.Common.{◌≡◌, ◌∙◌, ◌++◌, All, Bool, true, false, List, [], ◌∷◌, Option, Some, None, ap}
use Rattle.std.proofs.Common.{cond, find, if◌then◌else◌, refl, subst, sym}
use Rattle.std.specs.List.{AllByRecursion}
use Rattle.std.specs.Option.{option_map}
use Rattle.std.proofs.lemmas.List.Elements.{recursion_from_All}
use Rattle.pl_base.specs.declared.view.View.{View}
use Rattle.pl_base.proofs.LookUps.{front}
use Rattle.pl_follow.proofs.Parted.{Parted}

-- what is told of the first view that passes the test
abbrev pub told : {B : Type 0} → (View → Bool) → (View → B) → List View → Option B
told test f views = option_map f (find test views)

-- no view passes the test
abbrev NonePass : (View → Bool) → List View → Type 0
NonePass test views = AllByRecursion (λ (w : View). test w ≡ false) views

-- where a view passes the test, none of the others does
abbrev pub IsOnly : (View → Bool) → View → List View → Type 0
IsOnly test view others = test view ≡ true → All (λ (w : View). test w ≡ false) others

none_pass : (test : View → Bool) (others : List View) (view : View) → IsOnly test view others → test view ≡ true
    → NonePass test others
none_pass test others view only passes = recursion_from_All (λ (w : View). test w ≡ false) others (only passes)

none_found : (test : View → Bool) (views : List View) → NonePass test views → find test views ≡ None
none_found test [] none = refl
none_found test (v ∷ vs) none = rw none.0 (none_found test vs none.1)

pub parted_find : (test : View → Bool) (views others : List View) (view : View) → Parted views view others
    → IsOnly test view others → find test views ≡ (if test view then Some view else find test others)
parted_find test views others view p only = ap (find test) p.whole ∙ choose (test view) refl
  where
    skipped : (vs : List View) → NonePass test vs → test view ≡ true → find test (vs ++ view ∷ p.back) ≡ Some view
    skipped [] none is = rw is refl
    skipped (v ∷ vs) none is = rw none.0 (skipped vs none.1 is)

    stays : (vs : List View) → test view ≡ false → find test (vs ++ view ∷ p.back) ≡ find test (vs ++ p.back)
    stays [] fails = rw fails refl
    stays (v ∷ vs) fails = ap (λ (r : Option View). if test v then Some v else r) (stays vs fails)

    choose : (b : Bool) → test view ≡ b
        → find test (p.front ++ view ∷ p.back) ≡ (if b then Some view else find test others)
    choose true is =
        let none : NonePass test (p.front ++ p.back) =
        subst (NonePass test) p.rest (none_pass test others view only is) in
        skipped p.front (front (λ (w : View). test w ≡ false) p.front p.back none) is
    choose false fails = stays p.front fails ∙ ap (find test) (sym p.rest)

-- where a view passes the test, none of the others is found
pub none_told : {B : Type 0} (test : View → Bool) (f : View → B) (others : List View) (view : View)
    → IsOnly test view others → test view ≡ true → told test f others ≡ None
none_told test f others view only passes =
    ap (option_map f) (none_found test others (none_pass test others view only passes))

-- a view goes
pub told_others : {B : Type 0} (test : View → Bool) (f : View → B) (views others : List View) (view : View)
    (before after : Option B) → Parted views view others → IsOnly test view others → before ≡ told test f views
    → after ≡ cond (test view) None before → after ≡ told test f others
told_others {B} test f views others view before after p only tells is =
    is ∙ ap (cond (test view) None) (tells ∙ ap (option_map f) (parted_find test views others view p only))
    ∙ choose (test view) refl
  where
    choose : (b : Bool) → test view ≡ b
        → cond b None (option_map f (if b then Some view else find test others)) ≡ told test f others
    choose true passes = ap (option_map f) (sym (none_found test others (none_pass test others view only passes)))
    choose false fails = refl

-- a view comes
pub told_with : {B : Type 0} (test : View → Bool) (f : View → B) (views others : List View) (view : View)
    (before after : Option B) → Parted views view others → IsOnly test view others → before ≡ told test f others
    → after ≡ cond (test view) (Some (f view)) before → after ≡ told test f views
told_with {B} test f views others view before after p only tells is =
    is ∙ ap (cond (test view) (Some (f view))) tells ∙ choose (test view)
    ∙ sym (ap (option_map f) (parted_find test views others view p only))
  where
    choose : (b : Bool) → cond b (Some (f view)) (told test f others)
        ≡ option_map f (if b then Some view else find test others)
    choose true = refl
    choose false = refl

-- a view takes the place of one of which the same is told
pub told_same : {B : Type 0} (test : View → Bool) (f : View → B) (views others changed : List View) (old new : View)
    → Parted views old others → Parted changed new others → IsOnly test old others → IsOnly test new others
    → test old ≡ test new → f old ≡ f new → told test f views ≡ told test f changed
told_same {B} test f views others changed old new p q only_old only_new tests gives =
    ap (option_map f) (parted_find test views others old p only_old) ∙ choose (test old)
    ∙ ap (λ (b : Bool). option_map f (if b then Some new else find test others)) tests
    ∙ sym (ap (option_map f) (parted_find test changed others new q only_new))
  where
    choose : (b : Bool) → option_map f (if b then Some old else find test others)
        ≡ option_map f (if b then Some new else find test others)
    choose true = ap (λ (y : B). Some y) gives
    choose false = refl
