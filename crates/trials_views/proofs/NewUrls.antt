-- That no view has a URL.
use Rattle.std.proofs.Common.{◌≡◌, ◌≢◌, ◌∙◌, ◌++◌, ℕ, Bool, true, false, List, [], ◌∷◌, None, Some, bytes_eq, find}
use Rattle.std.proofs.Common.{if◌then◌else◌, refl, subst, sym}
use Rattle.std.specs.List.{AllByRecursion, AllPairs}
use Rattle.std.specs.Option.{option_map}
use Rattle.std.proofs.lemmas.Bool.{true≢false}
use Rattle.std.proofs.lemmas.List.Elements.{recursion_from_All}
use Rattle.std.proofs.lemmas.Slice.Eq.{bytes_eq-Decides}
use Rattle.pl_base.specs.declared.view.View.{View}
use Rattle.pl_follow.specs.Urls.{id_of_url}
use Rattle.pl_follow.proofs.ChangedLists.{parted_url}
use Rattle.trials_views.proofs.Between.{parted_between}

pub none_has : (url : List ℕ) (views : List View) → id_of_url url views ≡ None
    → AllByRecursion (λ (w : View). w.url ≢ url) views
none_has url [] is = tt
none_has url (v ∷ vs) is = choose (bytes_eq v.url url) refl is (none_has url vs)
  where
    choose : (b : Bool) → bytes_eq v.url url ≡ b
        → option_map (λ (w : View). w.id) (if b then Some v else find (λ (w : View). bytes_eq w.url url) vs) ≡ None
        → (id_of_url url vs ≡ None → AllByRecursion (λ (w : View). w.url ≢ url) vs)
        → (v.url ≢ url) × AllByRecursion (λ (w : View). w.url ≢ url) vs
    choose true same is rest = absurd (cc)
    choose false other is rest = (
      λ same. true≢false (sym ((bytes_eq-Decides v.url url).1 same) ∙ other),
      rest is,
    )

-- no other has that of the old one
pub others_differ : (front back : List View) (old : View) (url : List ℕ) → old.url ≡ url
    → AllPairs (λ (v w : View). v.url ≢ w.url) (front ++ old ∷ back)
    → AllByRecursion (λ (w : View). w.url ≢ url) (front ++ back)
others_differ front back old url same each =
    subst (λ (u : List ℕ). AllByRecursion (λ (w : View). w.url ≢ u) (front ++ back)) same
    (recursion_from_All (λ (w : View). w.url ≢ old.url) (front ++ back)
    (parted_url (front ++ old ∷ back) (front ++ back) old (parted_between front back old) each))
