-- A page whose due day has come is one that the definition counts.
use Rattle.std.proofs.Common.{◌≡◌, ◌∙◌, ◌==◌, ◌+◌, ◌-◌, ◌<◌, ◌≤◌, ◌||◌, Bool, true, false, ℕ}
use Rattle.std.proofs.Common.{Option, Some, None, ap, arith, map, nat_le, refl, subst, suc, zero}
use Rattle.std.specs.Option.{option_map_or}
use Rattle.std.proofs.Math.Bool.{or-true}
use Rattle.std.proofs.lemmas.Bool.{false≢true}
use Rattle.std.proofs.lemmas.Bool.Decides.{nat_tests}
use Rattle.pl_base.specs.declared.date.Day.{Day}
use Rattle.pl_base.specs.Due.{IsDue, some_weighs_anew}
use Rattle.pl_base.specs.Store.{Page, Store, Visit}
use Rattle.pl_base.specs.Visits.{sample_of}
use Rattle.pl_visiting.specs.NewDay.{is_page_due, weighs_anew_within}

-- a day among so many behind the store's on which a sampled visit weighs anew
anew_within : (n day : ℕ) (store : Store) (p : Page) → store.day.0 < day → day ≤ store.day.0 + n
    → some_weighs_anew (map (λ (v : Visit). v.date) (sample_of store p.id)) day ≡ true
    → weighs_anew_within n store p ≡ true
anew_within zero day store p later within anew = absurd (omega arith)
anew_within (suc n) day store p later within anew =
    choose (day == store.day.0 + suc n) refl (λ near. anew_within n day store p later near anew)
  where
    anew_on : ℕ → Bool
    anew_on d = some_weighs_anew (map (λ (v : Visit). v.date) (sample_of store p.id)) d

    choose : (b : Bool) → (day == store.day.0 + suc n) ≡ b
        → (day ≤ store.day.0 + n → weighs_anew_within n store p ≡ true)
        → weighs_anew_within (suc n) store p ≡ true
    choose true same nearer =
        ap (λ (t : Bool). t || weighs_anew_within n store p)
        (subst (λ (d : ℕ). anew_on d ≡ true) (grind (arith, nat_tests)) anew)
    choose false other nearer =
        ap (λ (t : Bool). anew_on (store.day.0 + suc n) || t) (nearer (grind (arith, nat_tests)))
        ∙ or-true (anew_on (store.day.0 + suc n))

pub due_by_day : (day : Day) (store : Store) (p : Page) (due : Option Day) → IsDue store p.id due
    → option_map_or (λ (d : Day). nat_le d.0 day.0) due false ≡ true → is_page_due day store p ≡ true
due_by_day day store p None is by = absurd (false≢true by)
due_by_day day store p (Some d) is by =
    let come : d.0 ≤ day.0 = grind (arith, nat_tests) in
    anew_within (day.0 - store.day.0) d.0 store p is.later (omega (arith, come, is.later)) is.found
