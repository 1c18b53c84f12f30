-- A view that comes between others, or goes from between them.
use Rattle.std.proofs.Common.{◌≡◌, ◌≢◌, ◌∙◌, ◌<◌, ◌++◌, ◌==◌, Bool, true, false, List, [], ◌∷◌}
use Rattle.std.proofs.Common.{None, Some, ap, arith, eq-eqb, if◌then◌else◌, length, nat_eq, nat_lt, not, refl, subst}
use Rattle.std.proofs.Common.{sym}
use Rattle.std.specs.List.{AllByRecursion, Contains, starts_with}
use Rattle.std.proofs.Math.Seq.{get_or-append_seam}
use Rattle.std.proofs.lemmas.Bool.{ne_eqb}
use Rattle.std.proofs.lemmas.Bool.Decides.{nat_tests}
use Rattle.std.proofs.lemmas.List.{length-append}
use Rattle.std.proofs.lemmas.List.Elements.{All-from_recursion, recursion_from_All}
use Rattle.std.proofs.lemmas.List.Folds.{list_any_none}
use Rattle.pl_base.specs.declared.view.View.{View}
use Rattle.pl_base.specs.Totals.{share}
use Rattle.pl_base.proofs.ListLaws.{all_stay, weaker}
use Rattle.pl_follow.specs.Changes.{AreInOrder, FitStore, Suits, has_view, with_view, without_id}
use Rattle.pl_follow.proofs.ChangedLists.{Pairs, all_pairs, all_with, others_fit, pairs}
use Rattle.pl_follow.proofs.Parted.{Ascend, Parted, added_parted, ascend, parted_length, parted_sum}
use Rattle.trials_views.specs.Books.{MayCome}

-- ---- where a view comes and goes

pub comes_between : (front back : List View) (new : View) → MayCome new front back
    → with_view new (front ++ back) ≡ front ++ new ∷ back
comes_between front back new may = between front back may.below may.above
  where
    first : (back : List View) → AllByRecursion (λ (w : View). new.id.0 < w.id.0) back
        → with_view new back ≡ new ∷ back
    first [] above = refl
    first (w ∷ back) above = choose (nat_lt new.id.0 w.id.0) refl
      where
        choose : (b : Bool) → nat_lt new.id.0 w.id.0 ≡ b
            → (if b then new ∷ w ∷ back else w ∷ with_view new back) ≡ new ∷ w ∷ back
        choose true is = refl
        choose false is = absurd (grind (arith, nat_tests, above.0))

    between : (front back : List View) → AllByRecursion (λ (w : View). w.id.0 < new.id.0) front
        → AllByRecursion (λ (w : View). new.id.0 < w.id.0) back → with_view new (front ++ back) ≡ front ++ new ∷ back
    between [] back below above = first back above
    between (v ∷ front) back below above =
        choose (nat_lt new.id.0 v.id.0) refl (between front back below.1 above)
      where
        choose : (b : Bool) → nat_lt new.id.0 v.id.0 ≡ b → with_view new (front ++ back) ≡ front ++ new ∷ back
            → (if b then new ∷ v ∷ (front ++ back) else v ∷ with_view new (front ++ back)) ≡ v ∷ (front ++ new ∷ back)
        choose true is rest = absurd (grind (arith, nat_tests, below.0))
        choose false is rest = ap (λ (vs : List View). v ∷ vs) rest

pub goes_from : (front back : List View) (old : View) → AreInOrder (front ++ old ∷ back)
    → without_id old.id (front ++ old ∷ back) ≡ front ++ back
goes_from front back old ordered = from front (ascend (front ++ old ∷ back) ordered)
  where
    last : Ascend (old ∷ back) → without_id old.id (old ∷ back) ≡ back
    last a =
        ap (λ b. if not b then old ∷ without_id old.id back else without_id old.id back) (eq-eqb old.id.0 old.id.0 refl)
        ∙ all_stay (λ (v : View). not (v.id.0 == old.id.0)) back
        (weaker (λ (w : View). old.id.0 < w.id.0) (λ (w : View). not (w.id.0 == old.id.0) ≡ true) back
        (λ w below. ap not (ne_eqb w.id.0 old.id.0 (λ same. absurd (omega (arith, below, same))))) a.0)

    ahead : (v : View) (front : List View) → AllByRecursion (λ (w : View). v.id.0 < w.id.0) (front ++ old ∷ back)
        → v.id.0 < old.id.0
    ahead v [] all = all.0
    ahead v (w ∷ front) all = ahead v front all.1

    from : (front : List View) → Ascend (front ++ old ∷ back)
        → without_id old.id (front ++ old ∷ back) ≡ front ++ back
    from [] a = last a
    from (v ∷ front) a =
        let below : v.id.0 < old.id.0 = ahead v front a.0 in
        ap (λ b. if not b then v ∷ without_id old.id (front ++ old ∷ back) else without_id old.id (front ++ old ∷ back))
        (ne_eqb v.id.0 old.id.0 (λ same. absurd (omega (arith, below, same))))
        ∙ ap (λ (vs : List View). v ∷ vs) (from front a.1)

pub parted_between : (front back : List View) (view : View) → Parted (front ++ view ∷ back) view (front ++ back)
parted_between front back view = record { front = front; back = back; whole = refl; rest = refl }

pub is_between : (front back : List View) (view : View) → Contains (front ++ view ∷ back) view
is_between front back view = (
  length front,
  omega (arith, length-append front (view ∷ back)),
  get_or-append_seam front view back view,
)

pub has_none : (front back : List View) (new : View) → MayCome new front back
    → has_view new.id (front ++ back) ≡ false
has_none front back new may =
    list_any_none (λ (w : View). w.id.0 == new.id.0) (front ++ back)
    (All-from_recursion (λ (w : View). (w.id.0 == new.id.0) ≡ false) (front ++ back) (both front may.below))
  where
    both : (front : List View) → AllByRecursion (λ (w : View). w.id.0 < new.id.0) front
        → AllByRecursion (λ (w : View). (w.id.0 == new.id.0) ≡ false) (front ++ back)
    both [] below =
        weaker (λ (w : View). new.id.0 < w.id.0) (λ (w : View). (w.id.0 == new.id.0) ≡ false) back
        (λ w above. ne_eqb w.id.0 new.id.0 (λ same. absurd (omega (arith, above, same)))) may.above
    both (v ∷ front) below = (
      ne_eqb v.id.0 new.id.0 (λ same. absurd (omega (arith, below.0, same))),
      both front below.1,
    )

-- ---- what holds of the views with one more

abbrev Differ : List View → Type 0
Differ views = Pairs (λ (v w : View). v.url ≢ w.url) views

differ_with : (view : View) (views : List View) → AllByRecursion (λ (w : View). w.url ≢ view.url) views → Differ views
    → Differ (with_view view views)
differ_with view [] fresh each = (tt, tt)
differ_with view (v ∷ vs) fresh each =
    choose (nat_lt view.id.0 v.id.0) (differ_with view vs fresh.1 each.1)
  where
    choose : (b : Bool) → Differ (with_view view vs) → Differ (if b then view ∷ v ∷ vs else v ∷ with_view view vs)
    choose true rest = (
      weaker (λ (w : View). w.url ≢ view.url) (λ (w : View). view.url ≢ w.url) (v ∷ vs)
          (λ w other same. other (sym same)) fresh,
      each,
    )
    choose false rest = (all_with (λ (w : View). v.url ≢ w.url) view vs fresh.0 each.0, rest)

pub with_it_fits : (front back : List View) (new : View) → FitStore (front ++ back) → MayCome new front back
    → FitStore (with_view new (front ++ back))
with_it_fits front back new are may =
    let others : List View = front ++ back in
    let p : Parted (with_view new others) new others = added_parted new others in
    record {
      urls =
          all_pairs (λ (v w : View). v.url ≢ w.url) (with_view new others)
          (differ_with new others may.fresh (pairs (λ (v w : View). v.url ≢ w.url) others are.urls));
      prefixes =
          All-from_recursion (λ (v : View). starts_with nat_eq v.url v.prefix ≡ true) (with_view new others)
          (all_with (λ (v : View). starts_with nat_eq v.url v.prefix ≡ true) new others may.prefix
          (recursion_from_All (λ (v : View). starts_with nat_eq v.url v.prefix ≡ true) others are.prefixes));
      few = omega (arith, may.few, parted_length (with_view new others) others new p);
      sum = omega (arith, may.sum, parted_sum (λ (v : View). share v.frecency) (with_view new others) others new p);
    }

-- ---- which changes suit

pub suits_come : (front back : List View) (new : View) → FitStore (front ++ back) → MayCome new front back
    → Suits None (Some new) (front ++ back)
suits_come front back new are may =
    record {
      some = refl;
      goes = tt;
      comes = has_none front back new may;
      becomes = with_it_fits front back new are may;
    }

pub suits_go : (front back : List View) (old : View) → AreInOrder (front ++ old ∷ back) → FitStore (front ++ old ∷ back)
    → Suits (Some old) None (front ++ old ∷ back)
suits_go front back old ordered are =
    record {
      some = refl;
      goes = is_between front back old;
      comes = tt;
      becomes =
          subst FitStore (sym (goes_from front back old ordered))
          (others_fit (front ++ old ∷ back) (front ++ back) old (parted_between front back old) are);
    }

pub suits_turn : (front back : List View) (old new : View) → AreInOrder (front ++ old ∷ back)
    → FitStore (front ++ old ∷ back) → MayCome new front back → Suits (Some old) (Some new) (front ++ old ∷ back)
suits_turn front back old new ordered are may =
    let gone : without_id old.id (front ++ old ∷ back) ≡ front ++ back = goes_from front back old ordered in
    record {
      some = refl;
      goes = is_between front back old;
      comes = ap (λ (vs : List View). has_view new.id vs) gone ∙ has_none front back new may;
      becomes =
          subst (λ (vs : List View). FitStore (with_view new vs)) (sym gone)
          (with_it_fits front back new
          (others_fit (front ++ old ∷ back) (front ++ back) old (parted_between front back old) are) may);
    }
