-- A view that comes to a list at a place, goes from it there, or turns into another.
use Rattle.std.proofs.Common.{◌≡◌, ◌≢◌, ◌∙◌, ◌+◌, ◌-◌, ◌<◌, ◌++◌, ◌^◌, ℕ, List, ◌∷◌, None, Some, ap, arith}
use Rattle.std.proofs.Common.{drop, get_or}
use Rattle.std.proofs.Common.{length, nat_eq, refl, slice_set, subst, suc, sym, take, true}
use Rattle.std.specs.List.{AllByRecursion, insert, remove, starts_with}
use Rattle.std.proofs.lemmas.List.{drop-set, take-append-drop, take-set}
use Rattle.pl_base.specs.declared.view.View.{View}
use Rattle.pl_base.specs.Totals.{share}
use Rattle.pl_follow.specs.Changes.{AreInOrder, FitStore, Suits, with_view, without_id}
use Rattle.pl_follow.proofs.Parted.{Parted, parted_length, parted_sum}
use Rattle.trials_views.specs.Books.{MayCome, shares}
use Rattle.trials_views.proofs.Between.{comes_between, goes_from, suits_come, suits_go, suits_turn}
use Rattle.trials_views.proofs.InOrder.{parts}

-- ---- a view comes

module _ (views : List View) (place : ℕ) (new : View) (may : MayCome new (take place views) (drop place views)) where
  whole : take place views ++ drop place views ≡ views
  whole = take-append-drop place views

  inserted : insert views place new ≡ take place views ++ new ∷ drop place views
  inserted = refl

  pub come_suits : FitStore views → Suits None (Some new) views
  come_suits are =
      subst (λ (vs : List View). Suits None (Some new) vs) whole
      (suits_come (take place views) (drop place views) new (subst FitStore (sym whole) are) may)

  pub come_list : with_view new views ≡ insert views place new
  come_list =
      ap (λ (vs : List View). with_view new vs) (sym whole)
      ∙ comes_between (take place views) (drop place views) new may ∙ sym inserted

  pub come_sum : shares (insert views place new) ≡ share new.frecency + shares views
  come_sum =
      parted_sum (λ (v : View). share v.frecency) (insert views place new) views new
      (record { front = take place views; back = drop place views; whole = inserted; rest = sym whole })

-- ---- a view goes, or turns into another

module _ (views : List View) (place : ℕ) (old : View) (within : place < length views)
    (is : old ≡ get_or views place old) where
  all : views ≡ take place views ++ old ∷ drop (place + 1) views
  all = parts views place old within (sym is)

  parted : Parted views old (take place views ++ drop (place + 1) views)
  parted = record { front = take place views; back = drop (place + 1) views; whole = all; rest = refl }

  one_more : suc place ≡ place + 1
  one_more = omega arith

  removed : remove views place ≡ take place views ++ drop (place + 1) views
  removed = subst (λ n. remove views place ≡ take place views ++ drop n views) one_more refl

  pub go_suits : AreInOrder views → FitStore views → Suits (Some old) None views
  go_suits ordered are =
      subst (λ (vs : List View). Suits (Some old) None vs) (sym all)
      (suits_go (take place views) (drop (place + 1) views) old (subst AreInOrder all ordered)
      (subst FitStore all are))

  pub go_list : AreInOrder views → without_id old.id views ≡ remove views place
  go_list ordered =
      ap (λ (vs : List View). without_id old.id vs) all
      ∙ goes_from (take place views) (drop (place + 1) views) old (subst AreInOrder all ordered) ∙ sym removed

  pub go_sum : shares views ≡ share old.frecency + shares (remove views place)
  go_sum =
      parted_sum (λ (v : View). share v.frecency) views (remove views place) old
      (record { front = take place views; back = drop (place + 1) views; whole = all; rest = removed })

  pub may_turn : (new : View) → FitStore views → AllByRecursion (λ (w : View). w.id.0 < new.id.0) (take place views)
      → AllByRecursion (λ (w : View). new.id.0 < w.id.0) (drop (place + 1) views)
      → AllByRecursion (λ (w : View). w.url ≢ new.url) (take place views ++ drop (place + 1) views)
      → starts_with nat_eq new.url new.prefix ≡ true → share new.frecency < 2 ^ 36 - shares views
      → MayCome new (take place views) (drop (place + 1) views)
  may_turn new are below above fresh prefix small =
      record {
        below = below;
        above = above;
        fresh = fresh;
        prefix = prefix;
        few =
            omega (arith, are.few, parted_length views (take place views ++ drop (place + 1) views) old parted);
        sum =
            omega (
              arith,
              small,
              parted_sum (λ (v : View). share v.frecency) views
                  (take place views ++ drop (place + 1) views) old parted,
            );
      }

  module _ (new : View) (may : MayCome new (take place views) (drop (place + 1) views)) where
    turned : slice_set views place new ≡ take place views ++ new ∷ drop (place + 1) views
    turned =
        sym (take-append-drop place (slice_set views place new))
        ∙ ap (λ (vs : List View). vs ++ drop place (slice_set views place new)) (take-set views place new)
        ∙ ap (λ (vs : List View). take place views ++ vs) (drop-set views place new within)

    pub turn_suits : AreInOrder views → FitStore views → Suits (Some old) (Some new) views
    turn_suits ordered are =
        subst (λ (vs : List View). Suits (Some old) (Some new) vs) (sym all)
        (suits_turn (take place views) (drop (place + 1) views) old new (subst AreInOrder all ordered)
        (subst FitStore all are) may)

    pub turn_list : AreInOrder views → with_view new (without_id old.id views) ≡ slice_set views place new
    turn_list ordered =
        ap (λ (vs : List View). with_view new (without_id old.id vs)) all
        ∙ ap (λ (vs : List View). with_view new vs)
        (goes_from (take place views) (drop (place + 1) views) old (subst AreInOrder all ordered))
        ∙ comes_between (take place views) (drop (place + 1) views) new may ∙ sym turned

    pub turn_sum : shares (slice_set views place new) + share old.frecency ≡ shares views + share new.frecency
    turn_sum =
        let one = parted_sum (λ (v : View). share v.frecency) views
        (take place views ++ drop (place + 1) views) old parted in
        let two = parted_sum (λ (v : View). share v.frecency) (slice_set views place new)
        (take place views ++ drop (place + 1) views) new
        (record { front = take place views; back = drop (place + 1) views; whole = turned; rest = refl }) in
        omega (arith, one, two)
