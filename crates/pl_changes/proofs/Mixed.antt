-- The views on the way from old ones to new ones: the new ones up to some id, and beyond it the old
-- ones.
use Rattle.std.proofs.Common.{◌≡◌, ◌≢◌, ◌∙◌, ◌+◌, ◌<◌, ◌≤◌, ◌^◌, ◌++◌, ◌==◌, ◌||◌, ◌⊎◌, inl, inr, ℕ, Bool, true, false}
use Rattle.std.proofs.Common.{List, [], ◌∷◌, Option, Some, None, ap, arith, filter, length, nat_eq, nat_lt}
use Rattle.std.proofs.Common.{not, refl, subst, sym}
use Rattle.std.specs.List.{AllByRecursion, AllPairs, starts_with}
use Rattle.std.specs.Option.{IsSome, option_or}
use Rattle.std.proofs.lemmas.Bool.{cases_order, false≢true, le-ltb, lt-ltb, ltb-false, ltb-true, ne_eqb, not-true}
use Rattle.std.proofs.lemmas.Bool.{true_from_ne_false}
use Rattle.std.proofs.lemmas.List.{length-append}
use Rattle.std.proofs.lemmas.List.Elements.{All-append, All-filter}
use Rattle.std.proofs.lemmas.List.Filters.{length-filter_both, sum_by-filter_both}
use Rattle.std.proofs.lemmas.List.Folds.{find-append}
use Rattle.std.proofs.lemmas.List.Kept.{AllPairs-filter}
use Rattle.std.proofs.lemmas.List.Sums.{sum_by-append}
use Rattle.pl_base.specs.declared.view.View.{View}
use Rattle.pl_base.specs.Live.{slot_limit}
use Rattle.pl_base.specs.Totals.{share}
use Rattle.pl_base.proofs.Among.{In, all_from_in, at_in, from_filter}
use Rattle.pl_base.proofs.ListLaws.{all_append, found_in, some_in, weaker}
use Rattle.pl_base.proofs.LookUps.{any_none, both}
use Rattle.pl_follow.specs.Changes.{AreInOrder, FitStore, has_view}
use Rattle.pl_follow.proofs.ChangedLists.{Pairs, all_pairs, pairs}
use Rattle.pl_follow.proofs.Parted.{Ascend, ascend}
use Rattle.pl_known.specs.Known.{shares}
use Rattle.pl_changes.proofs.Seen.{seen, seen_dropped, seen_in, seen_kept}

-- ---- lists in general

pub pairs_append : (R : View → View → Type 0) (xs ys : List View) → Pairs R xs → Pairs R ys
    → ((x y : View) → In x xs → In y ys → R x y) → Pairs R (xs ++ ys)
pairs_append R [] ys one two across = two
pairs_append R (x ∷ xs) ys one two across = (
  all_append (R x) xs ys one.0 (all_from_in (R x) ys (λ y h. across x y (inl refl) h)),
  pairs_append R xs ys one.1 two (λ z y g h. across z y (inr g) h),
)

or_none : (o : Option View) → option_or o None ≡ o
or_none None = refl
or_none (Some v) = refl

-- two of the views with different ids have different URLs
apart : (vs : List View) → Ascend vs → Pairs (λ (v w : View). v.url ≢ w.url) vs → (x y : View) → In x vs → In y vs
    → x.id.0 < y.id.0 → x.url ≢ y.url
apart [] a each x y g h before = absurd g
apart (v ∷ vs) a each x y (inl e) (inl f) before =
    absurd (omega (arith, before, ap (λ (z : View). z.id.0) e, ap (λ (z : View). z.id.0) f))
apart (v ∷ vs) a each x y (inl e) (inr h) before =
    subst (λ (z : View). z.url ≢ y.url) (sym e) (at_in (λ (z : View). v.url ≢ z.url) vs y each.0 h)
apart (v ∷ vs) a each x y (inr g) (inl f) before =
    absurd (omega (arith, before, ap (λ (z : View). z.id.0) f, at_in (λ (z : View). v.id.0 < z.id.0) vs x a.0 g))
apart (v ∷ vs) a each x y (inr g) (inr h) before = apart vs a.1 each.1 x y g h before

-- views whose ids all stand in another list are no more than that has
pub no_more : (xs ys : List View) → Ascend xs → Ascend ys → AllByRecursion (λ (v : View). has_view v.id ys ≡ true) xs
    → length xs ≤ length ys
no_more [] ys a b each = omega arith
no_more (x ∷ xs) [] a b each = absurd (cc (each.0))
no_more (x ∷ xs) (y ∷ ys) a b each =
    choose (cases_order x.id.0 y.id.0) (no_more xs ys a.1 b.1) (no_more (x ∷ xs) ys a b.1)
  where
    -- an id above the first stands behind it
    past : (v : View) → y.id.0 < v.id.0 → (y.id.0 == v.id.0 || has_view v.id ys) ≡ true → has_view v.id ys ≡ true
    past v above there =
        sym (ap (λ (b : Bool). b || has_view v.id ys) (ne_eqb y.id.0 v.id.0 (λ same. omega (arith, above, same))))
        ∙ there

    later : y.id.0 ≤ x.id.0 → AllByRecursion (λ (v : View). has_view v.id ys ≡ true) xs
    later from =
        both (λ (v : View). x.id.0 < v.id.0) (λ (v : View). has_view v.id (y ∷ ys) ≡ true)
        (λ (v : View). has_view v.id ys ≡ true) xs (λ v above there. past v (omega (arith, from, above)) there) a.0
        each.1

    -- none stands before the first
    never : x.id.0 < y.id.0 → has_view x.id (y ∷ ys) ≡ true → ⊥
    never before there =
        false≢true (sym (any_none (λ (v : View). v.id.0 == x.id.0) (y ∷ ys) (
          ne_eqb y.id.0 x.id.0 (λ same. omega (arith, before, same)),
          weaker (λ (v : View). y.id.0 < v.id.0) (λ (v : View). (v.id.0 == x.id.0) ≡ false) ys
              (λ v above. ne_eqb v.id.0 x.id.0 (λ same. omega (arith, before, above, same))) b.0,
        )) ∙ there)

    choose : (x.id.0 ≡ y.id.0) ⊎ ((x.id.0 < y.id.0) ⊎ (y.id.0 < x.id.0))
        → (AllByRecursion (λ (v : View). has_view v.id ys ≡ true) xs → length xs ≤ length ys)
        → (AllByRecursion (λ (v : View). has_view v.id ys ≡ true) (x ∷ xs) → length (x ∷ xs) ≤ length ys)
        → length (x ∷ xs) ≤ length (y ∷ ys)
    choose (inl one) rest all = omega (arith, rest (later (omega (arith, one))))
    choose (inr (inl before)) rest all = absurd (never before each.0)
    choose (inr (inr behind)) rest all =
        omega (arith, all (past x behind each.0, later (omega (arith, behind))))

-- ---- old and new views

-- a page that stays has its URL, and one that is new comes behind all old ones
pub record Follow (old new : List View) : Type 0 where
  pub urls : (v w : View) → In v new → In w old → v.id.0 ≡ w.id.0 → v.url ≡ w.url
  pub behind : (v w : View) → In v new → has_view v.id old ≡ false → In w old → w.id.0 < v.id.0

abbrev pub is_below : ℕ → ℕ → Bool
is_below k n = nat_lt n k

abbrev pub is_above : ℕ → ℕ → Bool
is_above k n = not (nat_lt n k)

-- the new views with ids below a bound, and behind them the old ones from it on
abbrev pub mixed : List View → List View → ℕ → List View
mixed old new k =
    filter (λ (v : View). is_below k v.id.0) new ++ filter (λ (v : View). is_above k v.id.0) old

module _ (old new : List View) (k : ℕ) where
  pub mixed_below : (n : ℕ) → n < k → seen n (mixed old new k) ≡ seen n new
  mixed_below n under =
      find-append (λ (v : View). v.id.0 == n) (filter (λ (v : View). is_below k v.id.0) new)
      (filter (λ (v : View). is_above k v.id.0) old)
      ∙ ap (λ (o : Option View). option_or o (seen n (filter (λ (v : View). is_above k v.id.0) old)))
      (seen_kept (is_below k) n new (lt-ltb n k under))
      ∙ ap (λ (o : Option View). option_or (seen n new) o)
      (seen_dropped (is_above k) n old (ap not (lt-ltb n k under)))
      ∙ or_none (seen n new)

  pub mixed_above : (n : ℕ) → k ≤ n → seen n (mixed old new k) ≡ seen n old
  mixed_above n over =
      find-append (λ (v : View). v.id.0 == n) (filter (λ (v : View). is_below k v.id.0) new)
      (filter (λ (v : View). is_above k v.id.0) old)
      ∙ ap (λ (o : Option View). option_or o (seen n (filter (λ (v : View). is_above k v.id.0) old)))
      (seen_dropped (is_below k) n new (le-ltb n k over))
      ∙ seen_kept (is_above k) n old (ap not (le-ltb n k over))

  mixed_pairs : (R : View → View → Type 0) → AllPairs R old → AllPairs R new
      → ((v w : View) → In v new → v.id.0 < k → In w old → k ≤ w.id.0 → R v w) → AllPairs R (mixed old new k)
  mixed_pairs R olds news across =
      all_pairs R (mixed old new k)
      (pairs_append R (filter (λ (v : View). is_below k v.id.0) new) (filter (λ (v : View). is_above k v.id.0) old)
      (pairs R (filter (λ (v : View). is_below k v.id.0) new)
      (AllPairs-filter R (λ (v : View). is_below k v.id.0) new news))
      (pairs R (filter (λ (v : View). is_above k v.id.0) old)
      (AllPairs-filter R (λ (v : View). is_above k v.id.0) old olds))
      (λ v w g h.
      let one : In v new × (is_below k v.id.0 ≡ true) = from_filter (λ (x : View). is_below k x.id.0) new v g in
      let two : In w old × (is_above k w.id.0 ≡ true) = from_filter (λ (x : View). is_above k x.id.0) old w h in
      across v w one.0 (ltb-true v.id.0 k one.1) two.0 (ltb-false w.id.0 k (not-true (nat_lt w.id.0 k) two.1))))

  pub mixed_in_order : AreInOrder old → AreInOrder new → AreInOrder (mixed old new k)
  mixed_in_order olds news =
      mixed_pairs (λ (v w : View). v.id.0 < w.id.0) olds news (λ v w g under h over. omega (arith, under, over))

  module _ (ordered : AreInOrder old) (anew : AreInOrder new) (follow : Follow old new) where
    -- a page that stays, if an old one stands behind it
    stays : (v w : View) → In v new → In w old → v.id.0 < w.id.0 → has_view v.id old ≡ true
    stays v w g h before =
        true_from_ne_false (has_view v.id old) (λ none. absurd (omega (arith, follow.behind v w g none h, before)))

    differ : AllPairs (λ (v w : View). v.url ≢ w.url) old → (v w : View) → In v new → v.id.0 < k → In w old
        → k ≤ w.id.0 → v.url ≢ w.url
    differ urls v w g under h over same =
        let before : v.id.0 < w.id.0 = omega (arith, under, over) in
        let found : IsSome (seen v.id.0 old) =
        found_in (λ (x : View). x.id.0 == v.id.0) old (stays v w g h before) in
        choose (seen v.id.0 old) refl found
      where
        choose : (o : Option View) → seen v.id.0 old ≡ o → IsSome o → ⊥
        choose None is there = absurd (cc)
        choose (Some x) is there =
            let here : In x old × (x.id.0 ≡ v.id.0) = seen_in v.id.0 old x is in
            apart old (ascend old ordered) (pairs (λ (a b : View). a.url ≢ b.url) old urls) x w here.0 h
            (omega (arith, here.1, under, over)) (sym (follow.urls v x g here.0 (sym here.1)) ∙ same)

    few_mixed : length old < slot_limit → length new < slot_limit → length (mixed old new k) < slot_limit
    few_mixed olds news = choose (filter (λ (v : View). is_above k v.id.0) old) refl
      where
        front : List View
        front = filter (λ (v : View). is_below k v.id.0) new

        parts : (vs : List View) → length (filter (λ (v : View). is_below k v.id.0) vs)
            + length (filter (λ (v : View). is_above k v.id.0) vs) ≡ length vs
        parts vs =
            length-filter_both (λ (v : View). is_below k v.id.0) (λ (v : View). is_above k v.id.0) (λ v. refl) vs

        -- the new views in front of an old one are of old pages
        known : (w : View) → In w old → k ≤ w.id.0
            → AllByRecursion (λ (v : View). has_view v.id (filter (λ (x : View). is_below k x.id.0) old) ≡ true) front
        known w h over =
            all_from_in (λ (v : View). has_view v.id (filter (λ (x : View). is_below k x.id.0) old) ≡ true) front
            (λ v g.
            let one : In v new × (is_below k v.id.0 ≡ true) = from_filter (λ (x : View). is_below k x.id.0) new v g in
            let before : v.id.0 < w.id.0 = omega (arith, ltb-true v.id.0 k one.1, over) in
            some_in (λ (x : View). x.id.0 == v.id.0) (filter (λ (x : View). is_below k x.id.0) old)
            (subst IsSome (sym (seen_kept (is_below k) v.id.0 old one.1))
            (found_in (λ (x : View). x.id.0 == v.id.0) old (stays v w one.0 h before))))

        choose : (vs : List View) → filter (λ (v : View). is_above k v.id.0) old ≡ vs
            → length (mixed old new k) < slot_limit
        choose [] none =
            omega (
              arith,
              news,
              parts new,
              length-append front (filter (λ (v : View). is_above k v.id.0) old),
              ap length none,
            )
        choose (w ∷ vs) some =
            let here : In w old × (is_above k w.id.0 ≡ true) =
            from_filter (λ (v : View). is_above k v.id.0) old w (subst (In w) (sym some) (inl refl)) in
            omega (
              arith,
              olds,
              parts old,
              length-append front (filter (λ (v : View). is_above k v.id.0) old),
              no_more front (filter (λ (v : View). is_below k v.id.0) old)
                  (ascend front (AllPairs-filter (λ (x y : View). x.id.0 < y.id.0)
                  (λ (v : View). is_below k v.id.0) new anew))
                  (ascend (filter (λ (v : View). is_below k v.id.0) old)
                  (AllPairs-filter (λ (x y : View). x.id.0 < y.id.0) (λ (v : View). is_below k v.id.0) old ordered))
                  (known w here.0 (ltb-false w.id.0 k (not-true (nat_lt w.id.0 k) here.1))),
            )

  pub mixed_fits : AreInOrder old → AreInOrder new → Follow old new → FitStore old → FitStore new
      → shares old + shares new < 2 ^ 36 → FitStore (mixed old new k)
  mixed_fits ordered anew follow olds news small =
      record {
        urls =
            mixed_pairs (λ (v w : View). v.url ≢ w.url) olds.urls news.urls
            (differ ordered anew follow olds.urls);
        prefixes =
            All-append (λ (v : View). starts_with nat_eq v.url v.prefix ≡ true)
            (filter (λ (v : View). is_below k v.id.0) new) (filter (λ (v : View). is_above k v.id.0) old)
            (All-filter (λ (v : View). is_below k v.id.0) (λ (v : View). starts_with nat_eq v.url v.prefix ≡ true) new
            news.prefixes)
            (All-filter (λ (v : View). is_above k v.id.0) (λ (v : View). starts_with nat_eq v.url v.prefix ≡ true) old
            olds.prefixes);
        few = few_mixed ordered anew follow olds.few news.few;
        sum =
            omega (
              arith,
              small,
              sum_by-append (λ (v : View). share v.frecency) (filter (λ (v : View). is_below k v.id.0) new)
                  (filter (λ (v : View). is_above k v.id.0) old),
              sum_by-filter_both (λ (v : View). is_below k v.id.0) (λ (v : View). is_above k v.id.0) (λ v. refl)
                  (λ (v : View). share v.frecency) new,
              sum_by-filter_both (λ (v : View). is_below k v.id.0) (λ (v : View). is_above k v.id.0) (λ v. refl)
                  (λ (v : View). share v.frecency) old,
            );
      }
