-- What the entries of the map tell of the groups that pages have.
use Rattle.std.proofs.Common.{◌≡◌, ◌∙◌, ◌<◌, ◌==◌, ◌*◌, ◌++◌, ℕ, Bool, true, false, List, [], ◌∷◌, String, Global}
use Rattle.std.proofs.Common.{Option, Some, None, ap, arith, bytes_eq, filter, if◌then◌else◌, inl, inr, length, map}
use Rattle.std.proofs.Common.{nat_eq, nat_le, nat_lt, not, refl, subst, sym, unwrap_or}
use Rattle.std.specs.BTreeMap.{BTreeMap, IsOrdered, get_by_text, is_at}
use Rattle.std.specs.Cmp.Lexicographic.{slice_cmp}
use Rattle.std.specs.List.{slice_get, starts_with, sum_by, take_while}
use Rattle.std.specs.Option.{option_map}
use Rattle.std.specs.Ordering.{is_eq, nat_cmp}
use Rattle.std.specs.String.{string_bytes, string_cmp, string_cmp_total}
use Rattle.std.specs.declared.cmp.Ordering.{Ordering}
use Rattle.std.specs.declared.cmp.Ordering.TheVariants.{Less, Equal, Greater}
use Rattle.std.proofs.lemmas.Bool.{and_parts, false≢true, ltb-true}
use Rattle.std.proofs.lemmas.Map.Entries.{btree_map_get_place, place_from_lookup}
use Rattle.std.proofs.lemmas.Map.Lookups.{exact_bytes}
use Rattle.std.proofs.lemmas.Slice.Eq.{bytes_eq-Decides}
use Rattle.pl_base.specs.Sorting.{sorted_by}
use Rattle.pl_base.specs.Totals.{Origin, Scored, distinct, group_passes, group_total, is_in_group, is_origin}
use Rattle.pl_base.specs.Totals.{origins_of, origins_with_total, sum_of_totals, total_of, without_www}
use Rattle.pl_base.proofs.SortLaws.{sorted_map}
use Rattle.pl_base.proofs.Among.{In, from_filter, from_map, in_filter, in_front, in_map}
use Rattle.pl_totals.specs.declared.totals.Totals.{Totals}
use Rattle.pl_totals.specs.Filling.{best_group, group_names, is_better, is_filling}
use Rattle.pl_totals.specs.Groups.{Grouped, is_ahead, is_enough}
use Rattle.pl_totals.specs.Standing.{StandsFor, kept_group}
use Rattle.pl_totals.proofs.Beginnings.{Stops, begins, from_text, in_taken, stand_together, upto}
use Rattle.pl_totals.proofs.Best.{IsBest, ahead_ranks, ahead_tied, best_of_part, entry, fills}
use Rattle.pl_totals.proofs.Members.{at_place, place_of}
use Rattle.pl_totals.proofs.Sorted.{first_sorted, none_sorted}

-- ---- the entries

same_bytes : (a b : List ℕ) → is_eq (slice_cmp nat_cmp a b) ≡ true → a ≡ b
same_bytes a b is = choose (slice_cmp nat_cmp a b) refl is
  where
    choose : (o : Ordering) → slice_cmp nat_cmp a b ≡ o → is_eq o ≡ true → a ≡ b
    choose Less found other = absurd (false≢true other)
    choose Equal found is = exact_bytes a b found
    choose Greater found other = absurd (false≢true other)

module _ (m : BTreeMap (String Global) ℕ) where
  -- the total of a group, and 0 of one that is not kept
  abbrev total_in : List ℕ → ℕ
  total_in group = unwrap_or (get_by_text m group) 0

  pub entry_told : IsOrdered string_cmp m → (g : Grouped) → In g (map entry m.entries) → total_in g.0 ≡ g.1
  entry_told ordered g member =
      let from = from_map entry m.entries g member in
      let place = place_of from.0 m.entries from.1 in
      let found : get_by_text m (string_bytes from.0.0) ≡ Some from.0.1
      = btree_map_get_place string_cmp_total m place.0 from.0.0 from.0.1 ordered place.1 in
      ap (λ (h : Grouped). total_in h.0) from.2 ∙ ap (λ r. unwrap_or r 0) found
      ∙ sym (ap (λ (h : Grouped). h.1) from.2)

  pub total_entered : (group : List ℕ) → 0 < total_in group → In (group, total_in group) (map entry m.entries)
  total_entered group some = choose (get_by_text m group) refl some
    where
      choose : (r : Option ℕ) → get_by_text m group ≡ r → 0 < unwrap_or r 0
          → In (group, unwrap_or r 0) (map entry m.entries)
      choose None is none = absurd (omega arith)
      choose (Some n) is some =
          let place =
          place_from_lookup (is_at (λ (k : String Global). slice_cmp nat_cmp group (string_bytes k))) m.entries n is in
          let same : group ≡ string_bytes place.1 = same_bytes group (string_bytes place.1) place.3 in
          subst (λ (g : List ℕ). In (g, n) (map entry m.entries)) (sym same)
          (in_map entry m.entries (place.1, n) (at_place (place.1, n) m.entries place.0 place.2))

-- ---- the groups of the pages

in_distinct : (o : Origin) (os : List Origin) → In o (distinct os) → In o os
in_distinct o [] h = absurd h
in_distinct o (x ∷ os) (inl e) = inl e
in_distinct o (x ∷ os) (inr h) =
    inr (in_distinct o os (from_filter (λ other. not (is_origin other x)) (distinct os) o h).0)

-- where a sum over those that pass is positive, one passes
one_passes : {A : Type 0} (f : A → ℕ) (test : A → Bool) (xs : List A) → 0 < sum_by f (filter test xs)
    → (x : A) × In x xs × (test x ≡ true)
one_passes f test [] some = absurd (omega arith)
one_passes {A} f test (x ∷ xs) some = choose (test x) refl some (one_passes f test xs)
  where
    choose : (b : Bool) → test x ≡ b → 0 < sum_by f (if b then x ∷ filter test xs else filter test xs)
        → (0 < sum_by f (filter test xs) → (y : A) × In y xs × (test y ≡ true))
        → (y : A) × In y (x ∷ xs) × (test y ≡ true)
    choose true is more rest = (x, inl refl, is)
    choose false is more rest = let r = rest more in (r.0, inr r.1, r.2)

-- a group that has a total is that of a page
pub named : (pages : List Scored) (group : List ℕ) → 0 < group_total pages group → In group (group_names pages)
named pages group some =
    let r = one_passes (total_of pages) (is_in_group group) (origins_of pages) some in
    let page = from_map (λ (s : Scored). s.0) pages r.0 (in_distinct r.0 (map (λ (s : Scored). s.0) pages) r.1) in
    let inside : is_in_group group page.0.0 ≡ true = ap (is_in_group group) (sym page.2) ∙ r.2 in
    let parts = and_parts (not (length page.0.0.1 == 0)) (bytes_eq (without_www page.0.0.1) group) inside in
    let same : without_www page.0.0.1 ≡ group = (bytes_eq-Decides (without_www page.0.0.1) group).0 parts.1 in
    subst (λ (g : List ℕ). In g (group_names pages)) same
    (in_map (λ (s : Scored). without_www s.0.1) (filter (λ (s : Scored). not (length s.0.1 == 0)) pages) page.0
    (in_filter (λ (s : Scored). not (length s.0.1 == 0)) pages page.0 page.1 parts.0))

-- ---- the best of the groups

module _ (totals : Totals) (text : List ℕ) (pages : List Scored) (stands : StandsFor totals pages)
    (ordered : IsOrdered string_cmp totals.groups.totals) where
  abbrev with_total : List ℕ → Grouped
  with_total group = (group, group_total pages group)

  abbrev entries : List Grouped
  entries = map entry totals.groups.totals.entries

  abbrev filling : List (List ℕ)
  filling = filter (is_filling pages text) (group_names pages)

  fills_as : (group : List ℕ) → fills totals text (with_total group) ≡ is_filling pages text group
  fills_as group = rw (stands.count, stands.sum) refl

  positive : (group : List ℕ) → is_filling pages text group ≡ true → 0 < group_total pages group
  positive group is =
      let total : ℕ = group_total pages group in
      let passes = and_parts (group_passes pages group) (starts_with nat_eq group text) is in
      let enough : Bool = nat_le (sum_of_totals pages) (total * origins_with_total pages) in
      ltb-true 0 total (and_parts (nat_lt 0 total) enough passes.0).0

  -- a group that passes is among the entries
  entered : (g : Grouped) → In g (map with_total filling) → In g entries × (fills totals text g ≡ true)
  entered g member =
      let from = from_map with_total filling g member in
      let group : List ℕ = from.0 in
      let kept = from_filter (is_filling pages text) (group_names pages) group from.1 in
      let told : kept_group totals group ≡ group_total pages group = stands.groups group in
      let some : 0 < kept_group totals group = omega (arith, positive group kept.1) in
      let here : In (group, kept_group totals group) entries = total_entered totals.groups.totals group some in
      let same : (group, kept_group totals group) ≡ g = ap (λ n. (group, n)) told ∙ sym from.2 in
      (subst (λ (h : Grouped). In h entries) same here, ap (fills totals text) from.2 ∙ fills_as group ∙ kept.1)

  -- and an entry that passes is such a group
  kept_filling : (g : Grouped) → In g entries → fills totals text g ≡ true → In g (map with_total filling)
  kept_filling g member passes =
      let total : group_total pages g.0 ≡ g.1 =
      sym (stands.groups g.0) ∙ entry_told totals.groups.totals ordered g member in
      let same : with_total g.0 ≡ g = ap (λ n. (g.0, n)) total in
      let is : is_filling pages text g.0 ≡ true = sym (fills_as g.0) ∙ ap (fills totals text) same ∙ passes in
      subst (λ (h : Grouped). In h (map with_total filling)) same
      (in_map with_total filling g.0
      (in_filter (is_filling pages text) (group_names pages) g.0 (named pages g.0 (positive g.0 is)) is))

  first_of : (groups : List (List ℕ))
      → option_map with_total (slice_get groups 0) ≡ slice_get (map with_total groups) 0
  first_of [] = refl
  first_of (group ∷ groups) = refl

  -- the definition's best is the first of those that pass, with their totals
  best_first : best_group pages text ≡ slice_get (sorted_by is_ahead (map with_total filling)) 0
  best_first =
      first_of (sorted_by (is_better pages) filling)
      ∙ ap (λ (gs : List Grouped). slice_get gs 0) (sorted_map with_total is_ahead filling)

  best_is : (best : Option Grouped) → IsBest (fills totals text) entries best → best ≡ best_group pages text
  best_is None none =
      sym (best_first ∙ none_sorted is_ahead ahead_ranks (map with_total filling)
      (λ g member. let h = entered g member in false≢true (sym (none g h.0) ∙ h.1)))
  best_is (Some best) h =
      sym (best_first ∙ first_sorted is_ahead ahead_ranks ahead_tied (map with_total filling) best
      (kept_filling best h.0 h.1)
      (λ g member. let e = entered g member in h.2 g e.0 e.1))

-- the best of the entries from a text on, up to one that does not begin with it
pub best_of_front : (totals : Totals) (text : String Global) (pages : List Scored) → StandsFor totals pages
    → IsOrdered string_cmp totals.groups.totals → (part rest : List (String Global × ℕ))
    → from_text text totals.groups.totals.entries ≡ part ++ rest → Stops (begins text) rest
    → (best : Option Grouped) → IsBest (fills totals (string_bytes text)) (map entry part) best
    → best ≡ best_group pages (string_bytes text)
best_of_front totals text pages stands ordered part rest whole stops best h =
    best_is totals (string_bytes text) pages stands ordered best
    (best_of_part (fills totals (string_bytes text)) (map entry part) (map entry entries) best of has h)
  where
    entries : List (String Global × ℕ)
    entries = totals.groups.totals.entries

    of : (g : Grouped) → In g (map entry part) → In g (map entry entries)
    of g member =
        let from = from_map entry part g member in
        let here = subst (In from.0) (sym whole) (in_front part rest from.0 from.1) in
        subst (λ (h : Grouped). In h (map entry entries)) (sym from.2)
        (in_map entry entries from.0 (from_filter (upto text) entries from.0 here).0)

    has : (g : Grouped) → In g (map entry entries) → fills totals (string_bytes text) g ≡ true
        → In g (map entry part)
    has g member passes =
        let from = from_map entry entries g member in
        let named : begins text from.0 ≡ true =
        (and_parts (is_enough totals from.0.1) (begins text from.0)
        (ap (fills totals (string_bytes text)) (sym from.2) ∙ passes)).1 in
        let kept = subst (In from.0) (stand_together text entries ordered ∙ ap (take_while (begins text)) whole)
        (in_filter (begins text) entries from.0 from.1 named) in
        subst (λ (h : Grouped). In h (map entry part)) (sym from.2)
        (in_map entry part from.0 (in_taken (begins text) part rest stops from.0 kept))
