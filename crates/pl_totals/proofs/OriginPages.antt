-- The pages of an origin, as one view comes or goes.
use Rattle.std.proofs.Common.{◌≡◌, ◌<◌, ◌++◌, ◌∙◌, Bool, true, false, List, [], ◌∷◌, ap, filter}
use Rattle.std.proofs.Common.{if◌then◌else◌, map, refl, subst, sym}
use Rattle.std.specs.declared.cmp.Ordering.{Ordering}
use Rattle.std.specs.declared.cmp.Ordering.TheVariants.{Less, Equal, Greater}
use Rattle.std.specs.BTreeMap.{is_at}
use Rattle.std.specs.BTreeSet.{insert_key}
use Rattle.std.specs.Cmp.{nat_cmp_is}
use Rattle.std.specs.List.{AllByRecursion, sum_by}
use Rattle.std.specs.Ordering.{is_eq, match_ordering}
use Rattle.std.specs.Set.{remove_key}
use Rattle.std.proofs.lemmas.List.{map-append}
use Rattle.std.proofs.lemmas.List.Elements.{filter-append}
use Rattle.pl_base.specs.declared.id.PageId.{PageId}
use Rattle.pl_base.specs.declared.view.View.{View}
use Rattle.pl_base.specs.Totals.{Origin, Scored, is_origin, share, total_of}
use Rattle.pl_base.specs.View.{scored_views}
use Rattle.pl_follow.specs.Changes.{AreInOrder}
use Rattle.pl_follow.proofs.Parted.{Ascend, Parted, ascend}
use Rattle.pl_totals.specs.Held.{by_id}
use Rattle.pl_totals.specs.Standing.{has_origin, pages_of}

-- ---- ids in their order

greater : (k x : PageId) → x.0 < k.0 → by_id k x ≡ Greater
greater k x below = sym (nat_cmp_is k.0 x.0 Greater below)

less : (k x : PageId) → k.0 < x.0 → by_id k x ≡ Less
less k x below = sym (nat_cmp_is k.0 x.0 Less below)

equal_to : (k : PageId) → by_id k k ≡ Equal
equal_to k = sym (nat_cmp_is k.0 k.0 Equal refl)

abbrev Below : PageId → List PageId → Type 0
Below k ids = AllByRecursion (λ (x : PageId). x.0 < k.0) ids

abbrev Above : PageId → List PageId → Type 0
Above k ids = AllByRecursion (λ (x : PageId). k.0 < x.0) ids

inserted : (k : PageId) (front back : List PageId) → Below k front → Above k back
    → insert_key by_id (front ++ back) k ≡ front ++ k ∷ back
inserted k [] [] below above = refl
inserted k [] (x ∷ back) below above =
    ap (λ (o : Ordering). match_ordering o (k ∷ x ∷ back) (x ∷ back) (x ∷ insert_key by_id back k)) (less k x above.0)
inserted k (x ∷ front) back below above =
    ap (λ (o : Ordering). match_ordering o (k ∷ x ∷ (front ++ back)) (x ∷ (front ++ back))
    (x ∷ insert_key by_id (front ++ back) k)) (greater k x below.0)
    ∙ ap (λ (ids : List PageId). x ∷ ids) (inserted k front back below.1 above)

taken : (k : PageId) (front back : List PageId) → Below k front
    → remove_key (is_at (by_id k)) (front ++ k ∷ back) ≡ front ++ back
taken k [] back below =
    ap (λ (o : Ordering). if is_eq o then back else k ∷ remove_key (is_at (by_id k)) back) (equal_to k)
taken k (x ∷ front) back below =
    ap (λ (o : Ordering). if is_eq o then front ++ k ∷ back else x ∷ remove_key (is_at (by_id k)) (front ++ k ∷ back))
    (greater k x below.0)
    ∙ ap (λ (ids : List PageId). x ∷ ids) (taken k front back below.1)

-- ---- a view among the others

front_below : (origin : Origin) (view : View) (front back : List View) → Ascend (front ++ view ∷ back)
    → Below view.id (pages_of origin front)
front_below origin view [] back a = tt
front_below origin view (v ∷ front) back a =
    choose (has_origin origin v) (first front a.0) (front_below origin view front back a.1)
  where
    first : (vs : List View) → AllByRecursion (λ (w : View). v.id.0 < w.id.0) (vs ++ view ∷ back) → v.id.0 < view.id.0
    first [] each = each.0
    first (w ∷ vs) each = first vs each.1

    choose : (b : Bool) → v.id.0 < view.id.0 → Below view.id (pages_of origin front)
        → Below view.id (map (λ (w : View). w.id) (if b then v ∷ filter (has_origin origin) front
        else filter (has_origin origin) front))
    choose true below rest = (below, rest)
    choose false below rest = rest

back_above : (origin : Origin) (view : View) (front back : List View) → Ascend (front ++ view ∷ back)
    → Above view.id (pages_of origin back)
back_above origin view (v ∷ front) back a = back_above origin view front back a.1
back_above origin view [] back a = each back a.0
  where
    each : (vs : List View) → AllByRecursion (λ (w : View). view.id.0 < w.id.0) vs → Above view.id (pages_of origin vs)
    each [] all = tt
    each (w ∷ vs) all = choose (has_origin origin w) (each vs all.1)
      where
        choose : (b : Bool) → Above view.id (pages_of origin vs)
            → Above view.id (map (λ (x : View). x.id) (if b then w ∷ filter (has_origin origin) vs
            else filter (has_origin origin) vs))
        choose true rest = (all.0, rest)
        choose false rest = rest

pages-append : (origin : Origin) (xs ys : List View)
    → pages_of origin (xs ++ ys) ≡ pages_of origin xs ++ pages_of origin ys
pages-append origin xs ys =
    ap (λ (vs : List View). map (λ (v : View). v.id) vs) (filter-append (has_origin origin) xs ys)
    ∙ map-append (λ (v : View). v.id) (filter (has_origin origin) xs) (filter (has_origin origin) ys)

with_it : (origin : Origin) (view : View) (back : List View) → has_origin origin view ≡ true
    → pages_of origin (view ∷ back) ≡ view.id ∷ pages_of origin back
with_it origin view back is =
    ap (λ b. map (λ (v : View). v.id) (if b then view ∷ filter (has_origin origin) back
    else filter (has_origin origin) back)) is

without_it : (origin : Origin) (view : View) (back : List View) → has_origin origin view ≡ false
    → pages_of origin (view ∷ back) ≡ pages_of origin back
without_it origin view back apart =
    ap (λ b. map (λ (v : View). v.id) (if b then view ∷ filter (has_origin origin) back
    else filter (has_origin origin) back)) apart

module _ (origin : Origin) (views others : List View) (view : View) (p : Parted views view others) where
  rest : pages_of origin others ≡ pages_of origin p.front ++ pages_of origin p.back
  rest = ap (pages_of origin) p.rest ∙ pages-append origin p.front p.back

  whole : has_origin origin view ≡ true
      → pages_of origin views ≡ pages_of origin p.front ++ view.id ∷ pages_of origin p.back
  whole is =
      ap (pages_of origin) p.whole ∙ pages-append origin p.front (view ∷ p.back)
      ∙ ap (λ (ids : List PageId). pages_of origin p.front ++ ids) (with_it origin view p.back is)

  below : AreInOrder views → Below view.id (pages_of origin p.front)
  below ordered =
      front_below origin view p.front p.back (subst Ascend p.whole (ascend views ordered))

  above : AreInOrder views → Above view.id (pages_of origin p.back)
  above ordered =
      back_above origin view p.front p.back (subst Ascend p.whole (ascend views ordered))

  pub pages_with : AreInOrder views → has_origin origin view ≡ true
      → insert_key by_id (pages_of origin others) view.id ≡ pages_of origin views
  pages_with ordered is =
      ap (λ (ids : List PageId). insert_key by_id ids view.id) rest
      ∙ inserted view.id (pages_of origin p.front) (pages_of origin p.back) (below ordered) (above ordered)
      ∙ sym (whole is)

  pub pages_without : AreInOrder views → has_origin origin view ≡ true
      → remove_key (is_at (by_id view.id)) (pages_of origin views) ≡ pages_of origin others
  pages_without ordered is =
      ap (remove_key (is_at (by_id view.id))) (whole is)
      ∙ taken view.id (pages_of origin p.front) (pages_of origin p.back) (below ordered) ∙ sym rest

  pub pages_same : has_origin origin view ≡ false → pages_of origin views ≡ pages_of origin others
  pages_same apart =
      ap (pages_of origin) p.whole ∙ pages-append origin p.front (view ∷ p.back)
      ∙ ap (λ (ids : List PageId). pages_of origin p.front ++ ids) (without_it origin view p.back apart) ∙ sym rest

-- ---- an origin without a page

pub no_total : (origin : Origin) (views : List View) → pages_of origin views ≡ []
    → total_of (scored_views views) origin ≡ 0
no_total origin [] none = refl
no_total origin (v ∷ vs) none = choose (has_origin origin v) refl none (no_total origin vs)
  where
    choose : (b : Bool) → has_origin origin v ≡ b
        → map (λ (w : View). w.id) (if b then v ∷ filter (has_origin origin) vs
        else filter (has_origin origin) vs) ≡ []
        → (pages_of origin vs ≡ [] → total_of (scored_views vs) origin ≡ 0)
        → total_of (scored_views (v ∷ vs)) origin ≡ 0
    choose true is none rest = absurd (cc)
    choose false apart none rest =
        ap (λ b. sum_by (λ (s : Scored). share s.1) (if b then ((v.prefix, v.host), v.frecency)
        ∷ filter (λ (s : Scored). is_origin s.0 origin) (scored_views vs)
        else filter (λ (s : Scored). is_origin s.0 origin) (scored_views vs))) apart
        ∙ rest none
