-- What totals stand for, once one share of an origin goes and another comes.
use Rattle.std.proofs.Common.{◌≡◌, ◌+◌, ◌<◌, ◌≤◌, ◌++◌, ◌^◌, ◌∙◌, ℕ, ℤ, pos, Bool, true, false, List, [], ◌∷◌}
use Rattle.std.proofs.Common.{ap, arith, if◌then◌else◌, length, map, refl, subst, sym}
use Rattle.std.proofs.lemmas.Bool.Decides.{nat_tests}
use Rattle.std.proofs.lemmas.List.{length-append, map-append}
use Rattle.pl_base.specs.declared.view.View.{View}
use Rattle.pl_base.specs.Live.{slot_limit}
use Rattle.pl_base.specs.Totals.{Origin, Scored, group_total, is_in_group, is_origin, share}
use Rattle.pl_base.specs.Totals.{total_of}
use Rattle.pl_base.specs.View.{scored_views}
use Rattle.pl_follow.proofs.Parted.{Parted}
use Rattle.pl_totals.specs.declared.kept.Pages.{Pages}
use Rattle.pl_totals.specs.declared.kept.Step.{Step}
use Rattle.pl_totals.specs.declared.totals.Totals.{Totals}
use Rattle.pl_totals.specs.Held.{Held, after, held_at, pages_after, settled}
use Rattle.pl_totals.specs.Standing.{HasRoom, StandsFor, Steps, kept_group, kept_total, one_if, stepped}
use Rattle.pl_totals.proofs.Pushed.{count-le, count-moved, count-push, equal, group-le, group-moved, group-push, itself}
use Rattle.pl_totals.proofs.Pushed.{shares, sum-moved, sum-push, sum-shares, total-le, total-moved}
use Rattle.pl_totals.proofs.Pushed.{total-push}

-- the origin of a view, and its frecency
abbrev pub scored : View → Scored
scored view = ((view.prefix, view.host), view.frecency)

-- ---- a page among the others, and behind them

pub stands_behind : (totals : Totals) (views others : List View) (view : View) → Parted views view others
    → StandsFor totals (scored_views views) → StandsFor totals (scored_views others ++ scored view ∷ [])
stands_behind totals views others view p stands =
    let front : List Scored = map scored p.front in
    let back : List Scored = map scored p.back in
    let whole : scored_views views ≡ front ++ scored view ∷ back =
    ap scored_views p.whole ∙ map-append scored p.front (view ∷ p.back) in
    let rest : scored_views others ≡ front ++ back = ap scored_views p.rest ∙ map-append scored p.front p.back in
    let here : StandsFor totals (front ++ scored view ∷ back) = subst (StandsFor totals) whole stands in
    subst (λ (ss : List Scored). StandsFor totals (ss ++ scored view ∷ [])) (sym rest)
    (record {
      origins = λ o. here.origins o ∙ total-moved front back (scored view) o;
      groups = λ g. here.groups g ∙ group-moved front back (scored view) g;
      count = here.count ∙ count-moved front back (scored view);
      sum = here.sum ∙ sum-moved front back (scored view);
    })

pub stands_among : (totals : Totals) (views others : List View) (view : View) → Parted views view others
    → StandsFor totals (scored_views others ++ scored view ∷ []) → StandsFor totals (scored_views views)
stands_among totals views others view p stands =
    let front : List Scored = map scored p.front in
    let back : List Scored = map scored p.back in
    let whole : scored_views views ≡ front ++ scored view ∷ back =
    ap scored_views p.whole ∙ map-append scored p.front (view ∷ p.back) in
    let rest : scored_views others ≡ front ++ back = ap scored_views p.rest ∙ map-append scored p.front p.back in
    let here : StandsFor totals ((front ++ back) ++ scored view ∷ []) =
    subst (λ (ss : List Scored). StandsFor totals (ss ++ scored view ∷ [])) rest stands in
    subst (StandsFor totals) (sym whole)
    (record {
      origins = λ o. here.origins o ∙ sym (total-moved front back (scored view) o);
      groups = λ g. here.groups g ∙ sym (group-moved front back (scored view) g);
      count = here.count ∙ sym (count-moved front back (scored view));
      sum = here.sum ∙ sym (sum-moved front back (scored view));
    })

-- ---- a page that adds nothing

abbrev none_of : Origin → Scored
none_of o = (o, pos 0)

no_share : (b : Bool) → (if b then share (pos 0) else 0) ≡ 0
no_share true = refl
no_share false = refl

same : (n : ℕ) → one_if (n + 0) ≡ one_if n
same n = let plus : n + 0 ≡ n = omega arith in ap one_if plus

pub with_none : (totals : Totals) (pages : List Scored) (o : Origin) → StandsFor totals pages
    → StandsFor totals (pages ++ none_of o ∷ [])
with_none totals pages o stands =
    record {
      origins = λ x. omega (arith, stands.origins x, total-push pages (none_of o) x, no_share (is_origin o x));
      groups = λ g. omega (arith, stands.groups g, group-push pages (none_of o) g, no_share (is_in_group g o));
      count = omega (arith, stands.count, count-push pages (none_of o), same (total_of pages o));
      sum = omega (arith, stands.sum, sum-push pages (none_of o));
    }

pub without_none : (totals : Totals) (pages : List Scored) (o : Origin) → StandsFor totals (pages ++ none_of o ∷ [])
    → StandsFor totals pages
without_none totals pages o stands =
    record {
      origins = λ x. omega (arith, stands.origins x, total-push pages (none_of o) x, no_share (is_origin o x));
      groups = λ g. omega (arith, stands.groups g, group-push pages (none_of o) g, no_share (is_in_group g o));
      count = omega (arith, stands.count, count-push pages (none_of o), same (total_of pages o));
      sum = omega (arith, stands.sum, sum-push pages (none_of o));
    }

-- a page that adds as much
pub same_share : (totals : Totals) (others : List Scored) (o : Origin) (f g : ℤ) → share f ≡ share g
    → StandsFor totals (others ++ (o, f) ∷ []) → StandsFor totals (others ++ (o, g) ∷ [])
same_share totals others o f g same stands =
    record {
      origins = λ x.
          stands.origins x ∙ total-push others (o, f) x
          ∙ ap (λ n. total_of others x + (if is_origin o x then n else 0)) same ∙ sym (total-push others (o, g) x);
      groups = λ group.
          stands.groups group ∙ group-push others (o, f) group
          ∙ ap (λ n. group_total others group + (if is_in_group group o then n else 0)) same
          ∙ sym (group-push others (o, g) group);
      count =
          omega (
            arith,
            stands.count,
            count-push others (o, f),
            count-push others (o, g),
            ap (λ n. one_if (total_of others o + n)) same,
          );
      sum = omega (arith, stands.sum, sum-push others (o, f), sum-push others (o, g), same);
    }

-- ---- one page in place of another of the same origin

module _ (others : List Scored) (o : Origin) (f g : ℤ) (pages : Pages) where
  abbrev step : Step
  step = record { pages = pages; from = share f; to = share g }

  abbrev old_pages : List Scored
  old_pages = others ++ (o, f) ∷ []

  abbrev new_pages : List Scored
  new_pages = others ++ (o, g) ∷ []

  old_total : total_of old_pages o ≡ total_of others o + share f
  old_total = total-push others (o, f) o ∙ ap (λ b. total_of others o + (if b then share f else 0)) (itself o)

  new_total : total_of new_pages o ≡ total_of others o + share g
  new_total = total-push others (o, g) o ∙ ap (λ b. total_of others o + (if b then share g else 0)) (itself o)

  old_group : (group : List ℕ) → is_in_group group o ≡ true
      → group_total old_pages group ≡ group_total others group + share f
  old_group group is =
      group-push others (o, f) group ∙ ap (λ b. group_total others group + (if b then share f else 0)) is

  new_group : (group : List ℕ) → is_in_group group o ≡ true
      → group_total new_pages group ≡ group_total others group + share g
  new_group group is =
      group-push others (o, g) group ∙ ap (λ b. group_total others group + (if b then share g else 0)) is

  one_if-grows : (t n : ℕ) → one_if t ≤ one_if (t + n)
  one_if-grows t n = grind (arith, nat_tests)

  -- there is room for the step
  pub room : (totals : Totals) → StandsFor totals old_pages → shares new_pages < 2 ^ 36 → length others < slot_limit
      → HasRoom o step totals
  room totals stands small few =
      let was : kept_total totals o ≡ total_of others o + share f = stands.origins o ∙ old_total in
      record {
        total =
            record {
              from = omega (arith, was);
              fits = omega (arith, was, new_total, total-le new_pages o);
            };
        group = λ group is.
            let held : kept_group totals group ≡ group_total others group + share f =
            stands.groups group ∙ old_group group is in
            record {
              from = omega (arith, held);
              fits = omega (arith, held, new_group group is, group-le new_pages group);
            };
        sum =
            record {
              from = omega (arith, stands.sum, sum-push others (o, f));
              fits =
                  omega (
                    arith,
                    stands.sum,
                    sum-push others (o, f),
                    sum-push others (o, g),
                    sum-shares new_pages,
                  );
            };
        counted =
            let is : stepped step (kept_total totals o) ≡ total_of others o + share g = omega (arith, was) in
            omega (
              arith,
              ap one_if was,
              ap one_if is,
              stands.count,
              count-push others (o, f),
              one_if-grows (total_of others o) (share g),
            );
        few =
            omega (
              arith,
              stands.count,
              count-le old_pages,
              length-append others ((o, f) ∷ []),
            );
      }

  settled_total : (h : Held) (n : ℕ) → h.0 ≡ n → (h.1 ≡ [] → n ≡ 0) → (settled h).0 ≡ n
  settled_total (t, []) n is none = sym (none refl)
  settled_total (t, page ∷ rest) n is none = is

  -- then the totals are those of the new page
  pub stepped_stands : (old new : Totals) → StandsFor old old_pages → Steps o step old new
      → (pages_after pages (held_at old.origins o).1 ≡ [] → total_of others o + share g ≡ 0)
      → StandsFor new new_pages
  stepped_stands old new stands steps empty =
      let was : kept_total old o ≡ total_of others o + share f = stands.origins o ∙ old_total in
      let is : stepped step (kept_total old o) ≡ total_of others o + share g = omega (arith, was) in
      record {
        origins = λ x.
            ap (λ (h : Held). h.0) (steps.origins x) ∙ choose_origin x (is_origin o x) refl was
            ∙ sym (total-push others (o, g) x);
        groups = λ group.
            steps.groups group
            ∙ choose_group group (is_in_group group o) refl (stands.groups group) (group-push others (o, f) group)
            ∙ sym (group-push others (o, g) group);
        count =
            omega (
              arith,
              steps.count,
              ap one_if was,
              ap one_if is,
              stands.count,
              count-push others (o, f),
              count-push others (o, g),
            );
        sum =
            omega (
              arith,
              steps.sum,
              stands.sum,
              sum-push others (o, f),
              sum-push others (o, g),
            );
      }
    where
      choose_origin : (x : Origin) (b : Bool) → is_origin o x ≡ b → kept_total old o ≡ total_of others o + share f
          → (if b then settled (after step (held_at old.origins o)) else held_at old.origins x).0
          ≡ total_of others x + (if b then share g else 0)
      choose_origin x true is was =
          settled_total (after step (held_at old.origins o)) (total_of others o + share g) (omega (arith, was)) empty
          ∙ ap (λ y. total_of others y + share g) (equal o x is)
      choose_origin x false apart was =
          stands.origins x ∙ total-push others (o, f) x
          ∙ ap (λ b. total_of others x + (if b then share f else 0)) apart

      choose_group : (group : List ℕ) (b : Bool) → is_in_group group o ≡ b
          → kept_group old group ≡ group_total old_pages group
          → group_total old_pages group ≡ group_total others group + (if is_in_group group o then share f else 0)
          → (if b then stepped step (kept_group old group) else kept_group old group)
          ≡ group_total others group + (if b then share g else 0)
      choose_group group true is held pushed =
          let more : group_total old_pages group ≡ group_total others group + share f =
          pushed ∙ ap (λ b. group_total others group + (if b then share f else 0)) is in
          omega (arith, held, more)
      choose_group group false apart held pushed =
          held ∙ pushed ∙ ap (λ b. group_total others group + (if b then share f else 0)) apart
