-- What totals stand for, once a view has gone, come, or taken the place of another.
use Rattle.std.proofs.Common.{◌≡◌, ◌≢◌, ◌+◌, ◌<◌, ◌++◌, ◌^◌, ◌∙◌, ℕ, pos, Bool, true, false, List, [], ◌∷◌}
use Rattle.std.proofs.Common.{Option, Some, ◌==◌, ◌&&◌, ap, arith, bytes_eq, if◌then◌else◌, length, refl, subst, sym}
use Rattle.std.specs.declared.cmp.Ordering.{Ordering}
use Rattle.std.specs.declared.cmp.Ordering.TheVariants.{Less, Equal, Greater}
use Rattle.std.specs.BTreeSet.{insert_key}
use Rattle.std.specs.Ordering.{match_ordering}
use Rattle.std.proofs.lemmas.Bool.{and_parts}
use Rattle.std.proofs.lemmas.List.{length-map}
use Rattle.std.proofs.lemmas.Slice.Eq.{bytes_eq-Decides}
use Rattle.pl_base.specs.declared.id.PageId.{PageId}
use Rattle.pl_base.specs.declared.view.View.{View}
use Rattle.pl_base.specs.Live.{slot_limit}
use Rattle.pl_base.specs.Totals.{Origin, Scored, is_origin, share}
use Rattle.pl_base.specs.View.{scored_views}
use Rattle.pl_base.proofs.IdsLaws.{same_page}
use Rattle.pl_base.proofs.ListLaws.{sum_by-map}
use Rattle.pl_follow.specs.Changes.{AreInOrder, FitStore, Suits, removed, with_view, without_id}
use Rattle.pl_follow.proofs.ChangedLists.{added_in_order, rest_fits}
use Rattle.pl_follow.proofs.Parted.{Parted, added_parted, ascend, parted_length, parted_sum, removed_in_order}
use Rattle.pl_follow.proofs.Parted.{removed_parted}
use Rattle.pl_totals.specs.declared.kept.Pages.{Pages}
use Rattle.pl_totals.specs.declared.kept.Pages.TheVariants.{Comes, Goes, Stay}
use Rattle.pl_totals.specs.declared.kept.Step.{Step}
use Rattle.pl_totals.specs.declared.totals.Totals.{Totals}
use Rattle.pl_totals.specs.Held.{Held, after, by_id, held_at, pages_after, settled}
use Rattle.pl_totals.specs.Standing.{HasRoom, MayCome, MayGo, MayTurn, Stands, StandsFor, Steps, has_origin}
use Rattle.pl_totals.specs.Standing.{pages_of}
use Rattle.pl_totals.proofs.OriginPages.{no_total, pages_same, pages_with, pages_without}
use Rattle.pl_totals.proofs.Pushed.{equal, itself, shares, shares-push}
use Rattle.pl_totals.proofs.Stepped.{room, same_share, scored, stands_among, stands_behind, stepped_stands}
use Rattle.pl_totals.proofs.Stepped.{with_none, without_none}

-- the origin of a view
abbrev origin_of : View → Origin
origin_of view = (view.prefix, view.host)

abbrev step_of : Pages → ℕ → ℕ → Step
step_of pages from to = record { pages = pages; from = from; to = to }

-- ---- sizes

small_others : (views : List View) → FitStore views → shares (scored_views views) < 2 ^ 36
small_others views are = omega (arith, are.sum, sum_by-map (λ (s : Scored). share s.1) scored views)

few_others : (views : List View) → FitStore views → length (scored_views views) < slot_limit
few_others views are = omega (arith, are.few, length-map views scored)

small_with : (views others : List View) (view : View) → Parted views view others → FitStore views
    → shares (scored_views others ++ scored view ∷ []) < 2 ^ 36
small_with views others view p are =
    omega (
      arith,
      are.sum,
      parted_sum (λ (v : View). share v.frecency) views others view p,
      sum_by-map (λ (s : Scored). share s.1) scored others,
      shares-push (scored_views others) (scored view),
    )

few_with : (views others : List View) (view : View) → Parted views view others → FitStore views
    → length (scored_views others) < slot_limit
few_with views others view p are =
    omega (arith, are.few, parted_length views others view p, length-map others scored)

-- ---- pages after a step

settled_pages : (h : Held) → (settled h).1 ≡ h.1
settled_pages (total, []) = refl
settled_pages (total, page ∷ pages) = refl

-- where one more was put in there is some
some_in : (ids : List PageId) (id : PageId) → insert_key by_id ids id ≢ []
some_in [] id none = absurd (cc)
some_in (x ∷ ids) id none = choose (by_id id x) none
  where
    choose : (o : Ordering) → match_ordering o (id ∷ x ∷ ids) (x ∷ ids) (x ∷ insert_key by_id ids id) ≡ [] → ⊥
    choose Less none = absurd (cc)
    choose Equal none = absurd (cc)
    choose Greater none = absurd (cc)

-- the pages of each origin, where those of one are right after the step, and the others stay
pages_stepped : (old new : Totals) (o : Origin) (step : Step) (before behind : List View)
    → ((x : Origin) → (held_at old.origins x).1 ≡ pages_of x before) → Steps o step old new
    → pages_after step.pages (pages_of o before) ≡ pages_of o behind
    → ((x : Origin) → is_origin o x ≡ false → pages_of x before ≡ pages_of x behind)
    → (x : Origin) → (held_at new.origins x).1 ≡ pages_of x behind
pages_stepped old new o step before behind was steps here others x =
    ap (λ (h : Held). h.1) (steps.origins x) ∙ choose (is_origin o x) refl
  where
    choose : (b : Bool) → is_origin o x ≡ b
        → (if b then settled (after step (held_at old.origins o)) else held_at old.origins x).1 ≡ pages_of x behind
    choose true same =
        settled_pages (after step (held_at old.origins o)) ∙ ap (pages_after step.pages) (was o) ∙ here
        ∙ ap (λ (y : Origin). pages_of y behind) (equal o x same)
    choose false apart = was x ∙ others x apart

-- ---- a view that comes

pub can_gain : (totals : Totals) (view : View) (views : List View) → Stands totals views → MayCome view views
    → HasRoom (origin_of view) (step_of (Comes view.id) 0 (share view.frecency)) totals
can_gain totals view views stands may =
    let p : Parted (with_view view views) view views = added_parted view views in
    room (scored_views views) (origin_of view) (pos 0) view.frecency (Comes view.id) totals
    (with_none totals (scored_views views) (origin_of view) stands.told)
    (small_with (with_view view views) views view p may.becomes)
    (few_with (with_view view views) views view p may.becomes)

pub gained : (old new : Totals) (view : View) (views : List View) → Stands old views → MayCome view views
    → Steps (origin_of view) (step_of (Comes view.id) 0 (share view.frecency)) old new
    → Stands new (with_view view views)
gained old new view views stands may steps =
    let o : Origin = origin_of view in
    let whole : List View = with_view view views in
    let p : Parted whole view views = added_parted view views in
    let ordered : AreInOrder whole = added_in_order view views stands.in_order may.fresh in
    let here : has_origin o view ≡ true = itself o in
    record {
      in_order = ordered;
      told =
          stands_among new whole views view p
          (stepped_stands (scored_views views) o (pos 0) view.frecency (Comes view.id) old new
          (with_none old (scored_views views) o stands.told) steps
          (λ none. absurd (some_in (held_at old.origins o).1 view.id none)));
      pages =
          pages_stepped old new o (step_of (Comes view.id) 0 (share view.frecency)) views whole stands.pages steps
          (pages_with o whole views view p ordered here)
          (λ x apart. sym (pages_same x whole views view p apart));
    }

-- ---- a view that goes

pub can_lose : (totals : Totals) (view : View) (views : List View) → Stands totals views → MayGo view views
    → HasRoom (origin_of view) (step_of (Goes view.id) (share view.frecency) 0) totals
can_lose totals view views stands may =
    let others : List View = without_id view.id views in
    let o : Origin = origin_of view in
    let p : Parted views view others = removed_parted view views (ascend views stands.in_order) may.contains in
    room (scored_views others) o view.frecency (pos 0) (Goes view.id) totals
    (stands_behind totals views others view p stands.told)
    (omega (arith, small_others others may.others, shares-push (scored_views others) (o, pos 0)))
    (few_others others may.others)

pub lost : (old new : Totals) (view : View) (views : List View) → Stands old views → MayGo view views
    → Steps (origin_of view) (step_of (Goes view.id) (share view.frecency) 0) old new
    → Stands new (without_id view.id views)
lost old new view views stands may steps =
    let o : Origin = origin_of view in
    let others : List View = without_id view.id views in
    let p : Parted views view others = removed_parted view views (ascend views stands.in_order) may.contains in
    let here : has_origin o view ≡ true = itself o in
    let left : pages_after (Goes view.id) (pages_of o views) ≡ pages_of o others =
    pages_without o views others view p stands.in_order here in
    record {
      in_order = removed_in_order view.id views stands.in_order;
      told =
          without_none new (scored_views others) o
          (stepped_stands (scored_views others) o view.frecency (pos 0) (Goes view.id) old new
          (stands_behind old views others view p stands.told) steps
          (λ none. ap (λ n. n + 0) (no_total o others
          (sym left ∙ ap (pages_after (Goes view.id)) (sym (stands.pages o)) ∙ none))));
      pages =
          pages_stepped old new o (step_of (Goes view.id) (share view.frecency) 0) views others stands.pages steps left
          (λ x apart. pages_same x views others view p apart);
    }

-- ---- a view in place of one of the same page and origin

module _ (old : Totals) (was is : View) (views : List View) (stands : Stands old views)
    (may : MayTurn was is views) where
  abbrev others : List View
  others = without_id was.id views

  abbrev whole : List View
  whole = with_view is others

  abbrev here : Origin
  here = origin_of is

  parted_old : Parted views was others
  parted_old = removed_parted was views (ascend views stands.in_order) may.contains

  parted_new : Parted whole is others
  parted_new = added_parted is others

  same_origin : origin_of was ≡ here
  same_origin =
      ap (λ (x : List ℕ). (x, was.host)) may.one.prefix ∙ ap (λ (y : List ℕ). (is.prefix, y)) may.one.host

  told_old : StandsFor old (scored_views others ++ (here, was.frecency) ∷ [])
  told_old =
      subst (λ (o : Origin). StandsFor old (scored_views others ++ (o, was.frecency) ∷ [])) same_origin
      (stands_behind old views others was parted_old stands.told)

  has_old : has_origin here was ≡ true
  has_old = ap (λ (o : Origin). is_origin o here) same_origin ∙ itself here

  ordered : AreInOrder whole
  ordered = added_in_order is others (removed_in_order was.id views stands.in_order) may.fresh

  -- the pages of each origin stay
  pages_here : pages_of here views ≡ pages_of here whole
  pages_here =
      sym (pages_with here views others was parted_old stands.in_order has_old)
      ∙ ap (λ (id : PageId). insert_key by_id (pages_of here others) id) may.one.id
      ∙ pages_with here whole others is parted_new ordered (itself here)

  pages_there : (x : Origin) → is_origin here x ≡ false → pages_of x views ≡ pages_of x whole
  pages_there x apart =
      pages_same x views others was parted_old (ap (λ (o : Origin). is_origin o x) same_origin ∙ apart)
      ∙ sym (pages_same x whole others is parted_new apart)

  held_here : (held_at old.origins here).1 ≢ []
  held_here none =
      some_in (pages_of here others) was.id
      (pages_with here views others was parted_old stands.in_order has_old ∙ sym (stands.pages here) ∙ none)

  pub can_turn : HasRoom here (step_of Stay (share was.frecency) (share is.frecency)) old
  can_turn =
      room (scored_views others) here was.frecency is.frecency Stay old told_old
      (small_with whole others is parted_new may.becomes) (few_with whole others is parted_new may.becomes)

  pub turned : (new : Totals) → Steps here (step_of Stay (share was.frecency) (share is.frecency)) old new
      → Stands new whole
  turned new steps =
      record {
        in_order = ordered;
        told =
            stands_among new whole others is parted_new
            (stepped_stands (scored_views others) here was.frecency is.frecency Stay old new told_old steps
            (λ none. absurd (held_here none)));
        pages =
            pages_stepped old new here (step_of Stay (share was.frecency) (share is.frecency)) views whole stands.pages
            steps pages_here pages_there;
      }

  -- the same where nothing is done, since the shares are equal
  pub left : share was.frecency ≡ share is.frecency → Stands old whole
  left same =
      record {
        in_order = ordered;
        told =
            stands_among old whole others is parted_new
            (same_share old (scored_views others) here was.frecency is.frecency same told_old);
        pages = λ x. stands.pages x ∙ everywhere x (is_origin here x) refl;
      }
    where
      everywhere : (x : Origin) (b : Bool) → is_origin here x ≡ b → pages_of x views ≡ pages_of x whole
      everywhere x true one =
          ap (λ (o : Origin). pages_of o views) (sym (equal here x one)) ∙ pages_here
          ∙ ap (λ (o : Origin). pages_of o whole) (equal here x one)
      everywhere x false apart = pages_there x apart

-- ---- what suits a change

pub goes : (old : View) (new : Option View) (views : List View) → Suits (Some old) new views → MayGo old views
goes old new views suits = record { contains = suits.goes; others = rest_fits (Some old) new views suits }

pub comes : (old : Option View) (new : View) (views : List View) → Suits old (Some new) views
    → MayCome new (removed old views)
comes old new views suits = record { fresh = suits.comes; becomes = suits.becomes }

pub turns : (old new : View) (views : List View) → Suits (Some old) (Some new) views
    → (old.id.0 == new.id.0 && (bytes_eq old.prefix new.prefix && bytes_eq old.host new.host)) ≡ true
    → MayTurn old new views
turns old new views suits alike =
    let parts = and_parts (old.id.0 == new.id.0) (bytes_eq old.prefix new.prefix && bytes_eq old.host new.host) alike in
    let texts = and_parts (bytes_eq old.prefix new.prefix) (bytes_eq old.host new.host) parts.1 in
    record {
      contains = suits.goes;
      fresh = suits.comes;
      becomes = suits.becomes;
      one =
          record {
            id = same_page old.id new.id parts.0;
            prefix = (bytes_eq-Decides old.prefix new.prefix).0 texts.0;
            host = (bytes_eq-Decides old.host new.host).0 texts.1;
          };
    }
