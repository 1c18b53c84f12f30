-- A walk over the visits that came from one, up to the first that no redirect made: the pages of
-- the redirects.
use Rattle.std.proofs.Common.{◌≡◌, ◌≢◌, ◌++◌, ◌∙◌, Bool, true, false, List, [], ◌∷◌}
use Rattle.std.proofs.Common.{Option, Some, ap, append_assoc, if◌then◌else◌, map, refl, sym}
use Rattle.std.specs.List.{AllByRecursion}
use Rattle.std.specs.Option.{IsSome, option_map}
use Rattle.std.proofs.lemmas.List.{append-nil, map_push}
use Rattle.pl_base.specs.declared.id.PageId.{PageId}
use Rattle.pl_base.specs.declared.id.VisitId.{VisitId}
use Rattle.pl_base.specs.declared.row.VisitRow.{VisitRow}
use Rattle.pl_base.specs.Redirects.{is_redirect}
use Rattle.pl_base.specs.Rows.{AreTargets, IsWellKept, Kept, row_of, store_of, target_behind, visit_at}
use Rattle.pl_base.specs.Store.{Visit}
use Rattle.pl_base.proofs.ListLaws.{all_push, weaker}
use Rattle.pl_base.proofs.TargetsRun.{IsAny, IsTarget, Targets, all_any, targets_of, targets_run}
use Rattle.pl_base.proofs.VisitsRun.{row_is, visit_names}
use Rattle.pl_base.proofs.Walk.{StandsAt, Walk, ends, goes_on, holds_here}
use Rattle.pl_history.specs.Borne.{WithRedirectPages}

-- the visits in front are redirects, and their pages stand behind the old ones
pub record ArePagesOf (old now : List PageId) (front : List Visit) : Type 0 where
  pub made : AllByRecursion (λ (v : Visit). is_redirect v.transition ≡ true) front
  pub pages : now ≡ old ++ map (λ (v : Visit). v.page) front

pub no_pages : (old : List PageId) → ArePagesOf old old []
no_pages old = record { made = tt; pages = sym (append-nil old) }

module _ (kept : Kept) (source : VisitId) (targets : VisitId → List Visit) (h : IsWellKept kept)
    (are : AreTargets (store_of kept) source (targets source)) where
  known : Targets kept source (targets source)
  known = targets_of kept source (targets source) h are

  module _ (old now : List PageId) (id : VisitId)
      (w : StandsAt visit_names (targets source) (ArePagesOf old now) id) where
    -- the target that the walk stands at is found by its id
    at_here : visit_at kept id ≡ Some w.element
    at_here =
        ap (visit_at kept) (sym w.is)
        ∙ (holds_here visit_names (targets source) (ArePagesOf old now) (IsAny kept source) id
        (all_any kept source (targets source) known) w).0

    pub told_here : (row : Option VisitRow) → row ≡ option_map row_of (visit_at kept id) → IsSome row
    told_here row told = rw (told, at_here) refl

    row_here : (row : VisitRow) → Some row ≡ option_map row_of (visit_at kept id) → row ≡ row_of w.element
    row_here row told = row_is kept id row w.element told at_here

    pub pages_go_on : (more : List PageId) (row : VisitRow) (next : Option VisitId)
        → Some row ≡ option_map row_of (visit_at kept id) → is_redirect row.transition ≡ true
        → more ≡ now ++ row.page ∷ [] → next ≡ target_behind targets kept id
        → Walk visit_names (targets source) (ArePagesOf old more) next
    pages_go_on more row next told redirect pushed following =
        let is : row ≡ row_of w.element = row_here row told in
        goes_on visit_names (target_behind targets kept) (targets source) (ArePagesOf old now) (ArePagesOf old more) id
        next (targets_run kept source targets h are) w following
        record {
          made =
              all_push (λ (v : Visit). is_redirect v.transition ≡ true) w.front w.element w.so_far.made
              (ap (λ (r : VisitRow). is_redirect r.transition) (sym is) ∙ redirect);
          pages =
              pushed ∙ ap (λ (ps : List PageId). ps ++ row.page ∷ []) w.so_far.pages
              ∙ append_assoc old (map (λ (v : Visit). v.page) w.front) (row.page ∷ [])
              ∙ ap (λ (r : VisitRow). old ++ (map (λ (v : Visit). v.page) w.front ++ r.page ∷ [])) is
              ∙ ap (λ (ps : List PageId). old ++ ps) (sym (map_push (λ (v : Visit). v.page) w.front w.element));
        }

-- ---- where it ends

-- the redirects in front
redirects_in_front : List Visit → List Visit
redirects_in_front [] = []
redirects_in_front (v ∷ vs) = if is_redirect v.transition then v ∷ redirects_in_front vs else []

in_front : (front rest : List Visit) → AllByRecursion (λ (v : Visit). is_redirect v.transition ≡ true) front
    → redirects_in_front (front ++ rest) ≡ front ++ redirects_in_front rest
unfolding redirects_in_front
in_front [] rest all = refl
in_front (v ∷ vs) rest all =
    ap (λ (b : Bool). if b then v ∷ redirects_in_front (vs ++ rest) else []) all.0
    ∙ ap (λ (ws : List Visit). v ∷ ws) (in_front vs rest all.1)

none_in_front : (vs : List Visit) → AllByRecursion (λ (v : Visit). is_redirect v.transition ≡ false) vs
    → redirects_in_front vs ≡ []
unfolding redirects_in_front
none_in_front [] all = refl
none_in_front (v ∷ vs) all = ap (λ (b : Bool). if b then v ∷ redirects_in_front vs else []) all.0

first_other : (v : Visit) (vs : List Visit) → is_redirect v.transition ≡ false → redirects_in_front (v ∷ vs) ≡ []
unfolding redirects_in_front
first_other v vs other = ap (λ (b : Bool). if b then v ∷ redirects_in_front vs else []) other

all_walked : (kept : Kept) (source : VisitId) (targets : List Visit) (old now : List PageId) (front rest : List Visit)
    → IsWellKept kept → AreTargets (store_of kept) source targets → targets ≡ front ++ rest
    → ArePagesOf old now front → redirects_in_front rest ≡ [] → WithRedirectPages kept source old now
all_walked kept source targets old now front rest h t whole so_far end =
    let known : Targets kept source targets = targets_of kept source targets h t in
    let redirects : redirects_in_front targets ≡ known.redirects =
    ap redirects_in_front known.is
    ∙ in_front known.redirects known.others
    (weaker (IsTarget kept source true) (λ (v : Visit). is_redirect v.transition ≡ true) known.redirects
    (λ v is. is.2) known.made)
    ∙ ap (λ (vs : List Visit). known.redirects ++ vs)
    (none_in_front known.others
    (weaker (IsTarget kept source false) (λ (v : Visit). is_redirect v.transition ≡ false) known.others
    (λ v is. is.2) known.rest))
    ∙ append-nil known.redirects in
    let all : front ≡ known.redirects =
    sym (ap redirects_in_front whole ∙ in_front front rest so_far.made ∙ ap (λ (vs : List Visit). front ++ vs) end
    ∙ append-nil front)
    ∙ redirects in
    record {
      redirects = known.redirects;
      all = known.all;
      is = so_far.pages ∙ ap (λ (vs : List Visit). old ++ map (λ (v : Visit). v.page) vs) all;
    }

-- at a visit that no redirect made
pub pages_stop : (kept : Kept) (source : VisitId) (targets : VisitId → List Visit) (old now : List PageId)
    (id : VisitId) (row : VisitRow) (h : IsWellKept kept)
    (are : AreTargets (store_of kept) source (targets source))
    → StandsAt visit_names (targets source) (ArePagesOf old now) id
    → Some row ≡ option_map row_of (visit_at kept id) → is_redirect row.transition ≡ false
    → WithRedirectPages kept source old now
pages_stop kept source targets old now id row h are w told other =
    all_walked kept source (targets source) old now w.front (w.element ∷ w.rest) h are w.whole w.so_far
    (first_other w.element w.rest
    (ap (λ (r : VisitRow). is_redirect r.transition) (sym (row_here kept source targets h are old now id w row told))
    ∙ other))

-- or behind all
pub pages_end : (kept : Kept) (source : VisitId) (targets : List Visit) (old now : List PageId)
    (next : Option VisitId) → IsWellKept kept → AreTargets (store_of kept) source targets
    → Walk visit_names targets (ArePagesOf old now) next → ((id : VisitId) → next ≢ Some id)
    → WithRedirectPages kept source old now
pages_end kept source targets old now next h t w none =
    all_walked kept source targets old now targets [] h t (sym (append-nil targets))
    (ends visit_names targets (ArePagesOf old now) next w none) (none_in_front [] tt)
