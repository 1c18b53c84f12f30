-- Visits that stand latest first: one more goes to its place, those that pass a test stand in the same order, and so do
-- those from which a source goes.
use Rattle.std.proofs.Common.{◌≡◌, ◌≢◌, ◌&&◌, ◌||◌, ◌++◌, ◌∙◌, ℕ, Bool, true, false, List, [], ◌∷◌, ap, arith, eqb}
use Rattle.std.proofs.Common.{filter, if◌then◌else◌, ltb, map, refl, sym}
use Rattle.std.specs.List.{AllByRecursion}
use Rattle.std.proofs.lemmas.Bool.{false_from_ne_true, false≢true}
use Rattle.std.proofs.lemmas.Bool.Decides.{nat_tests}
use Rattle.pl_base.specs.declared.id.VisitId.{VisitId}
use Rattle.pl_base.specs.Removal.{visit_left}
use Rattle.pl_base.specs.Store.{Visit}
use Rattle.pl_base.specs.Visits.{in_place, is_later, latest_first}
use Rattle.pl_base.proofs.ListLaws.{all-filter, weaker}
use Rattle.pl_base.proofs.VisitsLaws.{Differ, all-in_place, all-latest_first, is_later-once}

-- ---- visits of different ids are in a strict order

after_all : (date other third id than last : ℕ) → ltb other date || (eqb other date && ltb than id) ≡ true
    → ltb third other || (eqb third other && ltb last than) ≡ true
    → ltb third date || (eqb third date && ltb last id) ≡ true
after_all date other third id than last first second = grind (arith, nat_tests)

pub later_on : (u v w : Visit) → is_later u v ≡ true → is_later v w ≡ true → is_later u w ≡ true
later_on u v w first second = after_all u.date.0 v.date.0 w.date.0 u.id.0 v.id.0 w.id.0 first second

one_after : (date other id than : ℕ) → id ≢ than → ltb other date || (eqb other date && ltb than id) ≡ false
    → ltb date other || (eqb date other && ltb id than) ≡ true
one_after date other id than differ not_later = grind (arith, nat_tests)

pub one_later : (v w : Visit) → v.id.0 ≢ w.id.0 → is_later v w ≡ false → is_later w v ≡ true
one_later v w differ not_later = one_after v.date.0 w.date.0 v.id.0 w.id.0 differ not_later

-- ---- one more goes to its place

in_front : (v w : Visit) (ws : List Visit) → is_later v w ≡ true → in_place v (w ∷ ws) ≡ v ∷ w ∷ ws
in_front v w ws is = ap (λ (b : Bool). if b then v ∷ w ∷ ws else w ∷ in_place v ws) is

behind : (v w : Visit) (ws : List Visit) → is_later v w ≡ false → in_place v (w ∷ ws) ≡ w ∷ in_place v ws
behind v w ws is = ap (λ (b : Bool). if b then v ∷ w ∷ ws else w ∷ in_place v ws) is

-- both stand in front of the others
both_front : (x v w : Visit) (ws : List Visit) → x.id.0 ≢ v.id.0 → is_later x w ≡ true → is_later v w ≡ true
    → in_place x (v ∷ w ∷ ws) ≡ in_place v (x ∷ w ∷ ws)
both_front x v w ws differ x_front v_front = choose (is_later x v) refl
  where
    choose : (b : Bool) → is_later x v ≡ b → in_place x (v ∷ w ∷ ws) ≡ in_place v (x ∷ w ∷ ws)
    choose true is =
        in_front x v (w ∷ ws) is
        ∙ sym (behind v x (w ∷ ws) (is_later-once x v is)
        ∙ ap (λ (us : List Visit). x ∷ us) (in_front v w ws v_front))
    choose false is =
        behind x v (w ∷ ws) is
        ∙ ap (λ (us : List Visit). v ∷ us) (in_front x w ws x_front)
        ∙ sym (in_front v x (w ∷ ws) (one_later x v differ is))

-- only one of them does
one_front : (x v w : Visit) (ws : List Visit) → is_later x w ≡ false → is_later v w ≡ true
    → in_place x (in_place v (w ∷ ws)) ≡ in_place v (in_place x (w ∷ ws))
one_front x v w ws x_behind v_front =
    let no : is_later x v ≡ false =
    false_from_ne_true (is_later x v) (λ is. false≢true (sym x_behind ∙ later_on x v w is v_front)) in
    ap (in_place x) (in_front v w ws v_front)
    ∙ behind x v (w ∷ ws) no
    ∙ ap (λ (us : List Visit). v ∷ us) (behind x w ws x_behind)
    ∙ sym (ap (in_place v) (behind x w ws x_behind) ∙ in_front v w (in_place x ws) v_front)

-- it is the same which of two is put first
either_first : (x v : Visit) → x.id.0 ≢ v.id.0 → (ws : List Visit)
    → in_place x (in_place v ws) ≡ in_place v (in_place x ws)
either_first x v differ [] = choose (is_later x v) refl
  where
    choose : (b : Bool) → is_later x v ≡ b → in_place x (v ∷ []) ≡ in_place v (x ∷ [])
    choose true is = in_front x v [] is ∙ sym (behind v x [] (is_later-once x v is))
    choose false is = behind x v [] is ∙ sym (in_front v x [] (one_later x v differ is))
either_first x v differ (w ∷ ws) = choose (is_later x w) (is_later v w) refl refl (either_first x v differ ws)
  where
    choose : (a b : Bool) → is_later x w ≡ a → is_later v w ≡ b
        → in_place x (in_place v ws) ≡ in_place v (in_place x ws)
        → in_place x (in_place v (w ∷ ws)) ≡ in_place v (in_place x (w ∷ ws))
    choose true true of_x of_v rest =
        ap (in_place x) (in_front v w ws of_v)
        ∙ both_front x v w ws differ of_x of_v
        ∙ sym (ap (in_place v) (in_front x w ws of_x))
    choose true false of_x of_v rest = sym (one_front v x w ws of_v of_x)
    choose false true of_x of_v rest = one_front x v w ws of_x of_v
    choose false false of_x of_v rest =
        ap (in_place x) (behind v w ws of_v)
        ∙ behind x w (in_place v ws) of_x
        ∙ ap (λ (us : List Visit). w ∷ us) rest
        ∙ sym (ap (in_place v) (behind x w ws of_x) ∙ behind v w (in_place x ws) of_v)

-- a visit behind all goes to its place among them
pub latest_push : (vs : List Visit) (v : Visit) → AllByRecursion (λ (w : Visit). w.id.0 ≢ v.id.0) vs
    → latest_first (vs ++ v ∷ []) ≡ in_place v (latest_first vs)
latest_push [] v differ = refl
latest_push (w ∷ vs) v differ =
    ap (in_place w) (latest_push vs v differ.1) ∙ either_first w v differ.0 (latest_first vs)

-- ---- those that pass a test stand in the same order

-- each is later than all behind it
abbrev pub InOrder : List Visit → Type 0
InOrder [] = Unit {0}
InOrder (v ∷ vs) = AllByRecursion (λ (w : Visit). is_later v w ≡ true) vs × InOrder vs

later_all : (v w : Visit) (ws : List Visit) → is_later v w ≡ true
    → AllByRecursion (λ (x : Visit). is_later w x ≡ true) ws → AllByRecursion (λ (x : Visit). is_later v x ≡ true) ws
later_all v w ws later all =
    weaker (λ (x : Visit). is_later w x ≡ true) (λ (x : Visit). is_later v x ≡ true) ws
    (λ x further. later_on v w x later further) all

placed_in_order : (v : Visit) (ws : List Visit) → AllByRecursion (λ (w : Visit). w.id.0 ≢ v.id.0) ws → InOrder ws
    → InOrder (in_place v ws)
placed_in_order v [] differ ordered = (tt, tt)
placed_in_order v (w ∷ ws) differ ordered =
    choose (is_later v w) refl (placed_in_order v ws differ.1 ordered.1)
  where
    choose : (b : Bool) → is_later v w ≡ b → InOrder (in_place v ws)
        → InOrder (if b then v ∷ w ∷ ws else w ∷ in_place v ws)
    choose true later rest = ((later, later_all v w ws later ordered.0), ordered)
    choose false earlier rest = (
      all-in_place (λ (x : Visit). is_later w x ≡ true) v ws (one_later v w (λ same. differ.0 (sym same)) earlier)
          ordered.0,
      rest,
    )

pub latest_in_order : (vs : List Visit) → Differ vs → InOrder (latest_first vs)
latest_in_order [] differ = tt
latest_in_order (v ∷ vs) differ =
    placed_in_order v (latest_first vs) (all-latest_first (λ (w : Visit). w.id.0 ≢ v.id.0) vs differ.0)
    (latest_in_order vs differ.1)

before_all : (v : Visit) (ws : List Visit) → AllByRecursion (λ (w : Visit). is_later v w ≡ true) ws
    → in_place v ws ≡ v ∷ ws
before_all v [] all = refl
before_all v (w ∷ ws) all = in_front v w ws all.0

module _ (q : Visit → Bool) where
  pass_by : (keeps_v keeps_w : Bool) (v w : Visit) (ws : List Visit) → is_later v w ≡ false
      → (if keeps_w then w ∷ (if keeps_v then in_place v ws else ws) else (if keeps_v then in_place v ws else ws))
      ≡ (if keeps_v then in_place v (if keeps_w then w ∷ ws else ws) else (if keeps_w then w ∷ ws else ws))
  pass_by true true v w ws earlier = sym (behind v w ws earlier)
  pass_by true false v w ws earlier = refl
  pass_by false true v w ws earlier = refl
  pass_by false false v w ws earlier = refl

  part_placed : (v : Visit) (ws : List Visit) → InOrder ws
      → filter q (in_place v ws) ≡ (if q v then in_place v (filter q ws) else filter q ws)
  part_placed v [] ordered = refl
  part_placed v (w ∷ ws) ordered = choose (is_later v w) refl (part_placed v ws ordered.1)
    where
      choose : (b : Bool) → is_later v w ≡ b
          → filter q (in_place v ws) ≡ (if q v then in_place v (filter q ws) else filter q ws)
          → filter q (if b then v ∷ w ∷ ws else w ∷ in_place v ws)
          ≡ (if q v then in_place v (filter q (w ∷ ws)) else filter q (w ∷ ws))
      choose true later rest =
          ap (λ (us : List Visit). if q v then us else filter q (w ∷ ws))
          (sym (before_all v (filter q (w ∷ ws))
          (all-filter (λ (x : Visit). is_later v x ≡ true) q (w ∷ ws) (later, later_all v w ws later ordered.0))))
      choose false earlier rest =
          ap (λ (us : List Visit). if q w then w ∷ us else us) rest
          ∙ pass_by (q v) (q w) v w (filter q ws) earlier

  pub latest_part : (vs : List Visit) → Differ vs → filter q (latest_first vs) ≡ latest_first (filter q vs)
  latest_part [] differ = refl
  latest_part (v ∷ vs) differ =
      part_placed v (latest_first vs) (latest_in_order vs differ.1) ∙ choose (q v) (latest_part vs differ.1)
    where
      choose : (b : Bool) → filter q (latest_first vs) ≡ latest_first (filter q vs)
          → (if b then in_place v (filter q (latest_first vs)) else filter q (latest_first vs))
          ≡ latest_first (if b then v ∷ filter q vs else filter q vs)
      choose true rest = ap (in_place v) rest
      choose false rest = rest

-- ---- those from which a source goes stand in the same order

module _ (gone : List VisitId) where
  left_placed : (v : Visit) (ws : List Visit)
      → in_place (visit_left gone v) (map (visit_left gone) ws) ≡ map (visit_left gone) (in_place v ws)
  left_placed v [] = refl
  left_placed v (w ∷ ws) = choose (is_later v w) (left_placed v ws)
    where
      choose : (b : Bool)
          → in_place (visit_left gone v) (map (visit_left gone) ws) ≡ map (visit_left gone) (in_place v ws)
          → (if b then visit_left gone v ∷ visit_left gone w ∷ map (visit_left gone) ws
          else visit_left gone w ∷ in_place (visit_left gone v) (map (visit_left gone) ws))
          ≡ map (visit_left gone) (if b then v ∷ w ∷ ws else w ∷ in_place v ws)
      choose true rest = refl
      choose false rest = ap (λ (us : List Visit). visit_left gone w ∷ us) rest

  pub latest_left : (vs : List Visit)
      → latest_first (map (visit_left gone) vs) ≡ map (visit_left gone) (latest_first vs)
  latest_left [] = refl
  latest_left (v ∷ vs) = ap (in_place (visit_left gone v)) (latest_left vs) ∙ left_placed v (latest_first vs)
