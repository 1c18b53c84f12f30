-- Lists of visits when some of them go.
use Rattle.std.proofs.Common.{◌≡◌, ◌≢◌, ◌∙◌, ◌+◌, ◌==◌, ◌||◌, ◌++◌, ℕ, Bool, true, false, List, [], ◌∷◌}
use Rattle.std.proofs.Common.{Option, Some, None}
use Rattle.std.proofs.Common.{ap, arith, cond, count_by, eq-eqb, filter, find, if◌then◌else◌, length, map, not, refl}
use Rattle.std.proofs.Common.{sym}
use Rattle.std.specs.List.{AllByRecursion, list_any}
use Rattle.std.specs.Option.{IsSome, option_map}
use Rattle.std.proofs.lemmas.Bool.{eqb-true, false≢true, ne_eqb}
use Rattle.std.proofs.lemmas.List.Folds.{list_any-append}
use Rattle.std.proofs.lemmas.List.Sums.{sum_by-cons}
use Rattle.pl_base.specs.declared.id.VisitId.{VisitId}
use Rattle.pl_base.specs.Removal.{is_among, source_left, visit_left, visits_left}
use Rattle.pl_base.specs.Store.{Visit}
use Rattle.pl_base.specs.Visits.{in_place, is_later, latest_first}
use Rattle.pl_base.proofs.ListLaws.{found_in, weaker}
use Rattle.pl_base.proofs.VisitsLaws.{Differ}

-- ---- tests of what is left

-- no visit that goes passes the test, and each that stays passes it as before
abbrev pub Keeps : List VisitId → (Visit → Bool) → (Visit → Bool) → Visit → Type 0
Keeps gone p q v = (is_among gone v.id ≡ true → q v ≡ false) × (p (visit_left gone v) ≡ q v)

-- those that stay
abbrev staying : List VisitId → List Visit → List Visit
staying gone vs = filter (λ (v : Visit). not (is_among gone v.id)) vs

pub any_left : (gone : List VisitId) (p q : Visit → Bool) (vs : List Visit) → AllByRecursion (Keeps gone p q) vs
    → list_any p (visits_left gone vs) ≡ list_any q vs
any_left gone p q [] all = refl
any_left gone p q (v ∷ vs) all = choose (is_among gone v.id) refl (any_left gone p q vs all.1)
  where
    choose : (b : Bool) → is_among gone v.id ≡ b → list_any p (visits_left gone vs) ≡ list_any q vs
        → list_any p (map (visit_left gone) (if not b then v ∷ staying gone vs else staying gone vs))
        ≡ (q v || list_any q vs)
    choose true goes rest = rest ∙ ap (λ (t : Bool). t || list_any q vs) (sym (all.0.0 goes))
    choose false stays rest =
        ap (λ (t : Bool). t || list_any p (visits_left gone vs)) all.0.1 ∙ ap (λ (t : Bool). q v || t) rest

bit : Bool → ℕ
bit b = cond b 1 0

no_bit : bit false ≡ 0
unfolding bit
no_bit = refl

count_cons : (p : Visit → Bool) (v : Visit) (vs : List Visit) → count_by p (v ∷ vs) ≡ bit (p v) + count_by p vs
unfolding bit
count_cons p v vs = sum_by-cons (λ (w : Visit). cond (p w) 1 0) v vs

pub count_left : (gone : List VisitId) (p q : Visit → Bool) (vs : List Visit) → AllByRecursion (Keeps gone p q) vs
    → count_by p (visits_left gone vs) ≡ count_by q vs
count_left gone p q [] all = refl
count_left gone p q (v ∷ vs) all =
    choose (is_among gone v.id) refl (count_left gone p q vs all.1) ∙ sym (count_cons q v vs)
  where
    choose : (b : Bool) → is_among gone v.id ≡ b → count_by p (visits_left gone vs) ≡ count_by q vs
        → count_by p (map (visit_left gone) (if not b then v ∷ staying gone vs else staying gone vs))
        ≡ bit (q v) + count_by q vs
    choose true goes rest = omega (arith, rest, ap bit (all.0.0 goes), no_bit)
    choose false stays rest =
        omega (arith, count_cons p (visit_left gone v) (visits_left gone vs), ap bit all.0.1, rest)

pub filter_left : (gone : List VisitId) (p q : Visit → Bool) (vs : List Visit) → AllByRecursion (Keeps gone p q) vs
    → filter p (visits_left gone vs) ≡ map (visit_left gone) (filter q vs)
filter_left gone p q [] all = refl
filter_left gone p q (v ∷ vs) all = choose (is_among gone v.id) refl (filter_left gone p q vs all.1)
  where
    pull : (t : Bool) → (if t then visit_left gone v ∷ map (visit_left gone) (filter q vs)
        else map (visit_left gone) (filter q vs))
        ≡ map (visit_left gone) (if t then v ∷ filter q vs else filter q vs)
    pull true = refl
    pull false = refl

    choose : (b : Bool) → is_among gone v.id ≡ b
        → filter p (visits_left gone vs) ≡ map (visit_left gone) (filter q vs)
        → filter p (map (visit_left gone) (if not b then v ∷ staying gone vs else staying gone vs))
        ≡ map (visit_left gone) (if q v then v ∷ filter q vs else filter q vs)
    choose true goes rest =
        rest
        ∙ ap (λ (t : Bool). map (visit_left gone) (if t then v ∷ filter q vs else filter q vs)) (sym (all.0.0 goes))
    choose false stays rest =
        ap (λ (t : Bool). if t then visit_left gone v ∷ filter p (visits_left gone vs)
        else filter p (visits_left gone vs)) all.0.1
        ∙ ap (λ (ws : List Visit). if q v then visit_left gone v ∷ ws else ws) rest ∙ pull (q v)

pub find_left : (gone : List VisitId) (p q : Visit → Bool) (vs : List Visit) → AllByRecursion (Keeps gone p q) vs
    → find p (visits_left gone vs) ≡ option_map (visit_left gone) (find q vs)
find_left gone p q [] all = refl
find_left gone p q (v ∷ vs) all = choose (is_among gone v.id) refl (find_left gone p q vs all.1)
  where
    pull : (t : Bool) → (if t then Some (visit_left gone v) else option_map (visit_left gone) (find q vs))
        ≡ option_map (visit_left gone) (if t then Some v else find q vs)
    pull true = refl
    pull false = refl

    choose : (b : Bool) → is_among gone v.id ≡ b
        → find p (visits_left gone vs) ≡ option_map (visit_left gone) (find q vs)
        → find p (map (visit_left gone) (if not b then v ∷ staying gone vs else staying gone vs))
        ≡ option_map (visit_left gone) (if q v then Some v else find q vs)
    choose true goes rest =
        rest ∙ ap (λ (t : Bool). option_map (visit_left gone) (if t then Some v else find q vs)) (sym (all.0.0 goes))
    choose false stays rest =
        ap (λ (t : Bool). if t then Some (visit_left gone v) else find p (visits_left gone vs)) all.0.1
        ∙ ap (λ (o : Option Visit). if q v then Some (visit_left gone v) else o) rest ∙ pull (q v)

-- what holds of all holds of those that are left
pub all_left : (P Q : Visit → Type 0) (gone : List VisitId) (vs : List Visit)
    → ((v : Visit) → P v → Q (visit_left gone v))
    → AllByRecursion P vs → AllByRecursion Q (visits_left gone vs)
all_left P Q gone [] stays all = tt
all_left P Q gone (v ∷ vs) stays all = choose (is_among gone v.id) (all_left P Q gone vs stays all.1)
  where
    choose : (b : Bool) → AllByRecursion Q (visits_left gone vs)
        → AllByRecursion Q (map (visit_left gone) (if not b then v ∷ staying gone vs else staying gone vs))
    choose true rest = rest
    choose false rest = (stays v all.0, rest)

-- ---- in order

place_left : (gone : List VisitId) (v : Visit) (ws : List Visit)
    → in_place (visit_left gone v) (map (visit_left gone) ws) ≡ map (visit_left gone) (in_place v ws)
place_left gone v [] = refl
place_left gone v (w ∷ ws) = choose (is_later v w) (place_left gone v ws)
  where
    choose : (b : Bool)
        → in_place (visit_left gone v) (map (visit_left gone) ws) ≡ map (visit_left gone) (in_place v ws)
        → (if b then visit_left gone v ∷ visit_left gone w ∷ map (visit_left gone) ws
        else visit_left gone w ∷ in_place (visit_left gone v) (map (visit_left gone) ws))
        ≡ map (visit_left gone) (if b then v ∷ w ∷ ws else w ∷ in_place v ws)
    choose true rest = refl
    choose false rest = ap (λ (vs : List Visit). visit_left gone w ∷ vs) rest

pub order_left : (gone : List VisitId) (vs : List Visit)
    → latest_first (map (visit_left gone) vs) ≡ map (visit_left gone) (latest_first vs)
order_left gone [] = refl
order_left gone (v ∷ vs) =
    ap (in_place (visit_left gone v)) (order_left gone vs) ∙ place_left gone v (latest_first vs)

-- ---- one visit

same_way : (a b : ℕ) (r : Bool) → (a == b) ≡ r → ((b == a) || false) ≡ r
same_way a b true is = rw (eq-eqb b a (sym (eqb-true a b is))) refl
same_way a b false is =
    rw (ne_eqb b a (λ same. false≢true (sym is ∙ eq-eqb a b (sym same)))) refl

pub among_one : (id other : VisitId) (r : Bool) → (other.0 == id.0) ≡ r → is_among (id ∷ []) other ≡ r
among_one id other r is = same_way other.0 id.0 r is

one_among : (a b : ℕ) → ((a == b) || false) ≡ true → (b == a) ≡ true
one_among a b is = choose (a == b) refl is
  where
    choose : (t : Bool) → (a == b) ≡ t → (t || false) ≡ true → (b == a) ≡ true
    choose true same _ = eq-eqb b a (sym (eqb-true a b same))
    choose false same some = absurd (false≢true some)

pub among_is : (id other : VisitId) → is_among (id ∷ []) other ≡ true → (other.0 == id.0) ≡ true
among_is id other is = one_among id.0 other.0 is

bit_if : (b : Bool) → bit b ≡ (if b then 1 else 0)
unfolding bit
bit_if true = refl
bit_if false = refl

abbrev count_if : VisitId → (Visit → Bool) → Visit → List Visit → Bool → ℕ
count_if id p v vs b =
    count_by p (map (visit_left (id ∷ [])) (if not b then v ∷ staying (id ∷ []) vs else staying (id ∷ []) vs))

-- the count of all is that of those that are left and of the one
count_gone : (id : VisitId) (p q : Visit → Bool) (vs : List Visit) (gone : Visit) → Differ vs
    → find (λ (v : Visit). v.id.0 == id.0) vs ≡ Some gone → ((v : Visit) → p (visit_left (id ∷ []) v) ≡ q v)
    → count_by q vs ≡ count_by p (visits_left (id ∷ []) vs) + bit (q gone)
count_gone id p q [] gone differ found alike = absurd (cc)
count_gone id p q (v ∷ vs) gone differ found alike =
    count_cons q v vs ∙ choose (v.id.0 == id.0) refl found (λ at. count_gone id p q vs gone differ.1 at alike)
  where
    choose : (b : Bool) → (v.id.0 == id.0) ≡ b
        → (if b then Some v else find (λ (w : Visit). w.id.0 == id.0) vs) ≡ Some gone
        → (find (λ (w : Visit). w.id.0 == id.0) vs ≡ Some gone
        → count_by q vs ≡ count_by p (visits_left (id ∷ []) vs) + bit (q gone))
        → bit (q v) + count_by q vs ≡ count_if id p v vs (is_among (id ∷ []) v.id) + bit (q gone)
    choose true is at rest =
        let same : v ≡ gone = cc in
        let others : count_by p (visits_left (id ∷ []) vs) ≡ count_by q vs =
        count_left (id ∷ []) p q vs
        (weaker (λ (w : Visit). w.id.0 ≢ v.id.0) (Keeps (id ∷ []) p q) vs
        (λ w other. (
          λ among. absurd (other (eqb-true w.id.0 id.0 (among_is id w.id among)
              ∙ sym (eqb-true v.id.0 id.0 is))),
          alike w,
        )) differ.0) in
        let here : count_if id p v vs (is_among (id ∷ []) v.id) ≡ count_by p (visits_left (id ∷ []) vs) =
        ap (count_if id p v vs) (among_one id v.id true is) in
        omega (arith, here, others, ap (λ (w : Visit). bit (q w)) same)
    choose false is at rest =
        let more : count_if id p v vs (is_among (id ∷ []) v.id) ≡ bit (p (visit_left (id ∷ []) v))
        + count_by p (visits_left (id ∷ []) vs) =
        ap (count_if id p v vs) (among_one id v.id false is)
        ∙ count_cons p (visit_left (id ∷ []) v) (visits_left (id ∷ []) vs) in
        omega (arith, more, ap bit (alike v), rest at)

pub count_one_fewer : (id : VisitId) (p q : Visit → Bool) (vs : List Visit) (gone : Visit) → Differ vs
    → find (λ (v : Visit). v.id.0 == id.0) vs ≡ Some gone → ((v : Visit) → p (visit_left (id ∷ []) v) ≡ q v)
    → count_by q vs ≡ count_by p (visits_left (id ∷ []) vs) + (if q gone then 1 else 0)
count_one_fewer id p q vs gone differ found alike =
    count_gone id p q vs gone differ found alike
    ∙ ap (λ (n : ℕ). count_by p (visits_left (id ∷ []) vs) + n) (bit_if (q gone))

-- ---- one after another

among_append : (gone : List VisitId) (id other : VisitId)
    → is_among (gone ++ id ∷ []) other ≡ (is_among gone other || is_among (id ∷ []) other)
among_append gone id other = list_any-append (λ (i : VisitId). i.0 == other.0) gone (id ∷ [])

source_twice : (gone : List VisitId) (id : VisitId) (source : Option VisitId)
    → source_left (id ∷ []) (source_left gone source) ≡ source_left (gone ++ id ∷ []) source
source_twice gone id None = refl
source_twice gone id (Some s) =
    choose (is_among gone s)
    ∙ sym (ap (λ (b : Bool). if b then None else Some s) (among_append gone id s))
  where
    choose : (b : Bool) → source_left (id ∷ []) (if b then None else Some s)
        ≡ (if b || is_among (id ∷ []) s then None else Some s)
    choose true = refl
    choose false = refl

pub left_twice : (gone : List VisitId) (id : VisitId) (vs : List Visit)
    → visits_left (id ∷ []) (visits_left gone vs) ≡ visits_left (gone ++ id ∷ []) vs
left_twice gone id [] = refl
left_twice gone id (v ∷ vs) =
    choose (is_among gone v.id) (left_twice gone id vs)
    ∙ sym (ap (λ (b : Bool). map (visit_left both) (if not b then v ∷ staying both vs else staying both vs))
    (among_append gone id v.id))
  where
    both : List VisitId
    both = gone ++ id ∷ []

    last : (b : Bool) → visits_left (id ∷ []) (visits_left gone vs) ≡ visits_left (gone ++ id ∷ []) vs
        → map (visit_left (id ∷ [])) (if not b then visit_left gone v ∷ staying (id ∷ []) (visits_left gone vs)
        else staying (id ∷ []) (visits_left gone vs))
        ≡ map (visit_left (gone ++ id ∷ [])) (if not b then v ∷ staying (gone ++ id ∷ []) vs
        else staying (gone ++ id ∷ []) vs)
    last true rest = rest
    last false rest =
        ap (λ (ws : List Visit). visit_left (id ∷ []) (visit_left gone v) ∷ ws) rest
        ∙ ap (λ (s : Option VisitId). record v { source = s } ∷ visits_left (gone ++ id ∷ []) vs)
        (source_twice gone id v.source)

    choose : (b : Bool) → visits_left (id ∷ []) (visits_left gone vs) ≡ visits_left (gone ++ id ∷ []) vs
        → visits_left (id ∷ []) (map (visit_left gone) (if not b then v ∷ staying gone vs else staying gone vs))
        ≡ map (visit_left (gone ++ id ∷ [])) (if not (b || is_among (id ∷ []) v.id)
        then v ∷ staying (gone ++ id ∷ []) vs else staying (gone ++ id ∷ []) vs)
    choose true rest = rest
    choose false rest = last (is_among (id ∷ []) v.id) rest

-- ---- none, and how many

source_none : (source : Option VisitId) → source_left [] source ≡ source
source_none None = refl
source_none (Some id) = refl

pub left_none : (vs : List Visit) → visits_left [] vs ≡ vs
left_none [] = refl
left_none (v ∷ vs) =
    ap (λ (s : Option VisitId). record v { source = s } ∷ visits_left [] vs) (source_none v.source)
    ∙ ap (λ (ws : List Visit). v ∷ ws) (left_none vs)

all_counted : (vs : List Visit) → count_by (λ (v : Visit). true) vs ≡ length vs
unfolding bit
all_counted [] = refl
all_counted (v ∷ vs) =
    let more : count_by (λ (w : Visit). true) (v ∷ vs) ≡ 1 + count_by (λ (w : Visit). true) vs =
    count_cons (λ (w : Visit). true) v vs in
    omega (arith, more, all_counted vs)

pub one_fewer : (id : VisitId) (vs : List Visit) → Differ vs → list_any (λ (v : Visit). v.id.0 == id.0) vs ≡ true
    → length vs ≡ length (visits_left (id ∷ []) vs) + 1
one_fewer id vs differ there =
    choose (find (λ (v : Visit). v.id.0 == id.0) vs) refl (found_in (λ (v : Visit). v.id.0 == id.0) vs there)
  where
    choose : (o : Option Visit) → find (λ (v : Visit). v.id.0 == id.0) vs ≡ o → IsSome o
        → length vs ≡ length (visits_left (id ∷ []) vs) + 1
    choose None at some = absurd (false≢true some)
    choose (Some gone) at some =
        sym (all_counted vs)
        ∙ count_one_fewer id (λ (v : Visit). true) (λ (v : Visit). true) vs gone differ at (λ v. refl)
        ∙ ap (λ (n : ℕ). n + 1) (all_counted (visits_left (id ∷ []) vs))
