-- What a change of one key makes of the look-ups in a map by texts.
use Rattle.std.proofs.Common.{◌≡◌, ◌∙◌, List, ℕ, Bool, true, false, Option, Some, None, Global, String, ap, bytes_eq}
use Rattle.std.proofs.Common.{if◌then◌else◌, refl, unwrap_or}
use Rattle.std.specs.BTreeMap.{BTreeMap, UpdatesBy, get_by_text}
use Rattle.std.specs.Cmp.Lexicographic.{slice_cmp}
use Rattle.std.specs.Option.{option_map}
use Rattle.std.specs.Ordering.{nat_cmp}
use Rattle.std.specs.String.{string_bytes, string_cmp}
use Rattle.std.proofs.lemmas.Map.Text.{btree_map_updates_text}

-- a test twice
pub if_twice : {A : Type 0} (b : Bool) (x y z : A) → (if b then x else if b then y else z) ≡ (if b then x else z)
if_twice true x y z = refl
if_twice false x y z = refl

-- what a map tells at a text, and this where it has nothing there
abbrev pub told : {X Y : Type 0} → (X → Y) → Y → BTreeMap (String Global) X → List ℕ → Y
told f none m text = unwrap_or (option_map f (get_by_text m text)) none

pub told_after : {X Y : Type 0} (f : X → Y) (none : Y) (text : List ℕ) (m n : BTreeMap (String Global) X)
    (w : Option X) → UpdatesBy string_cmp (λ (k : String Global). slice_cmp nat_cmp text (string_bytes k)) m n w
    → (other : List ℕ)
    → told f none n other ≡ (if bytes_eq text other then unwrap_or (option_map f w) none else told f none m other)
told_after {X} f none text m n w updates other =
    ap (λ (r : Option X). unwrap_or (option_map f r) none) (btree_map_updates_text text m n w updates other)
    ∙ choose (bytes_eq text other)
  where
    choose : (b : Bool) → unwrap_or (option_map f (if b then w else get_by_text m other)) none
        ≡ (if b then unwrap_or (option_map f w) none else told f none m other)
    choose true = refl
    choose false = refl

-- the same of numbers, where nothing is 0
pub number_after : (text : List ℕ) (m n : BTreeMap (String Global) ℕ) (w : Option ℕ)
    → UpdatesBy string_cmp (λ (k : String Global). slice_cmp nat_cmp text (string_bytes k)) m n w → (other : List ℕ)
    → unwrap_or (get_by_text n other) 0
    ≡ (if bytes_eq text other then unwrap_or w 0 else unwrap_or (get_by_text m other) 0)
number_after text m n w updates other =
    ap (λ (r : Option ℕ). unwrap_or r 0) (btree_map_updates_text text m n w updates other)
    ∙ choose (bytes_eq text other)
  where
    choose : (b : Bool) → unwrap_or (if b then w else get_by_text m other) 0
        ≡ (if b then unwrap_or w 0 else unwrap_or (get_by_text m other) 0)
    choose true = refl
    choose false = refl

-- a number that was written and then removed
pub number_removed : (text : List ℕ) (m mid n : BTreeMap (String Global) ℕ) (x : ℕ)
    → UpdatesBy string_cmp (λ (k : String Global). slice_cmp nat_cmp text (string_bytes k)) m mid (Some x)
    → UpdatesBy string_cmp (λ (k : String Global). slice_cmp nat_cmp text (string_bytes k)) mid n None
    → (other : List ℕ)
    → unwrap_or (get_by_text n other) 0 ≡ (if bytes_eq text other then 0 else unwrap_or (get_by_text m other) 0)
number_removed text m mid n x first second other =
    number_after text mid n None second other
    ∙ ap (λ y. if bytes_eq text other then 0 else y) (number_after text m mid (Some x) first other)
    ∙ if_twice (bytes_eq text other) 0 x (unwrap_or (get_by_text m other) 0)
