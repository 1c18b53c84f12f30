-- What is held of origins, once the maps have changed at one key.
use Rattle.std.proofs.Common.{◌≡◌, ◌∙◌, ◌↔◌, ◌&&◌, Bool, true, false, IsTrue, List, [], ◌∷◌, ℕ, Some, None}
use Rattle.std.proofs.Common.{Global, String}
use Rattle.std.proofs.Common.{ap, bytes_eq, if◌then◌else◌, refl, sym}
use Rattle.std.specs.BTreeMap.{BTreeMap, UpdatesBy}
use Rattle.std.specs.Cmp.Lexicographic.{slice_cmp}
use Rattle.std.specs.Ordering.{nat_cmp}
use Rattle.std.specs.String.{string_bytes, string_cmp}
use Rattle.std.proofs.lemmas.Bool.{false≢true}
use Rattle.std.proofs.lemmas.Slice.Eq.{bytes_eq-Decides}
use Rattle.pl_base.specs.Totals.{Origin, is_origin}
use Rattle.pl_totals.specs.Held.{Held, nothing, settled}
use Rattle.pl_totals.proofs.TextKeys.{if_twice, told, told_after}

settled_some : (h : Held) → (h.1 ≡ [] → ⊥) → settled h ≡ h
settled_some (total, []) some = absurd (some refl)
settled_some (total, page ∷ pages) some = refl

settled_none : (h : Held) → h.1 ≡ [] → settled h ≡ nothing
settled_none (total, []) none = refl
settled_none (total, page ∷ pages) none = absurd (cc)

-- by the test of a list of pages
pub stays : (h now : Held) (is_empty : Bool) → now ≡ h → (IsTrue is_empty ↔ (now.1 ≡ [])) → is_empty ≡ false
    → settled h ≡ now
stays h now is_empty same test some =
    settled_some h (λ none. false≢true (sym some ∙ test.1 (ap (λ (x : Held). x.1) same ∙ none))) ∙ sym same

pub goes : (h now : Held) (is_empty : Bool) → now ≡ h → (IsTrue is_empty ↔ (now.1 ≡ [])) → is_empty ≡ true
    → settled h ≡ nothing
goes h now is_empty same test none =
    settled_none h (sym (ap (λ (x : Held). x.1) same) ∙ test.0 none)

-- a key that was written and then removed
pub told_removed : {X Y : Type 0} (f : X → Y) (none : Y) (text : List ℕ) (m mid n : BTreeMap (String Global) X) (x : X)
    → UpdatesBy string_cmp (λ (k : String Global). slice_cmp nat_cmp text (string_bytes k)) m mid (Some x)
    → UpdatesBy string_cmp (λ (k : String Global). slice_cmp nat_cmp text (string_bytes k)) mid n None
    → (other : List ℕ) → told f none n other ≡ (if bytes_eq text other then none else told f none m other)
told_removed f none text m mid n x first second other =
    told_after f none text mid n None second other
    ∙ ap (λ y. if bytes_eq text other then none else y) (told_after f none text m mid (Some x) first other)
    ∙ if_twice (bytes_eq text other) none (f x) (told f none m other)

-- ---- of all origins

-- a key in each of two maps is an origin
pub two_keys : (old : Origin → Held) (prefix host : List ℕ) (h : Held) (other : Origin)
    → (if bytes_eq prefix other.0 then if bytes_eq host other.1 then h else old (prefix, other.1) else old other)
    ≡ (if is_origin (prefix, host) other then h else old other)
two_keys old prefix host h other = choose (bytes_eq prefix other.0) refl (bytes_eq host other.1)
  where
    choose : (a : Bool) → bytes_eq prefix other.0 ≡ a → (b : Bool)
        → (if a then if b then h else old (prefix, other.1) else old other) ≡ (if a && b then h else old other)
    choose true same true = refl
    choose true same false =
        ap (λ (x : List ℕ). old (x, other.1)) ((bytes_eq-Decides prefix other.0).0 same)
    choose false apart true = refl
    choose false apart false = refl
