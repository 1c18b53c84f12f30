-- When a host ends with a full stop and the domain.
use Rattle.std.proofs.Common.{Decides, ◌≡◌, ◌≢◌, ◌∙◌, ◌++◌, ◌-◌, ℕ, false, nat_eq, List, [], ◌∷◌}
use Rattle.std.proofs.Common.{ap, append_assoc, length, sym, take}
use Rattle.std.specs.List.{ends_with}
use Rattle.std.proofs.lemmas.Bool.{false_from_ne_true}
use Rattle.std.proofs.lemmas.Bool.Decides.{Decides-eqb, same_from_decides}
use Rattle.std.proofs.lemmas.List.{append_cancel_right}
use Rattle.std.proofs.lemmas.Slice.Eq.{ends_is}
use Rattle.std.proofs.Common.{refl}

-- the host ends with a full stop and the domain
abbrev IsBelow : List ℕ → List ℕ → Type 0
IsBelow domain host = (front : List ℕ) × (host ≡ front ++ 46 ∷ domain)

below_decides : (domain host : List ℕ) → Decides (ends_with nat_eq host (46 ∷ domain)) (IsBelow domain host)
below_decides domain host =
    let both = ends_is Decides-eqb host (46 ∷ domain) (ends_with nat_eq host (46 ∷ domain)) refl in
    (λ ends. (take (length host - length (46 ∷ domain)) host, both.0 ends), λ w. both.1 w.0 w.1)

stop_decides : (domain front : List ℕ) → Decides (ends_with nat_eq front (46 ∷ [])) (IsBelow domain (front ++ domain))
stop_decides domain front =
    let stop : Decides (ends_with nat_eq front (46 ∷ [])) (IsBelow [] front) = below_decides [] front in (
      λ ends.
          let w : IsBelow [] front = stop.0 ends in
          (w.0, ap (λ (s : List ℕ). s ++ domain) w.1 ∙ append_assoc w.0 (46 ∷ []) domain),
      λ w.
          stop.1 (
            w.0,
            append_cancel_right front (w.0 ++ 46 ∷ []) domain (w.1 ∙ sym (append_assoc w.0 (46 ∷ []) domain)),
          ),
    )

-- what stands in front of the domain ends with a full stop
pub stop_before : (domain host front : List ℕ) → host ≡ front ++ domain
    → ends_with nat_eq front (46 ∷ []) ≡ ends_with nat_eq host (46 ∷ domain)
stop_before domain host front whole =
    same_from_decides (ends_with nat_eq front (46 ∷ [])) (ends_with nat_eq (front ++ domain) (46 ∷ domain))
    (stop_decides domain front) (below_decides domain (front ++ domain))
    ∙ ap (λ (s : List ℕ). ends_with nat_eq s (46 ∷ domain)) (sym whole)

-- or the host does not end with the domain
pub none_before : (domain host : List ℕ) → ((front : List ℕ) → host ≢ front ++ domain)
    → false ≡ ends_with nat_eq host (46 ∷ domain)
none_before domain host none =
    sym (false_from_ne_true (ends_with nat_eq host (46 ∷ domain))
    (λ ends.
    let w : IsBelow domain host = (below_decides domain host).0 ends in
    none (w.0 ++ 46 ∷ []) (w.1 ∙ sym (append_assoc w.0 (46 ∷ []) domain))))
