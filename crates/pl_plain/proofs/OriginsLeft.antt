-- How many origins URLs have without one of them.
use Rattle.std.proofs.Common.{◌≡◌, ◌+◌, ◌||◌, ◌++◌, ◌∙◌, ℕ, Bool, true, false, List, [], ◌∷◌, ap, append_assoc}
use Rattle.std.proofs.Common.{arith, if◌then◌else◌, refl, sym}
use Rattle.std.specs.List.{list_any}
use Rattle.std.proofs.lemmas.Bool.{false≢true}
use Rattle.std.proofs.lemmas.List.Folds.{Any-from_list_any, list_any-append, list_any-from_Any}
use Rattle.pl_base.specs.Address.{same_origin}
use Rattle.pl_base.specs.Live.{new_origins, origin_count}
use Rattle.pl_base.proofs.OriginLaws.{new_origins-append, same_origin-sym, same_origin-trans}
use Rattle.pl_base.proofs.Truths.{same_tests}
use Rattle.pl_base.proofs.Truths.{or_same}

-- two lists have the same origins
abbrev SameOrigins : List (List ℕ) → List (List ℕ) → Type 0
SameOrigins s t = (url : List ℕ) → list_any (same_origin url) s ≡ list_any (same_origin url) t

one_more : (s t : List (List ℕ)) (u : List ℕ) → SameOrigins s t → SameOrigins (s ++ u ∷ []) (t ++ u ∷ [])
one_more s t u same url =
    list_any-append (same_origin url) s (u ∷ [])
    ∙ ap (λ b. b || list_any (same_origin url) (u ∷ [])) (same url)
    ∙ sym (list_any-append (same_origin url) t (u ∷ []))

new_by_origins : (s t urls : List (List ℕ)) → SameOrigins s t → new_origins s urls ≡ new_origins t urls
new_by_origins s t [] same = refl
new_by_origins s t (u ∷ urls) same =
    rw (same u, new_by_origins (s ++ u ∷ []) (t ++ u ∷ []) urls (one_more s t u same)) refl

-- URLs of one origin have the same as any other
alike : (a b url : List ℕ) → same_origin a b ≡ true → same_origin url a ≡ same_origin url b
alike a b url same =
    same_tests (same_origin url a) (same_origin url b)
    (λ to_a. same_origin-trans url a b to_a same)
    (λ to_b. same_origin-trans url b a to_b (same_origin-sym a b same))

alike_first : (a b url : List ℕ) → same_origin a b ≡ true → same_origin a url ≡ same_origin b url
alike_first a b url same =
    same_tests (same_origin a url) (same_origin b url)
    (λ to. same_origin-trans b a url (same_origin-sym a b same) to)
    (λ to. same_origin-trans a b url same to)

-- a URL whose origin is there brings none
nothing_more : (s : List (List ℕ)) (u : List ℕ) → list_any (same_origin u) s ≡ true → SameOrigins (s ++ u ∷ []) s
nothing_more s u there url =
    list_any-append (same_origin url) s (u ∷ [])
    ∙ or_same (list_any (same_origin url) s) (same_origin url u || false)
    (λ last.
    let own : same_origin url u ≡ true = last_of (same_origin url u) last in
    let at = Any-from_list_any (same_origin u) s there in
    list_any-from_Any (same_origin url) s (at.0, at.1, at.2, at.3, same_origin-trans url u at.1 own at.4))
  where
    last_of : (b : Bool) → (b || false) ≡ true → b ≡ true
    last_of true is = refl
    last_of false is = is

-- what a URL makes known, unless it was known, is not new behind it
abbrev pub is_new : Bool → ℕ
is_new known = if known then 0 else 1

swapped : (s : List (List ℕ)) (a b : List ℕ) → SameOrigins ((s ++ a ∷ []) ++ b ∷ []) ((s ++ b ∷ []) ++ a ∷ [])
swapped s a b url =
    both s a b
    ∙ ap (λ x. list_any (same_origin url) s || x) (or_turned (same_origin url a) (same_origin url b))
    ∙ sym (both s b a)
  where
    or_turned : (x y : Bool) → (x || (y || false)) ≡ (y || (x || false))
    or_turned true true = refl
    or_turned true false = refl
    or_turned false true = refl
    or_turned false false = refl

    both : (t : List (List ℕ)) (x y : List ℕ) → list_any (same_origin url) ((t ++ x ∷ []) ++ y ∷ [])
        ≡ (list_any (same_origin url) t || (same_origin url x || (same_origin url y || false)))
    both t x y =
        ap (list_any (same_origin url)) (append_assoc t (x ∷ []) (y ∷ []))
        ∙ list_any-append (same_origin url) t (x ∷ y ∷ [])

-- without a URL whose origin was not known, one of that origin behind it is new
new_without : (s urls : List (List ℕ)) (u : List ℕ) → same_origin u u ≡ true → list_any (same_origin u) s ≡ false
    → new_origins s urls + is_new (list_any (same_origin u) urls) ≡ 1 + new_origins (s ++ u ∷ []) urls
new_without s [] u own none = refl
new_without s (y ∷ ys) u own none =
    choose (same_origin u y) refl (λ unknown. new_without (s ++ y ∷ []) ys u own unknown)
  where
    to_u : same_origin u y ≡ true → list_any (same_origin y) s ≡ false
    to_u same = sym (any_alike s) ∙ none
      where
        any_alike : (t : List (List ℕ)) → list_any (same_origin u) t ≡ list_any (same_origin y) t
        any_alike [] = refl
        any_alike (x ∷ xs) = rw (alike_first u y x same, any_alike xs) refl

    choose : (b : Bool) → same_origin u y ≡ b
        → (list_any (same_origin u) (s ++ y ∷ []) ≡ false
        → new_origins (s ++ y ∷ []) ys + is_new (list_any (same_origin u) ys)
        ≡ 1 + new_origins ((s ++ y ∷ []) ++ u ∷ []) ys)
        → is_new (list_any (same_origin y) s) + new_origins (s ++ y ∷ []) ys
        + is_new (b || list_any (same_origin u) ys)
        ≡ 1 + (is_new (list_any (same_origin y) (s ++ u ∷ [])) + new_origins ((s ++ u ∷ []) ++ y ∷ []) ys)
    choose true same rest =
        let known : list_any (same_origin y) (s ++ u ∷ []) ≡ true =
        list_any-append (same_origin y) s (u ∷ [])
        ∙ rw (to_u same, same_origin-sym u y same) refl in
        let there : list_any (same_origin y) (s ++ u ∷ []) ≡ true = known in
        let more : new_origins ((s ++ u ∷ []) ++ y ∷ []) ys ≡ new_origins (s ++ y ∷ []) ys =
        new_by_origins ((s ++ u ∷ []) ++ y ∷ []) ((s ++ y ∷ []) ++ u ∷ []) ys (swapped s u y)
        ∙ new_by_origins ((s ++ y ∷ []) ++ u ∷ []) (s ++ y ∷ []) ys
        (nothing_more (s ++ y ∷ []) u
        (list_any-append (same_origin u) s (y ∷ []) ∙ rw (none, same) refl)) in
        rw (to_u same, known, more) (omega arith)
    choose false other rest =
        let unknown : list_any (same_origin u) (s ++ y ∷ []) ≡ false =
        list_any-append (same_origin u) s (y ∷ []) ∙ rw (none, other) refl in
        let apart : same_origin y u ≡ false = never (same_origin y u) (same_origin u y) (same_origin-sym y u) other in
        let as_before : list_any (same_origin y) (s ++ u ∷ []) ≡ list_any (same_origin y) s =
        list_any-append (same_origin y) s (u ∷ [])
        ∙ ap (λ b. list_any (same_origin y) s || (b || false)) apart ∙ or_end (list_any (same_origin y) s) in
        omega (
          arith,
          rest unknown,
          new_by_origins ((s ++ y ∷ []) ++ u ∷ []) ((s ++ u ∷ []) ++ y ∷ []) ys (swapped s y u),
          ap is_new as_before,
        )
      where
        never : (a b : Bool) → (a ≡ true → b ≡ true) → b ≡ false → a ≡ false
        never true b so none = absurd (false≢true (sym none ∙ so refl))
        never false b so none = refl

        or_end : (b : Bool) → (b || false) ≡ b
        or_end true = refl
        or_end false = refl

-- the origins with a URL among others, and without it
pub origins_without : (front back : List (List ℕ)) (u : List ℕ) → same_origin u u ≡ true
    → origin_count (front ++ u ∷ back)
    ≡ origin_count (front ++ back) + is_new (list_any (same_origin u) (front ++ back))
origins_without front back u own = choose (list_any (same_origin u) front) refl
  where
    choose : (b : Bool) → list_any (same_origin u) front ≡ b → origin_count (front ++ u ∷ back)
        ≡ origin_count (front ++ back) + is_new (list_any (same_origin u) (front ++ back))
    choose true there =
        omega (
          arith,
          new_origins-append [] front (u ∷ back),
          new_origins-append [] front back,
          ap is_new there,
          new_by_origins (front ++ u ∷ []) front back (nothing_more front u there),
          ap is_new (list_any-append (same_origin u) front back
              ∙ ap (λ b. b || list_any (same_origin u) back) there),
        )
    choose false none =
        omega (
          arith,
          new_origins-append [] front (u ∷ back),
          new_origins-append [] front back,
          ap is_new none,
          new_without front back u own none,
          ap is_new (list_any-append (same_origin u) front back
              ∙ ap (λ b. b || list_any (same_origin u) back) none),
        )
